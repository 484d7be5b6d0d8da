-- The words that the lines of pulses begin with.
use Rattle.std.specs.Prelude.{◌≡◌, ℕ, ◌+◌, ◌≤◌, List, [], ◌∷◌, codes, length, take}
use Rattle.plan_types.specs.declared.machine.Machine.{Machine}
use Rattle.plan_types.specs.Machines.{board_at, stepper_at}
use Rattle.report_text.specs.declared.printer.Head.{Head}
use Rattle.report_text.specs.Pieces.{joined}

-- the words in front of the tick, in the lines of a stepper's pulses on a board
abbrev pub head_text : Machine → ℕ → ℕ → List ℕ
head_text m board stepper =
    joined (codes "pulse " ∷ (board_at m board).name ∷ codes " " ∷ (stepper_at m stepper).name ∷ codes " " ∷ [])

-- the words of a stepper's pulses on some board, with room for a tick and the end of the line behind them
pub record IsHead (m : Machine) (s : ℕ) (h : Head) : Type 0 where
  pub words : take h.size h.words ≡ head_text m h.board s
  pub short : h.size ≤ 40
  pub room : length h.words ≡ 64

-- the words of a machine's steppers, from one on, each on some board
abbrev pub AreHeads : Machine → ℕ → List Head → Type 0
AreHeads m s [] = Unit {0}
AreHeads m s (h ∷ hs) = IsHead m s h × AreHeads m (s + 1) hs

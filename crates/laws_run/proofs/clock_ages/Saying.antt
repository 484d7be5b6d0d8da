-- What the words of a run tell of the clock of a board that drifts.
use Rattle.std.specs.Prelude.{◌≡◌, ◌⊎◌, ℕ, ◌+◌, ◌*◌, ◌^◌, ◌<◌, ◌≤◌, List, [], ◌∷◌, length, None}
use Rattle.laws_board.proofs.Names.{BoardClock, Machine, Line, clock_of, turn_ns, board_at, WordMsg}
use Rattle.motion_work.specs.Further.{WasHeard}
use Rattle.motion_work.specs.Told.{lines_in, told_of}
use Rattle.laws_board.specs.turns.Turns.{BoardTurn}
use Rattle.laws_board.specs.clocks.Samples.{IsSampled}

-- a word tells a further clock line of a board
abbrev pub TellsLine : ℕ → WordMsg → Type 0
TellsLine b w = (line : Line) × WasHeard b line (lines_in w.news)

-- one of some words, of which this is the first one's number, tells a further line of a board: one from a number on and before another
abbrev pub TellsIn : ℕ → ℕ → ℕ → ℕ → List WordMsg → Type 0
TellsIn b from to j [] = ⊥
TellsIn b from to j (w ∷ ws) = ((from ≤ j) × (j < to) × TellsLine b w) ⊎ TellsIn b from to (j + 1) ws

-- a line that the word of one of a board's turns tells is that of a sample of its clock, which was sent four turns before at most
pub record IsNew (clock : BoardClock) (turns : List BoardTurn) (j : ℕ) (line : Line) : Type 0 where
  pub told : j < length turns
  pub sampled : IsSampled clock turns line
  pub before : line.at ≤ j * turn_ns
  pub fresh : j * turn_ns ≤ line.at + 4 * turn_ns

-- so each further line of a board that some words tell, of which this is the first one's number
abbrev pub TellNew : BoardClock → List BoardTurn → ℕ → ℕ → List WordMsg → Type 0
TellNew clock turns b j [] = Unit {0}
TellNew clock turns b j (w ∷ ws) = ((line : Line) → WasHeard b line (lines_in w.news) → IsNew clock turns j line) × TellNew clock turns b (j + 1) ws

-- none of some words, of which this is the first one's number, tells first clock lines, unless it has this number
abbrev pub TellFirst : Machine → ℕ → ℕ → List WordMsg → Type 0
TellFirst m ended j [] = Unit {0}
TellFirst m ended j (w ∷ ws) = ((told_of m w ≡ None) ⊎ (j ≡ ended)) × TellFirst m ended (j + 1) ws

-- What the words of a run tell of a board's clock, which ran on up to a turn: connecting ended in one of the first 2,200 turns, and this first line
-- of the board, which was told then, is that of a sample of its clock. Behind it one of any 2,200 words in a row tells a further line of the
-- board, and each of these is that of a new sample.
pub record TellsAgain (m : Machine) (b ended running : ℕ) (turns : List BoardTurn) (ws : List WordMsg) (first : Line) : Type 0 where
  pub soon : ended < 2_200
  pub alone : TellFirst m ended 0 ws
  pub first_sampled : IsSampled (clock_of (board_at m b)) turns first
  pub first_early : first.at ≤ ended * turn_ns
  pub lines : TellNew (clock_of (board_at m b)) turns b 0 ws
  pub again : (from : ℕ) → ended < from → from + 2_200 ≤ running → TellsIn b from (from + 2_200) 0 ws
  pub long : length turns ≤ running + 3
  pub few : length turns ≤ 2 ^ 43

-- A reactor turn by turn, with what its thread reaches outside.
use Rattle.std.specs.Prelude.{◌≡◌, ◌⊎◌, ℕ, ◌+◌, ◌<◌, Bool, true, false, Option, Some, None, Result, Ok, Err, List, [], ◌∷◌, length}
use Rattle.plan_types.specs.declared.cause.Cause.{Cause}
use Rattle.plan_types.specs.declared.cause.Cause.TheVariants as cause
use Rattle.session_work.specs.declared.machines.ReactorMachine.{Ghosts as Reactor}
use Rattle.session_work.specs.declared.machines.Outside.{Ghosts as Out}
use Rattle.msg_code.specs.declared.unit.Control.{Control}
use Rattle.msg_code.specs.declared.talk.State.{State}
use Rattle.msg_code.specs.declared.talk.WordMsg.{WordMsg}
use Rattle.msg_code.specs.declared.talk.Note.{Note}
use Rattle.msg_code.specs.declared.talk.Piece.{Piece}
use Rattle.report_text.specs.declared.line.ReportLine.{ReportLine}
use Rattle.session_work.specs.declared.head.Head.{Head}
use Rattle.session_work.specs.declared.table.ReactorTurn.{ReactorTurn}
use Rattle.session_work.specs.Bares.{bare_control, bare_word, stop_piece}
use Rattle.session_work.specs.Rows.{copies}
use Rattle.session_work.specs.Turns.{Goes}

-- What turn k begins with: nothing in turn 0, later a state of each of n boards and a note.
abbrev pub IsRow : ℕ → ℕ → List State → Option Note → Type 0
IsRow n k states note =
    ((k ≡ 0) × (states ≡ []) × (note ≡ None)) ⊎ ((0 < k) × (length states ≡ n) × ((x : Note) × (note ≡ Some x)))

module _ {A O : Type 0} where
  -- the lines went out, or the machine was told that they didn't
  abbrev pub Wrote : (A → Cause → A → Type 0) → (O → List ReportLine → O → Bool → Type 0) → Head A O → List ReportLine →
      Head A O → Type 0
  Wrote stops writes x lines y =
      (y.stopped ≡ x.stopped)
      × ((writes x.outside lines y.outside true × (y.machine ≡ x.machine))
      ⊎ (writes x.outside lines y.outside false × stops x.machine cause.WriteFault y.machine))

  -- in turn k a piece of the file, or the machine was told why there is none
  abbrev pub ServeStep : (A → Cause → A → Type 0) → (O → ℕ → Result Piece Cause → O → Type 0) → ℕ → Head A O → Piece →
      Head A O → Type 0
  ServeStep stops serves k x p y =
      (serves x.outside p.number (Ok p) y.outside × (p.turn ≡ k) × (y.machine ≡ x.machine) × (y.stopped ≡ x.stopped))
      ⊎ ((c : Cause) × serves x.outside p.number (Err c) y.outside × stops x.machine c y.machine × (y.stopped ≡ true)
      × (p ≡ stop_piece k p.number))

  module _ (a : Reactor A) (o : Out O) where
    -- What is put and written in turn k for n boards: what the machine orders, or, where memory was wanted,
    -- the end alone.
    abbrev pub Ordering : ℕ → ℕ → Head A O → ReactorTurn → Head A O → Type 0
    Ordering n k x t y =
        (length t.controls ≡ n)
        × ((IsRow n k t.states t.note
        × ((m : A) × a.turns x.machine k t.states t.note t.controls t.word t.lines t.end m
        × Wrote a.stops o.writes (record { machine = m; outside = x.outside; stopped = x.stopped }) t.lines y
        × (t.end ≡ Some cause.Memory → ⊥)))
        ⊎ ((t.controls ≡ copies n (bare_control k true)) × (t.word ≡ bare_word k true) × (t.lines ≡ [])
        × (t.end ≡ Some cause.Memory) × (y.outside ≡ x.outside) × (y.stopped ≡ x.stopped)))

    -- the pieces read behind word k; behind the last one a piece that says that nothing comes
    abbrev pub Served : ℕ → Head A O → Option Cause → List Piece → Head A O → Type 0
    Served k x None ps y = Goes (λ _. ServeStep a.stops o.serves k) 0 x ps y
    Served k x (Some c) ps y = ((n : ℕ) × (ps ≡ stop_piece k n ∷ [])) × (x ≡ y)

    -- turn k
    abbrev pub ReactorStep : ℕ → ℕ → Head A O → ReactorTurn → Head A O → Type 0
    ReactorStep n k x t y = (b : Head A O) × Ordering n k x t b × Served k b t.end t.pieces y

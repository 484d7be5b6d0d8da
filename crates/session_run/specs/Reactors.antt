-- The reactor in a turn of a run.
use Rattle.std.specs.Prelude.{◌≡◌, ◌⊎◌, ℕ, ◌+◌, ◌^◌, ◌<◌, ◌≤◌, List, Option}
use Rattle.msg_code.specs.declared.talk.Note.{Note}
use Rattle.msg_code.specs.declared.talk.State.{State}
use Rattle.msg_code.specs.declared.talk.WordMsg.{WordMsg}
use Rattle.msg_code.specs.declared.unit.Control.{Control}
use Rattle.plan_types.specs.declared.cause.Cause.{Cause}
use Rattle.report_text.specs.declared.line.ReportLine.{ReportLine}
use Rattle.host_reactor.specs.Free.{free_turns}
use Rattle.host_reactor.specs.Reactor.{Run, Reacted, reacts, stopped_by}
use Rattle.host_reactor.specs.Rows.{HasEachBoard}

-- a turn is a reactor's next one, there are not too many, and the reactor has what it needs for each board
abbrev pub CanTurnReactor : Run → ℕ → Type 0
CanTurnReactor x k = (k ≡ x.next) × (k < 2 ^ 59) × HasEachBoard x.machine x.known

-- what a turn makes of a reactor, and what it gives
abbrev pub reacted : Run → ℕ → List State → Option Note → Reacted
reacted x k states note = reacts x.machine x.switches x.known k states note

-- a turn of a reactor: what it orders is what its function gives for the states and the note
pub record TurnsReactor (x : Run) (k : ℕ) (states : List State) (note : Option Note) (controls : List Control)
    (word : WordMsg)
    (lines : List ReportLine) (end : Option Cause) (y : Run) : Type 0 where
  pub controls_are : controls ≡ (reacted x k states note).ordered.controls
  pub word_is : word ≡ (reacted x k states note).ordered.word
  pub lines_are : lines ≡ (reacted x k states note).ordered.lines
  pub end_is : end ≡ (reacted x k states note).ordered.end
  pub becomes : y
      ≡ record { machine = x.machine; switches = x.switches; known = (reacted x k states note).known; next = k + 1 }

-- a reactor is to end the run for a cause
abbrev pub Stops : Run → Cause → Run → Type 0
Stops x cause y = y ≡ record x { known = stopped_by cause x.known }

-- a reactor has nothing to order in so many turns from this one on, its next, unless the run ends: no asking
-- is out or falls due, no homing section gets its first controls, and no note begins or ends a section
abbrev pub IsFree : Run → ℕ → ℕ → Type 0
IsFree x k n = (n ≡ 0) ⊎ ((k ≡ x.next) × (n ≤ free_turns x.machine x.known k))

-- How a turn of the reactor ends a run.
use Rattle.std.specs.Prelude.{◌≡◌, ◌<◌, ◌≤◌, ◌+◌, ◌⊎◌, ℕ, true, All, List, [], ◌∷◌, nat_lt, if◌then◌else◌, Some, None, length}
use Rattle.gcode_program.specs.Programs.{program_end, program_sections}
use Rattle.plan_types.specs.declared.cause.Cause.{Cause}
use Rattle.plan_types.specs.declared.cause.Cause.TheVariants as cause
use Rattle.plan_types.specs.declared.machine.Machine.{Machine}
use Rattle.plan_types.specs.declared.plan.ReadStop.{ReadStop}
use Rattle.plan_types.specs.declared.plan.ReadStop.TheVariants as read
use Rattle.msg_code.specs.declared.talk.State.{State}
use Rattle.axis_homing.specs.Homing.{homing_turn}
use Rattle.board_asking.specs.Connecting.{giving_up, listen_all, ready_all}
use Rattle.board_asking.specs.Drift.{stale}
use Rattle.host_reactor.specs.declared.ordered.Known.{Known}
use Rattle.host_reactor.specs.declared.ordered.Phase.TheVariants.{Connecting, Running, Stopping}
use Rattle.host_reactor.specs.declared.ordered.Reading.{Reading}
use Rattle.host_reactor.specs.Notes.{noted}
use Rattle.host_reactor.specs.Runs.{Came, known_by}
use Rattle.wire_scene.specs.declared.scene.Switch.{Switch}
use Rattle.host_reactor.specs.Running.{all_ended, all_idle, late, stop_of}
use Rattle.motion_work.specs.Seen.{AreOut, Started}

-- how many of some sections end before a turn
abbrev pub ended_by : ℕ → List Started → ℕ
ended_by k [] = 0
ended_by k (s ∷ ss) = (if nat_lt s.end k then 1 else 0) + ended_by k ss

-- how a text was read
abbrev pub reading_of : Machine → List ℕ → Reading
reading_of m text = record { end = program_end m text; sections = length (program_sections m text) }

-- What a reactor knows of some sections behind the notes of the turns before one: no more have ended than
-- did, the last end is not before theirs, and how the text was read is what it was told, if anything: and
-- that only behind a turn by which all sections of the text ended and all their units were put.
pub record Counts (m : Machine) (text : List ℕ) (ss : List Started) (k : ℕ) (r : Known) : Type 0 where
  pub few : r.done ≤ ended_by k ss
  pub behind : All (λ s. s.end < k → s.end ≤ r.ended) ss
  pub reading : (r.reading ≡ None) ⊎ (r.reading ≡ Some (reading_of m text))
  pub out : (r.reading ≡ None) ⊎ ((j : ℕ) × (j < k) × AreOut (length m.boards) j (length (program_sections m text)) ss)

-- every section ended, the last one five turns ago, and every link is idle
pub record IsThrough (r : Known) (k : ℕ) (states : List State) : Type 0 where
  pub ended : all_ended r.done r.reading ≡ true
  pub behind : r.ended + 5 ≤ k
  pub idle : all_idle states ≡ true

-- the run went through to the end of what was read, and no board was late
pub record WentThrough (r : Known) (k : ℕ) (states : List State) (stop : ReadStop) : Type 0 where
  pub running : r.phase ≡ Running
  pub through : IsThrough r k states
  pub stops : stop_of r.reading ≡ stop
  pub none_late : late 0 states ≡ None

-- Why a turn ends a run, of which this was known behind its note: for each cause what it needs.
abbrev pub EndsSo : Machine → Known → ℕ → List State → Cause → Type 0
EndsSo m r k states cause.Done = WentThrough r k states read.End
EndsSo m r k states (cause.Line line kind) = WentThrough r k states (read.Refused line kind)
EndsSo m r k states (cause.Asked line) = (r.phase ≡ Stopping line) × (late 0 states ≡ None)
EndsSo m r k states (cause.Late board first arrival spoiled spill) =
    late 0 states ≡ Some (cause.Late board first arrival spoiled spill)
EndsSo m r k states (cause.Connect board turn) =
    (r.phase ≡ Connecting)
    × (giving_up k 0 (ready_all m 0 (listen_all r.askings.items states)) ≡ Some (cause.Connect board turn))
EndsSo m r k states (cause.Stale board turn) =
    (r.phase ≡ Connecting → ⊥) × (stale k 0 (listen_all r.askings.items states) ≡ Some (cause.Stale board turn))
EndsSo m r k states c = (r.phase ≡ Running) × ((homing_turn r.clocks k states r.homing).end ≡ Some c)

-- the order of the causes that are so in one turn: want of memory, a file or an output that failed, a late
-- board, one that gives no answer, homing, and the text's end
abbrev pub order : Cause → ℕ
order cause.Memory = 0
order cause.ReadFault = 1
order cause.WriteFault = 1
order (cause.Late board first arrival spoiled spill) = 2
order (cause.Connect board turn) = 3
order (cause.Stale board turn) = 3
order (cause.NoSwitch section) = 4
order (cause.Expired board turn) = 4
order c = 5

-- no board homes behind any of the notes that came, of which the latest stands first
abbrev pub NoneHomes : Machine → List Switch → List Came → Type 0
NoneHomes m switches [] = Unit {0}
NoneHomes m switches (c ∷ before) =
    ((noted m c.note (known_by m switches before)).homing ≡ None) × NoneHomes m switches before

-- the causes of a run that went through: to the text's end, to a line that was refused, or to a stop that was asked for
abbrev pub GoesThrough : Cause → Type 0
GoesThrough cause.Done = Unit {0}
GoesThrough (cause.Line line kind) = Unit {0}
GoesThrough (cause.Asked line) = Unit {0}
GoesThrough _ = ⊥

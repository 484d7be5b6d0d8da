-- What the lines of a report say of the sections of a run.
use Rattle.std.specs.Prelude.{◌≡◌, ℕ, ◌+◌, ◌==◌, List, [], ◌∷◌, ◌++◌, length, Some, None, if◌then◌else◌}
use Rattle.std.specs.List.{flat_map}
use Rattle.plan_types.specs.declared.machine.Machine.{Machine}
use Rattle.plan_types.specs.declared.plan.Held.{Held}
use Rattle.plan_types.specs.declared.plan.Pulse.{Pulse}
use Rattle.msg_code.specs.declared.talk.Note.{Note}
use Rattle.report_text.specs.declared.line.ReportLine.{ReportLine}
use Rattle.report_text.specs.declared.line.ReportLine.TheVariants as report
use Rattle.wire_scene.specs.declared.scene.Switch.{Switch}
use Rattle.host_reactor.specs.Report.{machine_line, pulse_lines, turn_at}
use Rattle.host_reactor.specs.declared.ordered.Known.{Known}
use Rattle.host_reactor.specs.Reactor.{reacts}
use Rattle.host_reactor.specs.Runs.{Came, known_by}
use Rattle.motion_work.specs.Seen.{Started}
use Rattle.session_work.specs.declared.table.ReactorTurn.{ReactorTurn}

-- the pulse of the stepper at a place that a line tells, where it tells one
abbrev pub pulse_in : ℕ → ReportLine → List Pulse
pulse_in place (report.Pulse board stepper tick up) =
    if stepper == place then record { tick = tick; stepper = place; up = up } ∷ [] else []
pulse_in place _ = []

-- the pulses of the stepper at a place that some lines tell
abbrev pub pulses_of : ℕ → List ReportLine → List Pulse
pulses_of place lines = flat_map (pulse_in place) lines

-- a line, where it begins a section
abbrev pub head_in : ReportLine → List ReportLine
head_in (report.Section section turn kind) = report.Section section turn kind ∷ []
head_in _ = []

-- the lines of some that begin a section
abbrev pub heads_of : List ReportLine → List ReportLine
heads_of lines = flat_map head_in lines

-- a line, where it tells a further clock line of a board
abbrev pub drift_in : ℕ → ReportLine → List ReportLine
drift_in b (report.Drift board sent clock from) = if board == b then report.Drift board sent clock from ∷ [] else []
drift_in b _ = []

-- the lines of some that tell the further clock lines of a board
abbrev pub drifts_of : ℕ → List ReportLine → List ReportLine
drifts_of b lines = flat_map (drift_in b) lines

-- the lines that tell further clock lines of a board: the turn and the tick of each, and the time from which
-- on it holds
abbrev pub held_lines : ℕ → List Held → List ReportLine
held_lines b [] = []
held_lines b (h ∷ held) = report.Drift b (turn_at h.line.at) h.line.clock h.from ∷ held_lines b held

-- the lines of the sections, from a number on, that start in a turn
abbrev pub starts_at : ℕ → ℕ → List Started → List ReportLine
starts_at k i [] = []
starts_at k i (s ∷ ss) = (if s.start == k then report.Section i k s.section.kind ∷ [] else []) ++ starts_at k (i + 1) ss

-- what came to the reactor in a turn
abbrev pub came_in : ReactorTurn → Came
came_in t = record { states = t.states; note = t.note }

-- The lines of some turns of the reactor, behind those in which this came, are those of its function, where
-- it knows which section was begun, whatever else it knows.
abbrev pub AreLinesOf : Machine → List Switch → List Came → List ReactorTurn → Type 0
AreLinesOf m switches before [] = Unit {0}
AreLinesOf m switches before (t ∷ ts) =
    ((r : Known) × (r.begun ≡ (known_by m switches before).begun)
    × (t.lines ≡ (reacts m switches r (length before) t.states t.note).ordered.lines))
    × AreLinesOf m switches (came_in t ∷ before) ts

-- in some turns of the reactor it took these notes, one in each
abbrev pub TookEach : List Note → List ReactorTurn → Type 0
TookEach notes [] = Unit {0}
TookEach [] (t ∷ ts) = ⊥
TookEach (n ∷ notes) (t ∷ ts) = (t.note ≡ Some n) × TookEach notes ts

-- none in the first turn, and in each later one that of the turn before
abbrev pub TookNotes : List Note → List ReactorTurn → Type 0
TookNotes notes [] = Unit {0}
TookNotes notes (t ∷ ts) = (t.note ≡ None) × TookEach notes ts

-- The lines of a turn of the reactor: those of the sections that start in it, and behind them the pulses of
-- the boards' states, and no further line of a section.
pub record TellsTurn (m : Machine) (begun : List Started) (k : ℕ) (t : ReactorTurn) : Type 0 where
  pub rest : List ReportLine
  pub are : t.lines ≡ machine_line m k ++ (starts_at k 0 begun ++ rest)
  pub heads : heads_of rest ≡ []
  pub pulses : (place : ℕ) → pulses_of place rest ≡ pulses_of place (pulse_lines m 0 t.states)

-- so in some turns, of which this is the first one's number
abbrev pub TellTurns : Machine → List Started → ℕ → List ReactorTurn → Type 0
TellTurns m begun k [] = Unit {0}
TellTurns m begun k (t ∷ ts) = TellsTurn m begun k t × TellTurns m begun (k + 1) ts

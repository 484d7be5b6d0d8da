-- What the lines of a run's report say in a log.
use Rattle.std.specs.Prelude.{◌≡◌, ℕ, ◌<◌, ◌^◌, List, [], ◌∷◌, length}
use Rattle.plan_types.specs.declared.cause.Cause.{Cause}
use Rattle.plan_types.specs.declared.cause.Cause.TheVariants as cause
use Rattle.plan_types.specs.declared.machine.Machine.{Machine}
use Rattle.plan_types.specs.declared.plan.SectionKind.{SectionKind}
use Rattle.plan_types.specs.declared.plan.SectionKind.TheVariants.{Moves, Home}
use Rattle.plan_types.specs.Machines.{board_at, stepper_at}
use Rattle.report_text.specs.declared.line.ReportLine.{ReportLine}
use Rattle.report_text.specs.declared.line.ReportLine.TheVariants as report
use Rattle.log_text.specs.declared.line.LogLine.{LogLine}
use Rattle.log_text.specs.declared.line.LogLine.TheVariants as line
use Rattle.plan_types.specs.Clock.{run_turns}

-- what a line of a run's report says in a log
abbrev pub logged : ReportLine → LogLine
logged (report.Board board freq turn tick) = line.Board board turn tick
logged (report.Section i turn kind) = line.Section i turn kind
logged (report.Pulse board stepper tick up) = line.Pulse stepper tick up
logged (report.Cut i board pin tick from) = line.Cut i
logged (report.Drift board sent clock from) = line.Line board sent clock from
logged (report.End cause) = line.End
logged _ = line.Note

-- a number of 64 bits
abbrev pub IsLong : ℕ → Type 0
IsLong n = n < 2 ^ 64

-- moves, or one of three axes
abbrev pub IsKind : SectionKind → Type 0
IsKind Moves = Unit {0}
IsKind (Home axis) = axis < 3

-- a cause that names a board of the machine, if any, and has numbers of 64 bits
abbrev pub IsCauseOn : Machine → Cause → Type 0
IsCauseOn m (cause.Config line kind) = IsLong line
IsCauseOn m (cause.Scene line kind) = IsLong line
IsCauseOn m (cause.Line line kind) = IsLong line
IsCauseOn m (cause.Late board first arrival spoiled spill) =
    (board < length m.boards) × IsLong first × IsLong arrival × IsLong spoiled × IsLong spill
IsCauseOn m (cause.Asked line) = IsLong line
IsCauseOn m (cause.NoSwitch section) = IsLong section
IsCauseOn m (cause.Expired board turn) = (board < length m.boards) × IsLong turn
IsCauseOn m (cause.Connect board turn) = (board < length m.boards) × IsLong turn
IsCauseOn m (cause.Stale board turn) = (board < length m.boards) × IsLong turn
IsCauseOn m (cause.Trace line kind) = IsLong line
IsCauseOn m (cause.Mesh line kind) = IsLong line
IsCauseOn m (cause.Misfit line kind) = IsLong line
IsCauseOn m _ = Unit {0}

-- A line that the report of a run on a machine may have: it names what the machine has, each stepper with its
-- board, and its numbers are of 64 bits.
abbrev pub IsOfRun : Machine → ReportLine → Type 0
IsOfRun m (report.Machine corexy boards steppers) =
    (corexy ≡ m.corexy) × (boards ≡ length m.boards) × (steppers ≡ length m.steppers)
IsOfRun m (report.Board board freq turn tick) =
    (board < length m.boards) × (freq ≡ (board_at m board).freq) × (turn < run_turns) × IsLong tick
IsOfRun m (report.Section i turn kind) = IsLong i × (turn < run_turns) × IsKind kind
IsOfRun m (report.Pulse board stepper tick up) =
    (stepper < length m.steppers) × (board ≡ (stepper_at m stepper).board) × IsLong tick
IsOfRun m (report.Cut i board pin tick from) =
    IsLong i × (board < length m.boards) × (pin < length (board_at m board).pins) × IsLong tick × IsLong from
IsOfRun m (report.Drift board sent clock from) = (board < length m.boards) × IsLong sent × IsLong clock × IsLong from
IsOfRun m (report.Lines accepted passed) = IsLong accepted × IsLong passed
IsOfRun m (report.End cause) = IsCauseOn m cause
IsOfRun m _ = ⊥

-- so each of some lines
abbrev pub AreOfRun : Machine → List ReportLine → Type 0
AreOfRun m [] = Unit {0}
AreOfRun m (l ∷ lines) = IsOfRun m l × AreOfRun m lines

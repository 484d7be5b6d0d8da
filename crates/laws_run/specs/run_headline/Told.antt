-- The lines that a reactor tells.
use Rattle.std.specs.Prelude.{◌≡◌, ◌<◌, Bool, true, List, [], ◌∷◌, length}
use Rattle.plan_types.specs.declared.machine.Machine.{Machine}
use Rattle.plan_types.specs.Machines.{stepper_at}
use Rattle.report_text.specs.declared.line.ReportLine.{ReportLine}
use Rattle.report_text.specs.declared.line.ReportLine.TheVariants as report

-- A line that a reactor may tell, in a run that homes or in one that doesn't: of the machine, which is its
-- own, of a board, a section, a further clock line or of what was read; a pulse of a stepper that is there,
-- on its own board; or, where it homes, a cut.
abbrev pub MayBeTold : Bool → Machine → ReportLine → Type 0
MayBeTold homes m (report.Machine corexy boards steppers) =
    (corexy ≡ m.corexy) × (boards ≡ length m.boards) × (steppers ≡ length m.steppers)
MayBeTold homes m (report.Board board freq turn tick) = Unit {0}
MayBeTold homes m (report.Section i turn kind) = Unit {0}
MayBeTold homes m (report.Pulse board stepper tick up) =
    (stepper < length m.steppers) × (board ≡ (stepper_at m stepper).board)
MayBeTold homes m (report.Cut i board pin tick from) = homes ≡ true
MayBeTold homes m (report.Drift board sent clock from) = Unit {0}
MayBeTold homes m (report.Lines accepted passed) = Unit {0}
MayBeTold homes m _ = ⊥

-- so each of some lines
abbrev pub AreTold : Bool → Machine → List ReportLine → Type 0
AreTold homes m [] = Unit {0}
AreTold homes m (l ∷ lines) = MayBeTold homes m l × AreTold homes m lines

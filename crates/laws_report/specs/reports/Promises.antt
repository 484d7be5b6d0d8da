-- What the lines of a run promise, for the machine and the text that it was asked to run.
use Rattle.std.specs.Prelude.{◌≡◌, ◌≢◌, ◌⊎◌, ℕ, ◌<◌, List, [], ◌∷◌, length, Option, Some, None}
use Rattle.plan_types.specs.declared.cause.Cause.{Cause}
use Rattle.plan_types.specs.declared.cause.Cause.TheVariants as cause
use Rattle.plan_types.specs.declared.machine.Machine.{Machine}
use Rattle.plan_types.specs.declared.plan.Section.{Section}
use Rattle.plan_types.specs.Lines.{Clocks}
use Rattle.plan_types.specs.Machines.{stepper_at}
use Rattle.plan_types.specs.Plan.{Fits}
use Rattle.plan_types.specs.Sections.{base_tick, clocks_at}
use Rattle.report_text.specs.declared.line.ReportLine.{ReportLine}
use Rattle.report_text.specs.declared.line.ReportLine.TheVariants as report
use Rattle.report_text.specs.Text.{report_text}
use Rattle.gcode_program.specs.Programs.{program_sections}
use Rattle.laws_report.specs.reports.Headline.{plan_by}
use Rattle.report_text.specs.Written.{WritesAll, WritesFront}
use Rattle.laws_report.specs.reports.Shown.{pulses_in, section_turn}

-- the sections of a text on a machine
abbrev pub sections_over : Machine → List ℕ → List Section
sections_over m text = program_sections m text

-- Prefix: the pulses of a stepper between the line of a section and the next section line fit the planned steps of that
-- stepper in that section, by the boards' clock lines; the section starts in the turn that the line shows.
abbrev pub FollowsPlanBy : List Clocks → Machine → List Section → List ReportLine → Type 0
FollowsPlanBy clocks m sections lines =
    (i turn s : ℕ) → section_turn i lines ≡ Some turn → s < length m.steppers →
    Fits (clocks_at clocks (stepper_at m s).board).first.freq (base_tick m clocks turn s) (pulses_in i s lines)
    (plan_by clocks m sections i turn s)

-- Causes: the run ends as the reading of the text does, but for want of memory and for faults of files and output.
abbrev pub IsCauseOf : Cause → Cause → Type 0
IsCauseOf wanted given =
    (given ≡ wanted) ⊎ ((given ≡ cause.Memory) ⊎ ((given ≡ cause.ReadFault) ⊎ (given ≡ cause.WriteFault)))

-- the numbers of accepted lines and of passed commands that the report shows
abbrev pub lines_line : List ReportLine → Option (ℕ × ℕ)
lines_line [] = None
lines_line (report.Lines accepted passed ∷ lines) = Some (accepted, passed)
lines_line (_ ∷ lines) = lines_line lines

-- Bytes: a front of the text of the lines is written, and the whole of it but for want of memory and a write
-- that failed.
abbrev pub WritesText : Machine → Option (List ℕ) → Option (List ℕ) → Cause → List ReportLine → Type 0
WritesText m old new given lines =
    WritesFront old new (report_text m lines)
    × (given ≢ cause.Memory → given ≢ cause.WriteFault → WritesAll old new (report_text m lines))

-- The section lines of a report, and the cause at its end.
use Rattle.std.specs.Prelude.{ℕ, ◌+◌, List, [], ◌∷◌}
use Rattle.plan_types.specs.declared.cause.Cause.{Cause}
use Rattle.plan_types.specs.declared.cause.Cause.TheVariants as cause
use Rattle.plan_types.specs.declared.plan.ReadStop.{ReadStop}
use Rattle.plan_types.specs.declared.plan.ReadStop.TheVariants.{End, Stop, Refused}
use Rattle.plan_types.specs.declared.plan.Section.{Section}
use Rattle.report_text.specs.declared.line.ReportLine.{ReportLine}
use Rattle.report_text.specs.declared.line.ReportLine.TheVariants as report

-- the cause with which a run ends that nothing cuts
abbrev pub cause_of : ReadStop → Cause
cause_of End = cause.Done
cause_of (Stop line) = cause.Asked line
cause_of (Refused line kind) = cause.Line line kind

-- the section lines of some sections
abbrev pub section_lines : ℕ → List ℕ → List Section → List ReportLine
section_lines i [] sections = []
section_lines i (start ∷ starts) [] = []
section_lines i (start ∷ starts) (s ∷ sections) = report.Section i start s.kind ∷ section_lines (i + 1) starts sections

-- The report of a load: how many pulses each stepper made.
use Rattle.std.specs.Prelude.{ℕ, ◌+◌, List, [], ◌∷◌, ◌++◌}
use Rattle.plan_types.specs.declared.cause.Cause.{Cause}
use Rattle.report_text.specs.declared.line.ReportLine.{ReportLine}
use Rattle.report_text.specs.declared.line.ReportLine.TheVariants as report

-- the lines of some counts, from a stepper on
abbrev pub count_lines : ℕ → List ℕ → List ReportLine
count_lines s [] = []
count_lines s (n ∷ counts) = report.Count s n ∷ count_lines (s + 1) counts

-- the report of a run of a load that shows counts alone
abbrev pub summary : ℕ → ℕ → List ℕ → Cause → List ReportLine
summary seed moves counts cause = report.Made seed moves ∷ (count_lines 0 counts ++ report.End cause ∷ [])

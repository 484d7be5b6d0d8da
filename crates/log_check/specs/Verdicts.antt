-- The check of a log: its first line that doesn't fit, and how the pulses of each section stand to their plan.
use Rattle.std.specs.Prelude.{ℕ, ◌+◌, ◌-◌, ◌&&◌, ◌==◌, Bool, true, false, List, [], ◌∷◌, ◌++◌, length, if◌then◌else◌, Option, Some, None, Ok, Err}
use Rattle.log_text.specs.declared.line.LogLine.{LogLine}
use Rattle.log_text.specs.declared.line.LogLine.TheVariants as line
use Rattle.log_text.specs.Said.{Said, line_said}
use Rattle.text_core.specs.Bytes.{Text}
use Rattle.plan_types.specs.declared.cause.Cause.{Cause}
use Rattle.plan_types.specs.declared.cause.Cause.TheVariants as cause
use Rattle.plan_types.specs.declared.cause.MisfitKind.{MisfitKind}
use Rattle.plan_types.specs.declared.cause.MisfitKind.TheVariants as misfit
use Rattle.plan_types.specs.declared.machine.Machine.{Machine}
use Rattle.plan_types.specs.declared.plan.Planned.{Planned}
use Rattle.plan_types.specs.declared.plan.Section.{Section}
use Rattle.report_text.specs.declared.line.ReportLine.{ReportLine}
use Rattle.report_text.specs.declared.line.ReportLine.TheVariants as report
use Rattle.text_core.specs.Lines.{lines_of}
use Rattle.text_core.specs.Words.{worded_lines}
use Rattle.log_check.specs.declared.further.Further.{Further}
use Rattle.log_check.specs.declared.tally.Tally.{Tally}
use Rattle.log_check.specs.Behind.{further_said}
use Rattle.log_check.specs.Faults.{fault_at, is_short}
use Rattle.log_check.specs.Points.{Point, point}

-- the line of a stepper that has or should have pulses
abbrev pub fit_line : ℕ → ℕ → List Planned → Tally → List ReportLine
fit_line i s plan t =
    if (t.made == 0) && (length plan == 0) then [] else report.Fit i s t.made (length plan) t.early t.late ∷ []

-- the lines of the steppers, from a number on, of a section
abbrev pub fit_lines : ℕ → ℕ → List (List Planned) → List Tally → List ReportLine
fit_lines i s [] tallies = []
fit_lines i s (plan ∷ plans) [] = []
fit_lines i s (plan ∷ plans) (t ∷ tallies) = fit_line i s plan t ++ fit_lines i (s + 1) plans tallies

-- the lines of the present section
abbrev pub present_fits : Point → List ReportLine
present_fits p = fit_lines (p.begun - 1) 0 p.plans p.tallies

-- the lines of the sections before the present one
abbrev pub fits_before : Machine → List Section → List Further → List LogLine → List ReportLine
fits_before m sections further [] = []
fits_before m sections further (line.Section i turn kind ∷ lines) =
    fits_before m sections further lines ++ present_fits (point m sections further lines)
fits_before m sections further (line.Note ∷ lines) = fits_before m sections further lines
fits_before m sections further (line.Board b turn tick ∷ lines) = fits_before m sections further lines
fits_before m sections further (line.Line b turn tick from ∷ lines) = fits_before m sections further lines
fits_before m sections further (line.Pulse s tick up ∷ lines) = fits_before m sections further lines
fits_before m sections further (line.Cut i ∷ lines) = fits_before m sections further lines
fits_before m sections further (line.End ∷ lines) = fits_before m sections further lines

-- why the check of a log ends, and the lines of which it tells, the last one first
pub record Verdict : Type 0 where
  pub cause : Cause
  pub lines : List LogLine

-- a pulse that doesn't fit counts among those of its section
abbrev pub with_pulse_of : LogLine → List LogLine → List LogLine
with_pulse_of (line.Pulse s tick up) lines = line.Pulse s tick up ∷ lines
with_pulse_of line.Note lines = lines
with_pulse_of (line.Board b turn tick) lines = lines
with_pulse_of (line.Line b turn tick from) lines = lines
with_pulse_of (line.Section i turn kind) lines = lines
with_pulse_of (line.Cut i) lines = lines
with_pulse_of line.End lines = lines

-- the verdict that a line of this number is a misfit
abbrev pub misfit_at : ℕ → MisfitKind → List LogLine → Verdict
misfit_at n kind lines = record { cause = cause.Misfit n kind; lines = lines }

-- the verdict by a line's fault, where it has one, else by the later lines
abbrev pub by_fault : ℕ → LogLine → List LogLine → Option MisfitKind → Verdict → Verdict
by_fault n l lines None later = later
by_fault n l lines (Some kind) later = misfit_at n kind (with_pulse_of l lines)

-- the verdict by what a line says, behind others
abbrev pub by_line : Machine → List Section → List Further → ℕ → List LogLine → Said → (LogLine → Verdict) → Verdict
by_line m sections further n lines (Err kind) later = misfit_at n kind lines
by_line m sections further n lines (Ok l) later =
    by_fault n l lines (fault_at m sections (point m sections further lines) l) (later l)

-- where a log stops without an end line, its last line ends the present section
abbrev pub end_cause : ℕ → Bool → Cause
end_cause last true = cause.Misfit last misfit.Missing
end_cause last false = cause.Done

-- the verdict at the log's last line: a misfit, where the present section is short of pulses
abbrev pub at_last : ℕ → List LogLine → Bool → Verdict
at_last last lines short = record { cause = end_cause last short; lines = lines }

-- The verdict on the lines of a log that have words, by its further clock lines, behind others, the last one
-- first, of which the last has a number: its first line that can't be read, or that doesn't fit what stands
-- behind the lines before it; or all is done.
abbrev pub verdict : Machine → List Section → List Further → ℕ → List LogLine → List (ℕ × List Text) → Verdict
verdict m sections further last lines [] =
    at_last last lines (is_short (point m sections further lines).cut (point m sections further lines).plans
    (point m sections further lines).tallies)
verdict m sections further last lines (w ∷ words) =
    by_line m sections further w.0 lines (line_said m w.1) (λ l. verdict m sections further w.0 (l ∷ lines) words)

-- the lines of a log's text that have words
abbrev pub worded : Text → List (ℕ × List Text)
worded text = worded_lines 35 1 (lines_of text)

-- the verdict on the text of a log, for a machine and the sections of a file, by the further clock lines that
-- the log says
unfoldable pub log_verdict : Machine → List Section → Text → Verdict
log_verdict m sections text = verdict m sections (further_said m (worded text)) 0 [] (worded text)

-- what is told of a log: for each section and stepper how its pulses stand to the plan, and the end
unfoldable pub log_lines : Machine → List Section → Text → List ReportLine
log_lines m sections text =
    let v = log_verdict m sections text in
    let further = further_said m (worded text) in
    fits_before m sections further v.lines
    ++ (present_fits (point m sections further v.lines) ++ report.End v.cause ∷ [])

-- the cause of a verdict: all is done, or a misfit
abbrev pub IsJudged : Cause → Type 0
IsJudged cause.Done = Unit {0}
IsJudged (cause.Misfit n kind) = Unit {0}
IsJudged other = ⊥

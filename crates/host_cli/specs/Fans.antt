-- What `fan` shows: when the part fan of a text is switched.
use Rattle.std.specs.Prelude.{ℕ, List, [], ◌∷◌, ◌++◌, map, Option}
use Rattle.digital_out.specs.declared.want.Want.{Want}
use Rattle.digital_out.specs.Switched.{switched}
use Rattle.gcode_program.specs.Programs.{program_end}
use Rattle.plan_types.specs.declared.cause.Cause.{Cause}
use Rattle.plan_types.specs.declared.machine.FanDef.{FanDef}
use Rattle.plan_types.specs.declared.machine.Machine.{Machine}
use Rattle.report_text.specs.declared.line.ReportLine.{ReportLine}
use Rattle.report_text.specs.declared.line.ReportLine.TheVariants as report
use Rattle.session_run.specs.declared.ended.Report.{Report}
use Rattle.host_cli.specs.declared.answer.Answer.{Answer}
use Rattle.host_cli.specs.Answers.{IsAnswer}
use Rattle.laws_report.specs.reports.Body.{cause_of}
use Rattle.host_cli.specs.Promises.{ShowsAnswer}

-- the line of a switching
abbrev pub out_line : FanDef → Want → ReportLine
out_line f w = report.Out f.board f.pin w.tick w.on

-- the lines of a text's fan: its switchings, how far the text was read, and the end
abbrev pub fan_lines : Machine → FanDef → List ℕ → List ReportLine
fan_lines m f text =
    map (out_line f) (switched m f text) ++ report.Lines (program_end m text).lines (program_end m text).passed
    ∷ report.End (cause_of (program_end m text).stop) ∷ []

-- the answer of a text's fan, before it is written
abbrev pub IsFanAnswer : Machine → FanDef → List ℕ → Answer → Type 0
IsFanAnswer m f text a = IsAnswer m (cause_of (program_end m text).stop) (fan_lines m f text) a

-- Fan: the report has the lines of the text's fan, and the cause of its reading.
abbrev pub ShowsFan : Machine → FanDef → List ℕ → Option (List ℕ) → Option (List ℕ) → Cause → Report → Type 0
ShowsFan m f text old new given r =
    ShowsAnswer m (cause_of (program_end m text).stop) (fan_lines m f text) old new given r

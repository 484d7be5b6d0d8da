-- What the check of a log says of the plan of a text.
use Rattle.std.specs.Prelude.{ℕ, List}
use Rattle.log_check.specs.Verdicts.{log_lines, log_verdict}
use Rattle.plan_types.specs.declared.cause.Cause.{Cause}
use Rattle.plan_types.specs.declared.machine.Machine.{Machine}
use Rattle.report_text.specs.declared.line.ReportLine.{ReportLine}
use Rattle.laws_report.specs.reports.Promises.{sections_over}

-- the cause with which the check of a log ends: all is done, or its first misfit
abbrev pub check_cause : Machine → List ℕ → List ℕ → Cause
check_cause m text log = (log_verdict m (sections_over m text) log).cause

-- the lines of the check of a log against the sections of a text, those that home among them
abbrev pub check_lines : Machine → List ℕ → List ℕ → List ReportLine
check_lines m text log = log_lines m (sections_over m text) log

use Rattle.laws_report.proofs.reports.Any.{as-written}
use Rattle.laws_report.proofs.reports.Configured.{names-of-reading}
use Rattle.laws_report.proofs.runs.what_runs_write_checks.Goals as goal

pub returns : goal.returns
returns g c = λ printer m s gcode files files' out out' cause lines counts links configured r text told through asked log none wrote.
    as-written g.F.Files g.S.Sink m s gcode files files' out out' cause lines counts links r text through log none wrote (r.checks text told through (names-of-reading printer m configured) asked)

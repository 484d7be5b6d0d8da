use Rattle.log_check.specs.Verdicts.{log_verdict}
use Rattle.laws_report.proofs.reports.Running.{within-checks}
use Rattle.laws_report.proofs.reports.reports_with_cuts_that_go_through_check.Goals as goal

pub returns : goal.returns
unfolding log_verdict
returns c = λ m sections lines ready said cause valid names go on. within-checks m sections lines ready said cause valid names go on

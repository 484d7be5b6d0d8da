use Rattle.log_check.specs.Verdicts.{log_verdict}
use Rattle.laws_report.proofs.reports.Running.{through-checks}
use Rattle.laws_report.proofs.reports.reports_that_go_through_check.Goals as goal

pub returns : goal.returns
unfolding log_verdict
returns c = λ m sections lines ready said cause valid names go on. through-checks m sections lines ready said cause valid names go on

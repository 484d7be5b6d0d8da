use Rattle.log_check.specs.Verdicts.{log_verdict, worded}
use Rattle.laws_report.proofs.logs.Standing.{checks}
use Rattle.laws_report.proofs.logs.logs_that_follow_the_plan_check.Goals as goal

pub returns : goal.returns
unfolding log_verdict
returns c = λ m sections text lines said follows stands. checks m sections (worded text) lines said follows stands

use Rattle.std.proofs.Common.{[]}
use Rattle.log_check.specs.Behind.{further_said}
use Rattle.log_check.specs.Verdicts.{log_verdict, worded}
use Rattle.laws_report.proofs.logs.Following.{done, follows, said-among}
use Rattle.laws_report.proofs.logs.checked_logs_follow_the_plan.Goals as goal

pub returns-clause-said : goal.returns-clause-said
unfolding log_verdict
returns-clause-said c = λ m sections text e. (done m sections (further_said m (worded text)) 0 [] (worded text) tt e).said

pub returns-clause-follows : goal.returns-clause-follows
unfolding log_verdict
returns-clause-follows c = λ m sections text e. (let d = done m sections (further_said m (worded text)) 0 [] (worded text) tt e in follows m sections (further_said m (worded text)) (log_verdict m sections text).lines (said-among m (worded text) (log_verdict m sections text).lines d.said) d.fine d.short)

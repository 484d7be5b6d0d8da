use Rattle.log_check.proofs.Judged.{judged}
use Rattle.laws_report.specs.reports.Promises.{sections_over}
use Rattle.laws_report.specs.reports.Checks.{check_cause}
use Rattle.host_cli.proofs.Checked.{judged-read, judged-run, judged-write}
use Rattle.host_cli.proofs.check.check_text.Goals as goal

pub returns-in-Ok-clause-no_read : goal.returns-in-Ok-clause-no_read
returns-in-Ok-clause-no_read c = judged-read c.in-Ok.field-0.cause (check_cause c.args.machine c.args.text.now c.args.log.now) c.in-Ok.ensures.cause (judged c.args.machine (sections_over c.args.machine c.args.text.now) c.args.log.now)

pub returns-in-Ok-clause-no_write : goal.returns-in-Ok-clause-no_write
returns-in-Ok-clause-no_write c = judged-write c.in-Ok.field-0.cause (check_cause c.args.machine c.args.text.now c.args.log.now) c.in-Ok.ensures.cause (judged c.args.machine (sections_over c.args.machine c.args.text.now) c.args.log.now)

pub returns-in-Ok-clause-configured : goal.returns-in-Ok-clause-configured
returns-in-Ok-clause-configured c = judged-run c.in-Ok.field-0.cause (check_cause c.args.machine c.args.text.now c.args.log.now) c.in-Ok.ensures.cause (judged c.args.machine (sections_over c.args.machine c.args.text.now) c.args.log.now)

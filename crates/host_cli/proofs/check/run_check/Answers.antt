use Rattle.plan_types.specs.declared.cause.Cause.TheVariants as cause
use Rattle.laws_report.specs.reports.Checks.{check_cause, check_lines}
use Rattle.host_cli.proofs.Whole.{answer-shown, cleanly, refusal-shown, written-text}
use Rattle.host_cli.proofs.check.run_check.Goals as goal

pub returns-clause-shows : goal.returns-clause-shows
returns-clause-shows g c = λ printer text log m told is told_text small told_log log_small.
    answer-shown c.check_files-answer.result c.finish.result.report (g.S.Sink.written c.args.out.now) (g.S.Sink.written c.finish.new.out) c.finish.result.cause _ _ c.finish.ensures.report c.finish.ensures.cause (written-text c.check_files-answer.result c.finish.result.report (g.S.Sink.written c.args.out.now) (g.S.Sink.written c.finish.new.out) c.finish.result.cause c.finish.ensures.report c.finish.ensures.front (λ memory write. c.finish.ensures.all memory write)) m (check_cause m text log) (check_lines m text log) (c.check_files-answer.ensures.answer printer text log m told is told_text small told_log log_small)

pub returns-clause-config : goal.returns-clause-config
returns-clause-config g c = λ printer line kind told is.
    refusal-shown c.check_files-answer.result c.finish.result.report (g.S.Sink.written c.args.out.now) (g.S.Sink.written c.finish.new.out) c.finish.result.cause _ _ c.finish.ensures.report c.finish.ensures.cause (written-text c.check_files-answer.result c.finish.result.report (g.S.Sink.written c.args.out.now) (g.S.Sink.written c.finish.new.out) c.finish.result.cause c.finish.ensures.report c.finish.ensures.front (λ memory write. c.finish.ensures.all memory write)) (cause.Config line kind) (c.check_files-answer.ensures.config printer line kind told is)

pub returns-clause-ends : goal.returns-clause-ends
returns-clause-ends g c = cleanly _ _ _ _ _ c.check_files-answer.result.cause c.finish.result.cause c.finish.ensures.status c.finish.ensures.cause c.check_files-answer.ensures.not_usage c.check_files-answer.ensures.no_write c.check_files-answer.ensures.read c.check_files-answer.ensures.quiet

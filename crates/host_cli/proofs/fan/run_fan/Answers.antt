use Rattle.plan_types.specs.declared.cause.Cause.TheVariants as cause
use Rattle.gcode_program.specs.Programs.{program_end}
use Rattle.laws_report.specs.reports.Body.{cause_of}
use Rattle.host_cli.specs.Fans.{fan_lines}
use Rattle.host_cli.proofs.Whole.{answer-shown, cleanly, refusal-shown, written-text}
use Rattle.host_cli.proofs.fan.run_fan.Goals as goal

pub returns-clause-shows : goal.returns-clause-shows
returns-clause-shows g c = λ printer text m f told is fan told_text small.
    answer-shown c.fan_of_files-answer.result c.finish.result.report (g.S.Sink.written c.args.out.now) (g.S.Sink.written c.finish.new.out) c.finish.result.cause _ _ c.finish.ensures.report c.finish.ensures.cause (written-text c.fan_of_files-answer.result c.finish.result.report (g.S.Sink.written c.args.out.now) (g.S.Sink.written c.finish.new.out) c.finish.result.cause c.finish.ensures.report c.finish.ensures.front (λ memory write. c.finish.ensures.all memory write)) m (cause_of (program_end m text).stop) (fan_lines m f text) (c.fan_of_files-answer.ensures.answer printer text m f told is fan told_text small)

pub returns-clause-config : goal.returns-clause-config
returns-clause-config g c = λ printer line kind told is.
    refusal-shown c.fan_of_files-answer.result c.finish.result.report (g.S.Sink.written c.args.out.now) (g.S.Sink.written c.finish.new.out) c.finish.result.cause _ _ c.finish.ensures.report c.finish.ensures.cause (written-text c.fan_of_files-answer.result c.finish.result.report (g.S.Sink.written c.args.out.now) (g.S.Sink.written c.finish.new.out) c.finish.result.cause c.finish.ensures.report c.finish.ensures.front (λ memory write. c.finish.ensures.all memory write)) (cause.Config line kind) (c.fan_of_files-answer.ensures.config printer line kind told is)

pub returns-clause-no_fan : goal.returns-clause-no_fan
returns-clause-no_fan g c = λ printer m told is none.
    refusal-shown c.fan_of_files-answer.result c.finish.result.report (g.S.Sink.written c.args.out.now) (g.S.Sink.written c.finish.new.out) c.finish.result.cause _ _ c.finish.ensures.report c.finish.ensures.cause (written-text c.fan_of_files-answer.result c.finish.result.report (g.S.Sink.written c.args.out.now) (g.S.Sink.written c.finish.new.out) c.finish.result.cause c.finish.ensures.report c.finish.ensures.front (λ memory write. c.finish.ensures.all memory write)) cause.NoFan (c.fan_of_files-answer.ensures.no_fan printer m told is none)

pub returns-clause-ends : goal.returns-clause-ends
returns-clause-ends g c = cleanly _ _ _ _ _ c.fan_of_files-answer.result.cause c.finish.result.cause c.finish.ensures.status c.finish.ensures.cause c.fan_of_files-answer.ensures.not_usage c.fan_of_files-answer.ensures.no_write c.fan_of_files-answer.ensures.read c.fan_of_files-answer.ensures.quiet

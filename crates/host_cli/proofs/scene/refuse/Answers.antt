use Rattle.host_cli.proofs.Whole.{for-shown, written-text}
use Rattle.host_cli.proofs.scene.refuse.Goals as goal

pub returns-clause-refused : goal.returns-clause-refused
returns-clause-refused g c =
    let written = written-text c.end_with-answer.result c.finish.result.report (g.S.Sink.written c.args.out.now) (g.S.Sink.written c.finish.new.out) c.finish.result.cause c.finish.ensures.report c.finish.ensures.front (λ memory write. c.finish.ensures.all memory write) in
    for-shown c.end_with-answer.result c.finish.result.report (g.S.Sink.written c.args.out.now) (g.S.Sink.written c.finish.new.out) c.finish.result.cause _ _ c.finish.ensures.report c.finish.ensures.cause written c.args.cause c.end_with-answer.ensures

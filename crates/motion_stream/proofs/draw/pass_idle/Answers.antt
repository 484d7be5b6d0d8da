use Rattle.std.proofs.Common.{refl}
use Rattle.motion_stream.proofs.Drawing.{idle_by}
use Rattle.motion_stream.proofs.draw.pass_idle.Goals as goal

pub returns-clause-passed : goal.returns-clause-passed
returns-clause-passed c = λ seen h.
    idle_by c.args.machine.now c.args.course.now (record c.args.course.now { goes = c.goes_on-course.result }) c.pass.new.course _ seen c.args.course.now.next c.in_ok-batches.batches.items c.done_news-done.result c.in_ok-batches.ensures.passed c.new.ensures.items
    (record { source = refl; read = refl; connected = refl; lines = refl; place = refl }) refl c.goes_on-course.ensures refl refl refl c.requires.idle refl c.requires.small c.done_news-done.ensures.news h

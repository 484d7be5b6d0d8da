use Rattle.std.proofs.Common.{refl}
use Rattle.motion_stream.proofs.Owning.{gives_in}
use Rattle.motion_stream.proofs.draw.advance.Goals as goal

pub pass_section-requires-clause-next : goal.pass_section-requires-clause-next
pass_section-requires-clause-next c = gives_in c.args.machine.now c.args.course.now c.args.course.now.current refl c.requires.sound c.if-course.false

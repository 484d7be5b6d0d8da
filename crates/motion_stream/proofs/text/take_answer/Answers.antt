use Rattle.std.proofs.Common.{refl, sym}
use Rattle.motion_stream.proofs.Hearing.{answer_heard, none_heard}
use Rattle.motion_stream.specs.declared.course.Open.TheVariants as opens
use Rattle.std.specs.Prelude.{true, ◌+◌}
use Rattle.motion_stream.proofs.text.take_answer.Goals as goal

pub returns-then-not-is_answered : goal.returns-then-not-is_answered
returns-then-not-is_answered c = λ seen h. none_heard c.args.machine.now c.args.course.now seen c.args.word.now (sym c.if-not-is_answered.ensures) h

pub returns : goal.returns
returns c = λ seen h.
    answer_heard c.args.machine.now c.args.course.now (record c.args.course.now { current = opens.Nothing; goes = true; ready = c.args.course.now.next + 260 }) seen c.args.word.now (sym c.if-not-is_answered.ensures) c.requires refl refl refl refl refl refl refl refl refl refl h

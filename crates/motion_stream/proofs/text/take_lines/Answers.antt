use Rattle.std.proofs.Common.{◌∙◌, ap, refl}
use Rattle.plan_types.specs.Sections.{first_start}
use Rattle.std.specs.Prelude.{true}
use Rattle.motion_stream.proofs.Hearing.{lines_told}
use Rattle.motion_stream.proofs.text.take_lines.Goals as goal

pub returns-in-Some : goal.returns-in-Some
returns-in-Some c = λ seen h.
    lines_told c.args.machine.now c.args.course.now (record c.args.course.now { lines = record c.args.course.now.lines { each = c.in-Some.lines }; ready = c.first_start-course.result; start = c.first_start-course.result; connected = true }) seen c.args.word.now c.if-course.false (rw c.in-Some.is at c.in_ok-lines.ensures) refl
    (c.first_start-course.ensures ∙ ap first_start c.max.ensures) refl refl refl refl refl refl refl refl h

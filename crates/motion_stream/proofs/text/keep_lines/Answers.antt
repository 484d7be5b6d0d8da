use Rattle.std.proofs.Common.{◌++◌, ◌∙◌, ap, refl}
use Rattle.motion_work.specs.Told.{lines_in}
use Rattle.motion_stream.proofs.Hearing.{further_kept, further_none}
use Rattle.motion_stream.proofs.text.keep_lines.Goals as goal

pub returns-then-not-course : goal.returns-then-not-course
returns-then-not-course c = λ seen h. further_none c.args.machine.now c.args.course.now seen c.args.word.now c.if-not-course.true h

pub returns : goal.returns
returns c = λ seen h.
    let old = c.args.course.now in
    further_kept c.args.machine.now old (record old.lines { waiting = c.add_lines.new.lines }) seen c.args.word.now c.if-not-course.false refl (c.in_ok-add_lines.ensures ∙ ap (λ ns. old.lines.waiting.items ++ lines_in ns) c.as_slice.ensures) h

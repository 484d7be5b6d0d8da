use Rattle.std.proofs.Common.{◌+◌, ◌++◌, List, ap, arith, length, refl, subst, sym, true, ◌∙◌, ◌≡◌}
use Rattle.std.proofs.lemmas.Bool.Decides.{nat_tests}
use Rattle.std.specs.Prelude.{All}
use Rattle.msg_code.specs.declared.talk.NoteNews.{NoteNews}
use Rattle.motion_work.specs.declared.told.BoardLine.{BoardLine}
use Rattle.motion_work.specs.Further.{AreFurther, WasHeard, WereHeard}
use Rattle.motion_stream.specs.Courses.{IsCourseBy}
use Rattle.motion_stream.specs.Uptakes.{IsNotLost, emptied, lined}
use Rattle.motion_stream.proofs.Drawing.{fed_on}
use Rattle.motion_stream.proofs.Hearing.{own_heard}
use Rattle.motion_stream.proofs.Uptaking.{course_emptied, none_lost, none_taken}
use Rattle.motion_stream.proofs.uptake.take_up.Goals as goal

pub returns-then-is_empty-clause-taken : goal.returns-then-is_empty-clause-taken
returns-then-is_empty-clause-taken c = λ seen h.
    let none : c.args.course.now.connected ≡ true → length c.args.course.now.lines.waiting.items ≡ 0 = λ on. grind (arith, nat_tests) in
    none_taken c.args.machine.now c.args.course.now seen c.args.k c.new-news.result c.new-news.ensures none c.requires.next c.requires.fed h

pub returns-then-is_empty-clause-sound : goal.returns-then-is_empty-clause-sound
returns-then-is_empty-clause-sound c = let s = c.requires.sound in record { seen = s.seen; is = fed_on c.args.machine.now c.args.course.now s.seen c.args.k c.requires.next c.requires.fed s.is }

pub take_each-requires-clause-sound : goal.take_each-requires-clause-sound
take_each-requires-clause-sound c =
    let m = c.args.machine.now in
    let old = c.args.course.now in
    let s = c.requires.sound in
    let by = fed_on m old s.seen c.args.k c.requires.next c.requires.fed s.is in
    record { seen = emptied s.seen; is = course_emptied m old (record old.lines { waiting = c.replace-waiting.new.dest }) s.seen (c.args.k + 260) (c.args.k + 261) refl (ap (λ v. v.items) c.replace-waiting.ensures.after ∙ c.new.ensures.items) by }

pub returns-clause-taken : goal.returns-clause-taken
returns-clause-taken c = λ seen h.
    let m = c.args.machine.now in
    let old = c.args.course.now in
    let k = c.args.k in
    let news = c.take_each.new.news in
    let items = c.deref.ensures.value ∙ ap (λ v. v.items) c.replace-waiting.ensures.value in
    let by = fed_on m old seen k c.requires.next c.requires.fed h in
    let known = subst (All (λ (x : BoardLine). WasHeard x.board x.line seen.fresh)) (sym (items ∙ h.uptake.waiting)) (own_heard seen.fresh) in
    let t = c.in_ok-take_each.ensures.taken (emptied seen) seen.fresh known (course_emptied m old (record old.lines { waiting = c.replace-waiting.new.dest }) seen (k + 260) (k + 261) refl (ap (λ v. v.items) c.replace-waiting.ensures.after ∙ c.new.ensures.items) by) in
    let are : t.more ≡ news = sym (t.are ∙ ap (λ (x : List NoteNews). x ++ t.more) c.new-news.ensures) in
    record {
      further_are = subst (AreFurther k) are t.further;
      heard = subst (WereHeard seen.fresh) are t.heard;
      taken = λ told is. none_lost m old seen (k + 260) (k + 261) k news told by is (subst (All (IsNotLost m old.lines.each.items k news)) items c.in_ok-take_each.ensures.told);
      is = subst (λ (ns : List NoteNews). IsCourseBy m c.take_each.new.course (lined (emptied seen) ns) (k + 260) (k + 261)) are t.is;
    }

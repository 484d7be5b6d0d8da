use Rattle.std.proofs.Common.{◌+◌, ◌∙◌, List, ap, arith, drop, refl, subst}
use Rattle.gcode_program.specs.declared.items.Item.{Item}
use Rattle.msg_code.specs.declared.talk.NoteNews.TheVariants as news
use Rattle.motion_stream.specs.declared.course.Course.{Course}
use Rattle.motion_stream.specs.declared.course.Open.TheVariants as opens
use Rattle.motion_stream.specs.Gone.{HasOpened}
use Rattle.motion_stream.proofs.Opening.{due_at, due_clocks, due_exact, due_good, section_begun}
use Rattle.motion_stream.proofs.Limits.{begun_few}
use Rattle.motion_stream.proofs.Taking.{left_good}
use Rattle.motion_stream.proofs.begin.begin_section.Goals as goal

pub open_section-requires : goal.open_section-requires
open_section-requires c =
    let s = c.requires.sound in
    let m = c.args.machine.now in
    let old = c.args.course.now in
    let due = c.requires.due in
    let kind = c.args.due.kind in
    let exact = due_exact m old s.0 c.args.k c.args.due.start kind due c.requires.next s.1 in
    let small = c.requires.small in
    let rest = c.pop_front.ensures.rest in
    rw c.deref.ensures.value (record {
      machine = s.1.machine;
      boards = due_clocks m old s.0 c.args.k c.args.due.start kind due c.requires.next s.1;
      early = c.requires.early due.connected;
      late = omega (arith, exact);
      small = omega (arith, exact, small);
      good = left_good old.source.items.items c.pop_front.new.self.items rest (due_good m old s.0 (c.args.k + 260) (c.args.k + 261) s.1);
      few = begun_few m old s.0 (c.args.k + 260) (c.args.k + 261) due.dwell kind due.rest c.pop_front.new.self.items s.1 due.nothing due.items_are (rest ∙ ap (λ (is : List Item). drop 1 is) due.items_are);
    })

pub returns-clause-begun : goal.returns-clause-begun
returns-clause-begun c = λ seen h. (
    let m = c.args.machine.now in
    let old = c.args.course.now in
    let due = c.requires.due in
    let kind = c.args.due.kind in
    let start = c.args.due.start in
    let o = c.in_ok-section.field-0 in
    let items = c.open_section.new.items in
    let new : Course = record old { source = record old.source { items = items }; current = opens.Goes o.section c.homes_by.result; start = start; place = old.place + 1 } in
    let opened = subst (λ (is : List Item). HasOpened m old.lines.each.items kind start is items.items o.section o.last o.moving) (c.pop_front.ensures.rest ∙ ap (λ (is : List Item). drop 1 is) due.items_are) (rw c.deref.ensures.value at c.in_ok-section.ensures) in
    section_begun m old new seen c.args.k start due.dwell o.last o.moving kind due.rest o.section c.homes_by.result (news.Start old.place kind start o.last o.moving) h c.requires.next c.requires.small
    (due_at m old seen c.args.k start kind due c.requires.next h) due.items_are opened
    (record { read = refl; connected = refl; lines = refl; place = refl; start_is = refl; ahead = refl; next = refl; reader = refl; end = refl; ended = refl; opened = refl }) refl c.homes_by.ensures refl refl)

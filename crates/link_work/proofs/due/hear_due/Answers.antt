use Rattle.std.proofs.Common.{List, [], ap, subst, sym}
use Rattle.msg_code.specs.declared.talk.News.{News}
use Rattle.wire_scene.specs.declared.scene.Way.TheVariants.{Up}
use Rattle.wire_scene.specs.Wire.{is_oldest_due}
use Rattle.link_work.specs.Told.{AddsNews, heard_in}
use Rattle.link_work.specs.Turn.{come}
use Rattle.link_work.proofs.Coming.{none_has_come, all_have_come, line_after}
use Rattle.link_work.proofs.Hearing.{all_heard, none_heard_yet}
use Rattle.link_work.proofs.due.hear_due.Goals as goal

pub returns-then-quiet-clause-stands : goal.returns-then-quiet-clause-stands
returns-then-quiet-clause-stands c =
    let world = c.args.world.now in
    let wire = c.args.wire.now in
    let none = ap (is_oldest_due c.args.turn) (c.quiet.ensures.0 c.if-quiet.true).nothing in
    all_have_come Up c.args.turn world world wire wire (none_has_come Up c.args.turn world wire c.requires) none

pub returns-then-quiet-clause-line : goal.returns-then-quiet-clause-line
returns-then-quiet-clause-line c =
    let world = c.args.world.now in
    let wire = c.args.wire.now in
    let none = ap (is_oldest_due c.args.turn) (c.quiet.ensures.0 c.if-quiet.true).nothing in
    line_after Up c.args.turn world world wire wire (none_has_come Up c.args.turn world wire c.requires) none

pub returns-then-quiet-clause-news : goal.returns-then-quiet-clause-news
returns-then-quiet-clause-news c = λ h st.
    let world = c.args.world.now in
    let copies = c.args.wire.now.copies in
    let none = ap (is_oldest_due c.args.turn) (c.quiet.ensures.0 c.if-quiet.true).nothing in
    let Adds : List News → Type 0 = λ news. AddsNews [] news (heard_in (come Up c.args.turn copies) h) in
    subst Adds (sym c.new.ensures) (all_heard c.args.turn world world [] [] copies copies (none_heard_yet c.args.turn world [] copies) none h st)

use Rattle.std.proofs.Common.{refl, subst, sym}
use Rattle.section_feed.specs.Sections.{next_of}
use Rattle.motion_stream.specs.declared.course.Open.{Open}
use Rattle.motion_stream.specs.declared.course.Open.TheVariants as opens
use Rattle.motion_stream.specs.Gone.{GivesOwn}
use Rattle.motion_stream.proofs.Streaming.{has_drawn}
use Rattle.motion_stream.proofs.draw.draw_own.Goals as goal

pub returns-in_ok-units-in-Goes : goal.returns-in_ok-units-in-Goes
returns-in_ok-units-in-Goes c =
    let s = c.in-Goes.section in
    let t = c.batches.new.self in
    let own = c.in_ok-units-in-Goes.units.items in
    let b = c.batches.ensures in
    let e = c.in_ok-units-in-Goes.ensures in
    let over = c.is_over-over.ensures in
    let From : Open → Type 0 = λ o. GivesOwn own c.is_over-over.result o (opens.Goes t c.in-Goes.homes) in
    subst From (sym c.in-Goes.is) (t, refl, record { drawn = has_drawn s t (next_of s) own refl b.open e.next e.rested e.boards e.sets b.cruise b.begin e.on; packed = e.packed; left = over.goes; moves = over.moves; past = over.over })

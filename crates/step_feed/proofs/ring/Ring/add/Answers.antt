use Rattle.std.proofs.Common.{◌<◌, take, arith}
use Rattle.std.proofs.lemmas.List.Elements.{All-append, All-cons, All-drop, All-take}
use Rattle.plan_types.specs.Clock.{tick_limit}
use Rattle.step_feed.proofs.Rings.{ring-counts, stays-up}
use Rattle.step_feed.proofs.ring.Ring.add.Goals as goal

pub invariant_of-self : goal.invariant_of-self
invariant_of-self c =
    let mid = c.make_room.new.self in
    let at = c.place-at.result in
    let last = c.args.last in
    let items = c.put.ensures.items in
    record {
      some = mid.some;
      up = stays-up at last mid.ends.items c.put.new.ends.items mid.up c.place-at.ensures.below c.place-at.ensures.above items;
      small = rw items (All-append (λ e. e < tick_limit) (take at mid.ends.items) _ (All-take (λ e. e < tick_limit) at mid.ends.items mid.small) (All-cons (λ e. e < tick_limit) last _ c.requires.small (All-drop (λ e. e < tick_limit) at mid.ends.items mid.small)));
      few = omega arith;
      room = omega arith;
    }

pub returns-clause-counts : goal.returns-clause-counts
returns-clause-counts c =
    let old = c.args.self.now in
    let ok = old.ends.ok in
    ring-counts c.args.lines.now old.slots c.args.turn c.place-at.result c.args.last old.ends.items c.make_room.new.self.ends.items c.put.new.ends.items c.is_kept.ensures old.up (omega arith) c.requires.room (λ e. c.make_room.ensures.full (omega arith)) (λ l. c.make_room.ensures.some (omega arith)) c.put.ensures.items

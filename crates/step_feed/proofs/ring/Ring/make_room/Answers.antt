use Rattle.std.proofs.Common.{◌<◌, arith}
use Rattle.std.proofs.lemmas.List.Elements.{All-drop}
use Rattle.plan_types.specs.Clock.{tick_limit}
use Rattle.step_feed.proofs.Rings.{drop-up}
use Rattle.step_feed.proofs.ring.Ring.make_room.Goals as goal

pub invariant_of-self : goal.invariant_of-self
invariant_of-self c =
    let old = c.args.self.now in
    let rest = c.pop_front.ensures.rest in
    record {
      some = old.some;
      up = rw rest (drop-up old.ends.items old.up);
      small = rw rest (All-drop (λ e. e < tick_limit) 1 old.ends.items old.small);
      few = omega arith;
      room = omega arith;
    }

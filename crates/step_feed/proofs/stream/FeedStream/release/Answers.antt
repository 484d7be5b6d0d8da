use Rattle.std.proofs.Common.{rules, ◌<◌, length, subst, sym}
use Rattle.std.proofs.lemmas.List.Elements.{All-drop}
use Rattle.plan_types.specs.Clock.{tick_limit}
use Rattle.step_feed.specs.Pacing.{turn_limit}
use Rattle.step_feed.proofs.Feds.{fed-release, first-rest}
use Rattle.step_feed.proofs.stream.FeedStream.release.Goals as goal

pub invariant_of-self : goal.invariant_of-self
invariant_of-self c =
    let s = c.args.self.now in
    let rest = c.pop_front.ensures.rest in
    let len = c.add_to.ensures.len in
    record {
      some = s.some;
      rings_slots = c.add_to.ensures.slots s.slots s.rings_slots;
      known = rw rest (All-drop (λ u. u.stepper < length c.add_to.new.rings.items) 1 s.waiting.items (rw len s.known));
      small = rw rest (All-drop (λ u. u.last < tick_limit) 1 s.waiting.items s.small);
      due_small = rw rest (All-drop (λ u. u.due < turn_limit) 1 s.waiting.items s.due_small);
    }

pub returns-clause-fed : goal.returns-clause-fed
returns-clause-fed c = λ pushed released fed.
    let s = c.args.self.now in
    let u = c.index.result.now in
    let ok = s.waiting.ok in
    let some : 0 < length s.waiting.items = search rules in
    let is = c.index.ensures in
    let known : u.stepper < length s.rings.items = subst (λ w. w.stepper < length s.rings.items) (sym is) (s.known 0 u some) in
    fed-release c.args.lines.now s.slots s.next c.args.used s.rings.items c.add_to.new.rings.items u s.waiting.items c.pop_front.new.self.items s.first pushed released fed (first-rest s.waiting.items c.pop_front.new.self.items u some is c.pop_front.ensures.rest) ((c.has_room.ensures.room pushed released fed).0 (search rules)) c.add_to.ensures.len known (rw c.from.ensures at c.add_to.ensures.counts)

use Rattle.std.proofs.Common.{◌<◌, length, ap, sym, ◌∙◌}
use Rattle.step_feed.proofs.Feds.{fed-place}
use Rattle.step_feed.proofs.stream.FeedStream.place_unit.Goals as goal

pub invariant_of-self : goal.invariant_of-self
invariant_of-self c =
    let s = c.make_rings.new.self in
    let len = c.add_to.ensures.len in
    record {
      some = s.some;
      rings_slots = c.add_to.ensures.slots s.slots s.rings_slots;
      known = rw len s.known;
      small = s.small;
      due_small = s.due_small;
    }

pub returns-clause-placed : goal.returns-clause-placed
returns-clause-placed c = λ pushed released at_last fed.
    let s = c.make_rings.new.self in
    let old = c.args.self.now in
    let u = c.args.unit.now in
    let e = c.in_ok-make_rings.ensures in
    let grown = e.fed c.args.lines.now pushed released c.args.used fed in
    let none = e.waiting ∙ c.requires.none in
    let ring = c.index.result.now in
    let known : u.stepper < length s.rings.items = rw c.from.ensures at e.known in
    let is = rw c.from-2.ensures at c.index.ensures in
    let slots = ap (λ r. r.slots) is ∙ s.rings_slots u.stepper ring known in
    let bytes = c.unit_bytes-bytes.ensures.value in
    let x = c.earliest-turn.ensures in
    let counts = rw c.from-3.ensures at c.add_to.ensures.counts in
    let last = rw (sym e.next, sym e.first) at at_last in
    rw (none, bytes) (fed-place c.args.lines.now s.slots s.next c.args.used s.rings.items c.add_to.new.rings.items s.first pushed released u ring c.free_from-free.result c.earliest-turn.result c.fitting-turn.result.0 c.fitting-turn.result.1 c.is_kept.ensures (rw none at grown) last known is slots c.free_from-free.ensures.free x.after x.due x.free x.one (rw bytes at c.fitting-turn.ensures) c.add_to.ensures.len counts)

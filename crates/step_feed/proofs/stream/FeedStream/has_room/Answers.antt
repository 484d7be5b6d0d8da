use Rattle.std.proofs.Common.{ap, ◌∙◌, arith}
use Rattle.step_feed.proofs.Feds.{fed-room}
use Rattle.step_feed.proofs.stream.FeedStream.has_room.Goals as goal

pub returns-clause-room : goal.returns-clause-room
returns-clause-room c = λ pushed released fed.
    let s = c.args.self.now in
    let u = c.args.unit.now in
    let ring = c.index.result.now in
    let bytes = c.unit_bytes.ensures.value in
    let is = rw c.from.ensures at c.index.ensures in
    let slots = ap (λ r. r.slots) is ∙ s.rings_slots u.stepper ring c.requires.known in
    fed-room c.args.lines.now s.slots s.next c.args.used s.rings.items s.waiting.items s.first pushed released u ring c.free_from.result c.is_kept.ensures fed (omega (arith, c.saturating_add.ensures)) (omega arith) c.requires.known is slots (c.free_from.ensures.free s.next)

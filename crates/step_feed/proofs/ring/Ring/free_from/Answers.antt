use Rattle.std.proofs.Common.{◌<◌, ◌∙◌, length, arith}
use Rattle.std.proofs.lemmas.List.{get_or_default}
use Rattle.step_feed.proofs.Rings.{full-free, room-free}
use Rattle.step_feed.proofs.ring.Ring.free_from.Goals as goal

pub returns-then-len-self-clause-free : goal.returns-then-len-self-clause-free
returns-then-len-self-clause-free c =
    let ok = c.args.self.now.ends.ok in
    room-free c.args.lines.now c.args.self.now.slots c.args.self.now.ends.items (omega arith)

pub returns-clause-free : goal.returns-clause-free
returns-clause-free c =
    let ring = c.args.self.now in
    let ok = ring.ends.ok in
    let few = ring.few in
    let slots = ring.some in
    let some : 0 < length ring.ends.items = omega arith in
    let first = c.index.ensures ∙ get_or_default ring.ends.items 0 c.index.result.now 0 some in
    rw c.over_turn.ensures.value (full-free c.args.lines.now ring.slots c.index.result.now ring.ends.items c.is_kept.ensures ring.up (omega arith) some first)

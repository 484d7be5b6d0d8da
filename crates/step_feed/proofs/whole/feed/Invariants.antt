use Rattle.std.proofs.Common.{◌≡◌, ◌+◌, ◌≤◌, [], length, take}
use Rattle.step_feed.specs.Pacing.{turn_bytes, turn_limit}
use Rattle.step_feed.proofs.Feds.{FeedsTo}
use Rattle.step_feed.proofs.whole.feed.Given as goal

abbrev pub invariant-loop-unit : goal.invariant-loop-unit
invariant-loop-unit l =
    FeedsTo l.lines l.slots l.first l.stream.next l.used l.stream.rings.items (take l.unit-index l.units) l.turns.items
    × (length l.turns.items ≡ l.unit-index)
    × (l.stream.slots ≡ l.slots)
    × (l.stream.first ≡ l.first)
    × (l.used ≤ turn_bytes)
    × (l.stream.waiting.items ≡ [])
    × (l.stream.next ≤ turn_limit + l.unit-index)

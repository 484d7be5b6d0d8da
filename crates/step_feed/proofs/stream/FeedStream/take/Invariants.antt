use Rattle.std.proofs.Common.{◌≡◌, ◌*◌, ◌≤◌, List, ◌++◌, length}
use Rattle.std.specs.Vec.{vec_capacity}
use Rattle.step_feed.specs.Units.{StepUnit}
use Rattle.step_feed.specs.Pacing.{Release, at_turn, turn_bytes}
use Rattle.step_feed.specs.Streams.{IsFedBy, IsFedOf}
use Rattle.step_feed.proofs.stream.FeedStream.take.Given as goal

abbrev pub invariant-loop-unit : goal.invariant-loop-unit
invariant-loop-unit l =
    ((pushed : List StepUnit) → (released : List Release) → IsFedOf l.fn.self l.lines pushed released → IsFedBy l.self l.lines l.used pushed (released ++ at_turn l.fn.self.next l.units.items))
    × (l.self.next ≡ l.fn.self.next)
    × (l.self.first ≡ l.fn.self.first)
    × (l.used ≤ turn_bytes)
    × (5 * length l.units.items ≤ l.used)
    × (42 ≤ vec_capacity l.units)
    × (l.self.slots ≡ l.fn.self.slots)

abbrev pub decreases-loop-unit : goal.decreases-loop-unit
decreases-loop-unit l = length l.self.waiting.items

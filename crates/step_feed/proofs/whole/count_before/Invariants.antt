use Rattle.std.proofs.Common.{ℕ, ◌-◌, ◌<◌, ◌≤◌, length, slice_index_or}
use Rattle.step_feed.proofs.whole.count_before.Given as goal

abbrev pub invariant-loop-low : goal.invariant-loop-low
invariant-loop-low l =
    (l.low ≤ l.high) × (l.high ≤ length l.turns)
    × ((j : ℕ) → j < l.low → slice_index_or l.turns j 0 < l.turn)
    × ((j : ℕ) → l.high ≤ j → j < length l.turns → l.turn ≤ slice_index_or l.turns j 0)

abbrev pub decreases-loop-low : goal.decreases-loop-low
decreases-loop-low l = l.high - l.low

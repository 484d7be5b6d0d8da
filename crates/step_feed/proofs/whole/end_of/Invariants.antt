use Rattle.std.proofs.Common.{◌≡◌, ℕ, ◌<◌, ◌≤◌, slice_index_or}
use Rattle.step_feed.proofs.whole.end_of.Given as goal

abbrev pub invariant-loop-i : goal.invariant-loop-i
invariant-loop-i l = (l.from ≤ l.i) × ((j : ℕ) → l.from ≤ j → j < l.i → slice_index_or l.turns j 0 ≡ l.turn)

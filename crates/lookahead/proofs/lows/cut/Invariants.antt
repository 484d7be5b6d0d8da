use Rattle.std.proofs.Common.{◌≡◌, ℕ, ◌<◌, ◌≤◌, List, length, take, get_or}
use Rattle.std.specs.VecDeque.{deque_len, deque_capacity}
use Rattle.lookahead.specs.Lows.{no_low}
use Rattle.lookahead.specs.declared.lows.Low.{Low}
use Rattle.lookahead.proofs.lows.cut.Given as goal

-- a front part is left, and what is dropped is not below the height
pub record IsCut (old new : List Low) (height : ℕ) : Type 0 where
  pub front : new ≡ take (length new) old
  pub shorter : length new ≤ length old
  pub dropped : (e : ℕ) → length new ≤ e → e < length old → height ≤ (get_or old e no_low).height

abbrev pub invariant-loop-last : goal.invariant-loop-last
invariant-loop-last l = IsCut l.fn.lows.items l.lows.items l.height × (deque_capacity l.lows ≡ deque_capacity l.fn.lows) × (deque_len l.lows ≤ deque_len l.fn.lows)

abbrev pub decreases-loop-last : goal.decreases-loop-last
decreases-loop-last l = length l.lows.items

use Rattle.std.proofs.Common.{◌≡◌, ℕ, ◌+◌, ◌<◌, ◌≤◌, length, vec_len, vec_capacity, get_or}
use Rattle.lane_queue.specs.declared.ends.Lane.{Lane}
use Rattle.lane_queue.specs.declared.passes.TakePass.{TakePass}
use Rattle.session_work.specs.Rows.{TookMore, item}
use Rattle.session_work.proofs.rows.take_each.Given as goal

abbrev pub invariant-loop-i : goal.invariant-loop-i
invariant-loop-i g l = record {
  count : vec_len l.msgs ≡ l.i;
  room : length l.lanes ≤ vec_capacity l.msgs;
  numbers : (j : ℕ) (x : g.row.T.Denot) → j < length l.msgs.items → g.T.Numbered.number (get_or l.msgs.items j x) ≡ l.k;
  size : length l.passes.items ≡ length l.initial.passes.items;
  done : (j : ℕ) (lane : Lane g.row.T.Denot) (p q : TakePass g.row.T.Denot) → j < l.i → TookMore (item j l.msgs.items) (get_or l.lanes j lane) (get_or l.initial.passes.items j p) (get_or l.passes.items j q);
  same : (j : ℕ) (p : TakePass g.row.T.Denot) → l.i ≤ j → get_or l.passes.items j p ≡ get_or l.initial.passes.items j p;
}

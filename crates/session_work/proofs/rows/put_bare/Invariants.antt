use Rattle.std.proofs.Common.{◌≡◌, ℕ, ◌+◌, ◌<◌, ◌≤◌, length, get_or}
use Rattle.lane_queue.specs.declared.ends.Lane.{Lane}
use Rattle.lane_queue.specs.declared.passes.SendPass.{SendPass}
use Rattle.session_work.specs.Rows.{PutMore, item, copies}
use Rattle.session_work.proofs.rows.put_bare.Given as goal

abbrev pub invariant-loop-i : goal.invariant-loop-i
invariant-loop-i g l = record {
  size : length l.passes.items ≡ length l.initial.passes.items;
  done : (j : ℕ) (lane : Lane g.row.T.Denot) (p q : SendPass g.row.T.Denot) → j < l.i → PutMore (item j (copies (length l.lanes) (g.T.Bare.bare l.k l.flag))) (get_or l.lanes j lane) (get_or l.initial.passes.items j p) (get_or l.passes.items j q);
  same : (j : ℕ) (p : SendPass g.row.T.Denot) → l.i ≤ j → get_or l.passes.items j p ≡ get_or l.initial.passes.items j p;
}

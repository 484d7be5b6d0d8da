use Rattle.std.proofs.Common.{◌≡◌, ℕ, ◌-◌, ◌<◌, ◌≤◌, length, get_or, false}
use Rattle.lane_queue.specs.declared.ends.Lane.{Lane}
use Rattle.lane_queue.specs.declared.passes.SendPass.{SendPass}
use Rattle.session_work.specs.Leads.{each_turn}
use Rattle.session_work.specs.Rows.{PutMore}
use Rattle.session_work.proofs.rows.put_each_ahead.Given as goal

abbrev pub invariant-loop-j : goal.invariant-loop-j
invariant-loop-j g l = record {
  size : length l.passes.items ≡ length l.initial.passes.items;
  done : (j : ℕ) (lane : Lane g.row.T.Denot) (p q : SendPass g.row.T.Denot) → j < l.j → PutMore (each_turn (λ i. g.T.Bare.bare i false) l.from (l.to - l.from)) (get_or l.lanes j lane) (get_or l.initial.passes.items j p) (get_or l.passes.items j q);
  same : (j : ℕ) (p : SendPass g.row.T.Denot) → l.j ≤ j → get_or l.passes.items j p ≡ get_or l.initial.passes.items j p;
}

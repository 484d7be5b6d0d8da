use Rattle.std.proofs.Common.{◌≡◌, ◌+◌, ℕ, false}
use Rattle.session_work.specs.Leads.{each_turn}
use Rattle.session_work.specs.Rows.{PutMore}
use Rattle.session_work.proofs.rows.put_ahead.Given as goal

abbrev pub invariant-loop-i : goal.invariant-loop-i
invariant-loop-i g l = (n : ℕ) × (l.i ≡ l.from + n) × PutMore (each_turn (λ i. g.T.Bare.bare i false) l.from n) l.lane l.initial.pass l.pass

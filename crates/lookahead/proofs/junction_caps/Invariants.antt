use Rattle.std.proofs.Common.{◌≡◌, ℕ, ◌-◌, ◌≤◌, List, ◌++◌, drop, All}
use Rattle.plan_types.specs.declared.plan.Move.{Move}
use Rattle.plan_types.specs.Speeds.{caps, later_caps}
use Rattle.lookahead.proofs.junction_caps.Given as goal

-- the caps so far and those to come are all caps
pub record AreCapsTo (moves : List Move) (scv : ℕ) (made : List ℕ) (i : ℕ) : Type 0 where
  pub whole : made ++ later_caps (drop (i - 1) moves) scv ≡ caps moves scv
  pub small : All (λ s. s ≤ 1_000_000_000_000_000_000) made

abbrev pub invariant-loop-i : goal.invariant-loop-i
invariant-loop-i l = AreCapsTo l.moves l.scv l.made.items l.i

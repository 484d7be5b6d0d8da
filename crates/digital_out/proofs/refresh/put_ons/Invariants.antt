use Rattle.std.proofs.Common.{◌≡◌, ℕ, ◌+◌, ◌-◌, ◌<◌, ◌++◌, List}
use Rattle.digital_out.specs.declared.want.Want.{Want}
use Rattle.digital_out.specs.Refreshes.{AreOns}
use Rattle.digital_out.proofs.refresh.put_ons.Given as goal

-- the commands so far, and those that may follow
pub record OnsSofar (every from until tick : ℕ) (old new : List Want) : Type 0 where
  pub last : ℕ
  pub ons : List Want
  pub tick_is : tick ≡ last + every
  pub before : last < until
  pub new_is : new ≡ old ++ ons
  pub more : (ws : List Want) → AreOns every last until ws → AreOns every from until (ons ++ ws)

abbrev pub invariant-loop-tick : goal.invariant-loop-tick
invariant-loop-tick l = OnsSofar l.every l.from l.until l.tick l.fn.out.items l.out.items

abbrev pub decreases-loop-tick : goal.decreases-loop-tick
decreases-loop-tick l = l.until - l.tick

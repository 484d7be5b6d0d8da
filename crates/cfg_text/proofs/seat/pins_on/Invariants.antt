use Rattle.std.proofs.Common.{◌≡◌, ◌≢◌, AllPairs, ◌+◌, ◌≤◌, length, []}
use Rattle.cfg_text.specs.Building.{pins_on}
use Rattle.cfg_text.proofs.seat.pins_on.Given as goal

abbrev pub invariant-loop-rest : goal.invariant-loop-rest
invariant-loop-rest l = record { value : pins_on l.board l.pins.items l.rest ≡ pins_on l.fn.board [] l.fn.uses; differ : AllPairs (λ p q. p ≢ q) l.pins.items; few : length l.pins.items + length l.rest ≤ length l.fn.uses }

abbrev pub decreases-loop-rest : goal.decreases-loop-rest
decreases-loop-rest l = length l.rest

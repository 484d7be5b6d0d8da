use Rattle.std.proofs.Common.{◌≡◌, ◌+◌, ◌*◌, ◌≤◌, length, []}
use Rattle.cfg_text.specs.Wiring.{uses_of}
use Rattle.cfg_text.proofs.wiring.pins_of_steppers.Given as goal

abbrev pub invariant-loop-rest : goal.invariant-loop-rest
invariant-loop-rest l = record { value : uses_of l.entries l.rest l.uses.items ≡ uses_of l.fn.entries l.fn.steppers []; few : length l.uses.items + 3 * length l.rest ≤ 3 * length l.fn.steppers }

abbrev pub decreases-loop-rest : goal.decreases-loop-rest
decreases-loop-rest l = length l.rest

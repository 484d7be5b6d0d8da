use Rattle.std.proofs.Common.{◌≡◌, ◌+◌, length}
use Rattle.log_text.specs.Names.{stepper_from}
use Rattle.log_text.proofs.name.stepper_named.Given as goal

abbrev pub invariant-loop-rest : goal.invariant-loop-rest
invariant-loop-rest l = record {
  places : l.place + length l.rest ≡ length l.fn.steppers;
  found : stepper_from l.place l.name l.rest ≡ stepper_from 0 l.name l.fn.steppers;
}

abbrev pub decreases-loop-rest : goal.decreases-loop-rest
decreases-loop-rest l = length l.rest

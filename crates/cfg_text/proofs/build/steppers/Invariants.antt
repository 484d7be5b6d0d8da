use Rattle.std.proofs.Common.{◌≡◌, ◌+◌, length, []}
use Rattle.cfg_text.specs.Building.{stepper_defs}
use Rattle.cfg_text.specs.Valid.{AreSteppersOn}
use Rattle.cfg_text.proofs.build.steppers.Given as goal

abbrev pub invariant-loop-rest : goal.invariant-loop-rest
invariant-loop-rest l = record { value : stepper_defs l.entries l.boards l.steppers l.rest ≡ stepper_defs l.fn.entries l.fn.boards [] l.fn.motors; valid : AreSteppersOn l.boards l.steppers; count : length l.steppers + length l.rest ≡ length l.fn.motors }

abbrev pub decreases-loop-rest : goal.decreases-loop-rest
decreases-loop-rest l = length l.rest

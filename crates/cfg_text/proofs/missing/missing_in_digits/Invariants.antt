use Rattle.std.proofs.Common.{◌≡◌, length}
use Rattle.cfg_text.specs.Missing.{missing_digits}
use Rattle.cfg_text.proofs.missing.missing_in_digits.Given as goal

abbrev pub invariant-loop-rest : goal.invariant-loop-rest
invariant-loop-rest l = missing_digits l.entries l.steppers l.drive l.rest ≡ missing_digits l.fn.entries l.fn.steppers l.fn.drive l.fn.numbers

abbrev pub decreases-loop-rest : goal.decreases-loop-rest
decreases-loop-rest l = length l.rest

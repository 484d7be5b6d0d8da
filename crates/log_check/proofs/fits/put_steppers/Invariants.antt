use Rattle.std.proofs.Common.{◌≡◌, ◌+◌, ◌≤◌, ◌++◌, length}
use Rattle.log_check.specs.Verdicts.{fit_lines}
use Rattle.log_check.proofs.fits.put_steppers.Given as goal

abbrev pub invariant-loop-rest : goal.invariant-loop-rest
invariant-loop-rest l = record {
  few : l.stepper + length l.rest ≤ 16;
  told : l.out.items ++ fit_lines l.section l.stepper l.rest l.more ≡ l.fn.out.items ++ fit_lines l.section 0 l.fn.plans l.fn.tallies;
}

abbrev pub decreases-loop-rest : goal.decreases-loop-rest
decreases-loop-rest l = length l.rest

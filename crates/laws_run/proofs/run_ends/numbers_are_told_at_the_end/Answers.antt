use Rattle.laws_run.proofs.run_ends.Counted.{counted}
use Rattle.laws_run.proofs.run_ends.numbers_are_told_at_the_end.Goals as goal

pub returns : goal.returns
returns c = record {
  on = λ m switches r k states note e f. (counted m switches r k states note e).on f;
  through = λ m switches r k states note d e f g. (counted m switches r k states note e).through d f g;
}

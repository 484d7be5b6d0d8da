use Rattle.std.proofs.Common.{true, false, inl, inr, refl}
use Rattle.laws_run.proofs.run_headline.Telling.{reacts_told}
use Rattle.laws_run.proofs.run_headline.reactors_tell_lines_of_runs.Goals as goal

pub returns : goal.returns
returns c = record {
  lines = λ m switches r k states note. reacts_told true m switches r k states note (inl refl);
  uncut = λ m switches r k states note none. reacts_told false m switches r k states note (inr none);
}

use Rattle.laws_board.proofs.clocks.Near.{drifting_near, exact_near, keeps_up, keeps_up_always}
use Rattle.laws_board.proofs.clocks.samples_are_near.Goals as goal

pub returns : goal.returns
returns c = record {
  exact = exact_near;
  drifting = drifting_near;
  tracked = keeps_up;
  always = keeps_up_always;
}

use Rattle.axis_homing.proofs.Rises.{started-rises, homing-rises}
use Rattle.axis_homing.proofs.laws.members_rise.Goals as goal

pub returns : goal.returns
returns c = record {
  starts = started-rises;
  turns = homing-rises;
}

use Rattle.axis_homing.proofs.Room.{fits}
use Rattle.axis_homing.proofs.laws.orders_fit.Goals as goal

pub returns : goal.returns
returns c = fits

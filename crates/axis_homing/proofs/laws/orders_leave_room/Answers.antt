use Rattle.axis_homing.proofs.Room.{leaves-room}
use Rattle.axis_homing.proofs.laws.orders_leave_room.Goals as goal

pub returns : goal.returns
returns c = leaves-room

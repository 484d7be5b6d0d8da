-- What holds of a reactor at every turn.
use Rattle.std.specs.Prelude.{◌≡◌, All, length}
use Rattle.plan_types.specs.declared.machine.Machine.{Machine}
use Rattle.board_asking.specs.Kept.{IsEarly}
use Rattle.axis_homing.specs.Homing.{StartsTogether}
use Rattle.host_reactor.specs.declared.ordered.Known.{Known}

-- each board has its asking, and a homing section starts with its group
pub record HasAskings (m : Machine) (r : Known) : Type 0 where
  pub count : length r.askings.items ≡ length m.boards
  pub early : All IsEarly r.askings.items
  pub starts : StartsTogether r.homing

-- What a board is sent in a turn of a homing section that is under way.
use Rattle.std.specs.Prelude.{◌≡◌, ◌++◌, ℕ, List}
use Rattle.plan_types.specs.declared.machine.Machine.{Machine}
use Rattle.plan_types.specs.Lines.{Clocks}
use Rattle.plan_types.specs.Machines.{axis_at}
use Rattle.msg_code.specs.declared.cmd.Cmd.{Cmd}
use Rattle.trigger_group.specs.Group.{GroupState, orders}
use Rattle.axis_homing.specs.declared.homing.Homing.{Homing}
use Rattle.axis_homing.specs.Homing.{commands_to}
use Rattle.laws_homing.specs.clear_boards.Alive.{RelayNone}
use Rattle.laws_homing.specs.clear_boards.Turned.{AreSentBehind}

-- the commands of the group's orders to the board, and then some that are behind the set-up, whatever timeout
-- was sent, and trigger nothing
pub record IsOrdered (m : Machine) (clocks : Clocks) (b : ℕ) (h : Homing) (turn : ℕ) (g : GroupState)
    (commands : List Cmd) : Type 0 where
  pub tail : List Cmd
  pub are : commands ≡ commands_to m clocks b h.start (axis_at m h.axis) (orders g turn) ++ tail
  pub behind : (oid clock : ℕ) → AreSentBehind oid clock tail
  pub none : RelayNone tail

-- The fan of a machine.
use Rattle.std.proofs.Common.{◌≡◌, ◌∙◌, Option, Some, sym, subst, length, ◌<◌}
use Rattle.plan_types.specs.declared.machine.FanDef.{FanDef}
use Rattle.plan_types.specs.declared.machine.Machine.{Machine}
use Rattle.plan_types.specs.Machines.{IsValidBoard, IsValidFan, IsValidMachine, board_at, no_board}

-- a machine's fan has a board that is there
pub fan_there : (m : Machine) (f : FanDef) → IsValidMachine m → m.fan ≡ Some f → f.board < length m.boards
fan_there m f valid is = (subst (λ (o : Option FanDef). IsValidFan m o) is valid.fan).0

pub fan_board : (m : Machine) (f : FanDef) → IsValidMachine m → m.fan ≡ Some f → IsValidBoard (board_at m f.board)
fan_board m f valid is = valid.boards f.board no_board (fan_there m f valid is)

pub one_fan : (o : Option FanDef) (f g : FanDef) → o ≡ Some f → o ≡ Some g → f ≡ g
one_fan o f g e h = let q = sym e ∙ h in cc

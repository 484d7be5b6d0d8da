use Rattle.std.proofs.Common.{List, ℤ, true, subst, sym}
use Rattle.gcode_program.specs.Homes.{IsRoom}
use Rattle.gcode_program.proofs.Homing.{stood_room}
use Rattle.gcode_program.proofs.cut.home_one.Goals as goal

pub returns-clause-room : goal.returns-clause-room
returns-clause-room c =
    subst (λ (at : List ℤ). IsRoom at c.args.acceleration) (sym c.homed_at.ensures) (stood_room c.args.machine.now c.args.at c.args.acceleration c.args.axis true c.requires.machine c.requires.axis c.requires.room)

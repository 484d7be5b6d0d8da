use Rattle.std.proofs.Common.{List, ℤ, subst, sym}
use Rattle.gcode_program.specs.Homes.{IsRoom}
use Rattle.gcode_program.proofs.Homing.{state_room}
use Rattle.gcode_program.proofs.items.home.Goals as goal

pub home_one-requires-clause-room : goal.home_one-requires-clause-room
home_one-requires-clause-room c =
    subst (λ (at : List ℤ). IsRoom at c.args.state.now.acceleration) (sym c.standing-at.ensures.value) (state_room c.args.state.now c.requires.sound)

use Rattle.gcode_program.proofs.Homing.{move_is, run_of}
use Rattle.gcode_program.proofs.home.homing_move.Goals as goal

pub homing_run-run-requires-clause-low : goal.homing_run-run-requires-clause-low
homing_run-run-requires-clause-low c = (run_of c.args.machine.now c.args.axis c.axis_of-def.result.now c.requires.machine c.requires.axis c.axis_of-def.ensures).min_near

pub homing_run-run-requires-clause-high : goal.homing_run-run-requires-clause-high
homing_run-run-requires-clause-high c = (run_of c.args.machine.now c.args.axis c.axis_of-def.result.now c.requires.machine c.requires.axis c.axis_of-def.ensures).max_near

pub homing_start-requires-clause-endstop : goal.homing_start-requires-clause-endstop
homing_start-requires-clause-endstop c = (run_of c.args.machine.now c.args.axis c.axis_of-def.result.now c.requires.machine c.requires.axis c.axis_of-def.ensures).endstop_near

pub returns : goal.returns
returns c =
    move_is c.args.machine.now c.args.at.now c.args.acceleration c.args.axis c.axis_of-def.result.now c.homing_run-run.result c.homing_start.result c.homing_end.result c.min.result c.axis_of-def.ensures c.homing_run-run.ensures.value
    c.homing_start.ensures c.homing_end.ensures c.min.ensures

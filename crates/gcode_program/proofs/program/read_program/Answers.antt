use Rattle.std.proofs.Common.{arith, refl, rules}
use Rattle.gcode_program.specs.Held.{AreSectionsHeld}
use Rattle.text_core.specs.Lines.{lines_of}
use Rattle.gcode_state.specs.Starts.{initial}
use Rattle.gcode_program.specs.Programs.{outcome_of}
use Rattle.gcode_program.proofs.Behind.{line_stepped}
use Rattle.gcode_program.proofs.Holding.{nothing_held, step_held, finished_plannable}
use Rattle.gcode_program.proofs.program.read_program.Goals as goal

pub loop-rest-init : goal.loop-rest-init
unfolding outcome_of initial
loop-rest-init c = record {
  rest_is = omega arith;
  near = omega arith;
  size_is = refl;
  few = rw c.new-modes.ensures (omega arith);
  lines_few = omega arith;
  passed_few = omega arith;
  dwell_small = rw c.new_cut-cut.ensures (omega arith);
  behind = rw (c.new-modes.ensures, c.new_cut-cut.ensures) (record { sections = refl; count = omega arith; passed_is = omega arith; stop = refl });
  held = rw (c.new-modes.ensures, c.new_cut-cut.ensures) nothing_held;
}

pub loop-rest-preserved : goal.loop-rest-preserved
loop-rest-preserved c = record {
  rest_is = omega (arith, c.first_line.ensures.rest, c.loop-rest.invariant.rest_is);
  near = omega (arith, c.in-Ok.ensures.small);
  size_is = refl;
  few = omega (arith, c.in-Ok.ensures.lines, c.loop-rest.invariant.few);
  lines_few = omega (arith, c.loop-rest.invariant.lines_few);
  passed_few = omega (arith, c.one_if-passed.ensures.small, c.loop-rest.invariant.passed_few);
  dwell_small = omega (arith, c.in_ok-take.ensures.dwell, c.loop-rest.invariant.dwell_small);
  behind = rw (c.in_ok-take.ensures.taken, c.state.ensures.value, c.one_if-passed.ensures.value) (line_stepped c.args.machine.now _ c.loop-rest.start c.loop-rest.modes c.step_line.new.modes c.first_line.result.0.now (lines_of c.first_line.result.1.now) (lines_of c.loop-rest.rest.now)
      (outcome_of c.args.machine.now c.args.text.now) c.loop-rest.cut c.in-Ok.step.action c.in-Ok.step.passed c.loop-rest.lines c.loop-rest.passed
      c.first_line.ensures.lines c.in-Ok.ensures.value c.in-Ok.ensures.passed (search rules) c.loop-rest.invariant.behind);
  held = step_held c.args.machine.now c.loop-rest.cut _ c.loop-rest.modes c.in-Ok.step.action c.loop-rest.modes.count c.step_line.new.modes.count c.requires (rw c.state.ensures.value at c.state.ensures.sound) (rw c.state.ensures.value at c.in_ok-take.ensures.taken) c.in-Ok.ensures.count c.in-Ok.ensures.few c.in-Ok.ensures.valid
      c.loop-rest.invariant.held;
}

pub returns-in-Err-clause-plannable : goal.returns-in-Err-clause-plannable
returns-in-Err-clause-plannable c = finished_plannable c.finish.result c.loop-rest.cut c.loop-rest.modes.count c.finish.ensures.sections c.loop-rest.invariant.held

held_behind : (c : goal.After-finish-then-is_stop) → AreSectionsHeld c.take.new.cut.sections c.take.new.cut.moves c.take.new.cut.dwell c.step_line.new.modes.count
held_behind c = step_held c.args.machine.now c.loop-rest.cut c.take.new.cut c.loop-rest.modes c.in-Ok.step.action c.loop-rest.modes.count c.step_line.new.modes.count c.requires (rw c.state.ensures.value at c.state.ensures.sound) (rw c.state.ensures.value at c.in_ok-take.ensures.taken)
    c.in-Ok.ensures.count c.in-Ok.ensures.few c.in-Ok.ensures.valid c.loop-rest.invariant.held

pub returns-then-is_stop-clause-plannable : goal.returns-then-is_stop-clause-plannable
returns-then-is_stop-clause-plannable c = finished_plannable c.finish-then-is_stop.result c.take.new.cut c.step_line.new.modes.count c.finish-then-is_stop.ensures.sections (held_behind c)

pub returns-clause-plannable : goal.returns-clause-plannable
returns-clause-plannable c = finished_plannable c.finish-2.result c.loop-rest.cut c.loop-rest.modes.count c.finish-2.ensures.sections c.loop-rest.invariant.held

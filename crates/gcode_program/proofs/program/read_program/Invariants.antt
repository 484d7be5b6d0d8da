use Rattle.std.proofs.Common.{◌≡◌, ◌+◌, ◌-◌, ◌*◌, ◌≤◌, length}
use Rattle.text_core.specs.Lines.{lines_of}
use Rattle.gcode_program.specs.Readings.{outcome}
use Rattle.gcode_program.specs.Programs.{outcome_of}
use Rattle.gcode_program.specs.Held.{AreSectionsHeld}
use Rattle.gcode_program.proofs.Behind.{IsBehind}
use Rattle.gcode_program.proofs.program.read_program.Given as goal

abbrev pub invariant-loop-rest : goal.invariant-loop-rest
invariant-loop-rest l = record {
  rest_is : length l.rest ≡ length l.fn.text - l.start;
  near : l.start ≤ 1073741825;
  size_is : l.size ≡ length l.fn.text;
  few : l.modes.lines ≤ l.start;
  lines_few : l.lines ≤ l.start;
  passed_few : l.passed ≤ l.lines;
  dwell_small : l.cut.dwell ≤ 3600000 * l.lines;
  behind : IsBehind l.fn.machine (outcome_of l.fn.machine l.fn.text) (outcome (length l.fn.text) l.modes (l.lines + 1) l.start (lines_of l.rest)) l.cut l.lines l.passed;
  held : AreSectionsHeld l.cut.sections l.cut.moves l.cut.dwell l.modes.count;
}

abbrev pub decreases-loop-rest : goal.decreases-loop-rest
decreases-loop-rest l = length l.rest

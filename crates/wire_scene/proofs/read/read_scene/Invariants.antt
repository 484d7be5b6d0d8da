use Rattle.std.proofs.Common.{◌≡◌, ◌+◌, ◌≤◌, ◌++◌, [], length}
use Rattle.text_core.specs.Lines.{lines_of}
use Rattle.wire_scene.specs.Reading.{items, first_fault, entries_among, switches_among}
use Rattle.wire_scene.specs.Steps.{IsInStep}
use Rattle.wire_scene.proofs.read.read_scene.Given as goal

abbrev pub invariant-loop-rest : goal.invariant-loop-rest
invariant-loop-rest l = record {
  numbers : l.number + length l.rest ≤ 1 + length l.fn.text;
  in_step : IsInStep l.reader;
  faults : first_fault l.reader.scene.entries l.reader.scene.switches l.number (items l.machine.boards l.number (lines_of l.rest)) ≡ first_fault [] [] 1 (items l.machine.boards 1 (lines_of l.fn.text));
  entries : l.reader.scene.entries ++ entries_among (items l.machine.boards l.number (lines_of l.rest)) ≡ entries_among (items l.machine.boards 1 (lines_of l.fn.text));
  switches : l.reader.scene.switches ++ switches_among (items l.machine.boards l.number (lines_of l.rest)) ≡ switches_among (items l.machine.boards 1 (lines_of l.fn.text));
}

abbrev pub decreases-loop-rest : goal.decreases-loop-rest
decreases-loop-rest l = length l.rest

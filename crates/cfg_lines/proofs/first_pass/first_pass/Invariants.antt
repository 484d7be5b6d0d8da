use Rattle.std.proofs.Common.{◌≡◌, ◌≢◌, AllPairs, ◌+◌, ◌≤◌, ◌++◌, [], true, length}
use Rattle.std.specs.List.{list_all}
use Rattle.text_core.specs.Lines.{lines_of}
use Rattle.cfg_lines.specs.Items.{items, first_place, first_fault, entries, boards_behind, steppers_behind, passed_over, entry_fits}
use Rattle.cfg_lines.proofs.first_pass.first_pass.Given as goal

abbrev pub invariant-loop-rest : goal.invariant-loop-rest
invariant-loop-rest l = record {
  numbers : l.number + length l.rest ≤ 1 + length l.fn.text;
  passing : l.passed + length l.rest ≤ length l.fn.text;
  few_boards : length l.boards.items ≤ 8;
  differ : AllPairs (λ p q. p ≢ q) l.boards.items;
  few_steppers : length l.steppers.items ≤ 16;
  fit : list_all entry_fits l.entries.items ≡ true;
  faults : first_fault l.boards.items l.steppers.items l.number (items l.place (lines_of l.rest)) ≡ first_fault [] [] 1 (items first_place (lines_of l.fn.text));
  entries : l.entries.items ++ entries l.number (items l.place (lines_of l.rest)) ≡ entries 1 (items first_place (lines_of l.fn.text));
  boards : boards_behind l.boards.items (items l.place (lines_of l.rest)) ≡ boards_behind [] (items first_place (lines_of l.fn.text));
  steppers : steppers_behind l.steppers.items (items l.place (lines_of l.rest)) ≡ steppers_behind [] (items first_place (lines_of l.fn.text));
  passed : l.passed + passed_over (items l.place (lines_of l.rest)) ≡ passed_over (items first_place (lines_of l.fn.text));
}

abbrev pub decreases-loop-rest : goal.decreases-loop-rest
decreases-loop-rest l = length l.rest

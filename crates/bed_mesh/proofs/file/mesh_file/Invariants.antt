use Rattle.std.proofs.Common.{◌≡◌, ◌+◌, ◌-◌, ◌≤◌, length}
use Rattle.text_core.specs.Lines.{lines_of}
use Rattle.bed_mesh.specs.Files.{head_text, mesh_sheet, sheet, sheet_behind}
use Rattle.bed_mesh.specs.Steps.{HasSpace, pen_of}
use Rattle.bed_mesh.proofs.file.mesh_file.Given as goal

-- what is written so far, with what is written for the lines that are left behind it
abbrev pub invariant-loop-rest : goal.invariant-loop-rest
invariant-loop-rest l = record {
  rest_is : length l.rest ≡ length l.fn.text - l.start;
  near : l.start ≤ 1073741825;
  size_is : l.size ≡ length l.fn.text;
  few : l.modes.lines ≤ l.start;
  lines_few : l.lines ≤ l.start;
  passed_few : l.passed ≤ l.lines;
  space : HasSpace l.writer;
  so_far : sheet_behind l.writer.code.items l.lines l.passed (sheet l.mesh (length l.fn.text) l.modes (pen_of l.writer) (l.lines + 1) l.start (lines_of l.rest)) ≡ sheet_behind head_text 0 0 (mesh_sheet l.machine l.mesh l.fn.text);
}

abbrev pub decreases-loop-rest : goal.decreases-loop-rest
decreases-loop-rest l = length l.rest

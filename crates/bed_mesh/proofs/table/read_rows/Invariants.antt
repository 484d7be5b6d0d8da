use Rattle.std.proofs.Common.{◌≡◌, ◌+◌, ◌*◌, ◌<◌, ◌≤◌, ◌^◌, length}
use Rattle.std.specs.Prelude.{unsigned_abs}
use Rattle.std.specs.List.{All}
use Rattle.text_core.specs.Lines.{lines_of}
use Rattle.text_core.specs.Words.{worded_lines}
use Rattle.bed_mesh.specs.Tables.{rows_of, heights_behind}
use Rattle.bed_mesh.proofs.table.read_rows.Given as goal

-- the rows so far, with those that are left behind them
abbrev pub invariant-loop-line : goal.invariant-loop-line
invariant-loop-line l = record {
  rows : heights_behind l.heights.items (rows_of l.grids.x.count l.left (worded_lines 35 l.number (lines_of l.rest))) ≡ rows_of l.grids.x.count l.grids.y.count (worded_lines 35 l.fn.number (lines_of l.fn.text));
  small : l.number + length l.rest < 2 ^ 64;
  count : length l.heights.items + l.grids.x.count * l.left ≡ l.grids.x.count * l.grids.y.count;
  limits : All (λ h. unsigned_abs h ≤ 5_000_000) l.heights.items;
}

abbrev pub decreases-loop-line : goal.decreases-loop-line
decreases-loop-line l = length l.rest

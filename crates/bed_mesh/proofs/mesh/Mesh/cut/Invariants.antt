use Rattle.std.proofs.Common.{◌≡◌, ◌+◌, ◌*◌, ◌<◌, ◌≤◌, ◌++◌, ◌^◌, map, length}
use Rattle.std.specs.List.{All}
use Rattle.plan_types.specs.Valid.{IsValidMove}
use Rattle.bed_mesh.specs.Cuts.{IsOnTheWay, cut_parts, part_count, place_behind}
use Rattle.bed_mesh.specs.Lines.{AreCuts, cut_numbers}
use Rattle.bed_mesh.proofs.mesh.Mesh.cut.Given as goal

-- the cuts so far, with those that are left behind them
abbrev pub invariant-loop-number : goal.invariant-loop-number
invariant-loop-number l = record {
  so_far : l.ends.items ++ map (place_behind l.m) (cut_numbers l.cuts) ≡ map (place_behind l.m) (cut_parts l.fn.self l.fn.m);
  near : All (IsOnTheWay l.m) l.ends.items;
  valid : AreCuts l.cuts;
  whole : l.cuts.whole ≡ l.whole;
  few : length l.ends.items + (l.cuts.x.left + l.cuts.y.left) ≤ 128;
}

abbrev pub decreases-loop-number : goal.decreases-loop-number
decreases-loop-number l = l.cuts.x.left + l.cuts.y.left

use Rattle.std.proofs.Common.{◌≡◌, ◌+◌, ◌≤◌, ◌++◌, ◌^◌, length}
use Rattle.std.specs.Prelude.{unsigned_abs}
use Rattle.std.specs.List.{All}
use Rattle.bed_mesh.specs.Files.{accepted_state}
use Rattle.bed_mesh.specs.BentLines.{at, move_lines, joined_lines}
use Rattle.bed_mesh.specs.Room.{HasLineRoom, IsNearPlace}
use Rattle.bed_mesh.proofs.line.put_ends.Given as goal

-- the lines so far are accepted, and those that are left stand behind them
abbrev pub invariant-loop-place : goal.invariant-loop-place
invariant-loop-place l = record {
  so_far : accepted_state (l.start + length l.text.items) l.modes (move_lines l.mesh l.speed l.last l.rest) ≡ accepted_state (l.start + length l.initial.text.items) l.initial.modes (move_lines l.mesh l.speed l.from l.places);
  text : l.text.items ++ joined_lines (move_lines l.mesh l.speed l.last l.rest) ≡ l.initial.text.items ++ joined_lines (move_lines l.mesh l.speed l.from l.places);
  room : HasLineRoom l.start l.modes l.text.items;
  near : All IsNearPlace l.rest;
  last : unsigned_abs (at l.last 3) ≤ 2 ^ 61;
}

abbrev pub decreases-loop-place : goal.decreases-loop-place
decreases-loop-place l = length l.rest

-- The cells that have a place, those on whose border it is among them.
use Rattle.std.specs.Prelude.{ℕ, ◌+◌, ◌*◌, ◌<◌, ◌≤◌}
use Rattle.bed_mesh.specs.declared.mesh.Grid.{Grid}

-- a cell has the places from its first line to its second, both lines among them
pub record IsInCell (g : Grid) (cell offset : ℕ) : Type 0 where
  pub there : cell + 1 < g.count
  pub from : cell * g.step ≤ offset
  pub to : offset ≤ (cell + 1) * g.step

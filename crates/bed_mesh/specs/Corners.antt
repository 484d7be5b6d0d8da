-- The corners of a cell.
use Rattle.std.specs.Prelude.{◌≤◌, unsigned_abs}
use Rattle.bed_mesh.specs.declared.height.Corners.{Corners}

-- heights within the limits
pub record AreLow (c : Corners) : Type 0 where
  pub first : unsigned_abs c.first ≤ 5_000_000
  pub right : unsigned_abs c.right ≤ 5_000_000
  pub above : unsigned_abs c.above ≤ 5_000_000
  pub across : unsigned_abs c.across ≤ 5_000_000

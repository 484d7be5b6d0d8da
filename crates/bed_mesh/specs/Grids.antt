-- A bed that was measured on a grid: the height at any place.
use Rattle.std.specs.Prelude.{◌≡◌, ℕ, ◌+◌, ◌-◌, ◌*◌, ◌/◌, ◌≤◌, ℤ, pos, negsuc, ◌+ℤ◌, ◌-ℤ◌, ◌*ℤ◌, ◌≤ℤ◌, min, All, List, length, slice_index_or, unsigned_abs}
use Rattle.std.specs.Int.{int_div_euclid}
use Rattle.bed_mesh.specs.declared.mesh.Grid.{Grid}
use Rattle.bed_mesh.specs.declared.mesh.Mesh.{Mesh}

-- the part of a number above 0
abbrev pub above_zero : ℤ → ℕ
above_zero (pos n) = n
above_zero (negsuc n) = 0

-- the distance of a grid's last line from its first
abbrev pub extent : Grid → ℕ
extent g = g.step * (g.count - 1)

-- how far a place is behind the first line, brought within the grid
abbrev pub offset : Grid → ℤ → ℕ
offset g p = min (above_zero (p -ℤ g.from)) (extent g)

-- the cell of an offset; at a line the one behind it, where there is one
abbrev pub cell : Grid → ℕ → ℕ
cell g o = min (o / g.step) (g.count - 2)

-- the measured height where two lines meet
abbrev pub corner : Mesh → ℕ → ℕ → ℤ
corner m i j = slice_index_or m.heights (j * m.x.count + i) (pos 0)

-- The height in a cell with these lengths and heights of its corners, at distances from its lower corner: their mean,
-- weighted with the areas opposite to them, rounded down.
unfoldable pub blend : ℕ → ℕ → ℤ → ℤ → ℤ → ℤ → ℕ → ℕ → ℤ
blend dx dy h00 h10 h01 h11 u w =
    int_div_euclid (((h00 *ℤ pos ((dx - u) * (dy - w))) +ℤ (h10 *ℤ pos (u * (dy - w))))
    +ℤ ((h01 *ℤ pos ((dx - u) * w)) +ℤ (h11 *ℤ pos (u * w))))
    (pos (dx * dy))

-- the height in a cell of a mesh
abbrev pub cell_height : Mesh → ℕ → ℕ → ℕ → ℕ → ℤ
cell_height m i j u w =
    blend m.x.step m.y.step (corner m i j) (corner m (i + 1) j) (corner m i (j + 1)) (corner m (i + 1) (j + 1)) u w

-- the height at a place
unfoldable pub height : Mesh → ℤ → ℤ → ℤ
height m x y =
    let ox = offset m.x x in
    let oy = offset m.y y in
    let i = cell m.x ox in
    let j = cell m.y oy in
    cell_height m i j (ox - i * m.x.step) (oy - j * m.y.step)

-- a grid within the limits
pub record IsValidGrid (g : Grid) : Type 0 where
  pub from : unsigned_abs g.from ≤ 500_000_000
  pub step_low : 1_000_000 ≤ g.step
  pub step_high : g.step ≤ 500_000_000
  pub count_low : 2 ≤ g.count
  pub count_high : g.count ≤ 64

-- a mesh within the limits, with a height for each place where lines meet
pub record IsValidMesh (m : Mesh) : Type 0 where
  pub x : IsValidGrid m.x
  pub y : IsValidGrid m.y
  pub count : length m.heights ≡ m.x.count * m.y.count
  pub limits : All (λ h. unsigned_abs h ≤ 5_000_000) m.heights

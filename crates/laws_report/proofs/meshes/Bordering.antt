-- The height on a border of cells is the same by both.
use Rattle.std.proofs.Common.{◌≡◌, ◌⊎◌, ◌∙◌, ℕ, ◌+◌, ◌-◌, ◌*◌, ◌/◌, ◌<◌, ◌≤◌, inl, inr, sym, ap, arith, rules}
use Rattle.std.specs.Prelude.{ℤ, pos, ◌+ℤ◌, ◌*ℤ◌}
use Rattle.std.specs.Int.{int_div_euclid}
use Rattle.std.proofs.lemmas.Int.{ints}
use Rattle.std.proofs.Math.IntN.{*ℤ-zero}
use Rattle.std.proofs.Math.Nat.{div-lt_iff_lt-mul, eq-or-lt_of_le, le-div_iff_mul-le}
use Rattle.bed_mesh.specs.Grids.{IsValidGrid, IsValidMesh, blend, cell, cell_height, corner, height, offset}
use Rattle.bed_mesh.specs.declared.mesh.Grid.{Grid}
use Rattle.bed_mesh.specs.declared.mesh.Mesh.{Mesh}
use Rattle.laws_report.specs.meshes.Borders.{IsInCell}

-- a height with no area has no weight
weightless : (h : ℤ) (n : ℕ) → n ≡ 0 → h *ℤ pos n ≡ pos 0
weightless h n e = ap (λ k. h *ℤ pos k) e ∙ *ℤ-zero h

none_across : (a b : ℕ) → (a - a) * b ≡ 0
none_across a b = let e : a - a ≡ 0 = omega arith in ap (λ k. k * b) e ∙ omega arith

none_along : (a b : ℕ) → b * (a - a) ≡ 0
none_along a b = let e : a - a ≡ 0 = omega arith in ap (λ k. b * k) e ∙ omega arith

whole : (a : ℕ) → a ≡ a - 0
whole a = omega arith

nothing : (a : ℕ) → 0 * a ≡ 0
nothing a = omega arith

nothing_along : (a : ℕ) → a * 0 ≡ 0
nothing_along a = omega arith

-- the height on the second line of a cell of x or y is that on the first line of the next one
across_sum : (a b c d k l m n : ℤ) → a ≡ pos 0 → c ≡ pos 0 → l ≡ pos 0 → n ≡ pos 0 → b ≡ k → d ≡ m → (a +ℤ b) +ℤ (c +ℤ d) ≡ (k +ℤ l) +ℤ (m +ℤ n)
across_sum a b c d k l m n p q r s t u = omega (arith, ints, p, q, r, s, t, u)

along_sum : (a b c d k l m n : ℤ) → a ≡ pos 0 → b ≡ pos 0 → m ≡ pos 0 → n ≡ pos 0 → c ≡ k → d ≡ l → (a +ℤ b) +ℤ (c +ℤ d) ≡ (k +ℤ l) +ℤ (m +ℤ n)
along_sum a b c d k l m n p q r s t u = omega (arith, ints, p, q, r, s, t, u)

blend_x : (dx dy : ℕ) (h00 h10 h01 h11 h20 h21 : ℤ) (w : ℕ) → blend dx dy h00 h10 h01 h11 dx w ≡ blend dx dy h10 h20 h11 h21 0 w
unfolding blend
blend_x dx dy h00 h10 h01 h11 h20 h21 w = ap (λ (s : ℤ). int_div_euclid s (pos (dx * dy)))
    (across_sum (h00 *ℤ pos ((dx - dx) * (dy - w))) (h10 *ℤ pos (dx * (dy - w))) (h01 *ℤ pos ((dx - dx) * w)) (h11 *ℤ pos (dx * w))
    (h10 *ℤ pos ((dx - 0) * (dy - w))) (h20 *ℤ pos (0 * (dy - w))) (h11 *ℤ pos ((dx - 0) * w)) (h21 *ℤ pos (0 * w))
    (weightless h00 ((dx - dx) * (dy - w)) (none_across dx (dy - w))) (weightless h01 ((dx - dx) * w) (none_across dx w))
    (weightless h20 (0 * (dy - w)) (nothing (dy - w))) (weightless h21 (0 * w) (nothing w))
    (ap (λ k. h10 *ℤ pos (k * (dy - w))) (whole dx)) (ap (λ k. h11 *ℤ pos (k * w)) (whole dx)))

blend_y : (dx dy : ℕ) (h00 h10 h01 h11 h02 h12 : ℤ) (u : ℕ) → blend dx dy h00 h10 h01 h11 u dy ≡ blend dx dy h01 h11 h02 h12 u 0
unfolding blend
blend_y dx dy h00 h10 h01 h11 h02 h12 u = ap (λ (s : ℤ). int_div_euclid s (pos (dx * dy)))
    (along_sum (h00 *ℤ pos ((dx - u) * (dy - dy))) (h10 *ℤ pos (u * (dy - dy))) (h01 *ℤ pos ((dx - u) * dy)) (h11 *ℤ pos (u * dy))
    (h01 *ℤ pos ((dx - u) * (dy - 0))) (h11 *ℤ pos (u * (dy - 0))) (h02 *ℤ pos ((dx - u) * 0)) (h12 *ℤ pos (u * 0))
    (weightless h00 ((dx - u) * (dy - dy)) (none_along dy (dx - u))) (weightless h10 (u * (dy - dy)) (none_along dy u))
    (weightless h02 ((dx - u) * 0) (nothing_along (dx - u))) (weightless h12 (u * 0) (nothing_along u))
    (ap (λ k. h01 *ℤ pos ((dx - u) * k)) (whole dy)) (ap (λ k. h11 *ℤ pos (u * k)) (whole dy)))

-- a cell that has a place is that of the place, or the one ahead of it, and the place is on the line between them
abbrev IsOfPlace : Grid → ℕ → ℕ → Type 0
IsOfPlace g i o = (cell g o ≡ i) ⊎ ((cell g o ≡ i + 1) × (o ≡ (i + 1) * g.step))

-- how many whole steps are in an offset
no_more : (i o step : ℕ) → 0 < step → o < (i + 1) * step → o / step < i + 1
no_more i o step some high = (div-lt_iff_lt-mul some).1 high

on_line : (i o step : ℕ) → 0 < step → o ≡ (i + 1) * step → o / step ≡ i + 1
on_line i o step some e = search (rules, le-div_iff_mul-le, div-lt_iff_lt-mul)

of_next : (g : Grid) (i o : ℕ) → o / g.step ≡ i + 1 → o ≡ (i + 1) * g.step → ((i + 1 + 1 ≡ g.count) ⊎ (i + 1 + 1 < g.count)) → IsOfPlace g i o
of_next g i o is e (inl last) = inl (omega (arith, is, last))
of_next g i o is e (inr more) = inr (omega (arith, is, more), e)

of_line : (g : Grid) (i o : ℕ) → 0 < g.step → i + 1 < g.count → i ≤ o / g.step → ((o ≡ (i + 1) * g.step) ⊎ (o < (i + 1) * g.step)) → IsOfPlace g i o
of_line g i o some there low (inl e) = of_next g i o (on_line i o g.step some e) e (eq-or-lt_of_le (omega (arith, there)))
of_line g i o some there low (inr h) = let high = no_more i o g.step some h in inl (omega (arith, there, low, high))

of_place : (g : Grid) (i o : ℕ) → IsValidGrid g → IsInCell g i o → IsOfPlace g i o
of_place g i o valid h = search (rules, of_line, le-div_iff_mul-le, eq-or-lt_of_le)

-- an offset on the line between two cells, from the first line of each
from_next : (i o step : ℕ) → o ≡ (i + 1) * step → o - (i + 1) * step ≡ 0
from_next i o step e = omega (arith, e)

from_this : (i o step : ℕ) → o ≡ (i + 1) * step → o - i * step ≡ step
from_this i o step e = omega (arith, e)

-- so along x, and along y
over_x : (m : Mesh) (i j o w : ℕ) → IsOfPlace m.x i o → cell_height m (cell m.x o) j (o - cell m.x o * m.x.step) w ≡ cell_height m i j (o - i * m.x.step) w
over_x m i j o w p5 = search (rules, from_next, blend_x, from_this)

over_y : (m : Mesh) (i j o u : ℕ) → IsOfPlace m.y j o → cell_height m i (cell m.y o) u (o - cell m.y o * m.y.step) ≡ cell_height m i j u (o - j * m.y.step)
over_y m i j o u p5 = search (rules, from_next, blend_y, from_this)

pub in_each_cell : (m : Mesh) (x y : ℤ) (i j : ℕ) → IsValidMesh m → IsInCell m.x i (offset m.x x) → IsInCell m.y j (offset m.y y)
    → height m x y ≡ cell_height m i j (offset m.x x - i * m.x.step) (offset m.y y - j * m.y.step)
unfolding height
in_each_cell m x y i j valid across along =
    let a = offset m.x x in
    let b = offset m.y y in
    over_x m i (cell m.y b) a (b - cell m.y b * m.y.step) (of_place m.x i a valid.x across)
    ∙ over_y m i j b (a - i * m.x.step) (of_place m.y j b valid.y along)

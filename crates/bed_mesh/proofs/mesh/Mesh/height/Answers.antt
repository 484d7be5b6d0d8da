use Rattle.std.proofs.Common.{◌≡◌, ◌+◌, ◌-◌, ◌*◌, ◌∙◌, ℕ, refl, arith}
use Rattle.std.specs.Prelude.{ℤ}
use Rattle.std.proofs.lemmas.Int.{ints, to_z-of_z}
use mir.Syntax.{w64}
use Rattle.bed_mesh.specs.declared.mesh.Mesh.{Mesh}
use Rattle.bed_mesh.specs.Grids.{blend, cell, corner, height, offset}
use Rattle.bed_mesh.proofs.mesh.Mesh.height.Goals as goal

blended : (m : Mesh) (x y x' y' a b c d a' b' c' d' r : ℤ) (i j u w : ℕ) → x' ≡ x → y' ≡ y → i ≡ cell m.x (offset m.x x') → j ≡ cell m.y (offset m.y y')
    → u ≡ offset m.x x' - cell m.x (offset m.x x') * m.x.step → w ≡ offset m.y y' - cell m.y (offset m.y y') * m.y.step
    → a ≡ corner m i j → b ≡ corner m (i + 1) j → c ≡ corner m i (j + 1) → d ≡ corner m (i + 1) (j + 1) → a' ≡ a → b' ≡ b → c' ≡ c → d' ≡ d
    → r ≡ blend m.x.step m.y.step a' b' c' d' u w → r ≡ height m x y
unfolding height
blended m x y x' y' a b c d a' b' c' d' r i j u w ex ey ei ej eu ew ea eb ec ed fa fb fc fd is = rw (is, fa, fb, fc, fd, ea, eb, ec, ed, eu, ew, ei, ej, ex, ey) refl

pub spot_of-across-requires-clause-near : goal.spot_of-across-requires-clause-near
spot_of-across-requires-clause-near c = omega (arith, ints)

pub spot_of-along-requires-clause-near : goal.spot_of-along-requires-clause-near
spot_of-along-requires-clause-near c = omega (arith, ints)

pub returns-clause-value : goal.returns-clause-value
returns-clause-value c =
    to_z-of_z w64 c.blend.result (record { sfits = c.blend.type_inv })
    ∙ blended c.args.self.now _ _ _ _ _ _ _ _ _ _ _ _ _ _ _ _ _ (to_z-of_z w64 c.args.x c.ranges.x) (to_z-of_z w64 c.args.y c.ranges.y) c.spot_of-across.ensures.cell c.spot_of-along.ensures.cell
    c.spot_of-across.ensures.within c.spot_of-along.ensures.within c.corner.ensures.value c.corner-2.ensures.value c.corner-3.ensures.value c.corner-4.ensures.value
    (to_z-of_z w64 c.corner.result (record { sfits = c.corner.type_inv })) (to_z-of_z w64 c.corner-2.result (record { sfits = c.corner-2.type_inv }))
    (to_z-of_z w64 c.corner-3.result (record { sfits = c.corner-3.type_inv })) (to_z-of_z w64 c.corner-4.result (record { sfits = c.corner-4.type_inv })) c.blend.ensures.value

pub blend-requires-clause-low : goal.blend-requires-clause-low
blend-requires-clause-low c = record { first = omega (arith, ints); right = omega (arith, ints); above = omega (arith, ints); across = omega (arith, ints) }

pub returns-clause-low : goal.returns-clause-low
returns-clause-low c = omega (arith, ints)

use Rattle.std.proofs.Common.{◌≡◌, ◌∙◌, ◌^◌, refl, arith}
use Rattle.std.specs.Prelude.{ℤ, pos, ◌*ℤ◌, unsigned_abs}
use Rattle.std.proofs.lemmas.Int.{fits_signed_mul, to_z-of_z}
use mir.Val.{SFits, to_z, of_z}
use mir.Syntax.{w64, w128}
use Rattle.bed_mesh.proofs.Bounds.{no_more_than}
use Rattle.bed_mesh.proofs.part.weighted.Goals as goal

fits : (a b x y : ℤ) → a ≡ x → b ≡ y → SFits w128 a → SFits w128 b → SFits w128 (x *ℤ y) → SFits w128 (to_z w128 (of_z w128 a) *ℤ to_z w128 (of_z w128 b))
fits a b x y e f fa fb fz = rw (to_z-of_z w128 a fa, to_z-of_z w128 b fb, e, f) fz

pub overflow_mul-product : goal.overflow_mul-product
overflow_mul-product c =
    fits c.from.result c.from-2.result c.args.value (pos c.args.number) (c.from.ensures ∙ to_z-of_z w64 c.args.value c.ranges.value) c.from-2.ensures (record { sfits = c.from.type_inv }) (record { sfits = c.from-2.type_inv })
    (fits_signed_mul w128 c.args.value (pos c.args.number) (2 ^ 31) (2 ^ 62) c.requires.small (omega (arith, c.requires.part, c.requires.few)) (omega arith))

product : (a b x y : ℤ) → a ≡ x → b ≡ y → SFits w128 a → SFits w128 b → SFits w128 (x *ℤ y) → to_z w128 (of_z w128 (to_z w128 (of_z w128 a) *ℤ to_z w128 (of_z w128 b))) ≡ x *ℤ y
product a b x y e f fa fb fz = rw (to_z-of_z w128 a fa, to_z-of_z w128 b fb, e, f) (to_z-of_z w128 (x *ℤ y) fz)

pub returns-clause-value : goal.returns-clause-value
returns-clause-value c =
    product c.from.result c.from-2.result c.args.value (pos c.args.number) (c.from.ensures ∙ to_z-of_z w64 c.args.value c.ranges.value) c.from-2.ensures (record { sfits = c.from.type_inv }) (record { sfits = c.from-2.type_inv })
    (fits_signed_mul w128 c.args.value (pos c.args.number) (2 ^ 31) (2 ^ 62) c.requires.small (omega (arith, c.requires.part, c.requires.few)) (omega arith))

pub returns-clause-bound : goal.returns-clause-bound
returns-clause-bound c = rw (returns-clause-value c) (no_more_than (unsigned_abs c.args.value) c.args.value _ c.args.number c.args.whole refl (omega arith) c.requires.part)

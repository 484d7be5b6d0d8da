use Rattle.std.proofs.Common.{◌≡◌, ◌≤◌, ◌*◌, ◌^◌, arith, refl}
use Rattle.std.specs.Prelude.{ℤ, pos, ◌*ℤ◌, unsigned_abs}
use Rattle.std.proofs.lemmas.Int.{fits_signed_mul, ints, to_z-of_z, unsigned_abs-mul}
use Rattle.std.proofs.Math.Nat.{mul-le-mul}
use mir.Val.{SFits, to_z, of_z}
use mir.Syntax.{w128}
use Rattle.gcode_state.specs.Sound.{IsWithin}
use Rattle.gcode_state.proofs.linear.product.Goals as goal

short : (z : ℤ) → IsWithin (2 ^ 70) z → unsigned_abs z ≤ 2 ^ 70
short z w = let a = w.above in let b = w.below in omega (arith, ints)

within : (z : ℤ) → unsigned_abs z ≤ 2 ^ 100 → IsWithin (2 ^ 100) z
within z low = record { below = omega (arith, ints); above = omega (arith, ints) }

whole : (a b x y : ℤ) → a ≡ x → b ≡ y → SFits w128 a → SFits w128 b → SFits w128 (x *ℤ y) → to_z w128 (of_z w128 (to_z w128 (of_z w128 a) *ℤ to_z w128 (of_z w128 b))) ≡ x *ℤ y
whole a b x y e f fa fb fz = rw (to_z-of_z w128 a fa, to_z-of_z w128 b fb, e, f) (to_z-of_z w128 (x *ℤ y) fz)

pub returns-clause-value : goal.returns-clause-value
returns-clause-value c =
    whole c.args.change c.from.result c.args.change (pos c.args.factor) refl c.from.ensures c.ranges.change (record { sfits = c.from.type_inv })
    (fits_signed_mul w128 c.args.change (pos c.args.factor) (2 ^ 70) 1_000_000_000 (short c.args.change c.requires.change) c.requires.factor (omega arith))

pub returns-clause-size : goal.returns-clause-size
returns-clause-size c =
    let low : unsigned_abs c.args.change * c.args.factor ≤ 2 ^ 70 * 1_000_000_000 = mul-le-mul (short c.args.change c.requires.change) c.requires.factor in
    rw (returns-clause-value c) (within _ (rw unsigned_abs-mul (omega (arith, low))))

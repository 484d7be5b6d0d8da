use Rattle.std.proofs.Common.{◌≡◌, ◌-◌, ◌*◌, ◌≤◌, ◌∙◌, ℕ, refl, arith}
use Rattle.std.specs.Prelude.{ℤ, pos, ◌+ℤ◌, ◌*ℤ◌, unsigned_abs}
use Rattle.std.specs.Int.{int_div_euclid}
use Rattle.std.proofs.Math.Nat.{mul-le-mul}
use Rattle.std.proofs.lemmas.Int.{fits_signed_from_abs, ints, to_z-of_z}
use mir.Val.{to_z, of_z}
use mir.Syntax.{w64, w128}
use Rattle.bed_mesh.specs.Grids.{blend}
use Rattle.bed_mesh.proofs.height.blend.Goals as goal

same : (z : ℤ) → unsigned_abs z ≤ 5_000_000 → to_z w64 (of_z w64 z) ≡ z
same z low = to_z-of_z w64 z (fits_signed_from_abs w64 z (omega arith))

blended : (dx dy u w whole : ℕ) (a b c d a' b' c' d' near far near' far' all all' r : ℤ) → a' ≡ a → b' ≡ b → c' ≡ c → d' ≡ d
    → near ≡ (a' *ℤ pos ((dx - u) * (dy - w))) +ℤ (b' *ℤ pos (u * (dy - w))) → far ≡ (c' *ℤ pos ((dx - u) * w)) +ℤ (d' *ℤ pos (u * w))
    → near' ≡ near → far' ≡ far → all ≡ near' +ℤ far' → all' ≡ all → whole ≡ dx * dy → r ≡ int_div_euclid all' (pos whole) → r ≡ blend dx dy a b c d u w
unfolding blend
blended dx dy u w whole a b c d a' b' c' d' near far near' far' all all' r ea eb ec ed en ef sn sf es ss ew is = rw (is, ew, ss, es, sn, sf, en, ef, ea, eb, ec, ed) refl

pub row-near-requires-clause-left_low : goal.row-near-requires-clause-left_low
row-near-requires-clause-left_low c = omega (arith, ints)

pub row-near-requires-clause-right_low : goal.row-near-requires-clause-right_low
row-near-requires-clause-right_low c = omega (arith, ints)

pub row-far-requires-clause-left_low : goal.row-far-requires-clause-left_low
row-far-requires-clause-left_low c = omega (arith, ints)

pub row-far-requires-clause-right_low : goal.row-far-requires-clause-right_low
row-far-requires-clause-right_low c = omega (arith, ints)

pub sum-requires-clause-one : goal.sum-requires-clause-one
sum-requires-clause-one c = omega (arith, ints)

pub sum-requires-clause-two : goal.sum-requires-clause-two
sum-requires-clause-two c = omega (arith, ints)

pub part_of-requires-clause-bound : goal.part_of-requires-clause-bound
part_of-requires-clause-bound c = omega (arith, ints)

pub part_of-requires-clause-some : goal.part_of-requires-clause-some
part_of-requires-clause-some c = let l : 1 ≤ c.args.dx = omega arith in let w : 1 ≤ c.args.dy = omega arith in let some : 1 * 1 ≤ c.args.dx * c.args.dy = mul-le-mul l w in omega arith

pub returns-clause-value : goal.returns-clause-value
returns-clause-value c =
    to_z-of_z w64 c.part_of.result (record { sfits = c.part_of.type_inv })
    ∙ blended c.args.dx c.args.dy c.args.u c.args.w c.area-whole.result _ _ _ _ _ _ _ _ _ _ _ _ _ _ _ (same _ c.requires.low.first) (same _ c.requires.low.right) (same _ c.requires.low.above) (same _ c.requires.low.across)
    c.row-near.ensures.value c.row-far.ensures.value (to_z-of_z w128 c.row-near.result (record { sfits = c.row-near.type_inv })) (to_z-of_z w128 c.row-far.result (record { sfits = c.row-far.type_inv }))
    c.sum.ensures.value (to_z-of_z w128 c.sum.result (record { sfits = c.sum.type_inv })) c.area-whole.ensures.value c.part_of.ensures.value

pub returns-clause-low : goal.returns-clause-low
returns-clause-low c = omega (arith, ints)

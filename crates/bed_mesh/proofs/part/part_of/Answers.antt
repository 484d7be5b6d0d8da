use Rattle.std.proofs.Common.{◌≡◌, ◌≤◌, ◌∙◌, ap, arith, sym, subst}
use Rattle.std.specs.Prelude.{ℤ, pos, unsigned_abs}
use Rattle.std.specs.Int.{int_div_euclid}
use Rattle.std.proofs.lemmas.Int.{fits_signed_from_abs, to_z-of_z}
use mir.Val.{to_z, of_z}
use mir.Syntax.{w64, w128}
use Rattle.bed_mesh.proofs.Bounds.{quotient_low, quotient_same}
use Rattle.bed_mesh.proofs.part.part_of.Goals as goal

is : (c : goal.After-div_euclid-quotient) → c.div_euclid-quotient.result ≡ int_div_euclid c.args.sum (pos c.args.whole)
is c = quotient_same _ _ _ _ _ c.div_euclid-quotient.ensures (to_z-of_z w128 c.args.sum c.ranges.sum) (to_z-of_z w128 c.from.result (record { sfits = c.from.type_inv }) ∙ c.from.ensures)

low : (c : goal.After-div_euclid-quotient) → unsigned_abs c.div_euclid-quotient.result ≤ c.args.most
low c = subst (λ (z : ℤ). unsigned_abs z ≤ c.args.most) (sym (is c)) (quotient_low c.args.sum c.args.whole c.args.most c.requires.some c.requires.bound)

wide : (c : goal.After-div_euclid-quotient) → to_z w128 (of_z w128 c.div_euclid-quotient.result) ≡ c.div_euclid-quotient.result
wide c = to_z-of_z w128 c.div_euclid-quotient.result (record { sfits = c.div_euclid-quotient.type_inv })

narrow : (c : goal.After-div_euclid-quotient) → to_z w64 (of_z w64 (to_z w128 (of_z w128 c.div_euclid-quotient.result))) ≡ c.div_euclid-quotient.result
narrow c = let l = low c in let s = c.requires.small in ap (λ (z : ℤ). to_z w64 (of_z w64 z)) (wide c) ∙ to_z-of_z w64 c.div_euclid-quotient.result (fits_signed_from_abs w64 c.div_euclid-quotient.result (omega arith))

pub overflow_cast-result : goal.overflow_cast-result
overflow_cast-result c = let l = low c in let s = c.requires.small in rw (wide c) (fits_signed_from_abs w64 c.div_euclid-quotient.result (omega arith))

pub returns-clause-value : goal.returns-clause-value
returns-clause-value c = narrow c ∙ is c

pub returns-clause-low : goal.returns-clause-low
returns-clause-low c = rw (narrow c) (low c)

use Rattle.std.proofs.Common.{◌≡◌, ◌≤◌, ◌∙◌, ap, arith}
use Rattle.std.specs.Prelude.{ℤ, pos, ◌+ℤ◌, ◌-ℤ◌, ◌*ℤ◌, unsigned_abs}
use Rattle.std.specs.Int.{int_div_euclid}
use Rattle.std.proofs.lemmas.Int.{ints, to_z-of_z}
use mir.Val.{to_z, of_z}
use mir.Syntax.{w64, w128}
use Rattle.bed_mesh.proofs.Bounds.{as_behind, behind, near_start}
use Rattle.bed_mesh.proofs.cut.part_way.Goals as goal

sum : (c : goal.After-part_of-part) → to_z w128 (of_z w128 c.weighted.result) ≡ c.weighted.result
sum c = to_z-of_z w128 c.weighted.result (record { sfits = c.weighted.type_inv })

change : (c : goal.After-part_of-part) → to_z w64 (of_z w64 c.above-change.result) ≡ c.above-change.result
change c = to_z-of_z w64 c.above-change.result (record { sfits = c.above-change.type_inv })

apart : (c : goal.After-part_of-part) → c.above-change.result ≡ c.args.end -ℤ c.args.start
apart c = as_behind _ _ _ _ _ c.above-change.ensures.value (to_z-of_z w64 c.args.end c.ranges.end) (to_z-of_z w64 c.args.start c.ranges.start)

low : (c : goal.After-part_of-part) → unsigned_abs c.part_of-part.result ≤ unsigned_abs (c.args.end -ℤ c.args.start)
low c =
    let e : c.unsigned_abs.result ≡ unsigned_abs (c.args.end -ℤ c.args.start) = c.unsigned_abs.ensures.value ∙ ap unsigned_abs (change c ∙ apart c) in
    let l = c.part_of-part.ensures.low in omega arith

result : (c : goal.After-part_of-part) → to_z w64 (of_z w64 (to_z w64 (of_z w64 c.args.start) +ℤ to_z w64 (of_z w64 c.part_of-part.result))) ≡ c.args.start +ℤ c.part_of-part.result
result c = let l = low c in let s = c.requires.start in let d = c.requires.change in omega (arith, ints)

pub returns-clause-value : goal.returns-clause-value
returns-clause-value c =
    behind c.args.start c.args.end c.part_of-part.result _ c.weighted.result c.above-change.result c.args.number c.args.whole
    (c.part_of-part.ensures.value ∙ ap (λ (z : ℤ). int_div_euclid z (pos c.args.whole)) (sum c))
    (c.weighted.ensures.value ∙ ap (λ (z : ℤ). z *ℤ pos c.args.number) (change c)) (apart c) (result c)

pub returns-clause-near : goal.returns-clause-near
returns-clause-near c = near_start _ c.args.start c.part_of-part.result _ (result c) (low c)

pub weighted-requires-clause-small : goal.weighted-requires-clause-small
weighted-requires-clause-small c = let d = c.requires.change in omega (arith, ints)

pub part_of-part-requires-clause-small : goal.part_of-part-requires-clause-small
part_of-part-requires-clause-small c = let d = c.requires.change in omega (arith, ints)

pub overflow_add-result : goal.overflow_add-result
overflow_add-result c = let l = low c in let s = c.requires.start in let d = c.requires.change in omega (arith, ints)

pub above-change-requires-clause-place : goal.above-change-requires-clause-place
above-change-requires-clause-place c = omega (arith, ints)

pub above-change-requires-clause-other : goal.above-change-requires-clause-other
above-change-requires-clause-other c = omega (arith, ints)

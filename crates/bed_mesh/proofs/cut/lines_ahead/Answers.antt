use Rattle.std.proofs.Common.{◌∙◌, sym, arith}
use Rattle.std.proofs.lemmas.Int.{ints, to_z-of_z}
use mir.Syntax.{w64}
use Rattle.bed_mesh.proofs.Cutting.{behind_start, distances_at, down_by, same_span}
use Rattle.bed_mesh.proofs.cut.lines_ahead.Goals as goal

pub returns-clause-numbers : goal.returns-clause-numbers
returns-clause-numbers c =
    let same = to_z-of_z w64 c.first_distance-first.result (record { sfits = c.first_distance-first.type_inv }) in
    let down = sym same ∙ down_by _ c.unsigned_abs-size.result c.if-first-gt0.false c.unsigned_abs-size.ensures.value in
    let span = same_span _ _ _ _ _ c.abs_diff-span.ensures (to_z-of_z w64 c.args.end c.ranges.end) (to_z-of_z w64 c.args.start c.ranges.start) in
    behind_start c.args.parts _ _ _ _ _ _ _ _ (distances_at _ _ _ _ _ _ c.first_distance-first.ensures.value (to_z-of_z w64 c.args.start c.ranges.start) (to_z-of_z w64 c.args.end c.ranges.end)) down (omega (arith, c.requires.valid.step_low)) c.saturating_sub.ensures span

pub first_distance-first-requires-clause-start : goal.first_distance-first-requires-clause-start
first_distance-first-requires-clause-start c = omega (arith, ints)

use Rattle.std.proofs.Common.{◌≡◌, ◌∙◌}
use Rattle.std.specs.Prelude.{ℤ}
use Rattle.std.proofs.lemmas.Int.{to_z-of_z}
use mir.Syntax.{w64}
use Rattle.bed_mesh.proofs.Rows.{chosen_same, same_err, same_ok, six_same}
use Rattle.bed_mesh.proofs.table.two_grids.Goals as goal

pub returns-clause-ok : goal.returns-clause-ok
returns-clause-ok c =
    same_ok c.choose.result _ _ (chosen_same _ _ _ _ _ _ c.are_whole.ensures c.grid.ensures.value c.grid-2.ensures.value ∙ six_same _ _ _ _ _ _ _ _ _ _ _ _ (to_z-of_z w64 c.args.x c.ranges.x) (to_z-of_z w64 c.args.y c.ranges.y) (to_z-of_z w64 c.args.dx c.ranges.dx) (to_z-of_z w64 c.args.dy c.ranges.dy) (to_z-of_z w64 c.args.nx c.ranges.nx) (to_z-of_z w64 c.args.ny c.ranges.ny)) c.choose.ensures.ok

pub returns-clause-err : goal.returns-clause-err
returns-clause-err c =
    same_err c.choose.result _ _ (chosen_same _ _ _ _ _ _ c.are_whole.ensures c.grid.ensures.value c.grid-2.ensures.value ∙ six_same _ _ _ _ _ _ _ _ _ _ _ _ (to_z-of_z w64 c.args.x c.ranges.x) (to_z-of_z w64 c.args.y c.ranges.y) (to_z-of_z w64 c.args.dx c.ranges.dx) (to_z-of_z w64 c.args.dy c.ranges.dy) (to_z-of_z w64 c.args.nx c.ranges.nx) (to_z-of_z w64 c.args.ny c.ranges.ny)) c.choose.ensures.err

use Rattle.std.proofs.Common.{◌≡◌, ◌∙◌, sym, arith}
use Rattle.std.proofs.lemmas.Int.{to_z-of_z}
use mir.Syntax.{w64}
use Rattle.bed_mesh.proofs.Rows.{same_err, same_ok, six_of, six_same}
use Rattle.bed_mesh.proofs.table.read_grids.Goals as goal

pub returns-clause-ok : goal.returns-clause-ok
returns-clause-ok c =
    same_ok c.two_grids.result _ _ (six_same _ _ _ _ _ _ _ _ _ _ _ _ (to_z-of_z w64 c.number_at-x.result (record { sfits = c.number_at-x.type_inv }) ∙ c.number_at-x.ensures) (to_z-of_z w64 c.number_at-y.result (record { sfits = c.number_at-y.type_inv }) ∙ c.number_at-y.ensures) (to_z-of_z w64 c.number_at-dx.result (record { sfits = c.number_at-dx.type_inv }) ∙ c.number_at-dx.ensures) (to_z-of_z w64 c.number_at-dy.result (record { sfits = c.number_at-dy.type_inv }) ∙ c.number_at-dy.ensures) (to_z-of_z w64 c.number_at-nx.result (record { sfits = c.number_at-nx.type_inv }) ∙ c.number_at-nx.ensures) (to_z-of_z w64 c.number_at-ny.result (record { sfits = c.number_at-ny.type_inv }) ∙ c.number_at-ny.ensures)
    ∙ sym (six_of c.args.numbers.now (omega arith) (omega arith))) c.two_grids.ensures.ok

pub returns-clause-err : goal.returns-clause-err
returns-clause-err c =
    same_err c.two_grids.result _ _ (six_same _ _ _ _ _ _ _ _ _ _ _ _ (to_z-of_z w64 c.number_at-x.result (record { sfits = c.number_at-x.type_inv }) ∙ c.number_at-x.ensures) (to_z-of_z w64 c.number_at-y.result (record { sfits = c.number_at-y.type_inv }) ∙ c.number_at-y.ensures) (to_z-of_z w64 c.number_at-dx.result (record { sfits = c.number_at-dx.type_inv }) ∙ c.number_at-dx.ensures) (to_z-of_z w64 c.number_at-dy.result (record { sfits = c.number_at-dy.type_inv }) ∙ c.number_at-dy.ensures) (to_z-of_z w64 c.number_at-nx.result (record { sfits = c.number_at-nx.type_inv }) ∙ c.number_at-nx.ensures) (to_z-of_z w64 c.number_at-ny.result (record { sfits = c.number_at-ny.type_inv }) ∙ c.number_at-ny.ensures)
    ∙ sym (six_of c.args.numbers.now (omega arith) (omega arith))) c.two_grids.ensures.err

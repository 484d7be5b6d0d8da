use Rattle.std.proofs.lemmas.Int.{to_z-of_z}
use mir.Syntax.{w64}
use Rattle.bed_mesh.proofs.Ways.{on_the_way}
use Rattle.bed_mesh.proofs.cut.place_behind.Goals as goal

pub returns-clause-near : goal.returns-clause-near
returns-clause-near c =
    on_the_way c.args.m.now _ _ _ _ _ _ _ _ (to_z-of_z w64 c.coordinate_behind-x.result (record { sfits = c.coordinate_behind-x.type_inv })) (to_z-of_z w64 c.coordinate_behind-y.result (record { sfits = c.coordinate_behind-y.type_inv }))
    (to_z-of_z w64 c.coordinate_behind-z.result (record { sfits = c.coordinate_behind-z.type_inv })) (to_z-of_z w64 c.coordinate_behind-e.result (record { sfits = c.coordinate_behind-e.type_inv }))
    c.coordinate_behind-x.ensures.near c.coordinate_behind-y.ensures.near c.coordinate_behind-z.ensures.near c.coordinate_behind-e.ensures.near

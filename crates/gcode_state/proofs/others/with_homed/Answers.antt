use Rattle.std.proofs.Common.{rules}
use Rattle.std.proofs.lemmas.Int.{to_z-of_z}
use Rattle.std.specs.Int.{w64, w128}
use Rattle.std.specs.Prelude.{FitsSigned}
use Rattle.gcode_state.proofs.Homed.{homed_axes}
use Rattle.gcode_state.proofs.others.with_homed.Goals as goal

pub returns-clause-value : goal.returns-clause-value
returns-clause-value c =
    let at : FitsSigned w64 c.args.state.now.e_at = search rules in
    let reads : FitsSigned w128 c.args.state.now.e_reads = search rules in
    let here : FitsSigned w64 c.args.at = search rules in
    simp to_z-of_z (homed_axes c.args.state.now c.args.axis c.args.at c.stand-x.result c.stand-y.result c.stand-z.result
    (simp to_z-of_z at c.stand-x.ensures.value) (simp to_z-of_z at c.stand-y.ensures.value) (simp to_z-of_z at c.stand-z.ensures.value))

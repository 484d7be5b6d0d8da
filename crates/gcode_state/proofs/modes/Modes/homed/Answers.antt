use Rattle.std.proofs.Common.{◌≡◌, ◌∙◌, ap, rules}
use Rattle.std.proofs.lemmas.Int.{to_z-of_z}
use Rattle.std.specs.Int.{w64}
use Rattle.std.specs.Prelude.{FitsSigned}
use Rattle.gcode_state.specs.States.{homed_at}
use Rattle.gcode_state.proofs.modes.Modes.homed.Goals as goal

pub returns : goal.returns
returns c =
    let here : FitsSigned w64 c.args.at = search rules in
    let value : c.self.inside.state ≡ c.args.self.now = c.self.view_is in
    simp to_z-of_z at c.with_homed-self-inside.ensures.value ∙ ap (λ s. homed_at s c.args.axis c.args.at) value

use Rattle.std.proofs.Common.{◌∙◌, ◌-◌, ap, rules}
use Rattle.std.proofs.Math.ListN.{set}
use Rattle.std.proofs.lemmas.Int.{to_z-of_z}
use Rattle.std.specs.Int.{w64}
use Rattle.std.specs.Prelude.{FitsSigned}
use Rattle.gcode_text.specs.Slots.{given_in}
use Rattle.gcode_text.proofs.Slots.{slots_set}
use Rattle.gcode_text.proofs.word.Letters.set.Goals as goal

pub returns : goal.returns
returns c =
    let fits : FitsSigned w64 c.slot_of-slot.result.1 = search rules in
    simp to_z-of_z (slots_set c.self.inside.slots c.self.inside.numbers (c.args.letter - 65) c.slot_of-slot.result.0 c.slot_of-slot.result.1
    ∙ ap (λ w. set w (c.args.letter - 65) (given_in c.slot_of-slot.result.0 c.slot_of-slot.result.1)) c.self.view_is
    ∙ ap (λ given. set c.args.self.now (c.args.letter - 65) given) c.slot_of-slot.ensures)

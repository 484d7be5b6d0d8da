use Rattle.std.proofs.Common.{◌<◌, ◌≤◌, ◌-◌, ◌∙◌, sym, ap, get_or, length, arith, rules, pos, None}
use Rattle.std.proofs.lemmas.Int.{to_z-of_z}
use Rattle.std.specs.Int.{w64}
use Rattle.std.specs.Prelude.{FitsSigned}
use Rattle.gcode_text.specs.declared.word.Slot.TheVariants.{Absent}
use Rattle.gcode_text.proofs.Slots.{slots_get, given_of_inside}
use Rattle.gcode_text.proofs.word.Letters.get.Goals as goal

pub returns : goal.returns
returns c =
    let fits : FitsSigned w64 (get_or c.self.inside.numbers (c.args.letter - 65) (pos 0)) = search rules in
    let slots : c.args.letter - 65 < length c.self.inside.slots = omega arith in
    let numbers : c.args.letter - 65 < length c.self.inside.numbers = omega arith in
    let low : 65 ≤ c.args.letter = omega arith in
    let high : c.args.letter ≤ 90 = omega arith in
    simp to_z-of_z at c.given_in_slot.ensures ∙ sym (slots_get c.self.inside.slots c.self.inside.numbers (c.args.letter - 65) Absent (pos 0) slots numbers)
    ∙ ap (λ w. get_or w (c.args.letter - 65) None) c.self.view_is ∙ given_of_inside c.args.self.now c.args.letter low high

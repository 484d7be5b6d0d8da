-- Letters as a list of what is given behind each.
use Rattle.std.specs.Prelude.{ℤ, List, [], ◌∷◌, Option, Some, None}
use Rattle.gcode_text.specs.declared.word.Given.{Given}
use Rattle.gcode_text.specs.declared.word.Given.TheVariants.{Bare, Number}
use Rattle.gcode_text.specs.declared.word.Slot.{Slot}
use Rattle.gcode_text.specs.declared.word.Slot.TheVariants as slots

-- what is given in a slot with this number
abbrev pub given_in : Slot → ℤ → Option Given
given_in slots.Absent n = None
given_in slots.Bare n = Some Bare
given_in slots.Number n = Some (Number n)

-- what is given in each slot
abbrev pub slots_of : List Slot → List ℤ → List (Option Given)
slots_of [] numbers = []
slots_of (slot ∷ slots) [] = []
slots_of (slot ∷ slots) (n ∷ numbers) = given_in slot n ∷ slots_of slots numbers

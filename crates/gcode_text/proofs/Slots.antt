-- Letters as a list of what is given.
use Rattle.std.proofs.Common.{◌≡◌, ℕ, zero, suc, ◌-◌, ◌<◌, ◌≤◌, ℤ, List, [], ◌∷◌, length, get_or, refl, ap, arith, Option, None}
use Rattle.std.proofs.Math.ListN.{set}
use Rattle.std.proofs.lemmas.Bool.Decides.{nat_tests}
use Rattle.gcode_text.specs.declared.word.Given.{Given}
use Rattle.gcode_text.specs.declared.word.Slot.{Slot}
use Rattle.gcode_text.specs.Lines.{given_of}
use Rattle.gcode_text.specs.Slots.{given_in, slots_of}

pub slots_set : (slots : List Slot) (numbers : List ℤ) (p : ℕ) (slot : Slot) (n : ℤ) → slots_of (set slots p slot) (set numbers p n) ≡ set (slots_of slots numbers) p (given_in slot n)
slots_set [] numbers p slot n = refl
slots_set (k ∷ slots) [] zero slot n = refl
slots_set (k ∷ slots) [] (suc p) slot n = refl
slots_set (k ∷ slots) (m ∷ numbers) zero slot n = refl
slots_set (k ∷ slots) (m ∷ numbers) (suc p) slot n = ap (λ more. given_in k m ∷ more) (slots_set slots numbers p slot n)

pub slots_get : (slots : List Slot) (numbers : List ℤ) (p : ℕ) (d : Slot) (m : ℤ) → p < length slots → p < length numbers → get_or (slots_of slots numbers) p None ≡ given_in (get_or slots p d) (get_or numbers p m)
slots_get [] numbers p d m a b = absurd (omega arith)
slots_get (k ∷ slots) [] p d m a b = absurd (omega arith)
slots_get (k ∷ slots) (n ∷ numbers) zero d m a b = refl
slots_get (k ∷ slots) (n ∷ numbers) (suc p) d m a b = slots_get slots numbers p d m (omega arith) (omega arith)

-- what is given behind a capital letter
pub given_of_inside : (letters : List (Option Given)) (letter : ℕ) → 65 ≤ letter → letter ≤ 90 → get_or letters (letter - 65) None ≡ given_of letters letter
given_of_inside letters letter low high = grind (arith, nat_tests)

-- A number that counts up to a cap finds the same entry.
use Rattle.std.proofs.Common.{◌≡◌, ℕ, ◌≤◌, List, arith, refl, sym, ◌∙◌, Some, inl, inr, min}
use Rattle.std.proofs.lemmas.Bool.{cases_lt}
use Rattle.std.proofs.lemmas.Bool.Decides.{nat_tests}
use Rattle.gcode_text.specs.declared.table.Entry.{Entry}
use Rattle.gcode_text.specs.declared.table.Entry.TheVariants.{Unknown}
use Rattle.gcode_text.specs.Commands.{head_of, table_entry}
use Rattle.gcode_text.specs.Lines.{reading_of_head, reading_behind}

above : (letter n : ℕ) → 1000 ≤ n → table_entry letter n ≡ Unknown
unfolding table_entry
above letter n h = grind (arith, nat_tests)

pub entry-capped : (letter n : ℕ) → table_entry letter (min n 1000000000000000000) ≡ table_entry letter n
entry-capped letter n = elim (cases_lt n 1000000000000000000) [
  | inl h ↦ (let e : min n 1000000000000000000 ≡ n = omega arith in rw e refl)
  | inr h ↦ above letter (min n 1000000000000000000) (omega arith) ∙ sym (above letter n (omega arith))
]

pub behind_head : (text rest : List ℕ) (letter n number : ℕ) (entry : Entry) → head_of text ≡ Some (record { letter = letter; number = n; rest = rest }) → number ≡ min n 1000000000000000000 → entry ≡ table_entry letter number
    → reading_behind entry rest ≡ reading_of_head (head_of text)
behind_head text rest letter n number entry found capped looked = rw (found, looked, capped, entry-capped) refl

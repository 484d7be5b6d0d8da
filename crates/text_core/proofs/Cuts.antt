-- What stands before a byte is a front of the text.
use Rattle.std.proofs.Common.{◌≡◌, ◌≤◌, ℕ, List, [], ◌∷◌, length, take, arith, refl}
use Rattle.std.proofs.lemmas.Grind.{common_steps}
use Rattle.text_core.specs.Bytes.{before}

pub before_length : (end : ℕ) (text : List ℕ) → length (before end text) ≤ length text
before_length end [] = omega arith
before_length end (b ∷ bs) = grind (arith, common_steps, before_length end bs)

pub take-before : (end : ℕ) (text : List ℕ) → take (length (before end text)) text ≡ before end text
take-before end [] = refl
take-before end (b ∷ bs) = grind (arith, common_steps, take-before end bs)

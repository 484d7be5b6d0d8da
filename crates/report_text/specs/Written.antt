-- What was written of a text.
use Rattle.std.specs.Prelude.{◌≡◌, ℕ, List, ◌++◌, Option, Some}

-- a text begins with another
abbrev pub BeginsWith : List ℕ → List ℕ → Type 0
BeginsWith text front = (rest : List ℕ) × (text ≡ front ++ rest)

-- where it is known what was written before, it is known what is written now: the same, and a whole text behind it
abbrev pub WritesAll : Option (List ℕ) → Option (List ℕ) → List ℕ → Type 0
WritesAll old new text = (before : List ℕ) → old ≡ Some before → new ≡ Some (before ++ text)

-- where it is known what was written before, it is known what is written now: the same, and a front of a text behind it
abbrev pub WritesFront : Option (List ℕ) → Option (List ℕ) → List ℕ → Type 0
WritesFront old new text =
    (before : List ℕ) → old ≡ Some before → (front : List ℕ) × (new ≡ Some (before ++ front)) × BeginsWith text front

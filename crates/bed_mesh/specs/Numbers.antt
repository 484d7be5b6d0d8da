-- Numbers as they are written.
use Rattle.std.specs.Prelude.{ℕ, ◌+◌, ◌/◌, ◌%◌, ℤ, pos, int_lt, List, [], ◌∷◌, ◌++◌, decimal, if◌then◌else◌, unsigned_abs}

-- the six decimals of a number of millionths
abbrev pub six_digits : ℕ → List ℕ
six_digits n =
    (48 + n / 100_000 % 10) ∷ (48 + n / 10_000 % 10) ∷ (48 + n / 1_000 % 10) ∷ (48 + n / 100 % 10) ∷ (48 + n / 10 % 10)
    ∷ (48 + n % 10) ∷ []

-- a number of millionths: its whole, a point, and six decimals
abbrev pub unsigned_text : ℕ → List ℕ
unsigned_text n = decimal (n / 1_000_000) ++ 46 ∷ six_digits n

-- the same, with a `-` before a number below 0
unfoldable pub millionths : ℤ → List ℕ
millionths z = if int_lt z (pos 0) then 45 ∷ unsigned_text (unsigned_abs z) else unsigned_text (unsigned_abs z)

-- a letter with what stands before it, and a number
unfoldable pub word : List ℕ → ℤ → List ℕ
word letter z = letter ++ millionths z

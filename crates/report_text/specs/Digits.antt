-- Digits of numbers, with their leading zeros.
use Rattle.std.specs.Prelude.{ℕ, ◌+◌, ◌/◌, ◌%◌, List, [], ◌∷◌, ◌++◌}

-- a number below 100 in two digits
abbrev pub pair : ℕ → List ℕ
pair p = (48 + p / 10) ∷ (48 + p % 10) ∷ []

-- a number below 10,000 in four digits
abbrev pub four : ℕ → List ℕ
four n = pair (n / 100) ++ pair (n % 100)

-- a number below 100,000,000 in eight digits
abbrev pub eight : ℕ → List ℕ
eight n = four (n / 10000) ++ four (n % 10000)

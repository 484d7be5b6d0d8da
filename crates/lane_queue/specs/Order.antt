-- Messages in order: their numbers have no gap, and what was taken is the beginning of what was put.
use Rattle.std.specs.Prelude.{◌≡◌, ℕ, ◌+◌, List, [], ◌∷◌, ◌++◌}

module _ {T : Type 0} where
  -- the numbers of the messages are first, first + 1 and so on
  abbrev pub RunsFrom : (T → ℕ) → ℕ → List T → Type 0
  RunsFrom number first [] = Unit {0}
  RunsFrom number first (x ∷ xs) = (number x ≡ first) × RunsFrom number (first + 1) xs

  -- a longer list begins with the list
  abbrev pub IsPrefix : List T → List T → Type 0
  IsPrefix xs longer = (rest : List T) × (longer ≡ xs ++ rest)

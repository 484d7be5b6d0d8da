-- A line whose numbers are read one by one.
use Rattle.std.specs.Prelude.{◌≡◌, ℕ, ◌+◌, ℤ, List, ◌++◌, length, Option, Some, None}
use Rattle.text_core.specs.Bytes.{Text}
use Rattle.bed_mesh.specs.Tables.{word_numbers}

-- numbers before others, where those are read
abbrev pub before_all : List ℤ → Option (List ℤ) → Option (List ℤ)
before_all front None = None
before_all front (Some others) = Some (front ++ others)

-- some numbers of the words are added behind others, and so many are left of the count
pub record IsSoFar (words : List Text) (count : ℕ) (old new : List ℤ) (left : ℕ) (rest : List Text) : Type 0 where
  pub front : List ℤ
  pub added : new ≡ old ++ front
  pub numbers : before_all front (word_numbers rest) ≡ word_numbers words
  pub counted : length front + left ≡ count
  pub lengths : length front + length rest ≡ length words

-- What was read of a file.
use Rattle.std.specs.Prelude.{◌≡◌, ◌≤◌, ℕ, List, take, length}

-- the first bytes of a text
pub record IsFrontOf (text front : List ℕ) : Type 0 where
  pub same : front ≡ take (length front) text
  pub inside : length front ≤ length text

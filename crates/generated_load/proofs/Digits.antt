-- How many digits a coordinate has.
use Rattle.std.proofs.Common.{ℕ, ◌<◌, ◌≤◌, ◌/◌, length, decimal, arith}
use Rattle.std.proofs.lemmas.Fmt.{length-decimal-le}

-- the whole millimetres of a coordinate have at most three digits
pub three_digits : (n : ℕ) → n < 200_001 → length (decimal (n / 1_000)) ≤ 3
three_digits n small = length-decimal-le 3 (n / 1_000) (omega arith) (omega arith) (omega arith)

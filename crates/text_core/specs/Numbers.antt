-- A decimal number: an optional sign, digits, and optionally a point and digits.
use Rattle.std.specs.Prelude.{ℕ, ◌+◌, ◌-◌, ◌*◌, ◌/◌, ℤ, pos, ◌-ℤ◌, Bool, true, false, List, [], ◌∷◌, ◌||◌, ◌&&◌, ◌==◌, length, nat_lt, if◌then◌else◌, Option, Some, None}
use Rattle.text_core.specs.Bytes.{is_digit, is_sign, is_point, front, behind, begins, without}

-- the number of these digits behind a number
abbrev pub digits_behind : ℕ → List ℕ → ℕ
digits_behind n [] = n
digits_behind n (d ∷ ds) = digits_behind (10 * n + (d - 48)) ds

-- the number that these digits spell
unfoldable pub value_of : List ℕ → ℕ
value_of digits = digits_behind 0 digits

-- a text of one or more digits
abbrev pub is_natural : List ℕ → Bool
is_natural text = begins is_digit text && (length (behind is_digit text) == 0)

-- decimals, the first worth this much, and each next one a tenth: with 100000 those past the sixth are worth nothing
abbrev pub worth : ℕ → List ℕ → ℕ
worth unit [] = 0
worth unit (d ∷ ds) = (d - 48) * unit + worth (unit / 10) ds

-- the parts of a number that stands first in a text
pub record Parts : Type 0 where
  pub negative : Bool
  pub whole : List ℕ
  pub decimals : List ℕ
  pub rest : List ℕ

-- the digits behind a point that stands first, none where there is no point
abbrev pub decimals_of : List ℕ → List ℕ
decimals_of text = if begins is_point text then front is_digit (without is_point text) else []

-- what stands behind these digits
abbrev pub rest_of : List ℕ → List ℕ
rest_of text = if begins is_point text then behind is_digit (without is_point text) else text

-- the sign, the digits before the point, the decimals, and the rest of a text
unfoldable pub parts_of : List ℕ → Parts
parts_of text =
    let unsigned = without is_sign text in
    let fraction = behind is_digit unsigned in
    record {
      negative = begins (λ b. b == 45) text;
      whole = front is_digit unsigned;
      decimals = decimals_of fraction;
      rest = rest_of fraction;
    }

-- at least one digit, at most so many before the point, and behind them no further point or sign
unfoldable pub is_readable : ℕ → ℕ → ℕ → List ℕ → Bool
is_readable most whole decimals rest = if nat_lt most whole then false
    else (if (whole == 0) && (decimals == 0) then false
    else (if begins (λ b. is_point b || is_sign b) rest then false else true))

-- a number with a minus where there is one
unfoldable pub signed : Bool → ℕ → ℤ
signed negative n = if negative then pos 0 -ℤ pos n else pos n

-- the number of such parts, in millionths
unfoldable pub amount : Parts → ℤ
amount parts = signed parts.negative (value_of parts.whole * 1000000 + worth 100000 parts.decimals)

-- the number that stands first in a text, in millionths, and what stands behind it; it has at most so many
-- digits before the point
unfoldable pub number_at : ℕ → List ℕ → Option (ℤ × List ℕ)
number_at most text =
    let parts = parts_of text in
    if is_readable most (length parts.whole) (length parts.decimals) parts.rest then Some (amount parts, parts.rest)
    else None

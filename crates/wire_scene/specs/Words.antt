-- The numbers among the words of a line.
use Rattle.std.specs.Prelude.{ℕ, List, ◌&&◌, if◌then◌else◌, nat_le, Option, Some, None}
use Rattle.text_core.specs.Numbers.{is_natural, value_of}

-- the number that a word spells by digits alone, where it lies within these limits
abbrev pub number_in : ℕ → ℕ → List ℕ → Option ℕ
number_in low high word =
    if is_natural word && nat_le low (value_of word) && nat_le (value_of word) high then Some (value_of word) else None

-- Numbers among the words of a line.
use Rattle.std.specs.Prelude.{ℕ, ◌&&◌, Bool, List, [], ◌∷◌, nat_le, nat_lt, if◌then◌else◌, Option, Some, None}
use Rattle.std.specs.Str.{bytes_eq}
use Rattle.plan_types.specs.Clock.{run_turns}
use Rattle.text_core.specs.Bytes.{Text}
use Rattle.text_core.specs.Numbers.{is_natural, value_of}

-- the number that a word spells by digits alone, of at most 64 bits
abbrev pub number : Text → Option ℕ
number word =
    if is_natural word && nat_le (value_of word) 18_446_744_073_709_551_615 then Some (value_of word) else None

-- a turn in which a section may start
abbrev pub is_turn : ℕ → Bool
is_turn turn = nat_lt turn run_turns

-- a number with the words behind it
abbrev pub with_words : Option ℕ → List Text → Option (ℕ × List Text)
with_words None words = None
with_words (Some n) words = Some (n, words)

-- the number behind a label, and the words behind it
abbrev pub labelled : Text → List Text → Option (ℕ × List Text)
labelled label [] = None
labelled label (word ∷ []) = None
labelled label (word ∷ digits ∷ words) = if bytes_eq word label then with_words (number digits) words else None

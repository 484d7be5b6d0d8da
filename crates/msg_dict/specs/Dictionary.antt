-- What contracts see of a data dictionary, and how it is looked into.
use Rattle.std.specs.Prelude.{ℕ, ◌==◌, ◌&&◌, ◌||◌, not, Bool, true, false, List, [], ◌∷◌, Option, Some, None, if◌then◌else◌}
use Rattle.std.specs.Str.{bytes_eq}

-- a name with its number
pub record Named : Type 0 where
  pub name : List ℕ
  pub number : ℕ

-- a name of an enumeration with its number
pub record Enumerated : Type 0 where
  pub enumeration : List ℕ
  pub name : List ℕ
  pub number : ℕ

-- formats with their identifiers, constants, and enumerations with their numbers
pub record Dictionary : Type 0 where
  -- the formats of commands, then those of responses, with their identifiers
  pub formats : List Named
  pub constants : List Named
  pub numbers : List Enumerated

-- the number of a name
abbrev pub number_named : List ℕ → List Named → Option ℕ
number_named name [] = None
number_named name (n ∷ ns) = if bytes_eq n.name name then Some n.number else number_named name ns

-- the number of a name of an enumeration
abbrev pub enumerated : List ℕ → List ℕ → List Enumerated → Option ℕ
enumerated enumeration name [] = None
enumerated enumeration name (n ∷ ns) =
    if bytes_eq n.enumeration enumeration && bytes_eq n.name name then Some n.number else enumerated enumeration name ns

-- the name that has a number
abbrev pub name_of : ℕ → List Named → Option (List ℕ)
name_of number [] = None
name_of number (n ∷ ns) = if n.number == number then Some n.name else name_of number ns

-- a number stands in the list
abbrev pub has_number : ℕ → List Named → Bool
has_number number [] = false
has_number number (n ∷ ns) = n.number == number || has_number number ns

-- no number stands twice
abbrev pub numbers_differ : List Named → Bool
numbers_differ [] = true
numbers_differ (n ∷ ns) = not (has_number n.number ns) && numbers_differ ns

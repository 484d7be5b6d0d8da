-- What a format is: a name, and words `NAME=%T` behind it, separated by single spaces.
use Rattle.std.specs.Prelude.{ℕ, ◌==◌, ◌&&◌, ◌||◌, Bool, true, false, not, List, [], ◌∷◌, ◌++◌, length, nat_lt, codes, if◌then◌else◌}
use Rattle.std.specs.List.{list_all}
use Rattle.std.specs.Str.{bytes_eq}

-- a byte of a name is no blank and no `=`
abbrev pub name_byte : ℕ → Bool
name_byte b = not (b == 32) && not (b == 9) && not (b == 61)

-- one or more bytes of a name
abbrev pub is_name : List ℕ → Bool
is_name word = list_all name_byte word && nat_lt 0 (length word)

-- one of the types of parameters
abbrev pub is_type : List ℕ → Bool
is_type t =
    bytes_eq t (codes "%u") || bytes_eq t (codes "%i") || bytes_eq t (codes "%hu") || bytes_eq t (codes "%hi")
    || bytes_eq t (codes "%c") || bytes_eq t (codes "%s") || bytes_eq t (codes "%*s") || bytes_eq t (codes "%.*s")

-- a name, the first `=`, and a type: the name so far, and what follows it
abbrev pub parameter_from : List ℕ → List ℕ → Bool
parameter_from name [] = false
parameter_from name (b ∷ bs) = if b == 61 then is_name name && is_type bs else parameter_from (name ++ b ∷ []) bs

-- a word `NAME=%T`
abbrev pub is_parameter : List ℕ → Bool
is_parameter word = parameter_from [] word

-- the first word is a name, and each other one a parameter
abbrev pub is_word : Bool → List ℕ → Bool
is_word first word = if first then is_name word else is_parameter word

-- a word so far, and what follows it, up to and from each space
abbrev pub are_words : Bool → List ℕ → List ℕ → Bool
are_words first word [] = is_word first word
are_words first word (b ∷ bs) =
    if b == 32 then is_word first word && are_words false [] bs else are_words first (word ++ b ∷ []) bs

-- a name, and parameters behind it, separated by single spaces
unfoldable pub is_format : List ℕ → Bool
is_format text = are_words true [] text

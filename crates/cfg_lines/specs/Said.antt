-- What a line of a configuration says by itself.
use Rattle.std.specs.Prelude.{ℕ, ◌+◌, Bool, List, [], ◌∷◌, ◌==◌, if◌then◌else◌, Option, Some, None, option_map, length, nat_lt, drop}
use Rattle.text_core.specs.Bytes.{is_blank, begins, before}
use Rattle.text_core.specs.Trims.{trimmed, without_return}

-- A line is blank, begins a section of this name, continues the line above it, sets an option of this name to
-- this value, or is none of these.
pub data ConfigurationLine : Type 0 where
  Nothing : ConfigurationLine
  Begins : List ℕ → ConfigurationLine
  Continues : ConfigurationLine
  Sets : List ℕ → List ℕ → ConfigurationLine
  Neither : ConfigurationLine

-- a line without a CR at its end and without its comment
abbrev pub bare_text : List ℕ → List ℕ
bare_text line = before 59 (before 35 (without_return line))

-- the text without a `]` at its end, where it has one
abbrev pub closed : List ℕ → Option (List ℕ)
closed [] = None
closed (b ∷ []) = if b == 93 then Some [] else None
closed (b ∷ c ∷ cs) = option_map (λ name. b ∷ name) (closed (c ∷ cs))

-- what stands between `[` and `]`, where the text begins and ends with these
abbrev pub bracketed : List ℕ → Option (List ℕ)
bracketed [] = None
bracketed (b ∷ bs) = if b == 91 then closed bs else None

-- a line that sets an option
abbrev pub set_to : List ℕ → List ℕ → ConfigurationLine
set_to [] value = Neither
set_to (b ∷ bs) value = Sets (b ∷ bs) value

-- a name, a colon or an equals sign, and a value, with the blanks around each cut off
abbrev pub setting : List ℕ → List ℕ → ConfigurationLine
setting text front =
    if nat_lt (length front) (length text) then set_to (trimmed front) (trimmed (drop (length front + 1) text))
    else Neither

-- a section where brackets stand at both ends, else a continued line or an option
abbrev pub by_brackets : Bool → List ℕ → Option (List ℕ) → ConfigurationLine
by_brackets indented text (Some name) = Begins name
by_brackets indented text None = if indented then Continues else setting text (before 61 (before 58 text))

-- what a line says, by whether it is indented and by its text without blanks at its ends: nothing, where none
-- is left
abbrev pub said_by : Bool → List ℕ → ConfigurationLine
said_by indented [] = Nothing
said_by indented (b ∷ bs) = by_brackets indented (b ∷ bs) (bracketed (b ∷ bs))

-- what a line says by itself
unfoldable pub said : List ℕ → ConfigurationLine
said line = said_by (begins is_blank (bare_text line)) (trimmed (bare_text line))

-- Which values of a configuration hold: the last one of each option.
use Rattle.std.specs.Prelude.{ℕ, ℤ, pos, Bool, false, List, [], ◌∷◌, ◌&&◌, if◌then◌else◌, Option, Some, None}
use Rattle.cfg_lines.specs.declared.section.Section.{Section}
use Rattle.cfg_lines.specs.declared.table.Key.{Key}
use Rattle.cfg_lines.specs.declared.value.Value.TheVariants.{Amount, Signed, Flag}
use Rattle.cfg_lines.specs.declared.item.Item.{Item}
use Rattle.cfg_lines.specs.declared.item.Item.TheVariants.{Opens, Holds}
use Rattle.cfg_lines.specs.declared.item.Entry.{Entry}
use Rattle.cfg_lines.specs.Sections.{same_section}
use Rattle.cfg_lines.specs.Table.{option_row, same_key}
use Rattle.cfg_lines.specs.Values.{fits}

-- a line sets this option of this section
abbrev pub sets : Section → Key → Item → Bool
sets section key (Holds s k value) = same_section section s && same_key key k
sets section key item = false

-- a line opens this section
abbrev pub opens : Section → Item → Bool
opens section (Opens s) = same_section section s
opens section item = false

-- an entry, else one of an earlier line
abbrev pub or_earlier : Option Entry → Option Entry → Option Entry
or_earlier None earlier = earlier
or_earlier (Some entry) earlier = Some entry

-- the last line that sets an option of a section
abbrev pub last_set : Section → Key → List Entry → Option Entry
last_set section key [] = None
last_set section key (e ∷ es) = or_earlier (last_set section key es) (if sets section key e.item then Some e else None)

-- the first line of a section, or 0 where it isn't there
abbrev pub first_line_of : Section → List Entry → ℕ
first_line_of section [] = 0
first_line_of section (e ∷ es) = if opens section e.item then e.line else first_line_of section es

-- the whole number that a line gives, else this one
abbrev pub amount_in : ℕ → Item → ℕ
amount_in fallback (Holds s k (Amount n)) = n
amount_in fallback item = fallback

-- the whole number that an entry gives, else this one
abbrev pub amount_or : ℕ → Option Entry → ℕ
amount_or fallback None = fallback
amount_or fallback (Some e) = amount_in fallback e.item

-- the number that a line gives, which may be below 0, else 0
abbrev pub signed_in : Item → ℤ
signed_in (Holds s k (Signed z)) = z
signed_in item = pos 0

-- the number that an entry gives, which may be below 0, else 0
abbrev pub signed_or : Option Entry → ℤ
signed_or None = pos 0
signed_or (Some e) = signed_in e.item

-- the yes or no that a line gives, else no
abbrev pub flag_in : Item → Bool
flag_in (Holds s k (Flag b)) = b
flag_in item = false

-- the yes or no that an entry gives, else no
abbrev pub flag_or : Option Entry → Bool
flag_or None = false
flag_or (Some e) = flag_in e.item

-- the number of an entry's line; 0, where there is none
abbrev pub line_or : Option Entry → ℕ
line_or None = 0
line_or (Some e) = e.line

-- the number that holds for an option
unfoldable pub amount : List Entry → Section → Key → ℕ
amount entries section key = amount_or (option_row key).fallback (last_set section key entries)

-- the signed number that holds for an option: 0 where it isn't set
unfoldable pub signed : List Entry → Section → Key → ℤ
signed entries section key = signed_or (last_set section key entries)

-- whether an option of two words is set to the second
unfoldable pub flag : List Entry → Section → Key → Bool
flag entries section key = flag_or (last_set section key entries)

-- the line holds a value of this option's kind
abbrev pub suits : Key → Item → Bool
suits key (Holds s k value) = fits key value
suits key item = false

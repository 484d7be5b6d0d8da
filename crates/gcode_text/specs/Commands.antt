-- The table of commands, and the command that stands first in a text.
use Rattle.std.specs.Prelude.{ℕ, Bool, List, [], ◌∷◌, ◌&&◌, ◌||◌, ◌==◌, if◌then◌else◌, Option, Some, None}
use Rattle.gcode_text.specs.declared.word.Command.TheVariants.{G0, G1, G4, G28, G90, G91, G92, M82, M83, M112, M204, M220, M221, M400}
use Rattle.gcode_text.specs.declared.table.Entry.{Entry}
use Rattle.gcode_text.specs.declared.table.Entry.TheVariants.{Known, Unsupported, Unknown}
use Rattle.gcode_text.specs.Blanks.{is_blank}
use Rattle.text_core.specs.Bytes.{is_digit, is_letter, capital, front, behind, begins, ends_or_begins}
use Rattle.text_core.specs.Numbers.{value_of}

-- the G commands
abbrev pub g_entry : ℕ → Entry
g_entry n =
    if n == 0 then Known G0
    else (if n == 1 then Known G1
    else (if n == 4 then Known G4
    else (if n == 28 then Known G28
    else (if n == 90 then Known G90
    else (if n == 91 then Known G91
    else (if n == 92 then Known G92
    else (if (n == 2) || ((n == 3) || ((n == 10) || ((n == 11) || (n == 20)))) then Unsupported else Unknown)))))))

-- the M commands
abbrev pub m_entry : ℕ → Entry
m_entry n =
    if n == 82 then Known M82
    else (if n == 83 then Known M83
    else (if n == 112 then Known M112
    else (if n == 204 then Known M204
    else (if n == 220 then Known M220
    else (if n == 221 then Known M221 else (if n == 400 then Known M400 else Unknown))))))

-- what the table says of a letter and a number
unfoldable pub table_entry : ℕ → ℕ → Entry
table_entry letter n = if letter == 71 then g_entry n else (if letter == 77 then m_entry n else Unknown)

-- a letter, the number of the digits behind it, and what follows
pub record Head : Type 0 where
  pub letter : ℕ
  pub number : ℕ
  pub rest : List ℕ

-- G, M or T
abbrev pub is_command_letter : ℕ → Bool
is_command_letter b = (b == 71) || ((b == 77) || (b == 84))

-- the command with this letter: digits follow it, and behind these nothing, a blank or another letter
abbrev pub head_with : ℕ → List ℕ → Option Head
head_with letter text =
    if is_command_letter letter
    && (begins is_digit text && ends_or_begins (λ b. is_blank b || is_letter b) (behind is_digit text))
    then Some (record { letter = letter; number = value_of (front is_digit text); rest = behind is_digit text })
    else None

-- the command that stands first in a text; small letters count as capitals
unfoldable pub head_of : List ℕ → Option Head
head_of [] = None
head_of (b ∷ bs) = head_with (capital b) bs

-- the text behind a leading N with digits, where one stands there
unfoldable pub unnumbered : List ℕ → List ℕ
unnumbered [] = []
unnumbered (b ∷ bs) = if (capital b == 78) && begins is_digit bs then behind is_blank (behind is_digit bs) else b ∷ bs

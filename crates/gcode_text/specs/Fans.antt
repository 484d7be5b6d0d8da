-- The words of any command, and the commands of the part fan.
use Rattle.std.specs.Prelude.{ℕ, pos, negsuc, Bool, true, false, List, ◌&&◌, ◌==◌, nat_lt, length, if◌then◌else◌, Option, Some, None, option_map, Result, Ok, Err}
use Rattle.text_core.specs.Bytes.{capital, behind}
use Rattle.gcode_text.specs.declared.word.Given.{Given}
use Rattle.gcode_text.specs.declared.word.Given.TheVariants.{Number}
use Rattle.gcode_text.specs.declared.fault.FaultKind.{FaultKind}
use Rattle.gcode_text.specs.Blanks.{is_blank}
use Rattle.gcode_text.specs.Commands.{Head, head_of, unnumbered}
use Rattle.gcode_text.specs.Lines.{given_of, text_of, given_words}

-- words, where they are readable
abbrev pub readable : Result (List (Option Given)) FaultKind → Option (List (Option Given))
readable (Ok words) = Some words
readable (Err kind) = None

-- the words of a command, where it has this letter and this number; in G28 a letter may stand bare
abbrev pub words_for : ℕ → ℕ → Option Head → Option (List (Option Given))
words_for letter number None = None
words_for letter number (Some head) =
    if (head.letter == capital letter) && (head.number == number)
    then readable (given_words ((head.letter == 71) && (head.number == 28)) head.rest)
    else None

-- the words of a line whose command has this letter and this number, also where the table has no such command
unfoldable pub words_behind : List ℕ → ℕ → ℕ → Option (List (Option Given))
words_behind line letter number =
    if nat_lt 1024 (length line) then None
    else words_for letter number (head_of (unnumbered (behind is_blank (text_of line))))

-- a number that is given is above 0, or none is
abbrev pub is_above_zero : Option Given → Bool
is_above_zero (Some (Number (pos n))) = nat_lt 0 n
is_above_zero (Some (Number (negsuc n))) = false
is_above_zero other = true

-- M106 switches the fan on, but with an S of 0 or less off
abbrev pub switches_on : List (Option Given) → Bool
switches_on words = is_above_zero (given_of words 83)

-- to what a line switches the fan, by the words of an M107 and of an M106
abbrev pub fan_by : Option (List (Option Given)) → Option (List (Option Given)) → Option Bool
fan_by (Some words) on = Some false
fan_by None on = option_map switches_on on

-- to what a line switches the part fan: M107 off, M106 by its S
unfoldable pub fan_of : List ℕ → Option Bool
fan_of line = fan_by (words_behind line 77 107) (words_behind line 77 106)

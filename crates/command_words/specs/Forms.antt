-- What the words of a command ask for.
use Rattle.std.specs.Prelude.{ℕ, ◌==◌, ◌&&◌, Bool, false, not, nat_le, List, [], ◌∷◌, Option, Some, None, codes, length, if◌then◌else◌}
use Rattle.std.specs.List.{list_all}
use Rattle.std.specs.Str.{bytes_eq}
use Rattle.command_words.specs.declared.words.Words.{Words}
use Rattle.command_words.specs.declared.words.Words.TheVariants as words
use Rattle.text_core.specs.Bytes.{is_digit, Text}
use Rattle.std.specs.Str.Parse.{digits_value}

-- a word that may name a file: it isn't empty and doesn't begin with a dash
abbrev pub is_name : Text → Bool
is_name [] = false
is_name (b ∷ bs) = not (b == 45)

-- one to so many decimal digits
abbrev pub is_numeral : ℕ → Text → Bool
is_numeral most text = nat_le 1 (length text) && (nat_le (length text) most && list_all is_digit text)

-- the number of so many decimal digits at most, where it is no greater than a limit
abbrev pub bounded_number : ℕ → ℕ → Text → Option ℕ
bounded_number most limit text =
    if is_numeral most text && nat_le (digits_value 10 text) limit then Some (digits_value 10 text) else None

-- a seed is below 2^64 and has at most 20 digits, leading zeros among them
abbrev pub seed_of : Text → Option ℕ
seed_of = bounded_number 20 18_446_744_073_709_551_615

-- there are at most a million moves, in at most 7 digits
abbrev pub move_count : Text → Option ℕ
move_count = bounded_number 7 1_000_000

-- what is asked for: a run of a G-code on the machine of a configuration, also with a scene; a run of a load
-- that is made from a seed; when the part fan of a G-code is switched; whether a report follows the plan of a
-- G-code; what a trace holds for a board of a configuration, or what that board makes of it; a G-code as it
-- follows a measured bed
pub data Asked : Type 0 where
  run : Text → Text → Asked
  scene : Text → Text → Text → Asked
  make : ℕ → ℕ → Asked
  fan : Text → Text → Asked
  check : Text → Text → Text → Asked
  dump : Text → Text → Text → Asked
  replay : Text → Text → Text → Asked
  mesh : Text → Text → Text → Asked

-- what `make` asks for, where both of its numbers are read
abbrev pub make_of : Option ℕ → Option ℕ → Option Asked
make_of None moves = None
make_of (Some seed) None = None
make_of (Some seed) (Some moves) = Some (make seed moves)

-- the forms with two operands: `run CONFIG GCODE`, `make SEED MOVES` and `fan CONFIG GCODE`
abbrev pub form_of_two : Text → Text → Text → Option Asked
form_of_two w a b =
    if bytes_eq w (codes "run") then Some (run a b)
    else (if bytes_eq w (codes "make") then make_of (seed_of a) (move_count b)
    else (if bytes_eq w (codes "fan") then Some (fan a b) else None))

-- the forms with three operands: `run CONFIG GCODE SCENE`, `check CONFIG GCODE REPORT`, `dump CONFIG BOARD
-- TRACE`, `replay CONFIG BOARD TRACE` and `mesh CONFIG GCODE TABLE`
abbrev pub form_of_three : Text → Text → Text → Text → Option Asked
form_of_three w a b c =
    if bytes_eq w (codes "run") then Some (scene a b c)
    else (if bytes_eq w (codes "check") then Some (check a b c)
    else (if bytes_eq w (codes "dump") then Some (dump a b c)
    else (if bytes_eq w (codes "replay") then Some (replay a b c)
    else (if bytes_eq w (codes "mesh") then Some (mesh a b c) else None))))

-- the forms of two and of three operands
abbrev pub form_of : List Text → Option Asked
form_of (w ∷ a ∷ b ∷ []) = form_of_two w a b
form_of (w ∷ a ∷ b ∷ c ∷ []) = form_of_three w a b c
form_of other = None

-- what words ask for, none of which is empty or begins with a dash
abbrev pub asked : List Text → Option Asked
asked words = if list_all is_name words then form_of words else None

-- an answer as contracts see it
abbrev pub view : Words → Asked
view (words.Run config gcode) = run config.now gcode.now
view (words.Scene config gcode file) = scene config.now gcode.now file.now
view (words.Make seed moves) = make seed moves
view (words.Fan config gcode) = fan config.now gcode.now
view (words.Check config gcode report) = check config.now gcode.now report.now
view (words.Dump config board trace) = dump config.now board.now trace.now
view (words.Replay config board trace) = replay config.now board.now trace.now
view (words.Mesh config gcode table) = mesh config.now gcode.now table.now

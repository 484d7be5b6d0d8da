-- The sections of a configuration.
use Rattle.std.specs.Prelude.{ℕ, ◌-◌, Bool, true, false, List, [], ◌∷◌, ◌&&◌, ◌||◌, ◌==◌, if◌then◌else◌, nat_lt, nat_le, length, Option, Some, None, codes}
use Rattle.std.specs.List.{list_all}
use Rattle.std.specs.Str.{bytes_eq}
use Rattle.text_core.specs.Bytes.{is_letter, is_digit}
use Rattle.text_core.specs.Trims.{trimmed}
use Rattle.cfg_lines.specs.declared.section.Drive.{Drive}
use Rattle.cfg_lines.specs.declared.section.Drive.TheVariants.{X, Y, Z, E}
use Rattle.cfg_lines.specs.declared.section.Motor.{Motor}
use Rattle.cfg_lines.specs.declared.section.Section.{Section}
use Rattle.cfg_lines.specs.declared.section.Section.TheVariants.{Unknown, Printer, Board, Simulated, Simulation, Stepper, Fan}

-- a letter, a digit, `_` or `-`
abbrev pub is_name_byte : ℕ → Bool
is_name_byte b = is_letter b || is_digit b || (b == 95) || (b == 45)

-- a board's name: 1 to 16 letters, digits, `_` or `-`
abbrev pub is_board_name : List ℕ → Bool
is_board_name text = nat_lt 0 (length text) && nat_le (length text) 16 && list_all is_name_byte text

-- what stands behind these bytes, where the text begins with them
abbrev pub behind_text : List ℕ → List ℕ → Option (List ℕ)
behind_text [] text = Some text
behind_text (p ∷ ps) [] = None
behind_text (p ∷ ps) (b ∷ bs) = if b == p then behind_text ps bs else None

-- the coordinate that a stepper drives, by its letter
abbrev pub drive_of : ℕ → Option Drive
drive_of b = if b == 120 then Some X else (if b == 121 then Some Y else (if b == 122 then Some Z else None))

-- the number of a coordinate: x, y, z and e
abbrev pub drive_number : Drive → ℕ
drive_number X = 0
drive_number Y = 1
drive_number Z = 2
drive_number E = 3

-- two stepper sections are the same
abbrev pub same_motor : Motor → Motor → Bool
same_motor a b = (drive_number a.drive == drive_number b.drive) && (a.digit == b.digit)

-- two sections are the same
abbrev pub same_section : Section → Section → Bool
same_section Printer Printer = true
same_section Simulation Simulation = true
same_section Fan Fan = true
same_section (Board a) (Board b) = bytes_eq a b
same_section (Simulated a) (Simulated b) = bytes_eq a b
same_section (Stepper a) (Stepper b) = same_motor a b
same_section a b = false

-- a stepper section with a digit 1 to 9, or none
abbrev pub with_digit : Option Drive → ℕ → Section
with_digit None digit = Unknown
with_digit (Some drive) digit = Stepper (record { drive = drive; digit = digit })

-- `x`, `y` or `z`, and a digit from 1 on or none
abbrev pub stepper_of : List ℕ → Section
stepper_of [] = Unknown
stepper_of (a ∷ []) = with_digit (drive_of a) 0
stepper_of (a ∷ d ∷ []) = if nat_le 49 d && nat_le d 57 then with_digit (drive_of a) (d - 48) else Unknown
stepper_of (a ∷ d ∷ e ∷ rest) = Unknown

-- the section of a stepper, by what stands behind `stepper_`
abbrev pub stepper_section : Option (List ℕ) → Section
stepper_section None = Unknown
stepper_section (Some rest) = stepper_of rest

-- the section of a simulated board
abbrev pub simulated_of : List ℕ → Section
simulated_of name = if is_board_name name then Simulated name else Unknown

-- the section of a simulated board, by what stands behind its word, else that of a stepper
abbrev pub simulated_section : List ℕ → Option (List ℕ) → Section
simulated_section name None = stepper_section (behind_text (codes "stepper_") name)
simulated_section name (Some rest) = simulated_of (trimmed rest)

-- the section of a board
abbrev pub board_of : List ℕ → Section
board_of name = if is_board_name name then Board name else Unknown

-- a section whose name has two parts
abbrev pub board_section : List ℕ → Option (List ℕ) → Section
board_section name None = simulated_section name (behind_text (codes "simulated_mcu ") name)
board_section name (Some rest) = board_of (trimmed rest)

-- the section of a name; `[mcu]` and `[simulated_mcu]` are those of the board `mcu`
unfoldable pub section_of : List ℕ → Section
section_of name =
    if bytes_eq name (codes "printer") then Printer
    else (if bytes_eq name (codes "mcu") then Board (codes "mcu")
    else (if bytes_eq name (codes "simulated_mcu") then Simulated (codes "mcu")
    else (if bytes_eq name (codes "simulation") then Simulation
    else (if bytes_eq name (codes "extruder") then Stepper (record { drive = E; digit = 0 })
    else (if bytes_eq name (codes "fan") then Fan
    else board_section name (behind_text (codes "mcu ") name))))))

-- What a line of a configuration means where it stands, and the questions about a whole text that the lines
-- answer one by one.
use Rattle.std.specs.Prelude.{ℕ, ◌+◌, Bool, true, false, List, [], ◌∷◌, ◌++◌, if◌then◌else◌, nat_le, length, Option, Some, None, is_some, Result, Ok, Err}
use Rattle.std.specs.Str.{bytes_eq}
use Rattle.plan_types.specs.declared.cause.CfgKind.{CfgKind}
use Rattle.plan_types.specs.declared.cause.CfgKind.TheVariants.{BadLine, OutOfLimit}
use Rattle.cfg_lines.specs.declared.fault.CfgFault.{CfgFault}
use Rattle.cfg_lines.specs.declared.fault.CfgFault.TheVariants.{At}
use Rattle.cfg_lines.specs.declared.section.Motor.{Motor}
use Rattle.cfg_lines.specs.declared.section.Section.{Section}
use Rattle.cfg_lines.specs.declared.section.Section.TheVariants.{Before, Unknown, Board, Stepper}
use Rattle.cfg_lines.specs.declared.table.Key.{Key}
use Rattle.cfg_lines.specs.declared.value.Value.{Value}
use Rattle.cfg_lines.specs.declared.item.Item.{Item}
use Rattle.cfg_lines.specs.declared.item.Item.TheVariants.{Skipped, PassedOver, Opens, Holds, Wrong}
use Rattle.cfg_lines.specs.declared.item.Place.{Place}
use Rattle.cfg_lines.specs.declared.item.Entry.{Entry}
use Rattle.cfg_lines.specs.Said.{ConfigurationLine, Nothing, Begins, Continues, Sets, Neither, said}
use Rattle.cfg_lines.specs.Sections.{section_of, same_motor}
use Rattle.cfg_lines.specs.Table.{key_named}
use Rattle.cfg_lines.specs.Values.{judged, fits}

-- an option of a section with what its value is, or its fault
abbrev pub with_value : Section → Key → Result Value CfgKind → Item
with_value section key (Ok value) = Holds section key value
with_value section key (Err kind) = Wrong kind

-- an option of a section by its key: one that the section doesn't have is passed over
abbrev pub with_key : Section → List ℕ → Option Key → Item
with_key section value None = PassedOver
with_key section value (Some key) = with_value section key (judged key value)

-- an option in a section
abbrev pub option_in : Section → List ℕ → List ℕ → Item
option_in Before name value = Wrong BadLine
option_in Unknown name value = Skipped
option_in section name value = with_key section value (key_named section name)

-- a section begins, or is passed over
abbrev pub opened : Section → Item
opened Unknown = PassedOver
opened section = Opens section

-- what a line means where it stands: a continued line is passed over behind an option that isn't known, and else wrong
abbrev pub meant : Place → ConfigurationLine → Item
meant place Nothing = Skipped
meant place (Begins name) = opened (section_of name)
meant place Continues = if place.lenient then Skipped else Wrong BadLine
meant place (Sets name value) = option_in place.section name value
meant place Neither = Wrong BadLine

-- where the line behind it stands
abbrev pub place_behind : Place → ConfigurationLine → Place
place_behind place (Begins name) = record { section = section_of name; lenient = false }
place_behind place (Sets name value) =
    record { section = place.section; lenient = if is_some (key_named place.section name) then false else true }
place_behind place said = place

-- where a text begins: before the first section
abbrev pub first_place : Place
first_place = record { section = Before; lenient = false }

-- what the lines mean, one by one
abbrev pub items : Place → List (List ℕ) → List Item
items place [] = []
items place (line ∷ lines) = meant place (said line) ∷ items (place_behind place (said line)) lines

-- a name is among others
abbrev pub has_name : List (List ℕ) → List ℕ → Bool
has_name [] name = false
has_name (n ∷ names) name = if bytes_eq n name then true else has_name names name

-- a stepper is among others
abbrev pub has_motor : List Motor → Motor → Bool
has_motor [] motor = false
has_motor (m ∷ motors) motor = if same_motor m motor then true else has_motor motors motor

-- a name behind the others, unless it is among them
abbrev pub with_name : List (List ℕ) → List ℕ → List (List ℕ)
with_name names name = if has_name names name then names else names ++ name ∷ []

-- a motor behind the others, unless it is among them
abbrev pub with_motor : List Motor → Motor → List Motor
with_motor motors motor = if has_motor motors motor then motors else motors ++ motor ∷ []

-- the boards behind a line
abbrev pub with_board : List (List ℕ) → Item → List (List ℕ)
with_board names (Opens (Board name)) = with_name names name
with_board names item = names

-- the steppers behind a line
abbrev pub with_stepper : List Motor → Item → List Motor
with_stepper motors (Opens (Stepper motor)) = with_motor motors motor
with_stepper motors item = motors

-- the boards, in the order of their sections, behind those before
abbrev pub boards_behind : List (List ℕ) → List Item → List (List ℕ)
boards_behind names [] = names
boards_behind names (item ∷ items) = boards_behind (with_board names item) items

-- the steppers, in the order of their sections, behind those before
abbrev pub steppers_behind : List Motor → List Item → List Motor
steppers_behind motors [] = motors
steppers_behind motors (item ∷ items) = steppers_behind (with_stepper motors item) items

-- the fault of one more where there are so many already
abbrev pub crowded : Bool → ℕ → ℕ → Option CfgKind
crowded is_there most count = if is_there then None else (if nat_le most count then Some OutOfLimit else None)

-- the fault of a line behind these boards and steppers: at most 8 boards and 16 steppers
abbrev pub fault_of : List (List ℕ) → List Motor → Item → Option CfgKind
fault_of names motors (Wrong kind) = Some kind
fault_of names motors (Opens (Board name)) = crowded (has_name names name) 8 (length names)
fault_of names motors (Opens (Stepper motor)) = crowded (has_motor motors motor) 16 (length motors)
fault_of names motors item = None

-- the fault of a line of this number, where it has one, else the first of the later lines
abbrev pub or_later : ℕ → Option CfgKind → Option CfgFault → Option CfgFault
or_later number None later = later
or_later number (Some kind) later = Some (At number kind)

-- line by line from the top, the first fault
abbrev pub first_fault : List (List ℕ) → List Motor → ℕ → List Item → Option CfgFault
first_fault names motors number [] = None
first_fault names motors number (item ∷ items) =
    or_later number (fault_of names motors item)
    (first_fault (with_board names item) (with_stepper motors item) (number + 1) items)

-- 1 for a section or option that is passed over, else 0
abbrev pub one_passed : Item → ℕ
one_passed PassedOver = 1
one_passed item = 0

-- how many unknown sections and options there are
abbrev pub passed_over : List Item → ℕ
passed_over [] = 0
passed_over (item ∷ items) = one_passed item + passed_over items

-- a section of the table, or an option that is set in one, with its line
abbrev pub entry_of : ℕ → Item → List Entry
entry_of number (Opens section) = record { line = number; item = Opens section } ∷ []
entry_of number (Holds section key value) = record { line = number; item = Holds section key value } ∷ []
entry_of number item = []

-- what the lines say of the machine, with their numbers
abbrev pub entries : ℕ → List Item → List Entry
entries number [] = []
entries number (item ∷ items) = entry_of number item ++ entries (number + 1) items

-- the value of an option is of its kind
abbrev pub item_fits : Item → Bool
item_fits (Holds section key value) = fits key value
item_fits item = true

-- a line's value is of its option's kind
abbrev pub entry_fits : Entry → Bool
entry_fits entry = item_fits entry.item

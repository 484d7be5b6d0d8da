-- The pins that are in use, and what is wrong with them.
use Rattle.std.specs.Prelude.{ℕ, ◌+◌, Bool, true, false, List, [], ◌∷◌, ◌++◌, ◌&&◌, ◌||◌, if◌then◌else◌, nat_lt, Option, Some, None}
use Rattle.std.specs.Str.{bytes_eq}
use Rattle.plan_types.specs.declared.cause.CfgKind.{CfgKind}
use Rattle.plan_types.specs.declared.cause.CfgKind.TheVariants.{UnknownBoard, Twice, BadValue}
use Rattle.cfg_lines.specs.declared.fault.CfgFault.{CfgFault}
use Rattle.cfg_lines.specs.declared.fault.CfgFault.TheVariants.{At}
use Rattle.cfg_lines.specs.declared.section.Motor.{Motor}
use Rattle.cfg_lines.specs.declared.section.Section.{Section}
use Rattle.cfg_lines.specs.declared.section.Section.TheVariants.{Fan, Simulated, Stepper}
use Rattle.cfg_lines.specs.declared.table.Key.{Key}
use Rattle.cfg_lines.specs.declared.table.Key.TheVariants.{StepPin, DirPin, EndstopPin, FanPin}
use Rattle.cfg_lines.specs.declared.value.Pin.{Pin}
use Rattle.cfg_lines.specs.declared.value.Value.TheVariants as values
use Rattle.cfg_lines.specs.declared.item.Item.{Item}
use Rattle.cfg_lines.specs.declared.item.Item.TheVariants.{Opens, Holds}
use Rattle.cfg_lines.specs.declared.item.Entry.{Entry}
use Rattle.cfg_text.specs.declared.wiring.Use.{Use}
use Rattle.cfg_lines.specs.Sections.{same_section}
use Rattle.cfg_lines.specs.Table.{same_key}
use Rattle.cfg_lines.specs.Items.{has_name}
use Rattle.cfg_text.specs.Holding.{last_set}

-- a pin that holds for an option of a section, with its line
abbrev pub pin_use : ℕ → Section → Key → Pin → Use
pin_use number owner option named = record { line = number; section = owner; key = option; pin = named }

-- the pin that a line names for an option of a section
abbrev pub use_in : Section → Key → ℕ → Item → Option Use
use_in section key line (Holds s k (values.Pin pin)) = Some (pin_use line section key pin)
use_in section key line item = None

-- the pin that an entry names for an option of a section
abbrev pub use_of : Section → Key → Option Entry → Option Use
use_of section key None = None
use_of section key (Some e) = use_in section key e.line e.item

-- the pin that holds for an option of a section
unfoldable pub wired : List Entry → Section → Key → Option Use
wired entries section key = use_of section key (last_set section key entries)

-- a pin among others that stand in the order of their lines
abbrev pub put : Use → List Use → List Use
put u [] = u ∷ []
put u (v ∷ vs) = if nat_lt u.line v.line then u ∷ v ∷ vs else v ∷ put u vs

-- how many of the pins stand before it
abbrev pub place_for : ℕ → List Use → ℕ
place_for line [] = 0
place_for line (v ∷ vs) = if nat_lt line v.line then 0 else place_for line vs + 1

-- a pin, where there is one, among others in the order of their lines
abbrev pub put_some : Option Use → List Use → List Use
put_some None uses = uses
put_some (Some u) uses = put u uses

-- the pins that hold for a stepper, among others
abbrev pub with_pins_of : List Entry → Motor → List Use → List Use
with_pins_of entries motor uses =
    put_some (wired entries (Stepper motor) EndstopPin)
    (put_some (wired entries (Stepper motor) DirPin) (put_some (wired entries (Stepper motor) StepPin) uses))

-- the pins that hold for these steppers and these, in the order of their lines
abbrev pub uses_of : List Entry → List Motor → List Use → List Use
uses_of entries [] uses = uses
uses_of entries (motor ∷ motors) uses = uses_of entries motors (with_pins_of entries motor uses)

-- the pins that hold, in the order of their lines: those of the steppers and that of the part fan
abbrev pub all_uses : List Entry → List Motor → List Use
all_uses entries motors = put_some (wired entries Fan FanPin) (uses_of entries motors [])

-- a pin or a simulated board whose board isn't declared anywhere
abbrev pub is_strange : List (List ℕ) → Item → Bool
is_strange names (Opens (Simulated board)) = if has_name names board then false else true
is_strange names (Holds s k (values.Pin pin)) = if has_name names pin.board then false else true
is_strange names item = false

-- the first line that names a board which isn't declared
abbrev pub first_strange : List (List ℕ) → List Entry → Option ℕ
first_strange names [] = None
first_strange names (e ∷ es) = if is_strange names e.item then Some e.line else first_strange names es

-- two lines name one pin
abbrev pub same_pin : Pin → Pin → Bool
same_pin p q = bytes_eq p.board q.board && bytes_eq p.name q.name

-- a pin of a stepper's driver, and no endstop's or fan's
abbrev pub is_driver : Use → Bool
is_driver u = same_key u.key StepPin || same_key u.key DirPin

-- two lines name one pin, and one of them as a driver's
abbrev pub clash : Use → Use → Bool
clash u v = same_pin u.pin v.pin && (is_driver u || is_driver v)

-- a line's pin clashes with one of others
abbrev pub clashes : Use → List Use → Bool
clashes u [] = false
clashes u (v ∷ vs) = if clash u v then true else clashes u vs

-- the first line whose pin one of the lines before it uses too
abbrev pub first_twice : List Use → List Use → Option ℕ
first_twice before [] = None
first_twice before (u ∷ us) = if clashes u before then Some u.line else first_twice (before ++ u ∷ []) us

-- the pin is the step pin of the stepper of this direction pin, on another board
abbrev pub parts : Use → Use → Bool
parts u v =
    same_key u.key DirPin && same_key v.key StepPin && same_section u.section v.section
    && (if bytes_eq u.pin.board v.pin.board then false else true)

-- a direction pin on another board than its step pin
abbrev pub is_astray : Use → List Use → Bool
is_astray u [] = false
is_astray u (v ∷ vs) = if parts u v then true else is_astray u vs

-- the first line of a direction pin on another board than its step pin
abbrev pub first_astray : List Use → List Use → Option ℕ
first_astray all [] = None
first_astray all (u ∷ us) = if is_astray u all then Some u.line else first_astray all us

-- a fault of this kind at a line, where there is one
abbrev pub fault_at : CfgKind → Option ℕ → Option CfgFault
fault_at kind None = None
fault_at kind (Some line) = Some (At line kind)

-- the fault of the earlier line, and of one line the first
abbrev pub earlier : Option CfgFault → Option CfgFault → Option CfgFault
earlier None b = b
earlier (Some (At l k)) (Some (At m j)) = if nat_lt m l then Some (At m j) else Some (At l k)
earlier a b = a

-- line by line from the top, a board that isn't declared, a pin used twice, a direction pin on another board
unfoldable pub wiring_fault : List (List ℕ) → List Entry → List Use → Option CfgFault
wiring_fault names entries uses =
    earlier (fault_at UnknownBoard (first_strange names entries))
    (earlier (fault_at Twice (first_twice [] uses)) (fault_at BadValue (first_astray uses uses)))

-- The dictionary that a simulated board tells of itself.
use Rattle.std.specs.Prelude.{◌≡◌, ◌≢◌, ℕ, ◌+◌, Bool, true, false, List, [], ◌∷◌, codes, map, Option, None, option_map, position, if◌then◌else◌}
use Rattle.std.specs.Str.{is_utf8, bytes_eq}
use Rattle.serde_json.specs.Data.{Data, number, unsigned, object, Members, no_members, put}
use Rattle.plan_types.specs.declared.machine.BoardDef.{BoardDef}
use Rattle.plan_types.specs.Machines.{IsValidBoard}
use Rattle.msg_dict.specs.declared.row.Row.{Row}
use Rattle.msg_dict.specs.Dictionary.{Named, Dictionary, number_named, enumerated, name_of}
use Rattle.msg_dict.specs.Table.{format_text, own_id, named, own_format, row_named, row_numbered, command_rows, answer_rows, all_rows}

-- a whole number as JSON
abbrev pub whole : ℕ → Data
whole n = number (unsigned n)

-- names with their numbers
abbrev pub with_names : List Named → Members → Members
with_names [] ms = ms
with_names (n ∷ ns) ms = with_names ns (put n.name (whole n.number) ms)

-- the formats of rows, with their own identifiers
abbrev pub with_rows : List Row → Members → Members
with_rows rows ms = with_names (map own_format rows) ms

-- a pin with its number; a name that is no text has no place in JSON
abbrev pub with_pin : Bool → List ℕ → ℕ → Members → Members
with_pin true name n ms = put name (whole n) ms
with_pin false name n ms = ms

-- the pins of a board with their numbers
abbrev pub with_pins : ℕ → List (List ℕ) → Members → Members
with_pins n [] ms = ms
with_pins n (p ∷ ps) ms = with_pins (n + 1) ps (with_pin (is_utf8 p) p n ms)

-- the number of this reason of a shutdown: a step came too late
abbrev pub timer_too_close : ℕ
timer_too_close = 1

-- the number of this reason: a stepper's queue was full
abbrev pub queue_overflow : ℕ
queue_overflow = 2

-- the number of this reason: a stepper with pending steps was told a clock
abbrev pub stepper_active : ℕ
stepper_active = 3

-- the number of this reason: steps without a count
abbrev pub zero_count : ℕ
zero_count = 4

-- the number of this reason: the host asked for it
abbrev pub command_request : ℕ
command_request = 5

-- the reasons of a shutdown, by their texts, with their numbers
abbrev pub reason_numbers : List Named
reason_numbers =
    named (codes "Timer too close") timer_too_close ∷ named (codes "Move queue overflow") queue_overflow
    ∷ named (codes "Can't reset time when stepper active") stepper_active
    ∷ named (codes "Invalid count parameter") zero_count ∷ named (codes "Command request") command_request ∷ []

-- the reasons of a shutdown as members
abbrev pub reasons : Members
reasons = with_names reason_numbers no_members

-- the enumerations of a simulated board
abbrev pub enumerations : BoardDef → Members
enumerations b =
    put (codes "static_string_id") (object reasons)
    (put (codes "pin") (object (with_pins 0 b.pins no_members)) no_members)

-- the dictionary of a simulated board as JSON
unfoldable pub own_dictionary : BoardDef → Data
own_dictionary b =
    object (put (codes "enumerations") (object (enumerations b)) (put (codes "config")
    (object (put (codes "CLOCK_FREQ") (whole b.freq) no_members)) (put (codes "responses")
    (object (with_rows answer_rows no_members))
    (put (codes "commands") (object (with_rows command_rows no_members)) no_members))))

-- the number of a pin: its place, where its name is text
abbrev pub pin_number : List ℕ → List (List ℕ) → Option ℕ
pin_number name pins = if is_utf8 name then position (λ pin. bytes_eq pin name) pins else None

-- a dictionary is what a board tells of itself: what is found in it, for each thing that can be looked up
pub record IsOwn (b : BoardDef) (d : Dictionary) : Type 0 where
  pub formats : (format : List ℕ) → number_named format d.formats ≡ option_map own_id (row_named format)
  pub names : (id : ℕ) → name_of id d.formats ≡ option_map format_text (row_numbered id)
  pub constants : (name : List ℕ) →
      number_named name d.constants ≡ number_named name (record { name = codes "CLOCK_FREQ"; number = b.freq } ∷ [])
  pub pins : IsValidBoard b → (name : List ℕ) → enumerated (codes "pin") name d.numbers ≡ pin_number name b.pins
  pub reasons : (name : List ℕ) → enumerated (codes "static_string_id") name d.numbers ≡ number_named name reason_numbers
  pub no_other : (enumeration name : List ℕ) → enumeration ≢ codes "pin" → enumeration ≢ codes "static_string_id" →
      enumerated enumeration name d.numbers ≡ None

-- the formats of all rows, with the boards' own identifiers
unfoldable pub own_formats : List Named
own_formats = map own_format all_rows

-- what every simulated board has of its dictionary: the formats
abbrev pub own_formats_alone : Dictionary
own_formats_alone = record { formats = own_formats; constants = []; numbers = [] }

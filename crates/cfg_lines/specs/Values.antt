-- What a value of an option is.
use Rattle.std.specs.Prelude.{ℕ, ◌^◌, neg_ℤ, ◌<◌, ◌≤◌, ◌+◌, ◌/◌, ◌%◌, ℤ, pos, negsuc, Bool, true, false, List, [], ◌∷◌, ◌&&◌, ◌||◌, ◌==◌, if◌then◌else◌, nat_lt, nat_le, unsigned_abs, length, drop, Option, Some, None, Result, Ok, Err, codes}
use Rattle.std.specs.List.{list_all}
use Rattle.std.specs.Str.{bytes_eq}
use Rattle.text_core.specs.Bytes.{is_point, front, behind, before}
use Rattle.text_core.specs.Numbers.{number_at}
use Rattle.plan_types.specs.declared.cause.CfgKind.{CfgKind}
use Rattle.plan_types.specs.declared.cause.CfgKind.TheVariants.{BadValue, OutOfLimit}
use Rattle.cfg_lines.specs.declared.table.Key.{Key}
use Rattle.cfg_lines.specs.declared.table.Kind.{Kind}
use Rattle.cfg_lines.specs.declared.table.Kind.TheVariants as kinds
use Rattle.cfg_lines.specs.declared.value.Value.{Value}
use Rattle.cfg_lines.specs.declared.value.Value.TheVariants.{Amount, Signed, Flag, Pin}
use Rattle.cfg_lines.specs.Sections.{is_name_byte, is_board_name}
use Rattle.cfg_lines.specs.Table.{option_row}

-- the number that a whole text spells, with at most so many digits before the point, in millionths
abbrev pub all_of : Option (ℤ × List ℕ) → Option ℤ
all_of None = None
all_of (Some (z, [])) = Some z
all_of (Some (z, b ∷ bs)) = None

-- the number that a whole text spells, in millionths
unfoldable pub spelled : ℕ → List ℕ → Option ℤ
spelled digits text = all_of (number_at digits text)

-- a number is one of these limits or between them
abbrev pub is_within : ℕ → ℕ → ℕ → Bool
is_within low high n = nat_le low n && nat_le n high

-- a number within limits, or its fault
abbrev pub decimal : ℕ → ℕ → Option ℤ → Result Value CfgKind
decimal low high None = Err BadValue
decimal low high (Some (pos n)) = if is_within low high n then Ok (Amount n) else Err OutOfLimit
decimal low high (Some (negsuc n)) = Err OutOfLimit

-- a number without a fraction
abbrev pub is_whole : ℤ → Bool
is_whole z = (unsigned_abs z % 1_000_000) == 0

-- a whole number within limits that is a multiple of a step, or its fault
abbrev pub whole_within : ℕ → ℕ → ℕ → ℤ → Result Value CfgKind
whole_within low high step (pos n) =
    if is_within low high (n / 1_000_000) && ((n / 1_000_000) % step == 0) then Ok (Amount (n / 1_000_000))
    else Err OutOfLimit
whole_within low high step (negsuc n) = Err OutOfLimit

-- the same of a number that may have a fraction, which is a fault
abbrev pub whole : ℕ → ℕ → ℕ → Option ℤ → Result Value CfgKind
whole low high step None = Err BadValue
whole low high step (Some z) = if is_whole z then whole_within low high step z else Err BadValue

-- a whole number, of these millionths, no further from 0 than this
abbrev pub offset_within : ℕ → ℤ → Result Value CfgKind
offset_within most (pos n) = if nat_le (n / 1_000_000) most then Ok (Signed (pos (n / 1_000_000))) else Err OutOfLimit
offset_within most (negsuc n) =
    if nat_le ((n + 1) / 1_000_000) most then Ok (Signed (neg_ℤ (pos ((n + 1) / 1_000_000)))) else Err OutOfLimit

-- the same of a number that may have a fraction, which is a fault
abbrev pub offset : ℕ → Option ℤ → Result Value CfgKind
offset most None = Err BadValue
offset most (Some z) = if is_whole z then offset_within most z else Err BadValue

-- a power of two up to 256
abbrev pub is_microsteps : ℕ → Bool
is_microsteps n =
    (n == 1) || (n == 2) || (n == 4) || (n == 8) || (n == 16) || (n == 32) || (n == 64) || (n == 128) || (n == 256)

-- 1, 2, 4 .. 256, or the fault
abbrev pub microsteps_of : ℤ → Result Value CfgKind
microsteps_of (pos n) = if is_microsteps (n / 1_000_000) then Ok (Amount (n / 1_000_000)) else Err BadValue
microsteps_of (negsuc n) = Err BadValue

-- the same of a whole number
abbrev pub microsteps : Option ℤ → Result Value CfgKind
microsteps None = Err BadValue
microsteps (Some z) = if is_whole z then microsteps_of z else Err BadValue

-- a place on an axis, in nm, not further than this from 0
abbrev pub position : Option ℤ → Result Value CfgKind
position None = Err BadValue
position (Some z) = if nat_le (unsigned_abs z) 500_000_000 then Ok (Signed z) else Err OutOfLimit

-- a place on an axis, in nm
abbrev pub any_position : Option ℤ → Result Value CfgKind
any_position None = Err BadValue
any_position (Some z) = Ok (Signed z)

-- one of two words: whether it is the second
abbrev pub one_of : List ℕ → List ℕ → List ℕ → Result Value CfgKind
one_of plain other text =
    if bytes_eq text other then Ok (Flag true) else (if bytes_eq text plain then Ok (Flag false) else Err BadValue)

-- `!`, `^` or `~`
abbrev pub is_pin_sign : ℕ → Bool
is_pin_sign b = (b == 33) || (b == 94) || (b == 126)

-- a letter, a digit, `_`, `.` or `-`
abbrev pub is_pin_byte : ℕ → Bool
is_pin_byte b = is_name_byte b || is_point b

-- a pin's name: 1 to 16 letters, digits, `_`, `.` or `-`
abbrev pub is_pin_name : List ℕ → Bool
is_pin_name text = nat_lt 0 (length text) && nat_le (length text) 16 && list_all is_pin_byte text

-- a byte is a `!`
abbrev pub is_not : ℕ → Bool
is_not b = b == 33

-- one of the bytes is a `!`
abbrev pub inverts : List ℕ → Bool
inverts [] = false
inverts (b ∷ bs) = if is_not b then true else inverts bs

-- a pin with its board, or the fault
abbrev pub pin_on : Bool → List ℕ → List ℕ → Result Value CfgKind
pin_on inverted board name =
    if is_board_name board && is_pin_name name
    then Ok (Pin (record { board = board; name = name; inverted = inverted }))
    else Err BadValue

-- a pin's text without its signs: a board, a colon and a name, or a name on the board `mcu`
abbrev pub unsigned_pin : Bool → List ℕ → Result Value CfgKind
unsigned_pin inverted text =
    let board = before 58 text in
    if nat_lt (length board) (length text) then pin_on inverted board (drop (length board + 1) text)
    else pin_on inverted (codes "mcu") text

-- the pin that a text names, or the fault
abbrev pub pin_of : List ℕ → Result Value CfgKind
pin_of text = unsigned_pin (inverts (front is_pin_sign text)) (behind is_pin_sign text)

-- what a value of a kind is, or why it isn't one
abbrev pub judged_as : Kind → List ℕ → Result Value CfgKind
judged_as (kinds.Decimal low high) text = decimal low high (spelled 9 text)
judged_as (kinds.Whole low high digits step) text = whole low high step (spelled digits text)
judged_as (kinds.Offset most) text = offset most (spelled 9 text)
judged_as kinds.Microsteps text = microsteps (spelled 9 text)
judged_as kinds.Position text = position (spelled 9 text)
judged_as kinds.AnyPosition text = any_position (spelled 9 text)
judged_as kinds.Kinematics text = one_of (codes "cartesian") (codes "corexy") text
judged_as kinds.Truth text = one_of (codes "False") (codes "True") text
judged_as kinds.Pin text = pin_of text
judged_as kinds.Refused text = Err BadValue

-- what a value of an option is, or why it isn't one
unfoldable pub judged : Key → List ℕ → Result Value CfgKind
judged key text = judged_as (option_row key).kind text

-- a kind whose numbers have at most eighteen digits and a step above 0, and whose signed numbers are small
abbrev pub IsReadable : Kind → Type 0
IsReadable (kinds.Whole low high digits step) = (digits ≤ 18) × (0 < step)
IsReadable (kinds.Offset most) = most < 10 ^ 9
IsReadable kind = Unit {0}

-- a value of this kind
abbrev pub fits_kind : Kind → Value → Bool
fits_kind (kinds.Decimal low high) (Amount n) = is_within low high n
fits_kind (kinds.Whole low high digits step) (Amount n) = is_within low high n && (n % step == 0)
fits_kind (kinds.Offset most) (Signed z) = nat_le (unsigned_abs z) most
fits_kind kinds.Microsteps (Amount n) = is_microsteps n
fits_kind kinds.Position (Signed z) = nat_le (unsigned_abs z) 500_000_000
fits_kind kinds.AnyPosition (Signed z) = true
fits_kind kinds.Kinematics (Flag b) = true
fits_kind kinds.Truth (Flag b) = true
fits_kind kinds.Pin (Pin p) = true
fits_kind kind value = false

-- a value that an option may have
abbrev pub fits : Key → Value → Bool
fits key value = fits_kind (option_row key).kind value

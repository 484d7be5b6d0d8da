-- What a configuration makes of its boards: clocks of at most nine digits, and at most 49 pins with short names.
use Rattle.std.proofs.Common.{◌≡◌, ℕ, zero, suc, ℤ, pos, negsuc, neg_ℤ, unsigned_abs, ◌+◌, ◌*◌, ◌/◌, ◌%◌, ◌^◌, ◌<◌, ◌≤◌, ◌==◌, ◌&&◌, nat_lt, nat_le, Bool, true, false, cond, List, [], ◌∷◌, ◌++◌, length, drop, get_or, Option, Some, None, Result, Ok, Err, codes, bytes_eq, refl, sym, ap, ◌∙◌, subst, arith, length-append, rules}
use Rattle.std.specs.List.{list_all}
use Rattle.laws_board.proofs.Names.{and_from, Machine, BoardDef, AxisDef, board_at}
use Rattle.std.proofs.lemmas.Bool.{and_parts, leb-true, leb-false}
use Rattle.text_core.specs.Bytes.{front, behind, before}
use Rattle.text_core.specs.Lines.{lines_of}
use Rattle.plan_types.specs.declared.cause.CfgKind.{CfgKind}
use Rattle.plan_types.specs.declared.cause.CfgKind.TheVariants.{BadLine, BadValue, OutOfLimit, TooLarge}
use Rattle.plan_types.specs.declared.machine.StepperDef.{StepperDef}
use Rattle.plan_types.specs.declared.machine.FanDef.{FanDef}
use Rattle.plan_types.specs.Machines.{no_board}
use Rattle.cfg_lines.specs.declared.fault.CfgFault.{CfgFault}
use Rattle.cfg_lines.specs.declared.fault.CfgFault.TheVariants.{At}
use Rattle.cfg_lines.specs.declared.section.Motor.{Motor}
use Rattle.cfg_lines.specs.declared.section.Section.{Section}
use Rattle.cfg_lines.specs.declared.section.Section.TheVariants.{Before, Unknown, Printer, Board, Simulated, Simulation, Stepper, Fan}
use Rattle.cfg_lines.specs.declared.table.Key.{Key}
use Rattle.cfg_lines.specs.declared.table.Key.TheVariants.{ClockFreq, StepPin, DirPin, EndstopPin, FanPin}
use Rattle.cfg_lines.specs.declared.table.Kind.{Kind}
use Rattle.cfg_lines.specs.declared.table.Kind.TheVariants as kinds
use Rattle.cfg_lines.specs.declared.value.Value.{Value}
use Rattle.cfg_lines.specs.declared.value.Value.TheVariants.{Amount, Signed, Flag, Pin}
use Rattle.cfg_lines.specs.declared.item.Item.{Item}
use Rattle.cfg_lines.specs.declared.item.Item.TheVariants.{Skipped, PassedOver, Opens, Holds, Wrong}
use Rattle.cfg_lines.specs.declared.item.Place.{Place}
use Rattle.cfg_lines.specs.declared.item.Entry.{Entry}
use Rattle.cfg_lines.specs.Said.{ConfigurationLine, Nothing, Begins, Continues, Sets, Neither, said}
use Rattle.cfg_lines.specs.Sections.{section_of, is_board_name}
use Rattle.cfg_lines.specs.Table.{option_row, key_named}
use Rattle.cfg_lines.specs.Values.{spelled, is_within, decimal, is_whole, whole_within, whole, offset_within, offset, is_microsteps, microsteps_of, microsteps, position, any_position, one_of, is_pin_sign, is_pin_name, inverts, pin_on, unsigned_pin, judged_as, judged, fits_kind}
use Rattle.cfg_lines.specs.Items.{with_value, with_key, option_in, opened, meant, place_behind, first_place, items, has_name, has_motor, with_name, with_board, with_stepper, boards_behind, steppers_behind, crowded, fault_of, or_later, first_fault, passed_over, entry_of, entries, item_fits, entry_fits}
use Rattle.cfg_lines.specs.Faults.{◌>>=◌}
use Rattle.cfg_text.specs.declared.wiring.Use.{Use}
use Rattle.cfg_text.specs.Holding.{sets, or_earlier, last_set, amount}
use Rattle.cfg_text.specs.Wiring.{use_in, use_of, wired, put, put_some, with_pins_of, uses_of, all_uses, wiring_fault}
use Rattle.cfg_text.specs.Missing.{missing}
use Rattle.cfg_text.specs.Building.{pins_on, board_def, board_defs, stepper_defs, fan_def, machine_of}
use Rattle.cfg_text.specs.Reading.{machine_unless, axes, assembled, reading_of_entries, reading_of_items, machine_of_text}
use Rattle.cfg_text.proofs.Fitting.{amount_fits}

-- ---- values

abbrev IsShortPin : Value → Type 0
IsShortPin (Pin p) = is_pin_name p.name ≡ true
IsShortPin c = Unit {0}

abbrev IsOfKind : Kind → Value → Type 0
IsOfKind kind v = (fits_kind kind v ≡ true) × IsShortPin v

abbrev Judges : Kind → Result Value CfgKind → Type 0
Judges kind (Ok v) = IsOfKind kind v
Judges kind (Err fault) = Unit {0}

tested : (kind : Kind) (b : Bool) (v : Value) (fault : CfgKind) → (b ≡ true → IsOfKind kind v) → Judges kind (cond b (Ok v) (Err fault))
tested kind true v fault h = h refl
tested kind false v fault h = tt

either_way : (kind : Kind) (b : Bool) (x y : Result Value CfgKind) → Judges kind x → Judges kind y → Judges kind (cond b x y)
either_way kind true x y g h = g
either_way kind false x y g h = h

decimal_judges : (low high : ℕ) (o : Option ℤ) → Judges (kinds.Decimal low high) (decimal low high o)
decimal_judges low high None = tt
decimal_judges low high (Some (pos n)) = tested (kinds.Decimal low high) (is_within low high n) (Amount n) OutOfLimit (λ e. (e, tt))
decimal_judges low high (Some (negsuc n)) = tt

whole_judges : (low high digits step : ℕ) (z : ℤ) → Judges (kinds.Whole low high digits step) (whole_within low high step z)
whole_judges low high digits step (pos n) =
    tested (kinds.Whole low high digits step) (is_within low high (n / 1_000_000) && ((n / 1_000_000) % step == 0)) (Amount (n / 1_000_000)) OutOfLimit (λ e. (e, tt))
whole_judges low high digits step (negsuc n) = tt

wholes_judge : (low high digits step : ℕ) (o : Option ℤ) → Judges (kinds.Whole low high digits step) (whole low high step o)
wholes_judge low high digits step None = tt
wholes_judge low high digits step (Some z) =
    either_way (kinds.Whole low high digits step) (is_whole z) (whole_within low high step z) (Err BadValue) (whole_judges low high digits step z) tt

size_of_negated : (n : ℕ) → unsigned_abs (neg_ℤ (pos n)) ≡ n
size_of_negated zero = refl
size_of_negated (suc n) = refl

offset_judges : (most : ℕ) (z : ℤ) → Judges (kinds.Offset most) (offset_within most z)
offset_judges most z = search (rules, tested, nat_le, neg_ℤ, size_of_negated)

offsets_judge : (most : ℕ) (o : Option ℤ) → Judges (kinds.Offset most) (offset most o)
offsets_judge most None = tt
offsets_judge most (Some z) = either_way (kinds.Offset most) (is_whole z) (offset_within most z) (Err BadValue) (offset_judges most z) tt

microsteps_judge : (z : ℤ) → Judges kinds.Microsteps (microsteps_of z)
microsteps_judge (pos n) = tested kinds.Microsteps (is_microsteps (n / 1_000_000)) (Amount (n / 1_000_000)) BadValue (λ e. (e, tt))
microsteps_judge (negsuc n) = tt

all_microsteps_judge : (o : Option ℤ) → Judges kinds.Microsteps (microsteps o)
all_microsteps_judge None = tt
all_microsteps_judge (Some z) = either_way kinds.Microsteps (is_whole z) (microsteps_of z) (Err BadValue) (microsteps_judge z) tt

position_judges : (o : Option ℤ) → Judges kinds.Position (position o)
position_judges None = tt
position_judges (Some z) = tested kinds.Position (nat_le (unsigned_abs z) 500_000_000) (Signed z) OutOfLimit (λ e. (e, tt))

any_position_judges : (o : Option ℤ) → Judges kinds.AnyPosition (any_position o)
any_position_judges None = tt
any_position_judges (Some z) = (refl, tt)

words_judge : (kind : Kind) (plain other text : List ℕ) → ((b : Bool) → fits_kind kind (Flag b) ≡ true) → Judges kind (one_of plain other text)
words_judge kind plain other text h =
    either_way kind (bytes_eq text other) (Ok (Flag true)) (cond (bytes_eq text plain) (Ok (Flag false)) (Err BadValue)) (h true, tt)
    (either_way kind (bytes_eq text plain) (Ok (Flag false)) (Err BadValue) (h false, tt) tt)

pin_judges : (inverted : Bool) (board name : List ℕ) → Judges kinds.Pin (pin_on inverted board name)
pin_judges inverted board name =
    tested kinds.Pin (is_board_name board && is_pin_name name) (Pin (record { board = board; name = name; inverted = inverted })) BadValue
    (λ e. (refl, (and_parts (is_board_name board) (is_pin_name name) e).1))

pins_judge : (inverted : Bool) (text : List ℕ) → Judges kinds.Pin (unsigned_pin inverted text)
pins_judge inverted text =
    either_way kinds.Pin (nat_lt (length (before 58 text)) (length text)) (pin_on inverted (before 58 text) (drop (length (before 58 text) + 1) text)) (pin_on inverted (codes "mcu") text)
    (pin_judges inverted (before 58 text) (drop (length (before 58 text) + 1) text)) (pin_judges inverted (codes "mcu") text)

kind_judges : (kind : Kind) (text : List ℕ) → Judges kind (judged_as kind text)
kind_judges kind text = search (rules, decimal_judges, wholes_judge, offsets_judge, all_microsteps_judge, position_judges, any_position_judges, words_judge, pins_judge)

key_judges : (key : Key) (text : List ℕ) → Judges (option_row key).kind (judged key text)
unfolding judged
key_judges key text = kind_judges (option_row key).kind text

-- ---- lines

-- a value of its option's kind, whose name is short where it is a pin
abbrev IsGood : Item → Type 0
IsGood (Holds section key value) = IsOfKind (option_row key).kind value
IsGood c = Unit {0}

abbrev AreGoodItems : List Item → Type 0
AreGoodItems [] = Unit {0}
AreGoodItems (item ∷ items) = IsGood item × AreGoodItems items

abbrev AreGood : List Entry → Type 0
AreGood [] = Unit {0}
AreGood (e ∷ es) = IsGood e.item × AreGood es

value_good : (section : Section) (key : Key) (r : Result Value CfgKind) → Judges (option_row key).kind r → IsGood (with_value section key r)
value_good section key (Ok v) h = h
value_good section key (Err fault) h = tt

key_good : (section : Section) (value : List ℕ) (o : Option Key) → IsGood (with_key section value o)
key_good section value None = tt
key_good section value (Some key) = value_good section key (judged key value) (key_judges key value)

option_good : (section : Section) (name value : List ℕ) → IsGood (option_in section name value)
option_good Before name value = tt
option_good Unknown name value = tt
option_good c name value = key_good c value (key_named c name)

opened_good : (section : Section) → IsGood (opened section)
opened_good Unknown = tt
opened_good section = tt

continued_good : (lenient : Bool) → IsGood (cond lenient Skipped (Wrong BadLine))
continued_good true = tt
continued_good false = tt

meant_good : (place : Place) (line : ConfigurationLine) → IsGood (meant place line)
meant_good place line = search (rules, opened_good, continued_good, option_good)

items_good : (place : Place) (lines : List (List ℕ)) → AreGoodItems (items place lines)
items_good place [] = tt
items_good place (line ∷ lines) = (meant_good place (said line), items_good (place_behind place (said line)) lines)

entry_good : (number : ℕ) (item : Item) (es : List Entry) → IsGood item → AreGood es → AreGood (entry_of number item ++ es)
entry_good number (Opens section) es g h = (tt, h)
entry_good number (Holds section key value) es g h = (g, h)
entry_good number c es g h = h

entries_good : (number : ℕ) (all : List Item) → AreGoodItems all → AreGood (entries number all)
entries_good number [] g = tt
entries_good number (item ∷ all) g = entry_good number item (entries (number + 1) all) g.0 (entries_good (number + 1) all g.1)

item_fit : (item : Item) → IsGood item → item_fits item ≡ true
item_fit (Holds section key value) g = g.0
item_fit c g = refl

all_fit : (es : List Entry) → AreGood es → list_all entry_fits es ≡ true
all_fit [] g = refl
all_fit (e ∷ es) g = and_from (entry_fits e) (list_all entry_fits es) (item_fit e.item g.0) (all_fit es g.1)

clock_small : (es : List Entry) (name : List ℕ) → AreGood es → amount es (Simulated name) ClockFreq < 10 ^ 9
clock_small es name g =
    let n = amount es (Simulated name) ClockFreq in
    let fit : (is_within 1_000_000 200_000_000 n && (n % 1_000 == 0)) ≡ true = amount_fits es (Simulated name) ClockFreq (all_fit es g) refl in
    let within = (and_parts (is_within 1_000_000 200_000_000 n) (n % 1_000 == 0) fit).0 in
    let below = leb-true n 200_000_000 (and_parts (nat_le 1_000_000 n) (nat_le n 200_000_000) within).1 in
    omega (arith, below)

-- ---- the pins that hold

abbrev IsGoodLast : Option Entry → Type 0
IsGoodLast None = Unit {0}
IsGoodLast (Some e) = IsGood e.item

later_good : (later earlier : Option Entry) → IsGoodLast later → IsGoodLast earlier → IsGoodLast (or_earlier later earlier)
later_good None earlier g h = h
later_good (Some e) earlier g h = g

one_good : (b : Bool) (e : Entry) → IsGood e.item → IsGoodLast (cond b (Some e) None)
one_good true e g = g
one_good false e g = tt

last_good : (section : Section) (key : Key) (es : List Entry) → AreGood es → IsGoodLast (last_set section key es)
last_good section key [] g = tt
last_good section key (e ∷ es) g =
    later_good (last_set section key es) (cond (sets section key e.item) (Some e) None) (last_good section key es g.1) (one_good (sets section key e.item) e g.0)

abbrev IsShortUse : Option Use → Type 0
IsShortUse None = Unit {0}
IsShortUse (Some u) = is_pin_name u.pin.name ≡ true

item_short : (section : Section) (key : Key) (line : ℕ) (item : Item) → IsGood item → IsShortUse (use_in section key line item)
item_short section key line Skipped g = tt
item_short section key line PassedOver g = tt
item_short section key line (Opens s) g = tt
item_short section key line (Holds s k (Amount n)) g = tt
item_short section key line (Holds s k (Signed z)) g = tt
item_short section key line (Holds s k (Flag b)) g = tt
item_short section key line (Holds s k (Pin p)) g = g.1
item_short section key line (Wrong kind) g = tt

last_short : (section : Section) (key : Key) (o : Option Entry) → IsGoodLast o → IsShortUse (use_of section key o)
last_short section key None g = tt
last_short section key (Some e) g = item_short section key e.line e.item g

wired_short : (es : List Entry) (section : Section) (key : Key) → AreGood es → IsShortUse (wired es section key)
unfolding wired
wired_short es section key g = last_short section key (last_set section key es) (last_good section key es g)

abbrev AreShortUses : List Use → Type 0
AreShortUses [] = Unit {0}
AreShortUses (u ∷ us) = (is_pin_name u.pin.name ≡ true) × AreShortUses us

-- at most so many pins with short names
record AreFew (most : ℕ) (uses : List Use) : Type 0 where
  few : length uses ≤ most
  short : AreShortUses uses

put_short : (u : Use) (us : List Use) → is_pin_name u.pin.name ≡ true → AreShortUses us → (length (put u us) ≡ suc (length us)) × AreShortUses (put u us)
put_short u [] h g = (refl, (h, tt))
put_short u (v ∷ vs) h g =
    let more = put_short u vs h g.1 in
    elim (nat_lt u.line v.line) as (λ b. (length (cond b (u ∷ v ∷ vs) (v ∷ put u vs)) ≡ suc (suc (length vs))) × AreShortUses (cond b (u ∷ v ∷ vs) (v ∷ put u vs))) [
      | true ↦ (refl, (h, g))
      | false ↦ (ap suc more.0, (g.0, more.1))
    ]

put_few : (most : ℕ) (o : Option Use) (us : List Use) → IsShortUse o → AreFew most us → AreFew (most + 1) (put_some o us)
put_few most None us h g = record { few = omega arith; short = g.short }
put_few most (Some u) us h g =
    let all = put_short u us h g.short in
    let size = all.0 in
    record { few = omega (arith, size); short = all.1 }

motor_few : (most : ℕ) (es : List Entry) (motor : Motor) (us : List Use) → AreGood es → AreFew most us → AreFew (most + 3) (with_pins_of es motor us)
motor_few most es motor us g h =
    let step = put_few most (wired es (Stepper motor) StepPin) us (wired_short es (Stepper motor) StepPin g) h in
    let dir = put_few (most + 1) (wired es (Stepper motor) DirPin) (put_some (wired es (Stepper motor) StepPin) us) (wired_short es (Stepper motor) DirPin g) step in
    let end = put_few (most + 1 + 1) (wired es (Stepper motor) EndstopPin) (put_some (wired es (Stepper motor) DirPin) (put_some (wired es (Stepper motor) StepPin) us)) (wired_short es (Stepper motor) EndstopPin g) dir in
    record { few = omega (arith, end.few); short = end.short }

motors_few : (most : ℕ) (es : List Entry) (motors : List Motor) (us : List Use) → AreGood es → AreFew most us → AreFew (most + 3 * length motors) (uses_of es motors us)
motors_few most es [] us g h = record { few = omega arith; short = h.short }
motors_few most es (motor ∷ motors) us g h =
    let more = motors_few (most + 3) es motors (with_pins_of es motor us) g (motor_few most es motor us g h) in
    record { few = omega (arith, more.few); short = more.short }

uses_few : (es : List Entry) (motors : List Motor) → AreGood es → length motors ≤ 16 → AreFew 49 (all_uses es motors)
uses_few es motors g h =
    let steppers = motors_few 0 es motors [] g (record { few = omega arith; short = tt }) in
    let all = put_few (0 + 3 * length motors) (wired es Fan FanPin) (uses_of es motors []) (wired_short es Fan FanPin g) steppers in
    record { few = omega (arith, all.few); short = all.short }

-- ---- the pins of a board

abbrev pub AreShortNames : List (List ℕ) → Type 0
AreShortNames [] = Unit {0}
AreShortNames (p ∷ ps) = (is_pin_name p ≡ true) × AreShortNames ps

-- at most so many short names
record AreFewNames (most : ℕ) (names : List (List ℕ)) : Type 0 where
  few : length names ≤ most
  short : AreShortNames names

at_end : (names : List (List ℕ)) (name : List ℕ) → is_pin_name name ≡ true → AreShortNames names → AreShortNames (names ++ name ∷ [])
at_end [] name h g = (h, tt)
at_end (n ∷ names) name h g = (g.0, at_end names name h g.1)

name_few : (b : Bool) (most : ℕ) (names : List (List ℕ)) (name : List ℕ) → is_pin_name name ≡ true → AreFewNames most names → AreFewNames (most + 1) (cond b names (names ++ name ∷ []))
name_few true most names name h g = record { few = omega (arith, g.few); short = g.short }
name_few false most names name h g = record { few = omega (arith, g.few, length-append names (name ∷ [])); short = at_end names name h g.short }

one_few : (b : Bool) (most : ℕ) (names : List (List ℕ)) (name : List ℕ) → is_pin_name name ≡ true → AreFewNames most names → AreFewNames (most + 1) (cond b (with_name names name) names)
one_few true most names name h g = name_few (has_name names name) most names name h g
one_few false most names name h g = record { few = omega (arith, g.few); short = g.short }

pins_few : (board : List ℕ) (most : ℕ) (names : List (List ℕ)) (us : List Use) → AreShortUses us → AreFewNames most names → AreFewNames (most + length us) (pins_on board names us)
pins_few board most names [] h g = record { few = omega (arith, g.few); short = g.short }
pins_few board most names (u ∷ us) h g =
    let more = pins_few board (most + 1) (cond (bytes_eq u.pin.board board) (with_name names u.pin.name) names) us h.1 (one_few (bytes_eq u.pin.board board) most names u.pin.name h.0 g) in
    record { few = omega (arith, more.few); short = more.short }

-- ---- the steppers

none_of : (number : ℕ) (o : Option CfgKind) (later : Option CfgFault) → or_later number o later ≡ None → (o ≡ None) × (later ≡ None)
none_of number None later e = (refl, e)
none_of number (Some kind) later e = cc

not_crowded : (b : Bool) (count : ℕ) → cond b (Some OutOfLimit) None ≡ None → b ≡ nat_le 16 count → count < 16
not_crowded true count e f = cc
not_crowded false count e f = leb-false 16 count (sym f)

motor_fits : (b : Bool) (motors : List Motor) (motor : Motor) → crowded b 16 (length motors) ≡ None → length motors ≤ 16 → length (cond b motors (motors ++ motor ∷ [])) ≤ 16
motor_fits b motors motor p3 p4 = search (rules, not_crowded, nat_le, length-append)

stepper_fits : (names : List (List ℕ)) (motors : List Motor) (item : Item) → fault_of names motors item ≡ None → length motors ≤ 16 → length (with_stepper motors item) ≤ 16
stepper_fits names motors (Opens (Stepper motor)) e h = motor_fits (has_motor motors motor) motors motor e h
stepper_fits names motors item e h = h

steppers_few : (names : List (List ℕ)) (motors : List Motor) (number : ℕ) (all : List Item) → first_fault names motors number all ≡ None → length motors ≤ 16 → length (steppers_behind motors all) ≤ 16
steppers_few names motors number [] e h = h
steppers_few names motors number (item ∷ all) e h =
    let none = none_of number (fault_of names motors item) (first_fault (with_board names item) (with_stepper motors item) (number + 1) all) e in
    steppers_few (with_board names item) (with_stepper motors item) (number + 1) all none.1 (stepper_fits names motors item none.0 h)

-- ---- the machine

unless_ok : (o : Option CfgFault) (next : Result Machine CfgFault) (m : Machine) → machine_unless o next ≡ Ok m → (o ≡ None) × (next ≡ Ok m)
unless_ok None next m e = (refl, e)
unless_ok (Some fault) next m e = cc

-- a machine has these boards
abbrev Keeps : List BoardDef → Result Machine CfgFault → Type 0
Keeps boards (Ok m) = m.boards ≡ boards
Keeps boards (Err fault) = Unit {0}

keeps_behind : {A : Type 0} (boards : List BoardDef) (x : Result A CfgFault) (f : A → Result Machine CfgFault) → ((a : A) → Keeps boards (f a)) → Keeps boards (x >>= f)
keeps_behind boards (Ok a) f h = h a
keeps_behind boards (Err fault) f h = tt

keeps_boards : (es : List Entry) (motors : List Motor) (passed : ℕ) (boards : List BoardDef) → Keeps boards (assembled es motors passed boards)
keeps_boards es motors passed boards = search (rules, keeps_behind)

-- a machine whose boards are those of lines that say good values of at most 16 steppers
record IsBuilt (m : Machine) : Type 0 where
  es : List Entry
  motors : List Motor
  names : List (List ℕ)
  good : AreGood es
  few : length motors ≤ 16
  boards : m.boards ≡ board_defs es (all_uses es motors) names

items_built : (all : List Item) (m : Machine) → AreGoodItems all → reading_of_items all ≡ Ok m → IsBuilt m
items_built all m g e = search (rules, unless_ok, entries_good, steppers_few, keeps_boards)

within : (b : Bool) (r : Result Machine CfgFault) (m : Machine) → cond b (Err (At 0 TooLarge)) r ≡ Ok m → r ≡ Ok m
within true r m e = cc
within false r m e = e

built : (text : List ℕ) (m : Machine) → machine_of_text text ≡ Ok m → IsBuilt m
unfolding machine_of_text
built text m e =
    items_built (items first_place (lines_of text)) m (items_good first_place (lines_of text)) (within (nat_lt 1_048_576 (length text)) (reading_of_items (items first_place (lines_of text))) m e)

board_there : (es : List Entry) (uses : List Use) (names : List (List ℕ)) (b : ℕ) (d : BoardDef) → b < length (board_defs es uses names)
    → (name : List ℕ) × (get_or (board_defs es uses names) b d ≡ board_def es uses name)
board_there es uses [] b d below = absurd (omega arith)
board_there es uses (n ∷ names) zero d below = (n, refl)
board_there es uses (n ∷ names) (suc b) d below = board_there es uses names b d (omega arith)

-- a board whose clock has at most nine digits, and which has at most 49 pins with short names
pub record IsSmall (b : BoardDef) : Type 0 where
  pub freq : b.freq < 10 ^ 9
  pub few : length b.pins ≤ 49
  pub short : AreShortNames b.pins

def_small : (es : List Entry) (motors : List Motor) (name : List ℕ) → AreGood es → length motors ≤ 16 → IsSmall (board_def es (all_uses es motors) name)
def_small es motors name g few =
    let uses = uses_few es motors g few in
    let pins = pins_few name 0 [] (all_uses es motors) uses.short (record { few = omega arith; short = tt }) in
    record { freq = clock_small es name g; few = omega (arith, pins.few, uses.few); short = pins.short }

pub boards_small : (text : List ℕ) (m : Machine) → machine_of_text text ≡ Ok m → (b : ℕ) → b < length m.boards → IsSmall (board_at m b)
boards_small text m e b below =
    let made = built text m e in
    let defs = board_defs made.es (all_uses made.es made.motors) made.names in
    let there = board_there made.es (all_uses made.es made.motors) made.names b no_board (omega (arith, below, ap length made.boards)) in
    let same : board_at m b ≡ board_def made.es (all_uses made.es made.motors) there.0 = ap (λ (bs : List BoardDef). get_or bs b no_board) made.boards ∙ there.1 in
    subst IsSmall (sym same) (def_small made.es made.motors there.0 made.good made.few)

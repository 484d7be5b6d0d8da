-- A machine that is read from a configuration has words for names.
use Rattle.std.proofs.Common.{◌≡◌, ◌≢◌, ◌∙◌, ℕ, ℤ, pos, negsuc, zero, suc, ◌+◌, ◌-◌, ◌<◌, Bool, true, false, List, [], ◌∷◌, ◌++◌, length, map, get_or, All, AllPairs, ap, sym, refl, subst, arith, Option, Some, None, Result, Ok, Err, append-nil, append_assoc, rules}
use Rattle.std.specs.Prelude.{◌/◌, ◌%◌, neg_ℤ, unsigned_abs, drop, ◌&&◌, ◌==◌, codes, nat_le, nat_lt, if◌then◌else◌}
use Rattle.std.specs.List.{list_all}
use Rattle.std.specs.Str.{bytes_eq}
use Rattle.laws_board.proofs.Names.{nat_tests, BoardDef, Machine, and_from, both_parts}
use Rattle.plan_types.specs.declared.cause.CfgKind.{CfgKind}
use Rattle.plan_types.specs.declared.cause.CfgKind.TheVariants.{BadLine, BadValue, OutOfLimit}
use Rattle.plan_types.specs.declared.machine.StepperDef.{StepperDef}
use Rattle.text_core.specs.Bytes.{before, behind, front}
use Rattle.text_core.specs.Lines.{lines_of}
use Rattle.text_core.specs.Trims.{trimmed}
use Rattle.cfg_lines.specs.declared.fault.CfgFault.{CfgFault}
use Rattle.cfg_lines.specs.declared.item.Entry.{Entry}
use Rattle.cfg_lines.specs.declared.item.Item.{Item}
use Rattle.cfg_lines.specs.declared.item.Item.TheVariants.{Skipped, PassedOver, Opens, Holds, Wrong}
use Rattle.cfg_lines.specs.declared.item.Place.{Place}
use Rattle.cfg_lines.specs.declared.section.Drive.{Drive}
use Rattle.cfg_lines.specs.declared.section.Motor.{Motor}
use Rattle.cfg_lines.specs.declared.section.Section.{Section}
use Rattle.cfg_lines.specs.declared.section.Section.TheVariants as sections
use Rattle.cfg_lines.specs.declared.table.Key.{Key}
use Rattle.cfg_lines.specs.declared.table.Key.TheVariants.{DirPin, EndstopPin, FanPin, StepPin}
use Rattle.cfg_lines.specs.declared.table.Kind.{Kind}
use Rattle.cfg_lines.specs.declared.table.Kind.TheVariants as kinds
use Rattle.cfg_lines.specs.declared.value.Value.{Value}
use Rattle.cfg_lines.specs.declared.value.Value.TheVariants as values
use Rattle.cfg_lines.specs.Faults.{◌>>=◌}
use Rattle.cfg_lines.specs.Items.{boards_behind, entries, first_fault, has_name, items, meant, opened, option_in, passed_over, place_behind, first_place, steppers_behind, with_key, with_motor, with_name, with_value}
use Rattle.cfg_lines.specs.Said.{ConfigurationLine, Nothing, Begins, Continues, Sets, Neither, said}
use Rattle.cfg_lines.specs.Sections.{behind_text, board_section, drive_of, is_board_name, is_name_byte, section_of, simulated_section, stepper_of, stepper_section, with_digit}
use Rattle.cfg_lines.specs.Table.{key_named, option_row}
use Rattle.cfg_lines.specs.Values.{any_position, decimal, inverts, is_microsteps, is_pin_byte, is_pin_name, is_pin_sign, is_whole, is_within, judged, judged_as, microsteps, microsteps_of, offset, offset_within, one_of, pin_of, pin_on, position, spelled, unsigned_pin, whole, whole_within}
use Rattle.cfg_lines.proofs.Distinct.{AreDistinct, with_name_distinct}
use Rattle.cfg_text.specs.declared.wiring.Use.{Use}
use Rattle.cfg_text.specs.Building.{board_defs, fan_def, joined, machine_of, motor_name, pins_on, stepper_def, stepper_defs, wire_of}
use Rattle.cfg_text.specs.Holding.{last_set, or_earlier, sets}
use Rattle.cfg_text.specs.Missing.{missing}
use Rattle.cfg_text.specs.Reading.{assembled, axes, machine_of_text, reading_of_items, reading_of_uses, machine_unless}
use Rattle.cfg_text.specs.Wiring.{all_uses, put, put_some, use_in, use_of, uses_of, wired, wiring_fault, with_pins_of}
use Rattle.cfg_text.proofs.Parts.{boards_differ}
use Rattle.laws_report.specs.reports.Names.{HasNames, is_plain, is_word}
use Rattle.laws_report.proofs.reports.Motors.{AreSmall, motor-word, names-with, small-with}

-- names of boards and pins are words

plain-name : (b : ℕ) → is_name_byte b ≡ true → is_plain b ≡ true
plain-name b h = grind (arith, nat_tests)

plain-pin : (b : ℕ) → is_pin_byte b ≡ true → is_plain b ≡ true
plain-pin b h = grind (arith, nat_tests)

all-plain : (test : ℕ → Bool) → ((b : ℕ) → test b ≡ true → is_plain b ≡ true) → (text : List ℕ) → list_all test text ≡ true → list_all is_plain text ≡ true
all-plain test plain [] h = refl
all-plain test plain (b ∷ bs) h = (let p = both_parts (test b) (list_all test bs) h in and_from (is_plain b) (list_all is_plain bs) (plain b p.0) (all-plain test plain bs p.1))

word-by : (test : ℕ → Bool) → ((b : ℕ) → test b ≡ true → is_plain b ≡ true) → (text : List ℕ) → (nat_lt 0 (length text) && nat_le (length text) 16 && list_all test text) ≡ true → is_word text ≡ true
word-by test plain text h = search (rules, both_parts, nat_lt, nat_le, list_all, and_from, all-plain)

board-name : (text : List ℕ) → is_board_name text ≡ true → is_word text ≡ true
board-name text h = word-by is_name_byte plain-name text h

pin-name : (text : List ℕ) → is_pin_name text ≡ true → is_word text ≡ true
pin-name text h = word-by is_pin_byte plain-pin text h

-- what the lines of a configuration name

abbrev IsGoodSection : Section → Type 0
IsGoodSection (sections.Board name) = is_word name ≡ true
IsGoodSection (sections.Stepper motor) = motor.digit < 10
IsGoodSection _ = Unit {0}

abbrev IsGoodValue : Value → Type 0
IsGoodValue (values.Pin pin) = is_word pin.name ≡ true
IsGoodValue _ = Unit {0}

abbrev IsGood : Item → Type 0
IsGood (Opens section) = IsGoodSection section
IsGood (Holds section key value) = IsGoodValue value
IsGood _ = Unit {0}

either-section : (a : Bool) (x y : Section) → (a ≡ true → IsGoodSection x) → (a ≡ false → IsGoodSection y) → IsGoodSection (if a then x else y)
either-section true x y p q = p refl
either-section false x y p q = q refl

digit-section : (drive : Option Drive) (digit : ℕ) → digit < 10 → IsGoodSection (with_digit drive digit)
digit-section None digit small = tt
digit-section (Some drive) digit small = small

stepper-section : (text : List ℕ) → IsGoodSection (stepper_of text)
stepper-section text = search (rules, digit-section, either-section, nat_le, both_parts, nat_tests)

maybe-stepper : (text : Option (List ℕ)) → IsGoodSection (stepper_section text)
maybe-stepper None = tt
maybe-stepper (Some rest) = stepper-section rest

simulated-section : (name : List ℕ) (text : Option (List ℕ)) → IsGoodSection (simulated_section name text)
simulated-section name None = maybe-stepper (behind_text (codes "stepper_") name)
simulated-section name (Some rest) = either-section (is_board_name (trimmed rest)) (sections.Simulated (trimmed rest)) sections.Unknown (λ h. tt) (λ h. tt)

board-section : (name : List ℕ) (text : Option (List ℕ)) → IsGoodSection (board_section name text)
board-section name None = simulated-section name (behind_text (codes "simulated_mcu ") name)
board-section name (Some rest) = either-section (is_board_name (trimmed rest)) (sections.Board (trimmed rest)) sections.Unknown (λ h. board-name (trimmed rest) h) (λ h. tt)

good-section : (name : List ℕ) → IsGoodSection (section_of name)
unfolding section_of
good-section name =
    either-section (bytes_eq name (codes "printer")) _ _ (λ h. tt) (λ h.
    either-section (bytes_eq name (codes "mcu")) _ _ (λ h. refl) (λ h.
    either-section (bytes_eq name (codes "simulated_mcu")) _ _ (λ h. tt) (λ h.
    either-section (bytes_eq name (codes "simulation")) _ _ (λ h. tt) (λ h.
    either-section (bytes_eq name (codes "extruder")) _ _ (λ h. omega arith) (λ h.
    either-section (bytes_eq name (codes "fan")) _ _ (λ h. tt) (λ h.
    board-section name (behind_text (codes "mcu ") name)))))))

-- a value, where it is one
abbrev IsGoodResult : Result Value CfgKind → Type 0
IsGoodResult (Ok value) = IsGoodValue value
IsGoodResult (Err kind) = Unit {0}

either-value : (a : Bool) (x y : Result Value CfgKind) → (a ≡ true → IsGoodResult x) → (a ≡ false → IsGoodResult y) → IsGoodResult (if a then x else y)
either-value true x y p q = p refl
either-value false x y p q = q refl

by-decimal : (low high : ℕ) (o : Option ℤ) → IsGoodResult (decimal low high o)
by-decimal low high o = search (rules, either-value)

by-whole-within : (low high step : ℕ) (z : ℤ) → IsGoodResult (whole_within low high step z)
by-whole-within low high step (pos n) = either-value (is_within low high (n / 1_000_000) && ((n / 1_000_000) % step == 0)) (Ok (values.Amount (n / 1_000_000))) (Err OutOfLimit) (λ h. tt) (λ h. tt)
by-whole-within low high step (negsuc n) = tt

by-whole : (low high step : ℕ) (o : Option ℤ) → IsGoodResult (whole low high step o)
by-whole low high step None = tt
by-whole low high step (Some z) = either-value (is_whole z) (whole_within low high step z) (Err BadValue) (λ h. by-whole-within low high step z) (λ h. tt)

by-offset-within : (most : ℕ) (z : ℤ) → IsGoodResult (offset_within most z)
by-offset-within most (pos n) = either-value (nat_le (n / 1_000_000) most) (Ok (values.Signed (pos (n / 1_000_000)))) (Err OutOfLimit) (λ h. tt) (λ h. tt)
by-offset-within most (negsuc n) = either-value (nat_le ((n + 1) / 1_000_000) most) (Ok (values.Signed (neg_ℤ (pos ((n + 1) / 1_000_000))))) (Err OutOfLimit) (λ h. tt) (λ h. tt)

by-offset : (most : ℕ) (o : Option ℤ) → IsGoodResult (offset most o)
by-offset most None = tt
by-offset most (Some z) = either-value (is_whole z) (offset_within most z) (Err BadValue) (λ h. by-offset-within most z) (λ h. tt)

by-microsteps-of : (z : ℤ) → IsGoodResult (microsteps_of z)
by-microsteps-of (pos n) = either-value (is_microsteps (n / 1_000_000)) (Ok (values.Amount (n / 1_000_000))) (Err BadValue) (λ h. tt) (λ h. tt)
by-microsteps-of (negsuc n) = tt

by-microsteps : (o : Option ℤ) → IsGoodResult (microsteps o)
by-microsteps None = tt
by-microsteps (Some z) = either-value (is_whole z) (microsteps_of z) (Err BadValue) (λ h. by-microsteps-of z) (λ h. tt)

by-position : (o : Option ℤ) → IsGoodResult (position o)
by-position None = tt
by-position (Some z) = either-value (nat_le (unsigned_abs z) 500_000_000) (Ok (values.Signed z)) (Err OutOfLimit) (λ h. tt) (λ h. tt)

by-any : (o : Option ℤ) → IsGoodResult (any_position o)
by-any None = tt
by-any (Some z) = tt

by-words : (plain other text : List ℕ) → IsGoodResult (one_of plain other text)
by-words plain other text =
    either-value (bytes_eq text other) (Ok (values.Flag true)) (if bytes_eq text plain then Ok (values.Flag false) else Err BadValue) (λ h. tt) (λ h. either-value (bytes_eq text plain) (Ok (values.Flag false)) (Err BadValue) (λ h. tt) (λ h. tt))

by-pin-on : (inverted : Bool) (board name : List ℕ) → IsGoodResult (pin_on inverted board name)
by-pin-on inverted board name = either-value (is_board_name board && is_pin_name name) (Ok (values.Pin (record { board = board; name = name; inverted = inverted }))) (Err BadValue) (λ h. pin-name name (both_parts (is_board_name board) (is_pin_name name) h).1) (λ h. tt)

by-unsigned : (inverted : Bool) (text : List ℕ) → IsGoodResult (unsigned_pin inverted text)
by-unsigned inverted text =
    let board = before 58 text in
    either-value (nat_lt (length board) (length text)) (pin_on inverted board (drop (length board + 1) text)) (pin_on inverted (codes "mcu") text) (λ h. by-pin-on inverted board (drop (length board + 1) text)) (λ h. by-pin-on inverted (codes "mcu") text)

by-pin : (text : List ℕ) → IsGoodResult (pin_of text)
by-pin text = by-unsigned (inverts (front is_pin_sign text)) (behind is_pin_sign text)

judged-good : (kind : Kind) (text : List ℕ) → IsGoodResult (judged_as kind text)
judged-good (kinds.Decimal low high) text = by-decimal low high (spelled 9 text)
judged-good (kinds.Whole low high digits step) text = by-whole low high step (spelled digits text)
judged-good (kinds.Offset most) text = by-offset most (spelled 9 text)
judged-good kinds.Microsteps text = by-microsteps (spelled 9 text)
judged-good kinds.Position text = by-position (spelled 9 text)
judged-good kinds.AnyPosition text = by-any (spelled 9 text)
judged-good kinds.Kinematics text = by-words (codes "cartesian") (codes "corexy") text
judged-good kinds.Truth text = by-words (codes "False") (codes "True") text
judged-good kinds.Pin text = by-pin text
judged-good kinds.Refused text = tt

good-judged : (key : Key) (text : List ℕ) → IsGoodResult (judged key text)
unfolding judged
good-judged key text = judged-good (option_row key).kind text

good-value : (section : Section) (key : Key) (r : Result Value CfgKind) → IsGoodResult r → IsGood (with_value section key r)
good-value section key (Ok value) good = good
good-value section key (Err kind) good = tt

good-key : (section : Section) (value : List ℕ) (key : Option Key) → IsGood (with_key section value key)
good-key section value None = tt
good-key section value (Some key) = good-value section key (judged key value) (good-judged key value)

good-option : (section : Section) (name value : List ℕ) → IsGood (option_in section name value)
good-option section name value = search (rules, good-key)

good-opened : (section : Section) → IsGoodSection section → IsGood (opened section)
good-opened (sections.Board b) good = good
good-opened (sections.Stepper m) good = good
good-opened c good = tt

good-meant : (place : Place) (s : ConfigurationLine) → IsGood (meant place s)
good-meant place s = search (rules, good-opened, good-section, good-option)

abbrev AreGood : List Item → Type 0
AreGood [] = Unit {0}
AreGood (i ∷ is) = IsGood i × AreGood is

good-items : (place : Place) (lines : List (List ℕ)) → AreGood (items place lines)
good-items place [] = tt
good-items place (line ∷ lines) = (good-meant place (said line), good-items (place_behind place (said line)) lines)

-- the boards and the steppers that they open

abbrev AreWordNames : List (List ℕ) → Type 0
AreWordNames [] = Unit {0}
AreWordNames (n ∷ names) = (is_word n ≡ true) × AreWordNames names

words-more : (names : List (List ℕ)) (name : List ℕ) → AreWordNames names → is_word name ≡ true → AreWordNames (names ++ name ∷ [])
words-more [] name are is = (is, tt)
words-more (n ∷ names) name are is = (are.0, words-more names name are.1 is)

words-with : (names : List (List ℕ)) (name : List ℕ) → AreWordNames names → is_word name ≡ true → AreWordNames (with_name names name)
words-with names name are is = search (rules, words-more)

boards-opened : (names : List (List ℕ)) (is : List Item) → AreGood is → AreWordNames names → AreDistinct names → AreWordNames (boards_behind names is) × AreDistinct (boards_behind names is)
boards-opened names [] good are apart = (are, apart)
boards-opened names (Opens (sections.Board name) ∷ is) good are apart = boards-opened (with_name names name) is good.1 (words-with names name are good.0) (with_name_distinct names name apart)
boards-opened names (Opens sections.Before ∷ is) good are apart = boards-opened names is good.1 are apart
boards-opened names (Opens sections.Unknown ∷ is) good are apart = boards-opened names is good.1 are apart
boards-opened names (Opens sections.Printer ∷ is) good are apart = boards-opened names is good.1 are apart
boards-opened names (Opens (sections.Simulated b) ∷ is) good are apart = boards-opened names is good.1 are apart
boards-opened names (Opens sections.Simulation ∷ is) good are apart = boards-opened names is good.1 are apart
boards-opened names (Opens (sections.Stepper m) ∷ is) good are apart = boards-opened names is good.1 are apart
boards-opened names (Opens sections.Fan ∷ is) good are apart = boards-opened names is good.1 are apart
boards-opened names (Skipped ∷ is) good are apart = boards-opened names is good.1 are apart
boards-opened names (PassedOver ∷ is) good are apart = boards-opened names is good.1 are apart
boards-opened names (Holds s k v ∷ is) good are apart = boards-opened names is good.1 are apart
boards-opened names (Wrong kind ∷ is) good are apart = boards-opened names is good.1 are apart

steppers-opened : (motors : List Motor) (is : List Item) → AreGood is → AreSmall motors → AreDistinct (map motor_name motors) → AreDistinct (map motor_name (steppers_behind motors is))
steppers-opened motors [] good small apart = apart
steppers-opened motors (Opens (sections.Stepper m) ∷ is) good small apart =
    steppers-opened (with_motor motors m) is good.1 (small-with motors m small good.0) (subst AreDistinct (sym (names-with motors m small good.0)) (with_name_distinct (map motor_name motors) (motor_name m) apart))
steppers-opened motors (Opens (sections.Board b) ∷ is) good small apart = steppers-opened motors is good.1 small apart
steppers-opened motors (Opens sections.Before ∷ is) good small apart = steppers-opened motors is good.1 small apart
steppers-opened motors (Opens sections.Unknown ∷ is) good small apart = steppers-opened motors is good.1 small apart
steppers-opened motors (Opens sections.Printer ∷ is) good small apart = steppers-opened motors is good.1 small apart
steppers-opened motors (Opens (sections.Simulated b) ∷ is) good small apart = steppers-opened motors is good.1 small apart
steppers-opened motors (Opens sections.Simulation ∷ is) good small apart = steppers-opened motors is good.1 small apart
steppers-opened motors (Opens sections.Fan ∷ is) good small apart = steppers-opened motors is good.1 small apart
steppers-opened motors (Skipped ∷ is) good small apart = steppers-opened motors is good.1 small apart
steppers-opened motors (PassedOver ∷ is) good small apart = steppers-opened motors is good.1 small apart
steppers-opened motors (Holds s k v ∷ is) good small apart = steppers-opened motors is good.1 small apart
steppers-opened motors (Wrong kind ∷ is) good small apart = steppers-opened motors is good.1 small apart

-- the pins that hold

abbrev AreGoodEntries : List Entry → Type 0
AreGoodEntries [] = Unit {0}
AreGoodEntries (e ∷ es) = IsGood e.item × AreGoodEntries es

good-entries : (n : ℕ) (is : List Item) → AreGood is → AreGoodEntries (entries n is)
good-entries n [] good = tt
good-entries n (Opens s ∷ is) good = (good.0, good-entries (n + 1) is good.1)
good-entries n (Holds s k v ∷ is) good = (good.0, good-entries (n + 1) is good.1)
good-entries n (Skipped ∷ is) good = good-entries (n + 1) is good.1
good-entries n (PassedOver ∷ is) good = good-entries (n + 1) is good.1
good-entries n (Wrong kind ∷ is) good = good-entries (n + 1) is good.1

abbrev IsGoodEntry : Option Entry → Type 0
IsGoodEntry None = Unit {0}
IsGoodEntry (Some e) = IsGood e.item

last-good : (section : Section) (key : Key) (es : List Entry) → AreGoodEntries es → IsGoodEntry (last_set section key es)
last-good section key [] good = tt
last-good section key (e ∷ es) good = by (last_set section key es) (sets section key e.item) (last-good section key es good.1) where
  by : (later : Option Entry) (b : Bool) → IsGoodEntry later → IsGoodEntry (or_earlier later (if b then Some e else None))
  by None true h = good.0
  by None false h = tt
  by (Some f) b h = h

abbrev IsGoodUse : Option Use → Type 0
IsGoodUse None = Unit {0}
IsGoodUse (Some u) = is_word u.pin.name ≡ true

use-good : (section : Section) (key : Key) (n : ℕ) (item : Item) → IsGood item → IsGoodUse (use_in section key n item)
use-good section key n (Holds s k (values.Pin pin)) good = good
use-good section key n (Holds s k (values.Amount a)) good = tt
use-good section key n (Holds s k (values.Signed z)) good = tt
use-good section key n (Holds s k (values.Flag b)) good = tt
use-good section key n (Opens s) good = tt
use-good section key n Skipped good = tt
use-good section key n PassedOver good = tt
use-good section key n (Wrong kind) good = tt

wired-good : (section : Section) (key : Key) (es : List Entry) → AreGoodEntries es → IsGoodUse (wired es section key)
unfolding wired
wired-good section key es good = by (last_set section key es) (last-good section key es good) where
  by : (o : Option Entry) → IsGoodEntry o → IsGoodUse (use_of section key o)
  by None h = tt
  by (Some e) h = use-good section key e.line e.item h

abbrev AreGoodUses : List Use → Type 0
AreGoodUses [] = Unit {0}
AreGoodUses (u ∷ us) = (is_word u.pin.name ≡ true) × AreGoodUses us

put-good : (u : Use) (us : List Use) → is_word u.pin.name ≡ true → AreGoodUses us → AreGoodUses (put u us)
put-good u [] good are = (good, tt)
put-good u (v ∷ vs) good are = by (nat_lt u.line v.line) (put-good u vs good are.1) where
  by : (b : Bool) → AreGoodUses (put u vs) → AreGoodUses (if b then u ∷ v ∷ vs else v ∷ put u vs)
  by true later = (good, are)
  by false later = (are.0, later)

some-good : (o : Option Use) (us : List Use) → IsGoodUse o → AreGoodUses us → AreGoodUses (put_some o us)
some-good None us good are = are
some-good (Some u) us good are = put-good u us good are

uses-good : (es : List Entry) (motors : List Motor) (us : List Use) → AreGoodEntries es → AreGoodUses us → AreGoodUses (uses_of es motors us)
uses-good es [] us good are = are
uses-good es (m ∷ motors) us good are =
    let s = sections.Stepper m in
    uses-good es motors (with_pins_of es m us) good
    (some-good (wired es s EndstopPin) _ (wired-good s EndstopPin es good) (some-good (wired es s DirPin) _ (wired-good s DirPin es good) (some-good (wired es s StepPin) us (wired-good s StepPin es good) are)))

all-uses-good : (es : List Entry) (motors : List Motor) → AreGoodEntries es → AreGoodUses (all_uses es motors)
all-uses-good es motors good = some-good (wired es sections.Fan FanPin) (uses_of es motors []) (wired-good sections.Fan FanPin es good) (uses-good es motors [] good tt)

pins-good : (board : List ℕ) (names : List (List ℕ)) (us : List Use) → AreWordNames names → AreGoodUses us → AreWordNames (pins_on board names us)
pins-good board names [] are good = are
pins-good board names (u ∷ us) are good = by (bytes_eq u.pin.board board) (λ names' are'. pins-good board names' us are' good.1) where
  by : (b : Bool) → ((names' : List (List ℕ)) → AreWordNames names' → AreWordNames (pins_on board names' us)) → AreWordNames (pins_on board (if b then with_name names u.pin.name else names) us)
  by true later = later (with_name names u.pin.name) (words-with names u.pin.name are good.0)
  by false later = later names are

-- the machine

each-name : (names : List (List ℕ)) → AreWordNames names → All (λ p. is_word p ≡ true) names
each-name [] are k d inside = absurd (omega arith)
each-name (n ∷ names) are zero d inside = are.0
each-name (n ∷ names) are (suc k) d inside = each-name names are.1 k d (omega (arith, inside))

board-names : (es : List Entry) (us : List Use) (names : List (List ℕ)) → AreWordNames names → All (λ b. is_word b.name ≡ true) (board_defs es us names)
board-names es us [] are k d inside = absurd (omega arith)
board-names es us (n ∷ names) are zero d inside = are.0
board-names es us (n ∷ names) are (suc k) d inside = board-names es us names are.1 k d (omega (arith, inside))

board-pins : (es : List Entry) (us : List Use) (names : List (List ℕ)) → AreGoodUses us → All (λ b. All (λ p. is_word p ≡ true) b.pins) (board_defs es us names)
board-pins es us [] good k d inside = absurd (omega arith)
board-pins es us (n ∷ names) good zero d inside = each-name (pins_on n [] us) (pins-good n [] us tt good)
board-pins es us (n ∷ names) good (suc k) d inside = board-pins es us names good k d (omega (arith, inside))

bound : {A B : Type 0} (r : Result A CfgFault) (f : A → Result B CfgFault) (y : B) → (r >>= f) ≡ Ok y → (x : A) × (r ≡ Ok x) × (f x ≡ Ok y)
bound (Ok x) f y e = (x, refl, e)
bound (Err fault) f y e = cc

after : (o : Option CfgFault) (r : Result Machine CfgFault) (m : Machine) → machine_unless o r ≡ Ok m → r ≡ Ok m
after None r m e = e
after (Some fault) r m e = cc

ok-if : {A : Type 0} (b : Bool) (x : A) (fault : CfgFault) (y : A) → (if b then Ok x else Err fault) ≡ Ok y → x ≡ y
ok-if true x fault y e = cc
ok-if false x fault y e = cc

one-name : (es : List Entry) (boards : List BoardDef) (before : List StepperDef) (motor : Motor) (s : StepperDef) → stepper_def es boards before motor ≡ Ok s → s.name ≡ motor_name motor
one-name es boards before motor s e = search (rules, bound, ok-if)

names-at-end : (steppers : List StepperDef) (s : StepperDef) → map (λ (x : StepperDef). x.name) (steppers ++ s ∷ []) ≡ map (λ (x : StepperDef). x.name) steppers ++ s.name ∷ []
names-at-end [] s = refl
names-at-end (x ∷ steppers) s = ap (λ (l : List (List ℕ)). x.name ∷ l) (names-at-end steppers s)

stepper-names : (es : List Entry) (boards : List BoardDef) (before : List StepperDef) (motors : List Motor) (all : List StepperDef) → stepper_defs es boards before motors ≡ Ok all
    → map (λ (x : StepperDef). x.name) all ≡ map (λ (x : StepperDef). x.name) before ++ map motor_name motors
stepper-names es boards before [] all e =
    let same : before ≡ all = cc in
    ap (λ (l : List StepperDef). map (λ (x : StepperDef). x.name) l) (sym same) ∙ sym (append-nil (map (λ (x : StepperDef). x.name) before))
stepper-names es boards before (motor ∷ motors) all e =
    let a = bound (stepper_def es boards before motor) (λ s. stepper_defs es boards (before ++ s ∷ []) motors) all e in
    let name = one-name es boards before motor a.0 a.1 in
    stepper-names es boards (before ++ a.0 ∷ []) motors all a.2
    ∙ ap (λ (l : List (List ℕ)). l ++ map motor_name motors) (names-at-end before a.0 ∙ ap (λ (n : List ℕ). map (λ (x : StepperDef). x.name) before ++ n ∷ []) name)
    ∙ append_assoc (map (λ (x : StepperDef). x.name) before) (motor_name motor ∷ []) (map motor_name motors)

motor-words : (motors : List Motor) → AreWordNames (map motor_name motors)
motor-words [] = tt
motor-words (m ∷ motors) = (motor-word m, motor-words motors)

name-of : (steppers : List StepperDef) (k : ℕ) (d : StepperDef) (n : List ℕ) → k < length steppers → (get_or steppers k d).name ≡ get_or (map (λ (x : StepperDef). x.name) steppers) k n
name-of [] k d n inside = absurd (omega arith)
name-of (s ∷ steppers) zero d n inside = refl
name-of (s ∷ steppers) (suc k) d n inside = name-of steppers k d n (omega (arith, inside))

count-names : (steppers : List StepperDef) → length (map (λ (x : StepperDef). x.name) steppers) ≡ length steppers
count-names [] = refl
count-names (s ∷ steppers) = ap suc (count-names steppers)

steppers-named : (steppers : List StepperDef) (names : List (List ℕ)) → map (λ (x : StepperDef). x.name) steppers ≡ names → AreWordNames names → All (λ s. is_word s.name ≡ true) steppers
steppers-named steppers names e are k d inside =
    let count = count-names steppers in
    let size = ap length e in
    let at : (get_or steppers k d).name ≡ get_or names k [] = name-of steppers k d [] inside ∙ ap (λ (l : List (List ℕ)). get_or l k []) e in
    ap is_word at ∙ each-name names are k [] (omega arith)

steppers-apart : (steppers : List StepperDef) (names : List (List ℕ)) → map (λ (x : StepperDef). x.name) steppers ≡ names → AreDistinct names → AllPairs (λ s t. s.name ≢ t.name) steppers
steppers-apart steppers names e apart i j d lt inside same =
    let count = count-names steppers in
    let size = ap length e in
    let first : i < length steppers = omega (arith, lt, inside) in
    apart i j [] lt (omega (arith, inside)) (sym (name-of steppers i d [] first ∙ ap (λ (l : List (List ℕ)). get_or l i []) e) ∙ same ∙ (name-of steppers j d [] inside ∙ ap (λ (l : List (List ℕ)). get_or l j []) e))

of-uses : (es : List Entry) (names : List (List ℕ)) (motors : List Motor) (passed : ℕ) (us : List Use) (m : Machine) → reading_of_uses es names motors passed us ≡ Ok m
    → (steppers : List StepperDef) × (m.boards ≡ board_defs es us names) × (m.steppers ≡ steppers) × (stepper_defs es (board_defs es us names) [] motors ≡ Ok steppers)
of-uses es names motors passed us m e = search (rules, after, bound)

named-by : (is : List Item) (m : Machine) → AreGood is → reading_of_items is ≡ Ok m → HasNames m
named-by is m good e =
    let es = entries 1 is in
    let names = boards_behind [] is in
    let motors = steppers_behind [] is in
    let us = all_uses es motors in
    let es_good = good-entries 1 is good in
    let us_good = all-uses-good es motors es_good in
    let opened_boards = boards-opened [] is good tt (λ i j d lt inside. absurd (omega arith)) in
    let apart = steppers-opened [] is good tt (λ i j d lt inside. absurd (omega arith)) in
    let found = of-uses es names motors (passed_over is) us m (after (first_fault [] [] 1 is) _ m e) in
    let steppers = found.0 in
    let said_names = stepper-names es (board_defs es us names) [] motors steppers found.3 in
    record {
      boards = subst (λ (bs : List BoardDef). All (λ b. is_word b.name ≡ true) bs) (sym found.1) (board-names es us names opened_boards.0);
      pins = subst (λ (bs : List BoardDef). All (λ b. All (λ p. is_word p ≡ true) b.pins) bs) (sym found.1) (board-pins es us names us_good);
      steppers = subst (λ (ss : List StepperDef). All (λ s. is_word s.name ≡ true) ss) (sym found.2) (steppers-named steppers (map motor_name motors) said_names (motor-words motors));
      boards_differ = subst (λ (bs : List BoardDef). AllPairs (λ b c. b.name ≢ c.name) bs) (sym found.1) (boards_differ es us names opened_boards.1);
      steppers_differ = subst (λ (ss : List StepperDef). AllPairs (λ s t. s.name ≢ t.name) ss) (sym found.2) (steppers-apart steppers (map motor_name motors) said_names apart);
    }

read-by : (b : Bool) (r : Result Machine CfgFault) (fault : CfgFault) (m : Machine) → (if b then Err fault else r) ≡ Ok m → r ≡ Ok m
read-by true r fault m e = cc
read-by false r fault m e = e

pub names-of-reading : (text : List ℕ) (m : Machine) → machine_of_text text ≡ Ok m → HasNames m
unfolding machine_of_text
names-of-reading text m e = named-by (items first_place (lines_of text)) m (good-items first_place (lines_of text)) (read-by (nat_lt 1_048_576 (length text)) _ _ m e)

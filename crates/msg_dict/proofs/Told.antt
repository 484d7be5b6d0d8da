-- A board's own dictionary is read, and says what the board tells.
use Rattle.std.proofs.Common.{◌≡◌, ◌≢◌, ℕ, ◌≤◌, Bool, true, false, List, [], ◌∷◌, ◌++◌, Option, Some, None, Ok, option_map, map, refl, ap, sym, ◌∙◌, arith, codes, bytes_eq, le_trans, IsUtf8, subst}
use Rattle.std.specs.Str.{is_utf8}
use Rattle.std.proofs.lemmas.Iterator.Adapters.{position_from-zero}
use Rattle.serde_json.specs.Data.{Data, no_members, depth}
use Rattle.serde_json.specs.Read.{read}
use Rattle.plan_types.specs.declared.machine.BoardDef.{BoardDef}
use Rattle.plan_types.specs.Machines.{IsValidBoard}
use Rattle.msg_dict.specs.declared.row.Row.{Row}
use Rattle.msg_dict.specs.declared.row.Row.TheVariants as row
use Rattle.msg_dict.specs.Table.{format_text, own_format, own_id, all_rows, command_rows, answer_rows, row_named, row_numbered}
use Rattle.msg_dict.specs.Format.{is_format}
use Rattle.msg_dict.specs.Dictionary.{Named, Enumerated, Dictionary, number_named, name_of, enumerated}
use Rattle.msg_dict.specs.declared.DictFault.{DictFault}
use Rattle.msg_dict.specs.declared.DictFault.TheVariants.{Memory, NotJson, Shape, BadFormat, SameId}
use Rattle.msg_dict.specs.Reading.{formats_of, choices_of, dictionary_of, IsJson, IsDictionaryText, Fails, FailsData}
use Rattle.msg_dict.specs.Own.{with_rows, with_pins, reasons, own_dictionary, reason_numbers, pin_number, IsOwn}
use Rattle.msg_dict.proofs.Lookups.{within, or_in, same_numbers, same_names, numbers_of_rows, names_of_rows, enumerated_within, enumerated_apart}
use Rattle.msg_dict.proofs.Shallow.{shallow}
use Rattle.msg_dict.proofs.Placed.{small_numbers, choices_are, pin_there, no_pin_there}

-- the rows of commands and of answers, in the order of their formats
abbrev commands_sorted : List Row
commands_sorted =
    row.AllocateOids ∷ row.ConfigEndstop ∷ row.ConfigStepper ∷ row.ConfigTrsync ∷ row.EmergencyStop ∷ row.EndstopHome ∷ row.FinalizeConfig ∷ row.GetConfig ∷ row.GetUptime ∷ row.Identify ∷ row.QueueStep ∷ row.ResetStepClock ∷ row.SetNextStepDir ∷ row.StepperStopOnTrigger ∷ row.TrsyncSetTimeout ∷ row.TrsyncStart ∷ row.TrsyncTrigger ∷ []

abbrev answers_sorted : List Row
answers_sorted = row.Config ∷ row.IdentifyResponse ∷ row.IsShutdown ∷ row.Shutdown ∷ row.TrsyncState ∷ row.Uptime ∷ []

commands_read : formats_of (with_rows command_rows no_members) ≡ Some (map own_format commands_sorted)
commands_read = refl

answers_read : formats_of (with_rows answer_rows no_members) ≡ Some (map own_format answers_sorted)
answers_read = refl

abbrev pub own_formats : List Named
own_formats = map own_format (commands_sorted ++ answers_sorted)

abbrev pub own_numbers : BoardDef → List Enumerated
own_numbers b = choices_of (codes "pin") (with_pins 0 b.pins no_members) ++ (choices_of (codes "static_string_id") reasons ++ [])

abbrev pub told : BoardDef → Dictionary
told b = record { formats = own_formats; constants = record { name = codes "CLOCK_FREQ"; number = b.freq } ∷ []; numbers = own_numbers b }

pub told_read : (b : BoardDef) → dictionary_of (own_dictionary b) ≡ Ok (told b)
unfolding dictionary_of own_dictionary is_format
told_read b = refl

-- ---- the rows

pub told_formats : (format : List ℕ) → number_named format own_formats ≡ option_map own_id (row_named format)
unfolding row_named
told_formats format = same_numbers own_formats (map own_format all_rows) refl refl format ∙ numbers_of_rows all_rows format

pub told_names : (id : ℕ) → name_of id own_formats ≡ option_map format_text (row_numbered id)
unfolding row_numbered
told_names id = same_names own_formats (map own_format all_rows) refl refl id ∙ names_of_rows all_rows id

-- ---- the enumerations

abbrev pins_of : BoardDef → List Named
pins_of b = small_numbers (with_pins 0 b.pins no_members)

abbrev reasons_read : List Named
reasons_read = small_numbers reasons

numbers_are : (b : BoardDef) → own_numbers b ≡ map (within (codes "pin")) (pins_of b) ++ (map (within (codes "static_string_id")) reasons_read ++ [])
numbers_are b = rw (choices_are (codes "pin") (with_pins 0 b.pins no_members), choices_are (codes "static_string_id") reasons)

in_none : (o : Option ℕ) → or_in o None ≡ o
in_none None = refl
in_none (Some n) = refl

pub told_reasons : (b : BoardDef) (name : List ℕ) → enumerated (codes "static_string_id") name (own_numbers b) ≡ number_named name reason_numbers
told_reasons b name =
    ap (enumerated (codes "static_string_id") name) (numbers_are b)
    ∙ enumerated_apart (codes "pin") (codes "static_string_id") name (pins_of b) (map (within (codes "static_string_id")) reasons_read ++ []) (λ e. cc)
    ∙ enumerated_within (codes "static_string_id") name reasons_read [] ∙ in_none (number_named name reasons_read) ∙ same_numbers reasons_read reason_numbers refl refl name

pub told_other : (b : BoardDef) (e name : List ℕ) → e ≢ codes "pin" → e ≢ codes "static_string_id" → enumerated e name (own_numbers b) ≡ None
told_other b e name p s =
    ap (enumerated e name) (numbers_are b)
    ∙ enumerated_apart (codes "pin") e name (pins_of b) (map (within (codes "static_string_id")) reasons_read ++ []) (λ h. p (sym h))
    ∙ enumerated_apart (codes "static_string_id") e name reasons_read [] (λ h. s (sym h))

pin_is : (b : BoardDef) (name : List ℕ) (t : Bool) → IsValidBoard b → is_utf8 name ≡ t → number_named name (pins_of b) ≡ pin_number name b.pins
pin_is b name true v u =
    rw u (pin_there name b.pins (le_trans v.pins_few (omega arith)) v.pins_differ u ∙ sym (position_from-zero (λ pin. bytes_eq pin name) b.pins))
pin_is b name false v u = rw u (no_pin_there name b.pins (le_trans v.pins_few (omega arith)) u)

pub told_pins : (b : BoardDef) → IsValidBoard b → (name : List ℕ) → enumerated (codes "pin") name (own_numbers b) ≡ pin_number name b.pins
told_pins b v name =
    ap (enumerated (codes "pin") name) (numbers_are b) ∙ enumerated_within (codes "pin") name (pins_of b) (map (within (codes "static_string_id")) reasons_read ++ [])
    ∙ ap (or_in (number_named name (pins_of b))) (enumerated_apart (codes "static_string_id") (codes "pin") name reasons_read [] (λ e. cc)) ∙ in_none (number_named name (pins_of b))
    ∙ pin_is b name (is_utf8 name) v refl

pub told_own : (b : BoardDef) → IsOwn b (told b)
told_own b = record {
  formats = told_formats;
  names = told_names;
  constants = λ name. refl;
  pins = told_pins b;
  reasons = told_reasons b;
  no_other = told_other b;
}

-- ---- the text

pub own_value : (b : BoardDef) (text : List ℕ) (v : Data) → v ≡ own_dictionary b → IsUtf8 text → (depth v ≤ 127 → read text ≡ Some v) → IsJson text (own_dictionary b)
own_value b text v same u reads = let found = rw same at reads in (u, found (shallow b))

pub own_read : (b : BoardDef) (text : List ℕ) → IsJson text (own_dictionary b) → (d : Dictionary) → IsDictionaryText text d → IsOwn b d
own_read b text r d h =
    let one = r.1 in
    let other = h.1.1 in
    let same : h.0 ≡ own_dictionary b = cc in
    let tells : told b ≡ d = let e = rw same at h.2 in let f = told_read b in cc in
    subst (IsOwn b) tells (told_own b)

no_data : (b : BoardDef) (text : List ℕ) (e : DictFault) → IsJson text (own_dictionary b) → FailsData text e → ⊥
no_data b text e r h =
    let one = r.1 in
    let other = h.1.1 in
    let same : h.0 ≡ own_dictionary b = cc in
    let f = rw same at h.2 in
    let g = told_read b in
    cc

pub own_not_refused : (b : BoardDef) (text : List ℕ) → IsJson text (own_dictionary b) → (e : DictFault) → Fails text e → e ≡ Memory
own_not_refused b text r Memory h = refl
own_not_refused b text r NotJson h = absurd (h (own_dictionary b) r)
own_not_refused b text r Shape h = absurd (no_data b text Shape r h)
own_not_refused b text r BadFormat h = absurd (no_data b text BadFormat r h)
own_not_refused b text r SameId h = absurd (no_data b text SameId r h)

-- A board's own dictionary has no float.
use Rattle.std.proofs.Common.{◌≡◌, ℕ, ◌+◌, Bool, true, false, ◌||◌, List, [], ◌∷◌, Ordering, Less, Equal, Greater, refl, codes}
use Rattle.std.specs.Ordering.{nat_cmp, match_ordering}
use Rattle.std.specs.Cmp.Lexicographic.{slice_cmp}
use Rattle.std.specs.Str.{is_utf8}
use Rattle.serde_json.specs.Data.{Data, Members, no_members, member, object, put}
use Rattle.serde_json.specs.Written.{has_float, members_have_float}
use Rattle.plan_types.specs.declared.machine.BoardDef.{BoardDef}
use Rattle.msg_dict.specs.declared.row.Row.{Row}
use Rattle.msg_dict.specs.Table.{format_text, own_id, command_rows, answer_rows}
use Rattle.msg_dict.specs.Own.{whole, with_rows, with_pin, with_pins, reasons, enumerations, own_dictionary}
use Rattle.std.proofs.lemmas.Bool.{or_parts, or_from}

by_order : (o : Ordering) (a b c : Members) → members_have_float a ≡ false → members_have_float b ≡ false → members_have_float c ≡ false
    → members_have_float (match_ordering o a b c) ≡ false
by_order Less a b c e f g = e
by_order Equal a b c e f g = f
by_order Greater a b c e f g = g

put_none : (k : List ℕ) (d : Data) (ms : Members) → has_float d ≡ false → members_have_float ms ≡ false → members_have_float (put k d ms) ≡ false
put_none k d no_members e f = or_from (has_float d) false e refl
put_none k d (member l x ms) e f =
    let parts = or_parts (has_float x) (members_have_float ms) f in
    by_order (slice_cmp nat_cmp k l) (member k d (member l x ms)) (member l d ms) (member l x (put k d ms)) (or_from (has_float d) (members_have_float (member l x ms)) e f)
    (or_from (has_float d) (members_have_float ms) e parts.1) (or_from (has_float x) (members_have_float (put k d ms)) parts.0 (put_none k d ms e parts.1))

rows_none : (rs : List Row) (ms : Members) → members_have_float ms ≡ false → members_have_float (with_rows rs ms) ≡ false
rows_none [] ms e = e
rows_none (r ∷ rs) ms e = rows_none rs (put (format_text r) (whole (own_id r)) ms) (put_none (format_text r) (whole (own_id r)) ms refl e)

pin_none : (b : Bool) (p : List ℕ) (n : ℕ) (ms : Members) → members_have_float ms ≡ false → members_have_float (with_pin b p n ms) ≡ false
pin_none true p n ms e = put_none p (whole n) ms refl e
pin_none false p n ms e = e

pins_none : (n : ℕ) (ps : List (List ℕ)) (ms : Members) → members_have_float ms ≡ false → members_have_float (with_pins n ps ms) ≡ false
pins_none n [] ms e = e
pins_none n (p ∷ ps) ms e = pins_none (n + 1) ps (with_pin (is_utf8 p) p n ms) (pin_none (is_utf8 p) p n ms e)

pub no_float : (b : BoardDef) → has_float (own_dictionary b) ≡ false
unfolding own_dictionary
no_float b =
    let pins = put_none (codes "pin") (object (with_pins 0 b.pins no_members)) no_members (pins_none 0 b.pins no_members refl) refl in
    let chosen = put_none (codes "static_string_id") (object reasons) (put (codes "pin") (object (with_pins 0 b.pins no_members)) no_members) refl pins in
    let commands = put_none (codes "commands") (object (with_rows command_rows no_members)) no_members (rows_none command_rows no_members refl) refl in
    let responses =
    put_none (codes "responses") (object (with_rows answer_rows no_members)) (put (codes "commands") (object (with_rows command_rows no_members)) no_members) (rows_none answer_rows no_members refl) commands in
    let config =
    put_none (codes "config") (object (put (codes "CLOCK_FREQ") (whole b.freq) no_members))
    (put (codes "responses") (object (with_rows answer_rows no_members)) (put (codes "commands") (object (with_rows command_rows no_members)) no_members)) refl responses in
    put_none (codes "enumerations") (object (enumerations b))
    (put (codes "config") (object (put (codes "CLOCK_FREQ") (whole b.freq) no_members))
    (put (codes "responses") (object (with_rows answer_rows no_members)) (put (codes "commands") (object (with_rows command_rows no_members)) no_members))) chosen config

-- How long the text of a board's own dictionary is, where the board has few pins with short names.
use Rattle.std.proofs.Common.{◌≡◌, ℕ, ◌+◌, ◌*◌, ◌^◌, ◌<◌, ◌≤◌, Bool, true, false, List, [], ◌∷◌, ◌++◌, length, Ordering, Less, Equal, Greater, refl, arith, codes, decimal, length-append, rules}
use Rattle.std.specs.Ordering.{nat_cmp, match_ordering}
use Rattle.std.specs.Cmp.Lexicographic.{slice_cmp}
use Rattle.std.specs.Str.{is_utf8}
use Rattle.std.specs.Fmt.{digits}
use Rattle.std.proofs.lemmas.Fmt.{length-decimal-le_wide}
use Rattle.json.specs.Print.{quoted, escape_byte}
use Rattle.serde_json.specs.Data.{Data, Members, no_members, member, object, put}
use Rattle.serde_json.specs.Written.{compact_text, members_text, comma_if}
use Rattle.laws_board.proofs.Names.{BoardDef}
use Rattle.msg_dict.specs.Table.{command_rows, answer_rows}
use Rattle.msg_dict.specs.Own.{whole, with_rows, with_pin, with_pins, reasons, enumerations, own_dictionary}

-- ---- the text of members, each with its quotes, its colon and a comma

abbrev size : Members → ℕ
size no_members = 0
size (member k d ms) = length (quoted k) + length (compact_text d) + 2 + size ms

comma : (later : Bool) → length (comma_if later) ≤ 1
comma true = omega arith
comma false = omega arith

joined : (c q d m : List ℕ) → length c ≤ 1 → length (c ++ (q ++ 58 ∷ (d ++ m))) ≤ length q + length d + 2 + length m
joined c q d m h = omega (arith, length-append c (q ++ 58 ∷ (d ++ m)), length-append q (58 ∷ (d ++ m)), length-append d m)

text_fits : (later : Bool) (ms : Members) → length (members_text later ms) ≤ size ms + 1
text_fits later no_members = omega arith
text_fits later (member k d ms) =
    let one = joined (comma_if later) (quoted k) (compact_text d) (members_text true ms) (comma later) in
    let rest = text_fits true ms in
    omega (arith, one, rest)

object_fits : (ms : Members) → length (compact_text (object ms)) ≤ size ms + 2
object_fits ms = let text = text_fits false ms in omega (arith, text)

by_order : (o : Ordering) (a b c : Members) (n : ℕ) → size a ≤ n → size b ≤ n → size c ≤ n → size (match_ordering o a b c) ≤ n
by_order Less a b c n x y z = x
by_order Equal a b c n x y z = y
by_order Greater a b c n x y z = z

-- the size of one member
abbrev one : List ℕ → Data → ℕ
one k d = length (quoted k) + length (compact_text d) + 2

put_fits : (k : List ℕ) (d : Data) (ms : Members) → size (put k d ms) ≤ one k d + size ms
put_fits k d no_members = omega arith
put_fits k d (member l x ms) =
    let later = put_fits k d ms in
    by_order (slice_cmp nat_cmp k l) (member k d (member l x ms)) (member l d ms) (member l x (put k d ms)) (one k d + size (member l x ms)) (omega arith) (omega arith) (omega (arith, later))

-- ---- the pins

-- names of at most 16 bytes, in quotes
abbrev pub AreShort : List (List ℕ) → Type 0
AreShort [] = Unit {0}
AreShort (p ∷ ps) = (length (quoted p) ≤ 18) × AreShort ps

pin_fits : (text : Bool) (p : List ℕ) (n : ℕ) (ms : Members) → length (quoted p) ≤ 18 → n < 100 → size (with_pin text p n ms) ≤ 22 + size ms
pin_fits true p n ms short small =
    let digits : length (decimal n) ≤ 2 = length-decimal-le_wide 2 n (omega arith) (omega arith) (omega arith) in
    let fits = put_fits p (whole n) ms in
    omega (arith, fits, digits, short)
pin_fits false p n ms short small = omega arith

pins_fit : (n : ℕ) (ps : List (List ℕ)) (ms : Members) → n + length ps ≤ 100 → AreShort ps → size (with_pins n ps ms) ≤ 22 * length ps + size ms
pins_fit n [] ms few short = omega arith
pins_fit n (p ∷ ps) ms few short =
    let here = pin_fits (is_utf8 p) p n ms short.0 (omega arith) in
    let more = pins_fit (n + 1) ps (with_pin (is_utf8 p) p n ms) (omega arith) short.1 in
    omega (arith, here, more)

-- ---- the parts that every board has

reasons_size : length (compact_text (object reasons)) ≡ 134
unfolding escape_byte digits
reasons_size = refl

commands_size : length (compact_text (object (with_rows command_rows no_members))) ≡ 743
unfolding escape_byte digits
commands_size = refl

answers_size : length (compact_text (object (with_rows answer_rows no_members))) ≡ 283
unfolding escape_byte digits
answers_size = refl

-- two members, and four
two_fit : (a b : List ℕ) (x y : Data) → length (compact_text (object (put a x (put b y no_members)))) ≤ one a x + one b y + 2
two_fit a b x y = search (rules, object_fits, put_fits)

four_fit : (a b c d : List ℕ) (x y z w : Data) → length (compact_text (object (put a x (put b y (put c z (put d w no_members)))))) ≤ one a x + one b y + one c z + one d w + 2
four_fit a b c d x y z w = search (rules, object_fits, put_fits)

pins_text : (b : BoardDef) → length b.pins ≤ 49 → AreShort b.pins → length (compact_text (object (with_pins 0 b.pins no_members))) ≤ 1_080
pins_text b few short = search (rules, object_fits, pins_fit)

config_text : (freq : ℕ) → freq < 10 ^ 9 → length (compact_text (object (put (codes "CLOCK_FREQ") (whole freq) no_members))) ≤ 25
unfolding escape_byte
config_text freq small =
    let text = object_fits (put (codes "CLOCK_FREQ") (whole freq) no_members) in
    let digits : length (decimal freq) ≤ 9 = length-decimal-le_wide 9 freq (omega arith) small (omega arith) in
    omega (arith, text, digits)

enumerations_text : (b : BoardDef) → length b.pins ≤ 49 → AreShort b.pins → length (compact_text (object (enumerations b))) ≤ 1_243
unfolding escape_byte
enumerations_text b few short =
    let fit = two_fit (codes "static_string_id") (codes "pin") (object reasons) (object (with_pins 0 b.pins no_members)) in
    let pins = pins_text b few short in
    omega (arith, fit, pins, reasons_size)

-- the dictionary of a board with a frequency of at most nine digits and at most 49 pins, whose names have at most 16 bytes
pub short_text : (b : BoardDef) → b.freq < 10 ^ 9 → length b.pins ≤ 49 → AreShort b.pins → length (compact_text (own_dictionary b)) < 2_360
unfolding own_dictionary escape_byte
short_text b small few short =
    let fit = four_fit (codes "enumerations") (codes "config") (codes "responses") (codes "commands") (object (enumerations b)) (object (put (codes "CLOCK_FREQ") (whole b.freq) no_members))
    (object (with_rows answer_rows no_members)) (object (with_rows command_rows no_members)) in
    let listed = enumerations_text b few short in
    let clock = config_text b.freq small in
    omega (arith, fit, listed, clock, answers_size, commands_size)

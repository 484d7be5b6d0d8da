-- The checksum takes in a byte by xor and shifts alone. So a difference of one byte is a difference of the checksum, which
-- further bytes change and never take away.
use Rattle.std.proofs.Common.{◌≡◌, ℕ, zero, suc, ◌*◌, ◌/◌, ◌%◌, ◌^◌, ◌<◌, List, [], ◌∷◌, bit_and, bit_or, bit_xor, ap, arith, sym, ◌∙◌, get_or, length, set}
use Rattle.std.specs.Int.Bits.{xor_assoc, xor_self, xor_zero_r}
use Rattle.std.proofs.lemmas.Nat.{xor_shr, xor_mod, xor_lt, xor_comm, or_shifted, or_lt, and_mask, and_le_r}
use Rattle.block_frame.specs.Block.{mixed, with_mixed, checksum_after}
use Rattle.block_frame.proofs.Checks.{mixed_below}

-- what is xored to both sides can be left out
cancel_right : (a b c : ℕ) → bit_xor a c ≡ bit_xor b c → a ≡ b
cancel_right a b c e =
    let back : (x : ℕ) → bit_xor (bit_xor x c) c ≡ x = λ x. xor_assoc x c c ∙ ap (bit_xor x) (xor_self c) ∙ xor_zero_r x in
    sym (back a) ∙ ap (λ x. bit_xor x c) e ∙ back b

cancel_left : (a b c : ℕ) → bit_xor c a ≡ bit_xor c b → a ≡ b
cancel_left a b c e = cancel_right a b c (xor_comm a c ∙ e ∙ xor_comm c b)

-- a number xored with its high bits, shifted down so far that none of them meet, is of one number alone
high_back : (d e : ℕ) → d < 256 → e < 256 → bit_xor d (d / 2 ^ 5) ≡ bit_xor e (e / 2 ^ 5) → d ≡ e
high_back d e small less same =
    let shifted : (x : ℕ) → x < 256 → bit_xor x (x / 2 ^ 5) / 2 ^ 5 ≡ x / 2 ^ 5 =
    λ x h. let none : x / 2 ^ 5 / 2 ^ 5 ≡ 0 = omega arith in
    xor_shr x (x / 2 ^ 5) 5 ∙ ap (bit_xor (x / 2 ^ 5)) none ∙ xor_zero_r (x / 2 ^ 5) in
    let high : d / 2 ^ 5 ≡ e / 2 ^ 5 = sym (shifted d small) ∙ ap (λ x. x / 2 ^ 5) same ∙ shifted e less in
    cancel_right d e (d / 2 ^ 5) (same ∙ ap (bit_xor e) (sym high))

-- a byte xored with its low half, shifted up, is of one byte alone
low_back : (d e : ℕ) → d < 256 → e < 256 → bit_xor d (bit_and (d * 2 ^ 4) 255) ≡ bit_xor e (bit_and (e * 2 ^ 4) 255) → d ≡ e
low_back d e small less same =
    let low : (x : ℕ) → bit_and (x * 2 ^ 4) 255 ≡ (x % 2 ^ 4) * 2 ^ 4 = λ x. and_mask (x * 2 ^ 4) 8 ∙ omega arith in
    let kept : (x : ℕ) → bit_xor x (bit_and (x * 2 ^ 4) 255) % 2 ^ 4 ≡ x % 2 ^ 4 =
    λ x. let none : (x % 2 ^ 4) * 2 ^ 4 % 2 ^ 4 ≡ 0 = omega arith in
    ap (λ y. bit_xor x y % 2 ^ 4) (low x) ∙ xor_mod x ((x % 2 ^ 4) * 2 ^ 4) 4 ∙ ap (bit_xor (x % 2 ^ 4)) none ∙ xor_zero_r (x % 2 ^ 4) in
    let halves : d % 2 ^ 4 ≡ e % 2 ^ 4 = sym (kept d) ∙ ap (λ x. x % 2 ^ 4) same ∙ kept e in
    let shifted : bit_and (d * 2 ^ 4) 255 ≡ bit_and (e * 2 ^ 4) 255 = low d ∙ ap (λ x. x * 2 ^ 4) halves ∙ sym (low e) in
    cancel_right d e (bit_and (d * 2 ^ 4) 255) (same ∙ ap (bit_xor e) (sym shifted))

-- the mixed byte and the checksum's high byte
abbrev taken : ℕ → ℕ → ℕ
taken h d = bit_xor (bit_xor (bit_or (d * 2 ^ 8) h) (d / 2 ^ 4)) (d * 2 ^ 3)

in_words : (h d : ℕ) → h < 256 → d < 256 → taken h d < 2 ^ 16
in_words h d high small =
    let one : bit_or (d * 2 ^ 8) h < 2 ^ 16 = or_lt 16 (d * 2 ^ 8) h (omega arith) (omega arith) in
    let two : bit_xor (bit_or (d * 2 ^ 8) h) (d / 2 ^ 4) < 2 ^ 16 = xor_lt 16 (bit_or (d * 2 ^ 8) h) (d / 2 ^ 4) one (omega arith) in
    xor_lt 16 (bit_xor (bit_or (d * 2 ^ 8) h) (d / 2 ^ 4)) (d * 2 ^ 3) two (omega arith)

-- its high byte is the mixed byte, xored with its high bits
high_byte : (h d : ℕ) → h < 256 → d < 256 → taken h d / 2 ^ 8 ≡ bit_xor d (d / 2 ^ 5)
high_byte h d high small =
    let joined = or_shifted d 8 h high in
    let first : bit_or (d * 2 ^ 8) h / 2 ^ 8 ≡ d = omega (arith, joined) in
    let second : d / 2 ^ 4 / 2 ^ 8 ≡ 0 = omega arith in
    let third : d * 2 ^ 3 / 2 ^ 8 ≡ d / 2 ^ 5 = omega arith in
    xor_shr (bit_xor (bit_or (d * 2 ^ 8) h) (d / 2 ^ 4)) (d * 2 ^ 3) 8
    ∙ ap (λ x. bit_xor x (d * 2 ^ 3 / 2 ^ 8)) (xor_shr (bit_or (d * 2 ^ 8) h) (d / 2 ^ 4) 8 ∙ ap (λ x. bit_xor x (d / 2 ^ 4 / 2 ^ 8)) first ∙ ap (bit_xor d) second ∙ xor_zero_r d)
    ∙ ap (bit_xor d) third

taken_back : (h i d e : ℕ) → h < 256 → i < 256 → d < 256 → e < 256 → taken h d ≡ taken i e → (h ≡ i) × (d ≡ e)
taken_back h i d e high also small less same =
    let bytes : d ≡ e = high_back d e small less (sym (high_byte h d high small) ∙ ap (λ x. x / 2 ^ 8) same ∙ high_byte i e also less) in
    let alike : taken h d ≡ taken i d = same ∙ ap (taken i) (sym bytes) in
    let inner = cancel_right (bit_xor (bit_or (d * 2 ^ 8) h) (d / 2 ^ 4)) (bit_xor (bit_or (d * 2 ^ 8) i) (d / 2 ^ 4)) (d * 2 ^ 3) alike in
    let joined : bit_or (d * 2 ^ 8) h ≡ bit_or (d * 2 ^ 8) i = cancel_right (bit_or (d * 2 ^ 8) h) (bit_or (d * 2 ^ 8) i) (d / 2 ^ 4) inner in
    (omega (arith, joined, or_shifted d 8 h high, or_shifted d 8 i also), bytes)

-- the checksum behind a byte, where the checksum before it has 16 bits
abbrev pub step : ℕ → ℕ → ℕ
step crc byte = with_mixed crc (mixed crc byte)

pub step_below : (crc byte : ℕ) → step crc byte < 2 ^ 16
step_below crc byte = omega arith

-- what one checksum and one byte give: their high byte, and their low byte xored with the byte
step_back : (c d x y : ℕ) → c < 2 ^ 16 → d < 2 ^ 16 → x < 256 → y < 256 → step c x ≡ step d y → (c / 2 ^ 8 ≡ d / 2 ^ 8) × (bit_xor x (bit_and c 255) ≡ bit_xor y (bit_and d 255))
step_back c d x y first second byte other same =
    let m = mixed c x in
    let n = mixed d y in
    let low : mixed c x < 256 = mixed_below c x byte in
    let less : mixed d y < 256 = mixed_below d y other in
    let words : (z k : ℕ) → z < 2 ^ 16 → k < 256 → taken (z / 2 ^ 8) k % 2 ^ 16 ≡ taken (z / 2 ^ 8) k =
    λ z k h s. let within = in_words (z / 2 ^ 8) k (omega arith) s in omega (arith, within) in
    let alike : taken (c / 2 ^ 8) (mixed c x) ≡ taken (d / 2 ^ 8) (mixed d y) = sym (words c (mixed c x) first low) ∙ same ∙ words d (mixed d y) second less in
    let parts = taken_back (c / 2 ^ 8) (d / 2 ^ 8) (mixed c x) (mixed d y) (omega arith) (omega arith) low less alike in
    let below : (z k : ℕ) → k < 256 → bit_xor k (bit_and z 255) < 256 = λ z k h. xor_lt 8 k (bit_and z 255) h (omega (arith, and_le_r z 255)) in
    (parts.0, low_back (bit_xor x (bit_and c 255)) (bit_xor y (bit_and d 255)) (below c x byte) (below d y other) parts.1)

-- another checksum before a byte gives another one behind it, and so does another byte
pub sum_back : (c d x : ℕ) → c < 2 ^ 16 → d < 2 ^ 16 → x < 256 → step c x ≡ step d x → c ≡ d
sum_back c d x first second byte same =
    let parts = step_back c d x x first second byte byte same in
    let low : bit_and c 255 ≡ bit_and d 255 = cancel_left (bit_and c 255) (bit_and d 255) x parts.1 in
    let mask : (z : ℕ) → bit_and z 255 ≡ z % 2 ^ 8 = λ z. and_mask z 8 in
    omega (arith, parts.0, low, mask c, mask d)

pub byte_back : (c x y : ℕ) → c < 2 ^ 16 → x < 256 → y < 256 → step c x ≡ step c y → x ≡ y
byte_back c x y first byte other same = cancel_right x y (bit_and c 255) (step_back c c x y first first byte other same).1

abbrev pub AreBytes : List ℕ → Type 0
AreBytes bytes = (k : ℕ) → get_or bytes k 0 < 256

-- so a difference stays
pub stays : (bytes : List ℕ) (c d : ℕ) → AreBytes bytes → c < 2 ^ 16 → d < 2 ^ 16 → checksum_after c bytes ≡ checksum_after d bytes → c ≡ d
unfolding checksum_after
stays [] c d fit first second same = same
stays (b ∷ bytes) c d fit first second same =
    sum_back c d b first second (fit 0) (stays bytes (step c b) (step d b) (λ k. fit (suc k)) (step_below c b) (step_below d b) same)

-- bytes of which one is another have another checksum
pub changed_sum : (bytes : List ℕ) (c i byte : ℕ) → AreBytes bytes → c < 2 ^ 16 → byte < 256 → i < length bytes
    → checksum_after c (set bytes i byte) ≡ checksum_after c bytes → byte ≡ get_or bytes i 0
unfolding checksum_after
changed_sum [] c i byte fit first small within same = absurd (omega (arith, within))
changed_sum (b ∷ bytes) c zero byte fit first small within same =
    byte_back c byte b first small (fit 0) (stays bytes (step c byte) (step c b) (λ k. fit (suc k)) (step_below c byte) (step_below c b) same)
changed_sum (b ∷ bytes) c (suc i) byte fit first small within same = changed_sum bytes (step c b) i byte (λ k. fit (suc k)) (step_below c b) small (omega (arith, within)) same

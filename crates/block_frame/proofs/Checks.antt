-- Lemmas on checksums.
use Rattle.std.proofs.Common.{◌≡◌, ℕ, ◌*◌, ◌/◌, ◌%◌, ◌^◌, ◌<◌, List, [], ◌∷◌, ◌++◌, bit_and, bit_or, bit_xor, refl, arith}
use Rattle.std.proofs.lemmas.Nat.{xor_lt, or_lt, and_le_r}
use Rattle.block_frame.specs.Block.{mixed, with_mixed, checksum_after}

pub mixed_below : (crc byte : ℕ) → byte < 256 → mixed crc byte < 256
mixed_below crc byte h =
    let d = bit_xor byte (bit_and crc 255) in
    let one : bit_xor byte (bit_and crc 255) < 2 ^ 8 = xor_lt 8 byte (bit_and crc 255) h (omega (arith, and_le_r crc 255)) in
    xor_lt 8 d (bit_and (d * 2 ^ 4) 255) one (omega (arith, and_le_r (d * 2 ^ 4) 255))

pub words : (crc byte : ℕ) → crc < 2 ^ 16 → byte < 256 →
    let d = bit_xor byte (bit_and crc 255) in
    let e = bit_xor d (bit_and (d * 2 ^ 4 % 2 ^ 16) 255) in
    bit_xor (bit_xor (bit_or (e * 2 ^ 8 % 2 ^ 16) (crc / 2 ^ 8)) (e / 2 ^ 4)) (e * 2 ^ 3 % 2 ^ 16) ≡ with_mixed crc (mixed crc byte)
words crc byte c b =
    let d = bit_xor byte (bit_and crc 255) in
    let low : bit_xor byte (bit_and crc 255) < 2 ^ 8 = xor_lt 8 byte (bit_and crc 255) b (omega (arith, and_le_r crc 255)) in
    let m = mixed crc byte in
    let small : mixed crc byte < 256 = mixed_below crc byte b in
    let one : d * 2 ^ 4 % 2 ^ 16 ≡ d * 2 ^ 4 = omega (arith, low) in
    let two : m * 2 ^ 8 % 2 ^ 16 ≡ m * 2 ^ 8 = omega (arith, small) in
    let three : m * 2 ^ 3 % 2 ^ 16 ≡ m * 2 ^ 3 = omega (arith, small) in
    let left : bit_or (m * 2 ^ 8) (crc / 2 ^ 8) < 2 ^ 16 = or_lt 16 (m * 2 ^ 8) (crc / 2 ^ 8) (omega (arith, small)) (omega arith) in
    let most : bit_xor (bit_or (m * 2 ^ 8) (crc / 2 ^ 8)) (m / 2 ^ 4) < 2 ^ 16 = xor_lt 16 (bit_or (m * 2 ^ 8) (crc / 2 ^ 8)) (m / 2 ^ 4) left (omega (arith, small)) in
    let all : bit_xor (bit_xor (bit_or (m * 2 ^ 8) (crc / 2 ^ 8)) (m / 2 ^ 4)) (m * 2 ^ 3) < 2 ^ 16 =
    xor_lt 16 (bit_xor (bit_or (m * 2 ^ 8) (crc / 2 ^ 8)) (m / 2 ^ 4)) (m * 2 ^ 3) most (omega (arith, small)) in
    rw (one, two, three) (omega (arith, all))

pub checksum_after_append : (bytes : List ℕ) (crc byte : ℕ) → checksum_after crc (bytes ++ byte ∷ []) ≡ with_mixed (checksum_after crc bytes) (mixed (checksum_after crc bytes) byte)
unfolding checksum_after
checksum_after_append [] crc byte = refl
checksum_after_append (b ∷ bytes) crc byte = checksum_after_append bytes (with_mixed crc (mixed crc b)) byte

pub checksum_after_nil : (crc : ℕ) → checksum_after crc [] ≡ crc
unfolding checksum_after
checksum_after_nil crc = refl

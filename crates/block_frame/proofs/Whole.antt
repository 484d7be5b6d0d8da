-- Lemmas on whole blocks.
use Rattle.std.proofs.Common.{◌≡◌, ℕ, ◌+◌, ◌-◌, ◌*◌, ◌/◌, ◌%◌, ◌≤◌, ◌<◌, List, [], ◌∷◌, ◌++◌, length, take, drop, get_or, suc, ap, arith, sym, ◌∙◌, append_assoc, drop-cons}
use Rattle.std.proofs.lemmas.List.{take-append-drop, length-take-le, get_or-append-add}
use Rattle.std.proofs.Math.Seq.{take-append_seam}
use Rattle.block_frame.specs.Block.{checksum, covered, ending}
use Rattle.block_frame.specs.Scan.{IsBlock, HasBlock, IsSkip, IsUndecided, IsBad}

-- three bytes at a place
three_at : (bytes : List ℕ) (n : ℕ) → n + 3 ≤ length bytes
    → bytes ≡ take n bytes ++ (get_or bytes n 0 ∷ get_or bytes (suc n) 0 ∷ get_or bytes (suc (suc n)) 0 ∷ drop (suc (suc (suc n))) bytes)
three_at bytes n h =
    let a : n < length bytes = omega arith in
    let b : suc n < length bytes = omega arith in
    let c : suc (suc n) < length bytes = omega arith in
    sym (take-append-drop n bytes)
    ∙ ap (λ t. take n bytes ++ t)
    (drop-cons bytes n 0 a ∙ ap (λ t. get_or bytes n 0 ∷ t) (drop-cons bytes (suc n) 0 b ∙ ap (λ t. get_or bytes (suc n) 0 ∷ t) (drop-cons bytes (suc (suc n)) 0 c)))

pub whole_at : (m s : ℕ) (bytes : List ℕ) → m ≤ 59 → 16 ≤ s → s < 32 → m + 3 ≤ length bytes → get_or bytes (suc (suc m)) 0 ≡ 126
    → checksum ((m + 5) ∷ s ∷ take m bytes) ≡ 256 * get_or bytes m 0 + get_or bytes (suc m) 0
    → get_or bytes (suc m) 0 < 256
    → IsBlock (s - 16) (take m bytes) ((m + 5) ∷ s ∷ bytes)
whole_at m s bytes most low high long last check small =
    let size : length (take m bytes) ≡ m = length-take-le m bytes (omega arith) in
    let number : 16 + (s - 16) ≡ s = omega arith in
    let rest = drop (suc (suc (suc m))) bytes in
    let crc = 256 * get_or bytes m 0 + get_or bytes (suc m) 0 in
    let upper : crc / 256 ≡ get_or bytes m 0 = omega arith in
    let lower : crc % 256 ≡ get_or bytes (suc m) 0 = omega arith in
    let cut : bytes ≡ take m bytes ++ (get_or bytes m 0 ∷ get_or bytes (suc m) 0 ∷ get_or bytes (suc (suc m)) 0 ∷ rest) = three_at bytes m long in
    let ends : List ℕ = get_or bytes m 0 ∷ get_or bytes (suc m) 0 ∷ 126 ∷ [] in
    let whole : bytes ≡ (take m bytes ++ ends) ++ rest = (rw last at cut) ∙ sym (append_assoc (take m bytes) ends rest) in
    record {
      small = omega arith;
      fits = omega (arith, size);
      after = (rest, rw (size, number, check, upper, lower) (ap (λ t. (m + 5) ∷ s ∷ t) whole));
    }

pub whole_from : (bytes : List ℕ) (len : ℕ) → get_or bytes 0 0 ≡ len → 5 ≤ len → len ≤ 64 → len ≤ length bytes
    → (2 ≤ length bytes → get_or bytes 1 0 / 16 ≡ 1)
    → get_or bytes (len - 2) 0 < 256 → get_or bytes (len - 1) 0 ≡ 126
    → checksum (take (len - 3) bytes) ≡ 256 * get_or bytes (len - 3) 0 + get_or bytes (len - 2) 0
    → HasBlock bytes
whole_from [] len head low high long half small last check = absurd (omega arith)
whole_from (b ∷ []) len head low high long half small last check = absurd (omega arith)
whole_from (b ∷ s ∷ bytes) len head low high long half small last check =
    let m = len - 5 in
    let first : b ≡ (len - 5) + 5 = omega arith in
    let p1 : len - 1 ≡ suc (suc (suc (suc (len - 5)))) = omega arith in
    let p2 : len - 2 ≡ suc (suc (suc (len - 5))) = omega arith in
    let p3 : len - 3 ≡ suc (suc (len - 5)) = omega arith in
    let sixteen : s / 16 ≡ 1 = half (omega arith) in
    let checks : checksum (b ∷ s ∷ take (len - 5) bytes) ≡ 256 * get_or bytes (len - 5) 0 + get_or bytes (suc (len - 5)) 0 = rw (p3, p2) at check in (
      s - 16,
      take (len - 5) bytes,
      rw first
          (whole_at m s bytes (omega arith) (omega (arith, sixteen)) (omega (arith, sixteen)) (omega arith) (rw p1 at last) (rw first at checks) (rw p2 at small)),
    )

past : (xs ys : List ℕ) (i n : ℕ) → i ≡ length xs + n → get_or (xs ++ ys) i 0 ≡ get_or ys n 0
past xs ys i n e = rw e (get_or-append-add xs ys n 0)

-- what stands in a block's bytes behind its length and number
pub block_reads : (content bytes rest : List ℕ) (crc : ℕ) → bytes ≡ (content ++ ending crc) ++ rest
    → (take (length content) bytes ≡ content) × (get_or bytes (length content) 0 ≡ crc / 256) × (get_or bytes (suc (length content)) 0 ≡ crc % 256)
    × (get_or bytes (suc (suc (length content))) 0 ≡ 126)
block_reads content bytes rest crc e =
    let f : bytes ≡ content ++ (ending crc ++ rest) = e ∙ append_assoc content (ending crc) rest in
    rw f (take-append_seam content (ending crc ++ rest), past content (ending crc ++ rest) (length content) 0 (omega arith), past content (ending crc ++ rest) (suc (length content)) 1 (omega arith), past content (ending crc ++ rest) (suc (suc (length content))) 2 (omega arith))

pub not_whole : (bytes : List ℕ) (len : ℕ) → get_or bytes 0 0 ≡ len → HasBlock bytes
    → (get_or bytes (len - 1) 0 ≡ 126) × (checksum (take (len - 3) bytes) ≡ 256 * get_or bytes (len - 3) 0 + get_or bytes (len - 2) 0)
not_whole [] len head (n, c, b) = let e = b.after.1 in cc
not_whole (l ∷ []) len head (n, c, b) = let e = b.after.1 in cc
not_whole (l ∷ s ∷ bytes) len head (n, c, b) =
    let e : l ∷ s ∷ bytes ≡ (length c + 5) ∷ (16 + n) ∷ ((c ++ ending (checksum (covered n c))) ++ b.after.0) = b.after.1 in
    let crc = checksum (covered n c) in
    let first : l ≡ length c + 5 = cc in
    let second : s ≡ 16 + n = cc in
    let tail : bytes ≡ (c ++ ending (checksum (covered n c))) ++ b.after.0 = cc in
    let reads = block_reads c bytes b.after.0 (checksum (covered n c)) tail in
    let p1 : len - 1 ≡ suc (suc (suc (suc (length c)))) = omega arith in
    let p2 : len - 2 ≡ suc (suc (suc (length c))) = omega arith in
    let p3 : len - 3 ≡ suc (suc (length c)) = omega arith in
    (rw p1 reads.3, rw (p3, p2, first, second, reads.0, reads.1, reads.2) (omega arith))

no_skip : (bytes : List ℕ) → (get_or bytes 0 0 ≡ 126 → ⊥) → IsSkip bytes → ⊥
no_skip [] h s = s
no_skip (b ∷ bytes) h s = h s

is_decided : (bytes : List ℕ) (len : ℕ) → get_or bytes 0 0 ≡ len → 5 ≤ len → len ≤ length bytes → IsUndecided bytes → ⊥
is_decided [] len e low long u = omega arith
is_decided (b ∷ []) len e low long u = omega arith
is_decided (b ∷ s ∷ bytes) len e low long u = omega (arith, u.3)

pub is_bad : (bytes : List ℕ) (len : ℕ) → get_or bytes 0 0 ≡ len → 5 ≤ len → len ≤ length bytes → (get_or bytes 0 0 ≡ 126 → ⊥) → (HasBlock bytes → ⊥) → IsBad bytes
is_bad bytes len e low long skip block = record { no_block = block; no_skip = no_skip bytes skip; decided = is_decided bytes len e low long }

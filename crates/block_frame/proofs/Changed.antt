-- A block of which one byte past the first was changed is no block of the same length.
use Rattle.std.proofs.Common.{◌≡◌, ℕ, zero, suc, ◌+◌, ◌-◌, ◌*◌, ◌^◌, ◌<◌, ◌≤◌, List, [], ◌∷◌, ◌++◌, refl, ap, arith, sym, ◌∙◌, get_or, length, set, take, length-append, append-nil, get_or-set_same, get_or-set_other, inl, inr}
use Rattle.std.proofs.lemmas.Bool.{cases_eq, cases_lt}
use Rattle.std.proofs.lemmas.List.{length-set, take-set-le, length-take-le, get_or-take}
use Rattle.std.proofs.Math.ListN.{get_or-append}
use Rattle.std.proofs.Math.Seq.{take-append-le, take-set-lt}
use Rattle.block_frame.specs.Block.{block_text, checksum, checksum_after, covered, ending}
use Rattle.block_frame.specs.Scan.{IsBlock, HasBlock}
use Rattle.block_frame.proofs.Whole.{not_whole}
use Rattle.block_frame.proofs.Linear.{AreBytes, changed_sum, step, step_below}

-- the bytes end as a block of this length, with the right checksum
abbrev Ends : List ℕ → ℕ → Type 0
Ends bytes len = (get_or bytes (len - 1) 0 ≡ 126) × (checksum (take (len - 3) bytes) ≡ 256 * get_or bytes (len - 3) 0 + get_or bytes (len - 2) 0)

bytes_taken : (n : ℕ) (bytes : List ℕ) → AreBytes bytes → AreBytes (take n bytes)
bytes_taken zero bytes fit k = omega arith
bytes_taken (suc n) [] fit k = omega arith
bytes_taken (suc n) (b ∷ bytes) fit zero = fit 0
bytes_taken (suc n) (b ∷ bytes) fit (suc k) = bytes_taken n bytes (λ j. fit (suc j)) k

in_sum : (bytes : List ℕ) (n i byte : ℕ) → AreBytes bytes → n ≤ length bytes → byte < 256 → i < n → checksum (take n (set bytes i byte)) ≡ checksum (take n bytes) → byte ≡ get_or bytes i 0
unfolding checksum
in_sum bytes n i byte fit long small within same =
    let cut : take n (set bytes i byte) ≡ set (take n bytes) i byte = take-set-lt n bytes i byte within in
    let size : length (take n bytes) ≡ n = length-take-le n bytes long in
    changed_sum (take n bytes) 65535 i byte (bytes_taken n bytes fit) (omega arith) small (omega (arith, size)) (rw cut at same) ∙ get_or-take n bytes i 0 within

-- one byte is another, and both ways the bytes end as a block
ends_twice : (bytes : List ℕ) (len i byte : ℕ) → AreBytes bytes → length bytes ≡ len → 5 ≤ len → byte < 256 → i < len → Ends bytes len → Ends (set bytes i byte) len → byte ≡ get_or bytes i 0
ends_twice bytes len i byte fit size long small within one two =
    let there : i < length bytes = omega arith in
    let same : get_or (set bytes i byte) i 0 ≡ byte = get_or-set_same bytes i byte 0 there in
    let kept : (j : ℕ) → (j ≡ i → ⊥) → get_or (set bytes i byte) j 0 ≡ get_or bytes j 0 = λ j h. get_or-set_other bytes i j byte 0 h in
    elim (cases_lt i (len - 3)) [
      | inl inside ↦
          let high = kept (len - 3) (λ e. omega (arith, e)) in
          let low = kept (len - 2) (λ e. omega (arith, e)) in
          in_sum bytes (len - 3) i byte fit (omega arith) small inside (omega (arith, one.1, two.1, high, low))
      | inr behind ↦
          let sum : take (len - 3) (set bytes i byte) ≡ take (len - 3) bytes = take-set-le (len - 3) bytes i byte (omega arith) in
          let check : checksum (take (len - 3) (set bytes i byte)) ≡ checksum (take (len - 3) bytes) = ap checksum sum in
          elim (cases_eq i (len - 1)) [
            | inl last ↦ sym same ∙ ap (λ k. get_or (set bytes i byte) k 0) last ∙ two.0 ∙ sym one.0 ∙ ap (λ k. get_or bytes k 0) (sym last)
            | inr before ↦
                elim (cases_eq i (len - 2)) [
                  | inl low ↦
                      let high = kept (len - 3) (λ e. omega (arith, e)) in
                      let here : get_or (set bytes i byte) (len - 2) 0 ≡ byte = ap (λ k. get_or (set bytes i byte) k 0) (sym low) ∙ same in
                      let there : get_or bytes (len - 2) 0 ≡ get_or bytes i 0 = ap (λ k. get_or bytes k 0) (sym low) in
                      omega (arith, one.1, two.1, check, high, here, there)
                  | inr not_low ↦
                      let at : i ≡ len - 3 = omega arith in
                      let low = kept (len - 2) (λ e. omega (arith, e)) in
                      let here : get_or (set bytes i byte) (len - 3) 0 ≡ byte = ap (λ k. get_or (set bytes i byte) k 0) (sym at) ∙ same in
                      let there : get_or bytes (len - 3) 0 ≡ get_or bytes i 0 = ap (λ k. get_or bytes k 0) (sym at) in
                      omega (arith, one.1, two.1, check, low, here, there)
                ]
          ]
    ]

sum_below : (bytes : List ℕ) (crc : ℕ) → crc < 2 ^ 16 → checksum_after crc bytes < 2 ^ 16
unfolding checksum_after
sum_below [] crc h = h
sum_below (b ∷ bytes) crc h = sum_below bytes (step crc b) (step_below crc b)

all_bytes : (content : List ℕ) (crc : ℕ) → AreBytes content → crc < 2 ^ 16 → AreBytes (content ++ ending crc)
all_bytes [] crc fit h zero = omega arith
all_bytes [] crc fit h (suc zero) = omega arith
all_bytes [] crc fit h (suc (suc zero)) = omega arith
all_bytes [] crc fit h (suc (suc (suc k))) = omega arith
all_bytes (b ∷ content) crc fit h zero = fit 0
all_bytes (b ∷ content) crc fit h (suc k) = all_bytes content crc (λ j. fit (suc j)) h k

text_bytes : (n : ℕ) (c : List ℕ) → n < 16 → length c ≤ 59 → AreBytes c → AreBytes (block_text n c)
unfolding checksum
text_bytes n c small most fit zero = omega arith
text_bytes n c small most fit (suc zero) = omega arith
text_bytes n c small most fit (suc (suc k)) = all_bytes c (checksum (covered n c)) fit (sum_below (covered n c) 65535 (omega arith)) k

pub text_length : (n : ℕ) (c : List ℕ) → length (block_text n c) ≡ length c + 5
text_length n c = let size = length-append c (ending (checksum (covered n c))) in omega (arith, size)

-- what is behind the bytes doesn't count
ends_before : (bytes rest : List ℕ) (len : ℕ) → length bytes ≡ len → 5 ≤ len → Ends (bytes ++ rest) len → Ends bytes len
ends_before bytes rest len size long ends =
    let at : (k : ℕ) → k < length bytes → get_or (bytes ++ rest) k 0 ≡ get_or bytes k 0 = λ k h. get_or-append bytes rest 0 k h in
    let cut : take (len - 3) (bytes ++ rest) ≡ take (len - 3) bytes = take-append-le (len - 3) bytes rest (omega arith) in
    let one = at (len - 1) (omega arith) in
    let two = at (len - 2) (omega arith) in
    let three = at (len - 3) (omega arith) in
    (sym one ∙ ends.0, sym (ap checksum cut) ∙ ends.1 ∙ (rw (two, three) refl))

pub changed_is_no_block : (n : ℕ) (c rest : List ℕ) (i byte : ℕ) → n < 16 → length c ≤ 59 → AreBytes c → 0 < i → i < length c + 5 → byte < 256
    → HasBlock (set (block_text n c) i byte ++ rest) → byte ≡ get_or (block_text n c) i 0
changed_is_no_block n c rest i byte small most fit past within byte_small block =
    let text = block_text n c in
    let changed = set (block_text n c) i byte in
    let size = text_length n c in
    let whole : IsBlock n c (block_text n c) = record { small = small; fits = most; after = ([], sym (append-nil (block_text n c))) } in
    let one : Ends (block_text n c) (length c + 5) = not_whole (block_text n c) (length c + 5) refl (n, c, whole) in
    let head : get_or (set (block_text n c) i byte) 0 0 ≡ length c + 5 = get_or-set_other (block_text n c) i 0 byte 0 (λ e. omega (arith, e)) in
    let long : length (set (block_text n c) i byte) ≡ length c + 5 = length-set (block_text n c) i byte ∙ size in
    let first : get_or (set (block_text n c) i byte ++ rest) 0 0 ≡ length c + 5 = get_or-append (set (block_text n c) i byte) rest 0 0 (omega (arith, long)) ∙ head in
    let two : Ends (set (block_text n c) i byte) (length c + 5) =
    ends_before (set (block_text n c) i byte) rest (length c + 5) long (omega arith) (not_whole (set (block_text n c) i byte ++ rest) (length c + 5) first block) in
    ends_twice (block_text n c) (length c + 5) i byte (text_bytes n c small most fit) size (omega arith) byte_small within one two

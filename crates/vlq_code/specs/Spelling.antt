-- How a number below 2 ^ 32 is spelled: groups of seven bits, the high part first (Klipper's Protocol.md,
-- "Variable Length Quantities").
use Rattle.std.specs.Prelude.{◌≡◌, ℕ, Bool, ◌+◌, ◌-◌, ◌*◌, ◌/◌, ◌%◌, ◌^◌, ◌<◌, ◌≤◌, ◌⊎◌, List, [], ◌∷◌, ◌&&◌, zero, suc, length, nat_lt, nat_le, if◌then◌else◌}

-- all bytes but the last have bit 7 set
abbrev pub AreJoined : List ℕ → Type 0
AreJoined [] = ⊥
AreJoined (b ∷ []) = b < 128
AreJoined (b ∷ c ∷ bs) = (128 ≤ b) × (b < 256) × AreJoined (c ∷ bs)

-- the number of the groups of these bytes, behind the groups that make high
abbrev pub groups_after : ℕ → List ℕ → ℕ
groups_after high [] = high
groups_after high (b ∷ bs) = groups_after (128 * high + b % 128) bs

-- the seven low bits of the first byte
abbrev pub first_group : List ℕ → ℕ
first_group [] = 0
first_group (b ∷ bs) = b % 128

-- the number that bytes with these groups stand for: fewer than five, of which the first has its bits 5 and 6
-- set, begin a negative number
abbrev pub number_of : ℕ → ℕ → ℕ → ℕ
number_of len first groups =
    if nat_lt len 5 && nat_le 96 first then (groups + 2 ^ 32 - 2 ^ (7 * len)) % 2 ^ 32 else groups % 2 ^ 32

-- n, read as signed, is from -2 ^ (7 k - 2) to 3 * 2 ^ (7 k - 2) - 1
abbrev pub FitsIn : ℕ → ℕ → Type 0
FitsIn k n = (n < 3 * 2 ^ (7 * k - 2)) ⊎ (2 ^ 32 ≤ n + 2 ^ (7 * k - 2))

-- the bytes are the spelling of n
pub record Spells (bytes : List ℕ) (n : ℕ) : Type 0 where
  pub joined : AreJoined bytes
  pub number : n ≡ number_of (length bytes) (first_group bytes) (groups_after 0 bytes)
  pub within : length bytes ≤ 5
  pub shortest : (k : ℕ) → 1 ≤ k → k < length bytes → FitsIn k n → ⊥
  pub top : length bytes ≡ 5 → first_group bytes < 16

-- n does not fit in k bytes
abbrev pub needs_more : ℕ → ℕ → Bool
needs_more k n = nat_le (2 ^ (7 * k)) ((n + 2 ^ (7 * k - 2)) % 2 ^ 32)

-- how many bytes a number takes
abbrev pub byte_count : ℕ → ℕ
byte_count n =
    if needs_more 1 n
    then (if needs_more 2 n then (if needs_more 3 n then (if needs_more 4 n then 5 else 4) else 3) else 2)
    else 1

-- the byte at a place, the lowest seven bits at place 0
abbrev pub byte_at : ℕ → ℕ → ℕ
byte_at zero n = n % 128
byte_at (suc place) n = 128 + n / 2 ^ (7 * suc place) % 128

-- the bytes of the places below this one, the highest first
abbrev pub low_bytes : ℕ → ℕ → List ℕ
low_bytes zero n = []
low_bytes (suc place) n = byte_at place n ∷ low_bytes place n

-- the bytes that spell a number
unfoldable pub spelling : ℕ → List ℕ
spelling n = low_bytes (byte_count n) n

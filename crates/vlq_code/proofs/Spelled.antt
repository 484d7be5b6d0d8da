-- Lemmas on spellings.
use Rattle.std.proofs.Common.{◌≡◌, ℕ, ◌+◌, ◌-◌, ◌*◌, ◌/◌, ◌%◌, ◌^◌, ◌<◌, ◌≤◌, List, [], ◌∷◌, ◌++◌, zero, suc, length, get_or, refl, ap, arith, sym, ◌∙◌}
use Rattle.vlq_code.specs.Spelling.{AreJoined, Spells, groups_after, number_of, first_group, byte_at, low_bytes}

pub joined_alike : (a b x y : List ℕ) → AreJoined a → AreJoined b → a ++ x ≡ b ++ y → a ≡ b
joined_alike [] b x y h g e = absurd h
joined_alike (p ∷ a) [] x y h g e = absurd g
joined_alike (p ∷ []) (q ∷ []) x y h g e = cc
joined_alike (p ∷ []) (q ∷ r ∷ b) x y h g e = let s : p ≡ q = cc in absurd (omega arith)
joined_alike (p ∷ r ∷ a) (q ∷ []) x y h g e = let s : p ≡ q = cc in absurd (omega arith)
joined_alike (p ∷ r ∷ a) (q ∷ s ∷ b) x y h g e =
    let rest : (r ∷ a) ++ x ≡ (s ∷ b) ++ y = cc in
    let same : r ∷ a ≡ s ∷ b = joined_alike (r ∷ a) (s ∷ b) x y h.2 g.2 rest in
    cc

pub one_number : (a b : List ℕ) (m n : ℕ) → Spells a m → Spells b n → a ≡ b → m ≡ n
one_number a b m n s t e = s.number ∙ ap (λ l. number_of (length l) (first_group l) (groups_after 0 l)) e ∙ sym t.number

-- joined bytes have one with bit 7 clear
pub joined_ends : (a x : List ℕ) → AreJoined a → (k : ℕ) × (k < length a) × (get_or (a ++ x) k 0 < 128)
joined_ends [] x h = absurd h
joined_ends (b ∷ []) x h = (0, omega arith, h)
joined_ends (b ∷ c ∷ a) x h =
    let r = joined_ends (c ∷ a) x h.2 in (suc r.0, omega (arith, r.1), r.2)

pub groups_after-append : (xs : List ℕ) (high y : ℕ) → groups_after high (xs ++ y ∷ []) ≡ 128 * groups_after high xs + y % 128
groups_after-append [] high y = refl
groups_after-append (x ∷ xs) high y = groups_after-append xs (128 * high + x % 128) y

pub low_bytes_step : (p n : ℕ) → 1 ≤ p → low_bytes p n ≡ byte_at (p - 1) n ∷ low_bytes (p - 1) n
low_bytes_step zero n h = absurd (omega arith)
low_bytes_step (suc p) n h = let e : suc p - 1 ≡ p = omega arith in rw e refl

pub byte_at_high : (p n : ℕ) → 1 ≤ p → byte_at p n ≡ 128 + n / 2 ^ (7 * p) % 128
byte_at_high zero n h = absurd (omega arith)
byte_at_high (suc p) n h = refl

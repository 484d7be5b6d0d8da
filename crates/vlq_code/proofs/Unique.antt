-- A number has one spelling.
use Rattle.std.proofs.Common.{◌≡◌, ℕ, ◌+◌, ◌*◌, ◌%◌, ◌^◌, ◌<◌, ◌≤◌, ◌⊎◌, List, [], ◌∷◌, length, ap, sym, ◌∙◌, arith, inl, inr}
use Rattle.std.proofs.lemmas.Bool.{cases_order, cases_lt}
use Rattle.std.proofs.lemmas.Bool.Decides.{leb_tells}
use Rattle.vlq_code.specs.Spelling.{AreJoined, Spells, groups_after, number_of, first_group}
use Rattle.vlq_code.proofs.Lengths.{number_fits, groups_below, some}

same_groups : (a b : List ℕ) (h g : ℕ) → AreJoined a → AreJoined b → length a ≡ length b → groups_after h a ≡ groups_after g b → (h ≡ g) × (a ≡ b)
same_groups [] b h g p q l e = absurd p
same_groups (x ∷ a) [] h g p q l e = absurd q
same_groups (x ∷ []) (y ∷ []) h g p q l e = (omega arith, ap (λ z. z ∷ []) (omega arith))
same_groups (x ∷ []) (y ∷ w ∷ b) h g p q l e = absurd (omega arith)
same_groups (x ∷ z ∷ a) (y ∷ []) h g p q l e = absurd (omega arith)
same_groups (x ∷ z ∷ a) (y ∷ w ∷ b) h g p q l e =
    let r = same_groups (z ∷ a) (w ∷ b) (128 * h + x % 128) (128 * g + y % 128) p.2 q.2 (omega arith) e in
    let high : h ≡ g = omega (arith, r.0) in
    let head : x ≡ y = omega (arith, r.0, p.0, p.1, q.0, q.1) in
    let tail : z ∷ a ≡ w ∷ b = r.1 in
    (high, cc)

-- which groups fewer than five bytes have, by their number
Sign : ℕ → ℕ → ℕ → Type 0
Sign k n g = ((n < 2 ^ 31) × (n ≡ g)) ⊎ ((2 ^ 31 ≤ n) × (n + 2 ^ (7 * k) ≡ g + 2 ^ 32))

sign : (t : List ℕ) (n : ℕ) → AreJoined t → length t < 5 → n ≡ number_of (length t) (first_group t) (groups_after 0 t) → Sign (length t) n (groups_after 0 t)
unfolding Sign
sign [] n h l e = absurd h
sign (a ∷ []) n h l e =
    elim (leb_tells 96 (a % 128)) [ inl p ↦ let f = rw p.0 at e in inr (omega (arith, f, p.1), omega (arith, f, p.1)) | inr p ↦ let f = rw p.0 at e in inl (omega (arith, f), omega (arith, f)) ]
sign (a ∷ b ∷ []) n h l e =
    elim (leb_tells 96 (a % 128)) [ inl p ↦ let f = rw p.0 at e in inr (omega (arith, f, p.1), omega (arith, f, p.1)) | inr p ↦ let f = rw p.0 at e in inl (omega (arith, f), omega (arith, f)) ]
sign (a ∷ b ∷ c ∷ []) n h l e =
    elim (leb_tells 96 (a % 128)) [ inl p ↦ let f = rw p.0 at e in inr (omega (arith, f, p.1), omega (arith, f, p.1)) | inr p ↦ let f = rw p.0 at e in inl (omega (arith, f), omega (arith, f)) ]
sign (a ∷ b ∷ c ∷ d ∷ []) n h l e =
    elim (leb_tells 96 (a % 128)) [ inl p ↦ let f = rw p.0 at e in inr (omega (arith, f, p.1), omega (arith, f, p.1)) | inr p ↦ let f = rw p.0 at e in inl (omega (arith, f), omega (arith, f)) ]
sign (a ∷ b ∷ c ∷ d ∷ f ∷ t) n h l e = absurd (omega arith)

same_sign : (k n g f : ℕ) → Sign k n g → Sign k n f → g ≡ f
unfolding Sign
same_sign k n g f (inl a) (inl b) = omega arith
same_sign k n g f (inl a) (inr b) = absurd (omega arith)
same_sign k n g f (inr a) (inl b) = absurd (omega arith)
same_sign k n g f (inr a) (inr b) = omega arith

five_groups : (t : List ℕ) (n : ℕ) → Spells t n → length t ≡ 5 → n ≡ groups_after 0 t
five_groups t n s five =
    let small : groups_after 0 t < 2 ^ 32 = groups_below t five (s.top five) in
    let whole : groups_after 0 t % 2 ^ 32 ≡ groups_after 0 t = omega (arith, small) in
    (rw five at s.number) ∙ whole

no_shorter : (a b : List ℕ) (n : ℕ) → Spells a n → Spells b n → length a < length b → ⊥
no_shorter a b n s t h =
    t.shortest (length a) (some a s.joined) h (rw (sym s.number) at (number_fits a s.joined (omega (arith, h, t.within))))

pub one_text : (a b : List ℕ) (n : ℕ) → Spells a n → Spells b n → a ≡ b
one_text a b n s t =
    elim (cases_order (length a) (length b)) [
      | inl same ↦
          elim (cases_lt (length a) 5) [
            | inl short ↦
                (same_groups a b 0 0 s.joined t.joined same
                (same_sign (length a) n (groups_after 0 a) (groups_after 0 b) (sign a n s.joined short s.number)
                (rw (sym same) at (sign b n t.joined (omega (arith, same, short)) t.number)))).1
            | inr long ↦
                let five : length a ≡ 5 = omega (arith, s.within, long) in
                (same_groups a b 0 0 s.joined t.joined same (sym (five_groups a n s five) ∙ five_groups b n t (sym same ∙ five))).1
          ]
      | inr other ↦ elim other [ inl less ↦ absurd (no_shorter a b n s t less) | inr more ↦ absurd (no_shorter b a n t s more) ]
    ]

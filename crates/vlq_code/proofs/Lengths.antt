-- How many bytes a number takes.
use Rattle.std.proofs.Common.{◌≡◌, ℕ, ◌+◌, ◌*◌, ◌/◌, ◌%◌, ◌^◌, ◌<◌, ◌≤◌, ◌⊎◌, List, [], ◌∷◌, zero, suc, length, take, drop, get_or, refl, ap, arith, inl, inr, sym, ◌∙◌}
use Rattle.std.proofs.lemmas.Bool.Decides.{leb_tells}
use Rattle.vlq_code.specs.Spelling.{AreJoined, Spells, FitsIn, groups_after, number_of, first_group, low_bytes, byte_count, spelling}
use Rattle.std.proofs.lemmas.List.{take-append-drop}
use Rattle.std.proofs.lemmas.Bool.{cases_order}
use Rattle.vlq_code.proofs.Spelled.{joined_alike}

-- the number of fewer than five bytes fits in them
pub number_fits : (t : List ℕ) → AreJoined t → length t < 5 → FitsIn (length t) (number_of (length t) (first_group t) (groups_after 0 t))
number_fits [] h l = absurd h
number_fits (a ∷ []) h l =
    elim (leb_tells 96 (a % 128)) [ inl p ↦ rw p.0 (inr (omega arith)) | inr p ↦ rw p.0 (inl (omega arith)) ]
number_fits (a ∷ b ∷ []) h l =
    elim (leb_tells 96 (a % 128)) [ inl p ↦ rw p.0 (inr (omega arith)) | inr p ↦ rw p.0 (inl (omega arith)) ]
number_fits (a ∷ b ∷ c ∷ []) h l =
    elim (leb_tells 96 (a % 128)) [ inl p ↦ rw p.0 (inr (omega arith)) | inr p ↦ rw p.0 (inl (omega arith)) ]
number_fits (a ∷ b ∷ c ∷ d ∷ []) h l =
    elim (leb_tells 96 (a % 128)) [ inl p ↦ rw p.0 (inr (omega arith)) | inr p ↦ rw p.0 (inl (omega arith)) ]
number_fits (a ∷ b ∷ c ∷ d ∷ e ∷ t) h l = absurd (omega arith)

-- a number that takes more than so many bytes fits in no fewer
more_than_one : (n k : ℕ) → n < 2 ^ 32 → 2 ^ 7 ≤ (n + 2 ^ 5) % 2 ^ 32 → 1 ≤ k → k < 2 → FitsIn k n → ⊥
more_than_one n zero f h l m g = omega arith
more_than_one n (suc zero) f h l m (inl g) = omega arith
more_than_one n (suc zero) f h l m (inr g) = omega arith
more_than_one n (suc (suc k)) f h l m g = omega arith

more_than_two : (n k : ℕ) → n < 2 ^ 32 → 2 ^ 14 ≤ (n + 2 ^ 12) % 2 ^ 32 → 1 ≤ k → k < 3 → FitsIn k n → ⊥
more_than_two n zero f h l m g = omega arith
more_than_two n (suc zero) f h l m (inl g) = omega arith
more_than_two n (suc zero) f h l m (inr g) = omega arith
more_than_two n (suc (suc zero)) f h l m (inl g) = omega arith
more_than_two n (suc (suc zero)) f h l m (inr g) = omega arith
more_than_two n (suc (suc (suc k))) f h l m g = omega arith

more_than_three : (n k : ℕ) → n < 2 ^ 32 → 2 ^ 21 ≤ (n + 2 ^ 19) % 2 ^ 32 → 1 ≤ k → k < 4 → FitsIn k n → ⊥
more_than_three n k f h l m g =
    elim (leb_tells k 2) [
      | inl p ↦ more_than_two n k f (omega arith) l (omega (arith, p.1)) g
      | inr p ↦ let e : k ≡ 3 = omega (arith, p.1) in at_three n k f h e g
    ]
  where
    at_three : (n k : ℕ) → n < 2 ^ 32 → 2 ^ 21 ≤ (n + 2 ^ 19) % 2 ^ 32 → k ≡ 3 → FitsIn k n → ⊥
    at_three n k f h e (inl g) = let g3 = rw e at g in omega (arith, g3, h, f)
    at_three n k f h e (inr g) = let g3 = rw e at g in omega (arith, g3, h, f)

more_than_four : (n k : ℕ) → n < 2 ^ 32 → 2 ^ 28 ≤ (n + 2 ^ 26) % 2 ^ 32 → 1 ≤ k → k < 5 → FitsIn k n → ⊥
more_than_four n k f h l m g =
    elim (leb_tells k 3) [
      | inl p ↦ more_than_three n k f (omega arith) l (omega (arith, p.1)) g
      | inr p ↦ let e : k ≡ 4 = omega (arith, p.1) in at_four n k f h e g
    ]
  where
    at_four : (n k : ℕ) → n < 2 ^ 32 → 2 ^ 28 ≤ (n + 2 ^ 26) % 2 ^ 32 → k ≡ 4 → FitsIn k n → ⊥
    at_four n k f h e (inl g) = let g4 = rw e at g in omega (arith, g4, h, f)
    at_four n k f h e (inr g) = let g4 = rw e at g in omega (arith, g4, h, f)

-- what is in the window of so many bytes fits in them
fits_from : (n high low : ℕ) → n < 2 ^ 32 → (n + low) % 2 ^ 32 < 4 * low → low < 2 ^ 30 → (n < 3 * low) ⊎ (2 ^ 32 ≤ n + low)
fits_from n high low f h l = elim (leb_tells (2 ^ 32) (n + low)) [ inl p ↦ inr p.1 | inr p ↦ inl (omega (arith, p.1)) ]

-- a number takes as many bytes as this, and no fewer
pub record Takes (n len : ℕ) : Type 0 where
  pub some : 1 ≤ len
  pub most : len ≤ 5
  pub fits : len < 5 → FitsIn len n
  pub least : (k : ℕ) → 1 ≤ k → k < len → FitsIn k n → ⊥

pub takes_count : (n : ℕ) → n < 2 ^ 32 → Takes n (byte_count n)
takes_count n f =
    elim (leb_tells (2 ^ 7) ((n + 2 ^ 5) % 2 ^ 32)) [
      | inr p ↦ rw p.0 (record { some = omega arith; most = omega arith; fits = λ _. fits_from n 0 (2 ^ 5) f (omega (arith, p.1)) (omega arith); least = λ k l m g. omega arith })
      | inl p ↦
          rw p.0
          (elim (leb_tells (2 ^ 14) ((n + 2 ^ 12) % 2 ^ 32)) [
            | inr q ↦ rw q.0 (record { some = omega arith; most = omega arith; fits = λ _. fits_from n 0 (2 ^ 12) f (omega (arith, q.1)) (omega arith); least = λ k l m g. more_than_one n k f p.1 l m g })
            | inl q ↦
                rw q.0
                (elim (leb_tells (2 ^ 21) ((n + 2 ^ 19) % 2 ^ 32)) [
                  | inr r ↦ rw r.0 (record { some = omega arith; most = omega arith; fits = λ _. fits_from n 0 (2 ^ 19) f (omega (arith, r.1)) (omega arith); least = λ k l m g. more_than_two n k f q.1 l m g })
                  | inl r ↦
                      rw r.0
                      (elim (leb_tells (2 ^ 28) ((n + 2 ^ 26) % 2 ^ 32)) [
                        | inr s ↦ rw s.0 (record { some = omega arith; most = omega arith; fits = λ _. fits_from n 0 (2 ^ 26) f (omega (arith, s.1)) (omega arith); least = λ k l m g. more_than_three n k f r.1 l m g })
                        | inl s ↦ rw s.0 (record { some = omega arith; most = omega arith; fits = λ l. absurd (omega arith); least = λ k l m g. more_than_four n k f s.1 l m g })
                      ])
                ])
          ])
    ]

-- the bytes that are written spell the number
pub low_bytes_spell : (len n : ℕ) → n < 2 ^ 32 → 1 ≤ len → len ≤ 5 → (len < 5 → FitsIn len n) → ((k : ℕ) → 1 ≤ k → k < len → FitsIn k n → ⊥) → Spells (low_bytes len n) n
low_bytes_spell zero n f h l fits least = absurd (omega arith)
low_bytes_spell (suc zero) n f h l fits least = record {
  joined = omega arith;
  number =
      elim (leb_tells 96 (n % 128 % 128)) [
        | inl p ↦ rw p.0 (elim (fits (omega arith)) [ inl g ↦ omega arith | inr g ↦ omega arith ])
        | inr p ↦ rw p.0 (elim (fits (omega arith)) [ inl g ↦ omega arith | inr g ↦ omega arith ])
      ];
  within = omega arith;
  shortest = least;
  top = λ e. absurd (omega arith);
}
low_bytes_spell (suc (suc zero)) n f h l fits least = record {
  joined = (omega arith, omega arith, omega arith);
  number =
      elim (leb_tells 96 ((128 + n / 2 ^ 7 % 128) % 128)) [
        | inl p ↦ rw p.0 (elim (fits (omega arith)) [ inl g ↦ omega arith | inr g ↦ omega arith ])
        | inr p ↦ rw p.0 (elim (fits (omega arith)) [ inl g ↦ omega arith | inr g ↦ omega arith ])
      ];
  within = omega arith;
  shortest = least;
  top = λ e. absurd (omega arith);
}
low_bytes_spell (suc (suc (suc zero))) n f h l fits least = record {
  joined = (omega arith, omega arith, (omega arith, omega arith, omega arith));
  number =
      elim (leb_tells 96 ((128 + n / 2 ^ 14 % 128) % 128)) [
        | inl p ↦ rw p.0 (elim (fits (omega arith)) [ inl g ↦ omega arith | inr g ↦ omega arith ])
        | inr p ↦ rw p.0 (elim (fits (omega arith)) [ inl g ↦ omega arith | inr g ↦ omega arith ])
      ];
  within = omega arith;
  shortest = least;
  top = λ e. absurd (omega arith);
}
low_bytes_spell (suc (suc (suc (suc zero)))) n f h l fits least = record {
  joined = (omega arith, omega arith, (omega arith, omega arith, (omega arith, omega arith, omega arith)));
  number =
      elim (leb_tells 96 ((128 + n / 2 ^ 21 % 128) % 128)) [
        | inl p ↦ rw p.0 (elim (fits (omega arith)) [ inl g ↦ omega arith | inr g ↦ omega arith ])
        | inr p ↦ rw p.0 (elim (fits (omega arith)) [ inl g ↦ omega arith | inr g ↦ omega arith ])
      ];
  within = omega arith;
  shortest = least;
  top = λ e. absurd (omega arith);
}
low_bytes_spell (suc (suc (suc (suc (suc zero))))) n f h l fits least = record {
  joined = (omega arith, omega arith, (omega arith, omega arith, (omega arith, omega arith, (omega arith, omega arith, omega arith))));
  number = omega arith;
  within = omega arith;
  shortest = least;
  top = λ e. omega arith;
}
low_bytes_spell (suc (suc (suc (suc (suc (suc k)))))) n f h l fits least = absurd (omega arith)

pub some : (t : List ℕ) → AreJoined t → 1 ≤ length t
some [] h = absurd h
some (b ∷ t) h = omega arith

-- five groups of which the first is below 16 make a number below 2 ^ 32
pub groups_below : (t : List ℕ) → length t ≡ 5 → first_group t < 16 → groups_after 0 t < 2 ^ 32
groups_below [] l h = absurd (omega arith)
groups_below (a ∷ []) l h = absurd (omega arith)
groups_below (a ∷ b ∷ []) l h = absurd (omega arith)
groups_below (a ∷ b ∷ c ∷ []) l h = absurd (omega arith)
groups_below (a ∷ b ∷ c ∷ d ∷ []) l h = absurd (omega arith)
groups_below (a ∷ b ∷ c ∷ d ∷ e ∷ []) l h = omega arith
groups_below (a ∷ b ∷ c ∷ d ∷ e ∷ f ∷ t) l h = absurd (omega arith)

-- where these first bytes are joined, whatever first bytes spell a number are these
pub same_bytes : (bytes : List ℕ) (j k n : ℕ) → Spells (take j bytes) n → AreJoined (take k bytes) → take j bytes ≡ take k bytes
same_bytes bytes j k n s h =
    joined_alike (take j bytes) (take k bytes) (drop j bytes) (drop k bytes) s.joined h (take-append-drop j bytes ∙ sym (take-append-drop k bytes))

-- the number of these bytes takes as many
pub takes_all : (t : List ℕ) (n len : ℕ) → Spells t n → (len < 5 → FitsIn len n) → ((k : ℕ) → 1 ≤ k → k < len → FitsIn k n → ⊥) → 1 ≤ len → len ≤ 5 → len ≡ length t
takes_all t n len s fits least low high =
    elim (cases_order len (length t)) [
      | inl same ↦ same
      | inr other ↦
          elim other [
            | inl less ↦ absurd (s.shortest len low less (fits (omega (arith, s.within, less))))
            | inr more ↦
                absurd (least (length t) (some t s.joined) more (rw (sym s.number) at (number_fits t s.joined (omega (arith, more, high)))))
          ]
    ]

pub first_group_at : (bytes : List ℕ) (len : ℕ) → 1 ≤ len → first_group (take len bytes) ≡ get_or bytes 0 0 % 128
first_group_at bytes zero h = absurd (omega arith)
first_group_at [] (suc len) h = refl
first_group_at (b ∷ bytes) (suc len) h = refl

-- the spelling of a number spells it
pub spelling_spells : (n : ℕ) → n < 2 ^ 32 → Spells (spelling n) n
unfolding spelling
spelling_spells n f = let t = takes_count n f in low_bytes_spell (byte_count n) n f t.some t.most t.fits t.least

pub length_low : (len n : ℕ) → length (low_bytes len n) ≡ len
length_low zero n = refl
length_low (suc len) n = ap (λ k. suc k) (length_low len n)

-- a spelling takes one to five bytes
pub spelling_length : (n : ℕ) → n < 2 ^ 32 → (1 ≤ length (spelling n)) × (length (spelling n) ≤ 5)
unfolding spelling
spelling_length n f =
    let t = takes_count n f in
    let e = length_low (byte_count n) n in
    (omega (arith, e, t.some), omega (arith, e, t.most))

-- five groups that make a number below 2 ^ 32 begin with one below 16
pub top_group : (t : List ℕ) → length t ≡ 5 → groups_after 0 t < 2 ^ 32 → first_group t < 16
top_group [] l h = absurd (omega arith)
top_group (a ∷ []) l h = absurd (omega arith)
top_group (a ∷ b ∷ []) l h = absurd (omega arith)
top_group (a ∷ b ∷ c ∷ []) l h = absurd (omega arith)
top_group (a ∷ b ∷ c ∷ d ∷ []) l h = absurd (omega arith)
top_group (a ∷ b ∷ c ∷ d ∷ e ∷ []) l h = omega arith
top_group (a ∷ b ∷ c ∷ d ∷ e ∷ f ∷ t) l h = absurd (omega arith)

pub spelling_length_is : (n : ℕ) → length (spelling n) ≡ byte_count n
unfolding spelling
spelling_length_is n = length_low (byte_count n) n

-- The units of turns one behind the other.
use Rattle.std.proofs.Common.{◌≡◌, ℕ, zero, suc, ◌+◌, ◌<◌, ◌≤◌, List, [], ◌∷◌, ◌++◌, drop, get_or, length, map, refl, ap, sym, ◌∙◌, length-append, arith, inl, inr}
use Rattle.std.proofs.lemmas.Bool.{cases_lt}
use Rattle.std.proofs.lemmas.List.FromFn.{get_or-map-range_with_len}
use Rattle.std.specs.List.{range_with_len}
use Rattle.std.proofs.lemmas.Bool.Decides.{eqb_tells}
use Rattle.std.specs.Prelude.{◌==◌, slice_index_or, true, false}
use Rattle.step_feed.specs.Units.{StepUnit}
use Rattle.motion_stream.specs.Courses.{row_at}
use Rattle.motion_stream.specs.Rows.{AreJoined, units_in}

pub none_at : {X : Type 0} (xs : List X) (i : ℕ) (d : X) → length xs ≤ i → get_or xs i d ≡ d
none_at [] zero d le = refl
none_at [] (suc i) d le = refl
none_at (x ∷ xs) zero d le = absurd (omega (arith, le))
none_at (x ∷ xs) (suc i) d le = none_at xs i d (omega (arith, le))

pub behind_first : {X : Type 0} (xs : List X) (i : ℕ) (d : X) → get_or (drop 1 xs) i d ≡ get_or xs (i + 1) d
behind_first [] zero d = refl
behind_first [] (suc i) d = refl
behind_first (x ∷ xs) i d = let e : i + 1 ≡ suc i = omega arith in rw e refl

-- a row behind others
pub at_end : {X : Type 0} (xs : List X) (x d : X) → get_or (xs ++ x ∷ []) (length xs) d ≡ x
at_end [] x d = refl
at_end (y ∷ xs) x d = at_end xs x d

pub at_before : {X : Type 0} (xs ys : List X) (i : ℕ) (d : X) → i < length xs → get_or (xs ++ ys) i d ≡ get_or xs i d
at_before [] ys i d lt = absurd (omega (arith, lt))
at_before (x ∷ xs) ys zero d lt = refl
at_before (x ∷ xs) ys (suc i) d lt = at_before xs ys i d (omega (arith, lt))

-- Of two, the first so many rows were joined, and the others are left.
pub record AreJoining (boards : ℕ) (one two front behind joined : List (List (List StepUnit))) : Type 0 where
  pub units : (i b : ℕ) → b < boards → i < length joined → row_at joined i b ≡ row_at one i b ++ row_at two i b
  pub front_is : (i b : ℕ) → row_at front i b ≡ row_at one (length joined + i) b
  pub behind_is : (i b : ℕ) → row_at behind i b ≡ row_at two (length joined + i) b

pub joining_none : (boards : ℕ) (one two : List (List (List StepUnit))) → AreJoining boards one two one two []
joining_none boards one two = record {
  units = λ i b lt below. absurd (omega (arith, below));
  front_is = λ i b. ap (λ k. row_at one k b) (let e : i ≡ 0 + i = omega arith in e);
  behind_is = λ i b. ap (λ k. row_at two k b) (let e : i ≡ 0 + i = omega arith in e);
}

pub row_first : (rows : List (List (List StepUnit))) (i b : ℕ) → row_at (drop 1 rows) i b ≡ row_at rows (i + 1) b
row_first rows i b = ap (λ r. slice_index_or r b []) (behind_first rows i [])

pub joining_more : (boards : ℕ) (one two front behind joined front' behind' joined' : List (List (List StepUnit))) (row : List (List StepUnit)) → AreJoining boards one two front behind joined → front' ≡ drop 1 front → behind' ≡ drop 1 behind → joined' ≡ joined ++ row ∷ []
    → ((b : ℕ) → b < boards → units_in row b ≡ units_in (slice_index_or front 0 []) b ++ units_in (slice_index_or behind 0 []) b) → AreJoining boards one two front' behind' joined'
joining_more boards one two front behind joined front' behind' joined' row h f g j is = record {
  units = λ i b lt below.
      let long : length joined' ≡ length joined + 1 = ap length j ∙ length-append joined (row ∷ []) in
      elim (cases_lt i (length joined)) [
        | inl before ↦ ap (λ rows. row_at rows i b) j ∙ ap (λ r. slice_index_or r b []) (at_before joined (row ∷ []) i [] before) ∙ h.units i b lt before
        | inr over ↦
            let at : i ≡ length joined = omega (arith, over, below, long) in
            let same : length joined + 0 ≡ i = omega (arith, at) in
            ap (λ rows. row_at rows i b) j ∙ ap (λ k. row_at (joined ++ row ∷ []) k b) at ∙ ap (λ r. slice_index_or r b []) (at_end joined row []) ∙ is b lt
            ∙ ap (λ us. us ++ units_in (slice_index_or behind 0 []) b) (h.front_is 0 b ∙ ap (λ k. row_at one k b) same) ∙ ap (λ us. row_at one i b ++ us) (h.behind_is 0 b ∙ ap (λ k. row_at two k b) same)
      ];
  front_is = λ i b.
      let long : length joined' ≡ length joined + 1 = ap length j ∙ length-append joined (row ∷ []) in
      ap (λ rows. row_at rows i b) f ∙ row_first front i b ∙ h.front_is (i + 1) b ∙ ap (λ k. row_at one k b) (let e : length joined + (i + 1) ≡ length joined' + i = omega (arith, long) in e);
  behind_is = λ i b.
      let long : length joined' ≡ length joined + 1 = ap length j ∙ length-append joined (row ∷ []) in
      ap (λ rows. row_at rows i b) g ∙ row_first behind i b ∙ h.behind_is (i + 1) b ∙ ap (λ k. row_at two k b) (let e : length joined + (i + 1) ≡ length joined' + i = omega (arith, long) in e);
}

pub empty_row : (i b : ℕ) → row_at [] i b ≡ []
empty_row zero zero = refl
empty_row zero (suc b) = refl
empty_row (suc i) zero = refl
empty_row (suc i) (suc b) = refl

pub no_row : (rows : List (List (List StepUnit))) (i b : ℕ) → length rows ≤ i → row_at rows i b ≡ []
no_row rows i b le = ap (λ r. slice_index_or r b []) (none_at rows i [] le) ∙ empty_row 0 b

pub joining_all : (boards : ℕ) (one two front behind joined : List (List (List StepUnit))) → AreJoining boards one two front behind joined → length one ≤ length joined → length two ≤ length joined → AreJoined boards one two joined
joining_all boards one two front behind joined h f g = record {
  units = λ i b lt. elim (cases_lt i (length joined)) [
    | inl before ↦ h.units i b lt before
    | inr over ↦ no_row joined i b over ∙ sym (ap (λ us. us ++ row_at two i b) (no_row one i b (omega (arith, over, f))) ∙ no_row two i b (omega (arith, over, g)))
  ];
}

-- one board's units of a row that is made board by board
pub made_at : (f : ℕ → List StepUnit) (boards b : ℕ) (row : List (List StepUnit)) → row ≡ map f (range_with_len 0 boards) → b < boards → units_in row b ≡ f b
made_at f boards b row is lt = ap (λ r. slice_index_or r b []) is ∙ get_or-map-range_with_len f 0 boards b b [] lt (let e : 0 + b ≡ b = omega arith in e)

-- one empty, the other is all
pub joined_none : (boards : ℕ) (one two : List (List (List StepUnit))) → one ≡ [] → AreJoined boards one two two
joined_none boards one two none = record { units = λ i b lt. sym (ap (λ rows. row_at rows i b ++ row_at two i b) none ∙ ap (λ us. us ++ row_at two i b) (empty_row i b)) }

-- a queue without a length is empty
pub empty_is : {X : Type 0} (n : ℕ) (xs : List X) → true ≡ (n == 0) → n ≡ length xs → xs ≡ []
empty_is n [] e is = refl
empty_is n (x ∷ xs) e is = elim (eqb_tells n 0) [ inl p ↦ absurd (let z = p.1 in omega (arith, z, is)) | inr p ↦ absurd (clash (e ∙ p.0)) ] where
  clash : true ≡ false → ⊥
  clash h = cc

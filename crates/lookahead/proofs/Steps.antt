-- One step of a pass.
use Rattle.std.proofs.Common.{◌⊎◌, ◌≡◌, ◌≢◌, ℕ, ◌+◌, ◌<◌, ◌≤◌, List, [], length, get_or, set, refl, arith, inl, inr, get_or-set_other, get_or-set_same, length-set}
use Rattle.std.proofs.lemmas.Bool.{cases_eq}
use Rattle.plan_types.specs.declared.plan.Move.{Move}
use Rattle.plan_types.specs.Numbers.{gap}
use Rattle.plan_types.specs.Speeds.{places}
use Rattle.plan_types.proofs.Places.{places-next}
use Rattle.lookahead.specs.Passes.{IsLowered, IsRising, IsFalling}

-- what stands past the end of a list of moves
abbrev pub no_move : Move
no_move = record { from = []; to = []; d = 0; v = 0; a = 0 }

-- nothing is lowered yet
pub IsLowered-none : (changes speeds : List ℕ) → IsLowered changes speeds speeds
IsLowered-none changes speeds = record {
  count = refl;
  within = λ i h. omega arith;
  reached = λ i h. (i, h, omega arith);
}

-- a read after a write
at_set : (xs : List ℕ) (i k x : ℕ) → i < length xs → ((k ≡ i) × (get_or (set xs i x) k 0 ≡ x)) ⊎ ((k ≢ i) × (get_or (set xs i x) k 0 ≡ get_or xs k 0))
at_set xs i k x h = elim (cases_eq k i) [ inl same ↦ inl (same, rw same (get_or-set_same xs i x 0 h)) | inr other ↦ inr (other, rw get_or-set_other refl) ]

-- one speed is lowered to what a neighbour allows
pub IsLowered-set : (changes old new : List ℕ) (i k x : ℕ) → length old ≡ length changes + 1 → i < length old → k < length old → IsLowered changes old new → gap (get_or (places 0 changes) i 0) (get_or (places 0 changes) k 0) + get_or new k 0 ≤ x → x ≤ get_or new i 0 → IsLowered changes old (set new i x)
IsLowered-set changes old new i k x count inside near lowered far less = record {
  count = simp length-set lowered.count;
  within = λ j h. elim (at_set new i j x (omega arith)) [ inl (here, is) ↦ (let w = lowered.within i inside in rw (is, here) (omega arith)) | inr (there, is) ↦ rw is (lowered.within j h) ];
  reached = λ j h. elim (at_set new i j x (omega arith)) [ inl (here, is) ↦ (let r = lowered.reached k near in (r.0, r.1, rw (is, here) (omega (arith, r.2)))) | inr (there, is) ↦ (let r = lowered.reached j h in (r.0, r.1, rw is r.2)) ];
}

-- a pass upward has come to junction i
pub record IsRaisedTo (changes old new : List ℕ) (i : ℕ) : Type 0 where
  pub lowered : IsLowered changes old new
  pub rising : IsRising changes new i

-- what stays below the next place is kept
pub IsRising-more : (changes new : List ℕ) (i : ℕ) → IsRising changes new i → get_or new (i + 1) 0 ≤ get_or new i 0 + get_or changes i 0 → IsRising changes new (i + 1)
IsRising-more changes new i rising here = record {
  step = λ k h. elim (cases_eq k i) [ inl same ↦ rw same here | inr other ↦ rising.step k (omega arith) ];
}

pub IsRising-set : (changes new : List ℕ) (i x : ℕ) → i + 1 < length new → IsRising changes new i → x ≡ get_or new i 0 + get_or changes i 0 → IsRising changes (set new (i + 1) x) (i + 1)
IsRising-set changes new i x inside rising is = record {
  step = λ k h. (
      let low : get_or (set new (i + 1) x) k 0 ≡ get_or new k 0 = (let ne : k ≢ i + 1 = omega arith in rw get_or-set_other refl) in
      elim (at_set new (i + 1) (k + 1) x inside) [
        | inl (same, reads) ↦ (let e : k ≡ i = omega arith in rw (reads, low, e) (omega arith))
        | inr (other, reads) ↦ rw (reads, low) (rising.step k (omega arith))
      ]);
}

pub IsRaisedTo-set : (changes old new : List ℕ) (i x : ℕ) → length old ≡ length changes + 1 → i < length changes → IsRaisedTo changes old new i → x ≡ get_or new i 0 + get_or changes i 0 → x < get_or new (i + 1) 0 → IsRaisedTo changes old (set new (i + 1) x) (i + 1)
IsRaisedTo-set changes old new i x count inside so_far is less =
    let next = places-next 0 changes i inside in
    let far : gap (get_or (places 0 changes) (i + 1) 0) (get_or (places 0 changes) i 0) + get_or new i 0 ≤ x = omega arith in
    let counts = so_far.lowered.count in
    record {
      lowered = IsLowered-set changes old new (i + 1) i x count (omega arith) (omega arith) so_far.lowered far (omega arith);
      rising = IsRising-set changes new i x (omega arith) so_far.rising is;
    }

-- a pass downward has come to junction i
pub record IsFallenTo (changes old new : List ℕ) (i : ℕ) : Type 0 where
  pub lowered : IsLowered changes old new
  pub rising : IsRising changes new (length changes)
  pub falling : IsFalling changes new i
  pub within : i ≤ length changes

pub IsFalling-more : (changes new : List ℕ) (i : ℕ) → IsFalling changes new (i + 1) → get_or new i 0 ≤ get_or new (i + 1) 0 + get_or changes i 0 → IsFalling changes new i
IsFalling-more changes new i falling here = record {
  step = λ k above h. elim (cases_eq k i) [ inl same ↦ rw same here | inr other ↦ falling.step k (omega arith) h ];
}

pub IsFalling-set : (changes new : List ℕ) (i x : ℕ) → i < length new → IsFalling changes new (i + 1) → x ≡ get_or new (i + 1) 0 + get_or changes i 0 → IsFalling changes (set new i x) i
IsFalling-set changes new i x inside falling is = record {
  step = λ k above h. (
      let high : get_or (set new i x) (k + 1) 0 ≡ get_or new (k + 1) 0 = (let ne : k + 1 ≢ i = omega arith in rw get_or-set_other refl) in
      elim (at_set new i k x inside) [
        | inl (same, reads) ↦ rw (reads, high, same) (omega arith)
        | inr (other, reads) ↦ rw (reads, high) (falling.step k (omega arith) h)
      ]);
}

pub IsRising-lower : (changes new : List ℕ) (i x : ℕ) → i < length new → IsRising changes new (length changes) → x ≡ get_or new (i + 1) 0 + get_or changes i 0 → x < get_or new i 0 → IsRising changes (set new i x) (length changes)
IsRising-lower changes new i x inside rising is less = record {
  step = λ k h.
      elim (at_set new i k x inside) [
        | inl (same, reads) ↦ (
            let ne : k + 1 ≢ i = omega arith in
            let high : get_or (set new i x) (k + 1) 0 ≡ get_or new (k + 1) 0 = rw get_or-set_other refl in
            rw (reads, high, same) (omega arith))
        | inr (other, reads) ↦ elim (at_set new i (k + 1) x inside) [
          | inl (same, high) ↦ (let r = rising.step k h in let e : get_or new (k + 1) 0 ≡ get_or new i 0 = rw same refl in rw (reads, high) (omega arith))
          | inr (apart, high) ↦ rw (reads, high) (rising.step k h)
        ]
      ];
}

pub IsFallenTo-set : (changes old new : List ℕ) (i x : ℕ) → length old ≡ length changes + 1 → i < length changes → IsFallenTo changes old new (i + 1) → x ≡ get_or new (i + 1) 0 + get_or changes i 0 → x < get_or new i 0 → IsFallenTo changes old (set new i x) i
IsFallenTo-set changes old new i x count inside so_far is less =
    let next = places-next 0 changes i inside in
    let far : gap (get_or (places 0 changes) i 0) (get_or (places 0 changes) (i + 1) 0) + get_or new (i + 1) 0 ≤ x = omega arith in
    let counts = so_far.lowered.count in
    record {
      lowered = IsLowered-set changes old new i (i + 1) x count (omega arith) (omega arith) so_far.lowered far (omega arith);
      rising = IsRising-lower changes new i x (omega arith) so_far.rising is less;
      falling = IsFalling-set changes new i x (omega arith) so_far.falling is;
      within = omega arith;
    }

-- the same, for a loop that has come to j = i + 1
pub IsFallenTo-write : (changes old new : List ℕ) (i j x : ℕ) → j ≡ i + 1 → length old ≡ length changes + 1 → i < length changes → IsFallenTo changes old new j → x ≡ get_or new (i + 1) 0 + get_or changes i 0 → x < get_or new i 0 → IsFallenTo changes old (set new i x) i
IsFallenTo-write changes old new i j x e count inside so_far is less = IsFallenTo-set changes old new i x count inside (rw e at so_far) is less

pub IsFallenTo-keep : (changes old new : List ℕ) (i j : ℕ) → j ≡ i + 1 → IsFallenTo changes old new j → get_or new i 0 ≤ get_or new (i + 1) 0 + get_or changes i 0 → IsFallenTo changes old new i
IsFallenTo-keep changes old new i j e so_far here =
    let at_next = rw e at so_far in
    record { lowered = so_far.lowered; rising = so_far.rising; falling = IsFalling-more changes new i at_next.falling here; within = (let w = so_far.within in omega arith) }

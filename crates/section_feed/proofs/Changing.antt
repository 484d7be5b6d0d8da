-- Lists whose elements change one by one.
use Rattle.std.proofs.Common.{◌≡◌, ℕ, zero, suc, ◌+◌, ◌<◌, ◌≤◌, List, [], ◌∷◌, length, get_or, set, arith, inl, inr, refl, ◌∙◌, subst}
use Rattle.std.proofs.lemmas.Bool.{cases_lt}
use Rattle.std.proofs.lemmas.List.{length-set, get_or-set_same, get_or-set_other}
use Rattle.section_feed.specs.Changes.{AreChanged, AreChangedTo}

module _ {A : Type 0} (R : ℕ → A → A → Type 0) where
  pub to-none : (xs : List A) → AreChangedTo R 0 xs xs
  to-none xs = record { same = omega arith; first = λ k d h l. absurd (omega arith); others = λ k d h l. refl }

  pub to-more : (place : ℕ) (old now : List A) (x : A) → AreChangedTo R place old now → place < length old → ((d : A) → R place (get_or old place d) x) → AreChangedTo R (place + 1) old (set now place x)
  to-more place old now x to inside here =
      let len = length-set now place x in
      let same = to.same in
      record {
        same = omega arith;
        first = λ k d h l. elim (cases_lt k place) as (λ _. R k (get_or old k d) (get_or (set now place x) k d)) [
          | inl before ↦ (let e = get_or-set_other now place k x d (λ q. absurd (omega arith)) in rw e (to.first k d before l))
          | inr over ↦ (let q : k ≡ place = omega arith in rw q (let e = get_or-set_same now place x d (omega arith) in rw e (here d)))
        ];
        others = λ k d h l. (let e = get_or-set_other now place k x d (λ q. absurd (omega arith)) in rw e (to.others k d (omega arith) l));
      }

  pub to-all : (count : ℕ) (old new : List A) → AreChangedTo R count old new → length old ≤ count → AreChanged R old new
  to-all count old new to over = record { same = to.same; each = λ k d l. to.first k d (omega arith) l }

  -- a place of a list has one element, whatever stands for none
  pub any-default : (xs : List A) (i : ℕ) (d e : A) → i < length xs → get_or xs i d ≡ get_or xs i e
  any-default [] i d e h = absurd (omega arith)
  any-default (x ∷ xs) zero d e h = refl
  any-default (x ∷ xs) (suc i) d e h = any-default xs i d e (omega arith)

  -- the element at the place is as it was
  pub to-old : (place : ℕ) (old now : List A) (y d : A) → AreChangedTo R place old now → place < length now → y ≡ get_or now place y → y ≡ get_or old place d
  to-old place old now y d to inside is = let s = to.same in is ∙ any-default now place y d inside ∙ to.others place d (omega arith) (omega arith)

  pub to-next : (place : ℕ) (old now : List A) (y x : A) → AreChangedTo R place old now → place < length now → y ≡ get_or now place y → R place y x → AreChangedTo R (place + 1) old (set now place x)
  to-next place old now y x to inside is r = let s = to.same in to-more place old now x to (omega arith) (λ d. subst (λ (z : A). R place z x) (to-old place old now y d to inside is) r)

-- what may be said of the elements that have changed in another way
pub to-other : {A : Type 0} (R S : ℕ → A → A → Type 0) (place : ℕ) (old now : List A) → ((k : ℕ) (o n : A) → k < place → R k o n → S k o n) → AreChangedTo R place old now → AreChangedTo S place old now
to-other R S place old now same to = record { same = to.same; first = λ k d h l. same k _ _ h (to.first k d h l); others = to.others }

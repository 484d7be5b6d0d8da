-- Lists in which the same things are found.
use Rattle.std.proofs.Common.{◌≡◌, ℕ, Bool, true, false, ◌&&◌, List, [], ◌∷◌, ◌++◌, Option, Some, None, option_map, map, refl, ap, sym, ◌∙◌, ◌==◌, inl, inr, bytes_eq}
use Rattle.std.proofs.lemmas.Slice.Eq.{bytes_eq-Decides}
use Rattle.std.proofs.lemmas.Bool.{and_parts}
use Rattle.std.proofs.lemmas.Bool.Decides.{eqb_tells}
use Rattle.msg_dict.specs.Dictionary.{Named, Enumerated, number_named, name_of, enumerated}
use Rattle.msg_dict.specs.declared.row.Row.{Row}
use Rattle.msg_dict.specs.Table.{format_text, own_format, own_id, row_among, row_with}

-- ---- two lists, each with the entries of the other

abbrev pub is_number : Option ℕ → ℕ → Bool
is_number None n = false
is_number (Some m) n = m == n

abbrev pub is_name : Option (List ℕ) → List ℕ → Bool
is_name None name = false
is_name (Some m) name = bytes_eq m name

-- each entry of a list is found in the other by its name, and by its number
abbrev pub all_numbers : List Named → List Named → Bool
all_numbers [] ys = true
all_numbers (x ∷ xs) ys = is_number (number_named x.name ys) x.number && all_numbers xs ys

abbrev pub all_names : List Named → List Named → Bool
all_names [] ys = true
all_names (x ∷ xs) ys = is_name (name_of x.number ys) x.name && all_names xs ys

number_is : (o : Option ℕ) (n : ℕ) → is_number o n ≡ true → o ≡ Some n
number_is None n e = cc
number_is (Some m) n e = elim (eqb_tells m n) [ inl p ↦ ap (λ (k : ℕ). Some k) p.1 | inr p ↦ let f = rw p.0 at e in cc ]

name_is : (o : Option (List ℕ)) (n : List ℕ) → is_name o n ≡ true → o ≡ Some n
name_is None n e = cc
name_is (Some m) n e = ap (λ (k : List ℕ). Some k) ((bytes_eq-Decides m n).0 e)

found : (xs ys : List Named) (name : List ℕ) (k : ℕ) → all_numbers xs ys ≡ true → number_named name xs ≡ Some k → number_named name ys ≡ Some k
found [] ys name k a e = cc
found (x ∷ xs) ys name k a e =
    let parts = and_parts (is_number (number_named x.name ys) x.number) (all_numbers xs ys) a in
    by (bytes_eq x.name name) refl (number_is (number_named x.name ys) x.number parts.0) (found xs ys name k parts.1)
  where
    by : (b : Bool) → bytes_eq x.name name ≡ b → number_named x.name ys ≡ Some x.number → (number_named name xs ≡ Some k → number_named name ys ≡ Some k) → number_named name ys ≡ Some k
    by true t here rest = ap (λ n. number_named n ys) (sym ((bytes_eq-Decides x.name name).0 t)) ∙ here ∙ rw t at e
    by false t here rest = rest (rw t at e)

found_name : (xs ys : List Named) (id : ℕ) (name : List ℕ) → all_names xs ys ≡ true → name_of id xs ≡ Some name → name_of id ys ≡ Some name
found_name [] ys id name a e = cc
found_name (x ∷ xs) ys id name a e =
    let parts = and_parts (is_name (name_of x.number ys) x.name) (all_names xs ys) a in
    elim (eqb_tells x.number id) [
      | inl p ↦ ap (λ n. name_of n ys) (sym p.1) ∙ name_is (name_of x.number ys) x.name parts.0 ∙ rw p.0 at e
      | inr p ↦ found_name xs ys id name parts.1 (rw p.0 at e)
    ]

same_if : {A : Type 0} (o p : Option A) → ((k : A) → o ≡ Some k → p ≡ Some k) → ((k : A) → p ≡ Some k → o ≡ Some k) → o ≡ p
same_if None None f g = refl
same_if None (Some k) f g = g k refl
same_if (Some k) p f g = sym (f k refl)

pub same_numbers : (xs ys : List Named) → all_numbers xs ys ≡ true → all_numbers ys xs ≡ true → (name : List ℕ) → number_named name xs ≡ number_named name ys
same_numbers xs ys a b name = same_if (number_named name xs) (number_named name ys) (λ k. found xs ys name k a) (λ k. found ys xs name k b)

pub same_names : (xs ys : List Named) → all_names xs ys ≡ true → all_names ys xs ≡ true → (id : ℕ) → name_of id xs ≡ name_of id ys
same_names xs ys a b id = same_if (name_of id xs) (name_of id ys) (λ name. found_name xs ys id name a) (λ name. found_name ys xs id name b)

-- ---- the rows as entries

pub numbers_of_rows : (rs : List Row) (format : List ℕ) → number_named format (map own_format rs) ≡ option_map own_id (row_among format rs)
numbers_of_rows [] format = refl
numbers_of_rows (r ∷ rs) format = by (bytes_eq (format_text r) format) refl (numbers_of_rows rs format)
  where
    by : (b : Bool) → bytes_eq (format_text r) format ≡ b → number_named format (map own_format rs) ≡ option_map own_id (row_among format rs) → number_named format (map own_format (r ∷ rs)) ≡ option_map own_id (row_among format (r ∷ rs))
    by true t rest = rw t
    by false t rest = rw t rest

pub names_of_rows : (rs : List Row) (id : ℕ) → name_of id (map own_format rs) ≡ option_map format_text (row_with id rs)
names_of_rows [] id = refl
names_of_rows (r ∷ rs) id = by (own_id r == id) refl (names_of_rows rs id)
  where
    by : (b : Bool) → (own_id r == id) ≡ b → name_of id (map own_format rs) ≡ option_map format_text (row_with id rs) → name_of id (map own_format (r ∷ rs)) ≡ option_map format_text (row_with id (r ∷ rs))
    by true t rest = rw t
    by false t rest = rw t rest

-- ---- enumerations

abbrev pub within : List ℕ → Named → Enumerated
within e n = record { enumeration = e; name = n.name; number = n.number }

abbrev pub or_in : Option ℕ → Option ℕ → Option ℕ
or_in None rest = rest
or_in (Some n) rest = Some n

same_bytes : (e : List ℕ) → bytes_eq e e ≡ true
same_bytes e = (bytes_eq-Decides e e).1 refl

pub enumerated_within : (e name : List ℕ) (xs : List Named) (rest : List Enumerated) → enumerated e name (map (within e) xs ++ rest) ≡ or_in (number_named name xs) (enumerated e name rest)
enumerated_within e name [] rest = refl
enumerated_within e name (x ∷ xs) rest = by (bytes_eq x.name name) refl (enumerated_within e name xs rest)
  where
    by : (b : Bool) → bytes_eq x.name name ≡ b → enumerated e name (map (within e) xs ++ rest) ≡ or_in (number_named name xs) (enumerated e name rest) → enumerated e name (map (within e) (x ∷ xs) ++ rest) ≡ or_in (number_named name (x ∷ xs)) (enumerated e name rest)
    by true t later = rw (same_bytes e, t)
    by false t later = rw (same_bytes e, t) later

other_bytes : (f e : List ℕ) (b : Bool) → (f ≡ e → ⊥) → bytes_eq f e ≡ b → b ≡ false
other_bytes f e true other t = absurd (other ((bytes_eq-Decides f e).0 t))
other_bytes f e false other t = refl

pub enumerated_apart : (f e name : List ℕ) (xs : List Named) (rest : List Enumerated) → (f ≡ e → ⊥) → enumerated e name (map (within f) xs ++ rest) ≡ enumerated e name rest
enumerated_apart f e name [] rest other = refl
enumerated_apart f e name (x ∷ xs) rest other = rw (other_bytes f e (bytes_eq f e) other refl) (enumerated_apart f e name xs rest other)

-- What is found among the pins of a board's own dictionary.
use Rattle.std.proofs.Common.{◌≡◌, ◌≢◌, ℕ, suc, ◌+◌, ◌<◌, ◌≤◌, ◌^◌, Bool, true, false, List, [], ◌∷◌, length, slice_index_or, Option, Some, None, cond, option_and_then, map, refl, ap, sym, ◌∙◌, arith, AllPairs, bytes_eq, Ordering, Less, Equal, Greater, is_eq, nat_cmp}
use Rattle.std.specs.Ordering.{match_ordering}
use Rattle.std.specs.Cmp.Lexicographic.{slice_cmp}
use Rattle.std.specs.List.{position_from}
use Rattle.std.specs.Str.{is_utf8}
use Rattle.std.proofs.lemmas.Bool.{lt-ltb}
use Rattle.std.proofs.lemmas.Map.Text.{is_eq-slice_cmp}
use Rattle.std.proofs.lemmas.Slice.Eq.{bytes_eq-Decides}
use Rattle.serde_json.specs.Data.{Data, Members, no_members, member, put}
use Rattle.serde_json.specs.Find.{get_member, as_number, as_u64}
use Rattle.serde_json.proofs.Views.{get_member-put, get_member-put_other}
use Rattle.msg_dict.specs.Dictionary.{Named, Enumerated, number_named}
use Rattle.msg_dict.specs.Reading.{below_32, with_choice, with_constant, choices_of}
use Rattle.msg_dict.specs.Own.{whole, with_pin, with_pins}
use Rattle.msg_dict.proofs.Lookups.{within}

-- ---- the numbers of an enumeration as a list

abbrev pub small_of : Data → Option ℕ
small_of d = below_32 (option_and_then as_u64 (as_number d))

abbrev pub small_numbers : Members → List Named
small_numbers no_members = []
small_numbers (member name d ms) = with_constant name (small_of d) (small_numbers ms)

one_choice : (e name : List ℕ) (o : Option ℕ) (found : List Enumerated) (rest : List Named) → found ≡ map (within e) rest → with_choice e name o found ≡ map (within e) (with_constant name o rest)
one_choice e name None found rest same = same
one_choice e name (Some n) found rest same = ap (λ (l : List Enumerated). record { enumeration = e; name = name; number = n } ∷ l) same

pub choices_are : (e : List ℕ) (ms : Members) → choices_of e ms ≡ map (within e) (small_numbers ms)
choices_are e no_members = refl
choices_are e (member name d ms) = one_choice e name (small_of d) (choices_of e ms) (small_numbers ms) (choices_are e ms)

-- ---- members that are numbers

abbrev pub IsSmall : Data → Type 0
IsSmall d = (n : ℕ) × (d ≡ whole n) × (n < 2 ^ 32)

abbrev pub AreSmall : Members → Type 0
AreSmall no_members = Unit {0}
AreSmall (member name d ms) = IsSmall d × AreSmall ms

abbrev pub number_in : Option Data → Option ℕ
number_in None = None
number_in (Some d) = small_of d

small_whole : (n : ℕ) → n < 2 ^ 32 → small_of (whole n) ≡ Some n
small_whole n h = rw (lt-ltb n (2 ^ 32) h)

found_if : (o : Ordering) (rest this : Option Data) → match_ordering o rest this rest ≡ cond (is_eq o) this rest
found_if Less rest this = refl
found_if Equal rest this = refl
found_if Greater rest this = refl

turned : (a b : List ℕ) (t : Bool) → bytes_eq a b ≡ t → bytes_eq b a ≡ t
turned a b true e = (bytes_eq-Decides b a).1 (sym ((bytes_eq-Decides a b).0 e))
turned a b false e = by (bytes_eq b a) refl
  where
    by : (u : Bool) → bytes_eq b a ≡ u → bytes_eq b a ≡ false
    by true f = let g = (bytes_eq-Decides a b).1 (sym ((bytes_eq-Decides b a).0 f)) in cc
    by false f = f

pub number_there : (name : List ℕ) (ms : Members) → AreSmall ms → number_named name (small_numbers ms) ≡ number_in (get_member name ms)
number_there name no_members a = refl
number_there name (member l d ms) a =
    let small : small_of d ≡ Some a.0.0 = rw (a.0.1) (small_whole a.0.0 a.0.2) in
    by (bytes_eq l name) refl small (number_there name ms a.1)
  where
    by : (t : Bool) → bytes_eq l name ≡ t → small_of d ≡ Some a.0.0 → number_named name (small_numbers ms) ≡ number_in (get_member name ms) → number_named name (small_numbers (member l d ms)) ≡ number_in (get_member name (member l d ms))
    by true t small rest =
        let here = is_eq-slice_cmp name l ∙ turned l name true t in
        rw (small, t) (sym small ∙ ap number_in (sym (found_if (slice_cmp nat_cmp name l) (get_member name ms) (Some d) ∙ ap (λ b. cond b (Some d) (get_member name ms)) here)))
    by false t small rest =
        let here = is_eq-slice_cmp name l ∙ turned l name false t in
        rw (small, t) (rest ∙ ap number_in (sym (found_if (slice_cmp nat_cmp name l) (get_member name ms) (Some d) ∙ ap (λ b. cond b (Some d) (get_member name ms)) here)))

by_order : (o : Ordering) (a b c : Members) → AreSmall a → AreSmall b → AreSmall c → AreSmall (match_ordering o a b c)
by_order Less a b c x y z = x
by_order Equal a b c x y z = y
by_order Greater a b c x y z = z

put_small : (k : List ℕ) (d : Data) (ms : Members) → IsSmall d → AreSmall ms → AreSmall (put k d ms)
put_small k d no_members s a = (s, tt)
put_small k d (member l x ms) s a =
    by_order (slice_cmp nat_cmp k l) (member k d (member l x ms)) (member l d ms) (member l x (put k d ms)) (s, a) (s, a.1) (a.0, put_small k d ms s a.1)

pin_small : (text : Bool) (p : List ℕ) (n : ℕ) (ms : Members) → n < 2 ^ 32 → AreSmall ms → AreSmall (with_pin text p n ms)
pin_small true p n ms h a = put_small p (whole n) ms (n, refl, h) a
pin_small false p n ms h a = a

pub pins_small : (n : ℕ) (ps : List (List ℕ)) (ms : Members) → n + length ps ≤ 2 ^ 32 → AreSmall ms → AreSmall (with_pins n ps ms)
pins_small n [] ms h a = a
pins_small n (p ∷ ps) ms h a = pins_small (n + 1) ps (with_pin (is_utf8 p) p n ms) (omega (arith, h)) (pin_small (is_utf8 p) p n ms (omega (arith, h)) a)

-- ---- the place of a pin

abbrev pub place_of : List ℕ → ℕ → List (List ℕ) → Option ℕ
place_of name n ps = position_from (λ pin. bytes_eq pin name) n ps

abbrev pub placed : Option ℕ → Option Data → Option Data
placed None old = old
placed (Some n) old = Some (whole n)

none_there : (name : List ℕ) (n : ℕ) (ps : List (List ℕ)) → ((j : ℕ) (d : List ℕ) → j < length ps → name ≢ slice_index_or ps j d) → place_of name n ps ≡ None
none_there name n [] h = refl
none_there name n (p ∷ ps) h = by (bytes_eq p name) refl (none_there name (n + 1) ps (λ j d k. h (suc j) d (omega (arith, k))))
  where
    by : (t : Bool) → bytes_eq p name ≡ t → place_of name (n + 1) ps ≡ None → place_of name n (p ∷ ps) ≡ None
    by true t rest = absurd (h 0 [] (omega arith) (sym ((bytes_eq-Decides p name).0 t)))
    by false t rest = rw t rest

other_of : (a b : List ℕ) → bytes_eq a b ≡ false → b ≡ a → ⊥
other_of a b e same = let f = (bytes_eq-Decides a b).1 (sym same) in cc

kept : (text : Bool) (name p : List ℕ) (n : ℕ) (ms : Members) → (name ≡ p → ⊥) → get_member name (with_pin text p n ms) ≡ get_member name ms
kept true name p n ms other = get_member-put_other name p (whole n) ms other
kept false name p n ms other = refl

pub pins_at : (name : List ℕ) (n : ℕ) (ps : List (List ℕ)) (ms : Members) → is_utf8 name ≡ true → AllPairs (λ p q. p ≢ q) ps
    → get_member name (with_pins n ps ms) ≡ placed (place_of name n ps) (get_member name ms)
pins_at name n [] ms u all = refl
pins_at name n (p ∷ ps) ms u all =
    by (bytes_eq p name) refl (pins_at name (n + 1) ps (with_pin (is_utf8 p) p n ms) u (λ i j d h k. all (suc i) (suc j) d (omega (arith, h)) (omega (arith, k))))
  where
    by : (t : Bool) → bytes_eq p name ≡ t → get_member name (with_pins n (p ∷ ps) ms) ≡ placed (place_of name (n + 1) ps) (get_member name (with_pin (is_utf8 p) p n ms))
        → get_member name (with_pins n (p ∷ ps) ms) ≡ placed (place_of name n (p ∷ ps)) (get_member name ms)
    by true t more =
        let same = (bytes_eq-Decides p name).0 t in
        let none = none_there name (n + 1) ps (λ j d k e. all 0 (suc j) d (omega arith) (omega (arith, k)) (same ∙ e)) in
        let text : is_utf8 p ≡ true = ap is_utf8 same ∙ u in
        let put_there : get_member name (put p (whole n) ms) ≡ Some (whole n) = ap (λ q. get_member q (put p (whole n) ms)) (sym same) ∙ get_member-put p (whole n) ms in
        let here : get_member name (with_pin (is_utf8 p) p n ms) ≡ Some (whole n) = rw text put_there in
        more ∙ ap (λ o. placed o (get_member name (with_pin (is_utf8 p) p n ms))) none ∙ here ∙ rw t
    by false t more = more ∙ ap (placed (place_of name (n + 1) ps)) (kept (is_utf8 p) name p n ms (other_of p name t)) ∙ rw t

pub not_text : (name : List ℕ) (n : ℕ) (ps : List (List ℕ)) (ms : Members) → is_utf8 name ≡ false → get_member name (with_pins n ps ms) ≡ get_member name ms
not_text name n [] ms u = refl
not_text name n (p ∷ ps) ms u = not_text name (n + 1) ps (with_pin (is_utf8 p) p n ms) u ∙ by (is_utf8 p) refl
  where
    by : (t : Bool) → is_utf8 p ≡ t → get_member name (with_pin (is_utf8 p) p n ms) ≡ get_member name ms
    by true t = rw t (get_member-put_other name p (whole n) ms (λ e. let f = ap is_utf8 e in cc))
    by false t = rw t

placed_small : (name : List ℕ) (n : ℕ) (ps : List (List ℕ)) → n + length ps ≤ 2 ^ 32 → number_in (placed (place_of name n ps) None) ≡ place_of name n ps
placed_small name n [] h = refl
placed_small name n (p ∷ ps) h = by (bytes_eq p name) refl (placed_small name (n + 1) ps (omega (arith, h)))
  where
    by : (t : Bool) → bytes_eq p name ≡ t → number_in (placed (place_of name (n + 1) ps) None) ≡ place_of name (n + 1) ps → number_in (placed (place_of name n (p ∷ ps)) None) ≡ place_of name n (p ∷ ps)
    by true t rest = rw t (small_whole n (omega (arith, h)))
    by false t rest = rw t rest

-- the number of a pin in a list of pins that differ
pub pin_there : (name : List ℕ) (ps : List (List ℕ)) → length ps ≤ 2 ^ 32 → AllPairs (λ p q. p ≢ q) ps → is_utf8 name ≡ true
    → number_named name (small_numbers (with_pins 0 ps no_members)) ≡ place_of name 0 ps
pin_there name ps h all u =
    number_there name (with_pins 0 ps no_members) (pins_small 0 ps no_members (omega (arith, h)) tt) ∙ ap number_in (pins_at name 0 ps no_members u all) ∙ placed_small name 0 ps (omega (arith, h))

pub no_pin_there : (name : List ℕ) (ps : List (List ℕ)) → length ps ≤ 2 ^ 32 → is_utf8 name ≡ false → number_named name (small_numbers (with_pins 0 ps no_members)) ≡ None
no_pin_there name ps h u =
    number_there name (with_pins 0 ps no_members) (pins_small 0 ps no_members (omega (arith, h)) tt) ∙ ap number_in (not_text name 0 ps no_members u)

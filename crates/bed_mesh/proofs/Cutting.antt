-- The lines that a move crosses, one by one.
use Rattle.std.proofs.Common.{◌≡◌, ◌≢◌, ◌∙◌, ◌==◌, ℕ, zero, suc, ◌+◌, ◌-◌, ◌*◌, ◌/◌, ◌%◌, ◌<◌, ◌≤◌, Bool, true, false, cond, List, [], ◌∷◌, ◌++◌, length, refl, ap, sym, subst, arith, map, Option, Some, None, min, inl, inr, append_assoc}
use Rattle.std.specs.Prelude.{ℤ, pos, negsuc, ◌+ℤ◌, ◌-ℤ◌, ◌&&◌, unsigned_abs, nat_lt}
use Rattle.std.proofs.lemmas.Bool.Decides.{nat_tests}
use Rattle.std.proofs.lemmas.Int.{ints}
use Rattle.std.proofs.lemmas.Bool.{cases_lt}
use Rattle.std.specs.Int.Signed.{lt_z}
use Rattle.std.proofs.Math.Nat.{mul-lt-mul_of_pos_right}
use Rattle.bed_mesh.specs.declared.mesh.Grid.{Grid}
use Rattle.bed_mesh.specs.Cuts.{between, distances, placed, rungs, scaled, united}
use Rattle.bed_mesh.specs.Lines.{first_number, least, passed, IsFirstNumber}

-- a line that isn't ahead of the start is not crossed
at_first : (span step count b : ℕ) → between span (rungs (pos 0 -ℤ pos b) step (suc count)) ≡ between span (rungs ((pos 0 -ℤ pos b) +ℤ pos step) step count)
at_first span step count zero = refl
at_first span step count (suc b) = let e : pos 0 -ℤ pos (suc b) ≡ negsuc b = omega (arith, ints) in rw e refl

same_rungs : (span step count : ℕ) (y z : ℤ) → y ≡ z → between span (rungs y step count) ≡ between span (rungs z step count)
same_rungs span step count y z e = ap (λ (x : ℤ). between span (rungs x step count)) e

-- lines that aren't ahead are skipped
pub skipped : (span step : ℕ) (q r : ℕ) (count : ℕ) → r < step → between span (rungs (pos 0 -ℤ pos (q * step + r)) step count) ≡ between span (rungs (pos (step - r)) step (count - (q + 1)))
skipped span step q r zero h = let e : 0 - (q + 1) ≡ 0 = omega arith in rw e refl
skipped span step zero r (suc count) h =
    let e : suc count - (0 + 1) ≡ count = omega arith in
    let d : 0 * step + r ≡ r = omega arith in
    let f : (pos 0 -ℤ pos r) +ℤ pos step ≡ pos (step - r) = omega (arith, ints) in
    rw (e, d) (at_first span step count r ∙ same_rungs span step count _ _ f)
skipped span step (suc q) r (suc count) h =
    let e : suc count - (suc q + 1) ≡ count - (q + 1) = omega arith in
    let f : (pos 0 -ℤ pos (suc q * step + r)) +ℤ pos step ≡ pos 0 -ℤ pos (q * step + r) = (let g : suc q * step + r ≡ step + (q * step + r) = omega arith in rw g (omega (arith, ints))) in
    rw e (at_first span step count (suc q * step + r) ∙ same_rungs span step count _ _ f ∙ skipped span step q r count h)

-- a distance that isn't above 0
pub down_by : (z : ℤ) (n : ℕ) → lt_z (pos 0) z ≡ false → n ≡ unsigned_abs z → z ≡ pos 0 -ℤ pos n
down_by z n h e = grind (arith, ints)

pub same_span : (n : ℕ) (a b x y : ℤ) → n ≡ unsigned_abs (x -ℤ y) → x ≡ a → y ≡ b → n ≡ unsigned_abs (a -ℤ b)
same_span n a b x y h e f = rw (h, e, f) refl

-- the lines ahead of a start that isn't before the first of them
pub behind_start : (parts span other step count size left : ℕ) (ahead : ℤ) (ds : List ℤ) → ds ≡ rungs ahead step count → ahead ≡ pos 0 -ℤ pos size → 0 < step → left ≡ count - (size / step + 1) → other ≡ span
    → scaled parts (between other (rungs (pos (step - size % step)) step left)) ≡ scaled parts (between span ds)
behind_start parts span other step count size left ahead ds ds_are ahead_is some left_is span_is =
    let below : size % step < step = omega arith in
    let e : size ≡ (size / step) * step + size % step = omega arith in
    rw (span_is, ds_are, ahead_is, left_is) (sym (ap (scaled parts) (ap (λ (n : ℕ). between span (rungs (pos 0 -ℤ pos n) step count)) e ∙ skipped span step (size / step) (size % step) count below)))

-- behind a move's end there is nothing to cross
pub over : (span step count d : ℕ) → span ≤ d → between span (rungs (pos d) step count) ≡ []
over span step zero d h = refl
over span step (suc count) d h =
    let no : nat_lt d span ≡ false = grind (arith, nat_tests) in
    go (nat_lt 0 d) no (over span step count (d + step) (omega arith))
  where
    go : (b : Bool) → nat_lt d span ≡ false → between span (rungs (pos (d + step)) step count) ≡ [] → cond (b && nat_lt d span) (d ∷ between span (rungs (pos (d + step)) step count)) (between span (rungs (pos (d + step)) step count)) ≡ []
    go true e f = rw e f
    go false e f = f

by_lt : {P : Type 0} (m n : ℕ) → (m < n → P) → (n ≤ m → P) → P
by_lt {P} m n f g = elim (cases_lt m n) as (λ _. P) [ inl h ↦ f h | inr h ↦ g h ]

-- all numbers are above one
abbrev pub AreAbove : ℕ → List ℕ → Type 0
AreAbove low [] = Unit {0}
AreAbove low (u ∷ us) = (low < u) × AreAbove low us

-- numbers in rising order
abbrev pub Rise : List ℕ → Type 0
Rise [] = Unit {0}
Rise (u ∷ us) = AreAbove u us × Rise us

higher : (low high : ℕ) (us : List ℕ) → low ≤ high → AreAbove high us → AreAbove low us
higher low high [] h a = tt
higher low high (u ∷ us) h a = (omega (arith, a.0), higher low high us h a.1)

-- the lines that are still ahead
crossed_one : (span step count d : ℕ) → 0 < d → d < span → between span (rungs (pos d) step (suc count)) ≡ d ∷ between span (rungs (pos (d + step)) step count)
crossed_one span step count d some inside =
    let a : nat_lt 0 d ≡ true = grind (arith, nat_tests) in
    let b : nat_lt d span ≡ true = grind (arith, nat_tests) in
    rw (a, b) refl

-- the next line, where there is one
pub none_left : (parts span step left d : ℕ) → left ≤ 0 → first_number (scaled parts (between span (rungs (pos d) step left))) ≡ None
none_left parts span step zero d h = refl
none_left parts span step (suc left) d h = absurd (omega arith)

pub none_more : (parts span step left d : ℕ) → span ≤ d → first_number (scaled parts (between span (rungs (pos d) step left))) ≡ None
none_more parts span step left d h = ap (λ (l : List ℕ). first_number (scaled parts l)) (over span step left d h)

pub one_more : (parts span step left d : ℕ) → 0 < left → 0 < d → d < span → scaled parts (between span (rungs (pos d) step left)) ≡ d * parts ∷ scaled parts (between span (rungs (pos (d + step)) step (left - 1)))
one_more parts span step zero d some ahead inside = absurd (omega arith)
one_more parts span step (suc left) d some ahead inside = let e : suc left - 1 ≡ left = omega arith in rw e (ap (scaled parts) (crossed_one span step left d ahead inside))

pub first_more : (parts span step left d : ℕ) → 0 < left → 0 < d → d < span → first_number (scaled parts (between span (rungs (pos d) step left))) ≡ Some (d * parts)
first_more parts span step left d some ahead inside = ap first_number (one_more parts span step left d some ahead inside)

-- they rise
above_ahead : (parts span step left low d : ℕ) → 0 < parts → low < d → AreAbove (low * parts) (scaled parts (between span (rungs (pos d) step left)))
above_ahead parts span step zero low d p h = tt
above_ahead parts span step (suc left) low d p h =
    by_lt d span
    (λ inside. let e = crossed_one span step left d (omega arith) inside in
    let m : low * parts < d * parts = mul-lt-mul_of_pos_right h p in
    subst (λ (l : List ℕ). AreAbove (low * parts) (scaled parts l)) (sym e) (m, above_ahead parts span step left low (d + step) p (omega arith)))
    (λ past. subst (λ (l : List ℕ). AreAbove (low * parts) (scaled parts l)) (sym (over span step (suc left) d past)) tt)

pub rising : (parts span step left d : ℕ) → 0 < parts → 0 < step → 0 < d → Rise (scaled parts (between span (rungs (pos d) step left)))
rising parts span step zero d p s h = tt
rising parts span step (suc left) d p s h =
    by_lt d span
    (λ inside. let e = crossed_one span step left d h inside in
    subst (λ (l : List ℕ). Rise (scaled parts l)) (sym e) (above_ahead parts span step left d (d + step) p (omega arith), rising parts span step left (d + step) p s (omega arith)))
    (λ past. subst (λ (l : List ℕ). Rise (scaled parts l)) (sym (over span step (suc left) d past)) tt)

-- a number below all others stands first
placed_first : (t : ℕ) (us : List ℕ) → AreAbove t us → placed t us ≡ t ∷ us
placed_first t [] a = refl
placed_first t (u ∷ us) a = let h : t < u = a.0 in let e : nat_lt t u ≡ true = grind (arith, nat_tests) in rw e refl

placed_behind : (t u : ℕ) (us : List ℕ) → u < t → placed t (u ∷ us) ≡ u ∷ placed t us
placed_behind t u us h =
    let e : nat_lt t u ≡ false = grind (arith, nat_tests) in
    let f : nat_lt u t ≡ true = grind (arith, nat_tests) in
    rw (e, f) refl

placed_there : (t : ℕ) (us : List ℕ) → placed t (t ∷ us) ≡ t ∷ us
placed_there t us = let e : nat_lt t t ≡ false = grind (arith, nat_tests) in rw e refl

above_placed : (low t : ℕ) (us : List ℕ) → low < t → AreAbove low us → AreAbove low (placed t us)
above_placed low t [] h a = (h, tt)
above_placed low t (u ∷ us) h a = go (nat_lt t u) (nat_lt u t) (above_placed low t us h a.1)
  where
    go : (b d : Bool) → AreAbove low (placed t us) → AreAbove low (cond b (t ∷ u ∷ us) (cond d (u ∷ placed t us) (u ∷ us)))
    go true d more = (h, a)
    go false true more = (a.0, more)
    go false false more = a

above_united : (low : ℕ) (ts us : List ℕ) → AreAbove low ts → AreAbove low us → AreAbove low (united ts us)
above_united low [] us a b = b
above_united low (t ∷ ts) us a b = above_placed low t (united ts us) a.0 (above_united low ts us a.1 b)

-- a number of the second list that is below all of the first stands first
united_second : (u : ℕ) (ts us : List ℕ) → AreAbove u ts → united ts (u ∷ us) ≡ u ∷ united ts us
united_second u [] us a = refl
united_second u (t ∷ ts) us a = ap (placed t) (united_second u ts us a.1) ∙ placed_behind t u (united ts us) a.0

united_first : (t : ℕ) (ts us : List ℕ) → AreAbove t ts → AreAbove t us → united (t ∷ ts) us ≡ t ∷ united ts us
united_first t ts us a b = placed_first t (united ts us) (above_united t ts us a b)

united_both : (t : ℕ) (ts us : List ℕ) → AreAbove t ts → united (t ∷ ts) (t ∷ us) ≡ t ∷ united ts us
united_both t ts us a = ap (placed t) (united_second t ts us a) ∙ placed_there t (united ts us)

same_passed : (n : ℕ) (us : List ℕ) → passed n (n ∷ us) ≡ us
same_passed n us = let e : (n == n) ≡ true = grind (arith, nat_tests) in rw e refl

not_passed : (n u : ℕ) (us : List ℕ) → n < u → passed n (u ∷ us) ≡ u ∷ us
not_passed n u us h = let e : (u == n) ≡ false = grind (arith, nat_tests) in rw e refl

-- the first of both lists, and both without it
abbrev pub passed_if : Option ℕ → List ℕ → List ℕ
passed_if None us = us
passed_if (Some n) us = passed n us

pub first_of_both : (ts us : List ℕ) → Rise ts → Rise us → IsFirstNumber (least (first_number ts) (first_number us)) (united ts us) (united (passed_if (least (first_number ts) (first_number us)) ts) (passed_if (least (first_number ts) (first_number us)) us))
first_of_both [] [] a b = refl
first_of_both [] (u ∷ us) a b = rw (same_passed u us) refl
first_of_both (t ∷ ts) [] a b = rw (same_passed t ts) (united_first t ts [] a.0 tt)
first_of_both (t ∷ ts) (u ∷ us) a b =
    by_lt t u
    (λ less. let m : min t u ≡ t = omega arith in rw m (subst (λ (l : List ℕ × List ℕ). united (t ∷ ts) (u ∷ us) ≡ t ∷ united l.0 l.1) (ap (λ (l : List ℕ). (l, u ∷ us)) (sym (same_passed t ts)) ∙ ap (λ (l : List ℕ). (passed t (t ∷ ts), l)) (sym (not_passed t u us less))) (united_first t ts (u ∷ us) a.0 (less, higher t u us (omega arith) b.0))))
    (λ more. by_lt u t
    (λ less. let m : min t u ≡ u = omega arith in rw m (subst (λ (l : List ℕ × List ℕ). united (t ∷ ts) (u ∷ us) ≡ u ∷ united l.0 l.1) (ap (λ (l : List ℕ). (l, us)) (sym (not_passed u t ts less)) ∙ ap (λ (l : List ℕ). (passed u (t ∷ ts), l)) (sym (same_passed u us))) (united_second u (t ∷ ts) us (less, higher u t ts (omega arith) a.0))))
    (λ no_less. let e : u ≡ t = omega arith in let m : min t u ≡ t = omega arith in rw m (subst (λ (v : ℕ). united (t ∷ ts) (v ∷ us) ≡ t ∷ united (passed t (t ∷ ts)) (passed t (v ∷ us))) (sym e) (rw (same_passed t ts, same_passed t us) (united_both t ts us a.0)))))

pub distances_at : (g : Grid) (a b x y : ℤ) (l : List ℤ) → distances g x y ≡ l → x ≡ a → y ≡ b → distances g a b ≡ l
distances_at g a b x y l h e f = subst (λ (z : ℤ). distances g a z ≡ l) f (subst (λ (z : ℤ). distances g z y ≡ l) e h)

abbrev get_some : ℕ → Option ℕ → ℕ
get_some other None = other
get_some other (Some n) = n

abbrev is_there : Option ℕ → Type 0
is_there None = Unit {0}
is_there (Some n) = ⊥

-- the line that is gone past
pub gone_past : (parts span step left d number : ℕ) (next : Option ℕ) → 0 < d → next ≡ first_number (scaled parts (between span (rungs (pos d) step left))) → next ≡ Some number
    → (scaled parts (between span (rungs (pos (d + step)) step (left - 1))) ≡ passed number (scaled parts (between span (rungs (pos d) step left)))) × (0 < left)
gone_past parts span step left d number next ahead is it =
    by_lt 0 left
    (λ some. by_lt d span
    (λ inside. let e = one_more parts span step left d some ahead inside in
    let n : Some (d * parts) ≡ Some number = sym (first_more parts span step left d some ahead inside) ∙ sym is ∙ it in
    (sym (ap (passed number) e ∙ first_passed (d * parts) number _ n), some))
    (λ past. none_such (sym (none_more parts span step left d past) ∙ sym is ∙ it)))
    (λ none. none_such (sym (none_left parts span step left d none) ∙ sym is ∙ it))
  where
    first_passed : (u n : ℕ) (us : List ℕ) → Some u ≡ Some n → passed n (u ∷ us) ≡ us
    first_passed u n us e = let f : (u == n) ≡ true = (let g : u ≡ n = ap (get_some u) e in grind (arith, nat_tests)) in rw f refl

    none_such : {X : Type 0} → None ≡ Some number → X
    none_such e = absurd (subst (λ (o : Option ℕ). is_there o) e tt)

at_some : (o : Option ℕ) (n : ℕ) (ts us : List ℕ) → o ≡ Some n → IsFirstNumber o (united ts us) (united (passed_if o ts) (passed_if o us)) → united ts us ≡ n ∷ united (passed n ts) (passed n us)
at_some o n ts us e = subst (λ (p : Option ℕ). IsFirstNumber p (united ts us) (united (passed_if p ts) (passed_if p us)) → united ts us ≡ n ∷ united (passed n ts) (passed n us)) (sym e) (λ h. h)

-- the next of both lists is gone past
pub first_gone : (ts us ts' us' : List ℕ) (x y o : Option ℕ) (n : ℕ) → Rise ts → Rise us → x ≡ first_number ts → y ≡ first_number us → o ≡ least x y → o ≡ Some n → ts' ≡ passed n ts → us' ≡ passed n us → united ts us ≡ n ∷ united ts' us'
first_gone ts us ts' us' x y o n a b xs ys os is t u =
    let l : least (first_number ts) (first_number us) ≡ Some n = ap (λ (z : Option ℕ). least z (first_number us)) (sym xs) ∙ ap (least x) (sym ys) ∙ sym os ∙ is in
    rw (t, u) (at_some (least (first_number ts) (first_number us)) n ts us l (first_of_both ts us a b))

-- one cut more
pub cut_more : (f : ℕ → List ℤ) (places new all : List (List ℤ)) (place : List ℤ) (n : ℕ) (ns rest : List ℕ) → new ≡ places ++ place ∷ [] → place ≡ f n → ns ≡ n ∷ rest → places ++ map f ns ≡ all → new ++ map f rest ≡ all
cut_more f places new all place n ns rest add is first all_is = rw (add, is) (append_assoc places (f n ∷ []) (map f rest) ∙ ap (λ (l : List ℕ). places ++ map f l) (sym first) ∙ all_is)

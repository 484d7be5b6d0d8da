-- Lemmas on the entries of a line and the blocks under way.
use Rattle.std.proofs.Common.{◌≡◌, ◌⊎◌, ℕ, suc, ◌+◌, ◌<◌, ◌≤◌, List, [], ◌∷◌, ◌++◌, length, drop, take, get_or, refl, ap, sym, ◌∙◌, arith, inl, inr, true, false, subst}
use Rattle.std.specs.Prelude.{Option, Some, None, Bool, if◌then◌else◌, ◌&&◌, ◌==◌}
use Rattle.std.proofs.lemmas.Bool.Decides.{leb_tells, eqb_tells}
use Rattle.std.proofs.lemmas.Bool.{false≢true}
use Rattle.std.proofs.lemmas.List.{take_more}
use Rattle.wire_scene.specs.declared.scene.Entry.{Entry}
use Rattle.wire_scene.specs.declared.scene.Deed.TheVariants.{Drop, Repeat, Delay, Garble}
use Rattle.wire_scene.specs.declared.scene.Way.{Way}
use Rattle.wire_scene.specs.declared.scene.Way.TheVariants.{Down, Up}
use Rattle.wire_scene.specs.declared.wire.Underway.{Underway}
use Rattle.wire_scene.specs.declared.wire.Fate.{Fate}
use Rattle.wire_scene.specs.declared.wire.Fate.TheVariants.{Lost, Last, Stays, Garbled}
use Rattle.wire_scene.specs.Scenes.{NumbersRise}
use Rattle.wire_scene.specs.Wire.{AreFoundOut, Copy, IsOldest, RiseFrom, entries_behind, changed, comes_of, deed_of, fate_of, dues_left, dues_of, entries_of, is_oldest_due, copies_left, copies_left_by, same_time, same_way}
use Rattle.wire_scene.specs.declared.scene.Deed.{Deed}
use Rattle.block_frame.specs.Spoils.{is_found_out}
use Rattle.wire_scene.specs.WireViews.{copies_of}

-- entries from a number on have none for a block before it
pub none_before : (n m : ℕ) (es : List Entry) → n < m → RiseFrom m es → deed_of n es ≡ None
none_before n m [] h r = refl
none_before n m (e ∷ es) h r =
    elim (eqb_tells e.number n) [
      | inl p ↦ absurd (omega arith)
      | inr p ↦ rw p.0 (none_before n (e.number + 1) es (omega arith) r.1)
    ]

-- and all are for blocks behind it
pub all_behind : (n m : ℕ) (es : List Entry) → n < m → RiseFrom m es → entries_behind n es ≡ es
all_behind n m [] h r = refl
all_behind n m (e ∷ es) h r =
    elim (leb_tells (suc n) e.number) [
      | inl p ↦ rw p.0 (ap (λ t. e ∷ t) (all_behind n (e.number + 1) es (omega arith) r.1))
      | inr p ↦ absurd (omega arith)
    ]

-- where the first entry isn't that of the next block, none is
pub not_first : (n : ℕ) (es : List Entry) (x : Entry) → RiseFrom n es → 0 < length es → x ≡ get_or es 0 x → (x.number ≡ n → ⊥) → deed_of n es ≡ None
not_first n [] x r h e isnt = refl
not_first n (f ∷ es) x r h e isnt =
    elim (eqb_tells f.number n) [
      | inl p ↦ absurd (isnt (ap (λ (y : Entry). y.number) e ∙ p.1))
      | inr p ↦ rw p.0 (none_before n (f.number + 1) es (omega arith) r.1)
    ]

pub first_dropped : (n : ℕ) (es : List Entry) (x : Entry) → RiseFrom n es → 0 < length es → x ≡ get_or es 0 x → x.number ≡ n → drop 1 es ≡ entries_behind n es
first_dropped n [] x r h e same = refl
first_dropped n (f ∷ es) x r h e same =
    let is : f.number ≡ n = sym (ap (λ (y : Entry). y.number) e) ∙ same in
    elim (leb_tells (suc n) f.number) [
      | inl p ↦ absurd (omega arith)
      | inr p ↦ rw p.0 (sym (all_behind n (f.number + 1) es (omega arith) r.1))
    ]

pub first_kept : (n : ℕ) (es : List Entry) (x : Entry) → RiseFrom n es → 0 < length es → x ≡ get_or es 0 x → (x.number ≡ n → ⊥) → es ≡ entries_behind n es
first_kept n [] x r h e isnt = refl
first_kept n (f ∷ es) x r h e isnt =
    elim (eqb_tells f.number n) [
      | inl p ↦ absurd (isnt (ap (λ (y : Entry). y.number) e ∙ p.1))
      | inr p ↦ sym (all_behind n (n + 1) (f ∷ es) (omega arith) (omega arith, r.1))
    ]

-- whether two ways are one
way_tells : (a b : Way) → ((same_way a b ≡ true) × (a ≡ b)) ⊎ (same_way a b ≡ false)
way_tells Down Down = inl (refl, refl)
way_tells Up Up = inl (refl, refl)
way_tells Down Up = inr refl
way_tells Up Down = inr refl

-- and two times
time_tells : (a b : Bool) → ((same_time a b ≡ true) × (a ≡ b)) ⊎ (same_time a b ≡ false)
time_tells true true = inl (refl, refl)
time_tells true false = inr refl
time_tells false true = inr refl
time_tells false false = inl (refl, refl)

-- the entries of a line, all from a number on
rise_on : (board : ℕ) (way : Way) (time : Bool) (n : ℕ) (es : List Entry)
    → ((i : ℕ) (d : Entry) → i < length es → (get_or es i d).board ≡ board → (get_or es i d).way ≡ way → (get_or es i d).connecting ≡ time → n ≤ (get_or es i d).number)
    → NumbersRise es → RiseFrom n (entries_of board way time es)
rise_on board way time n [] low rise = tt
rise_on board way time n (e ∷ es) low rise =
    let rest : NumbersRise es = λ i j d h l. rise (suc i) (suc j) d (omega arith) (omega arith) in
    let others = rise_on board way time n es (λ i d h b w t. low (suc i) d (omega arith) b w t) rest in
    elim (eqb_tells e.board board) [
      | inl p ↦ elim (way_tells e.way way) [
        | inl q ↦ elim (time_tells e.connecting time) [
          | inl r ↦ rw (p.0, q.0, r.0) (
            low 0 e (omega arith) p.1 q.1 r.1,
            rise_on board way time (e.number + 1) es (λ i d h b w t. let above = rise 0 (suc i) d (omega arith) (omega arith) (p.1 ∙ sym b) (q.1 ∙ sym w) (r.1 ∙ sym t) in omega (arith, above)) rest,
          )
          | inr r ↦ rw (p.0, q.0, r) others
        ]
        | inr q ↦ rw (p.0, q) others
      ]
      | inr p ↦ rw p.0 others
    ]

-- the numbers of a scene's entries rise on each line
pub rises : (board : ℕ) (way : Way) (time : Bool) (es : List Entry) → NumbersRise es → RiseFrom 0 (entries_of board way time es)
rises board way time es rise = rise_on board way time 0 es (λ i d h b w t. omega arith) rise

pub no_copies : (us : List Underway) → length us ≡ 0 → copies_of us ≡ []
no_copies [] h = refl
no_copies (u ∷ us) h = absurd (omega arith)

pub some_copies : (us : List Underway) → copies_of us ≡ [] → length us ≡ 0
some_copies [] h = refl
some_copies (u ∷ us) h = absurd (omega (arith, ap length h))

joined : (on : Bool) (f : Entry) (xs ys zs : List Entry) → zs ≡ xs ++ ys → (if on then f ∷ zs else zs) ≡ (if on then f ∷ xs else xs) ++ ys
joined true f xs ys zs e = ap (λ t. f ∷ t) e
joined false f xs ys zs e = e

-- the entries of a line among these and one more
pub entries_push : (board : ℕ) (way : Way) (time : Bool) (es : List Entry) (e : Entry) → entries_of board way time (es ++ e ∷ []) ≡ entries_of board way time es ++ entries_of board way time (e ∷ [])
entries_push board way time [] e = refl
entries_push board way time (f ∷ es) e = joined ((f.board == board) && same_way f.way way && same_time f.connecting time) f _ _ _ (entries_push board way time es e)

-- what a place beyond a list's end reads as
abbrev pub no_entry : Entry
no_entry = record { board = 0; way = Down; connecting = false; number = 0; deed = Drop }

pub one_more : (board : ℕ) (way : Way) (time : Bool) (es : List Entry) (i : ℕ) (old found : List Entry) → i < length es → old ≡ entries_of board way time (take i es)
    → found ≡ old ++ entries_of board way time (get_or es i no_entry ∷ []) → found ≡ entries_of board way time (take (i + 1) es)
one_more board way time es i old found h before now =
    let last = get_or es i no_entry ∷ [] in
    now ∙ ap (λ t. t ++ entries_of board way time last) before ∙ sym (entries_push board way time (take i es) (get_or es i no_entry)) ∙ ap (λ t. entries_of board way time t) (sym (take_more es i no_entry h))

pub copies_push : (us : List Underway) (u : Underway) → copies_of (us ++ u ∷ []) ≡ copies_of us ++ record { bytes = u.block.items; comes = comes_of u.deed u.block.items; due = u.due; fate = u.fate } ∷ []
copies_push [] u = refl
copies_push (v ∷ us) u = ap (λ cs. record { bytes = v.block.items; comes = comes_of v.deed v.block.items; due = v.due; fate = v.fate } ∷ cs) (copies_push us u)

fewer_by : (fate : Fate) (c : Copy) (cs : List Copy) → dues_left (copies_left_by fate c cs) + 1 ≡ dues_of fate + dues_left cs
fewer_by Lost c cs = omega arith
fewer_by Last c cs = omega arith
fewer_by Stays c cs = omega arith
fewer_by Garbled c cs = omega arith

pub one_fewer : (turn : ℕ) (cs : List Copy) → is_oldest_due turn cs ≡ true → dues_left (copies_left cs) + 1 ≡ dues_left cs
one_fewer turn [] due = absurd (false≢true due)
one_fewer turn (c ∷ cs) due = fewer_by c.fate c cs

-- garbled blocks are found out
pub found_push : (cs : List Copy) (c : Copy) → AreFoundOut cs → (c.fate ≡ Garbled → is_found_out c.comes ≡ true) → AreFoundOut (cs ++ c ∷ [])
found_push [] c all one = (one, tt)
found_push (d ∷ cs) c all one = (all.0, found_push cs c all.1 one)

found_by : (fate : Fate) (c : Copy) (cs : List Copy) → AreFoundOut cs → AreFoundOut (copies_left_by fate c cs)
found_by Lost c cs all = all
found_by Last c cs all = all
found_by Stays c cs all = (λ e. cc, all)
found_by Garbled c cs all = all

pub found_left : (cs : List Copy) → AreFoundOut cs → AreFoundOut (copies_left cs)
found_left [] all = tt
found_left (c ∷ cs) all = found_by c.fate c cs all.1

pub oldest_found : (cs : List Copy) (bytes : List ℕ) (fate : Fate) → AreFoundOut cs → IsOldest cs bytes fate → fate ≡ Garbled → is_found_out bytes ≡ true
oldest_found [] bytes fate all is e = absurd is
oldest_found (c ∷ cs) bytes fate all is e = ap is_found_out is.0 ∙ all.0 (sym is.1 ∙ e)

where_found : (t : Bool) → (if t then Garbled else Lost) ≡ Garbled → t ≡ true
where_found true e = refl
where_found false e = cc

garbled_found : (d : Option Deed) (bytes : List ℕ) → fate_of d bytes ≡ Garbled → is_found_out (comes_of d bytes) ≡ true
garbled_found None bytes e = cc
garbled_found (Some Drop) bytes e = cc
garbled_found (Some Repeat) bytes e = cc
garbled_found (Some (Delay turns)) bytes e = cc
garbled_found (Some (Garble at xor)) bytes e = where_found (is_found_out (changed at xor bytes)) e

pub found_put : (us vs : List Underway) (u : Underway) → AreFoundOut (copies_of us) → vs ≡ us ++ u ∷ [] → u.fate ≡ fate_of u.deed u.block.items → AreFoundOut (copies_of vs)
found_put us vs u all e is =
    let one : Copy = record { bytes = u.block.items; comes = comes_of u.deed u.block.items; due = u.due; fate = u.fate } in
    let pushed : AreFoundOut (copies_of us ++ one ∷ []) = found_push (copies_of us) one all (λ g. garbled_found u.deed u.block.items (sym is ∙ g)) in
    subst AreFoundOut (sym (ap copies_of e ∙ copies_push us u)) pushed

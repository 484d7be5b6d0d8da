-- Counting triples that have steps at or after a tick.
use Rattle.std.proofs.Common.{◌≡◌, ℕ, suc, ◌+◌, ◌<◌, ◌≤◌, List, [], ◌∷◌, ◌++◌, length, refl, ap, sym, ◌∙◌, arith, inl, inr, append-nil, rules}
use Rattle.laws_board.proofs.Names.{leb_tells}
use Rattle.std.specs.Prelude.{Bool}
use Rattle.plan_types.specs.Numbers.{UpFrom}
use Rattle.plan_types.specs.Board.{Group, last_of, end_of, ticks_before, ticks_from, with_left, unless_left, groups_from, last_before}
use Rattle.board_sim.specs.Fair.{GroupsRiseFrom}
use Rattle.board_sim.proofs.Steps.{split_ticks, last_from, last_any}
use Rattle.step_feed.specs.Rings.{one_from, count_from}
use Rattle.laws_board.specs.sections.Known.{AreBelow}
use Rattle.step_feed.proofs.Rings.{one-behind, one-before}

-- how many groups end at or after a tick
abbrev pub ends_from : ℕ → List Group → ℕ
ends_from x [] = 0
ends_from x (g ∷ gs) = one_from x (last_of 0 g.ticks) + ends_from x gs

pub one_falls : (x y e : ℕ) → x ≤ y → one_from y e ≤ one_from x e
one_falls x y e h = search (rules, leb_tells, one-behind, one-before)

pub counts_fall : (x y : ℕ) (es : List ℕ) → x ≤ y → count_from y es ≤ count_from x es
counts_fall x y [] h = omega arith
counts_fall x y (e ∷ es) h = omega (arith, one_falls x y e h, counts_fall x y es h)

pub none_from : (x y : ℕ) (es : List ℕ) → x ≤ y → AreBelow x es → count_from y es ≡ 0
none_from x y [] h b = refl
none_from x y (e ∷ es) h b = omega (arith, one-before y e (omega (arith, b.0, h)), none_from x y es h b.1)

-- the last of ticks that don't fall
pub last_least : (low x : ℕ) (ts : List ℕ) → UpFrom low ts → 0 < length ts → low ≤ last_of x ts
last_least low x [] u some = absurd (omega arith)
last_least low x (t ∷ []) u some = u.0
last_least low x (t ∷ v ∷ ts) u some = omega (arith, u.0, last_least t t (v ∷ ts) u.1 (omega arith))

pub all_counted : (now low : ℕ) (gs : List Group) → now ≤ low → GroupsRiseFrom low gs → length gs ≤ ends_from now gs
all_counted now low [] h r = omega arith
all_counted now low (g ∷ gs) h r =
    let one = one-behind now (last_of 0 g.ticks) (omega (arith, h, last_least low 0 g.ticks r.1 r.0)) in
    let rest = all_counted now (last_of low g.ticks) gs (omega (arith, h, last_least low low g.ticks r.1 r.0)) r.2 in
    omega (arith, one, rest)

pub ends_push : (x : ℕ) (gs : List Group) (g : Group) → ends_from x (gs ++ g ∷ []) ≡ one_from x (last_of 0 g.ticks) + ends_from x gs
ends_push x [] g = refl
ends_push x (h ∷ gs) g = omega (arith, ends_push x gs g)

left_ends : (x e : ℕ) (up : Bool) (ls : List ℕ) (gs gf : List Group) → ends_from x gf ≤ ends_from x gs → (0 < length ls → last_of 0 ls ≡ e)
    → ends_from x (with_left up ls gs gf) ≤ one_from x e + ends_from x gs
left_ends x e up [] gs gf h same = omega (arith, h)
left_ends x e up (v ∷ vs) gs gf h same =
    let one : last_of 0 (v ∷ vs) ≡ e = same (omega arith) in
    rw (← one) (omega arith)

-- running on drops groups from the front
pub ends_fall : (x t : ℕ) (gs : List Group) → ends_from x (groups_from t gs) ≤ ends_from x gs
ends_fall x t [] = omega arith
ends_fall x t (g ∷ gs) =
    left_ends x (last_of 0 g.ticks) g.up (ticks_from t g.ticks) gs (groups_from t gs) (ends_fall x t gs) (λ some. last_from 0 0 t g.ticks some)

pub last_append : (x : ℕ) (ts us : List ℕ) → last_of x (ts ++ us) ≡ last_of (last_of x ts) us
last_append x [] us = refl
last_append x (t ∷ ts) us = last_append t ts us

end_left : (last t : ℕ) (up : Bool) (bs ls ts : List ℕ) (gs : List Group) → bs ++ ls ≡ ts
    → end_of (last_before (last_of last bs) t gs) (groups_from t gs) ≡ end_of (last_of last bs) gs
    → end_of (unless_left ls (last_before (last_of last bs) t gs) (last_of last bs)) (with_left up ls gs (groups_from t gs)) ≡ end_of (last_of last ts) gs
end_left last t up bs [] ts gs e h = h ∙ ap (λ x. end_of (last_of last x) gs) (sym (append-nil bs) ∙ e)
end_left last t up bs (v ∷ vs) ts gs e h = ap (λ x. end_of x gs) (sym (last_append last bs (v ∷ vs)) ∙ ap (last_of last) e)

-- the tick behind all steps stays where it is when time passes
pub end_kept : (last t : ℕ) (gs : List Group) → end_of (last_before last t gs) (groups_from t gs) ≡ end_of last gs
end_kept last t [] = refl
end_kept last t (g ∷ gs) =
    end_left last t g.up (ticks_before t g.ticks) (ticks_from t g.ticks) g.ticks gs (split_ticks t g.ticks) (end_kept (last_of last (ticks_before t g.ticks)) t gs)

pub end_push : (last : ℕ) (gs : List Group) (g : Group) → end_of last (gs ++ g ∷ []) ≡ last_of (end_of last gs) g.ticks
end_push last [] g = refl
end_push last (h ∷ gs) g = end_push (last_of last h.ticks) gs g

pub end_least : (low last : ℕ) (g : Group) (gs : List Group) → GroupsRiseFrom low (g ∷ gs) → low ≤ end_of last (g ∷ gs)
end_least low last g [] r = last_least low last g.ticks r.1 r.0
end_least low last g (h ∷ gs) r =
    let same : last_of last g.ticks ≡ last_of low g.ticks = last_any last low g.ticks r.0 in
    rw same (omega (arith, last_least low low g.ticks r.1 r.0, end_least (last_of low g.ticks) (last_of low g.ticks) h gs r.2))

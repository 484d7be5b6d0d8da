-- Lemmas on whole ticks.
use Rattle.std.proofs.Common.{◌≡◌, ℕ, suc, ℤ, pos, negsuc, ◌+◌, ◌-◌, ◌*◌, ◌/◌, ◌%◌, ◌^◌, ◌≤◌, ◌<◌, List, [], ◌∷◌, length, get_or, refl, ap, sym, ◌∙◌, arith, inl, inr, add-one}
use Rattle.std.proofs.lemmas.Bool.Decides.{leb_tells}
use Rattle.plan_types.specs.declared.plan.Triple.{Triple}
use Rattle.plan_types.specs.Board.{Group, end_of, nearest, ahead, IsSum, AreTicksOf, TicksRise, IsNear}
use Rattle.board_step.specs.Steps.{Pending, IsFair, next_gap, ticks_behind, ticks_at, first_tick, Follows}

-- the second difference of three numbers
abbrev pub Bends : ℕ → ℕ → ℕ → ℤ → Type 0
Bends t u v (pos a) = v + t ≡ 2 * u + a
Bends t u v (negsuc a) = v + t + (a + 1) ≡ 2 * u

triangle : (i : ℕ) → (i + 1) * (i + 1 + 1) / 2 ≡ i * (i + 1) / 2 + (i + 1)
triangle i = omega arith

bends : (t u v base i interval : ℕ) (add : ℤ) → IsSum t (base + i * interval) add (i * (i + 1) / 2)
    → IsSum u (base + (i + 1) * interval) add ((i + 1) * (i + 1 + 1) / 2)
    → IsSum v (base + (i + 1 + 1) * interval) add ((i + 1 + 1) * (i + 1 + 1 + 1) / 2) → Bends t u v add
bends t u v base i interval (pos a) p q r =
    let m = i * (i + 1) / 2 in
    let one : a * ((i + 1) * (i + 1 + 1) / 2) ≡ a * (m + (i + 1)) = ap (λ x. a * x) (triangle i) in
    let two : a * ((i + 1 + 1) * (i + 1 + 1 + 1) / 2) ≡ a * (m + (i + 1) + (i + 1 + 1)) = ap (λ x. a * x) (triangle (i + 1) ∙ ap (λ x. x + (i + 1 + 1)) (triangle i)) in
    omega (arith, p, q, r, one, two)
bends t u v base i interval (negsuc a) p q r =
    let m = i * (i + 1) / 2 in
    let one : (a + 1) * ((i + 1) * (i + 1 + 1) / 2) ≡ (a + 1) * (m + (i + 1)) = ap (λ x. (a + 1) * x) (triangle i) in
    let two : (a + 1) * ((i + 1 + 1) * (i + 1 + 1 + 1) / 2) ≡ (a + 1) * (m + (i + 1) + (i + 1 + 1)) = ap (λ x. (a + 1) * x) (triangle (i + 1) ∙ ap (λ x. x + (i + 1 + 1)) (triangle i)) in
    omega (arith, p, q, r, one, two)

-- the gap behind a gap, where the ticks rise and are near
gap_bends : (t u v : ℕ) (add : ℤ) → t < u → u < v → v < u + 2 ^ 32 → u < t + 2 ^ 32 → Bends t u v add → next_gap (u - t) add ≡ v - u
gap_bends t u v (pos a) p q r s b = omega arith
gap_bends t u v (negsuc a) p q r s b = omega arith

-- the tick that is near and has the clock is the nearest one
pub nearest_is : (now clock t : ℕ) → IsNear now t → t % 2 ^ 32 ≡ clock % 2 ^ 32 → nearest now clock ≡ t
nearest_is now clock t near same =
    elim (leb_tells (ahead now clock) (2 ^ 31)) [
      | inl p ↦ rw p.0 (omega (arith, p.1))
      | inr p ↦ rw p.0 (elim (leb_tells (2 ^ 32) (now + ahead now clock)) [ inl q ↦ rw q.0 (omega (arith, p.1, q.1)) | inr q ↦ rw q.0 (omega (arith, p.1, q.1)) ])
    ]

first_is : (now last interval t : ℕ) (gs : List Group) → interval < 2 ^ 32 → t % 2 ^ 32 ≡ (end_of last gs + interval) % 2 ^ 32 → IsNear now t → Follows now last gs t
    → first_tick now last interval gs ≡ t
first_is now last interval t [] small same near follows = nearest_is now (last + interval) t near same
first_is now last interval t (g ∷ gs) small same near follows =
    let e = end_of last (g ∷ gs) in
    let low : now ≤ end_of last (g ∷ gs) = follows.0 in
    let high : end_of last (g ∷ gs) < t = follows.1 in
    omega (arith, low, high, near.1, same, small)

-- neighbours rise, are near, and bend by add
abbrev pub IsChain : ℤ → List ℕ → Type 0
IsChain add [] = Unit {0}
IsChain add (t ∷ []) = Unit {0}
IsChain add (t ∷ u ∷ []) = (t < u) × (u < t + 2 ^ 32)
IsChain add (t ∷ u ∷ v ∷ ts) = (t < u) × (u < t + 2 ^ 32) × Bends t u v add × IsChain add (u ∷ v ∷ ts)

chained : (add : ℤ) (ts : List ℕ) → ((i : ℕ) → suc i < length ts → get_or ts i 0 < get_or ts (suc i) 0)
    → ((i : ℕ) → suc i < length ts → get_or ts (suc i) 0 < get_or ts i 0 + 2 ^ 32)
    → ((i : ℕ) → suc (suc i) < length ts → Bends (get_or ts i 0) (get_or ts (suc i) 0) (get_or ts (suc (suc i)) 0) add) → IsChain add ts
chained add [] rise near bend = tt
chained add (t ∷ []) rise near bend = tt
chained add (t ∷ u ∷ []) rise near bend = (rise 0 (omega arith), near 0 (omega arith))
chained add (t ∷ u ∷ v ∷ ts) rise near bend = (
  rise 0 (omega arith),
  near 0 (omega arith),
  bend 0 (omega arith),
  chained add (u ∷ v ∷ ts) (λ i h. rise (suc i) (omega (arith, h))) (λ i h. near (suc i) (omega (arith, h))) (λ i h. bend (suc i) (omega (arith, h))),
)

lower : (add : ℤ) (t u : ℕ) (ts : List ℕ) → IsChain add (t ∷ u ∷ ts) → t < u
lower add t u [] h = h.0
lower add t u (v ∷ ts) h = h.0

upper : (add : ℤ) (t u : ℕ) (ts : List ℕ) → IsChain add (t ∷ u ∷ ts) → u < t + 2 ^ 32
upper add t u [] h = h.1
upper add t u (v ∷ ts) h = h.1

chain_ticks : (add : ℤ) (t u : ℕ) (ts : List ℕ) → IsChain add (t ∷ u ∷ ts) → u ∷ ts ≡ ticks_behind t (u - t) add (suc (length ts))
chain_ticks add t u [] h = let e : t + (u - t) ≡ u = omega (arith, h.0) in rw e refl
chain_ticks add t u (v ∷ ts) h =
    let e : t + (u - t) ≡ u = omega (arith, h.0) in
    let next = chain_ticks add u v ts h.3 in
    let low : u < v = lower add u v ts h.3 in
    let high : v < u + 2 ^ 32 = upper add u v ts h.3 in
    let gap : next_gap (u - t) add ≡ v - u = gap_bends t u v add h.0 low high h.1 h.2 in
    rw (e, gap) (ap (λ ws. u ∷ ws) next)

first_gap : (t u interval : ℕ) (add : ℤ) → interval < 2 ^ 32 → t < u → u < t + 2 ^ 32 → IsSum u (t + 1 * interval) add 1 → next_gap interval add ≡ u - t
first_gap t u interval (pos a) small p q r = omega arith
first_gap t u interval (negsuc a) small p q r = omega arith

from_first : (first : ℕ) (t : Triple) (ts : List ℕ) → t.interval < 2 ^ 32 → AreTicksOf t (first ∷ ts) → TicksRise (first ∷ ts) → first ∷ ts ≡ ticks_at first t
from_first first t [] small s rise = let one : t.count - 1 ≡ 0 = omega (arith, s.number) in rw one refl
from_first first t (u ∷ ts) small s rise =
    let all = first ∷ u ∷ ts in
    let chain : IsChain t.add (first ∷ u ∷ ts) =
    chained t.add (first ∷ u ∷ ts) (λ i h. rw add-one at (rise i (omega (arith, h)))) (λ i h. rw add-one at (s.above i (omega (arith, h, s.number))))
    (λ i h. simp add-one at
    (bends (get_or all i 0) (get_or all (i + 1) 0) (get_or all (i + 1 + 1) 0) first i t.interval t.add (s.each i (omega (arith, h, s.number)))
    (s.each (i + 1) (omega (arith, h, s.number))) (s.each (i + 1 + 1) (omega (arith, h, s.number))))) in
    let ticks = chain_ticks t.add first u ts chain in
    let gap : next_gap t.interval t.add ≡ u - first =
    first_gap first u t.interval t.add small (lower t.add first u ts chain) (upper t.add first u ts chain) (s.each 1 (omega (arith, s.number))) in
    let more : t.count - 1 ≡ suc (length ts) = omega (arith, s.number) in
    rw (gap, more) (ap (λ ws. first ∷ ws) ticks)

pub whole : (now : ℕ) (q : Pending) (t : Triple) (ticks : List ℕ) → t.interval < 2 ^ 32 → IsFair now q t ticks
    → ticks_at (first_tick now q.last t.interval q.groups) t ≡ ticks
whole now q t [] small f = absurd (omega (arith, f.ticks_of.number, f.ticks_of.some))
whole now q t (first ∷ ts) small f =
    rw (first_is now q.last t.interval first q.groups small f.continues f.near f.follows) (sym (from_first first t ts small f.ticks_of f.rise))

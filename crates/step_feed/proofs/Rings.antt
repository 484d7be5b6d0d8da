-- The last ticks of a stepper's units: in order, and how many are not over.
use Rattle.std.proofs.Common.{◌≡◌, inl, inr, ℕ, zero, suc, ◌+◌, ◌-◌, ◌*◌, ◌<◌, ◌≤◌, List, [], ◌∷◌, ◌++◌, length, take, drop, get_or, true, false, arith, ap, sym, ◌∙◌, refl}
use Rattle.std.specs.Prelude.{nat_lt}
use Rattle.std.proofs.lemmas.List.{take-append-drop}
use Rattle.std.proofs.lemmas.Bool.{cases_lt, le-leb, le-ltb, lt-leb, lt-ltb}
use Rattle.plan_types.specs.Clock.{turn_ns}
use Rattle.plan_types.specs.Lines.{Clocks, lines_tick}
use Rattle.clock_line.specs.Kept.{AreKept}
use Rattle.clock_line.proofs.Turns.{tick_over-mono, turn-after, turn-below, turn-mono}
use Rattle.step_feed.specs.Pacing.{one_pending, over_turn}
use Rattle.step_feed.specs.Rings.{AreAtLeast, AreAtMost, IsUp, count_from, made_before, not_over, one_from}

-- the same order by recursion
abbrev pub AreUp : ℕ → List ℕ → Type 0
AreUp from [] = Unit {0}
AreUp from (e ∷ es) = from ≤ e × AreUp e es

next-read : (e : ℕ) (es : List ℕ) (i : ℕ) → get_or (e ∷ es) (i + 1) 0 ≡ get_or es i 0
next-read e es i = let n : i + 1 ≡ suc i = omega arith in rw n refl

up-tail : (e : ℕ) (es : List ℕ) → IsUp (e ∷ es) → IsUp es
up-tail e es up = λ i l.
    let one = up (i + 1) (omega arith) in
    rw (next-read e es i, next-read e es (i + 1)) at one

pub ups : (from : ℕ) (es : List ℕ) → (0 < length es → from ≤ get_or es 0 0) → IsUp es → AreUp from es
ups from [] first up = tt
ups from (e ∷ es) first up = (first (omega arith), ups e es (λ l. up 0 (omega arith)) (up-tail e es up))

up-from : (e : ℕ) (es : List ℕ) → (0 < length es → e ≤ get_or es 0 0) → IsUp es → (i : ℕ) → i + 1 < length (e ∷ es) → get_or (e ∷ es) i 0 ≤ get_or (e ∷ es) (i + 1) 0
up-from e es first up zero l = first (omega arith)
up-from e es first up (suc i) l = let n : suc i + 1 ≡ suc (i + 1) = omega arith in rw n (up i (omega arith))

first-up : (from : ℕ) (es : List ℕ) → AreUp from es → 0 < length es → from ≤ get_or es 0 0
first-up from [] up l = absurd (omega arith)
first-up from (e ∷ es) up l = up.0

pub downs : (from : ℕ) (es : List ℕ) → AreUp from es → IsUp es
downs from [] up = λ i l. absurd (omega arith)
downs from (e ∷ es) up = up-from e es (first-up e es up.1) (downs e es up.1)

-- an earlier number is not above a later one
from-least : (from : ℕ) (es : List ℕ) (j : ℕ) → AreUp from es → j < length es → from ≤ get_or es j 0
from-least from [] j up inside = absurd (omega arith)
from-least from (e ∷ es) zero up inside = up.0
from-least from (e ∷ es) (suc j) up inside = let l = from-least e es j up.1 (omega arith) in let f = up.0 in omega arith

up-at : (from : ℕ) (es : List ℕ) (i j : ℕ) → AreUp from es → i ≤ j → j < length es → get_or es i 0 ≤ get_or es j 0
up-at from [] i j up order inside = absurd (omega arith)
up-at from (e ∷ es) zero zero up order inside = omega arith
up-at from (e ∷ es) zero (suc j) up order inside = from-least e es j up.1 (omega arith)
up-at from (e ∷ es) (suc i) zero up order inside = absurd (omega arith)
up-at from (e ∷ es) (suc i) (suc j) up order inside = up-at e es i j up.1 (omega arith) (omega arith)

pub up-le : (es : List ℕ) (i j : ℕ) → IsUp es → i ≤ j → j < length es → get_or es i 0 ≤ get_or es j 0
up-le es i j up order inside = up-at 0 es i j (ups 0 es (λ l. omega arith) up) order inside

-- in numbers that do not fall, those up to a place are at most the one there
at-most : (from last : ℕ) (es : List ℕ) (i : ℕ) → AreUp from es → i < length es → get_or es i 0 ≤ last → AreAtMost last (take (suc i) es)
at-most from last [] i up l below = tt
at-most from last (e ∷ es) zero up l below = (below, tt)
at-most from last (e ∷ []) (suc i) up l below = absurd (omega arith)
at-most from last (e ∷ x ∷ es) (suc i) up l below =
    let rest = at-most e last (x ∷ es) i up.1 (omega arith) below in
    let r = rest.0 in
    let o = up.1.0 in
    (omega arith, rest)

pub at-place : (last : ℕ) (es : List ℕ) (i : ℕ) → IsUp es → i < length es → get_or es i 0 ≤ last → AreAtMost last (take (i + 1) es)
at-place last es i up l below = let n : i + 1 ≡ suc i = omega arith in rw n (at-most 0 last es i (ups 0 es (λ s. omega arith) up) l below)

-- a number among those that do not fall, behind the lesser ones
raised : (from last : ℕ) (es : List ℕ) → AreUp from es → AreAtLeast last es → AreUp last es
raised from last [] up least = tt
raised from last (e ∷ es) up least = (least.0, up.1)

put-up : (p from last : ℕ) (es : List ℕ) → AreUp from es → from ≤ last → AreAtMost last (take p es) → AreAtLeast last (drop p es) → AreUp from (take p es ++ last ∷ drop p es)
put-up zero from last es up low most least = (low, raised from last es up least)
put-up (suc p) from last [] up low most least = (low, tt)
put-up (suc p) from last (e ∷ es) up low most least = (up.0, put-up p e last es up.1 most.0 most.1 least)

pub stays-up : (p last : ℕ) (es new : List ℕ) → IsUp es → AreAtMost last (take p es) → AreAtLeast last (drop p es) → new ≡ take p es ++ last ∷ drop p es → IsUp new
stays-up p last es new up most least is = rw is (downs 0 (take p es ++ last ∷ drop p es) (put-up p 0 last es (ups 0 es (λ s. omega arith) up) (omega arith) most least))

pub drop-up : (es : List ℕ) → IsUp es → IsUp (drop 1 es)
drop-up [] up = up
drop-up (e ∷ es) up = up-tail e es up

-- the steps up to a later tick are over no sooner
over-mono : (clocks : Clocks) (a b : ℕ) → AreKept clocks → a ≤ b → over_turn clocks a ≤ over_turn clocks b
over-mono clocks a b are order = let m = turn-mono clocks a b are order in omega arith

one-over : (clocks : Clocks) (k e : ℕ) → over_turn clocks e ≤ k → one_pending clocks k e ≡ 0
one-over clocks k e over = let f = le-ltb k (over_turn clocks e) over in rw f refl

one-not : (clocks : Clocks) (k e : ℕ) → k < over_turn clocks e → one_pending clocks k e ≡ 1
one-not clocks k e over = let f = lt-ltb k (over_turn clocks e) over in rw f refl

pub one-most : (clocks : Clocks) (k e : ℕ) → one_pending clocks k e ≤ 1
one-most clocks k e = elim (cases_lt k (over_turn clocks e)) [
  | inl before ↦ (let o = one-not clocks k e before in omega arith)
  | inr over ↦ (let o = one-over clocks k e over in omega arith)
]

pub most : (clocks : Clocks) (k : ℕ) (es : List ℕ) → not_over clocks k es ≤ length es
most clocks k [] = omega arith
most clocks k (e ∷ es) = let m = most clocks k es in let o = one-most clocks k e in omega arith

-- where the first isn't over, none is
all-pend : (clocks : Clocks) (k from : ℕ) (es : List ℕ) → AreKept clocks → AreUp from es → k < over_turn clocks from → not_over clocks k es ≡ length es
all-pend clocks k from [] are up before = refl
all-pend clocks k from (e ∷ es) are up before =
    let m = over-mono clocks from e are up.0 in
    let o = one-not clocks k e (omega arith) in
    let r = all-pend clocks k e es are up.1 (omega arith) in
    omega arith

-- a full ring has room from the turn on in which its first is over
free-over : (clocks : Clocks) (slots k e : ℕ) (es : List ℕ) → AreKept clocks → AreUp e (e ∷ es) → length (e ∷ es) ≡ slots → not_over clocks k (e ∷ es) < slots → over_turn clocks e ≤ k
free-over clocks slots k e es are up full room = elim (cases_lt k (over_turn clocks e)) [
  | inl before ↦ (let a = all-pend clocks k e (e ∷ es) are up before in absurd (omega arith))
  | inr over ↦ over
]

over-free : (clocks : Clocks) (slots k e : ℕ) (es : List ℕ) → length (e ∷ es) ≡ slots → over_turn clocks e ≤ k → not_over clocks k (e ∷ es) < slots
over-free clocks slots k e es full over =
    let m = most clocks k es in
    let o = one-over clocks k e over in
    omega arith

pub full-free : (clocks : Clocks) (slots first : ℕ) (es : List ℕ) → AreKept clocks → IsUp es → length es ≡ slots → 0 < length es → first ≡ get_or es 0 0 → (k : ℕ) → (not_over clocks k es < slots → over_turn clocks first ≤ k) × (over_turn clocks first ≤ k → not_over clocks k es < slots)
full-free clocks slots first [] are up full some is = λ k. absurd (omega arith)
full-free clocks slots first (e ∷ es) are up full some is = λ k.
    rw is ((λ room. free-over clocks slots k e es are (ups e (e ∷ es) (λ l. omega arith) up) full room), (λ over. over-free clocks slots k e es full over))

-- a ring that isn't full has room in every turn
pub room-free : (clocks : Clocks) (slots : ℕ) (es : List ℕ) → length es < slots → (k : ℕ) → (not_over clocks k es < slots → 0 ≤ k) × (0 ≤ k → not_over clocks k es < slots)
room-free clocks slots es few = λ k. let m = most clocks k es in ((λ r. omega arith), (λ r. omega arith))

pub count-append : (x : ℕ) (xs ys : List ℕ) → count_from x (xs ++ ys) ≡ count_from x xs + count_from x ys
count-append x [] ys = omega arith
count-append x (e ∷ es) ys = let r = count-append x es ys in omega arith

put-counts : (x p last : ℕ) (es : List ℕ) → count_from x (take p es ++ last ∷ drop p es) ≡ one_from x last + count_from x es
put-counts x p last es =
    let a = count-append x (take p es) (last ∷ drop p es) in
    let b = count-append x (take p es) (drop p es) in
    let c = ap (count_from x) (take-append-drop p es) in
    omega arith

-- what is over in a turn, by ticks
over-bound : (clocks : Clocks) (k e : ℕ) → AreKept clocks → over_turn clocks e ≤ k → e < made_before clocks k
over-bound clocks k e are over =
    let late : nat_lt k 5 ≡ false = le-ltb k 5 (omega arith) in
    let after = turn-after clocks e (k - 5) are (omega arith) in
    let n : k - 5 + 1 ≡ k - 4 = omega arith in
    rw late (rw n at after)

pub pending-bound : (clocks : Clocks) (k e : ℕ) → AreKept clocks → k < over_turn clocks e → made_before clocks k ≤ e
pending-bound clocks k e are before = elim (cases_lt k 5) [
  | inl early ↦ (let b : nat_lt k 5 ≡ true = lt-ltb k 5 early in rw b (omega arith))
  | inr late ↦ (
      let b : nat_lt k 5 ≡ false = le-ltb k 5 late in
      let n : k - 5 + 1 ≡ k - 4 = omega arith in
      rw b (elim (cases_lt e (lines_tick clocks ((k - 4) * turn_ns))) [
        | inl less ↦ (let t = turn-below clocks e (k - 5) (rw n less) in absurd (omega arith))
        | inr fine ↦ fine
      ]))
]

pub one-before : (x e : ℕ) → e < x → one_from x e ≡ 0
one-before x e less = let f = lt-leb x e less in rw f refl

pub one-behind : (x e : ℕ) → x ≤ e → one_from x e ≡ 1
one-behind x e order = let f = le-leb x e order in rw f refl

pub one-same : (clocks : Clocks) (k e : ℕ) → AreKept clocks → one_pending clocks k e ≡ one_from (made_before clocks k) e
one-same clocks k e are = elim (cases_lt k (over_turn clocks e)) [
  | inl before ↦ (one-not clocks k e before ∙ sym (one-behind (made_before clocks k) e (pending-bound clocks k e are before)))
  | inr over ↦ (one-over clocks k e over ∙ sym (one-before (made_before clocks k) e (over-bound clocks k e are over)))
]

pub not_over-same : (clocks : Clocks) (k : ℕ) (es : List ℕ) → AreKept clocks → not_over clocks k es ≡ count_from (made_before clocks k) es
not_over-same clocks k [] are = refl
not_over-same clocks k (e ∷ es) are =
    let o = one-same clocks k e are in
    let r = not_over-same clocks k es are in
    omega arith

-- the tick before which steps count as made does not fall
pub made-mono : (clocks : Clocks) (j k : ℕ) → j ≤ k → made_before clocks j ≤ made_before clocks k
made-mono clocks j k order = elim (cases_lt j 5) [
  | inl early ↦ (let b : nat_lt j 5 ≡ true = lt-ltb j 5 early in rw b (omega arith))
  | inr late ↦ (
      let b : nat_lt j 5 ≡ false = le-ltb j 5 late in
      let d : nat_lt k 5 ≡ false = le-ltb k 5 (omega arith) in
      rw (b, d) (tick_over-mono clocks.first 0 clocks.held ((j - 4) * turn_ns) ((k - 4) * turn_ns) (omega arith)))
]

-- where the first is over, it counts no more
drop-counts : (clocks : Clocks) (slots turn x : ℕ) (es : List ℕ) → AreKept clocks → IsUp es → length es ≡ slots → not_over clocks turn es < slots → made_before clocks turn ≤ x → count_from x (drop 1 es) ≡ count_from x es
drop-counts clocks slots turn x [] are up full room later = refl
drop-counts clocks slots turn x (e ∷ es) are up full room later =
    let over = free-over clocks slots turn e es are (ups e (e ∷ es) (λ l. omega arith) up) full room in
    let b = over-bound clocks turn e are over in
    let o = one-before x e (omega arith) in
    omega arith

-- one more unit in a ring that has room in a turn
pub ring-counts : (clocks : Clocks) (slots turn p last : ℕ) (old rest new : List ℕ) → AreKept clocks → IsUp old → length old ≤ slots → not_over clocks turn old < slots → (length old ≡ slots → rest ≡ drop 1 old) → (length old < slots → rest ≡ old) → new ≡ take p rest ++ last ∷ drop p rest → (x : ℕ) → made_before clocks turn ≤ x → count_from x new ≡ one_from x last + count_from x old
ring-counts clocks slots turn p last old rest new are up few room full some is = λ x later.
    let put = put-counts x p last rest in
    let n = ap (count_from x) is in
    elim (cases_lt (length old) slots) [
      | inl less ↦ (let r = ap (count_from x) (some less) in omega arith)
      | inr more ↦ (
          let e : length old ≡ slots = omega arith in
          let r = ap (count_from x) (full e) in
          let d = drop-counts clocks slots turn x old are up e room later in
          omega arith)
    ]

-- The triples of packed steps cover as many steps as one can.
use Rattle.std.proofs.Common.{◌≡◌, ℕ, zero, suc, ◌+◌, ◌-◌, ◌<◌, ◌≤◌, Bool, Option, Some, false, List, [], ◌∷◌, ◌++◌, All, length, drop, get_or, arith, refl, ap, sym, subst, inl, inr}
use Rattle.std.proofs.lemmas.Bool.{cases_lt}
use Rattle.std.proofs.lemmas.List.{drop-drop, length-drop}
use Rattle.std.proofs.lemmas.List.Elements.{All-drop}
use Rattle.std.proofs.Math.ListN.{get_or-append}
use Rattle.std.proofs.Math.Seq.{get_or-append_right}
use Rattle.plan_types.specs.declared.plan.Planned.{Planned}
use Rattle.plan_types.specs.declared.plan.Window.{Window}
use Rattle.plan_types.specs.Lines.{Clocks, lines_turn}
use Rattle.step_pack.specs.declared.Placed.{Placed}
use Rattle.step_pack.specs.Placing.{PacksPlaced}
use Rattle.step_pack.proofs.Piecewise.{IsPiece, longest_before, piece_drop}
use Rattle.step_feed.specs.Units.{StepUnit}
use Rattle.section_units.specs.Packed.{end_of_units}
use Rattle.section_units.specs.Sent.{AreLongest, EndInTurn, step_at}
use Rattle.section_units.specs.Units.{first_up, units_on}

-- each of some steps is in an earlier turn than each of others
abbrev pub AreCut : Clocks → List Planned → List Planned → Type 0
AreCut clocks steps more = All (λ (s : Planned). All (λ (q : Planned). lines_turn clocks s.tick < lines_turn clocks q.tick) more) steps

drop_front : (n : ℕ) (xs ys : List Planned) → n ≤ length xs → drop n (xs ++ ys) ≡ drop n xs ++ ys
drop_front zero xs ys h = refl
drop_front (suc n) [] ys h = absurd (omega arith)
drop_front (suc n) (x ∷ xs) ys h = drop_front n xs ys (omega arith)

long : (xs ys : List Planned) → length (xs ++ ys) ≡ length xs + length ys
long [] ys = omega arith
long (x ∷ xs) ys = let l = long xs ys in omega arith

-- steps of which the next one is in the turn of the first are not all of those before the cut
within : (clocks : Clocks) (steps more : List Planned) (n : ℕ) → AreCut clocks steps more → 0 < length steps → EndInTurn clocks (steps ++ more) n → n < length steps
within clocks steps more n cut some ends = elim (cases_lt n (length steps)) as (λ _. n < length steps) [
  | inl less ↦ less
  | inr over ↦
      let none : Planned = record { tick = 0; up = false } in
      let l = long steps more in
      let inside = ends.more in
      let place : n - length steps < length more = omega (arith, l, inside, over) in
      let first : step_at (steps ++ more) 0 ≡ get_or steps 0 none = get_or-append steps more none 0 some in
      let next : step_at (steps ++ more) n ≡ get_or more (n - length steps) none = get_or-append_right steps more n none over in
      let one = ap (λ (s : Planned). lines_turn clocks s.tick) first in
      let two = ap (λ (s : Planned). lines_turn clocks s.tick) next in
      let far = cut 0 none some (n - length steps) none place in
      let same = ends.same in
      absurd (omega (arith, one, two, far, same))
]

-- the triples of a piece of a plan
pub piece_longest : (clocks : Clocks) (oid : ℕ) (reset : Option ℕ) (up : Option Bool) (behind : ℕ) (piece all : List Window) (steps more : List Planned) (placed : List Placed) → IsPiece piece all → length piece ≡ length steps → PacksPlaced behind piece placed → AreCut clocks steps more
    → AreLongest clocks behind all (steps ++ more) (units_on clocks oid reset up steps placed)
piece_longest clocks oid reset up behind piece all steps more [] is len packs cut = tt
piece_longest clocks oid reset up behind piece all steps more (p ∷ placed) is len packs cut =
    let n = p.triple.count in
    let covers = packs.0 in
    let some = covers.some in
    let inside = covers.within in
    let l1 = length-drop n piece in
    let l2 = length-drop n steps in
    let rest = piece_longest clocks oid reset (Some (first_up steps)) p.last (drop n piece) (drop n all) (drop n steps) more placed (piece_drop n piece all is) (omega (arith, l1, l2, len)) packs.3
    (All-drop (λ (s : Planned). All (λ (q : Planned). lines_turn clocks s.tick < lines_turn clocks q.tick) more) n steps cut) in
    let At : List Planned → Type 0 = λ plan. AreLongest clocks p.last (drop n all) plan (units_on clocks oid reset (Some (first_up steps)) (drop n steps) placed) in
    (λ interval other add compared ends. longest_before behind n piece all is packs.2 interval other add (let w = within clocks steps more other cut (omega (arith, some, inside, len)) ends in omega (arith, w, len)) compared, subst At (sym (drop_front n steps more (omega (arith, inside, len)))) rest)

-- how many steps some units have
abbrev pub count_in : List StepUnit → ℕ
count_in [] = 0
count_in (u ∷ us) = u.triple.count + count_in us

-- units behind others
pub longest_join : (clocks : Clocks) (behind : ℕ) (windows : List Window) (plan : List Planned) (us vs : List StepUnit) → AreLongest clocks behind windows plan us
    → AreLongest clocks (end_of_units behind us) (drop (count_in us) windows) (drop (count_in us) plan) vs → AreLongest clocks behind windows plan (us ++ vs)
longest_join clocks behind windows plan [] vs a b = b
longest_join clocks behind windows plan (u ∷ us) vs a b =
    let n = u.triple.count in
    let At : List Window → List Planned → Type 0 = λ w p. AreLongest clocks (end_of_units u.last us) w p vs in
    let w : drop (n + count_in us) windows ≡ drop (count_in us) (drop n windows) = sym (drop-drop (count_in us) n windows) in
    let p : drop (n + count_in us) plan ≡ drop (count_in us) (drop n plan) = sym (drop-drop (count_in us) n plan) in
    (a.0, longest_join clocks u.last (drop n windows) (drop n plan) us vs a.1 (subst (λ x. At x (drop (count_in us) (drop n plan))) w (subst (At (drop (n + count_in us) windows)) p b)))

pub longest_front : (clocks : Clocks) (behind : ℕ) (windows : List Window) (plan : List Planned) (us vs : List StepUnit) → AreLongest clocks behind windows plan (us ++ vs) → AreLongest clocks behind windows plan us
longest_front clocks behind windows plan [] vs a = tt
longest_front clocks behind windows plan (u ∷ us) vs a = (a.0, longest_front clocks u.last (drop u.triple.count windows) (drop u.triple.count plan) us vs a.1)

-- A homing group that knows of a member which has triggered calls the others every four turns.
use Rattle.std.proofs.Common.{◌≡◌, ℕ, suc, ◌+◌, ◌-◌, ◌%◌, ◌≤◌, inl, inr, Bool, true, false, Option, Some, None, refl, ap, sym, ◌∙◌, arith}
use Rattle.std.specs.Prelude.{◌==◌}
use Rattle.laws_board.proofs.Names.{leb_tells, GroupState, turned_group, all_fired, relay_in, relays_in}
use Rattle.trigger_group.specs.Group.{any_fired_by, relay_begins, relay_from}
use Rattle.laws_homing.proofs.clear_boards.Modes.{begins_so, relay_is}

-- so many turns behind this one it does
pub record IsDue (n : ℕ) (g : GroupState) (turn : ℕ) : Type 0 where
  pub first : ℕ
  pub is : relay_in g turn ≡ Some first
  pub round : (turn + n - first) % 4 ≡ 0

relays_first : (o : Option ℕ) (turn : ℕ) → (first : ℕ) × (relay_from o true turn ≡ Some first)
relays_first None turn = (turn, refl)
relays_first (Some first) turn = (first, refl)

rounds : (turn first : ℕ) → (n : ℕ) × (n ≤ 3) × ((turn + n - first) % 4 ≡ 0)
rounds turn first = elim (leb_tells 1 ((turn - first) % 4)) [
  | inr p ↦ (let l = p.1 in (0, omega arith, omega (arith, l)))
  | inl p ↦
      let one = p.1 in
      elim (leb_tells 2 ((turn - first) % 4)) [
        | inr q ↦ (let l = q.1 in (3, omega arith, omega (arith, l, one)))
        | inl q ↦
            let two = q.1 in
            elim (leb_tells 3 ((turn - first) % 4)) [ inr r ↦ (let l = r.1 in (2, omega arith, omega (arith, l, two))) | inl r ↦ (let three = r.1 in (1, omega arith, omega (arith, three))) ]
      ]
]

pub due_soon : (g : GroupState) (turn : ℕ) → g.start + 4 ≤ turn → any_fired_by g.last g.members ≡ true → (n : ℕ) × (n ≤ 3) × IsDue n g turn
due_soon g turn late some =
    let x = relays_first g.relay turn in
    let is : relay_in g turn ≡ Some x.0 = ap (λ (b : Bool). relay_from g.relay b turn) (begins_so g turn late some) ∙ x.1 in
    let n = rounds turn x.0 in
    (n.0, n.1, record { first = x.0; is = is; round = n.2 })

pub due_now : (g : GroupState) (turn : ℕ) → IsDue 0 g turn → relays_in (relay_in g turn) turn ≡ true
due_now g turn d =
    let e : turn + 0 - d.first ≡ turn - d.first = omega arith in
    let zero_is : (turn - d.first) % 4 ≡ 0 = ap (λ (n : ℕ). n % 4) (sym e) ∙ d.round in
    ap (λ (o : Option ℕ). relays_in o turn) d.is ∙ ap (λ (n : ℕ). n == 0) zero_is

pub due_on : (n : ℕ) (g next : GroupState) (turn : ℕ) → g.start ≤ turn → all_fired g.members ≡ false → next.relay ≡ (turned_group g turn).relay → IsDue (suc n) g turn → IsDue n next (turn + 1)
due_on n g next turn low_so fired same d =
    let relay : next.relay ≡ Some d.first = same ∙ relay_is g turn low_so fired ∙ d.is in
    let e : turn + suc n - d.first ≡ turn + 1 + n - d.first = omega arith in
    record { first = d.first; is = ap (λ (o : Option ℕ). relay_from o (relay_begins next (turn + 1)) (turn + 1)) relay; round = ap (λ (k : ℕ). k % 4) (sym e) ∙ d.round }

-- The limits of a junction, taken one after the other, and the least of their list.
use Rattle.std.proofs.Common.{◌≡◌, ◌∙◌, ℕ, ◌-◌, ◌*◌, ◌/◌, ◌<◌, ◌≤◌, true, false, min, arith}
use Rattle.std.specs.Prelude.{nat_lt}
use Rattle.std.proofs.lemmas.Bool.Decides.{nat_tests}
use Rattle.plan_types.specs.declared.plan.Move.{Move}
use Rattle.plan_types.specs.Moves.{move_length}
use Rattle.plan_types.specs.Speeds.{least_limit, unit}
use Rattle.plan_types.proofs.Facts.{is_less}

untested : (a b : ℕ) → b ≤ a → nat_lt a b ≡ false
untested a b h = grind (arith, nat_tests)

abbrev corner_at : ℕ → ℕ → ℕ
corner_at scv s = scv * scv * 414213562 * s / (unit * (unit - s))

abbrev bend_at : Move → ℕ → ℕ → ℕ
bend_at m s c = move_length m * m.a * s / (2 * c)

five : (p q k x y : ℕ) → min (min (min (min p q) k) x) y ≡ min p (min q (min k (min x y)))
five p q k x y = omega arith

four : (p q x y : ℕ) → min (min (min p q) x) y ≡ min p (min q (min x y))
four p q x y = omega arith

three : (p q k : ℕ) → min (min p q) k ≡ min p (min q k)
three p q k = omega arith

module _ (m n : Move) (scv s c p q l : ℕ) (ep : p ≡ m.v * m.v) (eq : q ≡ n.v * n.v) (el : l ≡ min p q) where
  pub with_both : (k corner x f y r : ℕ) → s < unit → 0 < c → k ≡ corner_at scv s → corner ≡ min l k → x ≡ bend_at m s c → f ≡ min corner x → y ≡ bend_at n s c → r ≡ min f y → r ≡ least_limit m n scv s c
  with_both k corner x f y r h d ek ec ex ef ey er =
      let e : r ≡ min (min (min (min (m.v * m.v) (n.v * n.v)) (corner_at scv s)) (bend_at m s c)) (bend_at n s c) = rw (ef, ec, el, ep, eq, ek, ex, ey) at er in
      rw (is_less s unit h, is_less 0 c d) (e ∙ five _ _ _ _ _)

  pub with_bends : (corner x f y r : ℕ) → unit ≤ s → 0 < c → corner ≡ l → x ≡ bend_at m s c → f ≡ min corner x → y ≡ bend_at n s c → r ≡ min f y → r ≡ least_limit m n scv s c
  with_bends corner x f y r h d ec ex ef ey er =
      let e : r ≡ min (min (min (m.v * m.v) (n.v * n.v)) (bend_at m s c)) (bend_at n s c) = rw (ef, ec, el, ep, eq, ex, ey) at er in
      rw (untested s unit h, is_less 0 c d) (e ∙ four _ _ _ _)

  pub with_corner : (k corner : ℕ) → s < unit → c ≤ 0 → k ≡ corner_at scv s → corner ≡ min l k → corner ≡ least_limit m n scv s c
  with_corner k corner h d ek ec =
      let e : corner ≡ min (min (m.v * m.v) (n.v * n.v)) (corner_at scv s) = rw (el, ep, eq, ek) at ec in
      rw (is_less s unit h, untested 0 c d) (e ∙ three _ _ _)

  pub with_none : (corner : ℕ) → unit ≤ s → c ≤ 0 → corner ≡ l → corner ≡ least_limit m n scv s c
  with_none corner h d ec =
      let e : corner ≡ min (m.v * m.v) (n.v * n.v) = rw (el, ep, eq) at ec in
      rw (untested s unit h, untested 0 c d) e

pub below_then : (p q l k corner x f y r : ℕ) → p ≤ 1_000_000_000_000_000_000 → l ≡ min p q → corner ≡ min l k → f ≡ min corner x → r ≡ min f y → r ≤ 1_000_000_000_000_000_000
below_then p q l k corner x f y r h el ec ef er = omega arith

pub below_else : (p q l x f y r : ℕ) → p ≤ 1_000_000_000_000_000_000 → l ≡ min p q → f ≡ min l x → r ≡ min f y → r ≤ 1_000_000_000_000_000_000
below_else p q l x f y r h el ef er = omega arith

pub below_corner : (p q l k corner : ℕ) → p ≤ 1_000_000_000_000_000_000 → l ≡ min p q → corner ≡ min l k → corner ≤ 1_000_000_000_000_000_000
below_corner p q l k corner h el ec = omega arith

pub below_speeds : (p q l : ℕ) → p ≤ 1_000_000_000_000_000_000 → l ≡ min p q → l ≤ 1_000_000_000_000_000_000
below_speeds p q l h el = omega arith

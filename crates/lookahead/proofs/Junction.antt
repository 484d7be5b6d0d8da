-- The two cases of a junction.
use Rattle.std.proofs.Common.{◌≡◌, ◌⊎◌, ℕ, ◌<◌, Bool, true, false, ◌||◌, cond, eqb, arith, inl, inr, ap, sym, ◌∙◌}
use Rattle.std.specs.Prelude.{IsTrue, ◌↔◌}
use Rattle.std.proofs.lemmas.Bool.{false≢true, cases_lt}
use Rattle.std.proofs.lemmas.Bool.Decides.{nat_tests}
use Rattle.plan_types.specs.declared.plan.Move.{Move}
use Rattle.plan_types.specs.Moves.{squared_distance}
use Rattle.plan_types.specs.Speeds.{junction_cap, least_limit, half_sine, half_cosine}

either_zero : (a b x : ℕ) → ((a ≡ 0) ⊎ (b ≡ 0)) → cond (eqb a 0 || eqb b 0) 0 x ≡ 0
either_zero a b x h = grind (arith, nat_tests)

neither_zero : (a b x : ℕ) → 0 < a → 0 < b → cond (eqb a 0 || eqb b 0) 0 x ≡ x
neither_zero a b x h k = grind (arith, nat_tests)

pub junction_cap-still : (m n : Move) (scv : ℕ) → ((squared_distance m ≡ 0) ⊎ (squared_distance n ≡ 0)) → junction_cap m n scv ≡ 0
unfolding junction_cap
junction_cap-still m n scv h = either_zero _ _ _ h

pub junction_cap-moving : (m n : Move) (scv : ℕ) → 0 < squared_distance m → 0 < squared_distance n → junction_cap m n scv ≡ least_limit m n scv (half_sine m n) (half_cosine m n)
unfolding junction_cap
junction_cap-moving m n scv h k = neither_zero _ _ _ h k

pub junction_cap-by : (m n : Move) (scv s c r : ℕ) → 0 < squared_distance m → 0 < squared_distance n → s ≡ half_sine m n → c ≡ half_cosine m n → r ≡ least_limit m n scv s c → r ≡ junction_cap m n scv
junction_cap-by m n scv s c r h k sine cosine is =
    is ∙ ap (λ x. least_limit m n scv x c) sine ∙ ap (λ x. least_limit m n scv (half_sine m n) x) cosine ∙ sym (junction_cap-moving m n scv h k)

-- a test that a number is above 0, and fails
pub zero_where_false : (b : Bool) (n : ℕ) → (IsTrue b ↔ (0 < n)) → b ≡ false → n ≡ 0
zero_where_false true n h e = absurd (false≢true (sym e))
zero_where_false false n h e = elim (cases_lt 0 n) [ inl above ↦ absurd (false≢true (h.1 above)) | inr zero ↦ omega arith ]

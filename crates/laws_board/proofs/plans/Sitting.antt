-- Units of a stepper have steps; and an object id that has a plan on a board is that of a stepper of the board.
use Rattle.std.proofs.Common.{◌≡◌, ◌≢◌, ℕ, zero, suc, ◌+◌, ◌<◌, ◌≤◌, Bool, true, false, cond, List, [], ◌∷◌, ◌++◌, get_or, map, take, length, refl, ap, sym, ◌∙◌, arith, inl, inr, rules}
use Rattle.std.specs.Prelude.{◌==◌}
use Rattle.laws_board.proofs.Names.{eqb_tells, Planned, Pulse, Clocks, StepUnit}
use Rattle.plan_types.specs.Plan.{pulse_of}
use Rattle.plan_types.specs.declared.machine.StepperDef.{StepperDef}
use Rattle.plan_types.specs.Board.{steps_of}
use Rattle.plan_types.specs.Machines.{no_stepper}
use Rattle.section_units.specs.Plans.{board_plans}
use Rattle.section_units.specs.Sections.{AreBegunBy, dir_after, steps_said, ticks_meant}
use Rattle.section_units.specs.Units.{as_sent}
use Rattle.laws_board.proofs.plans.Placing.{count_on}

-- units have steps
some_steps : (oid : ℕ) (up : Bool) (ticks : List ℕ) (more : List Pulse) → 0 < length ticks → 0 < length (map (pulse_of oid) (steps_of up ticks) ++ more)
some_steps oid up [] more h = absurd (omega (arith, h))
some_steps oid up (t ∷ ticks) more h = omega arith

pub have_steps : (homing : Bool) (oid : ℕ) (clocks : Clocks) (base : ℕ) (us : List StepUnit) → AreBegunBy homing clocks base us → us ≢ [] → 0 < length (steps_said oid false us)
have_steps homing oid clocks base us p5 p6 = search (rules, some_steps)

-- the stepper of a number on a board
pub place_on : (b : ℕ) (ss : List StepperDef) (o : ℕ) → o < count_on b ss → (j : ℕ) × (j < length ss) × ((get_or ss j no_stepper).board ≡ b) × (count_on b (take j ss) ≡ o)
place_on b [] o h = absurd (omega (arith, h))
place_on b (s ∷ ss) o h = by (s.board == b) refl (λ n l. place_on b ss n l) o h
  where
    by : (t : Bool) → (s.board == b) ≡ t → ((n : ℕ) → n < count_on b ss → (j : ℕ) × (j < length ss) × ((get_or ss j no_stepper).board ≡ b) × (count_on b (take j ss) ≡ n)) → (o : ℕ) → o < cond t (1 + count_on b ss) (count_on b ss) → (j : ℕ) × (j < length (s ∷ ss)) × ((get_or (s ∷ ss) j no_stepper).board ≡ b) × (count_on b (take j (s ∷ ss)) ≡ o)
    by true e rec zero h = (0, omega arith, elim (eqb_tells s.board b) [ inl p ↦ p.1 | inr p ↦ absurd (let f : true ≡ false = sym e ∙ p.0 in cc) ], refl)
    by true e rec (suc o) h =
        let r = rec o (omega (arith, h)) in
        let size = r.1 in
        let count : count_on b (take (suc r.0) (s ∷ ss)) ≡ 1 + count_on b (take r.0 ss) = ap (λ (t : Bool). cond t (1 + count_on b (take r.0 ss)) (count_on b (take r.0 ss))) e in
        let is = r.3 in
        (suc r.0, omega arith, r.2, omega arith)
    by false e rec o h =
        let r = rec o h in
        let size = r.1 in
        let count : count_on b (take (suc r.0) (s ∷ ss)) ≡ count_on b (take r.0 ss) = ap (λ (t : Bool). cond t (1 + count_on b (take r.0 ss)) (count_on b (take r.0 ss))) e in
        (suc r.0, omega arith, r.2, count ∙ r.3)

pub plans_few : (b : ℕ) (ss : List StepperDef) (plans : List (List Planned)) → length (board_plans b ss plans) ≤ count_on b ss
plans_few b [] plans = omega arith
plans_few b (s ∷ ss) [] = omega arith
plans_few b (s ∷ ss) (p ∷ plans) = by (s.board == b) (plans_few b ss plans)
  where
    by : (t : Bool) → length (board_plans b ss plans) ≤ count_on b ss → length (cond t (as_sent s.inverted p ∷ board_plans b ss plans) (board_plans b ss plans)) ≤ cond t (1 + count_on b ss) (count_on b ss)
    by true rest = omega (arith, rest)
    by false rest = rest

pub past : (xs : List (List Planned)) (n : ℕ) → length xs ≤ n → get_or xs n [] ≡ []
past [] n h = refl
past (x ∷ xs) zero h = absurd (omega (arith, h))
past (x ∷ xs) (suc n) h = past xs n (omega (arith, h))

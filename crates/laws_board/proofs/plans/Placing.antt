-- Steppers by their places among all, and by their object ids on a board.
use Rattle.std.proofs.Common.{◌≡◌, ◌≢◌, ℕ, zero, suc, ◌+◌, ◌<◌, ◌≤◌, ◌&&◌, Bool, true, false, cond, eqb, List, [], ◌∷◌, ◌++◌, length, get_or, take, count_by, Option, Some, None, refl, ap, sym, ◌∙◌, subst, arith, inl, inr}
use Rattle.laws_board.proofs.Names.{eq-eqb, eqb_tells, flat_map, Machine, Planned, Pulse, IsValidMachine, stepper_at, State, only, item}
use Rattle.std.proofs.lemmas.List.Recursion.{is_count_by}
use Rattle.std.specs.Prelude.{◌==◌, if◌then◌else◌}
use Rattle.plan_types.specs.declared.machine.StepperDef.{StepperDef}
use Rattle.plan_types.specs.Machines.{no_stepper}
use Rattle.section_units.specs.Units.{as_sent}
use Rattle.host_reactor.specs.Report.{stepper_place, pulse_at, pulse_line, pulse_lines, turned}
use Rattle.section_units.specs.Plans.{board_plans}
use Rattle.laws_board.specs.plans.Boards.{as_told}
use Rattle.laws_board.specs.plans.Lines.{pulses_of}
use Rattle.laws_board.proofs.plans.Telling.{pulses_append}
use Rattle.plan_types.proofs.Facts.{none_some, some_same}

-- how many of some steppers are on a board
abbrev pub count_on : ℕ → List StepperDef → ℕ
count_on b [] = 0
count_on b (s ∷ ss) = cond (eqb s.board b) (1 + count_on b ss) (count_on b ss)

pub count_is : (b : ℕ) (ss : List StepperDef) → count_by (λ t. eqb t.board b) ss ≡ count_on b ss
count_is b ss = sym (is_count_by (count_on b) (λ t. eqb t.board b) refl (λ x xs. refl) ss)

-- the plan of a stepper among those of its board
by_plan : (t : Bool) (b n : ℕ) (p rest : List Planned) (ps : List (List Planned)) → get_or ps n [] ≡ rest → get_or (cond t (p ∷ ps) ps) (cond t (1 + n) n) [] ≡ rest
by_plan true b n p rest ps e = let k : 1 + n ≡ suc n = omega arith in rw k e
by_plan false b n p rest ps e = e

pub own_plan : (b : ℕ) (ss : List StepperDef) (plans : List (List Planned)) (i : ℕ) (d : StepperDef) → i < length ss → i < length plans → (get_or ss i d).board ≡ b
    → get_or (board_plans b ss plans) (count_on b (take i ss)) [] ≡ as_sent (get_or ss i d).inverted (get_or plans i [])
own_plan b [] plans i d h k own = absurd (omega (arith, h))
own_plan b (s ∷ ss) [] i d h k own = absurd (omega (arith, k))
own_plan b (s ∷ ss) (p ∷ plans) zero d h k own = let t : eqb s.board b ≡ true = eq-eqb s.board b own in rw t refl
own_plan b (s ∷ ss) (p ∷ plans) (suc i) d h k own =
    by_plan (eqb s.board b) b (count_on b (take i ss)) (as_sent s.inverted p) (as_sent (get_or ss i d).inverted (get_or plans i [])) (board_plans b ss plans)
    (own_plan b ss plans i d (omega (arith, h)) (omega (arith, k)) own)

-- The steppers of each board have object ids from a number on, one behind the other.
abbrev Numbered : (ℕ → ℕ) → List StepperDef → Type 0
Numbered c [] = Unit {0}
Numbered c (s ∷ ss) = (s.oid ≡ c s.board) × Numbered (λ b. c b + cond (eqb s.board b) 1 0) ss

numbered_from : (c : ℕ → ℕ) (ss : List StepperDef) → ((j : ℕ) → j < length ss → (get_or ss j no_stepper).oid ≡ c (get_or ss j no_stepper).board + count_on (get_or ss j no_stepper).board (take j ss)) → Numbered c ss
numbered_from c [] h = tt
numbered_from c (s ∷ ss) h = (
  (let first = h 0 (omega arith) in omega (arith, first)),
  numbered_from (λ b. c b + cond (eqb s.board b) 1 0) ss (λ j lt.
      let b = (get_or ss j no_stepper).board in
      let one = h (suc j) (omega (arith, lt)) in
      one ∙ more (c b) (count_on b (take j ss)) (eqb s.board b)),
)
  where
    more : (c n : ℕ) (t : Bool) → c + cond t (1 + n) n ≡ c + cond t 1 0 + n
    more c n true = omega arith
    more c n false = omega arith

numbered : (m : Machine) → IsValidMachine m → Numbered (λ b. 0) m.steppers
numbered m v = numbered_from (λ b. 0) m.steppers (λ j lt.
    let s = v.steppers j lt in
    let b = (stepper_at m j).board in
    s.oid ∙ count_is b (take j m.steppers) ∙ omega arith)

-- object ids are at least as great as the number
least : (c : ℕ → ℕ) (ss : List StepperDef) (j : ℕ) → Numbered c ss → j < length ss → c (get_or ss j no_stepper).board ≤ (get_or ss j no_stepper).oid
least c [] j n h = absurd (omega (arith, h))
least c (s ∷ ss) zero n h = omega (arith, n.0)
least c (s ∷ ss) (suc j) n h = omega (arith, least (λ b. c b + cond (eqb s.board b) 1 0) ss j n.1 (omega (arith, h)))

-- a stepper is found at its place
both_true : (a b c d : ℕ) → a ≡ b → c ≡ d → (eqb a b && eqb c d) ≡ true
both_true a b c d e f = let x : eqb a b ≡ true = eq-eqb a b e in let y : eqb c d ≡ true = eq-eqb c d f in rw (x, y) refl

pub found : (c : ℕ → ℕ) (i : ℕ) (ss : List StepperDef) (j : ℕ) → Numbered c ss → j < length ss → stepper_place i (get_or ss j no_stepper).board (get_or ss j no_stepper).oid ss ≡ Some (i + j)
found c i [] j n h = absurd (omega (arith, h))
found c i (s ∷ ss) zero n h = let t = both_true s.board s.board s.oid s.oid refl refl in let e : i ≡ i + 0 = omega arith in rw t (ap (λ x. Some x) e)
found c i (s ∷ ss) (suc j) n h =
    let b = (get_or ss j no_stepper).board in
    let o = (get_or ss j no_stepper).oid in
    let low = least (λ x. c x + cond (eqb s.board x) 1 0) ss j n.1 (omega (arith, h)) in
    let rest = found (λ x. c x + cond (eqb s.board x) 1 0) (i + 1) ss j n.1 (omega (arith, h)) in
    let e : i + 1 + j ≡ i + suc j = omega arith in
    elim (eqb_tells s.board b) [
      | inl p ↦ elim (eqb_tells s.oid o) [
        | inl q ↦
            let C : ℕ → Type 0 = λ x. c x + cond (eqb s.board x) 1 0 ≤ o in
            let one : eqb s.board s.board ≡ true = eq-eqb s.board s.board refl in
            let D : Bool → Type 0 = λ t. c s.board + cond t 1 0 ≤ o in
            absurd (let less : c s.board + 1 ≤ o = subst D one (subst C (sym p.1) low) in omega (arith, less, n.0, q.1))
        | inr q ↦ rw (p.0, q.0) (rest ∙ ap (λ x. Some x) e)
      ]
      | inr p ↦ rw p.0 (rest ∙ ap (λ x. Some x) e)
    ]

behind : (i b o : ℕ) (ss : List StepperDef) (q : ℕ) → stepper_place i b o ss ≡ Some q → i ≤ q
behind i b o [] q e = absurd (none_some q e)
behind i b o (s ∷ ss) q e =
    elim (eqb_tells s.board b) [
      | inl p ↦ elim (eqb_tells s.oid o) [
        | inl r ↦ omega (arith, some_same i q (rw (p.0, r.0) at e))
        | inr r ↦ omega (arith, behind (i + 1) b o ss q (rw (p.0, r.0) at e))
      ]
      | inr p ↦ omega (arith, behind (i + 1) b o ss q (rw p.0 at e))
    ]

pub only_there : (i b o : ℕ) (ss : List StepperDef) (j : ℕ) → stepper_place i b o ss ≡ Some (i + j) → ((get_or ss j no_stepper).board ≡ b) × ((get_or ss j no_stepper).oid ≡ o)
only_there i b o [] j e = absurd (none_some (i + j) e)
only_there i b o (s ∷ ss) zero e =
    elim (eqb_tells s.board b) [
      | inl p ↦ elim (eqb_tells s.oid o) [
        | inl r ↦ (p.1, r.1)
        | inr r ↦ absurd (omega (arith, behind (i + 1) b o ss (i + 0) (rw (p.0, r.0) at e)))
      ]
      | inr p ↦ absurd (omega (arith, behind (i + 1) b o ss (i + 0) (rw p.0 at e)))
    ]
only_there i b o (s ∷ ss) (suc j) e =
    let n : i + suc j ≡ i + 1 + j = omega arith in
    elim (eqb_tells s.board b) [
      | inl p ↦ elim (eqb_tells s.oid o) [
        | inl r ↦ absurd (omega (arith, some_same i (i + suc j) (rw (p.0, r.0) at e)))
        | inr r ↦ only_there (i + 1) b o ss j ((rw (p.0, r.0) at e) ∙ ap (λ x. Some x) n)
      ]
      | inr p ↦ only_there (i + 1) b o ss j ((rw p.0 at e) ∙ ap (λ x. Some x) n)
    ]

-- the pulses of a stepper among those of a board
one_found : (m : Machine) (place b : ℕ) (p : Pulse) → stepper_place 0 b p.stepper m.steppers ≡ Some place → pulses_of place (pulse_line m b p) ≡ as_told m place (p ∷ [])
one_found m place b p e =
    let own : (place == place) ≡ true = eq-eqb place place refl in
    ap (λ o. pulses_of place (pulse_at m b p o)) e
    ∙ ap (λ t. (if t then record { tick = p.tick; stepper = place; up = turned (stepper_at m place).inverted p.up } ∷ [] else []) ++ []) own

other_place : (m : Machine) (place b : ℕ) (p : Pulse) (o : Option ℕ) → (o ≡ Some place → ⊥) → pulses_of place (pulse_at m b p o) ≡ []
other_place m place b p None n = refl
other_place m place b p (Some q) n = elim (eqb_tells q place) [ inl e ↦ absurd (n (ap (λ x. Some x) e.1)) | inr e ↦ rw e.0 refl ]

pub board_pulses : (m : Machine) (v : IsValidMachine m) (place : ℕ) (ps : List Pulse) → place < length m.steppers
    → pulses_of place (flat_map (pulse_line m (stepper_at m place).board) ps) ≡ as_told m place (only (stepper_at m place).oid ps)
board_pulses m v place [] h = refl
board_pulses m v place (p ∷ ps) h =
    let b = (stepper_at m place).board in
    let o = (stepper_at m place).oid in
    let more = flat_map (pulse_line m b) ps in
    let zero_more : 0 + place ≡ place = omega arith in
    let rest = board_pulses m v place ps h in
    pulses_append place (pulse_line m b p) more ∙ elim (eqb_tells p.stepper o) [
      | inl e ↦
          let there : stepper_place 0 b p.stepper m.steppers ≡ Some place = ap (λ x. stepper_place 0 b x m.steppers) e.1 ∙ found (λ x. 0) 0 m.steppers place (numbered m v) h ∙ ap (λ x. Some x) zero_more in
          rw e.0 (ap (λ x. x ++ pulses_of place more) (one_found m place b p there) ∙ ap (λ x. as_told m place (p ∷ []) ++ x) rest)
      | inr e ↦
          let away = λ (f : stepper_place 0 b p.stepper m.steppers ≡ Some place). e.1 (sym (only_there 0 b p.stepper m.steppers place (f ∙ ap (λ x. Some x) (sym zero_more))).1) in
          rw e.0 (ap (λ x. x ++ pulses_of place more) (other_place m place b p (stepper_place 0 b p.stepper m.steppers) away) ∙ rest)
    ]

other_board : (m : Machine) (place b : ℕ) (ps : List Pulse) → (stepper_at m place).board ≢ b → pulses_of place (flat_map (pulse_line m b) ps) ≡ []
other_board m place b [] n = refl
other_board m place b (p ∷ ps) n =
    let zero_more : place ≡ 0 + place = omega arith in
    let away = λ (f : stepper_place 0 b p.stepper m.steppers ≡ Some place). n (only_there 0 b p.stepper m.steppers place (f ∙ ap (λ x. Some x) zero_more)).0 in
    pulses_append place (pulse_line m b p) (flat_map (pulse_line m b) ps)
    ∙ ap (λ x. x ++ pulses_of place (flat_map (pulse_line m b) ps)) (other_place m place b p (stepper_place 0 b p.stepper m.steppers) away) ∙ other_board m place b ps n

-- and among those of all boards
none_after : (m : Machine) (place i : ℕ) (states : List State) → (stepper_at m place).board < i → pulses_of place (pulse_lines m i states) ≡ []
none_after m place i [] h = refl
none_after m place i (s ∷ states) h =
    pulses_append place (flat_map (pulse_line m i) s.pulses) (pulse_lines m (i + 1) states)
    ∙ ap (λ x. x ++ pulses_of place (pulse_lines m (i + 1) states)) (other_board m place i s.pulses (λ e. omega (arith, e, h))) ∙ none_after m place (i + 1) states (omega (arith, h))

pub states_pulses : (m : Machine) (v : IsValidMachine m) (place i j : ℕ) (states : List State) → place < length m.steppers → i + j ≡ (stepper_at m place).board
    → pulses_of place (pulse_lines m i states) ≡ flat_map (λ (s : State). as_told m place (only (stepper_at m place).oid s.pulses)) (item j states)
states_pulses m v place i j [] h e = none_item j where
  none_item : (j : ℕ) → [] ≡ flat_map (λ (s : State). as_told m place (only (stepper_at m place).oid s.pulses)) (item j [])
  none_item zero = refl
  none_item (suc j) = refl
states_pulses m v place i zero (s ∷ states) h e =
    let same : i ≡ (stepper_at m place).board = omega (arith, e) in
    let later = pulse_lines m (i + 1) states in
    pulses_append place (flat_map (pulse_line m i) s.pulses) later
    ∙ ap (λ x. pulses_of place (flat_map (pulse_line m x) s.pulses) ++ pulses_of place later) same
    ∙ ap (λ x. x ++ pulses_of place later) (board_pulses m v place s.pulses h)
    ∙ ap (λ x. as_told m place (only (stepper_at m place).oid s.pulses) ++ x) (none_after m place (i + 1) states (omega (arith, e)))
states_pulses m v place i (suc j) (s ∷ states) h e =
    pulses_append place (flat_map (pulse_line m i) s.pulses) (pulse_lines m (i + 1) states)
    ∙ ap (λ x. x ++ pulses_of place (pulse_lines m (i + 1) states)) (other_board m place i s.pulses (λ f. omega (arith, e, f)))
    ∙ states_pulses m v place (i + 1) j states h (omega (arith, e))

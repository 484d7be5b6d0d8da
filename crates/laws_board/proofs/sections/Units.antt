-- The commands of a unit: what is known behind them, and when they are good.
use Rattle.std.proofs.Common.{◌≡◌, ◌≢◌, ℕ, Bool, true, false, ◌%◌, ◌^◌, List, [], ◌∷◌, ◌++◌, map, Option, Some, None, refl, ap, sym, ◌∙◌, subst, inl, inr, append_assoc, rules}
use Rattle.laws_board.proofs.Names.{eqb_tells, reset_commands, dir_commands, step_command, plain, unit_orders, StepUnit}
use Rattle.std.specs.Prelude.{◌==◌, if◌then◌else◌}
use Rattle.msg_code.specs.Units.{bit}
use Rattle.laws_board.specs.sections.Known.{Sent, sent_at, Known, knows, known_from, more_steps, IsGoodTriple, IsGoodReset, IsGood, AreGoodFrom}
use Rattle.section_units.specs.Sections.{dir_after, ticks_meant}
use Rattle.laws_board.proofs.sections.Lists.{known_append, sent_append}
use Rattle.laws_board.proofs.sections.Ticks.{orders_are}

abbrev pub clock_after : ℕ → Option ℕ → ℕ
clock_after clock None = clock
clock_after clock (Some tick) = tick % 2 ^ 32

-- what is known of the stepper behind one of its units
abbrev pub behind_unit : ℕ → Known → StepUnit → Known
behind_unit oid k u = more_steps oid (record k { clock = clock_after k.clock u.reset; up = dir_after k.up u.up }) (ticks_meant u)

pub at_own : {A : Type 0} (other : ℕ) (a b : A) → (if other == other then a else b) ≡ a
at_own other a b = elim (eqb_tells other other) [ inl p ↦ rw p.0 refl | inr p ↦ absurd (p.1 refl) ]

pub at_others : {A : Type 0} (other oid : ℕ) (a b : A) → other ≢ oid → (if other == oid then a else b) ≡ b
at_others other oid a b ne = elim (eqb_tells other oid) [ inl p ↦ absurd (ne p.1) | inr p ↦ rw p.0 refl ]

pub dir_is : (up : Bool) → (bit up == 1) ≡ up
dir_is true = refl
dir_is false = refl

-- the commands one by one
abbrev resets : ℕ → StepUnit → Option ℕ → List Sent
resets turn u o = sent_at turn (map plain (reset_commands u.stepper o))

abbrev dirs : ℕ → StepUnit → Option Bool → List Sent
dirs turn u o = sent_at turn (map plain (dir_commands u.stepper o))

abbrev pub step_sent : ℕ → StepUnit → Sent
step_sent turn u = record { turn = turn; order = record { command = step_command u; ticks = ticks_meant u } }

abbrev pub ahead_of_step : ℕ → StepUnit → List Sent
ahead_of_step turn u = resets turn u u.reset ++ dirs turn u u.up

pub unit_is : (turn : ℕ) (u : StepUnit) → sent_at turn (unit_orders u) ≡ ahead_of_step turn u ++ step_sent turn u ∷ []
unit_is turn u =
    ap (sent_at turn) (orders_are u)
    ∙ sent_append turn (map plain (reset_commands u.stepper u.reset)) (map plain (dir_commands u.stepper u.up) ++ record { command = step_command u; ticks = ticks_meant u } ∷ [])
    ∙ ap (λ x. resets turn u u.reset ++ x) (sent_append turn (map plain (dir_commands u.stepper u.up)) (record { command = step_command u; ticks = ticks_meant u } ∷ []))
    ∙ sym (append_assoc (resets turn u u.reset) (dirs turn u u.up) (step_sent turn u ∷ []))

reset_known : (turn : ℕ) (k : Known) (u : StepUnit) (o : Option ℕ) → known_from u.stepper k (resets turn u o) ≡ record k { clock = clock_after k.clock o }
reset_known turn k u None = refl
reset_known turn k u (Some tick) = at_own u.stepper (record k { clock = tick % 2 ^ 32 }) k

dir_known : (turn : ℕ) (k : Known) (u : StepUnit) (o : Option Bool) → known_from u.stepper k (dirs turn u o) ≡ record k { up = dir_after k.up o }
dir_known turn k u None = refl
dir_known turn k u (Some up) = at_own u.stepper (record k { up = bit up == 1 }) k ∙ ap (λ x. record k { up = x }) (dir_is up)

pub ahead_known : (turn : ℕ) (k : Known) (u : StepUnit) → known_from u.stepper k (ahead_of_step turn u) ≡ record k { clock = clock_after k.clock u.reset; up = dir_after k.up u.up }
ahead_known turn k u = search (rules, known_append, reset_known, dir_known)

pub own_known : (turn : ℕ) (k : Known) (u : StepUnit) → known_from u.stepper k (sent_at turn (unit_orders u)) ≡ behind_unit u.stepper k u
own_known turn k u = search (rules, unit_is, known_append, ahead_known, at_own)

-- of other steppers nothing more is known
reset_others : (turn oid : ℕ) (k : Known) (u : StepUnit) (o : Option ℕ) → u.stepper ≢ oid → known_from oid k (resets turn u o) ≡ k
reset_others turn oid k u None ne = refl
reset_others turn oid k u (Some tick) ne = at_others u.stepper oid (record k { clock = tick % 2 ^ 32 }) k ne

dir_others : (turn oid : ℕ) (k : Known) (u : StepUnit) (o : Option Bool) → u.stepper ≢ oid → known_from oid k (dirs turn u o) ≡ k
dir_others turn oid k u None ne = refl
dir_others turn oid k u (Some up) ne = at_others u.stepper oid (record k { up = bit up == 1 }) k ne

pub ahead_others : (turn oid : ℕ) (k : Known) (u : StepUnit) → u.stepper ≢ oid → known_from oid k (ahead_of_step turn u) ≡ k
ahead_others turn oid k u ne =
    known_append oid k (resets turn u u.reset) (dirs turn u u.up) ∙ ap (λ x. known_from oid x (dirs turn u u.up)) (reset_others turn oid k u u.reset ne) ∙ dir_others turn oid k u u.up ne

pub others_known : (turn oid : ℕ) (k : Known) (u : StepUnit) → u.stepper ≢ oid → known_from oid k (sent_at turn (unit_orders u)) ≡ k
others_known turn oid k u ne =
    ap (known_from oid k) (unit_is turn u) ∙ known_append oid k (ahead_of_step turn u) (step_sent turn u ∷ [])
    ∙ ap (λ x. known_from oid x (step_sent turn u ∷ [])) (ahead_others turn oid k u ne) ∙ at_others u.stepper oid (more_steps oid k (ticks_meant u)) k ne

-- a unit is good for its stepper: the clock that is set, where one is, and the triple
abbrev pub IsGoodClock : (ℕ → ℕ) → ℕ → Known → Option ℕ → Type 0
IsGoodClock own turn k None = Unit {0}
IsGoodClock own turn k (Some tick) = IsGoodReset own turn k

pub record IsGoodUnit (own : ℕ → ℕ) (slots turn : ℕ) (k : Known) (u : StepUnit) : Type 0 where
  pub made : k.made ≡ true
  pub clock : IsGoodClock own turn k u.reset
  pub triple : IsGoodTriple own slots turn (record k { clock = clock_after k.clock u.reset; up = dir_after k.up u.up }) u.triple (ticks_meant u)

pub good_append : (own : ℕ → ℕ) (slots oid : ℕ) (k : Known) (ss ts : List Sent) → AreGoodFrom own slots oid k ss → AreGoodFrom own slots oid (known_from oid k ss) ts
    → AreGoodFrom own slots oid k (ss ++ ts)
good_append own slots oid k [] ts a b = b
good_append own slots oid k (s ∷ ss) ts a b = (a.0, good_append own slots oid (knows oid k s.order) ss ts a.1 b)

good_reset : (own : ℕ → ℕ) (slots turn oid : ℕ) (k : Known) (u : StepUnit) (o : Option ℕ) → (u.stepper ≡ oid → IsGoodClock own turn k o) → AreGoodFrom own slots oid k (resets turn u o)
good_reset own slots turn oid k u None g = tt
good_reset own slots turn oid k u (Some tick) g = (g, tt)

good_dir : (own : ℕ → ℕ) (slots turn oid : ℕ) (k : Known) (u : StepUnit) (o : Option Bool) → (u.stepper ≡ oid → k.made ≡ true) → AreGoodFrom own slots oid k (dirs turn u o)
good_dir own slots turn oid k u None g = tt
good_dir own slots turn oid k u (Some up) g = (g, tt)

-- the commands ahead of a unit's triple are good for every stepper
pub good_ahead : (own : ℕ → ℕ) (slots turn oid : ℕ) (k : Known) (u : StepUnit) → (u.stepper ≡ oid → k.made ≡ true) → (u.stepper ≡ oid → IsGoodClock own turn k u.reset)
    → AreGoodFrom own slots oid k (ahead_of_step turn u)
good_ahead own slots turn oid k u made clock = search (rules, good_append, good_reset, good_dir, reset_known)

pub good_step : (own : ℕ → ℕ) (slots turn oid : ℕ) (k : Known) (u : StepUnit) → (u.stepper ≡ oid → IsGoodUnit own slots turn k u)
    → IsGood own slots oid (known_from oid k (ahead_of_step turn u)) (step_sent turn u)
good_step own slots turn oid k u g = search (rules, ahead_known)

pub good_unit : (own : ℕ → ℕ) (slots turn oid : ℕ) (k : Known) (u : StepUnit) → (u.stepper ≡ oid → IsGoodUnit own slots turn k u) → AreGoodFrom own slots oid k (sent_at turn (unit_orders u))
good_unit own slots turn oid k u g =
    let At : List Sent → Type 0 = λ x. AreGoodFrom own slots oid k x in
    subst At (sym (unit_is turn u))
    (good_append own slots oid k (ahead_of_step turn u) (step_sent turn u ∷ []) (good_ahead own slots turn oid k u (λ e. (g e).made) (λ e. (g e).clock))
    (good_step own slots turn oid k u g, tt))

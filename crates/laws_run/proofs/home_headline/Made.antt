-- The steppers of a board that are used in a run in which axes home are the board's.
use Rattle.std.proofs.Common.{◌≡◌, ◌≢◌, ℕ, suc, ◌+◌, ◌<◌, ◌≤◌, ◌⊎◌, false, List, [], ◌∷◌, ◌++◌, All, length, take, Option, Some, None, refl, ap, sym, ◌∙◌, subst, arith, inl, inr}
use Rattle.laws_board.proofs.Names.{leb_tells, All-head, All-tail, Level, Machine, SectionKind, Home, Moves, Clocks, IsValidMachine, board_at, stepper_at, clocks_at, Cmd, Entry, Switch, orders, Orders, Homing, members_of, Connecting, noted, Came, known_by, units_of, of_stepper, AreStarted, Started}
use Rattle.plan_types.specs.Sections.{section_plans}
use Rattle.msg_code.specs.declared.cmd.Cmd.TheVariants as cmd
use Rattle.laws_board.specs.turns.Turns.{BoardTurn}
use Rattle.laws_board.specs.clocks.Ordered.{MayOrder, SetsClocks}
use Rattle.laws_board.specs.clocks.Runs.{IsInRun, orders_in}
use Rattle.laws_board.proofs.clocks.Lines.{as_long, run_before}
use Rattle.laws_board.proofs.clocks.Ordering.{may_order}
use Rattle.section_units.specs.Plans.{plans_on}
use Rattle.section_units.proofs.Fronting.{of_front}
use Rattle.laws_board.specs.sections.Homes.{HasUnits, IsControlIn, IsSetting, RunSection, SomeSets, SetsAny, SetsClock}
use Rattle.motion_work.specs.Homes.{before_turn}
use Rattle.motion_work.specs.Seen.{IsMoved, IsPlanned, part_on}
use Rattle.motion_work.proofs.Boardwise.{moved_is}
use Rattle.motion_work.proofs.Sending.{cut_front}
use Rattle.laws_board.proofs.plans.Placing.{count_is, count_on}
use Rattle.laws_board.proofs.plans.Sitting.{past, place_on, plans_few}
use Rattle.laws_homing.specs.home_runs.Sections.{IsOf}
use Rattle.laws_homing.proofs.home_runs.Forming.{IsFormed, known_formed, moves_is, noted_formed}
use Rattle.laws_homing.proofs.home_runs.Resetting.{AllSetOf, MovesAs, SetsOf, turn_sets}
use Rattle.laws_homing.specs.home_plans.Notes.{CameNotes, HoldControlsIn, WasBegun}
use Rattle.laws_homing.proofs.home_plans.Knowing.{now_was}
use Rattle.laws_homing.specs.home_parts.Answers.{ArePastConnecting}
use Rattle.laws_homing.specs.home_parts.Cuts.{cuts_on}
use Rattle.laws_homing.specs.home_parts.Movers.{HaveMovers}
use Rattle.laws_homing.proofs.home_parts.Movers.{no_units, none_left}

-- an object id is that of a stepper of a board
pub record IsOwn (m : Machine) (b oid : ℕ) : Type 0 where
  pub stepper : ℕ
  pub there : stepper < length m.steppers
  pub on : (stepper_at m stepper).board ≡ b
  pub oid_is : (stepper_at m stepper).oid ≡ oid

-- what a command says that sets a clock
set_one : (clocks : Clocks) (ss : List RunSection) (turn oid : ℕ) (c : Cmd) → IsControlIn clocks ss turn c → IsSetting oid c → (clock : ℕ) × SetsClock clocks ss turn clock
set_one clocks ss turn oid (cmd.ResetStepClock other clock) a e = (clock, a)
set_one clocks ss turn oid c a e = absurd e

set_control : (clocks : Clocks) (ss : List RunSection) (turn oid : ℕ) (cs : List Cmd) → All (IsControlIn clocks ss turn) cs → SomeSets oid cs → (clock : ℕ) × SetsClock clocks ss turn clock
set_control clocks ss turn oid [] a s = absurd s
set_control clocks ss turn oid (c ∷ cs) a (inl e) = set_one clocks ss turn oid c (All-head (IsControlIn clocks ss turn) c cs a) e
set_control clocks ss turn oid (c ∷ cs) a (inr s) = set_control clocks ss turn oid cs (All-tail (IsControlIn clocks ss turn) c cs a) s

may_one : (h : Option Homing) (turn oid : ℕ) (c : Cmd) → MayOrder h turn c → IsSetting oid c → SetsClocks h turn
may_one h turn oid (cmd.ResetStepClock other clock) a e = a
may_one h turn oid c a e = absurd e

may_set : (h : Option Homing) (turn oid : ℕ) (cs : List Cmd) → All (MayOrder h turn) cs → SomeSets oid cs → SetsClocks h turn
may_set h turn oid [] a s = absurd s
may_set h turn oid (c ∷ cs) a (inl e) = may_one h turn oid c (All-head (MayOrder h turn) c cs a) e
may_set h turn oid (c ∷ cs) a (inr s) = may_set h turn oid cs (All-tail (MayOrder h turn) c cs a) s

of_one : (P : ℕ → Type 0) (oid : ℕ) (c : Cmd) → SetsOf P c → IsSetting oid c → P oid
of_one P oid (cmd.ResetStepClock other clock) p e = subst P e p
of_one P oid c p e = absurd e

of_set : (P : ℕ → Type 0) (oid : ℕ) (cs : List Cmd) → AllSetOf P cs → SomeSets oid cs → P oid
of_set P oid [] a s = absurd s
of_set P oid (c ∷ cs) a (inl e) = of_one P oid c a.0 e
of_set P oid (c ∷ cs) a (inr s) = of_set P oid cs a.1 s

-- the sections start behind connecting
set_late : (clocks : Clocks) (ss : List RunSection) (ready turn clock : ℕ) → All (λ s. ready + 260 ≤ s.section.start) ss → SetsClock clocks ss turn clock → ready < turn
set_late clocks [] ready turn clock a s = absurd s
set_late clocks (x ∷ ss) ready turn clock a (inl h) =
    let P : RunSection → Type 0 = λ y. ready + 260 ≤ y.section.start in
    let far = All-head P x ss a in
    let soon = h.1 in
    omega (arith, far, soon)
set_late clocks (x ∷ ss) ready turn clock a (inr s) = set_late clocks ss ready turn clock (All-tail (λ (y : RunSection). ready + 260 ≤ y.section.start) x ss a) s

-- turns
sets_either : (oid : ℕ) (xs ys : List Orders) → SetsAny oid (xs ++ ys) → SetsAny oid xs ⊎ SetsAny oid ys
sets_either oid [] ys s = inr s
sets_either oid (x ∷ xs) ys (inl s) = inl (inl s)
sets_either oid (x ∷ xs) ys (inr s) = elim (sets_either oid xs ys s) [ inl a ↦ inl (inr a) | inr b ↦ inr b ]

module _ (m : Machine) (switches : List Switch) (pins : List (List Level)) (entries : List Entry) (b ready : ℕ) (clocks : Clocks) (begun : List Started) (ss : List RunSection) (late : All (λ s. ready + 260 ≤ s.section.start) ss) where
  one_turn : (c : Came) (before : List Came) (t : BoardTurn) (turns : List BoardTurn) (oid : ℕ) → IsInRun m switches pins entries b (c ∷ before) (t ∷ turns) → CameNotes begun (c ∷ before) → All (IsControlIn clocks ss (length before)) t.control.commands
      → (ready < length before → (known_by m switches before).phase ≡ Connecting → ⊥) → SomeSets oid t.control.commands → IsOwn m b oid
  one_turn c before t turns oid r notes hold past s =
      let set = set_control clocks ss (length before) oid t.control.commands hold s in
      let on = past (set_late clocks ss ready (length before) set.0 late set.1) in
      let n = noted m c.note (known_by m switches before) in
      by n.homing refl on (may_set n.homing (length before) oid t.control.commands (may_order m switches pins entries b c before t turns r) s)
    where
      by : (o : Option Homing) → (noted m c.note (known_by m switches before)).homing ≡ o → ((known_by m switches before).phase ≡ Connecting → ⊥) → SetsClocks (noted m c.note (known_by m switches before)).homing (length before) → IsOwn m b oid
      by None e on may = let May : Option Homing → Type 0 = λ o. SetsClocks o (length before) in absurd (subst May e may)
      by (Some h) e on may =
          let Was : Option Homing → Type 0 = λ o. WasBegun begun o in
          let was = subst Was e (now_was m switches begun c before r.goes_on.1 notes) in
          let of : IsOf h.start (members_of h.group) (Some h) = (refl, was.7 ∙ sym was.6, refl) in
          let Of : Option Homing → Type 0 = λ o. IsOf h.start (members_of h.group) o in
          let sets = turn_sets m switches pins entries b c before t turns h.start (members_of h.group) r on (subst Of (sym e) of) in
          let own = of_set (MovesAs m b (members_of h.group)) oid t.control.commands sets s in
          let Formed : Option Homing → Type 0 = λ o. IsFormed m o in
          let formed = subst Formed e (noted_formed m c.note (known_by m switches before) (known_formed m switches before r.goes_on.1)) in
          let is = moves_is m h b own.0 formed own.1 in
          record { stepper = own.0; there = is.0; on = is.1; oid_is = own.2 }

  pub set_own : (came : List Came) (turns : List BoardTurn) (oid : ℕ) → IsInRun m switches pins entries b came turns → CameNotes begun came → HoldControlsIn clocks ss turns → ArePastConnecting m switches ready came → SetsAny oid (orders_in turns) → IsOwn m b oid
  set_own [] [] oid r notes hold past s = absurd s
  set_own [] (t ∷ turns) oid r notes hold past s = absurd r.both
  set_own (c ∷ before) [] oid r notes hold past s = absurd r.both
  set_own (c ∷ before) (t ∷ turns) oid r notes hold past s = elim (sets_either oid (orders_in turns) (orders t.control t.batch ∷ []) s) [
    | inl a ↦ set_own before turns oid (run_before m switches pins entries b c before t turns r) notes.1 hold.1 past.1 a
    | inr a ↦ elim a [
      | inl x ↦
          let long = as_long m switches b before turns r.both.2 in
          let At : ℕ → Type 0 = λ n. All (IsControlIn clocks ss n) t.control.commands in
          one_turn c before t turns oid r notes (subst At (sym long) hold.0) past.0 x
      | inr x ↦ absurd x
    ]
  ]

moves_own : (m : Machine) (v : IsValidMachine m) (clocks : List Clocks) (b until oid : ℕ) (s : Started) → IsMoved m clocks s → b < length m.boards → of_stepper oid (units_of (before_turn until (part_on m clocks s b).releases)) ≢ [] → IsOwn m b oid
moves_own m v clocks b until oid s h small some = elim (leb_tells (suc oid) (count_on b m.steppers)) [
  | inl p ↦
      let at = place_on b m.steppers oid p.1 in
      record { stepper = at.0; there = at.1; on = at.2; oid_is = (v.steppers at.0 at.1).oid ∙ count_is (stepper_at m at.0).board (take at.0 m.steppers) ∙ ap (λ n. count_on n (take at.0 m.steppers)) at.2 ∙ at.3 }
  | inr p ↦
      let i = moved_is m clocks s b h small in
      let rs = (part_on m clocks s b).releases in
      let far = p.1 in
      let none = past (plans_on m clocks s.section.moves s.start b) oid (let few = plans_few b m.steppers (section_plans m clocks s.section.moves s.start) in omega (arith, few, far)) in
      let all = no_units false oid (clocks_at clocks b) _ (of_stepper oid (units_of rs)) (i.begun oid) (i.whole oid ∙ ap length none) in
      let f = cut_front (clocks_at clocks b) (board_at m b).slots until i.from [] rs i.paced in
      let cut = before_turn until rs in
      absurd (some (none_left (of_stepper oid (units_of cut)) (of_stepper oid (units_of f.0)) (sym (of_front oid cut f.0) ∙ ap (λ x. of_stepper oid (units_of x)) (sym f.1) ∙ all)))
]

-- of any section
unit_own : (kind : SectionKind) (m : Machine) (v : IsValidMachine m) (clocks : List Clocks) (b until oid : ℕ) (s : Started) → kind ≡ s.section.kind → IsPlanned kind m clocks s → b < length m.boards
    → ((axis : ℕ) → s.section.kind ≡ Home axis → of_stepper oid (units_of (before_turn until (part_on m clocks s b).releases)) ≢ [] → IsOwn m b oid) → of_stepper oid (units_of (before_turn until (part_on m clocks s b).releases)) ≢ [] → IsOwn m b oid
unit_own Moves m v clocks b until oid s e h small homes some = moves_own m v clocks b until oid s h small some
unit_own (Home axis) m v clocks b until oid s e h small homes some = homes axis (sym e) some

pub units_own : (m : Machine) (v : IsValidMachine m) (clocks : List Clocks) (b until ready oid : ℕ) (begun : List Started) → b < length m.boards → AreStarted m clocks ready begun → HaveMovers m clocks until b begun → HasUnits oid (cuts_on m clocks until begun b) → IsOwn m b oid
units_own m v clocks b until ready oid [] small h have u = absurd u
units_own m v clocks b until ready oid (s ∷ begun) small h have (inl some) =
    unit_own s.section.kind m v clocks b until oid s refl h.0.planned small (λ axis home more. let x = have.0 axis oid home more in record { stepper = x.stepper; there = x.there; on = x.on; oid_is = x.oid_is }) some
units_own m v clocks b until ready oid (s ∷ begun) small h have (inr u) = units_own m v clocks b until (s.end + 260) oid begun small h.1 have.1 u

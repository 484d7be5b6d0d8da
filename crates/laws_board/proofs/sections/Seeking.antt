-- Which unit a triple that was queued belongs to.
use Rattle.std.proofs.Common.{◌≡◌, ℕ, Bool, true, false, ◌+◌, ◌⊎◌, List, [], ◌∷◌, ◌++◌, length, map, drop, All, Option, Some, None, refl, ap, sym, ◌∙◌, subst, inl, inr, rules}
use Rattle.laws_board.proofs.Names.{eqb_tells, take-append-drop, All-head, All-tail, flat_map, Level, BoardDef, Shut, Clocks, Cmd, reset_commands, dir_commands, step_command, Meant, plain, unit_orders, units_orders, Step, run_world, new_world, StepUnit, Release, batch_at, units_of, Orders, queued_in, BoardSection, base_of, of_stepper}
use Rattle.std.specs.Prelude.{slice_index}
use Rattle.link_work.specs.Late.{IsSteps}
use Rattle.msg_code.specs.declared.cmd.Cmd.TheVariants as cmd
use Rattle.board_sim.specs.Board.{new_controller}
use Rattle.board_world.proofs.Causes.{was_shut}
use Rattle.laws_board.specs.sections.Late.{IsIn, IsLateUnit}
use Rattle.section_units.specs.Sections.{AreBegunBy, AreChained, ticks_meant}
use Rattle.laws_board.specs.sections.Courses.{IsGoodRun}
use Rattle.laws_board.specs.sections.Homes.{AreOrdersIn, IsControlIn, IsHomeRun, IsSectionBy, RunSection}
use Rattle.laws_board.proofs.sections.Wholes.{sent_orders}
use Rattle.laws_board.proofs.sections.Halted.{all_fair, at_end}
use Rattle.laws_board.proofs.sections.Naming.{late_names}
use Rattle.laws_board.proofs.sections.Ticks.{orders_are}

-- something is one of a list
abbrev pub Among : {X : Type 0} → X → List X → Type 0
Among x [] = ⊥
Among x (y ∷ ys) = (x ≡ y) ⊎ Among x ys

pub among_split : {X : Type 0} (x : X) (xs ys : List X) → Among x (xs ++ ys) → Among x xs ⊎ Among x ys
among_split x [] ys a = inr a
among_split x (z ∷ xs) ys (inl e) = inl (inl e)
among_split x (z ∷ xs) ys (inr a) = elim (among_split x xs ys a) [ inl p ↦ inl (inr p) | inr p ↦ inr p ]

among_there : {X : Type 0} (x : X) (before behind : List X) → Among x (before ++ x ∷ behind)
among_there x [] behind = inl refl
among_there x (y ∷ before) behind = inr (among_there x before behind)

pub among_first : {X : Type 0} (x : X) (xs ys : List X) → Among x xs → Among x (xs ++ ys)
among_first x [] ys a = absurd a
among_first x (z ∷ xs) ys (inl e) = inl e
among_first x (z ∷ xs) ys (inr a) = inr (among_first x xs ys a)

pub among_of : {X : Type 0} (x : X) (xs : List X) → IsIn x xs → Among x xs
among_of {X} x xs i = let At : List X → Type 0 = λ t. Among x t in subst At (sym i.2) (among_there x i.0 i.1)

is_in : {X : Type 0} (x : X) (xs : List X) → Among x xs → IsIn x xs
is_in x [] a = absurd a
is_in x (y ∷ xs) (inl e) = ([], xs, ap (λ t. t ∷ xs) (sym e))
is_in x (y ∷ xs) (inr a) = let i = is_in x xs a in (y ∷ i.0, i.1, ap (λ t. y ∷ t) i.2)

among_all : {X : Type 0} (P : X → Type 0) (x : X) (xs : List X) → Among x xs → All P xs → P x
among_all P x [] a all = absurd a
among_all P x (y ∷ xs) (inl e) all = subst P (sym e) (All-head P y xs all)
among_all P x (y ∷ xs) (inr a) all = among_all P x xs a (All-tail P y xs all)

-- no control command is a triple
not_both : (clocks : Clocks) (ss : List RunSection) (turn : ℕ) (c : Cmd) → IsControlIn clocks ss turn c → IsSteps c → ⊥
not_both clocks ss turn (cmd.QueueStep oid interval count add) k s = k
not_both clocks ss turn _ k s = s

no_control : (clocks : Clocks) (ss : List RunSection) (turn : ℕ) (m : Meant) (cs : List Cmd) → Among m (map plain cs) → All (IsControlIn clocks ss turn) cs → IsSteps m.command → ⊥
no_control clocks ss turn m [] a h s = a
no_control clocks ss turn m (c ∷ cs) (inl e) h s = not_both clocks ss turn c (All-head (IsControlIn clocks ss turn) c cs h) (let At : Meant → Type 0 = λ x. IsSteps x.command in subst At e s)
no_control clocks ss turn m (c ∷ cs) (inr a) h s = no_control clocks ss turn m cs a (All-tail (IsControlIn clocks ss turn) c cs h) s

no_reset : (m : Meant) (oid : ℕ) (o : Option ℕ) → Among m (map plain (reset_commands oid o)) → IsSteps m.command → ⊥
no_reset m oid None a s = a
no_reset m oid (Some tick) (inl e) s = let At : Meant → Type 0 = λ x. IsSteps x.command in subst At e s
no_reset m oid (Some tick) (inr a) s = a

no_dir : (m : Meant) (oid : ℕ) (o : Option Bool) → Among m (map plain (dir_commands oid o)) → IsSteps m.command → ⊥
no_dir m oid None a s = a
no_dir m oid (Some up) (inl e) s = let At : Meant → Type 0 = λ x. IsSteps x.command in subst At e s
no_dir m oid (Some up) (inr a) s = a

-- a unit's triple
in_unit : (m : Meant) (u : StepUnit) → Among m (unit_orders u) → IsSteps m.command → m.ticks ≡ ticks_meant u
in_unit m u a s = search (rules, plain, dir_commands, step_command, among_split, reset_commands, orders_are, no_reset, no_dir)

in_units : (m : Meant) (us : List StepUnit) → Among m (units_orders us) → IsSteps m.command → (u : StepUnit) × Among u us × (m.ticks ≡ ticks_meant u)
in_units m [] a s = absurd a
in_units m (u ∷ us) a s = elim (among_split m (unit_orders u) (units_orders us) a) [
  | inl p ↦ (u, inl refl, in_unit m u p s)
  | inr p ↦ let r = in_units m us p s in (r.0, inr r.1, r.2)
]

in_batch : (u : StepUnit) (k : ℕ) (rs : List Release) → Among u (batch_at k rs) → (r : Release) × Among r rs × (u ≡ r.unit)
in_batch u k [] a = absurd a
in_batch u k (r ∷ rs) a = elim (eqb_tells r.turn k) [
  | inl p ↦ elim (rw p.0 at a) [ inl e ↦ (r, inl refl, e) | inr n ↦ let x = in_batch u k rs n in (x.0, inr x.1, x.2) ]
  | inr p ↦ let x = in_batch u k rs (rw p.0 at a) in (x.0, inr x.1, x.2)
]

in_sections : (u : StepUnit) (k : ℕ) (ss : List RunSection) → Among u (flat_map (λ s. batch_at k s.section.releases) ss) → (s : RunSection) × (r : Release) × Among s ss × Among r s.section.releases × (u ≡ r.unit)
in_sections u k [] a = absurd a
in_sections u k (s ∷ ss) a = elim (among_split u (batch_at k s.section.releases) (flat_map (λ (x : RunSection). batch_at k x.section.releases) ss) a) [
  | inl p ↦ let x = in_batch u k s.section.releases p in (s, x.0, inl refl, x.1, x.2)
  | inr p ↦ let x = in_sections u k ss p in (x.0, x.1, inr x.2, x.3, x.4)
]

among_map : (s : RunSection) (ss : List RunSection) → Among s ss → Among s.section (map (λ x. x.section) ss)
among_map s [] a = absurd a
among_map s (x ∷ ss) (inl e) = inl (ap (λ (y : RunSection). y.section) e)
among_map s (x ∷ ss) (inr a) = inr (among_map s ss a)

abbrev FromSection : List RunSection → Meant → Type 0
FromSection ss m = (s : RunSection) × (r : Release) × Among s ss × Among r s.section.releases × (m.ticks ≡ ticks_meant r.unit)

in_turns : (clocks : Clocks) (m : Meant) (ss : List RunSection) (k : ℕ) (os : List Orders) → AreOrdersIn clocks ss k os → Among m (flat_map queued_in os) → IsSteps m.command → FromSection ss m
in_turns clocks m ss k [] h a s = absurd a
in_turns clocks m ss k (o ∷ os) h a s = elim (among_split m (queued_in o) (flat_map queued_in os) a) [
  | inl p ↦ elim (among_split m (map plain o.control.commands) (units_orders o.batch.units) p) [
    | inl q ↦ absurd (no_control clocks ss k m o.control.commands q h.0 s)
    | inr q ↦
        let u = in_units m o.batch.units q s in
        let At : List StepUnit → Type 0 = λ x. Among u.0 x in
        let x = in_sections u.0 k ss (subst At h.1 u.1) in
        (x.0, x.1, x.2, x.3, u.2 ∙ ap ticks_meant x.4)
  ]
  | inr p ↦ in_turns clocks m ss (k + 1) os h.2 p s
]

-- the first tick that a unit tells is that of its triple
abbrev pub TellFirst : List StepUnit → Type 0
TellFirst [] = Unit {0}
TellFirst (u ∷ us) = (u.first ≡ slice_index (ticks_meant u) 0) × TellFirst us

pub chained_tell : (clocks : Clocks) (behind : ℕ) (us : List StepUnit) → AreChained clocks behind us → TellFirst us
chained_tell clocks behind [] c = tt
chained_tell clocks behind (u ∷ us) c = (c.1.first, chained_tell clocks u.last us c.2)

pub begun_tell : (homing : Bool) (clocks : Clocks) (base : ℕ) (us : List StepUnit) → AreBegunBy homing clocks base us → TellFirst us
begun_tell homing clocks base [] c = tt
begun_tell homing clocks base (u ∷ us) c = (c.2.first, chained_tell clocks u.last us c.3)

tell_own : (r : Release) (rs : List Release) → Among r rs → TellFirst (of_stepper r.unit.stepper (units_of rs)) → r.unit.first ≡ slice_index (ticks_meant r.unit) 0
tell_own r [] a t = absurd a
tell_own r (q ∷ rs) (inl e) t =
    let At : Release → Type 0 = λ x. TellFirst (of_stepper x.unit.stepper (units_of (q ∷ rs))) in
    let own : TellFirst (of_stepper q.unit.stepper (units_of (q ∷ rs))) = subst At e t in
    let To : Release → Type 0 = λ x. x.unit.first ≡ slice_index (ticks_meant x.unit) 0 in
    subst To (sym e) (elim (eqb_tells q.unit.stepper q.unit.stepper) [ inl p ↦ (rw p.0 at own).0 | inr p ↦ absurd (p.1 refl) ])
tell_own r (q ∷ rs) (inr a) t = elim (eqb_tells q.unit.stepper r.unit.stepper) [ inl p ↦ tell_own r rs a (rw p.0 at t).1 | inr p ↦ tell_own r rs a (rw p.0 at t) ]

begun_by : (homes : Bool) (clocks : Clocks) (freq slots until : ℕ) (stops : ℕ → Option ℕ) (s : BoardSection) → IsSectionBy homes clocks freq slots until stops s → (oid : ℕ) → TellFirst (of_stepper oid (units_of s.releases))
begun_by true clocks freq slots until stops s i oid = begun_tell true clocks (base_of clocks s) (of_stepper oid (units_of s.releases)) (i.begun oid)
begun_by false clocks freq slots until stops s i oid = begun_tell false clocks (base_of clocks s) (of_stepper oid (units_of s.releases)) (i.is.begun oid)

pub late_unit : (b : BoardDef) (pins : List (List Level)) (own : ℕ → ℕ) (clocks : Clocks) (ready : ℕ) (stops : ℕ → Option ℕ) (ss : List RunSection) (os : List Orders) (steps : List Step) (tick first : ℕ)
    → IsHomeRun own clocks b.freq b.slots ready stops ss os → IsGoodRun b pins own stops os steps → (run_world steps (new_world b pins)).board.controller.state ≡ Shut 1 tick first → IsLateUnit (map (λ s. s.section) ss) tick first
unfolding new_controller
late_unit b pins own clocks ready stops ss os steps tick first home r shut =
    let h = run_world steps (new_world b pins) in
    let until = home.tracked.until in
    let P : RunSection → Type 0 = λ s. IsSectionBy s.homes clocks b.freq b.slots until stops s.section in
    let n = late_names steps (new_world b pins) tick first (was_shut steps (new_world b pins) 1 tick first refl shut) (all_fair b pins own stops os steps r) in
    let m = n.0 in
    let k = (at_end b pins own stops os steps r).1 in
    let long = length h.link.taken in
    let queued : h.taken ++ drop long h.queued ≡ flat_map queued_in os =
    ap (λ x. x ++ drop long h.queued) k.ordered.first ∙ take-append-drop long h.queued ∙ sym k.queued ∙ sent_orders 0 os in
    let At : List Meant → Type 0 = λ x. Among m x in
    let x = in_turns clocks m ss 0 os home.orders (subst At queued (among_first m h.taken (drop long h.queued) (among_of m h.taken n.1))) n.2.0 in
    let i = among_all P x.0 ss x.2 home.sections in
    record {
      section = x.0.section;
      release = x.1;
      among = is_in x.0.section (map (λ s. s.section) ss) (among_map x.0 ss x.2);
      within = is_in x.1 x.0.section.releases x.3;
      first_is = tell_own x.1 x.0.section.releases x.3 (begun_by x.0.homes clocks b.freq b.slots until stops x.0.section i x.1.unit.stepper) ∙ ap (λ ts. slice_index ts 0) (sym x.4) ∙ n.2.1;
      late = n.2.2;
    }

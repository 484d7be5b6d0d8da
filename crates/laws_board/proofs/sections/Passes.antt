-- A board with triggers, of which none has a stepper bound, runs on: its pulses lie within the time that passed.
use Rattle.std.proofs.Common.{◌≡◌, ℕ, zero, suc, Bool, false, ◌+◌, ◌/◌, ◌<◌, ◌≤◌, ◌⊎◌, List, [], ◌∷◌, ◌++◌, map, get_or, set, Option, Some, None, refl, ap, sym, ◌∙◌, subst, arith, inl, inr, append_assoc}
use Rattle.laws_board.proofs.Names.{append_cancel_left, length-map, map-append, leb_tells, BoardState, Running, Shut, Planned, Pulse, Pending, Trigger, Controller, Rig, Slot, slot_at, becomes, earliest_moment, runs_to, rests_to, happens_to, goes_on, at_of, passes_by, pass, passes, all_left, only}
use Rattle.std.proofs.lemmas.List.{append_cancel_right}
use Rattle.plan_types.specs.Plan.{pulse_of}
use Rattle.plan_types.specs.Board.{Group, steps_of, pending_steps, ticks_before, ticks_from, unless_left, groups_from, steps_before}
use Rattle.board_trig.specs.Trigger as trig
use Rattle.board_sim.specs.Board.{Passed, stepper_at, slot_to, slot_before, passes_on}
use Rattle.board_sim.specs.Board as board
use Rattle.board_sim.specs.Rig.{levels_of, happens_at}
use Rattle.board_sim.specs.Rig as rig
use Rattle.board_sim.specs.RigRuns.{has}
use Rattle.board_sim.specs.Fair.{IsFairSofar, IsKeptIn, MakesMeant, SlotRises, pending_at}
use Rattle.board_sim.proofs.Keeps.{pass_keeps, slots_at, slot_split}
use Rattle.board_sim.proofs.Sorted.{Up}
use Rattle.board_sim.proofs.Steps.{only-append, before_up, rise_from, split_groups}
use Rattle.laws_board.specs.sections.Known.{Known}
use Rattle.laws_board.proofs.sections.Counts.{ends_fall, end_kept}
use Rattle.laws_board.proofs.sections.Fits.{SlotFits, BoardFits}
use Rattle.laws_board.proofs.sections.Free.{IsFree, happens_same}
use Rattle.board_sim.proofs.Unbound.{set_any}

-- time passes
pub slot_passes : (now t slots : ℕ) (o : Option Pending) (k : Known) → SlotFits now slots o k → SlotFits t slots (slot_to t o) k
slot_passes now t slots None k f = f
slot_passes now t slots (Some q) k f = record {
  made = f.made;
  halted = f.halted;
  slots_are = f.slots_are;
  up = f.up;
  clock = end_kept q.last t q.groups ∙ f.clock;
  rises = rise_from now t q.groups f.rises;
  few = λ x. omega (arith, ends_fall x t q.groups, f.few x);
}

board_passes_on : (now t slots : ℕ) (ks : ℕ → Known) (o : BoardState) (b : Controller) → b.state ≡ o → BoardFits now slots ks b → BoardFits t slots ks (passes_on o b t).board
board_passes_on now t slots ks Running b is f = record {
  running = f.running;
  tick = refl;
  slots_are = f.slots_are;
  places = length-map b.steppers (slot_to t) ∙ f.places;
  each = λ oid. rw (slots_at t oid b.steppers) (slot_passes now t slots (stepper_at b oid) (ks oid) (f.each oid));
}
board_passes_on now t slots ks (Shut r u v) b is f = absurd (clash r u v (sym f.running ∙ is)) where
  clash : (r t f : ℕ) → Running ≡ Shut r t f → ⊥
  clash r t f e = cc

-- pulses from a tick on, and before another
abbrev pub AreBetween : ℕ → ℕ → List Pulse → Type 0
AreBetween low high [] = Unit {0}
AreBetween low high (p ∷ ps) = (low ≤ p.tick) × (p.tick < high) × AreBetween low high ps

pub between_append : (low high : ℕ) (ps qs : List Pulse) → AreBetween low high ps → AreBetween low high qs → AreBetween low high (ps ++ qs)
between_append low high [] qs a b = b
between_append low high (p ∷ ps) qs a b = (a.0, a.1, between_append low high ps qs a.2 b)

pub between_wide : (low high left right : ℕ) (ps : List Pulse) → left ≤ low → high ≤ right → AreBetween low high ps → AreBetween left right ps
between_wide low high left right [] h k a = tt
between_wide low high left right (p ∷ ps) h k a = (omega (arith, h, a.0), omega (arith, k, a.1), between_wide low high left right ps h k a.2)

-- the steps before a tick
abbrev AllBelow : ℕ → List Pulse → Type 0
AllBelow high [] = Unit {0}
AllBelow high (p ∷ ps) = (p.tick < high) × AllBelow high ps

below_append : (high : ℕ) (ps qs : List Pulse) → AllBelow high ps → AllBelow high qs → AllBelow high (ps ++ qs)
below_append high [] qs a b = b
below_append high (p ∷ ps) qs a b = (a.0, below_append high ps qs a.1 b)

below_ticks : (oid t : ℕ) (up : Bool) (ts : List ℕ) → AllBelow t (map (pulse_of oid) (steps_of up (ticks_before t ts)))
below_ticks oid t up [] = tt
below_ticks oid t up (u ∷ us) = elim (leb_tells (suc u) t) [ inl p ↦ rw p.0 (omega (arith, p.1), below_ticks oid t up us) | inr p ↦ rw p.0 tt ]

below_unless : (oid t : ℕ) (ls : List ℕ) (ps : List Planned) → AllBelow t (map (pulse_of oid) ps) → AllBelow t (map (pulse_of oid) (unless_left ls ps []))
below_unless oid t [] ps a = a
below_unless oid t (l ∷ ls) ps a = tt

below_steps : (oid t : ℕ) (gs : List Group) → AllBelow t (map (pulse_of oid) (steps_before t gs))
below_steps oid t [] = tt
below_steps oid t (g ∷ gs) =
    let first = steps_of g.up (ticks_before t g.ticks) in
    let rest = unless_left (ticks_from t g.ticks) (steps_before t gs) [] in
    rw (map-append (pulse_of oid) first rest)
    (below_append t (map (pulse_of oid) first) (map (pulse_of oid) rest) (below_ticks oid t g.up g.ticks) (below_unless oid t (ticks_from t g.ticks) (steps_before t gs) (below_steps oid t gs)))

both_ways : (low least high : ℕ) (ps : List Pulse) → least ≤ low → Up low ps → AllBelow high ps → AreBetween least high ps
both_ways low least high [] h u b = tt
both_ways low least high (p ∷ ps) h u b = (omega (arith, h, u.0), b.0, both_ways p.tick least high ps (omega (arith, h, u.0)) u.1 b.1)

pub slot_between : (oid now t : ℕ) (o : Option Pending) → SlotRises now o → AreBetween now t (slot_before oid t o)
slot_between oid now t None r = tt
slot_between oid now t (Some q) r = both_ways now now t (map (pulse_of oid) (steps_before t q.groups)) (omega arith) (before_up oid now t q.groups r) (below_steps oid t q.groups)

-- what a board makes when it runs on
pub passes_is : (b : Controller) (t : ℕ) → b.state ≡ Running → b.tick ≤ t → board.passes b t ≡ passes_on Running b t
passes_is b t running h = elim (leb_tells b.tick t) [ inl p ↦ rw p.0 (ap (λ o. passes_on o b t) running) | inr p ↦ absurd (omega (arith, p.1, h)) ]

pub whole_of : (b : Controller) (made meant : List Pulse) → b.state ≡ Running → IsFairSofar b made meant → MakesMeant b made meant
whole_of b made meant running k = let At : BoardState → Type 0 = λ o. IsKeptIn o b made meant in subst At running k

pub made_is : (b : Controller) (t oid : ℕ) (made meant : List Pulse) → b.state ≡ Running → b.tick ≤ t → IsFairSofar b made meant → only oid (board.passes b t).pulses ≡ slot_before oid t (stepper_at b oid)
made_is b t oid made meant running h k =
    let same = passes_is b t running h in
    let After : Passed → Type 0 = λ x. IsFairSofar x.board (made ++ x.pulses) meant in
    let on = passes_on Running b t in
    let w = whole_of b made meant running k in
    let v = whole_of on.board (made ++ on.pulses) meant running (subst After same (pass_keeps b t made meant k)) in
    let pend = pending_at oid (slot_to t (stepper_at b oid)) in
    let all : only oid made ++ (only oid on.pulses ++ pend) ≡ only oid made ++ (slot_before oid t (stepper_at b oid) ++ pend) =
    sym (append_assoc (only oid made) (only oid on.pulses) pend) ∙ ap (λ x. x ++ pend) (sym (only-append oid made on.pulses))
    ∙ ap (λ o. only oid (made ++ on.pulses) ++ pending_at oid o) (sym (slots_at t oid b.steppers)) ∙ v.same oid ∙ sym (w.same oid)
    ∙ ap (λ x. only oid made ++ x) (sym (slot_split oid t (stepper_at b oid))) in
    ap (λ (x : Passed). only oid x.pulses) same
    ∙ append_cancel_right (only oid on.pulses) (slot_before oid t (stepper_at b oid)) pend
    (append_cancel_left (only oid made) (only oid on.pulses ++ pend) (slot_before oid t (stepper_at b oid) ++ pend) all)

-- a board fits what is known at a later tick, and of each stepper it made pulses between
pub record RanOn (slots : ℕ) (ks : ℕ → Known) (b c : Controller) (ps : List Pulse) : Type 0 where
  pub fits : BoardFits c.tick slots ks c
  pub later : b.tick ≤ c.tick
  pub between : (oid : ℕ) → AreBetween b.tick c.tick (only oid ps)

board_runs_on : (slots t : ℕ) (ks : ℕ → Known) (b : Controller) (made meant : List Pulse) → BoardFits b.tick slots ks b → b.tick ≤ t → IsFairSofar b made meant
    → RanOn slots ks b (passes_on Running b t).board (passes_on Running b t).pulses
board_runs_on slots t ks b made meant f h k = record {
  fits = board_passes_on b.tick t slots ks Running b f.running f;
  later = h;
  between = λ oid.
      let same = passes_is b t f.running h in
      let w = whole_of b made meant f.running k in
      let is : only oid (passes_on Running b t).pulses ≡ slot_before oid t (stepper_at b oid) =
      ap (λ (x : Passed). only oid x.pulses) (sym same) ∙ made_is b t oid made meant f.running h k in
      rw is (slot_between oid b.tick t (stepper_at b oid) (w.rises oid));
}

board_runs : (slots t : ℕ) (ks : ℕ → Known) (b : Controller) (made meant : List Pulse) → BoardFits b.tick slots ks b → IsFairSofar b made meant
    → RanOn slots ks b (board.passes b t).board (board.passes b t).pulses
board_runs slots t ks b made meant f k =
    elim (leb_tells b.tick t) [
      | inl p ↦
          let At : Passed → Type 0 = λ x. RanOn slots ks b x.board x.pulses in
          subst At (sym (passes_is b t f.running p.1)) (board_runs_on slots t ks b made meant f p.1 k)
      | inr p ↦ rw p.0 (record { fits = f; later = omega arith; between = λ oid. tt })
    ]

-- one behind the other
ran_both : (slots : ℕ) (ks : ℕ → Known) (a b c : Controller) (ps qs : List Pulse) → RanOn slots ks a b ps → RanOn slots ks b c qs → RanOn slots ks a c (ps ++ qs)
ran_both slots ks a b c ps qs x y = record {
  fits = y.fits;
  later = omega (arith, x.later, y.later);
  between = λ oid. rw (only-append oid ps qs)
      (between_append a.tick c.tick (only oid ps) (only oid qs) (between_wide a.tick b.tick a.tick c.tick (only oid ps) (omega arith) y.later (x.between oid))
      (between_wide b.tick c.tick a.tick c.tick (only oid qs) x.later (omega arith) (y.between oid)));
}

becomes_free : (r : Rig) (oid : ℕ) (s : Slot) (t : Trigger) → IsFree r → slot_at r oid ≡ Some s → IsFree (becomes r oid s t)
becomes_free r oid s t free at = λ i j u is. elim (set_any r.triggers oid j (record s { trigger = t }) u is) [
  | inl same ↦ (let At : Slot → Type 0 = λ x. has i x.bound ≡ false in subst At same (free i oid s at))
  | inr there ↦ free i j u there
]

happens_free : (r : Rig) (t oid : ℕ) (o : Option Slot) → slot_at r oid ≡ o → IsFree r → IsFree (happens_to r t oid o).rig
happens_free r t oid None at free = free
happens_free r t oid (Some s) at free = becomes_free r oid s (trig.advanced (levels_of r s.pin) t s.trigger).trigger free at

abbrev Runs : ℕ → (ℕ → Known) → Rig → rig.Passed → Type 0
Runs slots ks r p = RanOn slots ks r.controller p.rig.controller p.pulses

goes_runs : (o : Option (ℕ × ℕ)) (slots : ℕ) (ks : ℕ → Known) (r : Rig) (t : ℕ) (rest : rig.Passed) (made meant : List Pulse) → IsFree r → BoardFits r.controller.tick slots ks r.controller
    → IsFairSofar r.controller made meant
    → (IsFree (happens_at r t (at_of o)).rig → BoardFits (happens_at r t (at_of o)).rig.controller.tick slots ks (happens_at r t (at_of o)).rig.controller
    → ((ms : List Pulse) → IsFairSofar (happens_at r t (at_of o)).rig.controller ms meant → Runs slots ks (happens_at r t (at_of o)).rig rest))
    → Runs slots ks r (goes_on o (rests_to r t) (passes_by (happens_at r t (at_of o)) rest))
goes_runs None slots ks r t rest made meant free f k more = board_runs slots t ks r.controller made meant f k
goes_runs (Some at) slots ks r t rest made meant free f k more =
    let ran = runs_to r (at.0 / 3) in
    let o = slot_at ran.rig at.1 in
    let done = (happens_to ran.rig t at.1 o).rig in
    let first = board_runs slots (at.0 / 3) ks r.controller made meant f k in
    let kept = pass_keeps r.controller (at.0 / 3) made meant k in
    let same : done.controller ≡ ran.rig.controller = happens_same ran.rig t at.1 o free refl in
    let Fits : Controller → Type 0 = λ b. BoardFits b.tick slots ks b in
    let Kept : Controller → Type 0 = λ b. IsFairSofar b (made ++ ran.pulses) meant in
    let Then : Controller → Type 0 = λ b. RanOn slots ks b rest.rig.controller rest.pulses in
    let later = more (happens_free ran.rig t at.1 o refl free) (subst Fits (sym same) first.fits) (made ++ ran.pulses) (subst Kept (sym same) kept) in
    ran_both slots ks r.controller ran.rig.controller rest.rig.controller ran.pulses rest.pulses first (subst Then same later)

steps_run : (n slots : ℕ) (ks : ℕ → Known) (r : Rig) (t : ℕ) (made meant : List Pulse) → IsFree r → BoardFits r.controller.tick slots ks r.controller → IsFairSofar r.controller made meant
    → Runs slots ks r (pass n r t)
steps_run zero slots ks r t made meant free f k = record { fits = f; later = omega arith; between = λ oid. tt }
steps_run (suc n) slots ks r t made meant free f k =
    let o = earliest_moment r t 0 r.triggers in
    let next = (happens_at r t (at_of o)).rig in
    goes_runs o slots ks r t (pass n next t) made meant free f k (λ g h ms i. steps_run n slots ks next t ms meant g h i)

pub rig_runs : (slots : ℕ) (ks : ℕ → Known) (r : Rig) (t : ℕ) (made meant : List Pulse) → IsFree r → BoardFits r.controller.tick slots ks r.controller → IsFairSofar r.controller made meant
    → Runs slots ks r (passes r t)
rig_runs slots ks r t made meant free f k =
    elim (leb_tells r.controller.tick t) [
      | inl p ↦ rw p.0 (steps_run (all_left t r.triggers + 1) slots ks r t made meant free f k)
      | inr p ↦ rw p.0 (record { fits = f; later = omega arith; between = λ oid. tt })
    ]

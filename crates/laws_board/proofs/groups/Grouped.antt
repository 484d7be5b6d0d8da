-- The boards of a homing group stop in time.
use Rattle.std.proofs.Common.{◌≡◌, ℕ, ◌+◌, ◌-◌, ◌*◌, ◌/◌, ◌≤◌, Bool, true, false, List, [], ◌∷◌, ◌++◌, Option, None, Some, refl, ap, sym, ◌∙◌, subst, arith, inl, inr, rules}
use Rattle.std.specs.List.{Contains}
use Rattle.std.proofs.Math.Nat.{mul-le-mul_right}
use Rattle.laws_board.proofs.Names.{leb_tells, Running, Line, nearest, turn_ns, Cmd, Member, Pending, is_shut, Rig, Slot, pass, slot_at, takes, one_slot}
use Rattle.msg_code.specs.declared.cmd.Cmd.TheVariants as cmd
use Rattle.trigger_group.specs.declared.order.Order.TheVariants.{Timeout}
use Rattle.trigger_group.specs.Group.{new_group}
use Rattle.trigger_group.specs.Runs.{Report, Sent, all_sent, all_reports, CouldUpTo}
use Rattle.trigger_group.proofs.Bounds.{end_bound, heard_bound}
use Rattle.board_sim.specs.Board.{stepper_at}
use Rattle.board_sim.specs.RigRuns.{RigStep, Takes, Passes, rig_after, rig_after_all, all_made, IsThere, IsTimely, AreTimely, AreBehindSetUp, AllBefore, IsBound}
use Rattle.laws_board.specs.groups.Homing.{tick_of, timed_and_bound, HasBoth, HasTriggeredIn, IsOfGroup, AreOfGroup}
use Rattle.laws_board.proofs.groups.Timed.{IsTimed, first_timed, ran_before, runs_or_shut, stays_shut, stays_timed, takes_timed}
use Rattle.board_sim.proofs.Binding.{binds, makes_ready, timely}
use Rattle.board_sim.proofs.Bound.{pass_bound, stops, takes_bound}
use Rattle.board_sim.proofs.Halting.{no_sooner, stops_there}
use Rattle.board_sim.proofs.RigPulses.{all_both, all_later}

-- all timeouts that were sent are at most a turn
abbrev AtMost : ℕ → List Sent → Type 0
AtMost turn sent = (s : Sent) (t : ℕ) → Contains sent s → s.ctl.what ≡ Timeout t → t ≤ turn

one_timely : (line : Line) (now trigger turn : ℕ) (sent : List Sent) (c : Cmd) → AtMost turn sent → IsOfGroup line now trigger sent c → IsTimely now trigger (tick_of line turn) c
one_timely line now trigger turn sent (cmd.TrsyncSetTimeout oid c) most of = λ same.
    let (s, t, there, what, is, near) = of same in timely line now t turn trigger oid c (most s t there what) is near same
one_timely line now trigger turn sent c most of = tt

all_timely : (steps : List RigStep) (line : Line) (trigger turn : ℕ) (sent : List Sent) (r : Rig) → AtMost turn sent → AreOfGroup line trigger sent r steps → AreTimely trigger (tick_of line turn) r steps
all_timely [] line trigger turn sent r most of = tt
all_timely (Takes c ∷ ss) line trigger turn sent r most of = (one_timely line r.controller.tick trigger turn sent c most of.0, all_timely ss line trigger turn sent (rig_after r (Takes c)) most of.1)
all_timely (Passes n t ∷ ss) line trigger turn sent r most of = all_timely ss line trigger turn sent (rig_after r (Passes n t)) most of

-- a part of what comes
pub after_both : (xs ys : List RigStep) (r : Rig) → rig_after_all (xs ++ ys) r ≡ rig_after_all ys (rig_after_all xs r)
after_both [] ys r = refl
after_both (x ∷ xs) ys r = after_both xs ys (rig_after r x)

pub timely_parts : (xs ys : List RigStep) (j most : ℕ) (r : Rig) → AreTimely j most r (xs ++ ys) → AreTimely j most r xs × AreTimely j most (rig_after_all xs r) ys
timely_parts [] ys j most r t = (tt, t)
timely_parts (Takes c ∷ xs) ys j most r t = let parts = timely_parts xs ys j most (rig_after r (Takes c)) t.1 in ((t.0, parts.0), parts.1)
timely_parts (Passes n u ∷ xs) ys j most r t = timely_parts xs ys j most (rig_after r (Passes n u)) t

behind_parts : (xs ys : List RigStep) (i j : ℕ) → AreBehindSetUp i j (xs ++ ys) → AreBehindSetUp i j xs × AreBehindSetUp i j ys
behind_parts [] ys i j b = (tt, b)
behind_parts (Takes c ∷ xs) ys i j b = let parts = behind_parts xs ys i j b.1 in ((b.0, parts.0), parts.1)
behind_parts (Passes n u ∷ xs) ys i j b = behind_parts xs ys i j b

some_queue : (o : Option Pending) → IsThere o → (q : Pending) × (o ≡ Some q)
some_queue None there = absurd there
some_queue (Some q) there = (q, refl)

-- a stepper that is bound behind its trigger's first timeout
bound_running : (r : Rig) (between behind : List RigStep) (i j most c : ℕ) → HasBoth i j r → AreBehindSetUp i j (between ++ behind) → (rig_after_all (Takes (cmd.TrsyncSetTimeout j c) ∷ between) r).controller.state ≡ Running
    → AreTimely j most r (timed_and_bound i j c between ++ behind) → AllBefore i most (all_made behind (rig_after_all (timed_and_bound i j c between) r))
bound_running r between behind i j most c has apart running timely =
    let set = cmd.TrsyncSetTimeout j c in
    let stop = cmd.StepperStopOnTrigger i j in
    let one = (takes r set).rig in
    let two = rig_after_all between one in
    let parts = behind_parts between behind i j apart in
    let late = timely_parts (between ++ Takes stop ∷ []) behind j most one timely.1 in
    let early = timely_parts between (Takes stop ∷ []) j most one late.0 in
    let first = first_timed r i j most c has.slot (ran_before (Takes set ∷ between) r running) has.is (has.sound j has.slot has.is).told has.there (timely.0 refl) in
    let timed = stays_timed (Unit {0}) between one i j most first parts.0 (λ x. early.0) in
    let queue = some_queue (stepper_at two.controller i) timed.there in
    let bound = binds two i j most timed.slot queue.0 running queue.1 timed.is timed.told (λ can. (timed.limited can).1) in
    let same : rig_after_all (timed_and_bound i j c between) r ≡ (takes two stop).rig = after_both between (Takes stop ∷ []) one in
    subst (λ (q : Rig). AllBefore i most (all_made behind q)) (sym same)
    (stops (takes two stop).rig behind i j most bound parts.1 (subst (λ (q : Rig). AreTimely j most q behind) same late.1))

pub bound_in_time : (r : Rig) (between behind : List RigStep) (i j most c : ℕ) → HasBoth i j r → AreBehindSetUp i j (between ++ behind)
    → AreTimely j most r (timed_and_bound i j c between ++ behind) → AllBefore i most (all_made behind (rig_after_all (timed_and_bound i j c between) r))
bound_in_time r between behind i j most c has apart timely =
    let set = cmd.TrsyncSetTimeout j c in
    let stop = cmd.StepperStopOnTrigger i j in
    let two = rig_after_all (Takes set ∷ between) r in
    let last = rig_after_all (timed_and_bound i j c between) r in
    let same : last ≡ (takes two stop).rig = after_both (Takes set ∷ between) (Takes stop ∷ []) r in
    elim (runs_or_shut two) [
      | inl runs ↦ bound_running r between behind i j most c has apart runs timely
      | inr shut ↦ subst (AllBefore i most) (sym (stays_shut behind last (ap (λ (q : Rig). is_shut q.controller.state) same ∙ (stays_shut (Takes stop ∷ []) two shut).0)).1) tt
    ]

pub by_end : (ms : List Member) (start last turn : ℕ) (rss : List (List Report)) (line : Line) (r : Rig) (between behind : List RigStep) (stepper trigger c : ℕ) → HasBoth stepper trigger r → AreBehindSetUp stepper trigger (between ++ behind)
    → AreOfGroup line trigger (all_sent turn rss (new_group ms start last)) r (timed_and_bound stepper trigger c between ++ behind)
    → AllBefore stepper (tick_of line (last + 1)) (all_made behind (rig_after_all (timed_and_bound stepper trigger c between) r))
by_end ms start last turn rss line r between behind stepper trigger c has apart of =
    bound_in_time r between behind stepper trigger (tick_of line (last + 1)) c has apart
    (all_timely (timed_and_bound stepper trigger c between ++ behind) line trigger (last + 1) (all_sent turn rss (new_group ms start last)) r (λ s t there what. end_bound ms start last turn rss s t there what) of)

pub by_heard : (ms : List Member) (start last turn : ℕ) (rss : List (List Report)) (line : Line) (r : Rig) (between behind : List RigStep) (stepper trigger c u : ℕ) (m : Member) → Contains ms m → start ≤ u
    → CouldUpTo m.board u (all_reports rss) → HasBoth stepper trigger r → AreBehindSetUp stepper trigger (between ++ behind)
    → AreOfGroup line trigger (all_sent turn rss (new_group ms start last)) r (timed_and_bound stepper trigger c between ++ behind)
    → AllBefore stepper (tick_of line (u + 25)) (all_made behind (rig_after_all (timed_and_bound stepper trigger c between) r))
by_heard ms start last turn rss line r between behind stepper trigger c u m member from could has apart of =
    bound_in_time r between behind stepper trigger (tick_of line (u + 25)) c has apart
    (all_timely (timed_and_bound stepper trigger c between ++ behind) line trigger (u + 25) (all_sent turn rss (new_group ms start last)) r (λ s t there what. heard_bound ms start last turn rss s t u m member from could there what) of)

-- what was told of a trigger while it could trigger is of no later turn than that in which it triggered
lines_rise : (line : Line) (j k : ℕ) → j ≤ k → tick_of line j ≤ tick_of line k
lines_rise line j k le = search (rules, turn_ns, mul-le-mul_right)

could_up_to : (line : Line) (board i j : ℕ) (r : Rig) (steps : List RigStep) (reports : List Report) (u : ℕ) → HasTriggeredIn line board i j r steps reports u → CouldUpTo board u reports
could_up_to line board i j r steps reports u x = λ report among same can.
    let told = x.told report among same can in
    let mid = rig_after_all told.first r in
    let whole : rig_after_all steps r ≡ rig_after_all told.rest mid = ap (λ (ss : List RigStep). rig_after_all ss r) told.are ∙ after_both told.first told.rest r in
    let parts = behind_parts told.first told.rest i j (subst (AreBehindSetUp i j) told.are x.behind) in
    let sooner = no_sooner mid told.rest i j x.slot told.ready parts.1 (subst (λ (q : Rig). slot_at q j ≡ Some x.slot) whole x.is) x.fired in
    let tick = told.tick_is in
    let turn = told.turn_is in
    let before = x.before in
    elim (leb_tells report.turn u) [
      | inl p ↦ p.1
      | inr p ↦ let rise = lines_rise line (u + 1) report.turn (omega (arith, p.1)) in absurd (omega (arith, sooner, tick, turn, before, rise))
    ]

pub by_fired : (ms : List Member) (start last turn : ℕ) (rss : List (List Report)) (line : Line) (r : Rig) (between behind : List RigStep) (stepper trigger c u : ℕ) (m : Member) (own : Line) (q : Rig) (steps : List RigStep) (i j : ℕ)
    → Contains ms m → start ≤ u → HasTriggeredIn own m.board i j q steps (all_reports rss) u → HasBoth stepper trigger r → AreBehindSetUp stepper trigger (between ++ behind)
    → AreOfGroup line trigger (all_sent turn rss (new_group ms start last)) r (timed_and_bound stepper trigger c between ++ behind)
    → AllBefore stepper (tick_of line (u + 25)) (all_made behind (rig_after_all (timed_and_bound stepper trigger c between) r))
by_fired ms start last turn rss line r between behind stepper trigger c u m own q steps i j member from fired has apart of =
    by_heard ms start last turn rss line r between behind stepper trigger c u m member from (could_up_to own m.board i j q steps (all_reports rss) u fired) has apart of

-- a trigger that can't trigger as a stepper is bound to it
some_most : (now j : ℕ) (c : Cmd) → (most : ℕ) × IsTimely now j most c
some_most now j (cmd.TrsyncSetTimeout oid clock) = (nearest now clock, λ same. omega arith)
some_most now j c = (0, tt)

any_bound : (i j most other n : ℕ) (r : Rig) → IsTimed ⊥ i j n r → IsBound i j most r → IsBound i j other r
any_bound i j most other n r t b = search (rules, one_slot, slot_at)

fired_none : (steps : List RigStep) (r : Rig) (i j : ℕ) → IsBound i j 0 r → IsTimed ⊥ i j 0 r → AreBehindSetUp i j steps → AllBefore i 0 (all_made steps r)
fired_none [] r i j b t apart = tt
fired_none (Takes c ∷ ss) r i j b t apart =
    let far = some_most r.controller.tick j c in
    let next = takes_timed ⊥ r.controller.state r i j 0 c apart.0 (λ x. absurd x) t in
    fired_none ss (takes r c).rig i j (any_bound i j far.0 0 0 (takes r c).rig next (takes_bound r i j far.0 c apart.0 far.1 (any_bound i j 0 far.0 0 r t b))) next apart.1
fired_none (Passes n u ∷ ss) r i j b t apart =
    let p = pass_bound n r i j 0 u b in
    all_both i 0 (pass n r u).pulses (all_made ss (pass n r u).rig) p.1 (fired_none ss (pass n r u).rig i j p.0 (stays_timed ⊥ (Passes n u ∷ []) r i j 0 t tt (λ x. absurd x)) apart)

halts_running : (r : Rig) (steps : List RigStep) (i j : ℕ) (s : Slot) → r.controller.state ≡ Running → HasBoth i j r → AreBehindSetUp i j steps → slot_at (rig_after_all (Takes (cmd.StepperStopOnTrigger i j) ∷ steps) r) j ≡ Some s
    → s.trigger.can ≡ false → AllBefore i s.trigger.tick (all_made (Takes (cmd.StepperStopOnTrigger i j) ∷ steps) r)
halts_running r steps i j s running has apart at fired = by has.slot.trigger.can refl
  where
    no_other : (b : Bool) → b ≡ true → b ≡ false → ⊥
    no_other b e f = cc

    by : (can : Bool) → has.slot.trigger.can ≡ can → AllBefore i s.trigger.tick (all_made (Takes (cmd.StepperStopOnTrigger i j) ∷ steps) r)
    by true can =
        let sound = has.sound j has.slot has.is in
        let queue = some_queue (stepper_at r.controller i) has.there in
        stops_there (takes r (cmd.StepperStopOnTrigger i j)).rig steps i j s
        (makes_ready r i j has.slot queue.0 running queue.1 has.is sound.told can sound.moves sound.timeout (λ x w. sound.switch w.0 x w.2 w.3)) apart at fired
    by false can =
        let sound = has.sound j has.slot has.is in
        let queue = some_queue (stepper_at r.controller i) has.there in
        let never : has.slot.trigger.can ≡ true → ⊥ = λ could. no_other has.slot.trigger.can could can in
        let bound = binds r i j 0 has.slot queue.0 running queue.1 has.is sound.told (λ could. absurd (never could)) in
        let timed : IsTimed ⊥ i j 0 r = record { slot = has.slot; is = has.is; told = sound.told; there = has.there; limited = λ could. absurd (never could) } in
        all_later i 0 s.trigger.tick (all_made steps (takes r (cmd.StepperStopOnTrigger i j)).rig) (omega arith)
        (fired_none steps (takes r (cmd.StepperStopOnTrigger i j)).rig i j bound (takes_timed ⊥ r.controller.state r i j 0 (cmd.StepperStopOnTrigger i j) tt (λ x. absurd x) timed) apart)

pub halts_there : (r : Rig) (steps : List RigStep) (i j : ℕ) (s : Slot) → HasBoth i j r → AreBehindSetUp i j steps → slot_at (rig_after_all (Takes (cmd.StepperStopOnTrigger i j) ∷ steps) r) j ≡ Some s → s.trigger.can ≡ false
    → AllBefore i s.trigger.tick (all_made (Takes (cmd.StepperStopOnTrigger i j) ∷ steps) r)
halts_there r steps i j s has apart at fired = elim (runs_or_shut r) [
  | inl runs ↦ halts_running r steps i j s runs has apart at fired
  | inr shut ↦ subst (AllBefore i s.trigger.tick) (sym (stays_shut (Takes (cmd.StepperStopOnTrigger i j) ∷ steps) r shut).1) tt
]

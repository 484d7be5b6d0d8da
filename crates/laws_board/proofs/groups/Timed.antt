-- A trigger whose timeouts are at most a tick, whatever comes.
use Rattle.std.proofs.Common.{◌≡◌, ◌≢◌, ℕ, zero, suc, ◌/◌, ◌≤◌, ◌&&◌, Bool, true, false, not, List, [], ◌∷◌, ◌++◌, get_or, set, Option, Some, None, refl, ap, sym, ◌∙◌, subst, ◌⊎◌, inl, inr, rules}
use Rattle.std.specs.Prelude.{if◌then◌else◌, slice_index_or, nat_lt}
use Rattle.laws_board.proofs.Names.{get_or-set_same, Level, BoardState, Running, Shut, Pulse, nearest, Pending, Trigger, Happening, Nothing, Expires, Switches, Reports, Cmd, Controller, is_shut, Rig, Slot, Passed, slot_at, becomes, expires_at_once, set_timeout, acts, acts_running, takes, earliest_moment, runs_to, rests_to, happens_to, goes_on, at_of, passes_by, pass, one_slot, slot_range}
use Rattle.board_trig.specs.declared.sampling.Homing.{Homing}
use Rattle.board_trig.specs.Trigger as trig
use Rattle.msg_code.specs.declared.cmd.Cmd.TheVariants as cmd
use Rattle.board_sim.specs.Board.{stepper_at}
use Rattle.board_sim.specs.Rig.{levels_of, make_trigger, make_endstop, start_trigger, trigger, bind, home, by_board, rested, happens_at}
use Rattle.board_sim.specs.RigRuns.{RigStep, Takes, Passes, all_made, rig_after_all, IsThere, IsBehindSetUp, IsTimely, AreBehindSetUp, AreTimely, IsLimitedTo}
use Rattle.board_sim.proofs.RigPlaces.{there_is, is_there}
use Rattle.board_sim.proofs.RigCommands.{IsIn, takes_is, passes_is}
use Rattle.board_sim.proofs.RigShut.{all_left_by, happens_state, both_none}
use Rattle.board_sim.proofs.Shut.{pass_left}
use Rattle.board_sim.proofs.Bound.{halts_is, map_at, same_or_not, set_other}

-- what is asked of a trigger that becomes another one
abbrev Later : Type 0 → ℕ → Trigger → Trigger → Type 0
Later C most t u = (t.untold ≡ None → u.untold ≡ None) × (u.can ≡ true → (t.can ≡ true) × (C → IsLimitedTo most t.timeout → IsLimitedTo most u.timeout))

-- A stepper and a trigger stand here; all of the trigger is told, and it can trigger only where something is so, and while its timeout is at most a tick.
pub record IsTimed (C : Type 0) (i j most : ℕ) (r : Rig) : Type 0 where
  pub slot : Slot
  pub is : slot_at r j ≡ Some slot
  pub told : slot.trigger.untold ≡ None
  pub there : IsThere (stepper_at r.controller i)
  pub limited : slot.trigger.can ≡ true → C × IsLimitedTo most slot.trigger.timeout

-- the stepper stays
abbrev Keeps : ℕ → Rig → Rig → Type 0
Keeps i r q = IsIn false i r.controller → IsIn false i q.controller

kept_there : (i : ℕ) (r q : Rig) → Keeps i r q → IsThere (stepper_at r.controller i) → IsThere (stepper_at q.controller i)
kept_there i r q keep t = is_there false (stepper_at q.controller i) (keep (there_is (stepper_at r.controller i) t))

own_timed : (C : Type 0) (r q : Rig) (i j most : ℕ) (s u : Slot) → IsTimed C i j most r → slot_at r j ≡ Some s → q.triggers ≡ set r.triggers j (Some u) → Keeps i r q → Later C most s.trigger u.trigger → IsTimed C i j most q
own_timed C r q i j most s u b at e keep later = search (rules, one_slot, slot_at, get_or-set_same, slot_range, kept_there)

other_timed : (C : Type 0) (r q : Rig) (i j most : ℕ) → IsTimed C i j most r → slot_at q j ≡ slot_at r j → Keeps i r q → IsTimed C i j most q
other_timed C r q i j most b e keep = record { slot = b.slot; is = e ∙ b.is; told = b.told; there = kept_there i r q keep b.there; limited = b.limited }

timed_by : (C : Type 0) (r q : Rig) (i j most oid : ℕ) (s u : Slot) → IsTimed C i j most r → slot_at r oid ≡ Some s → q.triggers ≡ set r.triggers oid (Some u) → Keeps i r q → (oid ≡ j → Later C most s.trigger u.trigger) → (oid ≡ j) ⊎ (oid ≢ j) → IsTimed C i j most q
timed_by C r q i j most oid s u b at e keep later (inl same) =
    own_timed C r q i j most s u b (subst (λ (n : ℕ). slot_at r n ≡ Some s) same at) (subst (λ (n : ℕ). q.triggers ≡ set r.triggers n (Some u)) same e) keep (later same)
timed_by C r q i j most oid s u b at e keep later (inr d) = other_timed C r q i j most b (set_other r q j oid (Some u) e d) keep

becomes_timed : (C : Type 0) (r : Rig) (i j most oid : ℕ) (s : Slot) (t : Trigger) → IsTimed C i j most r → slot_at r oid ≡ Some s → (oid ≡ j → Later C most s.trigger t) → IsTimed C i j most (becomes r oid s t)
becomes_timed C r i j most oid s t b at later =
    timed_by C r (becomes r oid s t) i j most oid s (record s { trigger = t }) b at refl (λ is. halts_is (s.trigger.can && not t.can) s.bound r.controller i false is) later (same_or_not oid j)

-- commands of triggers
made_timed : (C : Type 0) (r : Rig) (i j most oid : ℕ) (o : Option Slot) → slot_at r oid ≡ o → IsTimed C i j most r → IsTimed C i j most (make_trigger r oid o)
made_timed C r i j most oid o p7 p8 = search (rules, other_timed, set_other, slot_at)

endstop_timed : (C : Type 0) (r : Rig) (i j most oid pin : ℕ) (o : Option ℕ) → IsTimed C i j most r → IsTimed C i j most (make_endstop r oid pin o)
endstop_timed C r i j most oid pin None b = other_timed C r (make_endstop r oid pin None) i j most b refl (λ is. is)
endstop_timed C r i j most oid pin (Some p) b = b

start_timed : (C : Type 0) (r : Rig) (i j most oid : ℕ) (o : Option Slot) (clock every reason : ℕ) → slot_at r oid ≡ o → (oid ≡ j → ⊥) → IsTimed C i j most r → IsTimed C i j most (start_trigger r oid o clock every reason)
start_timed C r i j most oid None clock every reason e other b = b
start_timed C r i j most oid (Some s) clock every reason e other b = becomes_timed C r i j most oid s _ b e (λ same. absurd (other same))

expires_timed : (C : Type 0) (o : Option ℕ) (r : Rig) (i j most oid : ℕ) (s : Slot) (t : Trigger) → t.untold ≡ o → IsTimed C i j most r → slot_at r oid ≡ Some s
    → (oid ≡ j → t.can ≡ true → (s.trigger.can ≡ true) × (C → IsLimitedTo most s.trigger.timeout → IsLimitedTo most t.timeout)) → IsTimed C i j most (expires_at_once r oid s t o).rig
expires_timed C None r i j most oid s t e b at own = becomes_timed C r i j most oid s t b at (λ same. ((λ told. e), own same))
expires_timed C (Some n) r i j most oid s t e b at own = becomes_timed C r i j most oid s (record t { untold = None }) b at (λ same. ((λ told. refl), own same))

abbrev timed_to : Bool → Bool → ℕ → ℕ → Trigger → Trigger
timed_to can early now tick t = if can then (if early then record t { timeout = Some tick } else record (trig.fired now t.expire t) { untold = Some now }) else t

timeout_limited : (can early : Bool) (now tick most : ℕ) (t : Trigger) → t.can ≡ can → (timed_to can early now tick t).can ≡ true → (t.can ≡ true) × (tick ≤ most → IsLimitedTo most (timed_to can early now tick t).timeout)
timeout_limited true true now tick most t e h = (e, λ le. le)
timeout_limited true false now tick most t e h = absurd (cc)
timeout_limited false early now tick most t e h = absurd (cc)

set_timed : (C : Type 0) (r : Rig) (i j most oid clock : ℕ) (o : Option Slot) → slot_at r oid ≡ o → (C → oid ≡ j → nearest r.controller.tick clock ≤ most) → IsTimed C i j most r → IsTimed C i j most (set_timeout r oid o clock).rig
set_timed C r i j most oid clock o p8 p9 p10 = search (rules, expires_timed, timeout_limited, nat_lt, nearest)

triggered_later : (C : Type 0) (x : Bool) (now reason most : ℕ) (t : Trigger) → t.can ≡ x → Later C most t (if x then trig.fired now reason t else t)
triggered_later C true now reason most t e = ((λ told. told), λ can. absurd (cc))
triggered_later C false now reason most t e = ((λ told. told), λ can. (can, λ x l. l))

trigger_timed : (C : Type 0) (r : Rig) (i j most oid reason : ℕ) (o : Option Slot) → slot_at r oid ≡ o → IsTimed C i j most r → IsTimed C i j most (trigger r oid o reason).rig
trigger_timed C r i j most oid reason None e b = b
trigger_timed C r i j most oid reason (Some s) e b = becomes_timed C r i j most oid s (trig.triggered r.controller.tick reason s.trigger) b e (λ same. triggered_later C s.trigger.can r.controller.tick reason most s.trigger refl)

bind_timed : (C : Type 0) (r : Rig) (i j most oid other : ℕ) (q : Option Pending) (o : Option Slot) → slot_at r other ≡ o → IsTimed C i j most r → IsTimed C i j most (bind r oid q other o)
bind_timed C r i j most oid other None o e b = b
bind_timed C r i j most oid other (Some q) None e b = b
bind_timed C r i j most oid other (Some q) (Some s) e b =
    timed_by C r (bind r oid (Some q) other (Some s)) i j most other s (record s { bound = oid ∷ s.bound }) b e refl (λ is. halts_is (not s.trigger.can) (oid ∷ []) r.controller i false is)
    (λ same. ((λ told. told), λ can. (can, λ x l. l))) (same_or_not other j)

home_timed : (C : Type 0) (r : Rig) (i j most other : ℕ) (p : Option ℕ) (o : Option Slot) (h : Homing) → slot_at r other ≡ o → IsTimed C i j most r → IsTimed C i j most (home r p other o h)
home_timed C r i j most other None o h e b = b
home_timed C r i j most other (Some pin) None h e b = b
home_timed C r i j most other (Some pin) (Some s) h e b =
    timed_by C r (home r (Some pin) other (Some s) h) i j most other s (record s { trigger = trig.sampling r.controller.tick h s.trigger; pin = pin }) b e refl (λ is. is)
    (λ same. ((λ told. told), λ can. (can, λ x l. l))) (same_or_not other j)

board_timed : (C : Type 0) (r : Rig) (i j most : ℕ) (c : Cmd) → IsBehindSetUp i j c → IsTimed C i j most r → IsTimed C i j most (by_board r c).rig
board_timed C r i j most c behind b = other_timed C r (by_board r c).rig i j most b refl (λ is. takes_is false i j r.controller c behind is)

acts_timed : (C : Type 0) (r : Rig) (i j most : ℕ) (c : Cmd) → IsBehindSetUp i j c → (C → IsTimely r.controller.tick j most c) → IsTimed C i j most r → IsTimed C i j most (acts r c).rig
acts_timed C r i j most (cmd.ConfigTrsync oid) behind timely b = made_timed C r i j most oid (slot_at r oid) refl b
acts_timed C r i j most (cmd.TrsyncStart oid clock every reason) behind timely b = start_timed C r i j most oid (slot_at r oid) clock every reason refl behind b
acts_timed C r i j most (cmd.TrsyncSetTimeout oid clock) behind timely b = set_timed C r i j most oid clock (slot_at r oid) refl timely b
acts_timed C r i j most (cmd.TrsyncTrigger oid reason) behind timely b = trigger_timed C r i j most oid reason (slot_at r oid) refl b
acts_timed C r i j most (cmd.StepperStopOnTrigger oid other) behind timely b = bind_timed C r i j most oid other (stepper_at r.controller oid) (slot_at r other) refl b
acts_timed C r i j most (cmd.ConfigEndstop oid pin pull) behind timely b = endstop_timed C r i j most oid pin (slice_index_or r.endstops oid None) b
acts_timed C r i j most (cmd.EndstopHome oid clock sample count rest value other reason) behind timely b =
    home_timed C r i j most other (slice_index_or r.endstops oid None) (slot_at r other) (record { clock = clock; sample_ticks = sample; sample_count = count; rest_ticks = rest; pin_value = value; reason = reason }) refl b
acts_timed C r i j most c behind timely b = board_timed C r i j most c behind b

pub takes_timed : (C : Type 0) (o : BoardState) (r : Rig) (i j most : ℕ) (c : Cmd) → IsBehindSetUp i j c → (C → IsTimely r.controller.tick j most c) → IsTimed C i j most r → IsTimed C i j most (acts_running o r c).rig
takes_timed C Running r i j most c behind timely b = acts_timed C r i j most c behind timely b
takes_timed C (Shut reason tick first) r i j most c behind timely b = board_timed C r i j most c behind b

-- time
runs_timed : (C : Type 0) (r : Rig) (i j most t : ℕ) → IsTimed C i j most r → IsTimed C i j most (runs_to r t).rig
runs_timed C r i j most t b = other_timed C r (runs_to r t).rig i j most b refl (λ is. passes_is false i r.controller t is)

rests_timed : (C : Type 0) (r : Rig) (i j most t : ℕ) → IsTimed C i j most r → IsTimed C i j most (rests_to r t).rig
rests_timed C r i j most t b = record {
  slot = record b.slot { trigger = (trig.happened (slice_index_or r.pins b.slot.pin []) t Nothing b.slot.trigger).trigger };
  is = map_at (rested r.pins t) r.triggers j refl ∙ ap (λ (o : Option Slot). rested r.pins t o) b.is;
  told = b.told;
  there = (runs_timed C r i j most t b).there;
  limited = b.limited;
}

happened_later : (C : Type 0) (happening : Happening) (levels : List Level) (until most : ℕ) (t : Trigger) → Later C most t (trig.happened levels until happening t).trigger
happened_later C (Expires tick) levels until most t = ((λ told. told), λ can. absurd (cc))
happened_later C (Switches tick) levels until most t = ((λ told. told), λ can. absurd (cc))
happened_later C c levels until most t = ((λ told. told), λ can. (can, λ x l. l))

tells_later : (C : Type 0) (o : Option ℕ) (levels : List Level) (until most : ℕ) (t : Trigger) → t.untold ≡ o → Later C most t (trig.tells o levels until t).trigger
tells_later C None levels until most t e = happened_later C (trig.next_happening levels until t) levels until most t
tells_later C (Some tick) levels until most t e = ((λ told. refl), λ can. (can, λ x l. l))

happens_timed : (C : Type 0) (r : Rig) (i j most until oid : ℕ) (o : Option Slot) → slot_at r oid ≡ o → IsTimed C i j most r → IsTimed C i j most (happens_to r until oid o).rig
happens_timed C r i j most until oid None e b = b
happens_timed C r i j most until oid (Some s) e b =
    becomes_timed C r i j most oid s (trig.advanced (levels_of r s.pin) until s.trigger).trigger b e (λ same. tells_later C s.trigger.untold (levels_of r s.pin) until most s.trigger refl)

goes_timed : (C : Type 0) (o : Option (ℕ × ℕ)) (r : Rig) (i j most t : ℕ) (rest : Passed) → IsTimed C i j most r → (IsTimed C i j most (happens_at r t (at_of o)).rig → IsTimed C i j most rest.rig)
    → IsTimed C i j most (goes_on o (rests_to r t) (passes_by (happens_at r t (at_of o)) rest)).rig
goes_timed C None r i j most t rest b more = rests_timed C r i j most t b
goes_timed C (Some at) r i j most t rest b more =
    more (happens_timed C (runs_to r (at.0 / 3)).rig i j most t at.1 (slot_at (runs_to r (at.0 / 3)).rig at.1) refl (runs_timed C r i j most (at.0 / 3) b))

pass_timed : (C : Type 0) (n : ℕ) (r : Rig) (i j most t : ℕ) → IsTimed C i j most r → IsTimed C i j most (pass n r t).rig
pass_timed C zero r i j most t b = b
pass_timed C (suc n) r i j most t b =
    let first = happens_at r t (at_of (earliest_moment r t 0 r.triggers)) in
    goes_timed C (earliest_moment r t 0 r.triggers) r i j most t (pass n first.rig t) b (λ now. pass_timed C n first.rig i j most t now)

pub stays_timed : (C : Type 0) (steps : List RigStep) (r : Rig) (i j most : ℕ) → IsTimed C i j most r → AreBehindSetUp i j steps → (C → AreTimely j most r steps) → IsTimed C i j most (rig_after_all steps r)
stays_timed C [] r i j most b behind timely = b
stays_timed C (Takes c ∷ ss) r i j most b behind timely = stays_timed C ss (takes r c).rig i j most (takes_timed C r.controller.state r i j most c behind.0 (λ x. (timely x).0) b) behind.1 (λ x. (timely x).1)
stays_timed C (Passes n t ∷ ss) r i j most b behind timely = stays_timed C ss (pass n r t).rig i j most (pass_timed C n r i j most t b) behind timely

-- the first timeout
pub first_timed : (r : Rig) (i j most clock : ℕ) (s : Slot) → r.controller.state ≡ Running → slot_at r j ≡ Some s → s.trigger.untold ≡ None → IsThere (stepper_at r.controller i) → nearest r.controller.tick clock ≤ most
    → IsTimed (Unit {0}) i j most (takes r (cmd.TrsyncSetTimeout j clock)).rig
first_timed r i j most clock s running at told there le =
    let now = r.controller.tick in
    let tick = nearest now clock in
    let t = trig.with_timeout now clock s.trigger in
    let is : (o : Option ℕ) → t.untold ≡ o → IsTimed (Unit {0}) i j most (expires_at_once r j s t o).rig = by in
    subst (λ (o : BoardState). IsTimed (Unit {0}) i j most (acts_running o r (cmd.TrsyncSetTimeout j clock)).rig) (sym running)
    (subst (λ (o : Option Slot). IsTimed (Unit {0}) i j most (set_timeout r j o clock).rig) (sym at) (is t.untold refl))
  where
    here : (u : Trigger) → u.untold ≡ None → (u.can ≡ true → IsLimitedTo most u.timeout) → IsTimed (Unit {0}) i j most (becomes r j s u)
    here u e l = record {
      slot = record s { trigger = u };
      is = get_or-set_same r.triggers j (Some (record s { trigger = u })) None (slot_range r.triggers j s at);
      told = e;
      there = kept_there i r (becomes r j s u) (λ x. halts_is (s.trigger.can && not u.can) s.bound r.controller i false x) there;
      limited = λ can. (tt, l can);
    }

    limits : (trig.with_timeout r.controller.tick clock s.trigger).can ≡ true → IsLimitedTo most (trig.with_timeout r.controller.tick clock s.trigger).timeout
    limits can = (timeout_limited s.trigger.can (nat_lt r.controller.tick (nearest r.controller.tick clock)) r.controller.tick (nearest r.controller.tick clock) most s.trigger refl can).1 le

    by : (o : Option ℕ) → (trig.with_timeout r.controller.tick clock s.trigger).untold ≡ o → IsTimed (Unit {0}) i j most (expires_at_once r j s (trig.with_timeout r.controller.tick clock s.trigger) o).rig
    by None e = here (trig.with_timeout r.controller.tick clock s.trigger) e limits
    by (Some n) e = here (record (trig.with_timeout r.controller.tick clock s.trigger) { untold = None }) refl limits

-- a board that is shut down stays so, and makes no pulse
abbrev Left : Passed → Type 0
Left p = (is_shut p.rig.controller.state ≡ true) × (p.pulses ≡ [])

goes_left : (o : Option (ℕ × ℕ)) (r : Rig) (t : ℕ) (rest : Passed) → is_shut r.controller.state ≡ true → (is_shut (happens_at r t (at_of o)).rig.controller.state ≡ true → Left rest)
    → Left (goes_on o (rests_to r t) (passes_by (happens_at r t (at_of o)) rest))
goes_left o r t rest p4 p5 = search (rules, pass_left, is_shut, happens_state, runs_to, slot_at, both_none)

passes_left : (n : ℕ) (r : Rig) (t : ℕ) → is_shut r.controller.state ≡ true → Left (pass n r t)
passes_left zero r t e = (e, refl)
passes_left (suc n) r t e = let first = happens_at r t (at_of (earliest_moment r t 0 r.triggers)) in goes_left (earliest_moment r t 0 r.triggers) r t (pass n first.rig t) e (λ shut. passes_left n first.rig t shut)

pub stays_shut : (steps : List RigStep) (r : Rig) → is_shut r.controller.state ≡ true → (is_shut (rig_after_all steps r).controller.state ≡ true) × (all_made steps r ≡ [])
stays_shut [] r e = (e, refl)
stays_shut (Takes c ∷ ss) r e = stays_shut ss (takes r c).rig (ap (λ (b : Controller). is_shut b.state) (all_left_by r (c ∷ []) e) ∙ e)
stays_shut (Passes n t ∷ ss) r e =
    let left = passes_left n r t e in
    let rest = stays_shut ss (pass n r t).rig left.0 in
    (rest.0, both_none (pass n r t).pulses (all_made ss (pass n r t).rig) left.1 rest.1)

pub runs_or_shut : (r : Rig) → (r.controller.state ≡ Running) ⊎ (is_shut r.controller.state ≡ true)
runs_or_shut r = search (rules, is_shut)

pub ran_before : (steps : List RigStep) (r : Rig) → (rig_after_all steps r).controller.state ≡ Running → r.controller.state ≡ Running
ran_before steps r e = elim (runs_or_shut r) [ inl runs ↦ runs | inr shut ↦ absurd (let bad : true ≡ false = sym (stays_shut steps r shut).0 ∙ ap is_shut e in cc) ]

-- What commands and time keep of a stepper that is bound to a trigger.
use Rattle.std.proofs.Common.{◌≡◌, ◌≢◌, ℕ, zero, suc, ◌+◌, ◌/◌, ◌%◌, ◌^◌, ◌<◌, ◌==◌, ◌&&◌, Bool, true, false, not, List, [], ◌∷◌, length, get_or, set, Option, Some, None, refl, ap, sym, ◌∙◌, subst, ◌⊎◌, inl, inr}
use Rattle.std.specs.Prelude.{if◌then◌else◌, slice_index_or, nat_lt}
use Rattle.laws_board.proofs.Names.{get_or-set_same, length-map, leb_tells, Level, BoardState, Running, Shut, Pending, Trigger, Nothing, nearest, Cmd, Rig, Slot, Passed, slot_at, becomes, expires_at_once, set_timeout, acts, acts_running, takes, earliest_moment, runs_to, rests_to, happens_to, goes_on, at_of, passes_by, pass, passes, all_left, slot_range, one_slot, no_both}
use Rattle.std.proofs.lemmas.List.{length-set}
use Rattle.board_trig.specs.declared.sampling.Homing.{Homing}
use Rattle.board_trig.specs.Trigger as trig
use Rattle.board_trig.proofs.Nexts.{was_before, was_switch}
use Rattle.msg_code.specs.declared.cmd.Cmd.TheVariants as cmd
use Rattle.board_sim.specs.Board.{stepper_at}
use Rattle.board_sim.specs.Rig.{levels_of, make_trigger, make_endstop, start_trigger, trigger, bind, home, by_board, rested, happens_at}
use Rattle.board_sim.specs.RigRuns.{has, IsHalted, IsBehindSetUp}
use Rattle.board_sim.proofs.RigPlaces.{there_is, is_there, halted_is, is_halted}
use Rattle.board_sim.proofs.RigCommands.{IsIn, takes_is, passes_is}
use Rattle.board_sim.proofs.Bound.{same_or_not, set_other, halts_is, halts_all, both_true, map_at}
use Rattle.laws_homing.specs.home_runs.Guards.{HasFired, IsCalm, IsGuarded, HasNoTimeout, IsSole, StandsFired}
use Rattle.plan_types.proofs.Facts.{true_or_false}
use Rattle.std.proofs.lemmas.Bool.{or_right}

-- what becomes of a trigger that isn't started anew: where it can't trigger, it can't on; and where it has no timeout then, its reason and tick stay
pub record Stays (t u : Trigger) : Type 0 where
  pub can : u.can ≡ true → t.can ≡ true
  pub quiet : (t.can ≡ false → t.timeout ≡ None) → u.can ≡ false → u.timeout ≡ None
  pub same : t.can ≡ false → t.timeout ≡ None → (u.reason ≡ t.reason) × (u.tick ≡ t.tick)

-- what becomes of a trigger
pub record Becomes (i j : ℕ) (s : Slot) (r q : Rig) : Type 0 where
  pub slot : Slot
  pub is : slot_at q j ≡ Some slot
  pub bound : has i s.bound ≡ true → has i slot.bound ≡ true
  pub stays : Stays s.trigger slot.trigger
  pub stops : slot.trigger.can ≡ false → s.trigger.can ≡ true → has i s.bound ≡ true → IsIn false i r.controller → IsIn true i q.controller

-- what becomes of a board where this trigger isn't started anew, and the clock of this stepper isn't set
pub record Next (i j : ℕ) (r q : Rig) : Type 0 where
  pub slots : (s : Slot) → slot_at r j ≡ Some s → Becomes i j s r q
  pub keep : (h : Bool) → IsIn h i r.controller → IsIn h i q.controller
  pub places : length q.triggers ≡ length r.triggers
  pub sole : IsSole j r → IsSole j q
  pub quiet : HasNoTimeout j r → HasNoTimeout j q

still_fired : (can fired : Bool) → (can ≡ true → fired ≡ true) → fired ≡ false → can ≡ false
still_fired true fired f e = absurd (no_both fired (f refl) e)
still_fired false fired f e = refl

-- a trigger that could trigger, and one of which only other things change
stays_could : (t u : Trigger) → t.can ≡ true → (u.can ≡ false → u.timeout ≡ None) → Stays t u
stays_could t u could none = record { can = λ c. could; quiet = λ k. none; same = λ f. absurd (no_both t.can could f) }

stays_as : (t u : Trigger) → u.can ≡ t.can → u.timeout ≡ t.timeout → u.reason ≡ t.reason → u.tick ≡ t.tick → Stays t u
stays_as t u can timeout reason tick = record { can = λ c. sym can ∙ c; quiet = λ k f. timeout ∙ k (sym can ∙ f); same = λ f none. (reason, tick) }

stays_self : (t : Trigger) → Stays t t
stays_self t = stays_as t t refl refl refl refl

stays_then : (t u v : Trigger) → Stays t u → Stays u v → Stays t v
stays_then t u v x y = record {
  can = λ c. x.can (y.can c);
  quiet = λ k. y.quiet (x.quiet k);
  same = λ f none.
      let fell = still_fired u.can t.can x.can f in
      let one = x.same f none in
      let two = y.same fell (x.quiet (λ e. none) fell) in
      (two.0 ∙ one.0, two.1 ∙ one.1);
}

quiet_by : (i j : ℕ) (s : Slot) (r q : Rig) → slot_at r j ≡ Some s → Becomes i j s r q → HasNoTimeout j r → HasNoTimeout j q
quiet_by i j s r q at b quiet v is = subst (λ (x : Slot). x.trigger.can ≡ false → x.trigger.timeout ≡ None) (one_slot (slot_at q j) b.slot v b.is is) (b.stays.quiet (quiet s at))

pub next_same : (i j : ℕ) (r : Rig) → Next i j r r
next_same i j r = record {
  slots = λ s e. record { slot = s; is = e; bound = λ b. b; stays = stays_self s.trigger; stops = λ stopped could b is. absurd (no_both s.trigger.can could stopped) };
  keep = λ h is. is;
  places = refl;
  sole = λ x. x;
  quiet = λ x. x;
}

then_stops : (i j : ℕ) (s : Slot) (r q p : Rig) (one : Becomes i j s r q) (two : Becomes i j one.slot q p) → ((h : Bool) → IsIn h i r.controller → IsIn h i q.controller) → ((h : Bool) → IsIn h i q.controller → IsIn h i p.controller)
    → (one.slot.trigger.can ≡ true) ⊎ (one.slot.trigger.can ≡ false) → two.slot.trigger.can ≡ false → s.trigger.can ≡ true → has i s.bound ≡ true → IsIn false i r.controller → IsIn true i p.controller
then_stops i j s r q p one two keep more (inl can) stopped could b is = two.stops stopped can (one.bound b) (keep false is)
then_stops i j s r q p one two keep more (inr fell) stopped could b is = more true (one.stops fell could b is)

pub next_then : (i j : ℕ) (r q p : Rig) → Next i j r q → Next i j q p → Next i j r p
next_then i j r q p x y = record {
  slots = λ s e.
      let one = x.slots s e in
      let two = y.slots one.slot one.is in
      record {
        slot = two.slot;
        is = two.is;
        bound = λ b. two.bound (one.bound b);
        stays = stays_then s.trigger one.slot.trigger two.slot.trigger one.stays two.stays;
        stops = then_stops i j s r q p one two x.keep y.keep (true_or_false one.slot.trigger.can);
      };
  keep = λ h is. y.keep h (x.keep h is);
  places = y.places ∙ x.places;
  sole = λ z. y.sole (x.sole z);
  quiet = λ z. y.quiet (x.quiet z);
}

-- the guard, and the trigger that has triggered
guard_by : (i j : ℕ) (r q : Rig) (g : IsGuarded i j r) (x : Next i j r q) (b : Becomes i j g.slot r q) → (g.slot.trigger.can ≡ true) ⊎ (g.slot.trigger.can ≡ false) → b.slot.trigger.can ≡ false → IsHalted (stepper_at q.controller i)
guard_by i j r q g x b (inl can) fell = is_halted (stepper_at q.controller i) (b.stops fell can g.bound (there_is (stepper_at r.controller i) g.there))
guard_by i j r q g x b (inr fired) fell = is_halted (stepper_at q.controller i) (x.keep true (halted_is (stepper_at r.controller i) (g.halted fired)))

pub guard_next : (i j : ℕ) (r q : Rig) → Next i j r q → IsGuarded i j r → IsGuarded i j q
guard_next i j r q x g =
    let b = x.slots g.slot g.is in
    record {
      slot = b.slot;
      is = b.is;
      bound = b.bound g.bound;
      there = is_there false (stepper_at q.controller i) (x.keep false (there_is (stepper_at r.controller i) g.there));
      halted = guard_by i j r q g x b (true_or_false g.slot.trigger.can);
    }

pub fired_next : (i j : ℕ) (r q : Rig) → Next i j r q → HasFired j r → HasFired j q
fired_next i j r q x f =
    let b = x.slots f.slot f.is in
    record { slot = b.slot; is = b.is; fired = still_fired b.slot.trigger.can f.slot.trigger.can b.stays.can f.fired }

pub stands_next : (i j reason clock : ℕ) (r q : Rig) → Next i j r q → StandsFired j reason clock r → StandsFired j reason clock q
stands_next i j reason clock r q x f =
    let b = x.slots f.slot f.is in
    let fell = still_fired b.slot.trigger.can f.slot.trigger.can b.stays.can f.fired in
    let same = b.stays.same f.fired f.none in
    record { slot = b.slot; is = b.is; fired = fell; none = b.stays.quiet (λ e. f.none) fell; reason_is = same.0 ∙ f.reason_is; clock_is = ap (λ (n : ℕ). n % 2 ^ 32) same.1 ∙ f.clock_is }

pub guard_halts : (r : Rig) (i j : ℕ) → IsGuarded i j r → HasFired j r → IsHalted (stepper_at r.controller i)
guard_halts r i j g f = g.halted (subst (λ (s : Slot). s.trigger.can ≡ false) (one_slot (slot_at r j) f.slot g.slot f.is g.is) f.fired)

-- a place of the triggers is set
record Own (i : ℕ) (s u : Slot) (r q : Rig) : Type 0 where
  bound : has i s.bound ≡ true → has i u.bound ≡ true
  stays : Stays s.trigger u.trigger
  stops : u.trigger.can ≡ false → s.trigger.can ≡ true → has i s.bound ≡ true → IsIn false i r.controller → IsIn true i q.controller

other_next : (i j : ℕ) (r q : Rig) → slot_at q j ≡ slot_at r j → length q.triggers ≡ length r.triggers → (IsSole j r → IsSole j q) → ((h : Bool) → IsIn h i r.controller → IsIn h i q.controller) → Next i j r q
other_next i j r q e places sole keep = record {
  slots = λ s at. record { slot = s; is = e ∙ at; bound = λ b. b; stays = stays_self s.trigger; stops = λ stopped could b is. absurd (no_both s.trigger.can could stopped) };
  keep = keep;
  places = places;
  sole = sole;
  quiet = λ quiet s at. quiet s (sym e ∙ at);
}

-- no other trigger stands on the board
sole_by : (j k oid : ℕ) (r q : Rig) (u v : Slot) → q.triggers ≡ set r.triggers oid (Some u) → oid ≡ j → IsSole j r → slot_at q k ≡ Some v → (oid ≡ k) ⊎ (oid ≢ k) → k ≡ j
sole_by j k oid r q u v e own sole is (inl same) = sym same ∙ own
sole_by j k oid r q u v e own sole is (inr d) = sole k v (sym (set_other r q k oid (Some u) e d) ∙ is)

sole_set : (j oid : ℕ) (r q : Rig) (u : Slot) → q.triggers ≡ set r.triggers oid (Some u) → (IsSole j r → oid ≡ j) → IsSole j r → IsSole j q
sole_set j oid r q u e own sole k v is = sole_by j k oid r q u v e (own sole) sole is (same_or_not oid k)

own_becomes : (i j : ℕ) (s u v : Slot) (r q : Rig) → slot_at r j ≡ Some s → q.triggers ≡ set r.triggers j (Some u) → Own i s u r q → slot_at r j ≡ Some v → Becomes i j v r q
own_becomes i j s u v r q at e own is =
    subst (λ (x : Slot). Becomes i j x r q) (one_slot (slot_at r j) s v at is)
    (record {
      slot = u;
      is = ap (λ (xs : List (Option Slot)). get_or xs j None) e ∙ get_or-set_same r.triggers j (Some u) None (slot_range r.triggers j s at);
      bound = own.bound;
      stays = own.stays;
      stops = own.stops;
    })

set_places : (r q : Rig) (oid : ℕ) (v : Option Slot) → q.triggers ≡ set r.triggers oid v → length q.triggers ≡ length r.triggers
set_places r q oid v e = ap length e ∙ length-set r.triggers oid v

next_by : (i j oid : ℕ) (s u : Slot) (r q : Rig) → slot_at r oid ≡ Some s → q.triggers ≡ set r.triggers oid (Some u) → ((h : Bool) → IsIn h i r.controller → IsIn h i q.controller)
    → (oid ≡ j → Own i s u r q) → (oid ≡ j) ⊎ (oid ≢ j) → Next i j r q
next_by i j oid s u r q at e keep own (inl same) =
    let here : slot_at r j ≡ Some s = subst (λ (n : ℕ). slot_at r n ≡ Some s) same at in
    let becomes_one : (v : Slot) → slot_at r j ≡ Some v → Becomes i j v r q = (λ v is. own_becomes i j s u v r q here (subst (λ (n : ℕ). q.triggers ≡ set r.triggers n (Some u)) same e) (own same) is) in
    record {
      slots = becomes_one;
      keep = keep;
      places = set_places r q oid (Some u) e;
      sole = sole_set j oid r q u e (λ sole. sole oid s at);
      quiet = quiet_by i j s r q here (becomes_one s here);
    }
next_by i j oid s u r q at e keep own (inr d) = other_next i j r q (set_other r q j oid (Some u) e d) (set_places r q oid (Some u) e) (sole_set j oid r q u e (λ sole. sole oid s at)) keep

becomes_next : (i j oid : ℕ) (r : Rig) (s : Slot) (t : Trigger) → slot_at r oid ≡ Some s → (oid ≡ j → Stays s.trigger t) → Next i j r (becomes r oid s t)
becomes_next i j oid r s t at stays =
    next_by i j oid s (record s { trigger = t }) r (becomes r oid s t) at refl (λ h is. halts_is (s.trigger.can && not t.can) s.bound r.controller i h is)
    (λ same. record {
      bound = λ b. b;
      stays = stays same;
      stops = λ stopped could member is. halts_all (s.trigger.can && not t.can) s.bound r.controller i (both_true s.trigger.can t.can could stopped) member is;
    })
    (same_or_not oid j)

-- commands of triggers
new_quiet : (j : ℕ) (r q : Rig) (u : Slot) → q.triggers ≡ set r.triggers j (Some u) → u.trigger.timeout ≡ None → HasNoTimeout j q
new_quiet j r q u e quiet v is stopped =
    let within : j < length r.triggers = subst (λ (n : ℕ). j < n) (set_places r q j (Some u) e) (slot_range q.triggers j v is) in
    let at : slot_at q j ≡ Some u = ap (λ (xs : List (Option Slot)). get_or xs j None) e ∙ get_or-set_same r.triggers j (Some u) None within in
    subst (λ (x : Slot). x.trigger.timeout ≡ None) (one_slot (slot_at q j) u v at is) quiet

new_next : (i j oid : ℕ) (r q : Rig) (u : Slot) → slot_at r oid ≡ None → u.trigger.timeout ≡ None → q.triggers ≡ set r.triggers oid (Some u) → ((h : Bool) → IsIn h i r.controller → IsIn h i q.controller) → oid ≡ j → Next i j r q
new_next i j oid r q u none quiet e keep same = record {
  slots = λ s is. let here : None ≡ Some s = sym none ∙ ap (λ (n : ℕ). slot_at r n) same ∙ is in absurd (cc);
  keep = keep;
  places = set_places r q oid (Some u) e;
  sole = sole_set j oid r q u e (λ sole. same);
  quiet = λ was. new_quiet j r q u (subst (λ (n : ℕ). q.triggers ≡ set r.triggers n (Some u)) same e) quiet;
}

made_next : (i j oid : ℕ) (r : Rig) (o : Option Slot) → slot_at r oid ≡ o → oid ≡ j → Next i j r (make_trigger r oid o)
made_next i j oid r None e same = new_next i j oid r (make_trigger r oid None) (record { trigger = trig.new_trigger; pin = 0; bound = [] }) e refl refl (λ h is. is) same
made_next i j oid r (Some s) e same = next_same i j r

endstop_next : (i j oid pin : ℕ) (r : Rig) (o : Option ℕ) → Next i j r (make_endstop r oid pin o)
endstop_next i j oid pin r None = other_next i j r (make_endstop r oid pin None) refl refl (λ x. x) (λ h is. is)
endstop_next i j oid pin r (Some p) = next_same i j r

start_next : (i j oid : ℕ) (r : Rig) (o : Option Slot) (clock every reason : ℕ) → slot_at r oid ≡ o → (oid ≡ j → ⊥) → Next i j r (start_trigger r oid o clock every reason)
start_next i j oid r None clock every reason e other = next_same i j r
start_next i j oid r (Some s) clock every reason e other = becomes_next i j oid r s _ e (λ same. absurd (other same))

expires_next : (i j oid : ℕ) (o : Option ℕ) (r : Rig) (s : Slot) (t : Trigger) → slot_at r oid ≡ Some s → Stays s.trigger t → Next i j r (expires_at_once r oid s t o).rig
expires_next i j oid None r s t at stays = becomes_next i j oid r s t at (λ same. stays)
expires_next i j oid (Some n) r s t at stays = becomes_next i j oid r s (record t { untold = None }) at (λ same. record { can = stays.can; quiet = stays.quiet; same = stays.same })

timeout_stays : (can early : Bool) (now tick : ℕ) (t : Trigger) → t.can ≡ can → Stays t (if can then (if early then record t { timeout = Some tick } else record (trig.fired now t.expire t) { untold = Some now }) else t)
timeout_stays true true now tick t e = stays_could t (record t { timeout = Some tick }) e (λ f. absurd (no_both t.can e f))
timeout_stays true false now tick t e = stays_could t (record (trig.fired now t.expire t) { untold = Some now }) e (λ f. refl)
timeout_stays false early now tick t e = stays_self t

set_next : (i j oid clock : ℕ) (r : Rig) (o : Option Slot) → slot_at r oid ≡ o → Next i j r (set_timeout r oid o clock).rig
set_next i j oid clock r None e = next_same i j r
set_next i j oid clock r (Some s) e =
    let t = trig.with_timeout r.controller.tick clock s.trigger in
    expires_next i j oid t.untold r s t e (timeout_stays s.trigger.can (nat_lt r.controller.tick (nearest r.controller.tick clock)) r.controller.tick (nearest r.controller.tick clock) s.trigger refl)

triggered_stays : (x : Bool) (now reason : ℕ) (t : Trigger) → t.can ≡ x → Stays t (if x then trig.fired now reason t else t)
triggered_stays true now reason t e = stays_could t (trig.fired now reason t) e (λ f. refl)
triggered_stays false now reason t e = stays_self t

trigger_next : (i j oid reason : ℕ) (r : Rig) (o : Option Slot) → slot_at r oid ≡ o → Next i j r (trigger r oid o reason).rig
trigger_next i j oid reason r None e = next_same i j r
trigger_next i j oid reason r (Some s) e = becomes_next i j oid r s (trig.triggered r.controller.tick reason s.trigger) e (λ same. triggered_stays s.trigger.can r.controller.tick reason s.trigger refl)

bind_next : (i j oid other : ℕ) (r : Rig) (q : Option Pending) (o : Option Slot) → slot_at r other ≡ o → Next i j r (bind r oid q other o)
bind_next i j oid other r None o e = next_same i j r
bind_next i j oid other r (Some q) None e = next_same i j r
bind_next i j oid other r (Some q) (Some s) e =
    next_by i j other s (record s { bound = oid ∷ s.bound }) r (bind r oid (Some q) other (Some s)) e refl (λ h is. halts_is (not s.trigger.can) (oid ∷ []) r.controller i h is)
    (λ same. record {
      bound = λ member. or_right (i == oid) (has i s.bound) member;
      stays = stays_self s.trigger;
      stops = λ stopped could member is. absurd (no_both s.trigger.can could stopped);
    })
    (same_or_not other j)

home_next : (i j other : ℕ) (r : Rig) (p : Option ℕ) (o : Option Slot) (h : Homing) → slot_at r other ≡ o → Next i j r (home r p other o h)
home_next i j other r None o h e = next_same i j r
home_next i j other r (Some pin) None h e = next_same i j r
home_next i j other r (Some pin) (Some s) h e =
    next_by i j other s (record s { trigger = trig.sampling r.controller.tick h s.trigger; pin = pin }) r (home r (Some pin) other (Some s) h) e refl (λ k is. is)
    (λ same. record {
      bound = λ member. member;
      stays = stays_as s.trigger (trig.sampling r.controller.tick h s.trigger) refl refl refl refl;
      stops = λ stopped could member is. absurd (no_both s.trigger.can could stopped);
    })
    (same_or_not other j)

calm_behind : (i j : ℕ) (c : Cmd) → IsCalm i j c → IsBehindSetUp i j c
calm_behind i j (cmd.TrsyncStart oid clock every reason) k = k
calm_behind i j (cmd.ResetStepClock oid clock) k = k
calm_behind i j c k = tt

board_next : (i j : ℕ) (r : Rig) (c : Cmd) → IsCalm i j c → Next i j r (by_board r c).rig
board_next i j r c behind = other_next i j r (by_board r c).rig refl refl (λ x. x) (λ h is. takes_is h i j r.controller c (calm_behind i j c behind) is)

acts_next : (i j : ℕ) (r : Rig) (c : Cmd) → IsCalm i j c → Next i j r (acts r c).rig
acts_next i j r (cmd.ConfigTrsync oid) behind = made_next i j oid r (slot_at r oid) refl behind
acts_next i j r (cmd.TrsyncStart oid clock every reason) behind = start_next i j oid r (slot_at r oid) clock every reason refl behind
acts_next i j r (cmd.TrsyncSetTimeout oid clock) behind = set_next i j oid clock r (slot_at r oid) refl
acts_next i j r (cmd.TrsyncTrigger oid reason) behind = trigger_next i j oid reason r (slot_at r oid) refl
acts_next i j r (cmd.StepperStopOnTrigger oid other) behind = bind_next i j oid other r (stepper_at r.controller oid) (slot_at r other) refl
acts_next i j r (cmd.ConfigEndstop oid pin pull) behind = endstop_next i j oid pin r (slice_index_or r.endstops oid None)
acts_next i j r (cmd.EndstopHome oid clock sample count rest value other reason) behind =
    home_next i j other r (slice_index_or r.endstops oid None) (slot_at r other) (record { clock = clock; sample_ticks = sample; sample_count = count; rest_ticks = rest; pin_value = value; reason = reason }) refl
acts_next i j r c behind = board_next i j r c behind

running_next : (o : BoardState) (i j : ℕ) (r : Rig) (c : Cmd) → IsCalm i j c → Next i j r (acts_running o r c).rig
running_next Running i j r c behind = acts_next i j r c behind
running_next (Shut reason tick first) i j r c behind = board_next i j r c behind

pub takes_next : (i j : ℕ) (r : Rig) (c : Cmd) → IsCalm i j c → Next i j r (takes r c).rig
takes_next i j r c behind = running_next r.controller.state i j r c behind

-- time
pub runs_next : (i j : ℕ) (r : Rig) (t : ℕ) → Next i j r (runs_to r t).rig
runs_next i j r t = other_next i j r (runs_to r t).rig refl refl (λ x. x) (λ h is. passes_is h i r.controller t is)

rested_from : (pins : List (List Level)) (t : ℕ) (o : Option Slot) (u : Slot) → rested pins t o ≡ Some u → (s : Slot) × (o ≡ Some s)
rested_from pins t None u e = absurd (cc)
rested_from pins t (Some s) u e = (s, refl)

rests_sole : (j : ℕ) (r : Rig) (t : ℕ) → IsSole j r → IsSole j (rests_to r t).rig
rests_sole j r t sole k u is =
    let was = rested_from r.pins t (slot_at r k) u (sym (map_at (rested r.pins t) r.triggers k refl) ∙ is) in
    sole k was.0 was.1

rests_becomes : (i j : ℕ) (r : Rig) (t : ℕ) (s : Slot) → slot_at r j ≡ Some s → Becomes i j s r (rests_to r t).rig
rests_becomes i j r t s e =
    let rests = (trig.happened (slice_index_or r.pins s.pin []) t Nothing s.trigger).trigger in
    record {
      slot = record s { trigger = rests };
      is = map_at (rested r.pins t) r.triggers j refl ∙ ap (λ (o : Option Slot). rested r.pins t o) e;
      bound = λ b. b;
      stays = stays_as s.trigger rests refl refl refl refl;
      stops = λ stopped could b is. absurd (no_both s.trigger.can could stopped);
    }

rests_quiet : (i j : ℕ) (r : Rig) (t : ℕ) → HasNoTimeout j r → HasNoTimeout j (rests_to r t).rig
rests_quiet i j r t quiet u is =
    let was = rested_from r.pins t (slot_at r j) u (sym (map_at (rested r.pins t) r.triggers j refl) ∙ is) in
    quiet_by i j was.0 r (rests_to r t).rig was.1 (rests_becomes i j r t was.0 was.1) quiet u is

rests_next : (i j : ℕ) (r : Rig) (t : ℕ) → Next i j r (rests_to r t).rig
rests_next i j r t = record {
  slots = rests_becomes i j r t;
  keep = λ h is. passes_is h i r.controller t is;
  places = length-map r.triggers (rested r.pins t);
  sole = rests_sole j r t;
  quiet = rests_quiet i j r t;
}

-- a trigger that can't trigger and has no timeout only reports
happened_stays : (e s report : Option ℕ) (levels : List Level) (until : ℕ) (t : Trigger) → trig.expiry_of until t ≡ e → trig.switch_of levels until t ≡ s → Stays t (trig.happened levels until (trig.earliest_happening e s report) t).trigger
happened_stays e s (Some tick) levels until t at on = stays_as t (record t { report = Some (tick + t.every) }) refl refl refl refl
happened_stays e (Some tick) None levels until t at on =
    let is = was_switch levels (trig.or_until until (trig.expiry_of until t)) t.can t.sampling tick on in
    stays_could t (trig.fired tick (trig.reason_of t.sampling) t) is.0.1 (λ f. refl)
happened_stays (Some tick) None None levels until t at on = record {
  can = λ (c : false ≡ true). absurd (no_both false c refl);
  quiet = λ k f. refl;
  same = λ f none. let bad : None ≡ Some tick = sym none ∙ (was_before until t.timeout tick at).0 in absurd (cc);
}
happened_stays None None None levels until t at on = stays_as t (record t { sampling = trig.read_to levels until t.sampling }) refl refl refl refl

tells_stays : (o : Option ℕ) (levels : List Level) (until : ℕ) (t : Trigger) → Stays t (trig.tells o levels until t).trigger
tells_stays None levels until t = happened_stays (trig.expiry_of until t) (trig.switch_of levels until t) (trig.report_of levels until t) levels until t refl refl
tells_stays (Some tick) levels until t = stays_as t (record t { untold = None }) refl refl refl refl

pub happens_next : (i j : ℕ) (r : Rig) (until oid : ℕ) (o : Option Slot) → slot_at r oid ≡ o → Next i j r (happens_to r until oid o).rig
happens_next i j r until oid None e = next_same i j r
happens_next i j r until oid (Some s) e =
    becomes_next i j oid r s (trig.advanced (levels_of r s.pin) until s.trigger).trigger e (λ same. tells_stays s.trigger.untold (levels_of r s.pin) until s.trigger)

goes_next : (i j : ℕ) (o : Option (ℕ × ℕ)) (r : Rig) (t : ℕ) (rest : Passed) → (Next i j (happens_at r t (at_of o)).rig rest.rig) → Next i j r (goes_on o (rests_to r t) (passes_by (happens_at r t (at_of o)) rest)).rig
goes_next i j None r t rest more = rests_next i j r t
goes_next i j (Some at) r t rest more =
    let ran = (runs_to r (at.0 / 3)).rig in
    next_then i j r (happens_at r t at).rig rest.rig
    (next_then i j r (runs_to r (at.0 / 3)).rig (happens_at r t at).rig (runs_next i j r (at.0 / 3)) (happens_next i j (runs_to r (at.0 / 3)).rig t at.1 (slot_at (runs_to r (at.0 / 3)).rig at.1) refl)) more

pub pass_next : (n i j : ℕ) (r : Rig) (t : ℕ) → Next i j r (pass n r t).rig
pass_next zero i j r t = next_same i j r
pass_next (suc n) i j r t =
    goes_next i j (earliest_moment r t 0 r.triggers) r t (pass n (happens_at r t (at_of (earliest_moment r t 0 r.triggers))).rig t)
    (pass_next n i j (happens_at r t (at_of (earliest_moment r t 0 r.triggers))).rig t)

pub passes_next : (i j : ℕ) (r : Rig) (t : ℕ) → Next i j r (passes r t).rig
passes_next i j r t = elim (leb_tells r.controller.tick t) [ inl p ↦ rw p.0 (pass_next (all_left t r.triggers + 1) i j r t) | inr p ↦ rw p.0 (next_same i j r) ]

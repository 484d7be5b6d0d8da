-- A board by the commands that it took: which stepper is bound to its trigger.
use Rattle.std.proofs.Common.{◌≡◌, ℕ, zero, suc, ◌+◌, ◌/◌, ◌<◌, ◌==◌, ◌&&◌, ◌||◌, inl, inr, Bool, true, false, cond, not, List, [], ◌∷◌, ◌++◌, length, map, get_or, set, Option, Some, None, refl, ap, sym, ◌∙◌, subst, arith, append-nil}
use Rattle.std.specs.Prelude.{slice_index_or}
use Rattle.laws_board.proofs.Names.{eq-eqb, eqb-true, get_or-set_same, length-map, map-append, leb_tells, Level, BoardDef, BoardState, Running, Shut, BoardClock, clock_of, Entry, Pending, Trigger, Cmd, Controller, is_shut, Meant, commands_of, Rig, Slot, Passed, acts, acts_running, all_left, at_of, becomes, earliest_moment, expires_at_once, goes_on, happens_to, pass, passes, passes_by, rests_to, runs_to, set_timeout, slot_at, takes, takes_all, slot_range, Event, Core, Step, Do, Turn, after_event, in_turn, run_world, new_world as start_core, takes_in, first_state, orders, LinkState, turns_are_steps, both_parts}
use Rattle.std.proofs.lemmas.List.{length-set}
use Rattle.plan_types.specs.declared.plan.Triple.{Triple}
use Rattle.board_step.specs.Steps.{ticks_at}
use Rattle.board_trig.specs.declared.sampling.Homing.{Homing}
use Rattle.board_trig.specs.Trigger as trig
use Rattle.msg_code.specs.declared.cmd.Cmd.TheVariants as cmd
use Rattle.board_sim.specs.Board.{emptied, first_of, is_none_pending, make_stepper, quiet, queue_step, refusal, reset, set_dir, slot_to, stepper_at, stop, takes_triple, with_stepper}
use Rattle.board_sim.specs.Board as board
use Rattle.board_sim.specs.Rig.{bind, halt, halts, home, levels_of, make_endstop, make_trigger, start_trigger, trigger}
use Rattle.board_sim.specs.Rig.{happens_at as rig_happens}
use Rattle.board_sim.specs.RigRuns.{IsThere, has}
use Rattle.board_sim.proofs.Bound.{halts_all, halts_is}
use Rattle.board_sim.proofs.Enough.{none_at}
use Rattle.board_sim.proofs.RigPlaces.{is_halted, is_there, set_is, there_is}
use Rattle.board_sim.proofs.RigShut.{all_left_by}
use Rattle.board_sim.proofs.RigStates.{passes_state}
use Rattle.board_world.specs.declared.event.Event.TheVariants as event
use Rattle.laws_board.specs.turns.Turns.{AreBoardTurns, BoardTurn, stands_after}
use Rattle.laws_homing.specs.home_runs.Guards.{IsCalm, IsGuarded, IsSole}
use Rattle.laws_homing.specs.home_runs.Stages.{Stage, lost_stage, no_stage, stage_from, stage_of}
use Rattle.laws_homing.proofs.clear_boards.Slots.{running_beside, running_sole}
use Rattle.laws_homing.proofs.home_runs.Guarding.{Next, guard_next, passes_next, takes_next}
use Rattle.laws_homing.proofs.home_runs.Windows.{takes_places}
use Rattle.plan_types.proofs.Facts.{false_true}
use Rattle.laws_homing.proofs.clear_boards.Turned.{ran as ran_before}

-- a trigger stands here
pub record HasSlot (j : ℕ) (r : Rig) : Type 0 where
  pub slot : Slot
  pub is : slot_at r j ≡ Some slot

-- what holds of a board that runs
pub record Staged (i j : ℕ) (s : Stage) (r : Rig) : Type 0 where
  pub sole : s.sole ≡ true → IsSole j r
  pub made : s.made ≡ true → IsThere (stepper_at r.controller i)
  pub there : s.there ≡ true → HasSlot j r
  pub bound : s.bound ≡ true → IsGuarded i j r

next_there : (i j : ℕ) (r q : Rig) → Next i j r q → IsThere (stepper_at r.controller i) → IsThere (stepper_at q.controller i)
next_there i j r q x t = is_there false (stepper_at q.controller i) (x.keep false (there_is (stepper_at r.controller i) t))

next_slot : (i j : ℕ) (r q : Rig) → Next i j r q → HasSlot j r → HasSlot j q
next_slot i j r q x h = let b = x.slots h.slot h.is in record { slot = b.slot; is = b.is }

staged_next : (i j : ℕ) (s : Stage) (r q : Rig) → Next i j r q → Staged i j s r → Staged i j s q
staged_next i j s r q x k = record {
  sole = λ e. x.sole (k.sole e);
  made = λ e. next_there i j r q x (k.made e);
  there = λ e. next_slot i j r q x (k.there e);
  bound = λ e. guard_next i j r q x (k.bound e);
}

lost : (i j : ℕ) (r : Rig) → Staged i j lost_stage r
lost i j r = record { sole = λ e. absurd (false_true e); made = λ e. absurd (false_true e); there = λ e. absurd (false_true e); bound = λ e. absurd (false_true e) }

-- a stepper is made
made_there : (b : Controller) (i : ℕ) (o : Option Pending) → stepper_at b i ≡ o → i < length b.steppers → IsThere (stepper_at (make_stepper b i o).board i)
made_there b i None e few = subst IsThere (sym (get_or-set_same b.steppers i (Some (record { halted = false; up = false; last = 0; groups = []; slots = b.slots })) None few)) tt
made_there b i (Some q) e few = subst IsThere (sym e) tt

made_case : (t : Bool) (i j oid step dir invert width : ℕ) (s : Stage) (r : Rig) → (oid == i) ≡ t → i < length r.controller.steppers → r.controller.state ≡ Running
    → Staged i j s (acts r (cmd.ConfigStepper oid step dir invert width)).rig → Staged i j (cond t (record s { made = true }) s) (acts r (cmd.ConfigStepper oid step dir invert width)).rig
made_case false i j oid step dir invert width s r e few runs k = k
made_case true i j oid step dir invert width s r e few runs k =
    let c = cmd.ConfigStepper oid step dir invert width in
    record {
      sole = k.sole;
      made = λ x. subst (λ (o : BoardState). IsThere (stepper_at (board.acts_running o r.controller c).board i)) (sym runs)
          (subst (λ (n : ℕ). IsThere (stepper_at (make_stepper r.controller n (stepper_at r.controller n)).board i)) (sym (eqb-true oid i e)) (made_there r.controller i (stepper_at r.controller i) refl few));
      there = k.there;
      bound = k.bound;
    }

-- a trigger is made
slot_made : (r : Rig) (j : ℕ) (o : Option Slot) → slot_at r j ≡ o → j < length r.triggers → HasSlot j (make_trigger r j o)
slot_made r j None e few =
    let u : Slot = record { trigger = trig.new_trigger; pin = 0; bound = [] } in
    record { slot = u; is = get_or-set_same r.triggers j (Some u) None few }
slot_made r j (Some s) e few = record { slot = s; is = e }

trigger_case : (t : Bool) (i j oid : ℕ) (s : Stage) (r : Rig) → (oid == j) ≡ t → j < length r.triggers → (oid ≡ j → Staged i j s (acts r (cmd.ConfigTrsync oid)).rig)
    → Staged i j (cond t (record s { there = true }) lost_stage) (acts r (cmd.ConfigTrsync oid)).rig
trigger_case false i j oid s r e few k = lost i j (acts r (cmd.ConfigTrsync oid)).rig
trigger_case true i j oid s r e few k =
    let same = eqb-true oid j e in
    let now = k same in
    record {
      sole = now.sole;
      made = now.made;
      there = λ x. subst (λ (n : ℕ). HasSlot j (make_trigger r n (slot_at r n))) (sym same) (slot_made r j (slot_at r j) refl few);
      bound = now.bound;
    }

-- a trigger is started anew
start_sole : (r : Rig) (j oid : ℕ) (clock every reason : ℕ) → IsSole j r → IsSole j (acts r (cmd.TrsyncStart oid clock every reason)).rig
start_sole r j oid clock every reason sole = running_sole Running r j (cmd.TrsyncStart oid clock every reason) tt sole

start_case : (t : Bool) (i j oid clock every reason : ℕ) (s : Stage) (r : Rig) → (oid == j) ≡ t → r.controller.state ≡ Running → Staged i j s r
    → Staged i j (cond t (record s { bound = false }) s) (acts r (cmd.TrsyncStart oid clock every reason)).rig
start_case true i j oid clock every reason s r e runs k = record {
  sole = λ x. start_sole r j oid clock every reason (k.sole x);
  made = λ x. subst (λ (o : BoardState). IsThere (stepper_at (acts_running o r (cmd.TrsyncStart oid clock every reason)).rig.controller i)) runs
      (next_there i (suc oid) r (takes r (cmd.TrsyncStart oid clock every reason)).rig (takes_next i (suc oid) r (cmd.TrsyncStart oid clock every reason) (λ same. omega (arith, same))) (k.made x));
  there = λ x. let h = k.there x in let u = (running_beside Running r (cmd.TrsyncStart oid clock every reason)).3 j h.slot h.is in record { slot = u.0; is = u.1 };
  bound = λ x. absurd (false_true x);
}
start_case false i j oid clock every reason s r e runs k =
    subst (λ (o : BoardState). Staged i j s (acts_running o r (cmd.TrsyncStart oid clock every reason)).rig) runs
    (staged_next i j s r (takes r (cmd.TrsyncStart oid clock every reason)).rig (takes_next i j r (cmd.TrsyncStart oid clock every reason) (λ same. other oid j e same)) k)
  where
    other : (m n : ℕ) → (m == n) ≡ false → m ≡ n → ⊥
    other m n f same = let g = eq-eqb m n same in cc

-- the clock of a stepper is set
set_there : (b : Controller) (i oid : ℕ) (q : Pending) → IsThere (stepper_at b i) → IsThere (stepper_at (with_stepper b oid q) i)
set_there b i oid q t = is_there false (stepper_at (with_stepper b oid q) i) (set_is false b.steppers i oid (Some q) (there_is (stepper_at b i) t) (λ same e. absurd (cc)))

emptied_there : (xs : List (Option Pending)) (i : ℕ) → IsThere (get_or xs i None) → IsThere (get_or (map emptied xs) i None)
emptied_there [] i t = t
emptied_there (None ∷ xs) zero t = t
emptied_there (Some q ∷ xs) zero t = tt
emptied_there (x ∷ xs) (suc i) t = emptied_there xs i t

reset_by : (c : Bool) (b : Controller) (i oid : ℕ) (q : Pending) → IsThere (stepper_at b i) → IsThere (stepper_at (cond c (quiet (with_stepper b oid q)) (stop b 3 0)).board i)
reset_by true b i oid q t = set_there b i oid q t
reset_by false b i oid q t = emptied_there b.steppers i t

reset_there : (b : Controller) (i oid clock : ℕ) (o : Option Pending) → IsThere (stepper_at b i) → IsThere (stepper_at (reset b oid o clock).board i)
reset_there b i oid clock None t = t
reset_there b i oid clock (Some q) t = reset_by (is_none_pending q.groups) b i oid (record q { last = clock; halted = false }) t

reset_case : (t : Bool) (i j oid clock : ℕ) (s : Stage) (r : Rig) → (oid == i) ≡ t → r.controller.state ≡ Running → Staged i j s r
    → Staged i j (cond t (record s { bound = false }) s) (acts r (cmd.ResetStepClock oid clock)).rig
reset_case true i j oid clock s r e runs k =
    let c = cmd.ResetStepClock oid clock in
    let next = subst (λ (o : BoardState). Next (suc oid) j r (acts_running o r c).rig) runs (takes_next (suc oid) j r c (λ same. omega (arith, same))) in
    record {
      sole = λ x. next.sole (k.sole x);
      made = λ x. subst (λ (o : BoardState). IsThere (stepper_at (board.acts_running o r.controller c).board i)) (sym runs) (reset_there r.controller i oid clock (stepper_at r.controller oid) (k.made x));
      there = λ x. next_slot (suc oid) j r (acts r c).rig next (k.there x);
      bound = λ x. absurd (false_true x);
    }
reset_case false i j oid clock s r e runs k =
    subst (λ (o : BoardState). Staged i j s (acts_running o r (cmd.ResetStepClock oid clock)).rig) runs
    (staged_next i j s r (takes r (cmd.ResetStepClock oid clock)).rig (takes_next i j r (cmd.ResetStepClock oid clock) (λ same. other oid i e same)) k)
  where
    other : (m n : ℕ) → (m == n) ≡ false → m ≡ n → ⊥
    other m n f same = let g = eq-eqb m n same in cc

-- a stepper is bound
pub bound_is : (i j : ℕ) (r : Rig) (q : Option Pending) (o : Option Slot) → stepper_at r.controller i ≡ q → slot_at r j ≡ o → IsThere (stepper_at r.controller i) → HasSlot j r → IsGuarded i j (bind r i q j o)
bound_is i j r None o e f t h = absurd (subst IsThere e t)
bound_is i j r (Some q) None e f t h = let x : None ≡ Some h.slot = sym f ∙ h.is in absurd (cc)
bound_is i j r (Some q) (Some s) e f t h =
    let u = record s { bound = i ∷ s.bound } in
    record {
      slot = u;
      is = get_or-set_same r.triggers j (Some u) None (slot_range r.triggers j s f);
      bound = ap (λ (b : Bool). b || has i s.bound) (eq-eqb i i refl);
      there = is_there false (stepper_at (bind r i (Some q) j (Some s)).controller i) (halts_is (not s.trigger.can) (i ∷ []) r.controller i false (there_is (stepper_at r.controller i) t));
      halted = λ fell. is_halted (stepper_at (bind r i (Some q) j (Some s)).controller i)
          (halts_all (not s.trigger.can) (i ∷ []) r.controller i (ap not fell) (ap (λ (b : Bool). b || has i []) (eq-eqb i i refl)) (there_is (stepper_at r.controller i) t));
    }

bind_case : (t : Bool) (i j oid other : ℕ) (s : Stage) (r : Rig) → ((oid == i) && (other == j)) ≡ t → Staged i j s r → Staged i j s (acts r (cmd.StepperStopOnTrigger oid other)).rig
    → Staged i j (cond t (record s { bound = s.made && s.there }) s) (acts r (cmd.StepperStopOnTrigger oid other)).rig
bind_case false i j oid other s r e old k = k
bind_case true i j oid other s r e old k =
    let both = both_parts (oid == i) (other == j) e in
    record {
      sole = k.sole;
      made = k.made;
      there = k.there;
      bound = λ x.
          let flags = both_parts s.made s.there x in
          subst (λ (n : ℕ). IsGuarded i j (bind r n (stepper_at r.controller n) other (slot_at r other))) (sym (eqb-true oid i both.0))
          (subst (λ (n : ℕ). IsGuarded i j (bind r i (stepper_at r.controller i) n (slot_at r n))) (sym (eqb-true other j both.1))
          (bound_is i j r (stepper_at r.controller i) (slot_at r j) refl refl (old.made flags.0) (old.there flags.1)));
    }

-- a command of a board that runs
calm_case : (i j : ℕ) (s : Stage) (r : Rig) (c : Cmd) → r.controller.state ≡ Running → IsCalm i j c → Staged i j s r → Staged i j s (acts r c).rig
calm_case i j s r c runs calm k = subst (λ (o : BoardState). Staged i j s (acts_running o r c).rig) runs (staged_next i j s r (takes r c).rig (takes_next i j r c calm) k)

acts_staged : (i j : ℕ) (s : Stage) (r : Rig) (c : Cmd) → r.controller.state ≡ Running → i < length r.controller.steppers → j < length r.triggers → Staged i j s r → Staged i j (stage_of i j s c) (acts r c).rig
acts_staged i j s r (cmd.ConfigStepper oid step dir invert width) runs few more k =
    made_case (oid == i) i j oid step dir invert width s r refl few runs (calm_case i j s r (cmd.ConfigStepper oid step dir invert width) runs tt k)
acts_staged i j s r (cmd.ConfigTrsync oid) runs few more k = trigger_case (oid == j) i j oid s r refl more (λ same. calm_case i j s r (cmd.ConfigTrsync oid) runs same k)
acts_staged i j s r (cmd.TrsyncStart oid clock every reason) runs few more k = start_case (oid == j) i j oid clock every reason s r refl runs k
acts_staged i j s r (cmd.ResetStepClock oid clock) runs few more k = reset_case (oid == i) i j oid clock s r refl runs k
acts_staged i j s r (cmd.StepperStopOnTrigger oid other) runs few more k = bind_case ((oid == i) && (other == j)) i j oid other s r refl k (calm_case i j s r (cmd.StepperStopOnTrigger oid other) runs tt k)
acts_staged i j s r c runs few more k = calm_case i j s r c runs tt k

takes_staged : (i j : ℕ) (s : Stage) (r : Rig) (c : Cmd) → r.controller.state ≡ Running → i < length r.controller.steppers → j < length r.triggers → Staged i j s r → Staged i j (stage_of i j s c) (takes r c).rig
takes_staged i j s r c runs few more k = subst (λ (o : BoardState). Staged i j (stage_of i j s c) (acts_running o r c).rig) (sym runs) (acts_staged i j s r c runs few more k)

-- the places of steppers are as many as they were
halt_places : (is : List ℕ) (xs : List (Option Pending)) → length (halt is xs) ≡ length xs
halt_places [] xs = refl
halt_places (i ∷ is) xs = halt_places is (set xs i (emptied (get_or xs i None))) ∙ length-set xs i (emptied (get_or xs i None))

abbrev AsMany : Controller → Controller → Type 0
AsMany b c = length c.steppers ≡ length b.steppers

halts_places : (x : Bool) (bound : List ℕ) (b : Controller) → AsMany b (halts x bound b)
halts_places true bound b = halt_places bound b.steppers
halts_places false bound b = refl

either_places : (x : Bool) (b : Controller) (d e : board.Done) → AsMany b d.board → AsMany b e.board → AsMany b (cond x d e).board
either_places true b d e k l = k
either_places false b d e k l = l

triple_places : (o : Option (ℕ × ℕ)) (b : Controller) (oid : ℕ) (q : Pending) (ticks : List ℕ) → AsMany b (takes_triple o b oid q ticks).board
triple_places None b oid q ticks = length-set b.steppers oid _
triple_places (Some r) b oid q ticks = length-map b.steppers emptied

queue_places : (b : Controller) (oid : ℕ) (o : Option Pending) (t : Triple) → AsMany b (queue_step b oid o t).board
queue_places b oid None t = refl
queue_places b oid (Some q) t =
    either_places q.halted b (quiet b) (takes_triple (refusal b.tick q t) b oid q (ticks_at (first_of b.tick q t) t)) refl (triple_places (refusal b.tick q t) b oid q (ticks_at (first_of b.tick q t) t))

dir_places : (b : Controller) (oid : ℕ) (o : Option Pending) (dir : ℕ) → AsMany b (set_dir b oid o dir).board
dir_places b oid None dir = refl
dir_places b oid (Some q) dir = length-set b.steppers oid _

reset_places : (b : Controller) (oid : ℕ) (o : Option Pending) (clock : ℕ) → AsMany b (reset b oid o clock).board
reset_places b oid None clock = refl
reset_places b oid (Some q) clock =
    either_places (is_none_pending q.groups) b (quiet (with_stepper b oid (record q { last = clock; halted = false }))) (stop b 3 0) (length-set b.steppers oid _) (length-map b.steppers emptied)

make_places : (b : Controller) (oid : ℕ) (o : Option Pending) → AsMany b (make_stepper b oid o).board
make_places b oid None = length-set b.steppers oid _
make_places b oid (Some q) = refl

acts_places : (b : Controller) (c : Cmd) → AsMany b (board.acts b c).board
acts_places b cmd.EmergencyStop = length-map b.steppers emptied
acts_places b (cmd.ConfigStepper oid step dir invert width) = make_places b oid (stepper_at b oid)
acts_places b (cmd.QueueStep oid interval count add) = queue_places b oid (stepper_at b oid) (record { interval = interval; count = count; add = add })
acts_places b (cmd.SetNextStepDir oid dir) = dir_places b oid (stepper_at b oid) dir
acts_places b (cmd.ResetStepClock oid clock) = reset_places b oid (stepper_at b oid) clock
acts_places b c = refl

running_places : (o : BoardState) (b : Controller) (c : Cmd) → AsMany b (board.acts_running o b c).board
running_places Running b c = acts_places b c
running_places (Shut reason tick first) b c = refl

board_places : (b : Controller) (c : Cmd) → AsMany b (board.takes b c).board
board_places b (cmd.Identify offset count) = refl
board_places b cmd.GetConfig = refl
board_places b cmd.GetUptime = refl
board_places b c = running_places b.state b c

becomes_places : (r : Rig) (oid : ℕ) (s : Slot) (t : Trigger) → AsMany r.controller (becomes r oid s t).controller
becomes_places r oid s t = halts_places (s.trigger.can && not t.can) s.bound r.controller

new_places : (r : Rig) (oid : ℕ) (o : Option Slot) → AsMany r.controller (make_trigger r oid o).controller
new_places r oid None = refl
new_places r oid (Some s) = refl

end_places : (r : Rig) (oid pin : ℕ) (o : Option ℕ) → AsMany r.controller (make_endstop r oid pin o).controller
end_places r oid pin None = refl
end_places r oid pin (Some p) = refl

start_places : (r : Rig) (oid : ℕ) (o : Option Slot) (clock every reason : ℕ) → AsMany r.controller (start_trigger r oid o clock every reason).controller
start_places r oid None clock every reason = refl
start_places r oid (Some s) clock every reason = becomes_places r oid s (trig.started r.controller.tick clock every reason s.trigger)

expires_places : (r : Rig) (oid : ℕ) (s : Slot) (t : Trigger) (o : Option ℕ) → AsMany r.controller (expires_at_once r oid s t o).rig.controller
expires_places r oid s t None = becomes_places r oid s t
expires_places r oid s t (Some tick) = becomes_places r oid s (record t { untold = None })

timeout_places : (r : Rig) (oid : ℕ) (o : Option Slot) (clock : ℕ) → AsMany r.controller (set_timeout r oid o clock).rig.controller
timeout_places r oid None clock = refl
timeout_places r oid (Some s) clock = let t = trig.with_timeout r.controller.tick clock s.trigger in expires_places r oid s t t.untold

trigger_places : (r : Rig) (oid : ℕ) (o : Option Slot) (reason : ℕ) → AsMany r.controller (trigger r oid o reason).rig.controller
trigger_places r oid None reason = refl
trigger_places r oid (Some s) reason = becomes_places r oid s (trig.triggered r.controller.tick reason s.trigger)

bind_places : (r : Rig) (oid other : ℕ) (q : Option Pending) (o : Option Slot) → AsMany r.controller (bind r oid q other o).controller
bind_places r oid other None o = refl
bind_places r oid other (Some q) None = refl
bind_places r oid other (Some q) (Some s) = halts_places (not s.trigger.can) (oid ∷ []) r.controller

home_places : (r : Rig) (p : Option ℕ) (other : ℕ) (o : Option Slot) (h : Homing) → AsMany r.controller (home r p other o h).controller
home_places r None other o h = refl
home_places r (Some pin) other None h = refl
home_places r (Some pin) other (Some s) h = refl

rig_places : (r : Rig) (c : Cmd) → AsMany r.controller (acts r c).rig.controller
rig_places r (cmd.ConfigTrsync oid) = new_places r oid (slot_at r oid)
rig_places r (cmd.TrsyncStart oid clock every reason) = start_places r oid (slot_at r oid) clock every reason
rig_places r (cmd.TrsyncSetTimeout oid clock) = timeout_places r oid (slot_at r oid) clock
rig_places r (cmd.TrsyncTrigger oid reason) = trigger_places r oid (slot_at r oid) reason
rig_places r (cmd.StepperStopOnTrigger oid other) = bind_places r oid other (stepper_at r.controller oid) (slot_at r other)
rig_places r (cmd.ConfigEndstop oid pin pull) = end_places r oid pin (slice_index_or r.endstops oid None)
rig_places r (cmd.EndstopHome oid clock sample count rest value other reason) =
    home_places r (slice_index_or r.endstops oid None) other (slot_at r other) (record { clock = clock; sample_ticks = sample; sample_count = count; rest_ticks = rest; pin_value = value; reason = reason })
rig_places r c = board_places r.controller c

on_places : (o : BoardState) (r : Rig) (c : Cmd) → AsMany r.controller (acts_running o r c).rig.controller
on_places Running r c = rig_places r c
on_places (Shut reason tick first) r c = board_places r.controller c

takes_steppers : (r : Rig) (c : Cmd) → AsMany r.controller (takes r c).rig.controller
takes_steppers r c = on_places r.controller.state r c

-- and as time passes
time_places : (o : BoardState) (b : Controller) (t : ℕ) → AsMany b (board.passes_on o b t).board
time_places Running b t = length-map b.steppers (slot_to t)
time_places (Shut reason tick first) b t = refl

runs_steppers : (r : Rig) (t : ℕ) → AsMany r.controller (runs_to r t).rig.controller
runs_steppers r t = elim (leb_tells r.controller.tick t) [ inl p ↦ rw p.0 (time_places r.controller.state r.controller t) | inr p ↦ rw p.0 refl ]

happens_steppers : (r : Rig) (until oid : ℕ) (o : Option Slot) → AsMany r.controller (happens_to r until oid o).rig.controller
happens_steppers r until oid None = refl
happens_steppers r until oid (Some s) = becomes_places r oid s (trig.advanced (levels_of r s.pin) until s.trigger).trigger

goes_steppers : (o : Option (ℕ × ℕ)) (r : Rig) (t : ℕ) (rest : Passed) → AsMany (rig_happens r t (at_of o)).rig.controller rest.rig.controller → AsMany r.controller (goes_on o (rests_to r t) (passes_by (rig_happens r t (at_of o)) rest)).rig.controller
goes_steppers None r t rest e = runs_steppers r t
goes_steppers (Some at) r t rest e =
    let ran = (runs_to r (at.0 / 3)).rig in
    e ∙ happens_steppers ran t at.1 (slot_at ran at.1) ∙ runs_steppers r (at.0 / 3)

pass_steppers : (n : ℕ) (r : Rig) (t : ℕ) → AsMany r.controller (pass n r t).rig.controller
pass_steppers zero r t = refl
pass_steppers (suc n) r t =
    let next = earliest_moment r t 0 r.triggers in
    let first = (rig_happens r t (at_of next)).rig in
    goes_steppers next r t (pass n first t) (pass_steppers n first t)

passes_steppers : (r : Rig) (t : ℕ) → AsMany r.controller (passes r t).rig.controller
passes_steppers r t = elim (leb_tells r.controller.tick t) [ inl p ↦ rw p.0 (pass_steppers (all_left t r.triggers + 1) r t) | inr p ↦ rw p.0 refl ]

-- a board that runs ran before
still_shut : (r : Rig) (c : Cmd) (reason tick first : ℕ) → r.controller.state ≡ Shut reason tick first → (takes r c).rig.controller.state ≡ Shut reason tick first
still_shut r c reason tick first e = ap (λ (x : Controller). x.state) (all_left_by r (c ∷ []) (ap is_shut e)) ∙ e

ran_by : (o : BoardState) (r : Rig) (c : Cmd) → r.controller.state ≡ o → (takes r c).rig.controller.state ≡ Running → r.controller.state ≡ Running
ran_by Running r c e runs = e
ran_by (Shut reason tick first) r c e runs = let shut = still_shut r c reason tick first e in let x : Shut reason tick first ≡ Running = sym shut ∙ runs in absurd (cc)

-- a board, and what it took
pub record StagedBy (i j : ℕ) (cs : List Cmd) (r : Rig) : Type 0 where
  pub steppers : length r.controller.steppers ≡ 256
  pub triggers : length r.triggers ≡ 256
  pub staged : r.controller.state ≡ Running → Staged i j (stage_from i j no_stage cs) r

pub stage_append : (i j : ℕ) (s : Stage) (xs ys : List Cmd) → stage_from i j s (xs ++ ys) ≡ stage_from i j (stage_from i j s xs) ys
stage_append i j s [] ys = refl
stage_append i j s (x ∷ xs) ys = stage_append i j (stage_of i j s x) xs ys

pub commands_both : (xs ys : List Meant) → commands_of (xs ++ ys) ≡ commands_of xs ++ commands_of ys
commands_both xs ys = map-append (λ (m : Meant). m.command) xs ys

all_staged : (i j : ℕ) (s : Stage) (r : Rig) (cs : List Cmd) → i < 256 → j < 256 → length r.controller.steppers ≡ 256 → length r.triggers ≡ 256 → (r.controller.state ≡ Running → Staged i j s r)
    → (length (takes_all r cs).rig.controller.steppers ≡ 256) × (length (takes_all r cs).rig.triggers ≡ 256)
    × ((takes_all r cs).rig.controller.state ≡ Running → Staged i j (stage_from i j s cs) (takes_all r cs).rig)
all_staged i j s r [] li lj e f k = (e, f, k)
all_staged i j s r (c ∷ cs) li lj e f k =
    all_staged i j (stage_of i j s c) (takes r c).rig cs li lj (takes_steppers r c ∙ e) (takes_places r c ∙ f)
    (λ runs. let ran = ran_by r.controller.state r c refl runs in takes_staged i j s r c ran (omega (arith, li, e)) (omega (arith, lj, f)) (k ran))

pub took_staged : (i j : ℕ) (done : List Cmd) (r : Rig) (cs : List Cmd) → i < 256 → j < 256 → StagedBy i j done r → StagedBy i j (done ++ cs) (takes_all r cs).rig
took_staged i j done r cs li lj k =
    let x = all_staged i j (stage_from i j no_stage done) r cs li lj k.steppers k.triggers k.staged in
    record {
      steppers = x.0;
      triggers = x.1;
      staged = λ runs. subst (λ (s : Stage). Staged i j s (takes_all r cs).rig) (sym (stage_append i j no_stage done cs)) (x.2 runs);
    }

pub time_staged : (i j : ℕ) (done : List Cmd) (r : Rig) (t : ℕ) → StagedBy i j done r → StagedBy i j done (passes r t).rig
time_staged i j done r t k = record {
  steppers = passes_steppers r t ∙ k.steppers;
  triggers = (passes_next i j r t).places ∙ k.triggers;
  staged = λ runs. staged_next i j (stage_from i j no_stage done) r (passes r t).rig (passes_next i j r t) (k.staged (sym (passes_state r t) ∙ runs));
}

-- over steps
abbrev pub StagedIn : ℕ → ℕ → Core → Type 0
StagedIn i j h = StagedBy i j (commands_of h.taken) h.board

pub took_in : (i j : ℕ) (h : Core) (ms : List Meant) → i < 256 → j < 256 → StagedIn i j h → StagedBy i j (commands_of (h.taken ++ ms)) (takes_all h.board (commands_of ms)).rig
took_in i j h ms li lj k = subst (λ (cs : List Cmd). StagedBy i j cs (takes_all h.board (commands_of ms)).rig) (sym (commands_both h.taken ms)) (took_staged i j (commands_of h.taken) h.board (commands_of ms) li lj k)

none_in : (i j : ℕ) (h : Core) → StagedIn i j h → StagedBy i j (commands_of (h.taken ++ [])) h.board
none_in i j h k = subst (λ (ms : List Meant). StagedBy i j (commands_of ms) h.board) (sym (append-nil h.taken)) k

staged_by : (i j : ℕ) (h : Core) (e : Event) → i < 256 → j < 256 → StagedIn i j h → StagedIn i j (after_event h e)
staged_by i j h (event.Pass t) li lj k = subst (λ (ms : List Meant). StagedBy i j (commands_of ms) (passes h.board t).rig) (sym (append-nil h.taken)) (time_staged i j (commands_of h.taken) h.board t k)
staged_by i j h event.Arrive li lj k = took_in i j h (takes_in h event.Arrive) li lj k
staged_by i j h event.Repeat li lj k = took_in i j h (takes_in h event.Repeat) li lj k
staged_by i j h c li lj k = none_in i j h k

pub staged_along : (i j : ℕ) (steps : List Step) (h : Core) → i < 256 → j < 256 → StagedIn i j h → StagedIn i j (run_world steps h)
staged_along i j [] h li lj k = k
staged_along i j (Do e ∷ steps) h li lj k = staged_along i j steps (after_event h e) li lj (staged_by i j h e li lj k)
staged_along i j (Turn turn ∷ steps) h li lj k = staged_along i j steps (in_turn h turn) li lj k

-- a board to which nothing was told
begin_staged : (b : BoardDef) (pins : List (List Level)) (i j : ℕ) → StagedIn i j (start_core b pins)
unfolding board.new_controller
begin_staged b pins i j = record {
  steppers = refl;
  triggers = refl;
  staged = λ runs. record {
    sole = λ e oid s is. let none : None ≡ Some s = sym (none_at 256 oid) ∙ is in absurd (cc);
    made = λ e. absurd (false_true e);
    there = λ e. absurd (false_true e);
    bound = λ e. absurd (false_true e);
  };
}

-- over turns
pub staged_after : (b : BoardDef) (pins : List (List Level)) (board : ℕ) (entries : List Entry) (turns : List BoardTurn) (i j : ℕ) → i < 256 → j < 256 → AreBoardTurns (clock_of b) (first_state b pins board entries) turns
    → StagedIn i j (stands_after (first_state b pins board entries) turns).core
staged_after b pins board entries [] i j li lj are = begin_staged b pins i j
staged_after b pins board entries (t ∷ before) i j li lj are =
    let first = first_state b pins board entries in
    let l = stands_after first before in
    let steps = turns_are_steps (clock_of b) (length before) (orders t.control t.batch ∷ []) l t.after (t.after, are.0.0, refl) in
    subst (λ (h : Core). StagedIn i j h) (sym steps.1) (staged_along i j steps.0 l.core li lj (staged_after b pins board entries before i j li lj are.1))

-- a board that runs behind some turns ran before
ran_event : (h : Core) (e : Event) → (after_event h e).board.controller.state ≡ Running → h.board.controller.state ≡ Running
ran_event h (event.Pass t) runs = sym (passes_state h.board t) ∙ runs
ran_event h event.Arrive runs = ran_before h.board (commands_of (takes_in h event.Arrive)) runs
ran_event h event.Repeat runs = ran_before h.board (commands_of (takes_in h event.Repeat)) runs
ran_event h c runs = runs

pub ran_steps : (steps : List Step) (h : Core) → (run_world steps h).board.controller.state ≡ Running → h.board.controller.state ≡ Running
ran_steps [] h runs = runs
ran_steps (Do e ∷ steps) h runs = ran_event h e (ran_steps steps (after_event h e) runs)
ran_steps (Turn turn ∷ steps) h runs = ran_steps steps (in_turn h turn) runs

pub ran_turns : (clock : BoardClock) (first : LinkState) (window past : List BoardTurn) → AreBoardTurns clock first (window ++ past) → (stands_after first (window ++ past)).core.board.controller.state ≡ Running
    → (stands_after first past).core.board.controller.state ≡ Running
ran_turns clock first [] past are runs = runs
ran_turns clock first (t ∷ window) past are runs =
    let before = window ++ past in
    let l = stands_after first before in
    let steps = turns_are_steps clock (length before) (orders t.control t.batch ∷ []) l t.after (t.after, are.0.0, refl) in
    ran_turns clock first window past are.1 (ran_steps steps.0 l.core (subst (λ (h : Core). h.board.controller.state ≡ Running) steps.1 runs))

-- A board of which no trigger can trigger: no command but those that start a trigger or bind a stepper halts one, nor does time.
use Rattle.std.proofs.Common.{◌≡◌, ℕ, zero, suc, ◌+◌, ◌/◌, ◌==◌, ◌&&◌, not, Bool, true, false, cond, ◌⊎◌, List, [], ◌∷◌, get_or, set, Option, Some, None, refl, ap, sym, ◌∙◌, subst, inl, inr, rules}
use Rattle.std.specs.Prelude.{slice_index_or}
use Rattle.laws_board.proofs.Names.{leb_tells, BoardState, Running, Shut, Pending, Trigger, Cmd, Controller, Passed, Rig, Slot, slot_at, becomes, expires_at_once, set_timeout, acts, acts_running, takes, earliest_moment, runs_to, rests_to, happens_to, goes_on, at_of, passes_by, pass, passes, all_left}
use Rattle.plan_types.specs.declared.plan.Triple.{Triple}
use Rattle.board_step.specs.Steps.{ticks_at, with_ticks}
use Rattle.board_trig.specs.declared.sampling.Homing.{Homing}
use Rattle.board_trig.specs.Trigger as trig
use Rattle.msg_code.specs.declared.cmd.Cmd.TheVariants as cmd
use Rattle.board_sim.specs.Board.{stepper_at, slot_to, passes_on, with_stepper, refusal, takes_triple, first_of, queue_step, set_dir, reset, make_stepper, is_none_pending, stop}
use Rattle.board_sim.specs.Board as board
use Rattle.board_sim.specs.Halted.{is_halted}
use Rattle.board_sim.specs.Rig.{levels_of, make_trigger, make_endstop, trigger, home, happens_at}
use Rattle.board_sim.proofs.Keeps.{slots_at}
use Rattle.laws_homing.specs.clear_groups.Resting.{IsTame}
use Rattle.laws_homing.proofs.clear_boards.Slots.{set_either}
use Rattle.laws_homing.proofs.clear_groups.Off.{happens_off, passes_off, running_off}
use Rattle.laws_run.specs.home_wholes.Still.{IsStill}
use Rattle.laws_homing.specs.clear_boards.Limited.{AllFired}
use Rattle.laws_board.proofs.causes.Made.{made_same, endstop_same}
use Rattle.laws_board.proofs.sections.Free.{home_same}
use Rattle.laws_board.proofs.sections.Stepping.{not_both as clash}
use Rattle.std.proofs.lemmas.Bool.{and_left}

-- a stepper is not halted
abbrev pub IsFree : ℕ → Controller → Type 0
IsFree oid b = is_halted (stepper_at b oid) ≡ false

becomes_same : (r : Rig) (oid : ℕ) (s : Slot) (t : Trigger) → s.trigger.can ≡ false → (becomes r oid s t).controller ≡ r.controller
becomes_same r oid s t fell = let e : (s.trigger.can && not t.can) ≡ false = and_left s.trigger.can (not t.can) fell in rw e refl

expires_same : (o : Option ℕ) (r : Rig) (oid : ℕ) (s : Slot) (t : Trigger) → s.trigger.can ≡ false → (expires_at_once r oid s t o).rig.controller ≡ r.controller
expires_same None r oid s t fell = becomes_same r oid s t fell
expires_same (Some n) r oid s t fell = becomes_same r oid s (record t { untold = None }) fell

timeout_same : (r : Rig) (oid : ℕ) (o : Option Slot) (clock : ℕ) → slot_at r oid ≡ o → AllFired r → (set_timeout r oid o clock).rig.controller ≡ r.controller
timeout_same r oid None clock at off = refl
timeout_same r oid (Some s) clock at off = let t = trig.with_timeout r.controller.tick clock s.trigger in expires_same t.untold r oid s t (off oid s at)

trigger_same : (r : Rig) (oid : ℕ) (o : Option Slot) (reason : ℕ) → slot_at r oid ≡ o → AllFired r → (trigger r oid o reason).rig.controller ≡ r.controller
trigger_same r oid None reason at off = refl
trigger_same r oid (Some s) reason at off = becomes_same r oid s (trig.triggered r.controller.tick reason s.trigger) (off oid s at)

-- one of the steppers' board changes no trigger
abbrev Goes : Rig → Cmd → Rig → Type 0
Goes r c q = (q.controller ≡ r.controller) ⊎ (q.controller ≡ (board.takes r.controller c).board)

acts_go : (r : Rig) (c : Cmd) → IsStill c → AllFired r → Goes r c (acts r c).rig
acts_go r c p2 p3 = search (rules, made_same, slot_at, timeout_same, trigger_same, endstop_same, slice_index_or, home_same)

takes_go : (r : Rig) (c : Cmd) → IsStill c → AllFired r → Goes r c (takes r c).rig
takes_go r c i off = search (rules, acts_running, acts_go)

still_tame : (c : Cmd) → IsStill c → IsTame c
still_tame (cmd.TrsyncStart oid clock every reason) i = absurd i
still_tame c i = tt

pub takes_off : (r : Rig) (c : Cmd) → IsStill c → AllFired r → AllFired (takes r c).rig
takes_off r c i off = running_off r.controller.state r c (still_tame c i) off

-- steppers' places
with_free : (b : Controller) (other oid : ℕ) (q : Pending) → (other ≡ oid → q.halted ≡ false) → IsFree oid b → IsFree oid (with_stepper b other q)
with_free b other oid q free old = search (rules, set_either)

own_halt : (b : Controller) (other oid : ℕ) (q : Pending) → stepper_at b other ≡ Some q → IsFree oid b → other ≡ oid → q.halted ≡ false
own_halt b other oid q at free same = sym (ap is_halted at) ∙ ap (λ n. is_halted (stepper_at b n)) same ∙ free

taken_free : (o : Option (ℕ × ℕ)) (b : Controller) (other oid : ℕ) (q : Pending) (ticks : List ℕ) → stepper_at b other ≡ Some q → IsFree oid b → (takes_triple o b other q ticks).board.state ≡ Running → IsFree oid (takes_triple o b other q ticks).board
taken_free None b other oid q ticks at free runs = with_free b other oid (with_ticks q ticks) (own_halt b other oid q at free) free
taken_free (Some r) b other oid q ticks at free runs = absurd (clash r.0 b.tick r.1 runs)

either_free : (h : Bool) (b : Controller) (oid : ℕ) (x y : board.Done) → (x.board.state ≡ Running → IsFree oid x.board) → (y.board.state ≡ Running → IsFree oid y.board) → (cond h x y).board.state ≡ Running → IsFree oid (cond h x y).board
either_free true b oid x y k l runs = k runs
either_free false b oid x y k l runs = l runs

queue_free : (b : Controller) (other oid : ℕ) (o : Option Pending) (t : Triple) → stepper_at b other ≡ o → IsFree oid b → (queue_step b other o t).board.state ≡ Running → IsFree oid (queue_step b other o t).board
queue_free b other oid o t p5 p6 p7 = search (rules, either_free, taken_free)

dir_free : (b : Controller) (other oid dir : ℕ) (o : Option Pending) → stepper_at b other ≡ o → IsFree oid b → IsFree oid (set_dir b other o dir).board
dir_free b other oid dir None at free = free
dir_free b other oid dir (Some q) at free = with_free b other oid (record q { up = dir == 1 }) (own_halt b other oid q at free) free

reset_free : (b : Controller) (other oid clock : ℕ) (o : Option Pending) → IsFree oid b → (reset b other o clock).board.state ≡ Running → IsFree oid (reset b other o clock).board
reset_free b other oid clock o p5 p6 = search (rules, either_free, with_free, clash)

make_free : (b : Controller) (other oid : ℕ) (o : Option Pending) → IsFree oid b → IsFree oid (make_stepper b other o).board
make_free b other oid None free = with_free b other oid (record { halted = false; up = false; last = 0; groups = []; slots = b.slots }) (λ _. refl) free
make_free b other oid (Some q) free = free

acts_free : (b : Controller) (oid : ℕ) (c : Cmd) → IsFree oid b → (board.acts b c).board.state ≡ Running → IsFree oid (board.acts b c).board
acts_free b oid c p3 p4 = search (rules, clash, make_free, queue_free, dir_free, reset_free)

running_free : (o : BoardState) (b : Controller) (oid : ℕ) (c : Cmd) → IsFree oid b → (board.acts_running o b c).board.state ≡ Running → IsFree oid (board.acts_running o b c).board
running_free Running b oid c free runs = acts_free b oid c free runs
running_free (Shut reason tick first) b oid c free runs = free

board_free : (b : Controller) (oid : ℕ) (c : Cmd) → IsFree oid b → (board.takes b c).board.state ≡ Running → IsFree oid (board.takes b c).board
board_free b oid c p3 p4 = search (rules, running_free)

-- a stepper that isn't halted stays so where the board runs on
pub takes_free : (r : Rig) (oid : ℕ) (c : Cmd) → IsStill c → AllFired r → (takes r c).rig.controller.state ≡ Running → IsFree oid r.controller → IsFree oid (takes r c).rig.controller
takes_free r oid c i off runs free = search (rules, takes_go, board_free)

-- and one whose clock is set isn't
set_here : {A : Type 0} (xs : List (Option A)) (i : ℕ) (q : A) (v : Option A) → get_or xs i None ≡ Some q → get_or (set xs i v) i None ≡ v
set_here [] i q v e = cc
set_here (x ∷ xs) zero q v e = refl
set_here (x ∷ xs) (suc i) q v e = set_here xs i q v e

set_by : (h : Bool) (b : Controller) (oid : ℕ) (q : Pending) → IsFree oid (with_stepper b oid q) → (cond h (board.quiet (with_stepper b oid q)) (stop b 3 0)).board.state ≡ Running
    → IsFree oid (cond h (board.quiet (with_stepper b oid q)) (stop b 3 0)).board
set_by true b oid q now runs = now
set_by false b oid q now runs = absurd (clash 3 b.tick 0 runs)

set_free : (b : Controller) (oid clock : ℕ) (o : Option Pending) → stepper_at b oid ≡ o → (reset b oid o clock).board.state ≡ Running → IsFree oid (reset b oid o clock).board
set_free b oid clock o p4 p5 = search (rules, set_by, set_here)

pub resets_free : (r : Rig) (oid clock : ℕ) → r.controller.state ≡ Running → (takes r (cmd.ResetStepClock oid clock)).rig.controller.state ≡ Running → IsFree oid (takes r (cmd.ResetStepClock oid clock)).rig.controller
resets_free r oid clock is runs = search (rules, takes, acts_running, set_free)

-- time passes
pub record Outlasts (r q : Rig) : Type 0 where
  pub off : AllFired q
  pub free : (oid : ℕ) → IsFree oid r.controller → IsFree oid q.controller

slot_free : (t : ℕ) (o : Option Pending) → is_halted o ≡ false → is_halted (slot_to t o) ≡ false
slot_free t None f = f
slot_free t (Some q) f = f

on_free : (o : BoardState) (b : Controller) (t oid : ℕ) → IsFree oid b → IsFree oid (passes_on o b t).board
on_free Running b t oid f = ap is_halted (slots_at t oid b.steppers) ∙ slot_free t (stepper_at b oid) f
on_free (Shut reason tick first) b t oid f = f

time_free : (b : Controller) (t oid : ℕ) → IsFree oid b → IsFree oid (board.passes b t).board
time_free b t oid f = elim (leb_tells b.tick t) [ inl p ↦ rw p.0 (on_free b.state b t oid f) | inr p ↦ rw p.0 f ]

abbrev Frees : Rig → Rig → Type 0
Frees r q = (oid : ℕ) → IsFree oid r.controller → IsFree oid q.controller

happens_free : (r : Rig) (until oid : ℕ) (o : Option Slot) → slot_at r oid ≡ o → AllFired r → Frees r (happens_to r until oid o).rig
happens_free r until oid None at off i f = f
happens_free r until oid (Some s) at off i f =
    subst (λ (b : Controller). IsFree i b) (sym (becomes_same r oid s (trig.advanced (levels_of r s.pin) until s.trigger).trigger (off oid s at))) f

goes_free : (o : Option (ℕ × ℕ)) (r : Rig) (t : ℕ) (rest : Passed) → AllFired r → (let q = (happens_at r t (at_of o)).rig in AllFired q → Frees q rest.rig) → Frees r (goes_on o (rests_to r t) (passes_by (happens_at r t (at_of o)) rest)).rig
goes_free None r t rest off more i f = time_free r.controller t i f
goes_free (Some at) r t rest off more i f =
    let ran = (runs_to r (at.0 / 3)).rig in
    more (happens_off t at.1 ran (slot_at ran at.1) refl off) i (happens_free ran t at.1 (slot_at ran at.1) refl off i (time_free r.controller (at.0 / 3) i f))

steps_free : (n : ℕ) (r : Rig) (t : ℕ) → AllFired r → Frees r (pass n r t).rig
steps_free zero r t off i f = f
steps_free (suc n) r t off i f =
    let o = earliest_moment r t 0 r.triggers in
    let next = (happens_at r t (at_of o)).rig in
    goes_free o r t (pass n next t) off (λ off_next. steps_free n next t off_next) i f

pub time_passes : (r : Rig) (t : ℕ) → AllFired r → Outlasts r (passes r t).rig
time_passes r t off = record {
  off = passes_off t r off;
  free = λ i f. elim (leb_tells r.controller.tick t) [ inl p ↦ rw p.0 (steps_free (all_left t r.triggers + 1) r t off i f) | inr p ↦ rw p.0 f ];
}

-- What a board answers of its clock: the tick at which it is asked, and nothing while time passes.
use Rattle.std.proofs.Common.{◌≡◌, ℕ, zero, suc, ◌+◌, ◌/◌, Bool, true, false, cond, List, [], ◌∷◌, ◌++◌, Option, Some, None, refl, subst, ◌∙◌}
use Rattle.std.specs.Prelude.{slice_index_or, nat_le, nat_lt}
use Rattle.laws_board.proofs.Names.{BoardState, Running, Shut, Pending, Trigger, Cmd, Controller, Rig, Slot, Passed, slot_at, expires_at_once, set_timeout, acts, acts_running, takes, takes_all, happens_to, runs_to, rests_to, earliest_moment, at_of, goes_on, passes_by, pass, all_left, passes, says}
use Rattle.plan_types.specs.declared.plan.Triple.{Triple}
use Rattle.board_step.specs.Steps.{ticks_at}
use Rattle.board_trig.specs.declared.trigger.TrigEvent.{TrigEvent}
use Rattle.board_trig.specs.Trigger as trig
use Rattle.msg_code.specs.declared.cmd.Cmd.TheVariants as cmd
use Rattle.board_sim.specs.Board.{Done as BoardDone, stepper_at, is_none_pending, first_of, refusal, takes_triple, queue_step, set_dir, reset, make_stepper, acts as board_acts, acts_running as board_running, takes as board_takes, stop, quiet as board_quiet, with_stepper, stepper_active}
use Rattle.board_sim.specs.Rig.{trigger, trigger_answers, happens_at}
use Rattle.board_sim.specs.Turn.{says_shut}
use Rattle.board_sim.proofs.RigTicks.{takes_rig_tick}
use Rattle.board_world.specs.World.{shut_before}
use Rattle.laws_board.proofs.clocks.Uptimes.{TellsTick, IsNoClock}

-- each of some answers is so
abbrev pub Each : (Cmd → Type 0) → List Cmd → Type 0
Each P [] = Unit {0}
Each P (c ∷ cs) = P c × Each P cs

pub each_both : (P : Cmd → Type 0) (xs ys : List Cmd) → Each P xs → Each P ys → Each P (xs ++ ys)
each_both P [] ys k l = l
each_both P (x ∷ xs) ys k l = (k.0, each_both P xs ys k.1 l)

each_if : (P : Cmd → Type 0) (b : Bool) (xs : List Cmd) → Each P xs → Each P (cond b xs [])
each_if P true xs k = k
each_if P false xs k = tt

-- the steppers' board
abbrev Tells : ℕ → BoardDone → Type 0
Tells tick d = Each (TellsTick tick) d.answers

either_tells : (tick : ℕ) (b : Bool) (x y : BoardDone) → Tells tick x → Tells tick y → Tells tick (cond b x y)
either_tells tick true x y k l = k
either_tells tick false x y k l = l

triple_tells : (tick : ℕ) (o : Option (ℕ × ℕ)) (b : Controller) (oid : ℕ) (q : Pending) (ticks : List ℕ) → Tells tick (takes_triple o b oid q ticks)
triple_tells tick None b oid q ticks = tt
triple_tells tick (Some r) b oid q ticks = (tt, tt)

queue_tells : (tick : ℕ) (b : Controller) (oid : ℕ) (o : Option Pending) (t : Triple) → Tells tick (queue_step b oid o t)
queue_tells tick b oid None t = tt
queue_tells tick b oid (Some q) t =
    either_tells tick q.halted (board_quiet b) (takes_triple (refusal b.tick q t) b oid q (ticks_at (first_of b.tick q t) t)) tt
    (triple_tells tick (refusal b.tick q t) b oid q (ticks_at (first_of b.tick q t) t))

dir_tells : (tick : ℕ) (b : Controller) (oid : ℕ) (o : Option Pending) (dir : ℕ) → Tells tick (set_dir b oid o dir)
dir_tells tick b oid None dir = tt
dir_tells tick b oid (Some q) dir = tt

reset_tells : (tick : ℕ) (b : Controller) (oid : ℕ) (o : Option Pending) (clock : ℕ) → Tells tick (reset b oid o clock)
reset_tells tick b oid None clock = tt
reset_tells tick b oid (Some q) clock =
    either_tells tick (is_none_pending q.groups) (board_quiet (with_stepper b oid (record q { last = clock; halted = false }))) (stop b stepper_active 0) tt (tt, tt)

make_tells : (tick : ℕ) (b : Controller) (oid : ℕ) (o : Option Pending) → Tells tick (make_stepper b oid o)
make_tells tick b oid None = tt
make_tells tick b oid (Some q) = tt

acts_tells : (tick : ℕ) (b : Controller) (c : Cmd) → Tells tick (board_acts b c)
acts_tells tick b cmd.EmergencyStop = (tt, tt)
acts_tells tick b (cmd.ConfigStepper oid step dir invert width) = make_tells tick b oid (stepper_at b oid)
acts_tells tick b (cmd.QueueStep oid interval count add) = queue_tells tick b oid (stepper_at b oid) (record { interval = interval; count = count; add = add })
acts_tells tick b (cmd.SetNextStepDir oid dir) = dir_tells tick b oid (stepper_at b oid) dir
acts_tells tick b (cmd.ResetStepClock oid clock) = reset_tells tick b oid (stepper_at b oid) clock
acts_tells tick b c = tt

running_tells : (tick : ℕ) (s : BoardState) (b : Controller) (c : Cmd) → Tells tick (board_running s b c)
running_tells tick Running b c = acts_tells tick b c
running_tells tick (Shut reason at first) b c = tt

board_tells : (b : Controller) (c : Cmd) → Tells b.tick (board_takes b c)
board_tells b (cmd.Identify offset count) = (tt, tt)
board_tells b cmd.GetConfig = (tt, tt)
board_tells b cmd.GetUptime = ((refl, refl), tt)
board_tells b c = running_tells b.tick b.state b c

-- the board with its triggers
expires_tells : (tick : ℕ) (r : Rig) (oid : ℕ) (s : Slot) (t : Trigger) (o : Option ℕ) → Each (TellsTick tick) (expires_at_once r oid s t o).answers
expires_tells tick r oid s t None = tt
expires_tells tick r oid s t (Some at) = (tt, tt)

timeout_tells : (tick : ℕ) (r : Rig) (oid : ℕ) (o : Option Slot) (clock : ℕ) → Each (TellsTick tick) (set_timeout r oid o clock).answers
timeout_tells tick r oid None clock = tt
timeout_tells tick r oid (Some s) clock =
    let t = trig.with_timeout r.controller.tick clock s.trigger in
    expires_tells tick r oid s t t.untold

trigger_tells : (tick : ℕ) (r : Rig) (oid : ℕ) (o : Option Slot) (reason : ℕ) → Each (TellsTick tick) (trigger r oid o reason).answers
trigger_tells tick r oid None reason = tt
trigger_tells tick r oid (Some s) reason = (tt, tt)

rig_tells : (r : Rig) (c : Cmd) → Each (TellsTick r.controller.tick) (acts r c).answers
rig_tells r (cmd.ConfigTrsync oid) = tt
rig_tells r (cmd.TrsyncStart oid clock every reason) = tt
rig_tells r (cmd.TrsyncSetTimeout oid clock) = timeout_tells r.controller.tick r oid (slot_at r oid) clock
rig_tells r (cmd.TrsyncTrigger oid reason) = trigger_tells r.controller.tick r oid (slot_at r oid) reason
rig_tells r (cmd.StepperStopOnTrigger oid other) = tt
rig_tells r (cmd.ConfigEndstop oid pin pull) = tt
rig_tells r (cmd.EndstopHome oid clock sample count rest value other reason) = tt
rig_tells r c = board_tells r.controller c

state_tells : (s : BoardState) (r : Rig) (c : Cmd) → Each (TellsTick r.controller.tick) (acts_running s r c).answers
state_tells Running r c = rig_tells r c
state_tells (Shut reason at first) r c = board_tells r.controller c

pub all_tell : (tick : ℕ) (r : Rig) (cs : List Cmd) → r.controller.tick ≡ tick → Each (TellsTick tick) (takes_all r cs).answers
all_tell tick r [] e = tt
all_tell tick r (c ∷ cs) e =
    each_both (TellsTick tick) (takes r c).answers (takes_all (takes r c).rig cs).answers
    (subst (λ (t : ℕ). Each (TellsTick t) (takes r c).answers) e (state_tells r.controller.state r c))
    (all_tell tick (takes r c).rig cs (takes_rig_tick r c ∙ e))

-- while time passes
told_none : (oid : ℕ) (o : Option TrigEvent) → Each IsNoClock (trigger_answers oid o)
told_none oid None = tt
told_none oid (Some e) = (tt, tt)

happens_none : (r : Rig) (until oid : ℕ) (o : Option Slot) → Each IsNoClock (happens_to r until oid o).answers
happens_none r until oid None = tt
happens_none r until oid (Some s) = told_none oid (trig.advanced (slice_index_or r.pins s.pin []) until s.trigger).event

goes_none : (o : Option (ℕ × ℕ)) (x y : Passed) → Each IsNoClock x.answers → Each IsNoClock y.answers → Each IsNoClock (goes_on o x y).answers
goes_none None x y k l = k
goes_none (Some at) x y k l = l

pass_none : (n : ℕ) (r : Rig) (t : ℕ) → Each IsNoClock (pass n r t).answers
pass_none zero r t = tt
pass_none (suc n) r t =
    let next = earliest_moment r t 0 r.triggers in
    let ran = runs_to r ((at_of next).0 / 3) in
    let first = happens_at r t (at_of next) in
    goes_none next (rests_to r t) (passes_by first (pass n first.rig t)) tt
    (each_both IsNoClock first.answers (pass n first.rig t).answers (happens_none ran.rig t (at_of next).1 (slot_at ran.rig (at_of next).1)) (pass_none n first.rig t))

either_none : (b : Bool) (x y : Passed) → Each IsNoClock x.answers → Each IsNoClock y.answers → Each IsNoClock (cond b x y).answers
either_none true x y k l = k
either_none false x y k l = l

shut_none : (s : BoardState) (from to : ℕ) → Each IsNoClock (says_shut s from to)
shut_none Running from to = tt
shut_none (Shut reason at first) from to = each_if IsNoClock (nat_lt from to) (cmd.IsShutdown reason ∷ []) (tt, tt)

pub says_none : (r : Rig) (t : ℕ) → Each IsNoClock (says r t)
says_none r t =
    each_both IsNoClock (passes r t).answers (says_shut (shut_before r.controller.state r.controller.tick) r.controller.tick t)
    (either_none (nat_le r.controller.tick t) (pass (all_left t r.triggers + 1) r t) (record { rig = r; pulses = []; answers = [] }) (pass_none (all_left t r.triggers + 1) r t) tt)
    (shut_none (shut_before r.controller.state r.controller.tick) r.controller.tick t)

-- What a board answers of its triggers: of one that it tells that it can't trigger, that is so, and it stands as told.
use Rattle.std.proofs.Common.{◌≡◌, ℕ, zero, suc, ◌+◌, ◌/◌, ◌%◌, ◌<◌, ◌≤◌, ◌^◌, Bool, true, false, cond, List, [], ◌∷◌, length, Option, Some, None, refl, ap, sym, subst, arith, inl, inr, rules}
use Rattle.std.specs.Prelude.{if◌then◌else◌, slice_index_or, nat_lt}
use Rattle.laws_board.proofs.Names.{get_or-set_same, leb_tells, Level, BoardState, Running, Shut, Pending, Happening, Nothing, Expires, Switches, Reports, Trigger, Cmd, Controller, Rig, Slot, Passed, becomes, slot_at, expires_at_once, set_timeout, acts, acts_running, takes, takes_all, happens_to, runs_to, rests_to, earliest_moment, at_of, goes_on, passes_by, pass, all_left, passes, slot_range, says}
use Rattle.msg_code.specs.Units.{bit}
use Rattle.plan_types.specs.declared.plan.TrigState.{TrigState}
use Rattle.plan_types.specs.declared.plan.Triple.{Triple}
use Rattle.board_step.specs.Steps.{ticks_at}
use Rattle.board_trig.specs.declared.trigger.TrigEvent.{TrigEvent}
use Rattle.board_trig.specs.Trigger as trig
use Rattle.msg_code.specs.declared.cmd.Cmd.TheVariants as cmd
use Rattle.board_sim.specs.Board.{Done as BoardDone, stepper_at, is_none_pending, first_of, refusal, takes_triple, queue_step, set_dir, reset, make_stepper, acts as board_acts, acts_running as board_running, takes as board_takes, stop, quiet as board_quiet, with_stepper, stepper_active}
use Rattle.board_sim.specs.Rig.{trigger, tell, trigger_answers, happens_at}
use Rattle.board_sim.specs.Turn.{says_shut}
use Rattle.board_world.specs.World.{shut_before}
use Rattle.laws_board.proofs.clocks.Answers.{Each, each_both}
use Rattle.laws_homing.specs.home_runs.Guards.{HasFired, IsCalm, HasNoTimeout, IsSole, StandsFired}
use Rattle.laws_homing.proofs.home_runs.Guarding.{Next, fired_next, stands_next, next_same, next_then, pass_next, runs_next, happens_next, takes_next}

-- what a board answers of a trigger is about this one, which can't trigger where that is told, and stands as told where P is so
abbrev pub Says : Type 0 → ℕ → Rig → Cmd → Type 0
Says P j q (cmd.TrsyncState oid can reason clock) = (oid < 2 ^ 8) × (can < 2 ^ 8) × (oid ≡ j) × (can ≡ 0 → HasFired j q) × (can ≡ 0 → P → StandsFired j reason clock q)
Says P j q c = Unit {0}

-- as it answers, the trigger stands so where it is quiet
abbrev SaysNow : ℕ → Rig → Cmd → Type 0
SaysNow j q c = Says (HasNoTimeout j q) j q c

one_later : (P Q : Type 0) (i j : ℕ) (r q : Rig) (c : Cmd) → (Q → P) → Next i j r q → Says P j r c → Says Q j q c
one_later P Q i j r q (cmd.TrsyncState oid can reason clock) f x s = (s.0, s.1, s.2, (λ fired. fired_next i j r q x (s.3 fired)), λ fired given. stands_next i j reason clock r q x (s.4 fired (f given)))
one_later P Q i j r q c f x s = tt

pub all_later : (P Q : Type 0) (i j : ℕ) (r q : Rig) (cs : List Cmd) → (Q → P) → Next i j r q → Each (Says P j r) cs → Each (Says Q j q) cs
all_later P Q i j r q [] f x k = tt
all_later P Q i j r q (c ∷ cs) f x k = (one_later P Q i j r q c f x k.0, all_later P Q i j r q cs f x k.1)

-- an answer that tells of no trigger
abbrev pub IsOther : Cmd → Type 0
IsOther (cmd.TrsyncState oid can reason clock) = ⊥
IsOther c = Unit {0}

other_says : (P : Type 0) (j : ℕ) (q : Rig) (c : Cmd) → IsOther c → Says P j q c
other_says P j q (cmd.TrsyncState oid can reason clock) o = absurd o
other_says P j q c o = tt

others_say : (P : Type 0) (j : ℕ) (q : Rig) (cs : List Cmd) → Each IsOther cs → Each (Says P j q) cs
others_say P j q [] o = tt
others_say P j q (c ∷ cs) o = (other_says P j q c o.0, others_say P j q cs o.1)

-- the steppers' board tells of no trigger
abbrev Tells : BoardDone → Type 0
Tells d = Each IsOther d.answers

pub either_tells : (b : Bool) (x y : BoardDone) → Tells x → Tells y → Tells (cond b x y)
either_tells true x y k l = k
either_tells false x y k l = l

pub triple_tells : (o : Option (ℕ × ℕ)) (b : Controller) (oid : ℕ) (q : Pending) (ticks : List ℕ) → Tells (takes_triple o b oid q ticks)
triple_tells None b oid q ticks = tt
triple_tells (Some r) b oid q ticks = (tt, tt)

pub queue_tells : (b : Controller) (oid : ℕ) (o : Option Pending) (t : Triple) → Tells (queue_step b oid o t)
queue_tells b oid None t = tt
queue_tells b oid (Some q) t =
    either_tells q.halted (board_quiet b) (takes_triple (refusal b.tick q t) b oid q (ticks_at (first_of b.tick q t) t)) tt (triple_tells (refusal b.tick q t) b oid q (ticks_at (first_of b.tick q t) t))

pub dir_tells : (b : Controller) (oid : ℕ) (o : Option Pending) (dir : ℕ) → Tells (set_dir b oid o dir)
dir_tells b oid None dir = tt
dir_tells b oid (Some q) dir = tt

pub reset_tells : (b : Controller) (oid : ℕ) (o : Option Pending) (clock : ℕ) → Tells (reset b oid o clock)
reset_tells b oid None clock = tt
reset_tells b oid (Some q) clock =
    either_tells (is_none_pending q.groups) (board_quiet (with_stepper b oid (record q { last = clock; halted = false }))) (stop b stepper_active 0) tt (tt, tt)

pub make_tells : (b : Controller) (oid : ℕ) (o : Option Pending) → Tells (make_stepper b oid o)
make_tells b oid None = tt
make_tells b oid (Some q) = tt

pub acts_tells : (b : Controller) (c : Cmd) → Tells (board_acts b c)
acts_tells b c = search (rules, make_tells, queue_tells, dir_tells, reset_tells)

pub running_tells : (s : BoardState) (b : Controller) (c : Cmd) → Tells (board_running s b c)
running_tells Running b c = acts_tells b c
running_tells (Shut reason at first) b c = tt

pub board_tells : (b : Controller) (c : Cmd) → Tells (board_takes b c)
board_tells b c = search (rules, running_tells)

-- what is told of a trigger that becomes another one
becomes_at : (j oid : ℕ) (r : Rig) (s : Slot) (t : Trigger) → slot_at r oid ≡ Some s → oid ≡ j → slot_at (becomes r oid s t) j ≡ Some (record s { trigger = t })
becomes_at j oid r s t at same =
    subst (λ (n : ℕ). slot_at (becomes r oid s t) n ≡ Some (record s { trigger = t })) same (get_or-set_same r.triggers oid (Some (record s { trigger = t })) None (slot_range r.triggers oid s at))

becomes_fired : (j oid : ℕ) (r : Rig) (s : Slot) (t : Trigger) → slot_at r oid ≡ Some s → oid ≡ j → t.can ≡ false → HasFired j (becomes r oid s t)
becomes_fired j oid r s t at same fell = record { slot = record s { trigger = t }; is = becomes_at j oid r s t at same; fired = fell }

becomes_stands : (j oid n : ℕ) (r : Rig) (s : Slot) (t : Trigger) → slot_at r oid ≡ Some s → oid ≡ j → t.can ≡ false → HasNoTimeout j (becomes r oid s t) → StandsFired j t.reason ((if t.can then n else t.tick) % 2 ^ 32) (becomes r oid s t)
becomes_stands j oid n r s t at same fell quiet = search (rules, becomes_at)

pub bit_small : (b : Bool) → bit b < 2 ^ 8
bit_small true = omega arith
bit_small false = omega arith

pub bit_none : (b : Bool) → bit b ≡ 0 → b ≡ false
bit_none true e = absurd (omega (arith, e))
bit_none false e = refl

tell_says : (j oid n : ℕ) (r : Rig) (s : Slot) (t : Trigger) → length r.triggers ≤ 256 → IsSole j r → slot_at r oid ≡ Some s → SaysNow j (becomes r oid s t) (tell oid (trig.state_at n t))
tell_says j oid n r s t few sole at = search (rules, slot_range, bit_small, becomes_fired, bit_none, becomes_stands)

expires_says : (j oid : ℕ) (o : Option ℕ) (r : Rig) (s : Slot) (t : Trigger) → length r.triggers ≤ 256 → IsSole j r → slot_at r oid ≡ Some s → Each (SaysNow j (expires_at_once r oid s t o).rig) (expires_at_once r oid s t o).answers
expires_says j oid None r s t few sole at = tt
expires_says j oid (Some n) r s t few sole at = (tell_says j oid n r s (record t { untold = None }) few sole at, tt)

timeout_says : (j oid clock : ℕ) (r : Rig) (o : Option Slot) → length r.triggers ≤ 256 → IsSole j r → slot_at r oid ≡ o → Each (SaysNow j (set_timeout r oid o clock).rig) (set_timeout r oid o clock).answers
timeout_says j oid clock r None few sole at = tt
timeout_says j oid clock r (Some s) few sole at =
    let t = trig.with_timeout r.controller.tick clock s.trigger in
    expires_says j oid t.untold r s t few sole at

trigger_says : (j oid reason : ℕ) (r : Rig) (o : Option Slot) → length r.triggers ≤ 256 → IsSole j r → slot_at r oid ≡ o → Each (SaysNow j (trigger r oid o reason).rig) (trigger r oid o reason).answers
trigger_says j oid reason r o p5 p6 p7 = search (rules, tell_says)

rig_says : (j : ℕ) (r : Rig) (c : Cmd) → length r.triggers ≤ 256 → IsSole j r → Each (SaysNow j (acts r c).rig) (acts r c).answers
rig_says j r (cmd.ConfigTrsync oid) few sole = tt
rig_says j r (cmd.TrsyncStart oid clock every reason) few sole = tt
rig_says j r (cmd.TrsyncSetTimeout oid clock) few sole = timeout_says j oid clock r (slot_at r oid) few sole refl
rig_says j r (cmd.TrsyncTrigger oid reason) few sole = trigger_says j oid reason r (slot_at r oid) few sole refl
rig_says j r (cmd.StepperStopOnTrigger oid other) few sole = tt
rig_says j r (cmd.ConfigEndstop oid pin pull) few sole = tt
rig_says j r (cmd.EndstopHome oid clock sample count rest value other reason) few sole = tt
rig_says j r c few sole = others_say (HasNoTimeout j (acts r c).rig) j (acts r c).rig (board_takes r.controller c).answers (board_tells r.controller c)

state_says : (j : ℕ) (s : BoardState) (r : Rig) (c : Cmd) → length r.triggers ≤ 256 → IsSole j r → Each (SaysNow j (acts_running s r c).rig) (acts_running s r c).answers
state_says j Running r c few sole = rig_says j r c few sole
state_says j (Shut reason at first) r c few sole = others_say (HasNoTimeout j (acts_running (Shut reason at first) r c).rig) j (acts_running (Shut reason at first) r c).rig (board_takes r.controller c).answers (board_tells r.controller c)

-- commands that neither start this trigger anew nor set the clock of this stepper
abbrev pub EachCalm : ℕ → ℕ → List Cmd → Type 0
EachCalm i j [] = Unit {0}
EachCalm i j (c ∷ cs) = IsCalm i j c × EachCalm i j cs

pub all_next : (i j : ℕ) (r : Rig) (cs : List Cmd) → EachCalm i j cs → Next i j r (takes_all r cs).rig
all_next i j r [] b = next_same i j r
all_next i j r (c ∷ cs) b = next_then i j r (takes r c).rig (takes_all (takes r c).rig cs).rig (takes_next i j r c b.0) (all_next i j (takes r c).rig cs b.1)

pub all_say : (P : Type 0) (i j : ℕ) (r : Rig) (cs : List Cmd) → length r.triggers ≤ 256 → IsSole j r → (P → HasNoTimeout j r) → EachCalm i j cs → Each (Says P j (takes_all r cs).rig) (takes_all r cs).answers
all_say P i j r [] few sole quiet b = tt
all_say P i j r (c ∷ cs) few sole quiet b =
    let one = (takes r c).rig in
    let next = takes_next i j r c b.0 in
    let still : length one.triggers ≤ 256 = omega (arith, few, next.places) in
    let quiet_one : P → HasNoTimeout j one = (λ given. next.quiet (quiet given)) in
    each_both (Says P j (takes_all one cs).rig) (takes r c).answers (takes_all one cs).answers
    (all_later (HasNoTimeout j one) P i j one (takes_all one cs).rig (takes r c).answers quiet_one (all_next i j one cs b.1) (state_says j r.controller.state r c few sole))
    (all_say P i j one cs still (next.sole sole) quiet_one b.1)

-- while time passes an event tells of a trigger as it is
abbrev IsEventOf : Trigger → Option TrigEvent → Type 0
IsEventOf t None = Unit {0}
IsEventOf t (Some e) = e.state ≡ trig.state_at e.tick t

happened_tells : (h : Happening) (levels : List Level) (until : ℕ) (t : Trigger) → IsEventOf (trig.happened levels until h t).trigger (trig.happened levels until h t).event
happened_tells Nothing levels until t = tt
happened_tells c levels until t = refl

advanced_tells : (o : Option ℕ) (levels : List Level) (until : ℕ) (t : Trigger) → IsEventOf (trig.tells o levels until t).trigger (trig.tells o levels until t).event
advanced_tells None levels until t = happened_tells (trig.next_happening levels until t) levels until t
advanced_tells (Some tick) levels until t = refl

told_says : (j oid : ℕ) (r : Rig) (s : Slot) (t : Trigger) (o : Option TrigEvent) → length r.triggers ≤ 256 → IsSole j r → slot_at r oid ≡ Some s → IsEventOf t o → Each (SaysNow j (becomes r oid s t)) (trigger_answers oid o)
told_says j oid r s t None few sole at same = tt
told_says j oid r s t (Some e) few sole at same = (subst (λ (x : TrigState). SaysNow j (becomes r oid s t) (tell oid x)) (sym same) (tell_says j oid e.tick r s t few sole at), tt)

happens_says : (j : ℕ) (r : Rig) (until oid : ℕ) (o : Option Slot) → length r.triggers ≤ 256 → IsSole j r → slot_at r oid ≡ o → Each (SaysNow j (happens_to r until oid o).rig) (happens_to r until oid o).answers
happens_says j r until oid None few sole at = tt
happens_says j r until oid (Some s) few sole at =
    let levels = slice_index_or r.pins s.pin [] in
    let a = trig.advanced levels until s.trigger in
    told_says j oid r s a.trigger a.event few sole at (advanced_tells s.trigger.untold levels until s.trigger)

goes_says : (P : Type 0) (j : ℕ) (o : Option (ℕ × ℕ)) (x y : Passed) → Each (Says P j x.rig) x.answers → Each (Says P j y.rig) y.answers → Each (Says P j (goes_on o x y).rig) (goes_on o x y).answers
goes_says P j None x y k l = k
goes_says P j (Some at) x y k l = l

pass_says : (P : Type 0) (n i j : ℕ) (r : Rig) (t : ℕ) → length r.triggers ≤ 256 → IsSole j r → (P → HasNoTimeout j r) → Each (Says P j (pass n r t).rig) (pass n r t).answers
pass_says P zero i j r t few sole quiet = tt
pass_says P (suc n) i j r t few sole quiet =
    let next = earliest_moment r t 0 r.triggers in
    let ran = (runs_to r ((at_of next).0 / 3)).rig in
    let first = happens_at r t (at_of next) in
    let rest = pass n first.rig t in
    let one = runs_next i j r ((at_of next).0 / 3) in
    let two = happens_next i j ran t (at_of next).1 (slot_at ran (at_of next).1) refl in
    let few1 : length ran.triggers ≤ 256 = omega (arith, few, one.places) in
    let few2 : length first.rig.triggers ≤ 256 = omega (arith, few1, two.places) in
    let sole1 = one.sole sole in
    let quiet2 : P → HasNoTimeout j first.rig = (λ given. two.quiet (one.quiet (quiet given))) in
    goes_says P j next (rests_to r t) (passes_by first rest) tt
    (each_both (Says P j rest.rig) first.answers rest.answers
    (all_later (HasNoTimeout j first.rig) P i j first.rig rest.rig first.answers quiet2 (pass_next n i j first.rig t) (happens_says j ran t (at_of next).1 (slot_at ran (at_of next).1) few1 sole1 refl))
    (pass_says P n i j first.rig t few2 (two.sole sole1) quiet2))

pub passes_say : (P : Type 0) (i j : ℕ) (r : Rig) (t : ℕ) → length r.triggers ≤ 256 → IsSole j r → (P → HasNoTimeout j r) → Each (Says P j (passes r t).rig) (passes r t).answers
passes_say P i j r t few sole quiet = elim (leb_tells r.controller.tick t) [ inl p ↦ rw p.0 (pass_says P (all_left t r.triggers + 1) i j r t few sole quiet) | inr p ↦ rw p.0 tt ]

each_if : (b : Bool) (xs : List Cmd) → Each IsOther xs → Each IsOther (cond b xs [])
each_if true xs k = k
each_if false xs k = tt

pub shut_other : (s : BoardState) (from to : ℕ) → Each IsOther (says_shut s from to)
shut_other Running from to = tt
shut_other (Shut reason at first) from to = each_if (nat_lt from to) (cmd.IsShutdown reason ∷ []) (tt, tt)

pub time_says : (P : Type 0) (i j : ℕ) (r : Rig) (t : ℕ) → length r.triggers ≤ 256 → IsSole j r → (P → HasNoTimeout j r) → Each (Says P j (passes r t).rig) (says r t)
time_says P i j r t few sole quiet =
    let said = says_shut (shut_before r.controller.state r.controller.tick) r.controller.tick t in
    each_both (Says P j (passes r t).rig) (passes r t).answers said (passes_say P i j r t few sole quiet) (others_say P j (passes r t).rig said (shut_other (shut_before r.controller.state r.controller.tick) r.controller.tick t))

-- What a board tells of triggers that can trigger is of ticks that it comes to.
use Rattle.std.proofs.Common.{◌≡◌, ℕ, ◌+◌, ◌<◌, ◌≤◌, Bool, true, false, List, [], ◌∷◌, ◌++◌, Option, Some, None, refl, sym, ◌∙◌, arith}
use Rattle.std.specs.Prelude.{if◌then◌else◌, nat_le, nat_lt}
use Rattle.msg_code.specs.Units.{bit}
use Rattle.laws_board.proofs.Names.{BoardState, Running, Shut, nearest, Trigger, Cmd, Passed, Rig, Slot, acts, acts_running, all_left, expires_at_once, pass, passes, set_timeout, slot_at, takes, takes_all, says}
use Rattle.board_trig.specs.Trigger as trig
use Rattle.msg_code.specs.declared.cmd.Cmd.TheVariants as cmd
use Rattle.board_sim.specs.Board.{takes as board_takes}
use Rattle.board_sim.specs.Rig.{trigger_answers, trigger}
use Rattle.board_sim.specs.Turn.{says_shut}
use Rattle.board_world.specs.World.{shut_before}
use Rattle.laws_board.proofs.clocks.Answers.{Each}
use Rattle.laws_homing.specs.clear_groups.Early.{AllDue, AreEarly, TellsBetween}
use Rattle.laws_homing.proofs.clear_boards.Turned.{triggered_off}
use Rattle.laws_homing.proofs.home_runs.Moments.{AllLate, IsMoment, LateAt, pass_says}
use Rattle.laws_homing.proofs.home_runs.Saying.{IsOther, board_tells, shut_other}

all_both : (from until : ℕ) (xs ys : List Cmd) → AreEarly from until xs → AreEarly from until ys → AreEarly from until (xs ++ ys)
all_both from until [] ys k l = l
all_both from until (x ∷ xs) ys k l = (k.0, all_both from until xs ys k.1 l)

other_early : (from until : ℕ) (c : Cmd) → IsOther c → TellsBetween from until c
other_early from until (cmd.TrsyncState oid can reason clock) o = absurd o
other_early from until c o = tt

others_early : (from until : ℕ) (cs : List Cmd) → Each IsOther cs → AreEarly from until cs
others_early from until [] k = tt
others_early from until (c ∷ cs) k = (other_early from until c k.0, others_early from until cs k.1)

-- what happens to a trigger
bit_zero : (b : Bool) → b ≡ false → bit b ≡ 0
bit_zero true e = cc
bit_zero false e = refl

-- the same of time that passes
late_due : (from : ℕ) (r : Rig) → AllDue from r → AllLate from r
late_due from r all = λ oid s at.
    let k = all oid s at in
    record { told = k.told; moves = k.moves; timeout = λ y e. omega arith; switch = λ y e. omega arith; fired = λ f. omega arith; due = k.due }

early_moments : (from until : ℕ) (P : ℕ → ℕ → Type 0) (cs : List Cmd)
    → Each (IsMoment (λ o x. (from ≤ x) × (x < until) × P o x)) cs → AreEarly from until cs
early_moments from until P [] k = tt
early_moments from until P (c ∷ cs) k = (one c k.0, early_moments from until P cs k.1)
  where
    one : (c : Cmd) → IsMoment (λ o x. (from ≤ x) × (x < until) × P o x) c → TellsBetween from until c
    one (cmd.TrsyncState oid can reason clock) m = λ able. let x = m able in (x.0, x.1.0, x.1.1, x.2)
    one c m = tt

passes_early : (from until : ℕ) (r : Rig) → AllDue from r → AreEarly from until (passes r until).answers
passes_early from until r all = by (nat_le r.controller.tick until)
  where
    by : (b : Bool) → let p : Passed = if b then pass (all_left until r.triggers + 1) r until else record { rig = r; pulses = []; answers = [] } in AreEarly from until p.answers
    by true =
        let n = all_left until r.triggers + 1 in
        early_moments from until (λ o x. LateAt o x from (pass n r until).rig) (pass n r until).answers (pass_says n from until r (late_due from r all))
    by false = tt

-- a command tells of no trigger that can trigger
once_early : (from until : ℕ) (o : Option ℕ) (r : Rig) (oid : ℕ) (s : Slot) (t : Trigger) → t.untold ≡ o → ((n : ℕ) → t.untold ≡ Some n → t.can ≡ false) → AreEarly from until (expires_at_once r oid s t o).answers
once_early from until None r oid s t e off = tt
once_early from until (Some n) r oid s t e off = ((λ no. absurd (no (bit_zero t.can (off n e)))), tt)

timeout_off : (can early : Bool) (now at : ℕ) (t : Trigger) → t.untold ≡ None → (n : ℕ)
    → (if can then (if early then record t { timeout = Some at } else record (trig.fired now t.expire t) { untold = Some now }) else t).untold ≡ Some n
    → (if can then (if early then record t { timeout = Some at } else record (trig.fired now t.expire t) { untold = Some now }) else t).can ≡ false
timeout_off true true now at t none n e = absurd (let bad : None ≡ Some n = sym none ∙ e in cc)
timeout_off true false now at t none n e = refl
timeout_off false early now at t none n e = absurd (let bad : None ≡ Some n = sym none ∙ e in cc)

timeout_early : (from until : ℕ) (r : Rig) (oid clock : ℕ) (o : Option Slot) → ((s : Slot) → o ≡ Some s → s.trigger.untold ≡ None) → AreEarly from until (set_timeout r oid o clock).answers
timeout_early from until r oid clock None told = tt
timeout_early from until r oid clock (Some s) told =
    let now = r.controller.tick in
    let t = trig.with_timeout now clock s.trigger in
    once_early from until t.untold r oid s t refl (timeout_off s.trigger.can (nat_lt now (nearest now clock)) now (nearest now clock) s.trigger (told s refl))

trigger_early : (from until : ℕ) (r : Rig) (oid reason : ℕ) (o : Option Slot) → AreEarly from until (trigger r oid o reason).answers
trigger_early from until r oid reason None = tt
trigger_early from until r oid reason (Some s) =
    let t = trig.triggered r.controller.tick reason s.trigger in
    ((λ no. absurd (no (bit_zero t.can (triggered_off s.trigger.can r.controller.tick reason s.trigger refl)))), tt)

acts_early : (from until : ℕ) (r : Rig) (c : Cmd) → ((oid : ℕ) (s : Slot) → slot_at r oid ≡ Some s → s.trigger.untold ≡ None) → AreEarly from until (acts r c).answers
acts_early from until r (cmd.TrsyncSetTimeout other at) told = timeout_early from until r other at (slot_at r other) (told other)
acts_early from until r (cmd.TrsyncTrigger other reason) told = trigger_early from until r other reason (slot_at r other)
acts_early from until r (cmd.ConfigTrsync other) told = tt
acts_early from until r (cmd.TrsyncStart other at every reason) told = tt
acts_early from until r (cmd.StepperStopOnTrigger stepper other) told = tt
acts_early from until r (cmd.ConfigEndstop other pin pull) told = tt
acts_early from until r (cmd.EndstopHome other at sample count rest value trigger reason) told = tt
acts_early from until r c told = others_early from until (board_takes r.controller c).answers (board_tells r.controller c)

running_early : (o : BoardState) (from until : ℕ) (r : Rig) (c : Cmd) → ((oid : ℕ) (s : Slot) → slot_at r oid ≡ Some s → s.trigger.untold ≡ None) → AreEarly from until (acts_running o r c).answers
running_early Running from until r c told = acts_early from until r c told
running_early (Shut reason at first) from until r c told = others_early from until (board_takes r.controller c).answers (board_tells r.controller c)

-- where all is told of the triggers as each command is taken
abbrev pub TellsAll : Rig → List Cmd → Type 0
TellsAll r [] = Unit {0}
TellsAll r (c ∷ cs) = ((oid : ℕ) (s : Slot) → slot_at r oid ≡ Some s → s.trigger.untold ≡ None) × TellsAll (takes r c).rig cs

pub takes_early : (from until : ℕ) (r : Rig) (cs : List Cmd) → TellsAll r cs → AreEarly from until (takes_all r cs).answers
takes_early from until r [] k = tt
takes_early from until r (c ∷ cs) k = all_both from until (takes r c).answers (takes_all (takes r c).rig cs).answers (running_early r.controller.state from until r c k.0) (takes_early from until (takes r c).rig cs k.1)

-- a turn
pub turn_early : (from until : ℕ) (r : Rig) (cs : List Cmd) → TellsAll r cs → AllDue from (takes_all r cs).rig → AreEarly from until ((takes_all r cs).answers ++ says (takes_all r cs).rig until)
turn_early from until r cs told due =
    let q = (takes_all r cs).rig in
    let shut = says_shut (shut_before q.controller.state q.controller.tick) q.controller.tick until in
    all_both from until (takes_all r cs).answers (says q until) (takes_early from until r cs told)
    (all_both from until (passes q until).answers shut (passes_early from until q due) (others_early from until shut (shut_other (shut_before q.controller.state q.controller.tick) q.controller.tick until)))

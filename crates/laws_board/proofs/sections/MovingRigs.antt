-- The commands of triggers, and time with triggers, halt steppers and make steps, and nothing else.
use Rattle.std.proofs.Common.{◌≡◌, ℕ, zero, suc, ◌&&◌, not, ◌+◌, ◌/◌, List, [], ◌∷◌, ◌++◌, Option, Some, None, sym, ◌∙◌, subst, inl, inr, rules}
use Rattle.std.specs.Prelude.{slice_index_or}
use Rattle.laws_board.proofs.Names.{leb_tells, BoardState, Running, Pulse, Pending, Trigger, Cmd, Rig, Slot, slot_at, becomes, expires_at_once, set_timeout, acts, acts_running, takes, earliest_moment, runs_to, rests_to, happens_to, goes_on, at_of, passes_by, pass, passes, all_left}
use Rattle.board_trig.specs.declared.sampling.Homing.{Homing}
use Rattle.board_trig.specs.Trigger as trig
use Rattle.msg_code.specs.declared.cmd.Cmd.TheVariants as cmd
use Rattle.board_sim.specs.Board.{stepper_at}
use Rattle.board_sim.specs.Rig.{levels_of, make_trigger, make_endstop, start_trigger, trigger, bind, home, happens_at}
use Rattle.board_sim.specs.Rig as rig
use Rattle.board_sim.specs.Fair.{IsFairSofar}
use Rattle.board_sim.specs.Halted.{KeptPart}
use Rattle.board_sim.proofs.HaltedTime.{halts_keep, whole_part}
use Rattle.board_sim.proofs.Keeps.{pass_keeps}
use Rattle.laws_board.proofs.sections.Moving.{BoardMoves, board_stays, board_both, halts_move, board_runs_on}

becomes_moves : (r : Rig) (oid : ℕ) (s : Slot) (t : Trigger) → BoardMoves r.controller (becomes r oid s t).controller []
becomes_moves r oid s t = halts_move (s.trigger.can && not t.can) s.bound r.controller

made_moves : (r : Rig) (oid : ℕ) (o : Option Slot) → BoardMoves r.controller (make_trigger r oid o).controller []
made_moves r oid None = board_stays r.controller
made_moves r oid (Some s) = board_stays r.controller

endstop_moves : (r : Rig) (oid pin : ℕ) (o : Option ℕ) → BoardMoves r.controller (make_endstop r oid pin o).controller []
endstop_moves r oid pin None = board_stays r.controller
endstop_moves r oid pin (Some p) = board_stays r.controller

start_moves : (r : Rig) (oid : ℕ) (o : Option Slot) (clock every reason : ℕ) → BoardMoves r.controller (start_trigger r oid o clock every reason).controller []
start_moves r oid None clock every reason = board_stays r.controller
start_moves r oid (Some s) clock every reason = becomes_moves r oid s (trig.started r.controller.tick clock every reason s.trigger)

expires_moves : (o : Option ℕ) (r : Rig) (oid : ℕ) (s : Slot) (t : Trigger) → BoardMoves r.controller (expires_at_once r oid s t o).rig.controller []
expires_moves None r oid s t = becomes_moves r oid s t
expires_moves (Some n) r oid s t = becomes_moves r oid s (record t { untold = None })

timeout_moves : (r : Rig) (oid : ℕ) (o : Option Slot) (clock : ℕ) → BoardMoves r.controller (set_timeout r oid o clock).rig.controller []
timeout_moves r oid None clock = board_stays r.controller
timeout_moves r oid (Some s) clock =
    let t = trig.with_timeout r.controller.tick clock s.trigger in
    expires_moves t.untold r oid s t

trigger_moves : (r : Rig) (oid : ℕ) (o : Option Slot) (reason : ℕ) → BoardMoves r.controller (trigger r oid o reason).rig.controller []
trigger_moves r oid None reason = board_stays r.controller
trigger_moves r oid (Some s) reason = becomes_moves r oid s (trig.triggered r.controller.tick reason s.trigger)

bind_moves : (r : Rig) (oid other : ℕ) (q : Option Pending) (o : Option Slot) → BoardMoves r.controller (bind r oid q other o).controller []
bind_moves r oid other None o = board_stays r.controller
bind_moves r oid other (Some q) None = board_stays r.controller
bind_moves r oid other (Some q) (Some s) = halts_move (not s.trigger.can) (oid ∷ []) r.controller

home_moves : (r : Rig) (p : Option ℕ) (other : ℕ) (o : Option Slot) (h : Homing) → BoardMoves r.controller (home r p other o h).controller []
home_moves r None other o h = board_stays r.controller
home_moves r (Some p) other None h = board_stays r.controller
home_moves r (Some p) other (Some s) h = board_stays r.controller

-- a command of triggers
abbrev pub IsOfTriggers : Cmd → Type 0
IsOfTriggers (cmd.ConfigTrsync oid) = Unit {0}
IsOfTriggers (cmd.TrsyncStart oid clock every reason) = Unit {0}
IsOfTriggers (cmd.TrsyncSetTimeout oid clock) = Unit {0}
IsOfTriggers (cmd.TrsyncTrigger oid reason) = Unit {0}
IsOfTriggers (cmd.StepperStopOnTrigger oid other) = Unit {0}
IsOfTriggers (cmd.ConfigEndstop oid pin pull) = Unit {0}
IsOfTriggers (cmd.EndstopHome oid clock sample count rest value other reason) = Unit {0}
IsOfTriggers _ = ⊥

acts_move : (r : Rig) (c : Cmd) → IsOfTriggers c → BoardMoves r.controller (acts r c).rig.controller []
acts_move r c p2 = search (rules, made_moves, slot_at, start_moves, timeout_moves, trigger_moves, bind_moves, endstop_moves, slice_index_or, home_moves)

-- such a command halts steppers at most
pub triggers_move : (r : Rig) (c : Cmd) → r.controller.state ≡ Running → IsOfTriggers c → BoardMoves r.controller (takes r c).rig.controller []
triggers_move r c e i =
    let At : BoardState → Type 0 = λ o. BoardMoves r.controller (acts_running o r c).rig.controller [] in
    subst At (sym e) (acts_move r c i)

-- what happens to a trigger
happens_moves : (r : Rig) (t oid : ℕ) (o : Option Slot) → BoardMoves r.controller (happens_to r t oid o).rig.controller []
happens_moves r t oid None = board_stays r.controller
happens_moves r t oid (Some s) = becomes_moves r oid s (trig.advanced (levels_of r s.pin) t s.trigger).trigger

happens_kept : (r : Rig) (t oid : ℕ) (o : Option Slot) (made meant : List Pulse) → IsFairSofar r.controller made meant → KeptPart (happens_to r t oid o).rig.controller made meant
happens_kept r t oid None made meant k = whole_part r.controller made meant k
happens_kept r t oid (Some s) made meant k = halts_keep (s.trigger.can && not (trig.advanced (levels_of r s.pin) t s.trigger).trigger.can) s.bound r.controller made meant k

abbrev Moves : Rig → rig.Passed → Type 0
Moves r p = BoardMoves r.controller p.rig.controller p.pulses

goes_moves : (o : Option (ℕ × ℕ)) (r : Rig) (t : ℕ) (rest : rig.Passed) (made meant : List Pulse) → r.controller.state ≡ Running → IsFairSofar r.controller made meant
    → ((happens_at r t (at_of o)).rig.controller.state ≡ Running → (ms ns : List Pulse) → IsFairSofar (happens_at r t (at_of o)).rig.controller ms ns → Moves (happens_at r t (at_of o)).rig rest)
    → Moves r (goes_on o (rests_to r t) (passes_by (happens_at r t (at_of o)) rest))
goes_moves None r t rest made meant running k more = board_runs_on r.controller t made meant running k
goes_moves (Some at) r t rest made meant running k more =
    let ran = runs_to r (at.0 / 3) in
    let o = slot_at ran.rig at.1 in
    let done = (happens_to ran.rig t at.1 o).rig in
    let first = board_runs_on r.controller (at.0 / 3) made meant running k in
    let second = happens_moves ran.rig t at.1 o in
    let part = happens_kept ran.rig t at.1 o (made ++ ran.pulses) meant (pass_keeps r.controller (at.0 / 3) made meant k) in
    let later = more (second.state ∙ first.state ∙ running) (made ++ ran.pulses) part.kept part.is in
    board_both r.controller ran.rig.controller rest.rig.controller ran.pulses rest.pulses first (board_both ran.rig.controller done.controller rest.rig.controller [] rest.pulses second later)

steps_move : (n : ℕ) (r : Rig) (t : ℕ) (made meant : List Pulse) → r.controller.state ≡ Running → IsFairSofar r.controller made meant → Moves r (pass n r t)
steps_move zero r t made meant running k = board_stays r.controller
steps_move (suc n) r t made meant running k =
    let o = earliest_moment r t 0 r.triggers in
    let next = (happens_at r t (at_of o)).rig in
    goes_moves o r t (pass n next t) made meant running k (λ runs ms ns i. steps_move n next t ms ns runs i)

-- time passes
pub passes_move : (r : Rig) (t : ℕ) (made meant : List Pulse) → r.controller.state ≡ Running → IsFairSofar r.controller made meant → Moves r (passes r t)
passes_move r t made meant running k = search (rules, leb_tells, steps_move, all_left, board_stays)

-- Triggers change neither the state of a board nor, but as far as time passes, its tick.
use Rattle.std.proofs.Common.{◌≡◌, ◌&&◌, not, ℕ, zero, suc, ◌+◌, ◌/◌, ◌<◌, ◌≤◌, ◌⊎◌, inl, inr, List, [], ◌∷◌, Option, Some, None, refl, sym, ap, ◌∙◌, subst, arith}
use Rattle.std.specs.Prelude.{slice_index_or}
use Rattle.std.proofs.lemmas.Bool.Decides.{leb_tells}
use Rattle.board_trig.specs.declared.sampling.Homing.{Homing}
use Rattle.plan_types.specs.declared.plan.BoardState.{BoardState}
use Rattle.plan_types.specs.declared.plan.BoardState.TheVariants.{Running, Shut}
use Rattle.msg_code.specs.declared.cmd.Cmd.{Cmd}
use Rattle.msg_code.specs.declared.cmd.Cmd.TheVariants as cmd
use Rattle.board_sim.specs.Board.{Controller, stepper_at}
use Rattle.board_sim.specs.Board as board
use Rattle.board_sim.specs.Rig.{Rig, Slot, Passed, slot_at, levels_of, happens_to, acts, acts_running, takes, takes_all, earliest_moment, runs_to, rests_to, happens_at, goes_on, at_of, passes_by, pass, passes, all_left}
use Rattle.board_sim.proofs.Moments.{Is3, all_in}
use Rattle.board_sim.proofs.RigShut.{made_state, endstop_state, start_state, timeout_state, trigger_state, bind_state, home_state, happens_state}
use Rattle.board_sim.proofs.RigTicks.{takes_rig_tick}
use Rattle.board_sim.proofs.Halting.{halts_tick}
use Rattle.board_trig.specs.Trigger as trig

-- a command
nothing : (o : BoardState) (b : Controller) (c : Cmd) → board.acts b c ≡ board.quiet b → (board.acts_running o b c).board.state ≡ b.state
nothing Running b c e = ap (λ (d : board.Done). d.board.state) e
nothing (Shut reason tick first) b c e = refl

acts_state : (r : Rig) (c : Cmd) → (acts r c).rig.controller.state ≡ (board.takes r.controller c).board.state
acts_state r (cmd.ConfigTrsync oid) = made_state r oid (slot_at r oid) ∙ sym (nothing r.controller.state r.controller (cmd.ConfigTrsync oid) refl)
acts_state r (cmd.TrsyncStart oid clock every reason) = start_state r oid (slot_at r oid) clock every reason ∙ sym (nothing r.controller.state r.controller (cmd.TrsyncStart oid clock every reason) refl)
acts_state r (cmd.TrsyncSetTimeout oid clock) = timeout_state r oid (slot_at r oid) clock ∙ sym (nothing r.controller.state r.controller (cmd.TrsyncSetTimeout oid clock) refl)
acts_state r (cmd.TrsyncTrigger oid reason) = trigger_state r oid (slot_at r oid) reason ∙ sym (nothing r.controller.state r.controller (cmd.TrsyncTrigger oid reason) refl)
acts_state r (cmd.StepperStopOnTrigger oid other) =
    bind_state r oid other (stepper_at r.controller oid) (slot_at r other) ∙ sym (nothing r.controller.state r.controller (cmd.StepperStopOnTrigger oid other) refl)
acts_state r (cmd.ConfigEndstop oid pin pull) = endstop_state r oid pin (slice_index_or r.endstops oid None) ∙ sym (nothing r.controller.state r.controller (cmd.ConfigEndstop oid pin pull) refl)
acts_state r (cmd.EndstopHome oid clock every count rest value other reason) =
    let h : Homing = record { clock = clock; sample_ticks = every; sample_count = count; rest_ticks = rest; pin_value = value; reason = reason } in
    home_state r (slice_index_or r.endstops oid None) other (slot_at r other) h ∙ sym (nothing r.controller.state r.controller (cmd.EndstopHome oid clock every count rest value other reason) refl)
acts_state r (cmd.Identify offset count) = refl
acts_state r cmd.GetConfig = refl
acts_state r cmd.GetUptime = refl
acts_state r (cmd.IdentifyResponse offset bytes) = refl
acts_state r (cmd.AllocateOids count) = refl
acts_state r (cmd.FinalizeConfig crc) = refl
acts_state r cmd.EmergencyStop = refl
acts_state r (cmd.ConfigStepper oid step dir invert width) = refl
acts_state r (cmd.QueueStep oid interval count add) = refl
acts_state r (cmd.SetNextStepDir oid dir) = refl
acts_state r (cmd.ResetStepClock oid clock) = refl
acts_state r (cmd.Config is crc shut count) = refl
acts_state r (cmd.Uptime high clock) = refl
acts_state r (cmd.TrsyncState oid can reason clock) = refl
acts_state r (cmd.Shutdown clock reason) = refl
acts_state r (cmd.IsShutdown reason) = refl

running_state : (o : BoardState) (r : Rig) (c : Cmd) → (acts_running o r c).rig.controller.state ≡ (board.takes r.controller c).board.state
running_state Running r c = acts_state r c
running_state (Shut reason tick first) r c = refl

pub takes_state : (r : Rig) (c : Cmd) → (takes r c).rig.controller.state ≡ (board.takes r.controller c).board.state
takes_state r c = running_state r.controller.state r c

pub all_tick : (r : Rig) (cs : List Cmd) → (takes_all r cs).rig.controller.tick ≡ r.controller.tick
all_tick r [] = refl
all_tick r (c ∷ cs) = all_tick (takes r c).rig cs ∙ takes_rig_tick r c

-- time
on_state : (o : BoardState) (b : Controller) (t : ℕ) → (board.passes_on o b t).board.state ≡ b.state
on_state Running b t = refl
on_state (Shut reason tick first) b t = refl

run_state : (b : Controller) (t : ℕ) → (board.passes b t).board.state ≡ b.state
run_state b t = elim (leb_tells b.tick t) [ inl p ↦ rw p.0 (on_state b.state b t) | inr p ↦ rw p.0 refl ]

goes_state : (o : Option (ℕ × ℕ)) (r : Rig) (t : ℕ) (rest : Passed) → rest.rig.controller.state ≡ (happens_at r t (at_of o)).rig.controller.state
    → (goes_on o (rests_to r t) (passes_by (happens_at r t (at_of o)) rest)).rig.controller.state ≡ r.controller.state
goes_state None r t rest e = run_state r.controller t
goes_state (Some at) r t rest e = e ∙ happens_state (runs_to r (at.0 / 3)).rig t at.1 (slot_at (runs_to r (at.0 / 3)).rig at.1) ∙ run_state r.controller (at.0 / 3)

steps_state : (n : ℕ) (r : Rig) (t : ℕ) → (pass n r t).rig.controller.state ≡ r.controller.state
steps_state zero r t = refl
steps_state (suc n) r t = goes_state (earliest_moment r t 0 r.triggers) r t (pass n (happens_at r t (at_of (earliest_moment r t 0 r.triggers))).rig t) (steps_state n (happens_at r t (at_of (earliest_moment r t 0 r.triggers))).rig t)

pub passes_state : (r : Rig) (t : ℕ) → (passes r t).rig.controller.state ≡ r.controller.state
passes_state r t = elim (leb_tells r.controller.tick t) [ inl p ↦ rw p.0 (steps_state (all_left t r.triggers + 1) r t) | inr p ↦ rw p.0 refl ]

-- a tick that is below a limit stays so where it passes to one that is
on_tick : (o : BoardState) (b : Controller) (t : ℕ) → (board.passes_on o b t).board.tick ≡ t
on_tick Running b t = refl
on_tick (Shut reason tick first) b t = refl

abbrev Under : ℕ → ℕ → Type 0
Under limit n = n < limit

happens_tick : (r : Rig) (t oid : ℕ) (o : Option Slot) → (happens_to r t oid o).rig.controller.tick ≡ r.controller.tick
happens_tick r t oid None = refl
happens_tick r t oid (Some s) = halts_tick (s.trigger.can && not (trig.advanced (levels_of r s.pin) t s.trigger).trigger.can) s.bound r.controller

run_under : (b : Controller) (t limit : ℕ) → b.tick < limit → t < limit → (board.passes b t).board.tick < limit
run_under b t limit h k = elim (leb_tells b.tick t) [ inl p ↦ rw p.0 (subst (Under limit) (sym (on_tick b.state b t)) k) | inr p ↦ rw p.0 h ]

moment_under : (o : Option (ℕ × ℕ)) (t limit : ℕ) → Is3 t o → t < limit → (at_of o).0 / 3 < limit
moment_under None t limit h k = omega (arith, k)
moment_under (Some at) t limit h k = omega (arith, h, k)

goes_under : (o : Option (ℕ × ℕ)) (r : Rig) (t limit : ℕ) (rest : Passed) → r.controller.tick < limit → t < limit → Is3 t o → ((happens_at r t (at_of o)).rig.controller.tick < limit → rest.rig.controller.tick < limit)
    → (goes_on o (rests_to r t) (passes_by (happens_at r t (at_of o)) rest)).rig.controller.tick < limit
goes_under None r t limit rest h k is more = run_under r.controller t limit h k
goes_under (Some at) r t limit rest h k is more =
    more (subst (Under limit) (sym (happens_tick (runs_to r (at.0 / 3)).rig t at.1 (slot_at (runs_to r (at.0 / 3)).rig at.1))) (run_under r.controller (at.0 / 3) limit h (moment_under (Some at) t limit is k)))

steps_under : (n : ℕ) (r : Rig) (t limit : ℕ) → r.controller.tick < limit → t < limit → (pass n r t).rig.controller.tick < limit
steps_under zero r t limit h k = h
steps_under (suc n) r t limit h k =
    goes_under (earliest_moment r t 0 r.triggers) r t limit (pass n (happens_at r t (at_of (earliest_moment r t 0 r.triggers))).rig t) h k (all_in r t 0 r.triggers)
    (λ g. steps_under n (happens_at r t (at_of (earliest_moment r t 0 r.triggers))).rig t limit g k)

pub passes_under : (r : Rig) (t limit : ℕ) → r.controller.tick < limit → t < limit → (passes r t).rig.controller.tick < limit
passes_under r t limit h k = elim (leb_tells r.controller.tick t) [ inl p ↦ rw p.0 (steps_under (all_left t r.triggers + 1) r t limit h k) | inr p ↦ rw p.0 h ]

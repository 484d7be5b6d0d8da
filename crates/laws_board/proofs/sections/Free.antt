-- A board of which no trigger has a stepper bound: its triggers leave the steppers alone.
use Rattle.std.proofs.Common.{◌≡◌, ℕ, Bool, true, false, ◌&&◌, not, List, [], ◌∷◌, Option, Some, None, refl, ap, ◌∙◌, inl, inr, rules}
use Rattle.std.specs.Prelude.{slice_index_or}
use Rattle.laws_board.proofs.Names.{eqb_tells, Running, Trigger, Cmd, Controller, Rig, Slot, slot_at, becomes, expires_at_once, set_timeout, happens_to, acts, acts_running, takes}
use Rattle.board_trig.specs.declared.sampling.Homing.{Homing}
use Rattle.board_trig.specs.Trigger as trig
use Rattle.msg_code.specs.declared.cmd.Cmd.TheVariants as cmd
use Rattle.board_sim.specs.Board as board
use Rattle.board_sim.specs.Rig.{levels_of, halts, make_trigger, make_endstop, start_trigger, trigger, home}
use Rattle.board_sim.specs.RigRuns.{has, IsUnbound, IsNoBind}
use Rattle.board_sim.proofs.Unbound.{takes_free}
use Rattle.laws_board.proofs.causes.Made.{made_same, endstop_same}

-- no trigger has a stepper bound
abbrev pub IsFree : Rig → Type 0
IsFree r = (i : ℕ) → IsUnbound i r

-- a command that binds no stepper
abbrev pub BindsNone : Cmd → Type 0
BindsNone c = (i : ℕ) → IsNoBind i c

none_bound : (bound : List ℕ) → ((i : ℕ) → has i bound ≡ false) → bound ≡ []
none_bound [] h = refl
none_bound (j ∷ bound) h = elim (eqb_tells j j) [ inl p ↦ absurd (clash (rw p.0 at (h j))) | inr p ↦ absurd (p.1 refl) ] where
  clash : true ≡ false → ⊥
  clash e = cc

halts_none : (x : Bool) (b : Controller) → halts x [] b ≡ b
halts_none false b = refl
halts_none true b = refl

bound_none : (r : Rig) (oid : ℕ) (s : Slot) → IsFree r → slot_at r oid ≡ Some s → s.bound ≡ []
bound_none r oid s free at = none_bound s.bound (λ i. free i oid s at)

becomes_same : (r : Rig) (oid : ℕ) (s : Slot) (t : Trigger) → IsFree r → slot_at r oid ≡ Some s → (becomes r oid s t).controller ≡ r.controller
becomes_same r oid s t free at =
    let x = s.trigger.can && not t.can in
    ap (λ bs. halts x bs r.controller) (bound_none r oid s free at) ∙ halts_none x r.controller

start_same : (r : Rig) (oid : ℕ) (o : Option Slot) (clock every reason : ℕ) → IsFree r → slot_at r oid ≡ o → (start_trigger r oid o clock every reason).controller ≡ r.controller
start_same r oid None clock every reason free at = refl
start_same r oid (Some s) clock every reason free at = becomes_same r oid s (trig.started r.controller.tick clock every reason s.trigger) free at

expires_same : (o : Option ℕ) (r : Rig) (oid : ℕ) (s : Slot) (t : Trigger) → IsFree r → slot_at r oid ≡ Some s → (expires_at_once r oid s t o).rig.controller ≡ r.controller
expires_same None r oid s t free at = becomes_same r oid s t free at
expires_same (Some n) r oid s t free at = becomes_same r oid s (record t { untold = None }) free at

timeout_same : (r : Rig) (oid : ℕ) (o : Option Slot) (clock : ℕ) → IsFree r → slot_at r oid ≡ o → (set_timeout r oid o clock).rig.controller ≡ r.controller
timeout_same r oid o clock p4 p5 = search (rules, expires_same)

trigger_same : (r : Rig) (oid : ℕ) (o : Option Slot) (reason : ℕ) → IsFree r → slot_at r oid ≡ o → (trigger r oid o reason).rig.controller ≡ r.controller
trigger_same r oid None reason free at = refl
trigger_same r oid (Some s) reason free at = becomes_same r oid s (trig.triggered r.controller.tick reason s.trigger) free at

pub home_same : (r : Rig) (p : Option ℕ) (other : ℕ) (o : Option Slot) (h : Homing) → (home r p other o h).controller ≡ r.controller
home_same r None other o h = refl
home_same r (Some p) other None h = refl
home_same r (Some p) other (Some s) h = refl

-- what a command of a board's own makes of it
pub board_acts : (b : Controller) (c : Cmd) → b.state ≡ Running → (board.takes b c).board ≡ (board.acts b c).board
board_acts b (cmd.Identify offset count) e = refl
board_acts b cmd.GetConfig e = refl
board_acts b cmd.GetUptime e = refl
board_acts b c e = ap (λ o. (board.acts_running o b c).board) e

rig_acts : (r : Rig) (c : Cmd) → r.controller.state ≡ Running → IsFree r → BindsNone c → (acts r c).rig.controller ≡ (board.acts r.controller c).board
rig_acts r (cmd.ConfigTrsync oid) e free n = made_same r oid (slot_at r oid)
rig_acts r (cmd.TrsyncStart oid clock every reason) e free n = start_same r oid (slot_at r oid) clock every reason free refl
rig_acts r (cmd.TrsyncSetTimeout oid clock) e free n = timeout_same r oid (slot_at r oid) clock free refl
rig_acts r (cmd.TrsyncTrigger oid reason) e free n = trigger_same r oid (slot_at r oid) reason free refl
rig_acts r (cmd.StepperStopOnTrigger oid other) e free n = absurd (n oid refl)
rig_acts r (cmd.ConfigEndstop oid pin pull) e free n = endstop_same r oid pin (slice_index_or r.endstops oid None)
rig_acts r (cmd.EndstopHome oid clock sample count rest value other reason) e free n =
    home_same r (slice_index_or r.endstops oid None) other (slot_at r other)
    (record { clock = clock; sample_ticks = sample; sample_count = count; rest_ticks = rest; pin_value = value; reason = reason })
rig_acts r c e free n = board_acts r.controller c e

-- a board that runs does with a command what its steppers' board does
pub takes_acts : (r : Rig) (c : Cmd) → r.controller.state ≡ Running → IsFree r → BindsNone c → (takes r c).rig.controller ≡ (board.acts r.controller c).board
takes_acts r c e free n = ap (λ o. (acts_running o r c).rig.controller) e ∙ rig_acts r c e free n

pub takes_keeps_free : (r : Rig) (c : Cmd) → IsFree r → BindsNone c → IsFree (takes r c).rig
takes_keeps_free r c free n = λ i. (takes_free r c i (free i) (n i)).0

-- what happens to a trigger
pub happens_same : (r : Rig) (t oid : ℕ) (o : Option Slot) → IsFree r → slot_at r oid ≡ o → (happens_to r t oid o).rig.controller ≡ r.controller
happens_same r t oid None free at = refl
happens_same r t oid (Some s) free at = becomes_same r oid s (trig.advanced (levels_of r s.pin) t s.trigger).trigger free at

-- The ends of a run, in their order.
use Rattle.std.proofs.Common.{◌≡◌, ℕ, Bool, true, false, cond, List, Option, Some, None, refl, ap, ◌∙◌}
use Rattle.std.specs.Prelude.{◌||◌}
use Rattle.plan_types.specs.declared.machine.Machine.{Machine}
use Rattle.plan_types.specs.declared.cause.Cause.{Cause}
use Rattle.plan_types.specs.declared.cause.Cause.TheVariants as cause
use Rattle.plan_types.specs.Machines.{axis_at}
use Rattle.msg_code.specs.declared.talk.State.{State}
use Rattle.msg_code.specs.declared.talk.Note.{Note}
use Rattle.wire_scene.specs.declared.scene.Switch.{Switch}
use Rattle.host_reactor.specs.declared.ordered.Known.{Known}
use Rattle.host_reactor.specs.declared.ordered.Phase.{Phase}
use Rattle.host_reactor.specs.declared.ordered.Phase.TheVariants.{Connecting, Running}
use Rattle.board_asking.specs.Connecting.{giving_up, listen_all, ready_all}
use Rattle.board_asking.specs.Drift.{stale}
use Rattle.axis_homing.specs.Homing.{homing_turn}
use Rattle.host_reactor.specs.Notes.{noted, news_of, is_out}
use Rattle.host_reactor.specs.Report.{first_lines}
use Rattle.host_reactor.specs.Running.{any_out, first_cause, or_cause, late}
use Rattle.host_reactor.specs.Reactor.{Reacted, unless_given_up, after_homing, unless_homing_ends, cut_line, unless_stale, by_phase, unless_ended, reacts}

abbrev end_of : Reacted → Option Cause
end_of x = x.ordered.end

-- a cause that comes before what the phase does
pub first-ends : (m : Machine) (switches : List Switch) (r : Known) (k : ℕ) (states : List State) (note : Option Note) (c : Cause)
    → first_cause (is_out note) (noted m note r).stopped states ≡ Some c → end_of (reacts m switches r k states note) ≡ Some c
first-ends m switches r k states note c h =
    let s = noted m note r in
    ap (λ (o : Option Cause). end_of (unless_ended o m switches s k states (first_lines m s k (news_of note) states))) h

-- the first causes: memory, then what was told, then a late board
memory-first : (b : Bool) (o : Option Cause) → b ≡ true → cond b (Some cause.Memory) o ≡ Some cause.Memory
memory-first true o h = refl
memory-first false o h = cc

others-next : (b : Bool) (o : Option Cause) → b ≡ false → cond b (Some cause.Memory) o ≡ o
others-next true o h = cc
others-next false o h = refl

pub memory-is-first : (out : Bool) (stopped : Option Cause) (states : List State) → (out || any_out states) ≡ true → first_cause out stopped states ≡ Some cause.Memory
memory-is-first out stopped states h = memory-first (out || any_out states) (or_cause stopped (late 0 states)) h

pub stopped-is-next : (out : Bool) (stopped : Option Cause) (states : List State) (c : Cause) → (out || any_out states) ≡ false → stopped ≡ Some c → first_cause out stopped states ≡ Some c
stopped-is-next out stopped states c h e = others-next (out || any_out states) (or_cause stopped (late 0 states)) h ∙ ap (λ (o : Option Cause). or_cause o (late 0 states)) e

pub late-is-next : (out : Bool) (stopped : Option Cause) (states : List State) → (out || any_out states) ≡ false → stopped ≡ None → first_cause out stopped states ≡ late 0 states
late-is-next out stopped states h e = others-next (out || any_out states) (or_cause stopped (late 0 states)) h ∙ ap (λ (o : Option Cause). or_cause o (late 0 states)) e

-- no cause comes first: the phase decides
phase-decides : (m : Machine) (switches : List Switch) (r : Known) (k : ℕ) (states : List State) (note : Option Note) (p : Phase)
    → first_cause (is_out note) (noted m note r).stopped states ≡ None → (noted m note r).phase ≡ p
    → end_of (reacts m switches r k states note) ≡ end_of (by_phase p m switches (noted m note r) k states (first_lines m (noted m note r) k (news_of note) states))
phase-decides m switches r k states note p h e =
    let s = noted m note r in
    let lines = first_lines m s k (news_of note) states in
    ap (λ (o : Option Cause). end_of (unless_ended o m switches s k states lines)) h ∙ ap (λ (q : Phase). end_of (by_phase q m switches s k states lines)) e

-- connecting: a board that gives no answer
pub connecting-ends : (m : Machine) (switches : List Switch) (r : Known) (k : ℕ) (states : List State) (note : Option Note) (c : Cause)
    → first_cause (is_out note) (noted m note r).stopped states ≡ None → (noted m note r).phase ≡ Connecting
    → giving_up k 0 (ready_all m 0 (listen_all (noted m note r).askings.items states)) ≡ Some c → end_of (reacts m switches r k states note) ≡ Some c
connecting-ends m switches r k states note c h e g =
    let s = noted m note r in
    let askings = ready_all m 0 (listen_all s.askings.items states) in
    phase-decides m switches r k states note Connecting h e
    ∙ ap (λ (o : Option Cause). end_of (unless_given_up o m s k (first_lines m s k (news_of note) states) askings)) g

-- running: a board whose clock is stale comes before homing
pub stale-ends : (m : Machine) (switches : List Switch) (r : Known) (k : ℕ) (states : List State) (note : Option Note) (c : Cause)
    → first_cause (is_out note) (noted m note r).stopped states ≡ None → (noted m note r).phase ≡ Running
    → stale k 0 (listen_all (noted m note r).askings.items states) ≡ Some c → end_of (reacts m switches r k states note) ≡ Some c
stale-ends m switches r k states note c h e g =
    let s = noted m note r in
    let askings = listen_all s.askings.items states in
    phase-decides m switches r k states note Running h e
    ∙ ap (λ (o : Option Cause). end_of (unless_stale o m switches s k states (first_lines m s k (news_of note) states) askings)) g

pub homing-ends : (m : Machine) (switches : List Switch) (r : Known) (k : ℕ) (states : List State) (note : Option Note) (c : Cause)
    → first_cause (is_out note) (noted m note r).stopped states ≡ None → (noted m note r).phase ≡ Running
    → stale k 0 (listen_all (noted m note r).askings.items states) ≡ None
    → (homing_turn (noted m note r).clocks k states (noted m note r).homing).end ≡ Some c → end_of (reacts m switches r k states note) ≡ Some c
homing-ends m switches r k states note c h e g f =
    let s = noted m note r in
    let askings = listen_all s.askings.items states in
    let lines = first_lines m s k (news_of note) states in
    let turn = homing_turn s.clocks k states s.homing in
    phase-decides m switches r k states note Running h e
    ∙ ap (λ (o : Option Cause). end_of (unless_stale o m switches s k states lines askings)) g
    ∙ ap (λ (o : Option Cause). end_of (unless_homing_ends o m (after_homing s k states) k states lines (cut_line m switches turn.section (axis_at m turn.axis) turn.cut) askings turn)) f

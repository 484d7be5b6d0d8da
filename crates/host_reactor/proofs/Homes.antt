-- What a turn makes of the homing section: it keeps it, or homing goes on.
use Rattle.std.proofs.Common.{◌≡◌, ℕ, Bool, true, false, cond, List, ◌++◌, Option, Some, None}
use Rattle.plan_types.specs.declared.machine.Machine.{Machine}
use Rattle.plan_types.specs.declared.cause.Cause.{Cause}
use Rattle.plan_types.specs.declared.plan.ReadStop.{ReadStop}
use Rattle.plan_types.specs.declared.plan.ReadStop.TheVariants as read
use Rattle.plan_types.specs.Machines.{axis_at}
use Rattle.msg_code.specs.declared.talk.State.{State}
use Rattle.msg_code.specs.declared.talk.Note.{Note}
use Rattle.report_text.specs.declared.line.ReportLine.{ReportLine}
use Rattle.wire_scene.specs.declared.scene.Switch.{Switch}
use Rattle.board_asking.specs.declared.asking.Asking.{Asking}
use Rattle.board_asking.specs.Connecting.{all_connected, giving_up, listen_all, ready_all}
use Rattle.board_asking.specs.Drift.{stale}
use Rattle.axis_homing.specs.declared.homing.Homing.{Homing}
use Rattle.axis_homing.specs.declared.homing.HomingTurn.{HomingTurn}
use Rattle.axis_homing.specs.Homing.{homing_after, homing_turn}
use Rattle.host_reactor.specs.declared.ordered.Known.{Known}
use Rattle.host_reactor.specs.declared.ordered.Phase.{Phase}
use Rattle.host_reactor.specs.declared.ordered.Phase.TheVariants.{Connecting, Running, Stopping}
use Rattle.host_reactor.specs.Notes.{noted, news_of, is_out}
use Rattle.host_reactor.specs.Report.{first_lines}
use Rattle.host_reactor.specs.Running.{first_cause, is_finished, stop_of}
use Rattle.host_reactor.specs.Reactor.{Reacted, asks_boards, is_connected_now, unless_given_up, carries_on, finishes, unless_homing_ends, cut_line, after_homing, unless_stale, unless_late_stale, by_phase, unless_ended, reacts}

-- the homing section that is known behind a turn has a property
abbrev Leaves : (Option Homing → Type 0) → Reacted → Type 0
Leaves P x = P x.known.homing

either : (P : Option Homing → Type 0) (b : Bool) (x y : Reacted) → Leaves P x → Leaves P y → Leaves P (cond b x y)
either P true x y h i = h
either P false x y h i = i

given-up : (P : Option Homing → Type 0) (o : Option Cause) (m : Machine) (r : Known) (k : ℕ) (lines : List ReportLine) (askings : List Asking) → P r.homing → Leaves P (unless_given_up o m r k lines askings)
given-up P (Some c) m r k lines askings h = h
given-up P None m r k lines askings h = either P (all_connected askings) (is_connected_now m r k lines askings) (asks_boards m r k lines askings) h h

finished : (P : Option Homing → Type 0) (how : ReadStop) (m : Machine) (r : Known) (k : ℕ) (lines : List ReportLine) (askings : List Asking) (turn : HomingTurn) → P r.homing → Leaves P (finishes how m r k lines askings turn)
finished P (read.Stop line) m r k lines askings turn h = h
finished P read.End m r k lines askings turn h = h
finished P (read.Refused line kind) m r k lines askings turn h = h

homing-ends : (P : Option Homing → Type 0) (o : Option Cause) (m : Machine) (r : Known) (k : ℕ) (states : List State) (lines cut : List ReportLine) (askings : List Asking) (turn : HomingTurn) → P r.homing
    → Leaves P (unless_homing_ends o m r k states lines cut askings turn)
homing-ends P (Some c) m r k states lines cut askings turn h = h
homing-ends P None m r k states lines cut askings turn h =
    either P (is_finished r k states) (finishes (stop_of r.reading) m r k (lines ++ cut) askings turn) (carries_on m r k (lines ++ cut) askings turn None)
    (finished P (stop_of r.reading) m r k (lines ++ cut) askings turn h) h

stale-ends : (P : Option Homing → Type 0) (o : Option Cause) (m : Machine) (switches : List Switch) (r : Known) (k : ℕ) (states : List State) (lines : List ReportLine) (askings : List Asking) → P r.homing
    → P (homing_after r.clocks k states r.homing) → Leaves P (unless_stale o m switches r k states lines askings)
stale-ends P (Some c) m switches r k states lines askings h i = h
stale-ends P None m switches r k states lines askings h i =
    let turn = homing_turn r.clocks k states r.homing in
    homing-ends P turn.end m (after_homing r k states) k states lines (cut_line m switches turn.section (axis_at m turn.axis) turn.cut) askings turn i

late-stale : (P : Option Homing → Type 0) (o : Option Cause) (m : Machine) (r : Known) (k : ℕ) (lines : List ReportLine) (line : ℕ) → P r.homing → Leaves P (unless_late_stale o m r k lines line)
late-stale P (Some c) m r k lines line h = h
late-stale P None m r k lines line h = h

phases : (P : Option Homing → Type 0) (p : Phase) (m : Machine) (switches : List Switch) (r : Known) (k : ℕ) (states : List State) (lines : List ReportLine) → P r.homing → P (homing_after r.clocks k states r.homing)
    → Leaves P (by_phase p m switches r k states lines)
phases P Connecting m switches r k states lines h i =
    let askings = ready_all m 0 (listen_all r.askings.items states) in
    given-up P (giving_up k 0 askings) m r k lines askings h
phases P Running m switches r k states lines h i =
    let askings = listen_all r.askings.items states in
    stale-ends P (stale k 0 askings) m switches r k states lines askings h i
phases P (Stopping line) m switches r k states lines h i = late-stale P (stale k 0 (listen_all r.askings.items states)) m r k lines line h

ended : (P : Option Homing → Type 0) (o : Option Cause) (m : Machine) (switches : List Switch) (r : Known) (k : ℕ) (states : List State) (lines : List ReportLine) → P r.homing → P (homing_after r.clocks k states r.homing)
    → Leaves P (unless_ended o m switches r k states lines)
ended P (Some c) m switches r k states lines h i = h
ended P None m switches r k states lines h i = phases P r.phase m switches r k states lines h i

-- a property of what the note makes known, and of what homing makes of it, holds behind the turn
pub turn-leaves : (P : Option Homing → Type 0) (m : Machine) (switches : List Switch) (r : Known) (k : ℕ) (states : List State) (note : Option Note) → P (noted m note r).homing
    → P (homing_after (noted m note r).clocks k states (noted m note r).homing) → P (reacts m switches r k states note).known.homing
turn-leaves P m switches r k states note h i =
    let s = noted m note r in
    ended P (first_cause (is_out note) s.stopped states) m switches s k states (first_lines m s k (news_of note) states) h i

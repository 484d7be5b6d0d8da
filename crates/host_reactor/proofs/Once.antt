-- Every control of a turn asks for the clock at most once.
use Rattle.std.proofs.Common.{◌≡◌, ◌≤◌, ℕ, ◌+◌, Bool, true, false, cond, List, [], ◌∷◌, ◌++◌, Option, Some, None, refl, arith}
use Rattle.plan_types.specs.declared.machine.Machine.{Machine}
use Rattle.plan_types.specs.declared.machine.BoardDef.{BoardDef}
use Rattle.plan_types.specs.declared.cause.Cause.{Cause}
use Rattle.plan_types.specs.declared.plan.ReadStop.{ReadStop}
use Rattle.plan_types.specs.declared.plan.ReadStop.TheVariants as read
use Rattle.plan_types.specs.Lines.{Clocks}
use Rattle.plan_types.specs.Machines.{axis_at}
use Rattle.msg_code.specs.declared.cmd.Cmd.{Cmd}
use Rattle.msg_code.specs.declared.talk.State.{State}
use Rattle.msg_code.specs.declared.talk.Note.{Note}
use Rattle.report_text.specs.declared.line.ReportLine.{ReportLine}
use Rattle.wire_scene.specs.declared.scene.Switch.{Switch}
use Rattle.board_asking.specs.declared.asking.Asking.{Asking}
use Rattle.axis_homing.specs.declared.homing.HomingTurn.{HomingTurn}
use Rattle.host_reactor.specs.declared.ordered.Known.{Known}
use Rattle.host_reactor.specs.declared.ordered.Phase.{Phase}
use Rattle.host_reactor.specs.declared.ordered.Phase.TheVariants.{Connecting, Running, Stopping}
use Rattle.board_asking.specs.Machine.{configuration}
use Rattle.board_asking.specs.Connecting.{asking_controls, all_connected, giving_up, listen_all, ready_all}
use Rattle.board_asking.specs.Drift.{clock_question, stale, waiting}
use Rattle.axis_homing.specs.Homing.{homing_turn}
use Rattle.host_reactor.specs.Notes.{noted, news_of, is_out}
use Rattle.host_reactor.specs.Report.{first_lines}
use Rattle.host_reactor.specs.Running.{first_cause, is_finished, stop_of}
use Rattle.host_reactor.specs.Reactor.{Reacted, plain_controls, homing_commands, stop_command, run_controls, unless_given_up, carries_on, finishes, stops, unless_homing_ends, cut_line, after_homing, unless_stale, unless_late_stale, by_phase, unless_ended, reacts}
use Rattle.host_reactor.specs.Laws.{uptimes, AskOnce}
use Rattle.host_reactor.proofs.Uptimes.{append, asks-few, commands-none, question-few}

plain : (k : ℕ) (connected end : Bool) (boards : List BoardDef) → AskOnce (plain_controls k [] connected end boards)
plain k connected end [] = tt
plain k connected end (b ∷ boards) = (omega arith, plain k connected end boards)

asking : (m : Machine) (k b : ℕ) (askings : List Asking) → AskOnce (asking_controls m k b askings)
asking m k b [] = tt
asking m k b (a ∷ askings) = (asks-few (configuration m b) k a a.stage, asking m k (b + 1) askings)

pub stop-none : (stop : Bool) → uptimes (stop_command stop) ≡ 0
stop-none true = refl
stop-none false = refl

behind-few : (h q s : List Cmd) → uptimes h ≡ 0 → uptimes q ≤ 1 → uptimes s ≡ 0 → uptimes (h ++ (q ++ s)) ≤ 1
behind-few h q s e l f = let one = append h (q ++ s) in let two = append q s in omega arith

running : (m : Machine) (k b : ℕ) (turn : HomingTurn) (stop : Bool) (clocks : List Clocks) (askings : List Asking) → AskOnce (run_controls m k b turn (stop_command stop) clocks askings)
running m k b turn stop clocks [] = tt
running m k b turn stop [] (a ∷ askings) = running m k b turn stop [] askings
running m k b turn stop (c ∷ clocks) (a ∷ askings) = (
  behind-few (homing_commands m turn c b) (clock_question (homing_commands m turn c b) a) (stop_command stop) (commands-none m c b turn.start (axis_at m turn.axis) turn.ctls.items) (question-few (homing_commands m turn c b) a) (stop-none stop),
  running m k (b + 1) turn stop clocks askings,
)

abbrev Once : Reacted → Type 0
Once x = AskOnce x.ordered.controls

either : (b : Bool) (x y : Reacted) → Once x → Once y → Once (cond b x y)
either true x y h i = h
either false x y h i = i

given-up : (o : Option Cause) (m : Machine) (r : Known) (k : ℕ) (lines : List ReportLine) (askings : List Asking) → Once (unless_given_up o m r k lines askings)
given-up (Some cause) m r k lines askings = plain k true true m.boards
given-up None m r k lines askings = either (all_connected askings) _ _ (plain k false false m.boards) (asking m k 0 askings)

carried : (m : Machine) (r : Known) (k : ℕ) (lines : List ReportLine) (askings : List Asking) (turn : HomingTurn) (stop : Option ℕ) → Once (carries_on m r k lines askings turn stop)
carried m r k lines askings turn stop = running m k 0 turn (stops stop) r.clocks (waiting m k 0 askings)

finished : (how : ReadStop) (m : Machine) (r : Known) (k : ℕ) (lines : List ReportLine) (askings : List Asking) (turn : HomingTurn) → Once (finishes how m r k lines askings turn)
finished (read.Stop line) m r k lines askings turn = carried m r k lines askings turn (Some line)
finished read.End m r k lines askings turn = plain k true true m.boards
finished (read.Refused line kind) m r k lines askings turn = plain k true true m.boards

homing-ends : (o : Option Cause) (m : Machine) (r : Known) (k : ℕ) (states : List State) (lines cut : List ReportLine) (askings : List Asking) (turn : HomingTurn) → Once (unless_homing_ends o m r k states lines cut askings turn)
homing-ends (Some cause) m r k states lines cut askings turn = plain k true true m.boards
homing-ends None m r k states lines cut askings turn =
    either (is_finished r k states) _ _ (finished (stop_of r.reading) m r k (lines ++ cut) askings turn) (carried m r k (lines ++ cut) askings turn None)

stale-ends : (o : Option Cause) (m : Machine) (switches : List Switch) (r : Known) (k : ℕ) (states : List State) (lines : List ReportLine) (askings : List Asking) → Once (unless_stale o m switches r k states lines askings)
stale-ends (Some cause) m switches r k states lines askings = plain k true true m.boards
stale-ends None m switches r k states lines askings =
    let turn = homing_turn r.clocks k states r.homing in
    homing-ends turn.end m (after_homing r k states) k states lines (cut_line m switches turn.section (axis_at m turn.axis) turn.cut) askings turn

late-stale : (o : Option Cause) (m : Machine) (r : Known) (k : ℕ) (lines : List ReportLine) (line : ℕ) → Once (unless_late_stale o m r k lines line)
late-stale (Some cause) m r k lines line = plain k true true m.boards
late-stale None m r k lines line = plain k true true m.boards

phases : (p : Phase) (m : Machine) (switches : List Switch) (r : Known) (k : ℕ) (states : List State) (lines : List ReportLine) → Once (by_phase p m switches r k states lines)
phases Connecting m switches r k states lines =
    let askings = ready_all m 0 (listen_all r.askings.items states) in
    given-up (giving_up k 0 askings) m r k lines askings
phases Running m switches r k states lines =
    let askings = listen_all r.askings.items states in
    stale-ends (stale k 0 askings) m switches r k states lines askings
phases (Stopping line) m switches r k states lines = late-stale (stale k 0 (listen_all r.askings.items states)) m r k lines line

ended : (o : Option Cause) (m : Machine) (switches : List Switch) (r : Known) (k : ℕ) (states : List State) (lines : List ReportLine) → Once (unless_ended o m switches r k states lines)
ended (Some cause) m switches r k states lines = plain k true true m.boards
ended None m switches r k states lines = phases r.phase m switches r k states lines

pub once : (m : Machine) (switches : List Switch) (r : Known) (k : ℕ) (states : List State) (note : Option Note) → AskOnce (reacts m switches r k states note).ordered.controls
once m switches r k states note =
    let s = noted m note r in
    ended (first_cause (is_out note) s.stopped states) m switches s k states (first_lines m s k (news_of note) states)

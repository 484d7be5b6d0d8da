-- The reactor of a run, as a function over whole numbers.
use Rattle.std.specs.Prelude.{ℕ, ◌+◌, Bool, true, false, List, [], ◌∷◌, ◌++◌, Option, Some, None, if◌then◌else◌}
use Rattle.plan_types.specs.declared.machine.Machine.{Machine}
use Rattle.plan_types.specs.declared.cause.Cause.{Cause}
use Rattle.plan_types.specs.declared.cause.Cause.TheVariants as cause
use Rattle.plan_types.specs.declared.plan.ReadStop.{ReadStop}
use Rattle.plan_types.specs.declared.plan.ReadStop.TheVariants as read
use Rattle.plan_types.specs.declared.machine.BoardDef.{BoardDef}
use Rattle.msg_code.specs.declared.cmd.Cmd.{Cmd}
use Rattle.msg_code.specs.declared.cmd.Cmd.TheVariants as cmd
use Rattle.msg_code.specs.declared.unit.Control.{Control}
use Rattle.msg_code.specs.declared.talk.State.{State}
use Rattle.msg_code.specs.declared.talk.Note.{Note}
use Rattle.msg_code.specs.declared.talk.WordNews.{WordNews}
use Rattle.msg_code.specs.declared.talk.WordNews.TheVariants as word
use Rattle.report_text.specs.declared.line.ReportLine.{ReportLine}
use Rattle.board_asking.specs.declared.asking.Asking.{Asking}
use Rattle.host_reactor.specs.declared.ordered.Phase.{Phase}
use Rattle.host_reactor.specs.declared.ordered.Phase.TheVariants.{Connecting, Running, Stopping}
use Rattle.host_reactor.specs.declared.ordered.Known.{Known}
use Rattle.host_reactor.specs.declared.ordered.Ordered.{Ordered}
use Rattle.board_asking.specs.Asking.{new_asking}
use Rattle.host_reactor.specs.Notes.{noted, news_of, is_out}
use Rattle.msg_code.specs.declared.talk.NoteNews.{NoteNews}
use Rattle.host_reactor.specs.Report.{first_lines, count_lines}
use Rattle.board_asking.specs.Connecting.{listen_all, ready_all, giving_up, all_connected, control, asking_controls, ask_all, board_lines, one_line_clocks, connected_lines}
use Rattle.plan_types.specs.declared.machine.AxisDef.{AxisDef}
use Rattle.plan_types.specs.Lines.{Clocks}
use Rattle.plan_types.specs.Machines.{axis_at}
use Rattle.report_text.specs.declared.line.ReportLine.TheVariants as report
use Rattle.wire_scene.specs.declared.scene.Switch.{Switch}
use Rattle.wire_scene.specs.Scenes.{last_switch, line_of}
use Rattle.axis_homing.specs.declared.homing.HomingTurn.{HomingTurn}
use Rattle.board_asking.specs.Drift.{stale, waiting, clock_question, after_question, new_lines}
use Rattle.axis_homing.specs.Homing.{commands_to, homing_turn, homing_after}
use Rattle.host_reactor.specs.Running.{first_cause, is_finished, stop_of}

-- what a turn makes of the reactor, and what it gives
pub record Reacted : Type 0 where
  pub known : Known
  pub ordered : Ordered

-- for each board an asking that has not begun
abbrev pub new_askings : List BoardDef → List Asking
new_askings [] = []
new_askings (b ∷ boards) = new_asking ∷ new_askings boards

-- what a reactor knows that nothing was told
abbrev pub new_known : Machine → Known
new_known m = record {
  phase = Connecting;
  askings = record { items = new_askings m.boards };
  clocks = [];
  begun = None;
  homing = None;
  done = 0;
  ended = 0;
  reading = None;
  stopped = None;
  clear = 0;
}

-- the same commands, or none, to every board
abbrev pub plain_controls : ℕ → List Cmd → Bool → Bool → List BoardDef → List Control
plain_controls k commands connected end [] = []
plain_controls k commands connected end (b ∷ boards) =
    control k commands connected end ∷ plain_controls k commands connected end boards

-- nothing follows a word of the turn that ends the run
abbrev pub is_end : Option Cause → Bool
is_end None = false
is_end (Some cause) = true

-- what a turn gives: the controls; a word with the news, which tells whether it is the last one; the report's
-- lines; and the cause, where the run ends
abbrev pub given : ℕ → List Control → List WordNews → List ReportLine → Option Cause → Ordered
given k controls news lines end =
    record { controls = controls; word = record { turn = k; news = news; end = is_end end }; lines = lines; end = end }

-- the run ends: every link and the motion machine are told that nothing follows
abbrev pub ends : Machine → Known → ℕ → List ReportLine → Cause → Reacted
ends m r k lines cause = record {
  known = r;
  ordered = given k (plain_controls k [] true true m.boards) [] lines (Some cause);
}

-- connecting: the boards are asked
abbrev pub asks_boards : Machine → Known → ℕ → List ReportLine → List Asking → Reacted
asks_boards m r k lines askings = record {
  known = record r { askings = record { items = ask_all m k 0 askings } };
  ordered = given k (asking_controls m k 0 askings) [] lines None;
}

-- connecting ended in this turn
abbrev pub is_connected_now : Machine → Known → ℕ → List ReportLine → List Asking → Reacted
is_connected_now m r k lines askings = record {
  known =
      record r {
        phase = Running;
        askings = record { items = askings };
        clocks = one_line_clocks (board_lines m 0 askings);
        ended = k;
      };
  ordered = given k (plain_controls k [] false false m.boards) (word.Lines (board_lines m 0 askings) ∷ [])
      (lines ++ connected_lines k 0 (board_lines m 0 askings)) None;
}

-- The turn of a run that connects, behind what was heard in it: it ends where a board was given up; it is the
-- one in which connecting ends, where all boards are connected; else the boards are asked on.
abbrev pub unless_given_up : Option Cause → Machine → Known → ℕ → List ReportLine → List Asking → Reacted
unless_given_up (Some cause) m r k lines askings = ends m r k lines cause
unless_given_up None m r k lines askings =
    if all_connected askings then is_connected_now m r k lines askings else asks_boards m r k lines askings

-- connecting: the boards are asked, until all are connected or one gives no answer
abbrev pub connects : Machine → Known → ℕ → List State → List ReportLine → Reacted
connects m r k states lines =
    let askings = ready_all m 0 (listen_all r.askings.items states) in
    unless_given_up (giving_up k 0 askings) m r k lines askings

-- a running board's commands in turn k: those of the group's orders
abbrev pub homing_commands : Machine → HomingTurn → Clocks → ℕ → List Cmd
homing_commands m turn clocks b = commands_to m clocks b turn.start (axis_at m turn.axis) turn.ctls.items

-- and behind them the asking for its clock, and the order to stop
abbrev pub run_control : Machine → ℕ → ℕ → HomingTurn → List Cmd → Clocks → Asking → Control
run_control m k b turn stop clocks a =
    control k (homing_commands m turn clocks b ++ (clock_question (homing_commands m turn clocks b) a ++ stop)) true
    false

-- the controls of a running turn, from a board on: each board's orders of the group that homes, its asking,
-- and the order to stop
abbrev pub run_controls : Machine → ℕ → ℕ → HomingTurn → List Cmd → List Clocks → List Asking → List Control
run_controls m k b turn stop clocks [] = []
run_controls m k b turn stop [] (a ∷ askings) = run_controls m k b turn stop [] askings
run_controls m k b turn stop (c ∷ clocks) (a ∷ askings) =
    run_control m k b turn stop c a ∷ run_controls m k (b + 1) turn stop clocks askings

-- the askings of the boards behind a running turn, from a board on: those that went out in it are out
abbrev pub run_askings : Machine → ℕ → ℕ → HomingTurn → List Clocks → List Asking → List Asking
run_askings m k b turn clocks [] = []
run_askings m k b turn [] (a ∷ askings) = a ∷ run_askings m k b turn [] askings
run_askings m k b turn (c ∷ clocks) (a ∷ askings) =
    after_question k (homing_commands m turn c b) a ∷ run_askings m k (b + 1) turn clocks askings

-- the line of a section whose switch closed
abbrev pub cut_line : Machine → List Switch → ℕ → AxisDef → Option ℕ → List ReportLine
cut_line m switches section axis None = []
cut_line m switches section axis (Some tick) =
    report.Cut section axis.board axis.pin tick (line_of (last_switch axis.board axis.pin tick switches)) ∷ []

-- the planner is told that an axis has homed, where the group answered with a tick
abbrev pub homed : Option ℕ → List WordNews
homed None = []
homed (Some tick) = word.Homed ∷ []

-- the order to stop, where it is given
abbrev pub stop_command : Bool → List Cmd
stop_command true = cmd.EmergencyStop ∷ []
stop_command false = []

-- the phase behind a running turn: the turn after an order to stop, where a line of the text asked for one
abbrev pub phase_after : Option ℕ → Phase
phase_after None = Running
phase_after (Some line) = Stopping line

-- a line of the text asks for a stop
abbrev pub stops : Option ℕ → Bool
stops None = false
stops (Some line) = true

-- a running turn: the group's orders, the askings, and the order to stop where the text asks for it
abbrev pub carries_on : Machine → Known → ℕ → List ReportLine → List Asking → HomingTurn → Option ℕ → Reacted
carries_on m r k lines askings turn stop = record {
  known =
      record r {
        phase = phase_after stop;
        askings = record { items = run_askings m k 0 turn r.clocks (waiting m k 0 askings) };
      };
  ordered = given k (run_controls m k 0 turn (stop_command (stops stop)) r.clocks (waiting m k 0 askings))
      (homed turn.cut ++ new_lines m 0 r.askings.items askings) lines None;
}

-- the text's end: the run ends, or the boards are told to stop
abbrev pub finishes : ReadStop → Machine → Known → ℕ → List ReportLine → List Asking → HomingTurn → Reacted
finishes (read.Stop line) m r k lines askings turn = carries_on m r k lines askings turn (Some line)
finishes read.End m r k lines askings turn = ends m r k (lines ++ count_lines r.reading) cause.Done
finishes (read.Refused line kind) m r k lines askings turn =
    ends m r k (lines ++ count_lines r.reading) (cause.Line line kind)

-- behind the group's answer, where it doesn't end the run
abbrev pub unless_homing_ends : Option Cause → Machine → Known → ℕ → List State → List ReportLine → List ReportLine →
    List Asking → HomingTurn → Reacted
unless_homing_ends (Some cause) m r k states lines cut askings turn = ends m r k lines cause
unless_homing_ends None m r k states lines cut askings turn =
    if is_finished r k states then finishes (stop_of r.reading) m r k (lines ++ cut) askings turn
    else carries_on m r k (lines ++ cut) askings turn None

-- a running turn behind what homing does in it: the run ends, or goes on with the line of the section whose
-- switch closed
abbrev pub homes : Machine → List Switch → Known → ℕ → List State → List ReportLine → List Asking → HomingTurn → Reacted
homes m switches r k states lines askings turn =
    unless_homing_ends turn.end m r k states lines (cut_line m switches turn.section (axis_at m turn.axis) turn.cut)
    askings turn

-- what a reactor knows behind what the boards told of homing in a turn
abbrev pub after_homing : Known → ℕ → List State → Known
after_homing r k states = record r { homing = homing_after r.clocks k states r.homing }

-- a running turn: the run ends for a board whose clock line is too old, or homing is heard and the turn goes
-- on
abbrev pub unless_stale : Option Cause → Machine → List Switch → Known → ℕ → List State → List ReportLine →
    List Asking → Reacted
unless_stale (Some cause) m switches r k states lines askings = ends m r k lines cause
unless_stale None m switches r k states lines askings =
    homes m switches (after_homing r k states) k states lines askings (homing_turn r.clocks k states r.homing)

-- a running turn, from the states of the turn before on: the answers to askings are heard first
abbrev pub runs : Machine → List Switch → Known → ℕ → List State → List ReportLine → Reacted
runs m switches r k states lines =
    let askings = listen_all r.askings.items states in
    unless_stale (stale k 0 askings) m switches r k states lines askings

-- the turn behind the order to stop
abbrev pub unless_late_stale : Option Cause → Machine → Known → ℕ → List ReportLine → ℕ → Reacted
unless_late_stale (Some cause) m r k lines line = ends m r k lines cause
unless_late_stale None m r k lines line = ends m r k (lines ++ count_lines r.reading) (cause.Asked line)

-- a turn by the phase that the run is in: it connects, it runs, or it ends for the order to stop
abbrev pub by_phase : Phase → Machine → List Switch → Known → ℕ → List State → List ReportLine → Reacted
by_phase Connecting m switches r k states lines = connects m r k states lines
by_phase Running m switches r k states lines = runs m switches r k states lines
by_phase (Stopping line) m switches r k states lines =
    unless_late_stale (stale k 0 (listen_all r.askings.items states)) m r k lines line

-- a turn, unless it ends the run for a cause that comes first in every phase
abbrev pub unless_ended : Option Cause → Machine → List Switch → Known → ℕ → List State → List ReportLine → Reacted
unless_ended (Some cause) m switches r k states lines = ends m r k lines cause
unless_ended None m switches r k states lines = by_phase r.phase m switches r k states lines

-- a turn: the note is heard, then the states are taken
abbrev pub reacts_to : Machine → List Switch → Known → ℕ → List State → List NoteNews → Bool → Reacted
reacts_to m switches r k states told out =
    unless_ended (first_cause out r.stopped states) m switches r k states (first_lines m r k told states)

-- a turn of the reactor
abbrev pub reacts : Machine → List Switch → Known → ℕ → List State → Option Note → Reacted
reacts m switches r k states note = reacts_to m switches (noted m note r) k states (news_of note) (is_out note)

-- a reactor: the machine, what it knows, and its next turn
pub record Run : Type 0 where
  pub machine : Machine
  pub switches : List Switch
  pub known : Known
  pub next : ℕ

-- a reactor before its first turn
abbrev pub first_run : Machine → List Switch → Run
first_run m switches = record { machine = m; switches = switches; known = new_known m; next = 0 }

-- the run is to end for a cause; of two the first told holds
abbrev pub first_told : Option Cause → Cause → Option Cause
first_told None cause = Some cause
first_told (Some first) cause = Some first

-- the run is to end for a cause; of two the first told holds
abbrev pub stopped_by : Cause → Known → Known
stopped_by cause r = record r { stopped = first_told r.stopped cause }

-- How many bytes the commands of a control have.
use Rattle.std.proofs.Common.{◌≡◌, ◌≤◌, ℕ, ◌+◌, ◌-◌, Bool, true, false, cond, List, [], ◌∷◌, ◌++◌, length, drop, map, Option, Some, None, refl, ap, arith}
use Rattle.std.specs.Prelude.{◌&&◌, nat_le, nat_lt, if◌then◌else◌}
use Rattle.std.proofs.lemmas.Bool.{leb-true, ltb-true}
use Rattle.plan_types.specs.declared.machine.Machine.{Machine}
use Rattle.plan_types.specs.declared.machine.BoardDef.{BoardDef}
use Rattle.plan_types.specs.declared.cause.Cause.{Cause}
use Rattle.plan_types.specs.declared.cause.Cause.TheVariants as cause
use Rattle.plan_types.specs.declared.plan.ReadStop.{ReadStop}
use Rattle.plan_types.specs.declared.plan.ReadStop.TheVariants as read
use Rattle.plan_types.specs.Lines.{Clocks}
use Rattle.plan_types.specs.Machines.{IsValidMachine, axis_at}
use Rattle.msg_code.specs.declared.cmd.Cmd.{Cmd}
use Rattle.msg_code.specs.declared.cmd.Cmd.TheVariants as cmd
use Rattle.msg_code.specs.declared.unit.Control.{Control}
use Rattle.msg_code.specs.declared.talk.State.{State}
use Rattle.msg_code.specs.declared.talk.Note.{Note}
use Rattle.msg_code.specs.declared.talk.NoteNews.{NoteNews}
use Rattle.msg_code.specs.declared.talk.NoteNews.TheVariants as news
use Rattle.msg_code.specs.Bytes.{command_bytes}
use Rattle.msg_code.proofs.Counts.{count_bounds}
use Rattle.report_text.specs.declared.line.ReportLine.{ReportLine}
use Rattle.wire_scene.specs.declared.scene.Switch.{Switch}
use Rattle.trigger_group.specs.declared.order.End.{End}
use Rattle.trigger_group.specs.declared.order.End.TheVariants as end
use Rattle.board_asking.specs.declared.asking.Asking.{Asking}
use Rattle.board_asking.specs.declared.asking.Stage.{Stage}
use Rattle.board_asking.specs.declared.asking.Stage.TheVariants.{Identify, Uptime, Configure, Config, Connected}
use Rattle.board_asking.specs.declared.setup.Setup.{Setup}
use Rattle.board_asking.specs.Machine.{configuration, fitting, setup_command}
use Rattle.board_asking.specs.Asking.{asks, is_question_due}
use Rattle.board_asking.specs.Connecting.{asking_controls, all_connected, giving_up, listen_all, ready_all}
use Rattle.board_asking.specs.Drift.{bytes_of, asks_now, clock_question, stale, waiting}
use Rattle.axis_homing.specs.declared.homing.Homing.{Homing}
use Rattle.axis_homing.specs.declared.homing.HomingTurn.{HomingTurn}
use Rattle.axis_homing.specs.Homing.{by_answer, answer_in, hears_all, homing_turn}
use Rattle.axis_homing.specs.Rising.{HomingRises, IsRising}
use Rattle.axis_homing.proofs.Room.{fits, bytes-append}
use Rattle.axis_homing.proofs.Rises.{hears-rises, homing-rises, started-rises}
use Rattle.host_reactor.specs.declared.ordered.Known.{Known}
use Rattle.host_reactor.specs.declared.ordered.Phase.{Phase}
use Rattle.host_reactor.specs.declared.ordered.Phase.TheVariants.{Connecting, Running, Stopping}
use Rattle.host_reactor.specs.Notes.{known_behind, told_all, noted, news_of, is_out}
use Rattle.host_reactor.specs.Report.{first_lines, count_lines}
use Rattle.host_reactor.specs.Running.{first_cause, is_finished, stop_of}
use Rattle.host_reactor.specs.Reactor.{Reacted, plain_controls, ends, asks_boards, is_connected_now, homing_commands, stop_command, run_controls, unless_given_up, carries_on, finishes, unless_homing_ends, cut_line, after_homing, unless_stale, unless_late_stale, by_phase, unless_ended, reacts}
use Rattle.host_reactor.specs.Runs.{Came, known_by, last_reacted}
use Rattle.host_reactor.specs.Laws.{FitIn}
use Rattle.plan_types.proofs.Facts.{second_of_both}

-- askings
kept-by : (c : Bool) (room : ℕ) (x : Cmd) (rest : List Setup) (s : Setup) → x ≡ setup_command s → nat_le (command_bytes x) room ≡ c → bytes_of (map setup_command rest) ≤ room - command_bytes x
    → bytes_of (map setup_command (cond c (s ∷ rest) [])) ≤ room
kept-by true room x rest s e f h =
    let l = leb-true (command_bytes x) room f in
    let g : command_bytes x ≡ command_bytes (setup_command s) = ap command_bytes e in
    omega arith
kept-by false room x rest s e f h = omega arith

fitting-fits : (room : ℕ) (ss : List Setup) → bytes_of (map setup_command (fitting room ss)) ≤ room
fitting-fits room [] = omega arith
fitting-fits room (s ∷ ss) =
    kept-by (nat_le (command_bytes (setup_command s)) room) room (setup_command s) (fitting (room - command_bytes (setup_command s)) ss) s refl refl (fitting-fits (room - command_bytes (setup_command s)) ss)

identify-bytes : (offset : ℕ) → command_bytes (cmd.Identify offset 40) ≤ 11
unfolding command_bytes
identify-bytes offset = let a = (count_bounds offset).1 in let b = (count_bounds 40).1 in omega arith

uptime-bytes : command_bytes cmd.GetUptime ≡ 1
unfolding command_bytes
uptime-bytes = refl

config-bytes : command_bytes cmd.GetConfig ≡ 1
unfolding command_bytes
config-bytes = refl

stop-bytes : command_bytes cmd.EmergencyStop ≡ 1
unfolding command_bytes
stop-bytes = refl

where-due : (c : Bool) (x : Cmd) → command_bytes x ≤ 42 → bytes_of (cond c (x ∷ []) []) ≤ 42
where-due true x h = omega arith
where-due false x h = omega arith

none-due : (c : Bool) → bytes_of (cond c [] []) ≤ 42
none-due true = omega arith
none-due false = omega arith

asks-fit : (setups : List Setup) (k : ℕ) (a : Asking) (stage : Stage) → bytes_of (asks setups k a stage) ≤ 42
asks-fit setups k a (Identify offset) = where-due (is_question_due k a.since) (cmd.Identify offset 40) (let h = identify-bytes offset in omega arith)
asks-fit setups k a Uptime = where-due (is_question_due k a.since) cmd.GetUptime (let h = uptime-bytes in omega arith)
asks-fit setups k a (Configure n) = fitting-fits 42 (drop n setups)
asks-fit setups k a Config = where-due (is_question_due k a.since) cmd.GetConfig (let h = config-bytes in omega arith)
asks-fit setups k a Connected = none-due (is_question_due k a.since)

-- controls
more-room : (controls : List Control) → FitIn 42 controls → FitIn 43 controls
more-room [] h = tt
more-room (c ∷ controls) (h, r) = (omega arith, more-room controls r)

plain : (k : ℕ) (connected end : Bool) (boards : List BoardDef) → FitIn 42 (plain_controls k [] connected end boards)
plain k connected end [] = tt
plain k connected end (b ∷ boards) = (omega arith, plain k connected end boards)

asking : (m : Machine) (k b : ℕ) (askings : List Asking) → FitIn 42 (asking_controls m k b askings)
asking m k b [] = tt
asking m k b (a ∷ askings) = (asks-fit (configuration m b) k a a.stage, asking m k (b + 1) askings)

question-by : (c : Bool) (h : List Cmd) (a : Asking) → asks_now h a ≡ c → bytes_of h ≤ 42 → bytes_of h + bytes_of (cond c (cmd.GetUptime ∷ []) []) ≤ 42
question-by true h a e f =
    let l = ltb-true (bytes_of h) 42 (second_of_both a.waits (nat_lt (bytes_of h) 42) e) in
    let o = uptime-bytes in
    omega arith
question-by false h a e f = omega arith

stop-few : (c : Bool) → bytes_of (stop_command c) ≤ (if c then 1 else 0)
stop-few true = let o = stop-bytes in omega arith
stop-few false = omega arith

abbrev limit : Bool → ℕ
limit c = 42 + (if c then 1 else 0)

running : (m : Machine) (k b : ℕ) (turn : HomingTurn) (c : Bool) (clocks : List Clocks) (askings : List Asking) → ((l : Clocks) (i : ℕ) → bytes_of (homing_commands m turn l i) ≤ 42)
    → FitIn (limit c) (run_controls m k b turn (stop_command c) clocks askings)
running m k b turn c clocks [] f = tt
running m k b turn c [] (a ∷ askings) f = running m k b turn c [] askings f
running m k b turn c (l ∷ clocks) (a ∷ askings) f =
    let h = homing_commands m turn l b in
    let q = question-by (asks_now h a) h a refl (f l b) in
    let s = stop-few c in
    let one = bytes-append h (clock_question h a ++ stop_command c) in
    let two = bytes-append (clock_question h a) (stop_command c) in
    (omega arith, running m k (b + 1) turn c clocks askings f)

-- the group's orders
abbrev Few : Machine → HomingTurn → Type 0
Few m turn = (l : Clocks) (i : ℕ) → bytes_of (homing_commands m turn l i) ≤ 42

answer-few : (m : Machine) (k : ℕ) (h : Homing) (o : Option End) → IsValidMachine m → IsRising h.group → Few m (by_answer k h o)
answer-few m k h None v r l i = fits m l i h.start (axis_at m h.axis) h.group k v r
answer-few m k h (Some (end.Endstop tick)) v r l i = omega arith
answer-few m k h (Some end.NoSwitch) v r l i = omega arith
answer-few m k h (Some (end.Expired b t)) v r l i = omega arith

turn-few : (m : Machine) (clocks : List Clocks) (k : ℕ) (states : List State) (o : Option Homing) → IsValidMachine m → HomingRises o → Few m (homing_turn clocks k states o)
turn-few m clocks k states None v r l i = omega arith
turn-few m clocks k states (Some h) v r l i =
    let g = hears_all clocks states h in
    answer-few m k g (answer_in k g.start g.group) v (hears-rises clocks states h r) l i

-- what a turn orders, and that the members of a homing section rise behind it
record Fits (x : Reacted) : Type 0 where
  pub all : FitIn 43 x.ordered.controls
  pub plain : ((line : ℕ) → x.known.phase ≡ Stopping line → ⊥) → FitIn 42 x.ordered.controls
  pub rises : HomingRises x.known.homing

both : (x : Reacted) → FitIn 42 x.ordered.controls → HomingRises x.known.homing → Fits x
both x h r = record { all = more-room x.ordered.controls h; plain = λ n. h; rises = r }

either : (b : Bool) (x y : Reacted) → Fits x → Fits y → Fits (cond b x y)
either true x y h i = h
either false x y h i = i

ended-fits : (m : Machine) (r : Known) (k : ℕ) (lines : List ReportLine) (c : Cause) → HomingRises r.homing → Fits (ends m r k lines c)
ended-fits m r k lines c h = both (ends m r k lines c) (plain k true true m.boards) h

given-up : (o : Option Cause) (m : Machine) (r : Known) (k : ℕ) (lines : List ReportLine) (askings : List Asking) → HomingRises r.homing → Fits (unless_given_up o m r k lines askings)
given-up (Some c) m r k lines askings h = ended-fits m r k lines c h
given-up None m r k lines askings h =
    either (all_connected askings) (is_connected_now m r k lines askings) (asks_boards m r k lines askings)
    (both (is_connected_now m r k lines askings) (plain k false false m.boards) h)
    (both (asks_boards m r k lines askings) (asking m k 0 askings) h)

carried : (stop : Option ℕ) (m : Machine) (r : Known) (k : ℕ) (lines : List ReportLine) (askings : List Asking) (turn : HomingTurn) → Few m turn → HomingRises r.homing → Fits (carries_on m r k lines askings turn stop)
carried None m r k lines askings turn f h = both (carries_on m r k lines askings turn None) (running m k 0 turn false r.clocks (waiting m k 0 askings) f) h
carried (Some line) m r k lines askings turn f h = record {
  all = running m k 0 turn true r.clocks (waiting m k 0 askings) f;
  plain = λ n. absurd (n line refl);
  rises = h;
}

finished : (how : ReadStop) (m : Machine) (r : Known) (k : ℕ) (lines : List ReportLine) (askings : List Asking) (turn : HomingTurn) → Few m turn → HomingRises r.homing → Fits (finishes how m r k lines askings turn)
finished (read.Stop line) m r k lines askings turn f h = carried (Some line) m r k lines askings turn f h
finished read.End m r k lines askings turn f h = ended-fits m r k (lines ++ count_lines r.reading) cause.Done h
finished (read.Refused line kind) m r k lines askings turn f h = ended-fits m r k (lines ++ count_lines r.reading) (cause.Line line kind) h

homing-ends : (o : Option Cause) (m : Machine) (r : Known) (k : ℕ) (states : List State) (lines cut : List ReportLine) (askings : List Asking) (turn : HomingTurn) → Few m turn → HomingRises r.homing
    → Fits (unless_homing_ends o m r k states lines cut askings turn)
homing-ends (Some c) m r k states lines cut askings turn f h = ended-fits m r k lines c h
homing-ends None m r k states lines cut askings turn f h =
    either (is_finished r k states) (finishes (stop_of r.reading) m r k (lines ++ cut) askings turn) (carries_on m r k (lines ++ cut) askings turn None)
    (finished (stop_of r.reading) m r k (lines ++ cut) askings turn f h) (carried None m r k (lines ++ cut) askings turn f h)

stale-ends : (o : Option Cause) (m : Machine) (switches : List Switch) (r : Known) (k : ℕ) (states : List State) (lines : List ReportLine) (askings : List Asking) → IsValidMachine m → HomingRises r.homing
    → Fits (unless_stale o m switches r k states lines askings)
stale-ends (Some c) m switches r k states lines askings v h = ended-fits m r k lines c h
stale-ends None m switches r k states lines askings v h =
    let turn = homing_turn r.clocks k states r.homing in
    homing-ends turn.end m (after_homing r k states) k states lines (cut_line m switches turn.section (axis_at m turn.axis) turn.cut) askings turn
    (turn-few m r.clocks k states r.homing v h) (homing-rises r.clocks k states r.homing h)

late-stale : (o : Option Cause) (m : Machine) (r : Known) (k : ℕ) (lines : List ReportLine) (line : ℕ) → HomingRises r.homing → Fits (unless_late_stale o m r k lines line)
late-stale (Some c) m r k lines line h = ended-fits m r k lines c h
late-stale None m r k lines line h = ended-fits m r k (lines ++ count_lines r.reading) (cause.Asked line) h

phases : (p : Phase) (m : Machine) (switches : List Switch) (r : Known) (k : ℕ) (states : List State) (lines : List ReportLine) → IsValidMachine m → HomingRises r.homing → Fits (by_phase p m switches r k states lines)
phases Connecting m switches r k states lines v h =
    let askings = ready_all m 0 (listen_all r.askings.items states) in
    given-up (giving_up k 0 askings) m r k lines askings h
phases Running m switches r k states lines v h =
    let askings = listen_all r.askings.items states in
    stale-ends (stale k 0 askings) m switches r k states lines askings v h
phases (Stopping line) m switches r k states lines v h = late-stale (stale k 0 (listen_all r.askings.items states)) m r k lines line h

ended : (o : Option Cause) (m : Machine) (switches : List Switch) (r : Known) (k : ℕ) (states : List State) (lines : List ReportLine) → IsValidMachine m → HomingRises r.homing → Fits (unless_ended o m switches r k states lines)
ended (Some c) m switches r k states lines v h = ended-fits m r k lines c h
ended None m switches r k states lines v h = phases r.phase m switches r k states lines v h

told-rises : (m : Machine) (r : Known) (n : NoteNews) → HomingRises r.homing → HomingRises (known_behind m r n).homing
told-rises m r (news.Start section kind turn last moving) h = started-rises m section kind turn last moving
told-rises m r (news.Done section turn) h = h
told-rises m r (news.Read x sections) h = h
told-rises m r (news.Line board line from) h = h

all-rise : (m : Machine) (ns : List NoteNews) (r : Known) → HomingRises r.homing → HomingRises (told_all m ns r).homing
all-rise m [] r h = h
all-rise m (n ∷ ns) r h = all-rise m ns (known_behind m r n) (told-rises m r n h)

pub noted-rises : (m : Machine) (note : Option Note) (r : Known) → HomingRises r.homing → HomingRises (noted m note r).homing
noted-rises m None r h = h
noted-rises m (Some note) r h = all-rise m note.news r h

turn-fits : (m : Machine) (switches : List Switch) (r : Known) (k : ℕ) (states : List State) (note : Option Note) → IsValidMachine m → HomingRises r.homing → Fits (reacts m switches r k states note)
turn-fits m switches r k states note v h =
    let s = noted m note r in
    ended (first_cause (is_out note) s.stopped states) m switches s k states (first_lines m s k (news_of note) states) v (noted-rises m note r h)

pub run-rises : (m : Machine) (switches : List Switch) (came : List Came) → IsValidMachine m → HomingRises (known_by m switches came).homing
run-rises m switches [] v = tt
run-rises m switches (c ∷ before) v = (turn-fits m switches (known_by m switches before) (length before) c.states c.note v (run-rises m switches before v)).rises

pub all-fit : (m : Machine) (switches : List Switch) (c : Came) (before : List Came) → IsValidMachine m → FitIn 43 (last_reacted m switches c before).ordered.controls
all-fit m switches c before v = (turn-fits m switches (known_by m switches before) (length before) c.states c.note v (run-rises m switches before v)).all

pub plain-fit : (m : Machine) (switches : List Switch) (c : Came) (before : List Came) → IsValidMachine m
    → ((line : ℕ) → (last_reacted m switches c before).known.phase ≡ Stopping line → ⊥) → FitIn 42 (last_reacted m switches c before).ordered.controls
plain-fit m switches c before v = (turn-fits m switches (known_by m switches before) (length before) c.states c.note v (run-rises m switches before v)).plain

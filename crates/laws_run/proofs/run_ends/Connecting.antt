-- The boards have their lines in the turn in which connecting ends.
use Rattle.std.proofs.Common.{◌≡◌, ◌⊎◌, ℕ, ◌+◌, Bool, true, false, List, [], ◌∷◌, ◌++◌, length, map, Option, Some, None, refl, ap, sym, ◌∙◌, subst, inl, inr}
use Rattle.laws_board.proofs.Names.{flat_map, flat_map-append, Cause, AxisDef, Machine, Line, Pulse, ReadStop, one_line, axis_at, Note, NoteNews, State, ReportLine, Switch, Asking, all_connected, giving_up, listen_all, ready_all, stale, HomingTurn, homing_turn, Known, Phase, Connecting, Stopping, noted, news_of, is_out, Reacted, by_phase, cut_line, reacts, unless_ended, unless_stale, first_lines, machine_line, first_cause, stop_of, Came, known_by, last_reacted, ReactorTurn, gather}
use Rattle.std.specs.Prelude.{◌==◌, if◌then◌else◌}
use Rattle.plan_types.specs.Sections.{first_start}
use Rattle.plan_types.specs.declared.plan.ReadStop.TheVariants as read
use Rattle.msg_code.specs.declared.talk.NoteNews.TheVariants as news
use Rattle.msg_code.specs.declared.talk.WordNews.TheVariants as word
use Rattle.report_text.specs.declared.line.ReportLine.TheVariants as report
use Rattle.board_asking.specs.Connecting.{board_lines, connected_lines, turn_tick}
use Rattle.host_reactor.specs.declared.ordered.Begun.{Begun}
use Rattle.host_reactor.specs.declared.ordered.Phase.TheVariants.{Running}
use Rattle.host_reactor.specs.declared.ordered.Reading.{Reading}
use Rattle.host_reactor.specs.Reactor.{after_homing, asks_boards, carries_on, finishes, is_connected_now, phase_after, unless_given_up, unless_homing_ends, unless_late_stale}
use Rattle.host_reactor.specs.Report.{count_lines, drift_line, drift_lines, stepper_place, pulse_at, pulse_line, pulse_lines, section_line}
use Rattle.host_reactor.specs.Running.{is_finished}
use Rattle.laws_board.proofs.clocks.Lines.{noted_phase}
use Rattle.laws_board.proofs.clocks.Turning.{goes}
use Rattle.session_run.specs.Boards.{AreReactorTurns, came_from, came_in}
use Rattle.laws_run.specs.run_ends.Boards.{board_in, boards_of, lines_at}
use Rattle.host_reactor.proofs.Connects.{stop-phase}

pub boards_append : (xs ys : List ReportLine) → boards_of (xs ++ ys) ≡ boards_of xs ++ boards_of ys
boards_append xs ys = flat_map-append board_in xs ys

pub both_none : (xs ys : List ReportLine) → boards_of xs ≡ [] → boards_of ys ≡ [] → boards_of (xs ++ ys) ≡ []
both_none xs ys a b = boards_append xs ys ∙ ap (λ z. z ++ boards_of ys) a ∙ b

-- the lines that stand in a turn whatever the phase tell no board
machine_none : (b : Bool) (m : Machine) → boards_of (if b then report.Machine m.corexy (length m.boards) (length m.steppers) ∷ [] else []) ≡ []
machine_none true m = refl
machine_none false m = refl

begun_none : (b : Bool) (s : Begun) → boards_of (if b then report.Section s.section s.turn s.kind ∷ [] else []) ≡ []
begun_none true s = refl
begun_none false s = refl

section_none : (k : ℕ) (o : Option Begun) → boards_of (section_line k o) ≡ []
section_none k None = refl
section_none k (Some s) = begun_none (s.turn == k) s

one_drift : (n : NoteNews) → boards_of (drift_line n) ≡ []
one_drift (news.Start section kind turn last moving) = refl
one_drift c = refl

drift_none : (ns : List NoteNews) → boards_of (drift_lines ns) ≡ []
drift_none [] = refl
drift_none (n ∷ ns) = both_none (drift_line n) (drift_lines ns) (one_drift n) (drift_none ns)

one_pulse : (m : Machine) (b : ℕ) (p : Pulse) (o : Option ℕ) → boards_of (pulse_at m b p o) ≡ []
one_pulse m b p None = refl
one_pulse m b p (Some place) = refl

pulses_none : (m : Machine) (b : ℕ) (ps : List Pulse) → boards_of (flat_map (pulse_line m b) ps) ≡ []
pulses_none m b [] = refl
pulses_none m b (p ∷ ps) = both_none (pulse_line m b p) (flat_map (pulse_line m b) ps) (one_pulse m b p (stepper_place 0 b p.stepper m.steppers)) (pulses_none m b ps)

states_none : (m : Machine) (b : ℕ) (states : List State) → boards_of (pulse_lines m b states) ≡ []
states_none m b [] = refl
states_none m b (s ∷ states) = both_none (flat_map (pulse_line m b) s.pulses) (pulse_lines m (b + 1) states) (pulses_none m b s.pulses) (states_none m (b + 1) states)

first_none : (m : Machine) (r : Known) (k : ℕ) (ns : List NoteNews) (states : List State) → boards_of (first_lines m r k ns states) ≡ []
first_none m r k ns states =
    both_none (machine_line m k) (section_line k r.begun ++ (drift_lines ns ++ pulse_lines m 0 states)) (machine_none (k == 0) m)
    (both_none (section_line k r.begun) (drift_lines ns ++ pulse_lines m 0 states) (section_none k r.begun) (both_none (drift_lines ns) (pulse_lines m 0 states) (drift_none ns) (states_none m 0 states)))

-- a turn tells no board, or connecting ends in it
pub record Connects (r : Known) (k : ℕ) (x : Reacted) : Type 0 where
  pub lines : List Line
  pub boards : boards_of x.ordered.lines ≡ connected_lines k 0 lines
  pub news : x.ordered.word.news ≡ word.Lines lines ∷ []
  pub before : r.phase ≡ Connecting
  pub after : x.known.phase ≡ Running
  pub on : x.ordered.end ≡ None

-- no board is told, and a turn that goes on is still connecting where it was
abbrev pub Quiet : Known → Reacted → Type 0
Quiet r x = (boards_of x.ordered.lines ≡ []) × (x.ordered.end ≡ None → r.phase ≡ Connecting → x.known.phase ≡ Connecting)

abbrev pub Tells : Known → ℕ → Reacted → Type 0
Tells r k x = Quiet r x ⊎ Connects r k x

count_none : (o : Option Reading) → boards_of (count_lines o) ≡ []
count_none None = refl
count_none (Some r) = refl

cut_none : (m : Machine) (switches : List Switch) (section : ℕ) (axis : AxisDef) (o : Option ℕ) → boards_of (cut_line m switches section axis o) ≡ []
cut_none m switches section axis None = refl
cut_none m switches section axis (Some tick) = refl

own_boards : (k b : ℕ) (ls : List Line) → boards_of (connected_lines k b ls) ≡ connected_lines k b ls
own_boards k b [] = refl
own_boards k b (l ∷ ls) = ap (λ z. report.Board b l.freq (first_start k) (turn_tick l (first_start k)) ∷ z) (own_boards k (b + 1) ls)

connecting : (o : Option Cause) (b : Bool) (m : Machine) (r : Known) (k : ℕ) (lines : List ReportLine) (askings : List Asking) → all_connected askings ≡ b → r.phase ≡ Connecting → boards_of lines ≡ [] → Tells r k (unless_given_up o m r k lines askings)
connecting (Some c) b m r k lines askings e p n = inl (n, λ on. absurd (let f : Some c ≡ None = on in cc))
connecting None true m r k lines askings e p n =
    let ls = board_lines m 0 askings in
    let At : Bool → Type 0 = λ t. Tells r k (if t then is_connected_now m r k lines askings else asks_boards m r k lines askings) in
    subst At (sym e) (inr (record {
      lines = ls;
      boards = boards_append lines (connected_lines k 0 ls) ∙ ap (λ z. z ++ boards_of (connected_lines k 0 ls)) n ∙ own_boards k 0 ls;
      news = refl;
      before = p;
      after = refl;
      on = refl;
    }))
connecting None false m r k lines askings e p n =
    let At : Bool → Type 0 = λ t. Tells r k (if t then is_connected_now m r k lines askings else asks_boards m r k lines askings) in
    subst At (sym e) (inl (n, λ on q. q))

abbrev None_in : Reacted → Type 0
None_in x = boards_of x.ordered.lines ≡ []

finishing : (s : ReadStop) (m : Machine) (q : Known) (k : ℕ) (lines : List ReportLine) (askings : List Asking) (turn : HomingTurn) → boards_of lines ≡ [] → None_in (finishes s m q k lines askings turn)
finishing (read.Stop line) m q k lines askings turn n = n
finishing c m q k lines askings turn n = both_none lines (count_lines q.reading) n (count_none q.reading)

either : (b : Bool) (x y : Reacted) → None_in x → None_in y → None_in (if b then x else y)
either true x y a b = a
either false x y a b = b

homing : (o : Option Cause) (m : Machine) (q : Known) (k : ℕ) (states : List State) (lines cut : List ReportLine) (askings : List Asking) (turn : HomingTurn) → boards_of lines ≡ [] → boards_of cut ≡ []
    → None_in (unless_homing_ends o m q k states lines cut askings turn)
homing (Some c) m q k states lines cut askings turn n d = n
homing None m q k states lines cut askings turn n d =
    let all = both_none lines cut n d in
    either (is_finished q k states) (finishes (stop_of q.reading) m q k (lines ++ cut) askings turn) (carries_on m q k (lines ++ cut) askings turn None) (finishing (stop_of q.reading) m q k (lines ++ cut) askings turn all) all

running : (o : Option Cause) (m : Machine) (switches : List Switch) (r : Known) (k : ℕ) (states : List State) (lines : List ReportLine) (askings : List Asking) → boards_of lines ≡ [] → None_in (unless_stale o m switches r k states lines askings)
running (Some c) m switches r k states lines askings n = n
running None m switches r k states lines askings n =
    let turn = homing_turn r.clocks k states r.homing in
    homing turn.end m (after_homing r k states) k states lines (cut_line m switches turn.section (axis_at m turn.axis) turn.cut) askings turn n (cut_none m switches turn.section (axis_at m turn.axis) turn.cut)

stopping : (o : Option Cause) (m : Machine) (r : Known) (k : ℕ) (lines : List ReportLine) (line : ℕ) → boards_of lines ≡ [] → None_in (unless_late_stale o m r k lines line)
stopping (Some c) m r k lines line n = n
stopping None m r k lines line n = both_none lines (count_lines r.reading) n (count_none r.reading)

phases : (p : Phase) (m : Machine) (switches : List Switch) (r : Known) (k : ℕ) (states : List State) (lines : List ReportLine) → r.phase ≡ p → boards_of lines ≡ [] → Tells r k (by_phase p m switches r k states lines)
phases Connecting m switches r k states lines p n =
    let askings = ready_all m 0 (listen_all r.askings.items states) in
    connecting (giving_up k 0 askings) (all_connected askings) m r k lines askings refl p n
phases Running m switches r k states lines p n =
    let askings = listen_all r.askings.items states in
    inl (running (stale k 0 askings) m switches r k states lines askings n, λ on q. absurd (let f : Running ≡ Connecting = sym p ∙ q in cc))
phases (Stopping line) m switches r k states lines p n =
    inl (stopping (stale k 0 (listen_all r.askings.items states)) m r k lines line n, λ on q. absurd (let f : Stopping line ≡ Connecting = sym p ∙ q in cc))

unless : (o : Option Cause) (m : Machine) (switches : List Switch) (r : Known) (k : ℕ) (states : List State) (lines : List ReportLine) → boards_of lines ≡ [] → Tells r k (unless_ended o m switches r k states lines)
unless (Some c) m switches r k states lines n = inl (n, λ on. absurd (let f : Some c ≡ None = on in cc))
unless None m switches r k states lines n = phases r.phase m switches r k states lines refl n

pub tells_boards : (m : Machine) (switches : List Switch) (r : Known) (k : ℕ) (states : List State) (note : Option Note) → Tells (noted m note r) k (reacts m switches r k states note)
tells_boards m switches r k states note =
    let s = noted m note r in
    unless (first_cause (is_out note) s.stopped states) m switches s k states (first_lines m s k (news_of note) states) (first_none m s k (news_of note) states)

-- a turn that ends a run tells none
pub end_none : (m : Machine) (switches : List Switch) (r : Known) (k : ℕ) (states : List State) (note : Option Note) (c : Cause) → (reacts m switches r k states note).ordered.end ≡ Some c → boards_of (reacts m switches r k states note).ordered.lines ≡ []
end_none m switches r k states note c e = elim (tells_boards m switches r k states note) [ inl n ↦ n.0 | inr x ↦ absurd (let f : Some c ≡ None = sym e ∙ x.on in cc) ]

pub was_connecting : (m : Machine) (switches : List Switch) (c : Came) (before : List Came) → (last_reacted m switches c before).ordered.end ≡ None → (known_by m switches (c ∷ before)).phase ≡ Connecting → (known_by m switches before).phase ≡ Connecting
was_connecting m switches c before on e =
    let r = known_by m switches before in
    elim (goes m switches r (length before) c.states c.note on) [
      | inl a ↦ sym (noted_phase m c.note r) ∙ a.phase
      | inr a ↦ elim a [ inl x ↦ sym (noted_phase m c.note r) ∙ x.phase | inr x ↦ absurd (stop-phase x.stop (sym (ap (λ (y : Reacted). y.known.phase) x.is) ∙ e)) ]
    ]

-- turns up to one that is still connecting
pub before_boards : (m : Machine) (switches : List Switch) (before : List Came) (ts : List ReactorTurn) → AreReactorTurns m switches before ts → (known_by m switches (came_from before ts)).phase ≡ Connecting
    → ((known_by m switches before).phase ≡ Connecting) × (boards_of (gather (λ t. t.lines) ts) ≡ [])
before_boards m switches before [] h e = (e, refl)
before_boards m switches before (t ∷ ts) h e =
    let rest = before_boards m switches (came_in t ∷ before) ts h.1 e in
    let r = known_by m switches before in
    let own : boards_of t.lines ≡ [] = elim (tells_boards m switches r (length before) t.states t.note) [
      | inl n ↦ ap boards_of h.0.lines_are ∙ n.0
      | inr x ↦ absurd (let f : Running ≡ Connecting = sym x.after ∙ rest.0 in cc)
    ] in
    (was_connecting m switches (came_in t) before h.0.goes_on rest.0, both_none t.lines (gather (λ (x : ReactorTurn). x.lines) ts) own rest.1)

-- and behind the turn in which connecting ended
pub after_boards : (m : Machine) (switches : List Switch) (before : List Came) (ts : List ReactorTurn) → AreReactorTurns m switches before ts → ((known_by m switches before).phase ≡ Connecting → ⊥) → boards_of (gather (λ t. t.lines) ts) ≡ []
after_boards m switches before [] h not = refl
after_boards m switches before (t ∷ ts) h not =
    let r = known_by m switches before in
    let own : boards_of t.lines ≡ [] = elim (tells_boards m switches r (length before) t.states t.note) [
      | inl n ↦ ap boards_of h.0.lines_are ∙ n.0
      | inr x ↦ absurd (not (sym (noted_phase m t.note r) ∙ x.before))
    ] in
    both_none t.lines (gather (λ (x : ReactorTurn). x.lines) ts) own (after_boards m switches (came_in t ∷ before) ts h.1 (λ e. not (was_connecting m switches (came_in t) before h.0.goes_on e)))

-- the lines of the boards, by their clock lines
pub as_clocks : (k b : ℕ) (ls : List Line) → connected_lines k b ls ≡ lines_at (first_start k) b (map one_line ls)
as_clocks k b [] = refl
as_clocks k b (l ∷ ls) = ap (λ z. report.Board b l.freq (first_start k) (turn_tick l (first_start k)) ∷ z) (as_clocks k (b + 1) ls)

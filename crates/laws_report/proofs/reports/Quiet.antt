-- Where no note tells a further clock line, no line of the reactor does.
use Rattle.std.specs.Prelude.{if◌then◌else◌}
use Rattle.std.proofs.Common.{◌≡◌, ℕ, ◌+◌, Bool, true, false, List, [], ◌∷◌, ◌++◌, length, subst, ap, sym, Option, Some, None, rules}
use Rattle.laws_board.proofs.Names.{Cause, Machine, Line, ReadStop, axis_at, ReportLine, Note, NoteNews, State, WordMsg, HomingTurn, homing_turn, Asking, all_connected, giving_up, listen_all, ready_all, stale, Known, Phase, Connecting, Stopping, is_out, news_of, noted, Reacted, by_phase, cut_line, reacts, unless_ended, unless_stale, first_lines, machine_line, first_cause, stop_of, Came, known_by, MotionTurn, ReactorTurn, gather, Switch}
use Rattle.plan_types.specs.declared.plan.ReadStop.TheVariants as read
use Rattle.msg_code.specs.declared.talk.NoteNews.TheVariants as news
use Rattle.board_asking.specs.Connecting.{board_lines, connected_lines}
use Rattle.host_reactor.specs.declared.ordered.Phase.TheVariants.{Running}
use Rattle.host_reactor.specs.Reactor.{after_homing, asks_boards, carries_on, finishes, is_connected_now, unless_given_up, unless_homing_ends, unless_late_stale}
use Rattle.host_reactor.specs.Report.{count_lines, drift_lines, pulse_lines, section_line}
use Rattle.host_reactor.specs.Running.{is_finished}
use Rattle.session_work.specs.Rows.{option_items}
use Rattle.session_run.specs.Boards.{AreReactorTurns, came_in}
use Rattle.laws_board.specs.plans.Planned.{AreBare, Plans}
use Rattle.laws_run.proofs.run_headline.Further.{EachTold, told_more}
use Rattle.laws_run.proofs.run_headline.Noting.{AllNoted, IsOf}
use Rattle.laws_run.proofs.run_headline.Drifts.{NoneDrifts, boards_none, count_none, cut_none, drifts_both, machine_none, pulses_none, section_none}

-- some news tell no further clock line
abbrev pub TellNone : List NoteNews → Type 0
TellNone ns = EachTold (λ board line from. ⊥) ns

-- some notes tell none
abbrev pub AreQuiet : List Note → Type 0
AreQuiet [] = Unit {0}
AreQuiet (n ∷ ns) = TellNone n.news × AreQuiet ns

quiet_parts : (xs ys : List Note) → AreQuiet (xs ++ ys) → AreQuiet xs × AreQuiet ys
quiet_parts [] ys a = (tt, a)
quiet_parts (x ∷ xs) ys a = let r = quiet_parts xs ys a.1 in ((a.0, r.0), r.1)

pub made_quiet : (words : List WordMsg) (k : ℕ) (made : List MotionTurn) → ((turn board : ℕ) (line : Line) (from : ℕ) → IsOf words turn board line from → ⊥) → AllNoted words k made → AreQuiet (gather (λ t. t.note ∷ []) made)
made_quiet words k [] never all = tt
made_quiet words k (t ∷ made) never all = (told_more (IsOf words k) (λ board line from. ⊥) t.note.news (never k) all.0, made_quiet words (k + 1) made never all.1)

bare_quiet : (n k : ℕ) (ts : List MotionTurn) → AreBare n k ts → AreQuiet (gather (λ t. t.note ∷ []) ts)
bare_quiet n k [] h = tt
bare_quiet n k (t ∷ ts) h = (subst TellNone (sym (ap (λ (x : Note). x.news) h.0.3)) tt, bare_quiet n (k + 1) ts h.1)

notes_both : (xs ys : List MotionTurn) → AreQuiet (gather (λ t. t.note ∷ []) xs) → AreQuiet (gather (λ t. t.note ∷ []) ys) → AreQuiet (gather (λ t. t.note ∷ []) (xs ++ ys))
notes_both [] ys a b = b
notes_both (x ∷ xs) ys a b = (a.0, notes_both xs ys a.1 b)

pub plans_quiet : (m : Machine) (n : ℕ) (ts : List MotionTurn) (p : Plans m n ts) → AreQuiet (gather (λ t. t.note ∷ []) p.made) → AreQuiet (gather (λ t. t.note ∷ []) ts)
plans_quiet m n ts p quiet = search (rules, gather, notes_both, bare_quiet)

drift_none : (ns : List NoteNews) → TellNone ns → NoneDrifts (drift_lines ns)
drift_none [] h = tt
drift_none (news.Start section kind turn last moving ∷ ns) h = drift_none ns h
drift_none (news.Done section turn ∷ ns) h = drift_none ns h
drift_none (news.Read end sections ∷ ns) h = drift_none ns h
drift_none (news.Line board line from ∷ ns) h = absurd h.0

first_none : (m : Machine) (r : Known) (k : ℕ) (told : List NoteNews) (states : List State) → TellNone told → NoneDrifts (first_lines m r k told states)
first_none m r k told states h =
    drifts_both (machine_line m k) (section_line k r.begun ++ (drift_lines told ++ pulse_lines m 0 states)) (machine_none m k)
    (drifts_both (section_line k r.begun) (drift_lines told ++ pulse_lines m 0 states) (section_none k r.begun) (drifts_both (drift_lines told) (pulse_lines m 0 states) (drift_none told h) (pulses_none m 0 states)))

abbrev Plain : Reacted → Type 0
Plain x = NoneDrifts x.ordered.lines

either : (b : Bool) (x y : Reacted) → Plain x → Plain y → Plain (if b then x else y)
either true x y a b = a
either false x y a b = b

connecting : (o : Option Cause) (m : Machine) (r : Known) (k : ℕ) (lines : List ReportLine) (askings : List Asking) → NoneDrifts lines → Plain (unless_given_up o m r k lines askings)
connecting o m r k lines askings p6 = search (rules, either, all_connected, drifts_both, boards_none)

finishing : (s : ReadStop) (m : Machine) (r : Known) (k : ℕ) (lines : List ReportLine) (askings : List Asking) (turn : HomingTurn) → NoneDrifts lines → Plain (finishes s m r k lines askings turn)
finishing (read.Stop line) m r k lines askings turn none = none
finishing c m r k lines askings turn none = drifts_both lines (count_lines r.reading) none (count_none r.reading)

homing : (o : Option Cause) (m : Machine) (r : Known) (k : ℕ) (states : List State) (lines cut : List ReportLine) (askings : List Asking) (turn : HomingTurn) → NoneDrifts lines → NoneDrifts cut → Plain (unless_homing_ends o m r k states lines cut askings turn)
homing o m r k states lines cut askings turn p9 p10 = search (rules, drifts_both, either, stop_of, finishing)

running : (o : Option Cause) (m : Machine) (switches : List Switch) (r : Known) (k : ℕ) (states : List State) (lines : List ReportLine) (askings : List Asking) → NoneDrifts lines → Plain (unless_stale o m switches r k states lines askings)
running o m switches r k states lines askings p8 = search (rules, homing_turn, homing, cut_line, axis_at, cut_none)

stopping : (o : Option Cause) (m : Machine) (r : Known) (k : ℕ) (lines : List ReportLine) (line : ℕ) → NoneDrifts lines → Plain (unless_late_stale o m r k lines line)
stopping (Some cause) m r k lines line none = none
stopping None m r k lines line none = drifts_both lines (count_lines r.reading) none (count_none r.reading)

phases : (p : Phase) (m : Machine) (switches : List Switch) (r : Known) (k : ℕ) (states : List State) (lines : List ReportLine) → NoneDrifts lines → Plain (by_phase p m switches r k states lines)
phases p m switches r k states lines p7 = search (rules, ready_all, listen_all, connecting, giving_up, running, stale, stopping)

unless : (o : Option Cause) (m : Machine) (switches : List Switch) (r : Known) (k : ℕ) (states : List State) (lines : List ReportLine) → NoneDrifts lines → Plain (unless_ended o m switches r k states lines)
unless (Some cause) m switches r k states lines none = none
unless None m switches r k states lines none = phases r.phase m switches r k states lines none

reacts_plain : (m : Machine) (switches : List Switch) (r : Known) (k : ℕ) (states : List State) (note : Option Note) → TellNone (news_of note) → NoneDrifts (reacts m switches r k states note).ordered.lines
reacts_plain m switches r k states note h =
    let s = noted m note r in
    unless (first_cause (is_out note) s.stopped states) m switches s k states (first_lines m s k (news_of note) states) (first_none m s k (news_of note) states h)

-- the note of a turn
note_told : (o : Option Note) → AreQuiet (option_items o) → TellNone (news_of o)
note_told None h = tt
note_told (Some n) h = h.0

-- all turns of a run
turns_plain : (m : Machine) (switches : List Switch) (before : List Came) (rs : List ReactorTurn) (end : ReactorTurn) (known : Known) (k : ℕ) → AreReactorTurns m switches before rs
    → end.lines ≡ (reacts m switches known k end.states end.note).ordered.lines → AreQuiet (gather (λ t. option_items t.note) (rs ++ end ∷ [])) → NoneDrifts (gather (λ t. t.lines) (rs ++ end ∷ []))
turns_plain m switches before [] end known k turns last quiet =
    let own = quiet_parts (option_items end.note) [] quiet in
    drifts_both end.lines [] (subst NoneDrifts (sym last) (reacts_plain m switches known k end.states end.note (note_told end.note own.0))) tt
turns_plain m switches before (t ∷ rs) end known k turns last quiet =
    let parts = quiet_parts (option_items t.note) (gather (λ (x : ReactorTurn). option_items x.note) (rs ++ end ∷ [])) quiet in
    drifts_both t.lines (gather (λ (x : ReactorTurn). x.lines) (rs ++ end ∷ [])) (subst NoneDrifts (sym turns.0.lines_are) (reacts_plain m switches (known_by m switches before) (length before) t.states t.note (note_told t.note parts.0)))
    (turns_plain m switches (came_in t ∷ before) rs end known k turns.1 last parts.1)

pub runs_plain : (m : Machine) (switches : List Switch) (ts : List MotionTurn) (rs : List ReactorTurn) (end : ReactorTurn) (known : Known) (k : ℕ) (left : List Note) → AreQuiet (gather (λ x. x.note ∷ []) ts) → AreReactorTurns m switches [] rs
    → end.lines ≡ (reacts m switches known k end.states end.note).ordered.lines → gather (λ x. x.note ∷ []) ts ≡ gather (λ t. option_items t.note) (rs ++ end ∷ []) ++ left → NoneDrifts (gather (λ t. t.lines) (rs ++ end ∷ []))
runs_plain m switches ts rs end known k left quiet turns last notes =
    turns_plain m switches [] rs end known k turns last (quiet_parts (gather (λ (t : ReactorTurn). option_items t.note) (rs ++ end ∷ [])) left (subst AreQuiet notes quiet)).0

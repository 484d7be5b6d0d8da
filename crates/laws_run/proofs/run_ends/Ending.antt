-- For what a turn of the reactor ends a run.
use Rattle.std.proofs.Common.{◌≡◌, ℕ, ◌+◌, Bool, true, false, cond, List, [], ◌∷◌, ◌++◌, Option, Some, None, refl, ap, sym, ◌∙◌, subst, arith, inl, inr, ◌⊎◌, rules}
use Rattle.laws_board.proofs.Names.{leb_tells, Cause, Machine, ReadStop, Clocks, axis_at, Note, NoteNews, ShutNews, State, ReportLine, Switch, End, Asking, all_connected, giving_up, listen_all, ready_all, stale, Homing, HomingTurn, answer_in, by_answer, hears_all, homing_turn, Known, Phase, Connecting, Stopping, noted, news_of, is_out, known_behind, told_all, IsOwn, by_phase, cut_line, reacts, unless_ended, unless_stale, first_lines, stop_of, both_parts}
use Rattle.std.specs.Prelude.{◌-◌, ◌&&◌, ◌||◌, ◌==◌, nat_lt}
use Rattle.plan_types.specs.declared.cause.Cause.TheVariants as cause
use Rattle.plan_types.specs.declared.plan.ReadStop.TheVariants as read
use Rattle.msg_code.specs.declared.talk.NoteNews.TheVariants as news
use Rattle.trigger_group.specs.declared.order.End.TheVariants as end
use Rattle.board_asking.specs.Asking.{gives_up}
use Rattle.board_asking.specs.Drift as drift
use Rattle.host_reactor.specs.declared.ordered.Phase.TheVariants.{Running}
use Rattle.host_reactor.specs.Reactor.{after_homing, asks_boards, carries_on, finishes, is_connected_now, unless_given_up, unless_homing_ends, unless_late_stale}
use Rattle.host_reactor.specs.Running.{all_ended, all_idle, any_out, is_finished, late, late_of, or_cause, text_end}
use Rattle.laws_run.specs.run_ends.Ends.{EndsSo, GoesThrough, IsThrough, WentThrough}
use Rattle.host_reactor.proofs.Blames.{told-stays, all-stay, note-stays}

-- a cause is one of its kind
abbrev pub IsLate : Cause → Type 0
IsLate (cause.Late board first arrival spoiled spill) = Unit {0}
IsLate _ = ⊥

abbrev pub IsConnect : Cause → Type 0
IsConnect (cause.Connect board turn) = Unit {0}
IsConnect _ = ⊥

abbrev pub IsStale : Cause → Type 0
IsStale (cause.Stale board turn) = Unit {0}
IsStale _ = ⊥

abbrev pub IsHoming : Cause → Type 0
IsHoming (cause.NoSwitch section) = Unit {0}
IsHoming (cause.Expired board turn) = Unit {0}
IsHoming _ = ⊥

abbrev pub If : (Cause → Type 0) → Option Cause → Type 0
If p None = Unit {0}
If p (Some c) = p c

if_cond : (p : Cause → Type 0) (b : Bool) (x y : Option Cause) → If p x → If p y → If p (cond b x y)
if_cond p true x y h i = h
if_cond p false x y h i = i

if_or : (p : Cause → Type 0) (x y : Option Cause) → If p x → If p y → If p (or_cause x y)
if_or p None y h i = i
if_or p (Some c) y h i = h

late_one : (b : ℕ) (s : Option ShutNews) → If IsLate (late_of b s)
late_one b None = tt
late_one b (Some s) = if_cond IsLate (s.reason == 1) (Some (cause.Late b s.first s.tick s.spoiled s.spill)) None tt tt

pub late_is : (b : ℕ) (states : List State) → If IsLate (late b states)
late_is b [] = tt
late_is b (s ∷ states) = if_or IsLate (late_of b s.shut) (late (b + 1) states) (late_one b s.shut) (late_is (b + 1) states)

pub connect_is : (k b : ℕ) (askings : List Asking) → If IsConnect (giving_up k b askings)
connect_is k b [] = tt
connect_is k b (a ∷ askings) = if_cond IsConnect (gives_up k a) (Some (cause.Connect b a.first)) (giving_up k (b + 1) askings) tt (connect_is k (b + 1) askings)

pub stale_is : (k b : ℕ) (askings : List Asking) → If IsStale (stale k b askings)
stale_is k b [] = tt
stale_is k b (a ∷ askings) = if_cond IsStale (drift.gives_up k a) (Some (cause.Stale b a.first)) (stale k (b + 1) askings) tt (stale_is k (b + 1) askings)

answer_is : (k : ℕ) (h : Homing) (e : Option End) → If IsHoming (by_answer k h e).end
answer_is k h None = tt
answer_is k h (Some (end.Endstop tick)) = tt
answer_is k h (Some end.NoSwitch) = tt
answer_is k h (Some (end.Expired b turn)) = tt

pub homing_is : (clocks : List Clocks) (k : ℕ) (states : List State) (h : Option Homing) → If IsHoming (homing_turn clocks k states h).end
homing_is clocks k states None = tt
homing_is clocks k states (Some h) = let g = hears_all clocks states h in answer_is k g (answer_in k g.start g.group)

pub of_some : (p : Cause → Type 0) (o : Option Cause) (c : Cause) → o ≡ Some c → If p o → p c
of_some p o c e h = subst (If p) e h

-- what each cause needs
late_ends : (m : Machine) (r : Known) (k : ℕ) (states : List State) (c : Cause) → IsLate c → late 0 states ≡ Some c → EndsSo m r k states c
late_ends m r k states (cause.Late board first arrival spoiled spill) i e = e
late_ends m r k states c i e = absurd i

connect_ends : (m : Machine) (r : Known) (k : ℕ) (states : List State) (c : Cause) → IsConnect c → r.phase ≡ Connecting → giving_up k 0 (ready_all m 0 (listen_all r.askings.items states)) ≡ Some c → EndsSo m r k states c
connect_ends m r k states (cause.Connect board turn) i p e = (p, e)
connect_ends m r k states c i p e = absurd i

stale_ends : (m : Machine) (r : Known) (k : ℕ) (states : List State) (c : Cause) → IsStale c → (r.phase ≡ Connecting → ⊥) → stale k 0 (listen_all r.askings.items states) ≡ Some c → EndsSo m r k states c
stale_ends m r k states (cause.Stale board turn) i p e = (p, e)
stale_ends m r k states c i p e = absurd i

homing_ends : (m : Machine) (r : Known) (k : ℕ) (states : List State) (c : Cause) → IsHoming c → r.phase ≡ Running → (homing_turn r.clocks k states r.homing).end ≡ Some c → EndsSo m r k states c
homing_ends m r k states (cause.NoSwitch section) i p e = (p, e)
homing_ends m r k states (cause.Expired board turn) i p e = (p, e)
homing_ends m r k states c i p e = absurd i

pub same_cause : (d c : Cause) → Some d ≡ Some c → d ≡ c
same_cause d c e = cc

pub none_some : (c : Cause) → None ≡ Some c → ⊥
none_some c e = cc

-- connecting
given_so : (o : Option Cause) (m : Machine) (r : Known) (k : ℕ) (states : List State) (lines : List ReportLine) (askings : List Asking) (c : Cause) → o ≡ giving_up k 0 (ready_all m 0 (listen_all r.askings.items states)) → r.phase ≡ Connecting
    → (unless_given_up o m r k lines askings).ordered.end ≡ Some c → EndsSo m r k states c
given_so o m r k states lines askings c p8 p9 p10 = search (rules, all_connected, none_some, giving_up, ready_all, listen_all, connect_ends, of_some, connect_is)

through : (r : Known) (k : ℕ) (states : List State) → is_finished r k states ≡ true → IsThrough r k states
through r k states e = search (rules, both_parts, nat_lt, leb_tells)

-- the text's end
finished_so : (s : ReadStop) (m : Machine) (r q : Known) (k : ℕ) (states : List State) (lines : List ReportLine) (askings : List Asking) (turn : HomingTurn) (c : Cause) → stop_of r.reading ≡ s → r.phase ≡ Running → IsThrough r k states
    → late 0 states ≡ None → (finishes s m q k lines askings turn).ordered.end ≡ Some c → EndsSo m r k states c
finished_so s m r q k states lines askings turn c p10 p11 p12 p13 p14 = search (rules, none_some, through, same_cause)

-- homing
homed_so : (o : Option Cause) (b : Bool) (m : Machine) (switches : List Switch) (r : Known) (k : ℕ) (states : List State) (lines cut : List ReportLine) (askings : List Asking) (turn : HomingTurn) (c : Cause) → o ≡ (homing_turn r.clocks k states r.homing).end
    → r.phase ≡ Running → late 0 states ≡ None → is_finished (after_homing r k states) k states ≡ b → (unless_homing_ends o m (after_homing r k states) k states lines cut askings turn).ordered.end ≡ Some c → EndsSo m r k states c
homed_so o b m switches r k states lines cut askings turn c p12 p13 p14 p15 p16 = search (rules, homing_turn, homing_ends, of_some, homing_is, stop_of, through, finished_so, none_some)

-- a running turn
stale_so : (o : Option Cause) (m : Machine) (switches : List Switch) (r : Known) (k : ℕ) (states : List State) (lines : List ReportLine) (askings : List Asking) (c : Cause) → o ≡ stale k 0 (listen_all r.askings.items states) → r.phase ≡ Running
    → late 0 states ≡ None → (unless_stale o m switches r k states lines askings).ordered.end ≡ Some c → EndsSo m r k states c
stale_so o m switches r k states lines askings c p9 p10 p11 p12 = search (rules, stale, listen_all, stale_ends, of_some, stale_is, homing_turn, homed_so, cut_line, axis_at)

-- the turn behind the order to stop
late_so : (o : Option Cause) (m : Machine) (r : Known) (k : ℕ) (states : List State) (lines : List ReportLine) (line : ℕ) (c : Cause) → o ≡ stale k 0 (listen_all r.askings.items states) → r.phase ≡ Stopping line → late 0 states ≡ None
    → (unless_late_stale o m r k lines line).ordered.end ≡ Some c → EndsSo m r k states c
late_so o m r k states lines line c p8 p9 p10 p11 = search (rules, stale, listen_all, stale_ends, of_some, stale_is, same_cause)

phase_so : (p : Phase) (m : Machine) (switches : List Switch) (r : Known) (k : ℕ) (states : List State) (lines : List ReportLine) (c : Cause) → r.phase ≡ p → late 0 states ≡ None
    → (by_phase p m switches r k states lines).ordered.end ≡ Some c → EndsSo m r k states c
phase_so p m switches r k states lines c p8 p9 p10 = search (rules, ready_all, listen_all, given_so, giving_up, stale_so, stale, late_so)

first_so : (b : Bool) (stopped l : Option Cause) (m : Machine) (switches : List Switch) (r : Known) (k : ℕ) (states : List State) (lines : List ReportLine) (c : Cause) → stopped ≡ None → late 0 states ≡ l → (c ≡ cause.Memory → ⊥)
    → (unless_ended (cond b (Some cause.Memory) (or_cause stopped l)) m switches r k states lines).ordered.end ≡ Some c → EndsSo m r k states c
first_so b stopped l m switches r k states lines c p10 p11 p12 p13 = search (rules, same_cause, late_ends, of_some, late_is, phase_so)

pub ends_so : (m : Machine) (switches : List Switch) (r : Known) (k : ℕ) (states : List State) (note : Option Note) (c : Cause) → r.stopped ≡ None → (c ≡ cause.Memory → ⊥)
    → (reacts m switches r k states note).ordered.end ≡ Some c → EndsSo m (noted m note r) k states c
ends_so m switches r k states note c none other e =
    let s = noted m note r in
    first_so (is_out note || any_out states) s.stopped (late 0 states) m switches s k states (first_lines m s k (news_of note) states) c (note-stays m note r ∙ none) refl other e

-- a turn behind which the reactor is about to stop
pub some_none : (c : Cause) → Some c ≡ None → ⊥
some_none c e = cc

not_stopping : (line : ℕ) → Running ≡ Stopping line → ⊥
not_stopping line e = cc

finished_stops : (s : ReadStop) (m : Machine) (r q : Known) (k : ℕ) (states : List State) (lines : List ReportLine) (askings : List Asking) (turn : HomingTurn) (line : ℕ) → stop_of r.reading ≡ s → r.phase ≡ Running → IsThrough r k states
    → late 0 states ≡ None → (finishes s m q k lines askings turn).ordered.end ≡ None → (finishes s m q k lines askings turn).known.phase ≡ Stopping line → WentThrough r k states (read.Stop line)
finished_stops s m r q k states lines askings turn line p10 p11 p12 p13 p14 p15 = search (rules, through, some_none)

homed_stops : (o : Option Cause) (b : Bool) (m : Machine) (r : Known) (k : ℕ) (states : List State) (lines cut : List ReportLine) (askings : List Asking) (turn : HomingTurn) (line : ℕ) → r.phase ≡ Running → late 0 states ≡ None
    → is_finished (after_homing r k states) k states ≡ b → (unless_homing_ends o m (after_homing r k states) k states lines cut askings turn).ordered.end ≡ None
    → (unless_homing_ends o m (after_homing r k states) k states lines cut askings turn).known.phase ≡ Stopping line → WentThrough r k states (read.Stop line)
homed_stops o b m r k states lines cut askings turn line p11 p12 p13 p14 p15 = search (rules, some_none, stop_of, through, finished_stops, not_stopping)

stale_stops : (o : Option Cause) (m : Machine) (switches : List Switch) (r : Known) (k : ℕ) (states : List State) (lines : List ReportLine) (askings : List Asking) (line : ℕ) → r.phase ≡ Running → late 0 states ≡ None
    → (unless_stale o m switches r k states lines askings).ordered.end ≡ None → (unless_stale o m switches r k states lines askings).known.phase ≡ Stopping line → WentThrough r k states (read.Stop line)
stale_stops o m switches r k states lines askings line p9 p10 p11 p12 = search (rules, some_none, homing_turn, homed_stops, cut_line, axis_at)

given_goes : (o : Option Cause) (m : Machine) (r : Known) (k : ℕ) (lines : List ReportLine) (askings : List Asking) (line : ℕ) → r.phase ≡ Connecting → (unless_given_up o m r k lines askings).known.phase ≡ Stopping line → ⊥
given_goes o m r k lines askings line p7 p8 = search (rules, all_connected, not_stopping)

late_goes : (o : Option Cause) (m : Machine) (r : Known) (k : ℕ) (lines : List ReportLine) (line : ℕ) → (unless_late_stale o m r k lines line).ordered.end ≡ None → ⊥
late_goes (Some d) m r k lines line e = some_none d e
late_goes None m r k lines line e = some_none (cause.Asked line) e

phase_stops : (p : Phase) (m : Machine) (switches : List Switch) (r : Known) (k : ℕ) (states : List State) (lines : List ReportLine) (line : ℕ) → r.phase ≡ p → late 0 states ≡ None
    → (by_phase p m switches r k states lines).ordered.end ≡ None → (by_phase p m switches r k states lines).known.phase ≡ Stopping line → WentThrough r k states (read.Stop line)
phase_stops p m switches r k states lines line p8 p9 p10 p11 = search (rules, ready_all, listen_all, given_goes, giving_up, stale_stops, stale, late_goes)

first_stops : (b : Bool) (stopped l : Option Cause) (m : Machine) (switches : List Switch) (r : Known) (k : ℕ) (states : List State) (lines : List ReportLine) (line : ℕ) → late 0 states ≡ l
    → (unless_ended (cond b (Some cause.Memory) (or_cause stopped l)) m switches r k states lines).ordered.end ≡ None
    → (unless_ended (cond b (Some cause.Memory) (or_cause stopped l)) m switches r k states lines).known.phase ≡ Stopping line → WentThrough r k states (read.Stop line)
first_stops b stopped l m switches r k states lines line p10 p11 p12 = search (rules, some_none, phase_stops)

-- went through, to a line that asks for the stop
pub stops_so : (m : Machine) (switches : List Switch) (r : Known) (k : ℕ) (states : List State) (note : Option Note) (line : ℕ) → (reacts m switches r k states note).ordered.end ≡ None
    → (reacts m switches r k states note).known.phase ≡ Stopping line → WentThrough (noted m note r) k states (read.Stop line)
stops_so m switches r k states note line e f =
    let s = noted m note r in
    first_stops (is_out note || any_out states) s.stopped (late 0 states) m switches s k states (first_lines m s k (news_of note) states) line refl e f

-- A run that went through did so in its last turn, or it was about to stop there.
abbrev pub AtLast : Known → ℕ → List State → Cause → Type 0
AtLast r k states c = (stop : ReadStop) × (c ≡ text_end stop) × WentThrough r k states stop

abbrev pub AtStop : Known → Cause → Type 0
AtStop r c = (line : ℕ) × (c ≡ cause.Asked line) × (r.phase ≡ Stopping line)

pub went : (m : Machine) (r : Known) (k : ℕ) (states : List State) (c : Cause) → GoesThrough c → EndsSo m r k states c → AtLast r k states c ⊎ AtStop r c
went m r k states cause.Done g h = inl (read.End, refl, h)
went m r k states (cause.Line line kind) g h = inl (read.Refused line kind, refl, h)
went m r k states (cause.Asked line) g h = inr (line, refl, h.0)
went m r k states c g h = absurd g

pub own_cause : (c : Cause) → GoesThrough c → IsOwn c
own_cause cause.Done g = tt
own_cause (cause.Line line kind) g = tt
own_cause (cause.Asked line) g = tt
own_cause c g = absurd g

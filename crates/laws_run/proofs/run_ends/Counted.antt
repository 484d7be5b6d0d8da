-- The numbers of what was read stand in the turn that ends a run.
use Rattle.std.proofs.Common.{◌≡◌, ◌⊎◌, inl, inr, ℕ, ◌+◌, Bool, true, false, List, [], ◌∷◌, ◌++◌, length, Option, Some, None, refl, ap, sym, ◌∙◌, subst, rules}
use Rattle.laws_board.proofs.Names.{flat_map, flat_map-append, Cause, AxisDef, Machine, Line, Pulse, ReadStop, axis_at, Note, NoteNews, State, ReportLine, Switch, Asking, all_connected, giving_up, listen_all, ready_all, stale, HomingTurn, homing_turn, Known, Phase, Connecting, Stopping, noted, news_of, is_out, Reacted, by_phase, cut_line, reacts, unless_ended, unless_stale, first_lines, machine_line, stop_of}
use Rattle.std.specs.Prelude.{◌==◌, ◌||◌, if◌then◌else◌}
use Rattle.plan_types.specs.declared.cause.Cause.TheVariants as cause
use Rattle.plan_types.specs.declared.plan.ReadStop.TheVariants as read
use Rattle.msg_code.specs.declared.talk.NoteNews.TheVariants as news
use Rattle.report_text.specs.declared.line.ReportLine.TheVariants as report
use Rattle.board_asking.specs.Connecting.{board_lines, connected_lines}
use Rattle.host_reactor.specs.declared.ordered.Begun.{Begun}
use Rattle.host_reactor.specs.declared.ordered.Phase.TheVariants.{Running}
use Rattle.host_reactor.specs.declared.ordered.Reading.{Reading}
use Rattle.host_reactor.specs.Reactor.{after_homing, asks_boards, carries_on, ends, finishes, is_connected_now, unless_given_up, unless_homing_ends, unless_late_stale}
use Rattle.host_reactor.specs.Report.{count_lines, drift_line, drift_lines, stepper_place, pulse_at, pulse_line, pulse_lines, section_line}
use Rattle.host_reactor.specs.Running.{any_out, is_finished, late, or_cause}
use Rattle.laws_run.specs.run_ends.Boards.{count_in, counts_of}
use Rattle.laws_run.specs.run_ends.Ends.{GoesThrough}
use Rattle.laws_run.proofs.run_ends.Ending.{If, IsConnect, IsHoming, IsLate, IsStale, connect_is, homing_is, late_is, stale_is}
use Rattle.host_reactor.proofs.Blames.{note-stays}

pub counts_append : (xs ys : List ReportLine) → counts_of (xs ++ ys) ≡ counts_of xs ++ counts_of ys
counts_append xs ys = flat_map-append count_in xs ys

pub both_none : (xs ys : List ReportLine) → counts_of xs ≡ [] → counts_of ys ≡ [] → counts_of (xs ++ ys) ≡ []
both_none xs ys a b = counts_append xs ys ∙ ap (λ z. z ++ counts_of ys) a ∙ b

-- the lines that stand in a turn whatever the phase tell none of them
pub machine_none : (b : Bool) (m : Machine) → counts_of (if b then report.Machine m.corexy (length m.boards) (length m.steppers) ∷ [] else []) ≡ []
machine_none true m = refl
machine_none false m = refl

begun_none : (b : Bool) (s : Begun) → counts_of (if b then report.Section s.section s.turn s.kind ∷ [] else []) ≡ []
begun_none true s = refl
begun_none false s = refl

pub section_none : (k : ℕ) (o : Option Begun) → counts_of (section_line k o) ≡ []
section_none k None = refl
section_none k (Some s) = begun_none (s.turn == k) s

pub one_drift : (n : NoteNews) → counts_of (drift_line n) ≡ []
one_drift (news.Start section kind turn last moving) = refl
one_drift c = refl

pub drift_none : (ns : List NoteNews) → counts_of (drift_lines ns) ≡ []
drift_none [] = refl
drift_none (n ∷ ns) = both_none (drift_line n) (drift_lines ns) (one_drift n) (drift_none ns)

pub one_pulse : (m : Machine) (b : ℕ) (p : Pulse) (o : Option ℕ) → counts_of (pulse_at m b p o) ≡ []
one_pulse m b p None = refl
one_pulse m b p (Some place) = refl

pub pulses_none : (m : Machine) (b : ℕ) (ps : List Pulse) → counts_of (flat_map (pulse_line m b) ps) ≡ []
pulses_none m b [] = refl
pulses_none m b (p ∷ ps) = both_none (pulse_line m b p) (flat_map (pulse_line m b) ps) (one_pulse m b p (stepper_place 0 b p.stepper m.steppers)) (pulses_none m b ps)

pub states_none : (m : Machine) (b : ℕ) (states : List State) → counts_of (pulse_lines m b states) ≡ []
states_none m b [] = refl
states_none m b (s ∷ states) = both_none (flat_map (pulse_line m b) s.pulses) (pulse_lines m (b + 1) states) (pulses_none m b s.pulses) (states_none m (b + 1) states)

pub first_none : (m : Machine) (r : Known) (k : ℕ) (ns : List NoteNews) (states : List State) → counts_of (first_lines m r k ns states) ≡ []
first_none m r k ns states =
    both_none (machine_line m k) (section_line k r.begun ++ (drift_lines ns ++ pulse_lines m 0 states)) (machine_none (k == 0) m)
    (both_none (section_line k r.begun) (drift_lines ns ++ pulse_lines m 0 states) (section_none k r.begun) (both_none (drift_lines ns) (pulse_lines m 0 states) (drift_none ns) (states_none m 0 states)))

cut_none : (m : Machine) (switches : List Switch) (section : ℕ) (axis : AxisDef) (o : Option ℕ) → counts_of (cut_line m switches section axis o) ≡ []
cut_none m switches section axis None = refl
cut_none m switches section axis (Some tick) = refl

lines_none : (k b : ℕ) (ls : List Line) → counts_of (connected_lines k b ls) ≡ []
lines_none k b [] = refl
lines_none k b (l ∷ ls) = lines_none k (b + 1) ls

own_counts : (o : Option Reading) → counts_of (count_lines o) ≡ count_lines o
own_counts None = refl
own_counts (Some r) = refl

-- a turn that goes on tells none, and one that ends a run that went through those of the reading; and any turn tells none or these
pub record Counted (r : Known) (x : Reacted) : Type 0 where
  pub on : x.ordered.end ≡ None → counts_of x.ordered.lines ≡ []
  pub through : (c : Cause) → x.ordered.end ≡ Some c → GoesThrough c → counts_of x.ordered.lines ≡ count_lines r.reading
  pub any : (counts_of x.ordered.lines ≡ []) ⊎ (counts_of x.ordered.lines ≡ count_lines r.reading)

no_late : (c : Cause) → IsLate c → GoesThrough c → ⊥
no_late cause.Done i g = i
no_late (cause.Line line kind) i g = i
no_late (cause.Asked line) i g = i
no_late c i g = g

no_connect : (c : Cause) → IsConnect c → GoesThrough c → ⊥
no_connect cause.Done i g = i
no_connect (cause.Line line kind) i g = i
no_connect (cause.Asked line) i g = i
no_connect c i g = g

no_stale : (c : Cause) → IsStale c → GoesThrough c → ⊥
no_stale cause.Done i g = i
no_stale (cause.Line line kind) i g = i
no_stale (cause.Asked line) i g = i
no_stale c i g = g

no_homing : (c : Cause) → IsHoming c → GoesThrough c → ⊥
no_homing cause.Done i g = i
no_homing (cause.Line line kind) i g = i
no_homing (cause.Asked line) i g = i
no_homing c i g = g

fails : (r : Known) (x : Reacted) (d : Cause) → x.ordered.end ≡ Some d → (GoesThrough d → ⊥) → counts_of x.ordered.lines ≡ [] → Counted r x
fails r x d e not n = record {
  on = λ f. n;
  through = λ c f g. absurd (not (let same : d ≡ c = (let h : Some d ≡ Some c = sym e ∙ f in cc) in subst (λ (z : Cause). GoesThrough z) (sym same) g));
  any = inl n;
}

goes_on : (r : Known) (x : Reacted) → x.ordered.end ≡ None → counts_of x.ordered.lines ≡ [] → Counted r x
goes_on r x e n = record { on = λ f. n; through = λ c f g. absurd (let h : None ≡ Some c = sym e ∙ f in cc); any = inl n }

either : (b : Bool) (r : Known) (x y : Reacted) → Counted r x → Counted r y → Counted r (if b then x else y)
either true r x y a b = a
either false r x y a b = b

connecting : (o : Option Cause) (m : Machine) (r : Known) (k : ℕ) (lines : List ReportLine) (askings : List Asking) → If IsConnect o → counts_of lines ≡ [] → Counted r (unless_given_up o m r k lines askings)
connecting o m r k lines askings p6 p7 = search (rules, fails, no_connect, either, all_connected, goes_on, both_none, lines_none)

told : (m : Machine) (r q : Known) (k : ℕ) (lines : List ReportLine) (c : Cause) → q.reading ≡ r.reading → counts_of lines ≡ [] → Counted r (ends m q k (lines ++ count_lines q.reading) c)
told m r q k lines c same n = search (rules, counts_append, own_counts)

finishing : (s : ReadStop) (m : Machine) (r q : Known) (k : ℕ) (lines : List ReportLine) (askings : List Asking) (turn : HomingTurn) → q.reading ≡ r.reading → counts_of lines ≡ [] → Counted r (finishes s m q k lines askings turn)
finishing (read.Stop line) m r q k lines askings turn same n = goes_on r (carries_on m q k lines askings turn (Some line)) refl n
finishing read.End m r q k lines askings turn same n = told m r q k lines cause.Done same n
finishing (read.Refused line kind) m r q k lines askings turn same n = told m r q k lines (cause.Line line kind) same n

homing : (o : Option Cause) (m : Machine) (r q : Known) (k : ℕ) (states : List State) (lines cut : List ReportLine) (askings : List Asking) (turn : HomingTurn) → If IsHoming o → q.reading ≡ r.reading → counts_of lines ≡ [] → counts_of cut ≡ []
    → Counted r (unless_homing_ends o m q k states lines cut askings turn)
homing o m r q k states lines cut askings turn p10 p11 p12 p13 = search (rules, fails, no_homing, both_none, either, stop_of, finishing, goes_on)

running : (o : Option Cause) (m : Machine) (switches : List Switch) (r : Known) (k : ℕ) (states : List State) (lines : List ReportLine) (askings : List Asking) → If IsStale o → counts_of lines ≡ [] → Counted r (unless_stale o m switches r k states lines askings)
running (Some c) m switches r k states lines askings i n = fails r (ends m r k lines c) c refl (no_stale c i) n
running None m switches r k states lines askings i n =
    let turn = homing_turn r.clocks k states r.homing in
    homing turn.end m r (after_homing r k states) k states lines (cut_line m switches turn.section (axis_at m turn.axis) turn.cut) askings turn (homing_is r.clocks k states r.homing) refl n (cut_none m switches turn.section (axis_at m turn.axis) turn.cut)

stopping : (o : Option Cause) (m : Machine) (r : Known) (k : ℕ) (lines : List ReportLine) (line : ℕ) → If IsStale o → counts_of lines ≡ [] → Counted r (unless_late_stale o m r k lines line)
stopping (Some c) m r k lines line i n = fails r (ends m r k lines c) c refl (no_stale c i) n
stopping None m r k lines line i n = told m r r k lines (cause.Asked line) refl n

phases : (p : Phase) (m : Machine) (switches : List Switch) (r : Known) (k : ℕ) (states : List State) (lines : List ReportLine) → counts_of lines ≡ [] → Counted r (by_phase p m switches r k states lines)
phases Connecting m switches r k states lines n = let askings = ready_all m 0 (listen_all r.askings.items states) in connecting (giving_up k 0 askings) m r k lines askings (connect_is k 0 askings) n
phases Running m switches r k states lines n = let askings = listen_all r.askings.items states in running (stale k 0 askings) m switches r k states lines askings (stale_is k 0 askings) n
phases (Stopping line) m switches r k states lines n = let askings = listen_all r.askings.items states in stopping (stale k 0 askings) m r k lines line (stale_is k 0 askings) n

first : (b : Bool) (stopped l : Option Cause) (m : Machine) (switches : List Switch) (r : Known) (k : ℕ) (states : List State) (lines : List ReportLine) → stopped ≡ None → If IsLate l → counts_of lines ≡ []
    → Counted r (unless_ended (if b then Some cause.Memory else or_cause stopped l) m switches r k states lines)
first b stopped l m switches r k states lines p9 p10 p11 = search (rules, fails, no_late, phases)

pub counted : (m : Machine) (switches : List Switch) (r : Known) (k : ℕ) (states : List State) (note : Option Note) → r.stopped ≡ None → Counted (noted m note r) (reacts m switches r k states note)
counted m switches r k states note e =
    let s = noted m note r in
    first (is_out note || any_out states) s.stopped (late 0 states) m switches s k states (first_lines m s k (news_of note) states) (note-stays m note r ∙ e) (late_is 0 states) (first_none m s k (news_of note) states)

-- The lines of a turn of the reactor that tell further clock lines are those of the note that it took.
use Rattle.std.proofs.Common.{◌≡◌, ℕ, ◌+◌, Bool, true, false, List, [], ◌∷◌, ◌++◌, length, refl, ap, ◌∙◌, Option, Some, None, append-nil}
use Rattle.laws_board.proofs.Names.{flat_map-append, flat_map, Cause, AxisDef, Machine, Line, Pulse, ReadStop, axis_at, ReportLine, Note, NoteNews, State, HomingTurn, homing_turn, Asking, all_connected, giving_up, listen_all, ready_all, stale, Known, Phase, Connecting, Stopping, is_out, news_of, noted, Reacted, by_phase, cut_line, reacts, unless_ended, unless_stale, first_lines, machine_line, first_cause, stop_of, Switch}
use Rattle.std.specs.Prelude.{◌==◌, if◌then◌else◌}
use Rattle.plan_types.specs.declared.plan.ReadStop.TheVariants as read
use Rattle.report_text.specs.declared.line.ReportLine.TheVariants as report
use Rattle.board_asking.specs.Connecting.{board_lines, connected_lines}
use Rattle.host_reactor.specs.declared.ordered.Begun.{Begun}
use Rattle.host_reactor.specs.declared.ordered.Phase.TheVariants.{Running}
use Rattle.host_reactor.specs.declared.ordered.Reading.{Reading}
use Rattle.host_reactor.specs.Reactor.{after_homing, asks_boards, carries_on, finishes, is_connected_now, unless_given_up, unless_homing_ends, unless_late_stale}
use Rattle.host_reactor.specs.Report.{count_lines, drift_lines, stepper_place, pulse_at, pulse_line, pulse_lines, section_line}
use Rattle.host_reactor.specs.Running.{is_finished}
use Rattle.laws_board.specs.plans.Lines.{drift_in, drifts_of}

-- none of some lines is a further clock line
abbrev pub NoneDrifts : List ReportLine → Type 0
NoneDrifts [] = Unit {0}
NoneDrifts (report.Drift board sent clock from ∷ lines) = ⊥
NoneDrifts (_ ∷ lines) = NoneDrifts lines

pub drifts_both : (xs ys : List ReportLine) → NoneDrifts xs → NoneDrifts ys → NoneDrifts (xs ++ ys)
drifts_both [] ys a b = b
drifts_both (report.Machine corexy boards steppers ∷ xs) ys a b = drifts_both xs ys a b
drifts_both (report.Board board freq turn tick ∷ xs) ys a b = drifts_both xs ys a b
drifts_both (report.Section i turn kind ∷ xs) ys a b = drifts_both xs ys a b
drifts_both (report.Pulse board stepper tick up ∷ xs) ys a b = drifts_both xs ys a b
drifts_both (report.Cut i board pin tick from ∷ xs) ys a b = drifts_both xs ys a b
drifts_both (report.Drift board sent clock from ∷ xs) ys a b = absurd a
drifts_both (report.Lines accepted passed ∷ xs) ys a b = drifts_both xs ys a b
drifts_both (report.Out board pin tick on ∷ xs) ys a b = drifts_both xs ys a b
drifts_both (report.Made seed moves ∷ xs) ys a b = drifts_both xs ys a b
drifts_both (report.Count stepper pulses ∷ xs) ys a b = drifts_both xs ys a b
drifts_both (report.Fit section stepper pulses planned early late ∷ xs) ys a b = drifts_both xs ys a b
drifts_both (report.End c ∷ xs) ys a b = drifts_both xs ys a b

pub pulse_none : (m : Machine) (b : ℕ) (p : Pulse) (o : Option ℕ) → NoneDrifts (pulse_at m b p o)
pulse_none m b p None = tt
pulse_none m b p (Some place) = tt

pub state_none : (m : Machine) (b : ℕ) (ps : List Pulse) → NoneDrifts (flat_map (pulse_line m b) ps)
state_none m b [] = tt
state_none m b (p ∷ ps) = drifts_both (pulse_line m b p) (flat_map (pulse_line m b) ps) (pulse_none m b p (stepper_place 0 b p.stepper m.steppers)) (state_none m b ps)

pub pulses_none : (m : Machine) (b : ℕ) (states : List State) → NoneDrifts (pulse_lines m b states)
pulses_none m b [] = tt
pulses_none m b (s ∷ states) = drifts_both (flat_map (pulse_line m b) s.pulses) (pulse_lines m (b + 1) states) (state_none m b s.pulses) (pulses_none m (b + 1) states)

pub machine_none : (m : Machine) (k : ℕ) → NoneDrifts (machine_line m k)
machine_none m k = by (k == 0) where
  by : (b : Bool) → NoneDrifts (if b then report.Machine m.corexy (length m.boards) (length m.steppers) ∷ [] else [])
  by true = tt
  by false = tt

pub section_none : (k : ℕ) (o : Option Begun) → NoneDrifts (section_line k o)
section_none k None = tt
section_none k (Some b) = by (b.turn == k) where
  by : (t : Bool) → NoneDrifts (if t then report.Section b.section b.turn b.kind ∷ [] else [])
  by true = tt
  by false = tt

pub boards_none : (k b : ℕ) (ls : List Line) → NoneDrifts (connected_lines k b ls)
boards_none k b [] = tt
boards_none k b (l ∷ ls) = boards_none k (b + 1) ls

pub count_none : (o : Option Reading) → NoneDrifts (count_lines o)
count_none None = tt
count_none (Some r) = tt

pub cut_none : (m : Machine) (switches : List Switch) (section : ℕ) (axis : AxisDef) (o : Option ℕ) → NoneDrifts (cut_line m switches section axis o)
cut_none m switches section axis None = tt
cut_none m switches section axis (Some tick) = tt

-- lines that tell none of a board's
pub none_drifts : (b : ℕ) (lines : List ReportLine) → NoneDrifts lines → drifts_of b lines ≡ []
none_drifts b [] n = refl
none_drifts b (report.Machine corexy boards steppers ∷ lines) n = none_drifts b lines n
none_drifts b (report.Board board freq turn tick ∷ lines) n = none_drifts b lines n
none_drifts b (report.Section i turn kind ∷ lines) n = none_drifts b lines n
none_drifts b (report.Pulse board stepper tick up ∷ lines) n = none_drifts b lines n
none_drifts b (report.Cut i board pin tick from ∷ lines) n = none_drifts b lines n
none_drifts b (report.Drift board sent clock from ∷ lines) n = absurd n
none_drifts b (report.Lines accepted passed ∷ lines) n = none_drifts b lines n
none_drifts b (report.Out board pin tick on ∷ lines) n = none_drifts b lines n
none_drifts b (report.Made seed moves ∷ lines) n = none_drifts b lines n
none_drifts b (report.Count stepper pulses ∷ lines) n = none_drifts b lines n
none_drifts b (report.Fit section stepper pulses planned early late ∷ lines) n = none_drifts b lines n
none_drifts b (report.End c ∷ lines) n = none_drifts b lines n

pub drifts_append : (b : ℕ) (xs ys : List ReportLine) → drifts_of b (xs ++ ys) ≡ drifts_of b xs ++ drifts_of b ys
drifts_append b xs ys = flat_map-append (drift_in b) xs ys

-- lines behind others that tell none
more_none : (b : ℕ) (xs ys : List ReportLine) → NoneDrifts ys → drifts_of b (xs ++ ys) ≡ drifts_of b xs
more_none b xs ys n = drifts_append b xs ys ∙ ap (λ z. drifts_of b xs ++ z) (none_drifts b ys n) ∙ append-nil (drifts_of b xs)

less_none : (b : ℕ) (xs ys : List ReportLine) → NoneDrifts xs → drifts_of b (xs ++ ys) ≡ drifts_of b ys
less_none b xs ys n = drifts_append b xs ys ∙ ap (λ z. z ++ drifts_of b ys) (none_drifts b xs n)

first_drifts : (b : ℕ) (m : Machine) (r : Known) (k : ℕ) (told : List NoteNews) (states : List State) → drifts_of b (first_lines m r k told states) ≡ drifts_of b (drift_lines told)
first_drifts b m r k told states =
    less_none b (machine_line m k) (section_line k r.begun ++ (drift_lines told ++ pulse_lines m 0 states)) (machine_none m k)
    ∙ less_none b (section_line k r.begun) (drift_lines told ++ pulse_lines m 0 states) (section_none k r.begun)
    ∙ more_none b (drift_lines told) (pulse_lines m 0 states) (pulses_none m 0 states)

abbrev Same : List ReportLine → Reacted → Type 0
Same lines x = (b : ℕ) → drifts_of b x.ordered.lines ≡ drifts_of b lines

either : (lines : List ReportLine) (b : Bool) (x y : Reacted) → Same lines x → Same lines y → Same lines (if b then x else y)
either lines true x y a b = a
either lines false x y a b = b

connecting : (o : Option Cause) (m : Machine) (r : Known) (k : ℕ) (lines : List ReportLine) (askings : List Asking) → Same lines (unless_given_up o m r k lines askings)
connecting (Some cause) m r k lines askings = λ b. refl
connecting None m r k lines askings =
    either lines (all_connected askings) (is_connected_now m r k lines askings) (asks_boards m r k lines askings) (λ b. more_none b lines (connected_lines k 0 (board_lines m 0 askings)) (boards_none k 0 (board_lines m 0 askings))) (λ b. refl)

finishing : (s : ReadStop) (m : Machine) (r : Known) (k : ℕ) (lines : List ReportLine) (askings : List Asking) (turn : HomingTurn) → Same lines (finishes s m r k lines askings turn)
finishing (read.Stop line) m r k lines askings turn = λ b. refl
finishing c m r k lines askings turn = λ b. more_none b lines (count_lines r.reading) (count_none r.reading)

homing : (o : Option Cause) (m : Machine) (r : Known) (k : ℕ) (states : List State) (lines cut : List ReportLine) (askings : List Asking) (turn : HomingTurn) → NoneDrifts cut → Same lines (unless_homing_ends o m r k states lines cut askings turn)
homing (Some cause) m r k states lines cut askings turn more = λ b. refl
homing None m r k states lines cut askings turn more =
    let all = λ (b : ℕ). more_none b lines cut more in
    either lines (is_finished r k states) (finishes (stop_of r.reading) m r k (lines ++ cut) askings turn) (carries_on m r k (lines ++ cut) askings turn None)
    (λ b. finishing (stop_of r.reading) m r k (lines ++ cut) askings turn b ∙ all b) all

running : (o : Option Cause) (m : Machine) (switches : List Switch) (r : Known) (k : ℕ) (states : List State) (lines : List ReportLine) (askings : List Asking) → Same lines (unless_stale o m switches r k states lines askings)
running (Some cause) m switches r k states lines askings = λ b. refl
running None m switches r k states lines askings =
    let turn = homing_turn r.clocks k states r.homing in
    homing turn.end m (after_homing r k states) k states lines (cut_line m switches turn.section (axis_at m turn.axis) turn.cut) askings turn (cut_none m switches turn.section (axis_at m turn.axis) turn.cut)

stopping : (o : Option Cause) (m : Machine) (r : Known) (k : ℕ) (lines : List ReportLine) (line : ℕ) → Same lines (unless_late_stale o m r k lines line)
stopping (Some cause) m r k lines line = λ b. refl
stopping None m r k lines line = λ b. more_none b lines (count_lines r.reading) (count_none r.reading)

phases : (p : Phase) (m : Machine) (switches : List Switch) (r : Known) (k : ℕ) (states : List State) (lines : List ReportLine) → Same lines (by_phase p m switches r k states lines)
phases Connecting m switches r k states lines = (let askings = ready_all m 0 (listen_all r.askings.items states) in connecting (giving_up k 0 askings) m r k lines askings)
phases Running m switches r k states lines = (let askings = listen_all r.askings.items states in running (stale k 0 askings) m switches r k states lines askings)
phases (Stopping line) m switches r k states lines = stopping (stale k 0 (listen_all r.askings.items states)) m r k lines line

unless : (o : Option Cause) (m : Machine) (switches : List Switch) (r : Known) (k : ℕ) (states : List State) (lines : List ReportLine) → Same lines (unless_ended o m switches r k states lines)
unless (Some cause) m switches r k states lines = λ b. refl
unless None m switches r k states lines = phases r.phase m switches r k states lines

pub reacts_drifts : (m : Machine) (switches : List Switch) (r : Known) (k : ℕ) (states : List State) (note : Option Note) (b : ℕ) → drifts_of b (reacts m switches r k states note).ordered.lines ≡ drifts_of b (drift_lines (news_of note))
reacts_drifts m switches r k states note b =
    let s = noted m note r in
    unless (first_cause (is_out note) s.stopped states) m switches s k states (first_lines m s k (news_of note) states) b ∙ first_drifts b m s k (news_of note) states

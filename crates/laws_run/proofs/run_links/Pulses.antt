-- The lines of the reactor's turns that tell a board's pulses.
use Rattle.std.proofs.Common.{◌≡◌, ℕ, zero, suc, ◌+◌, ◌<◌, Bool, true, false, List, [], ◌∷◌, ◌++◌, length, Option, Some, None, refl, ap, sym, ◌∙◌, subst, arith, append-nil}
use Rattle.std.specs.Prelude.{if◌then◌else◌, ◌==◌}
use Rattle.laws_board.proofs.Names.{flat_map, eq-eqb, flat_map-append, Machine, Pulse, Note, NoteNews, State, ReportLine, Switch, Known, noted, news_of, reacts, first_lines, machine_line, Came, known_by, state_at, ReactorTurn, gather, item}
use Rattle.std.proofs.lemmas.Bool.{ne_eqb}
use Rattle.msg_code.specs.declared.talk.NoteNews.TheVariants as news
use Rattle.report_text.specs.declared.line.ReportLine.TheVariants as report
use Rattle.host_reactor.specs.declared.ordered.Begun.{Begun}
use Rattle.host_reactor.specs.Report.{drift_lines, pulse_at, pulse_line, pulse_lines, stepper_place, section_line}
use Rattle.session_run.specs.Desks.{reported_lines}
use Rattle.session_run.specs.Boards.{AreReactorTurns, came_in}
use Rattle.laws_board.proofs.plans.Shaping.{ArePlain, IsPlain, shaped}
use Rattle.laws_run.specs.run_links.Links.{lines_for, pulse_on, pulses_on}
use Rattle.laws_homing.proofs.missed_groups.Told.{same_state}

pub pulses_append : (b : ℕ) (xs ys : List ReportLine) → pulses_on b (xs ++ ys) ≡ pulses_on b xs ++ pulses_on b ys
pulses_append b xs ys = flat_map-append (pulse_on b) xs ys

-- no line beside those of pulses tells one
one_plain : (b : ℕ) (l : ReportLine) → IsPlain l → pulse_on b l ≡ []
one_plain b (report.Pulse board stepper tick up) p = absurd p
one_plain b _ p = refl

plain_none : (b : ℕ) (lines : List ReportLine) → ArePlain lines → pulses_on b lines ≡ []
plain_none b [] p = refl
plain_none b (l ∷ lines) p = ap (λ x. x ++ pulses_on b lines) (one_plain b l p.0) ∙ plain_none b lines p.1

machine_none : (b : ℕ) (m : Machine) (k : ℕ) → pulses_on b (machine_line m k) ≡ []
machine_none b m k = by (k == 0) where
  by : (t : Bool) → pulses_on b (if t then report.Machine m.corexy (length m.boards) (length m.steppers) ∷ [] else []) ≡ []
  by true = refl
  by false = refl

section_none : (b k : ℕ) (o : Option Begun) → pulses_on b (section_line k o) ≡ []
section_none b k None = refl
section_none b k (Some x) = by (x.turn == k) where
  by : (t : Bool) → pulses_on b (if t then report.Section x.section x.turn x.kind ∷ [] else []) ≡ []
  by true = refl
  by false = refl

drifts_none : (b : ℕ) (ns : List NoteNews) → pulses_on b (drift_lines ns) ≡ []
drifts_none b [] = refl
drifts_none b (news.Line board line from ∷ ns) = drifts_none b ns
drifts_none b (news.Start section kind turn last moving ∷ ns) = drifts_none b ns
drifts_none b (news.Done section turn ∷ ns) = drifts_none b ns
drifts_none b (news.Read end sections ∷ ns) = drifts_none b ns

-- the lines of a state of the board itself, and of another's
own_pulse : (m : Machine) (b : ℕ) (p : Pulse) (o : Option ℕ) → pulses_on b (pulse_at m b p o) ≡ pulse_at m b p o
own_pulse m b p None = refl
own_pulse m b p (Some place) = let e = eq-eqb b b refl in rw e refl

own_pulses : (m : Machine) (b : ℕ) (ps : List Pulse) → pulses_on b (flat_map (pulse_line m b) ps) ≡ flat_map (pulse_line m b) ps
own_pulses m b [] = refl
own_pulses m b (p ∷ ps) =
    let rest = flat_map (pulse_line m b) ps in
    pulses_append b (pulse_line m b p) rest ∙ ap (λ x. x ++ pulses_on b rest) (own_pulse m b p (stepper_place 0 b p.stepper m.steppers)) ∙ ap (λ x. pulse_line m b p ++ x) (own_pulses m b ps)

other_pulse : (m : Machine) (b i : ℕ) (p : Pulse) (o : Option ℕ) → (i ≡ b → ⊥) → pulses_on b (pulse_at m i p o) ≡ []
other_pulse m b i p None not = refl
other_pulse m b i p (Some place) not = let e = ne_eqb i b not in rw e refl

other_pulses : (m : Machine) (b i : ℕ) (ps : List Pulse) → (i ≡ b → ⊥) → pulses_on b (flat_map (pulse_line m i) ps) ≡ []
other_pulses m b i [] not = refl
other_pulses m b i (p ∷ ps) not =
    let rest = flat_map (pulse_line m i) ps in
    pulses_append b (pulse_line m i p) rest ∙ ap (λ x. x ++ pulses_on b rest) (other_pulse m b i p (stepper_place 0 i p.stepper m.steppers) not) ∙ other_pulses m b i ps not

none_after : (m : Machine) (b i : ℕ) (states : List State) → b < i → pulses_on b (pulse_lines m i states) ≡ []
none_after m b i [] h = refl
none_after m b i (s ∷ states) h =
    let later = pulse_lines m (i + 1) states in
    pulses_append b (flat_map (pulse_line m i) s.pulses) later ∙ ap (λ x. x ++ pulses_on b later) (other_pulses m b i s.pulses (λ e. omega (arith, e, h))) ∙ none_after m b (i + 1) states (omega (arith, h))

states_pulses : (m : Machine) (b j i : ℕ) (states : List State) → i + j ≡ b → pulses_on b (pulse_lines m i states) ≡ lines_for m b (state_at j states)
states_pulses m b j i [] e = refl
states_pulses m b zero i (s ∷ states) e =
    let same : b ≡ i = omega (arith, e) in
    let later = pulse_lines m (i + 1) states in
    let Own : ℕ → Type 0 = λ n. pulses_on b (flat_map (pulse_line m n) s.pulses) ≡ flat_map (pulse_line m b) s.pulses in
    pulses_append b (flat_map (pulse_line m i) s.pulses) later ∙ ap (λ x. x ++ pulses_on b later) (subst Own same (own_pulses m b s.pulses))
    ∙ ap (λ x. flat_map (pulse_line m b) s.pulses ++ x) (none_after m b (i + 1) states (omega (arith, e)))
states_pulses m b (suc j) i (s ∷ states) e =
    let later = pulse_lines m (i + 1) states in
    pulses_append b (flat_map (pulse_line m i) s.pulses) later ∙ ap (λ x. x ++ pulses_on b later) (other_pulses m b i s.pulses (λ f. omega (arith, f, e))) ∙ states_pulses m b j (i + 1) states (omega (arith, e))

-- a turn of the reactor, whatever it knows
pub turn_pulses : (m : Machine) (switches : List Switch) (b : ℕ) (r : Known) (k : ℕ) (states : List State) (note : Option Note) → pulses_on b (reacts m switches r k states note).ordered.lines ≡ lines_for m b (item b states)
turn_pulses m switches b r k states note =
    let s = noted m note r in
    let h = shaped m switches r k states note in
    let head = machine_line m k in
    let section = section_line k s.begun in
    let drift = drift_lines (news_of note) in
    let pulses = pulse_lines m 0 states in
    let told = states_pulses m b b 0 states (omega arith) ∙ ap (lines_for m b) (same_state b states) in
    let first : pulses_on b (first_lines m s k (news_of note) states) ≡ pulses_on b pulses =
    pulses_append b head (section ++ (drift ++ pulses)) ∙ ap (λ x. x ++ pulses_on b (section ++ (drift ++ pulses))) (machine_none b m k)
    ∙ pulses_append b section (drift ++ pulses) ∙ ap (λ x. x ++ pulses_on b (drift ++ pulses)) (section_none b k s.begun)
    ∙ pulses_append b drift pulses ∙ ap (λ x. x ++ pulses_on b pulses) (drifts_none b (news_of note)) in
    ap (pulses_on b) h.are ∙ pulses_append b (first_lines m s k (news_of note) states) h.extra ∙ ap (λ x. pulses_on b (first_lines m s k (news_of note) states) ++ x) (plain_none b h.extra h.plain)
    ∙ append-nil (pulses_on b (first_lines m s k (news_of note) states)) ∙ first ∙ told

pub lines_append : (m : Machine) (b : ℕ) (xs ys : List State) → lines_for m b (xs ++ ys) ≡ lines_for m b xs ++ lines_for m b ys
lines_append m b xs ys = flat_map-append (λ (s : State). flat_map (pulse_line m b) s.pulses) xs ys

-- and turns that go on
pub turns_pulses : (m : Machine) (switches : List Switch) (b : ℕ) (before : List Came) (rs : List ReactorTurn) → AreReactorTurns m switches before rs → pulses_on b (reported_lines rs) ≡ lines_for m b (gather (λ t. item b t.states) rs)
turns_pulses m switches b before [] h = refl
turns_pulses m switches b before (t ∷ rs) h =
    let states = gather (λ (z : ReactorTurn). item b z.states) rs in
    let here = ap (pulses_on b) h.0.lines_are ∙ turn_pulses m switches b (known_by m switches before) (length before) t.states t.note in
    pulses_append b t.lines (reported_lines rs) ∙ ap (λ x. x ++ pulses_on b (reported_lines rs)) here ∙ ap (λ x. lines_for m b (item b t.states) ++ x) (turns_pulses m switches b (came_in t ∷ before) rs h.1)
    ∙ sym (lines_append m b (item b t.states) states)

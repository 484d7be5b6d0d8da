-- A reactor tells only lines that it may tell.
use Rattle.std.proofs.Common.{◌≡◌, ◌∙◌, ℕ, suc, ◌+◌, ◌<◌, Bool, true, false, List, [], ◌∷◌, ◌++◌, length, get_or, ◌⊎◌, inl, inr, subst, ap, sym, refl, arith, Option, Some, None, rules}
use Rattle.std.specs.Prelude.{◌==◌, ◌&&◌, if◌then◌else◌}
use Rattle.laws_board.proofs.Names.{flat_map, nat_tests, Cause, AxisDef, Machine, Line, Pulse, ReadStop, axis_at, stepper_at, ReportLine, Note, NoteNews, State, Homing, HomingTurn, homing_turn, Asking, all_connected, giving_up, listen_all, ready_all, stale, Known, Phase, Connecting, Stopping, is_out, news_of, noted, Reacted, by_phase, cut_line, reacts, unless_ended, unless_stale, first_lines, machine_line, first_cause, stop_of, Came, GoesOn, known_by, Clocks, ReactorTurn, gather, Switch, both_parts}
use Rattle.plan_types.specs.declared.machine.StepperDef.{StepperDef}
use Rattle.plan_types.specs.declared.plan.ReadStop.TheVariants as read
use Rattle.plan_types.specs.Machines.{no_stepper}
use Rattle.report_text.specs.declared.line.ReportLine.TheVariants as report
use Rattle.msg_code.specs.declared.talk.NoteNews.TheVariants as news
use Rattle.board_asking.specs.Connecting.{board_lines, connected_lines}
use Rattle.host_reactor.specs.declared.ordered.Begun.{Begun}
use Rattle.host_reactor.specs.declared.ordered.Phase.TheVariants.{Running}
use Rattle.host_reactor.specs.declared.ordered.Reading.{Reading}
use Rattle.host_reactor.specs.Reactor.{after_homing, asks_boards, carries_on, finishes, is_connected_now, unless_given_up, unless_homing_ends, unless_late_stale}
use Rattle.host_reactor.specs.Report.{count_lines, drift_lines, stepper_place, pulse_at, pulse_line, pulse_lines, section_line}
use Rattle.host_reactor.specs.Running.{is_finished}
use Rattle.session_run.specs.Boards.{AreReactorTurns, came_from, came_in}
use Rattle.laws_run.proofs.run_headline.Plain.{AllMoves, known_none, noted_none}
use Rattle.laws_run.specs.run_headline.Told.{AreTold}

told_append : (homes : Bool) (m : Machine) (xs ys : List ReportLine) → AreTold homes m xs → AreTold homes m ys → AreTold homes m (xs ++ ys)
told_append homes m [] ys a b = b
told_append homes m (x ∷ xs) ys a b = (a.0, told_append homes m xs ys a.1 b)

-- where a stepper is found
record IsFound (i b : ℕ) (ss : List StepperDef) (q : ℕ) : Type 0 where
  place : ℕ
  at : q ≡ i + place
  inside : place < length ss
  board : (get_or ss place no_stepper).board ≡ b

found_at : (i b o : ℕ) (ss : List StepperDef) (q : ℕ) → stepper_place i b o ss ≡ Some q → IsFound i b ss q
found_at i b o [] q e = cc
found_at i b o (s ∷ ss) q e = by ((s.board == b) && (s.oid == o)) refl e (found_at (i + 1) b o ss q) where
  by : (t : Bool) → ((s.board == b) && (s.oid == o)) ≡ t → (if t then Some i else stepper_place (i + 1) b o ss) ≡ Some q → (stepper_place (i + 1) b o ss ≡ Some q → IsFound (i + 1) b ss q) → IsFound i b (s ∷ ss) q
  by true same here later =
      let at : i ≡ q = cc in
      let own : (s.board == b) ≡ true = (both_parts (s.board == b) (s.oid == o) same).0 in
      record { place = 0; at = omega (arith, at); inside = omega arith; board = grind (arith, nat_tests) }
  by false same here later =
      let f = later here in
      let at = f.at in
      let inside = f.inside in
      record { place = suc f.place; at = omega (arith, at); inside = omega (arith, inside); board = f.board }

pulse_told : (homes : Bool) (m : Machine) (b : ℕ) (p : Pulse) (o : Option ℕ) → ((q : ℕ) → o ≡ Some q → IsFound 0 b m.steppers q) → AreTold homes m (pulse_at m b p o)
pulse_told homes m b p None found = tt
pulse_told homes m b p (Some q) found =
    let f = found q refl in
    let at : q ≡ f.place = (let e = f.at in omega (arith, e)) in
    let inside = f.inside in
    ((omega (arith, at, inside), sym (ap (λ (n : ℕ). (stepper_at m n).board) at ∙ f.board)), tt)

state_told : (homes : Bool) (m : Machine) (b : ℕ) (ps : List Pulse) → AreTold homes m (flat_map (pulse_line m b) ps)
state_told homes m b [] = tt
state_told homes m b (p ∷ ps) = told_append homes m (pulse_line m b p) (flat_map (pulse_line m b) ps) (pulse_told homes m b p (stepper_place 0 b p.stepper m.steppers) (λ q e. found_at 0 b p.stepper m.steppers q e)) (state_told homes m b ps)

pulses_told : (homes : Bool) (m : Machine) (b : ℕ) (states : List State) → AreTold homes m (pulse_lines m b states)
pulses_told homes m b [] = tt
pulses_told homes m b (s ∷ states) = told_append homes m (flat_map (pulse_line m b) s.pulses) (pulse_lines m (b + 1) states) (state_told homes m b s.pulses) (pulses_told homes m (b + 1) states)

machine_told : (homes : Bool) (m : Machine) (k : ℕ) → AreTold homes m (machine_line m k)
machine_told homes m k = by (k == 0) where
  by : (t : Bool) → AreTold homes m (if t then report.Machine m.corexy (length m.boards) (length m.steppers) ∷ [] else [])
  by true = ((refl, refl, refl), tt)
  by false = tt

section_told : (homes : Bool) (m : Machine) (k : ℕ) (o : Option Begun) → AreTold homes m (section_line k o)
section_told homes m k None = tt
section_told homes m k (Some b) = by (b.turn == k) where
  by : (t : Bool) → AreTold homes m (if t then report.Section b.section b.turn b.kind ∷ [] else [])
  by true = (tt, tt)
  by false = tt

drift_told : (homes : Bool) (m : Machine) (ns : List NoteNews) → AreTold homes m (drift_lines ns)
drift_told homes m [] = tt
drift_told homes m (news.Line board line from ∷ ns) = (tt, drift_told homes m ns)
drift_told homes m (n ∷ ns) = drift_told homes m ns

pub first_told : (homes : Bool) (m : Machine) (r : Known) (k : ℕ) (told : List NoteNews) (states : List State) → AreTold homes m (first_lines m r k told states)
first_told homes m r k told states =
    told_append homes m (machine_line m k) (section_line k r.begun ++ (drift_lines told ++ pulse_lines m 0 states)) (machine_told homes m k)
    (told_append homes m (section_line k r.begun) (drift_lines told ++ pulse_lines m 0 states) (section_told homes m k r.begun) (told_append homes m (drift_lines told) (pulse_lines m 0 states) (drift_told homes m told) (pulses_told homes m 0 states)))

pub boards_told : (homes : Bool) (m : Machine) (k b : ℕ) (ls : List Line) → AreTold homes m (connected_lines k b ls)
boards_told homes m k b [] = tt
boards_told homes m k b (l ∷ ls) = (tt, boards_told homes m k (b + 1) ls)

count_told : (homes : Bool) (m : Machine) (o : Option Reading) → AreTold homes m (count_lines o)
count_told homes m None = tt
count_told homes m (Some r) = (tt, tt)

cut_told : (homes : Bool) (m : Machine) (switches : List Switch) (section : ℕ) (axis : AxisDef) (o : Option ℕ) → homes ≡ true → AreTold homes m (cut_line m switches section axis o)
cut_told homes m switches section axis None h = tt
cut_told homes m switches section axis (Some tick) h = (h, tt)

-- the run homes, or no section homes here
abbrev MayHome : Bool → Option Homing → Type 0
MayHome homes o = (homes ≡ true) ⊎ (o ≡ None)

turn_told : (homes : Bool) (m : Machine) (switches : List Switch) (clocks : List Clocks) (k : ℕ) (states : List State) (o : Option Homing) → MayHome homes o
    → AreTold homes m (cut_line m switches (homing_turn clocks k states o).section (axis_at m (homing_turn clocks k states o).axis) (homing_turn clocks k states o).cut)
turn_told homes m switches clocks k states o p7 = search (rules, homing_turn, cut_told, axis_at)

-- what a turn gives
abbrev Tells : Bool → Machine → Reacted → Type 0
Tells homes m x = AreTold homes m x.ordered.lines

either : (homes : Bool) (m : Machine) (b : Bool) (x y : Reacted) → Tells homes m x → Tells homes m y → Tells homes m (if b then x else y)
either homes m true x y a b = a
either homes m false x y a b = b

connecting : (homes : Bool) (o : Option Cause) (m : Machine) (r : Known) (k : ℕ) (lines : List ReportLine) (askings : List Asking) → AreTold homes m lines → Tells homes m (unless_given_up o m r k lines askings)
connecting homes (Some cause) m r k lines askings told = told
connecting homes None m r k lines askings told =
    either homes m (all_connected askings) (is_connected_now m r k lines askings) (asks_boards m r k lines askings) (told_append homes m lines (connected_lines k 0 (board_lines m 0 askings)) told (boards_told homes m k 0 (board_lines m 0 askings))) told

finishing : (homes : Bool) (s : ReadStop) (m : Machine) (r : Known) (k : ℕ) (lines : List ReportLine) (askings : List Asking) (turn : HomingTurn) → AreTold homes m lines → Tells homes m (finishes s m r k lines askings turn)
finishing homes (read.Stop line) m r k lines askings turn told = told
finishing homes c m r k lines askings turn told = told_append homes m lines (count_lines r.reading) told (count_told homes m r.reading)

homing : (homes : Bool) (o : Option Cause) (m : Machine) (r : Known) (k : ℕ) (states : List State) (lines cut : List ReportLine) (askings : List Asking) (turn : HomingTurn) → AreTold homes m lines → AreTold homes m cut → Tells homes m (unless_homing_ends o m r k states lines cut askings turn)
homing homes o m r k states lines cut askings turn p10 p11 = search (rules, told_append, either, stop_of, finishing)

running : (homes : Bool) (o : Option Cause) (m : Machine) (switches : List Switch) (r : Known) (k : ℕ) (states : List State) (lines : List ReportLine) (askings : List Asking) → MayHome homes r.homing → AreTold homes m lines → Tells homes m (unless_stale o m switches r k states lines askings)
running homes o m switches r k states lines askings p9 p10 = search (rules, homing_turn, homing, cut_line, axis_at, turn_told)

stopping : (homes : Bool) (o : Option Cause) (m : Machine) (r : Known) (k : ℕ) (lines : List ReportLine) (line : ℕ) → AreTold homes m lines → Tells homes m (unless_late_stale o m r k lines line)
stopping homes (Some cause) m r k lines line told = told
stopping homes None m r k lines line told = told_append homes m lines (count_lines r.reading) told (count_told homes m r.reading)

phases : (homes : Bool) (p : Phase) (m : Machine) (switches : List Switch) (r : Known) (k : ℕ) (states : List State) (lines : List ReportLine) → MayHome homes r.homing → AreTold homes m lines → Tells homes m (by_phase p m switches r k states lines)
phases homes Connecting m switches r k states lines h told = (let askings = ready_all m 0 (listen_all r.askings.items states) in connecting homes (giving_up k 0 askings) m r k lines askings told)
phases homes Running m switches r k states lines h told = (let askings = listen_all r.askings.items states in running homes (stale k 0 askings) m switches r k states lines askings h told)
phases homes (Stopping line) m switches r k states lines h told = stopping homes (stale k 0 (listen_all r.askings.items states)) m r k lines line told

unless : (homes : Bool) (o : Option Cause) (m : Machine) (switches : List Switch) (r : Known) (k : ℕ) (states : List State) (lines : List ReportLine) → MayHome homes r.homing → AreTold homes m lines → Tells homes m (unless_ended o m switches r k states lines)
unless homes (Some cause) m switches r k states lines h told = told
unless homes None m switches r k states lines h told = phases homes r.phase m switches r k states lines h told

pub reacts_told : (homes : Bool) (m : Machine) (switches : List Switch) (r : Known) (k : ℕ) (states : List State) (note : Option Note) → MayHome homes (noted m note r).homing → AreTold homes m (reacts m switches r k states note).ordered.lines
reacts_told homes m switches r k states note h =
    let s = noted m note r in
    unless homes (first_cause (is_out note) s.stopped states) m switches s k states (first_lines m s k (news_of note) states) h (first_told homes m s k (news_of note) states)

-- so all turns of a run of moves
moves_before : (before : List Came) (rs : List ReactorTurn) → AllMoves (came_from before rs) → AllMoves before
moves_before before [] h = h
moves_before before (r ∷ rs) h = (moves_before (came_in r ∷ before) rs h).1

turn_is : (m : Machine) (switches : List Switch) (before : List Came) (t : ReactorTurn) → GoesOn m switches before → AllMoves (came_in t ∷ before)
    → t.lines ≡ (reacts m switches (known_by m switches before) (length before) t.states t.note).ordered.lines → AreTold false m t.lines
turn_is m switches before t g a e =
    let r = known_by m switches before in
    subst (λ (z : List ReportLine). AreTold false m z) (sym e) (reacts_told false m switches r (length before) t.states t.note (inr (noted_none m t.note r (known_none m switches before g a.1) a.0)))

pub turns_told : (m : Machine) (switches : List Switch) (before : List Came) (rs : List ReactorTurn) (end : ReactorTurn) → AreReactorTurns m switches before rs → GoesOn m switches before → AllMoves (came_from before (rs ++ end ∷ []))
    → end.lines ≡ (reacts m switches (known_by m switches (came_from before rs)) (length (came_from before rs)) end.states end.note).ordered.lines → AreTold false m (gather (λ t. t.lines) (rs ++ end ∷ []))
turns_told m switches before [] end turns g a e = told_append false m end.lines [] (turn_is m switches before end g a e) tt
turns_told m switches before (r ∷ rs) end turns g a e =
    told_append false m r.lines (gather (λ (t : ReactorTurn). t.lines) (rs ++ end ∷ [])) (turn_is m switches before r g (moves_before (came_in r ∷ before) (rs ++ end ∷ []) a) turns.0.lines_are)
    (turns_told m switches (came_in r ∷ before) rs end turns.1 (turns.0.goes_on, g) a e)

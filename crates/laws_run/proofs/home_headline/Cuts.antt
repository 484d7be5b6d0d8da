-- A line that tells of a switch stands in the turn whose word tells of the answer.
use Rattle.std.proofs.Common.{◌≡◌, ℕ, ◌⊎◌, Bool, true, false, cond, List, [], ◌∷◌, ◌++◌, length, map, Option, Some, None, refl, ap, sym, ◌∙◌, subst, inl, inr, append-nil, rules}
use Rattle.std.specs.Prelude.{nat_le}
use Rattle.laws_board.proofs.Names.{flat_map-append, Cause, Machine, ReadStop, Clocks, axis_at, Note, State, ReportLine, Switch, Member, Fired, Seen, all_fired, Homing, HomingTurn, answer_in, by_answer, hears_all, homing_turn, members_of, Asking, all_connected, giving_up, listen_all, ready_all, stale, Known, Phase, Connecting, Stopping, is_out, news_of, noted, Reacted, by_phase, cut_line, reacts, unless_ended, unless_stale, first_lines, first_cause, stop_of, Came, GoesOn, known_by, last_reacted, Started, ReactorTurn, Scene, Run, states-kept, both_parts}
use Rattle.plan_types.specs.declared.plan.ReadStop.TheVariants as read
use Rattle.report_text.specs.declared.line.ReportLine.TheVariants as report
use Rattle.trigger_group.specs.declared.order.End.TheVariants.{Endstop}
use Rattle.trigger_group.specs.Group.{expired, first_expired, has_fired}
use Rattle.board_asking.specs.Connecting.{board_lines, connected_lines}
use Rattle.board_asking.specs.Drift.{new_lines}
use Rattle.host_reactor.specs.declared.ordered.Phase.TheVariants.{Running}
use Rattle.host_reactor.specs.Reactor.{after_homing, asks_boards, carries_on, finishes, homed, is_connected_now, unless_given_up, unless_homing_ends, unless_late_stale}
use Rattle.host_reactor.specs.Running.{is_finished}
use Rattle.laws_run.specs.run_headline.Told.{AreTold}
use Rattle.laws_run.proofs.run_headline.Telling.{boards_told, first_told}
use Rattle.laws_homing.specs.home_runs.Words.{TellsHomed}
use Rattle.laws_homing.proofs.home_runs.Knowing.{lines_none, switch_answer}
use Rattle.laws_homing.specs.home_plans.Notes.{CameNotes, WasBegun}
use Rattle.laws_homing.proofs.home_plans.Knowing.{now_was}
use Rattle.io_core.specs.declared.traits.Files.{Ghosts as Files}
use Rattle.io_core.specs.declared.traits.Sink.{Ghosts as Sink}
use Rattle.session_lanes.specs.declared.near.Told as near
use Rattle.session_run.specs.declared.tell.Kept.{Kept}
use Rattle.session_run.specs.Boards.{AreReactorTurns, came_in}
use Rattle.session_run.specs.Runs.{RunsOver}
use Rattle.laws_run.proofs.run_headline.Making.{run_turns}
use Rattle.laws_homing.specs.switch_runs.Reports.{WasReported}
use Rattle.laws_homing.proofs.clear_boards.Keeping.{hears_keep}
use Rattle.laws_homing.proofs.home_runs.Grouped.{answered}
use Rattle.laws_homing.proofs.fired_runs.Reported.{Each, all_told, answer_told, closed_unexpired}
use Rattle.laws_homing.proofs.missed_groups.Answering.{else_none, fired_some, none_expired}
use Rattle.laws_run.specs.clear_homes.First.{NoneExpired}
use Rattle.laws_run.specs.home_headline.Cuts.{TellAnswers, TellsAnswer, TellsCut, TellsNoAnswer, cut_in, cuts_of}

abbrev pub end_of : Reacted → Option Cause
end_of x = x.ordered.end

-- lines of a run that doesn't home tell of no switch
pub uncut : (m : Machine) (ls : List ReportLine) → AreTold false m ls → cuts_of ls ≡ []
uncut m [] a = refl
uncut m (report.Cut section board pin tick from ∷ ls) a = absurd (let e : false ≡ true = a.0 in cc)
uncut m (l ∷ ls) a = uncut m ls a.1

pub uncut_both : (xs ys : List ReportLine) → cuts_of xs ≡ [] → cuts_of (xs ++ ys) ≡ cuts_of ys
uncut_both xs ys e = flat_map-append cut_in xs ys ∙ ap (λ z. z ++ cuts_of ys) e

-- A turn of the reactor, by what homing does in it: its word tells of an answer and one of its lines of the switch, or neither.
pub record IsCut (m : Machine) (switches : List Switch) (turn : HomingTurn) (x : Reacted) : Type 0 where
  pub tick : ℕ
  pub cut : turn.cut ≡ Some tick
  pub tells : TellsHomed x.ordered.word.news
  pub lines : cuts_of x.ordered.lines ≡ cut_line m switches turn.section (axis_at m turn.axis) (Some tick)

pub record IsUncut (x : Reacted) : Type 0 where
  pub none : TellsHomed x.ordered.word.news → ⊥
  pub lines : cuts_of x.ordered.lines ≡ []

carried : (m : Machine) (switches : List Switch) (r : Known) (k : ℕ) (lines : List ReportLine) (old askings : List Asking) (turn : HomingTurn) (stop cut : Option ℕ) → turn.cut ≡ cut → cuts_of lines ≡ [] → r.askings.items ≡ old
    → IsCut m switches turn (carries_on m r k (lines ++ cut_line m switches turn.section (axis_at m turn.axis) cut) askings turn stop) ⊎ IsUncut (carries_on m r k (lines ++ cut_line m switches turn.section (axis_at m turn.axis) cut) askings turn stop)
carried m switches r k lines old askings turn stop cut p10 p11 p12 = search (rules, cut_line, axis_at, uncut_both, lines_none, append-nil)

finished : (o : ReadStop) (m : Machine) (switches : List Switch) (r : Known) (k : ℕ) (lines : List ReportLine) (askings : List Asking) (turn : HomingTurn) → cuts_of lines ≡ []
    → end_of (finishes o m r k (lines ++ cut_line m switches turn.section (axis_at m turn.axis) turn.cut) askings turn) ≡ None
    → IsCut m switches turn (finishes o m r k (lines ++ cut_line m switches turn.section (axis_at m turn.axis) turn.cut) askings turn)
    ⊎ IsUncut (finishes o m r k (lines ++ cut_line m switches turn.section (axis_at m turn.axis) turn.cut) askings turn)
finished (read.Stop line) m switches r k lines askings turn none e = carried m switches r k lines r.askings.items askings turn (Some line) turn.cut refl none refl
finished c m switches r k lines askings turn none e = cc

ends_or_on : (b : Bool) (m : Machine) (switches : List Switch) (r : Known) (k : ℕ) (lines : List ReportLine) (askings : List Asking) (turn : HomingTurn) → cuts_of lines ≡ []
    → end_of (cond b (finishes (stop_of r.reading) m r k (lines ++ cut_line m switches turn.section (axis_at m turn.axis) turn.cut) askings turn) (carries_on m r k (lines ++ cut_line m switches turn.section (axis_at m turn.axis) turn.cut) askings turn None)) ≡ None
    → IsCut m switches turn (cond b (finishes (stop_of r.reading) m r k (lines ++ cut_line m switches turn.section (axis_at m turn.axis) turn.cut) askings turn) (carries_on m r k (lines ++ cut_line m switches turn.section (axis_at m turn.axis) turn.cut) askings turn None))
    ⊎ IsUncut (cond b (finishes (stop_of r.reading) m r k (lines ++ cut_line m switches turn.section (axis_at m turn.axis) turn.cut) askings turn) (carries_on m r k (lines ++ cut_line m switches turn.section (axis_at m turn.axis) turn.cut) askings turn None))
ends_or_on true m switches r k lines askings turn none e = finished (stop_of r.reading) m switches r k lines askings turn none e
ends_or_on false m switches r k lines askings turn none e = carried m switches r k lines r.askings.items askings turn None turn.cut refl none refl

homing_cuts : (o : Option Cause) (m : Machine) (switches : List Switch) (r : Known) (k : ℕ) (states : List State) (lines : List ReportLine) (askings : List Asking) (turn : HomingTurn) → cuts_of lines ≡ []
    → end_of (unless_homing_ends o m r k states lines (cut_line m switches turn.section (axis_at m turn.axis) turn.cut) askings turn) ≡ None
    → IsCut m switches turn (unless_homing_ends o m r k states lines (cut_line m switches turn.section (axis_at m turn.axis) turn.cut) askings turn)
    ⊎ IsUncut (unless_homing_ends o m r k states lines (cut_line m switches turn.section (axis_at m turn.axis) turn.cut) askings turn)
homing_cuts (Some cause) m switches r k states lines askings turn none e = cc
homing_cuts None m switches r k states lines askings turn none e = ends_or_on (is_finished r k states) m switches r k lines askings turn none e

stale_cuts : (o : Option Cause) (m : Machine) (switches : List Switch) (r : Known) (k : ℕ) (states : List State) (lines : List ReportLine) (askings : List Asking) → cuts_of lines ≡ [] → end_of (unless_stale o m switches r k states lines askings) ≡ None
    → IsCut m switches (homing_turn r.clocks k states r.homing) (unless_stale o m switches r k states lines askings) ⊎ IsUncut (unless_stale o m switches r k states lines askings)
stale_cuts o m switches r k states lines askings p8 p9 = search (rules, homing_turn, homing_cuts)

given_cuts : (o : Option Cause) (m : Machine) (r : Known) (k : ℕ) (lines : List ReportLine) (askings : List Asking) → cuts_of lines ≡ [] → end_of (unless_given_up o m r k lines askings) ≡ None → IsUncut (unless_given_up o m r k lines askings)
given_cuts (Some cause) m r k lines askings none e = cc
given_cuts None m r k lines askings none e = by (all_connected askings)
  where
    by : (b : Bool) → IsUncut (cond b (is_connected_now m r k lines askings) (asks_boards m r k lines askings))
    by true =
        let ls = board_lines m 0 askings in
        record { none = λ t. t; lines = uncut_both lines (connected_lines k 0 ls) none ∙ uncut m (connected_lines k 0 ls) (boards_told false m k 0 ls) }
    by false = record { none = λ t. t; lines = none }

late_cuts : (o : Option Cause) (m : Machine) (r : Known) (k : ℕ) (lines : List ReportLine) (line : ℕ) → end_of (unless_late_stale o m r k lines line) ≡ None → IsUncut (unless_late_stale o m r k lines line)
late_cuts (Some cause) m r k lines line e = cc
late_cuts None m r k lines line e = cc

phase_cuts : (p : Phase) (m : Machine) (switches : List Switch) (r : Known) (k : ℕ) (states : List State) (lines : List ReportLine) → cuts_of lines ≡ [] → end_of (by_phase p m switches r k states lines) ≡ None
    → IsCut m switches (homing_turn r.clocks k states r.homing) (by_phase p m switches r k states lines) ⊎ IsUncut (by_phase p m switches r k states lines)
phase_cuts p m switches r k states lines p7 p8 = search (rules, ready_all, listen_all, given_cuts, giving_up, stale_cuts, stale, late_cuts)

ended_cuts : (o : Option Cause) (m : Machine) (switches : List Switch) (r : Known) (k : ℕ) (states : List State) (lines : List ReportLine) → cuts_of lines ≡ [] → end_of (unless_ended o m switches r k states lines) ≡ None
    → IsCut m switches (homing_turn r.clocks k states r.homing) (unless_ended o m switches r k states lines) ⊎ IsUncut (unless_ended o m switches r k states lines)
ended_cuts (Some cause) m switches r k states lines none e = cc
ended_cuts None m switches r k states lines none e = phase_cuts r.phase m switches r k states lines none e

pub turn_cuts : (m : Machine) (switches : List Switch) (r : Known) (k : ℕ) (states : List State) (note : Option Note) → (reacts m switches r k states note).ordered.end ≡ None
    → IsCut m switches (homing_turn (noted m note r).clocks k states (noted m note r).homing) (reacts m switches r k states note) ⊎ IsUncut (reacts m switches r k states note)
turn_cuts m switches r k states note e =
    let s = noted m note r in
    let lines = first_lines m s k (news_of note) states in
    ended_cuts (first_cause (is_out note) s.stopped states) m switches s k states lines (uncut m lines (first_told false m s k (news_of note) states)) e

-- where the run goes on and a group answers that its switch closed, the word tells of it
carried_tells : (m : Machine) (r : Known) (k : ℕ) (lines : List ReportLine) (askings : List Asking) (turn : HomingTurn) (stop : Option ℕ) (tick : ℕ) → turn.cut ≡ Some tick → TellsHomed (carries_on m r k lines askings turn stop).ordered.word.news
carried_tells m r k lines askings turn stop tick e = let At : Option ℕ → Type 0 = λ o. TellsHomed (homed o ++ new_lines m 0 r.askings.items askings) in subst At (sym e) tt

finished_tells : (o : ReadStop) (m : Machine) (r : Known) (k : ℕ) (lines : List ReportLine) (askings : List Asking) (turn : HomingTurn) (tick : ℕ) → end_of (finishes o m r k lines askings turn) ≡ None → turn.cut ≡ Some tick
    → TellsHomed (finishes o m r k lines askings turn).ordered.word.news
finished_tells (read.Stop line) m r k lines askings turn tick e cut = carried_tells m r k lines askings turn (Some line) tick cut
finished_tells c m r k lines askings turn tick e cut = cc

on_tells : (b : Bool) (m : Machine) (r : Known) (k : ℕ) (lines : List ReportLine) (askings : List Asking) (turn : HomingTurn) (tick : ℕ)
    → end_of (cond b (finishes (stop_of r.reading) m r k lines askings turn) (carries_on m r k lines askings turn None)) ≡ None → turn.cut ≡ Some tick
    → TellsHomed (cond b (finishes (stop_of r.reading) m r k lines askings turn) (carries_on m r k lines askings turn None)).ordered.word.news
on_tells true m r k lines askings turn tick e cut = finished_tells (stop_of r.reading) m r k lines askings turn tick e cut
on_tells false m r k lines askings turn tick e cut = carried_tells m r k lines askings turn None tick cut

homing_tells : (o : Option Cause) (m : Machine) (r : Known) (k : ℕ) (states : List State) (lines cuts : List ReportLine) (askings : List Asking) (turn : HomingTurn) (tick : ℕ)
    → end_of (unless_homing_ends o m r k states lines cuts askings turn) ≡ None → turn.cut ≡ Some tick → TellsHomed (unless_homing_ends o m r k states lines cuts askings turn).ordered.word.news
homing_tells (Some cause) m r k states lines cuts askings turn tick e cut = cc
homing_tells None m r k states lines cuts askings turn tick e cut = on_tells (is_finished r k states) m r k (lines ++ cuts) askings turn tick e cut

stale_tells : (o : Option Cause) (m : Machine) (switches : List Switch) (r : Known) (k : ℕ) (states : List State) (lines : List ReportLine) (askings : List Asking) (tick : ℕ) → end_of (unless_stale o m switches r k states lines askings) ≡ None
    → (homing_turn r.clocks k states r.homing).cut ≡ Some tick → TellsHomed (unless_stale o m switches r k states lines askings).ordered.word.news
stale_tells o m switches r k states lines askings tick p9 p10 = search (rules, homing_turn, homing_tells, cut_line, axis_at)

phase_tells : (p : Phase) (m : Machine) (switches : List Switch) (r : Known) (k : ℕ) (states : List State) (lines : List ReportLine) (tick : ℕ) → p ≡ Running → end_of (by_phase p m switches r k states lines) ≡ None
    → (homing_turn r.clocks k states r.homing).cut ≡ Some tick → TellsHomed (by_phase p m switches r k states lines).ordered.word.news
phase_tells Running m switches r k states lines tick is e cut = let askings = listen_all r.askings.items states in stale_tells (stale k 0 askings) m switches r k states lines askings tick e cut
phase_tells c m switches r k states lines tick is e cut = cc

ended_tells : (o : Option Cause) (m : Machine) (switches : List Switch) (r : Known) (k : ℕ) (states : List State) (lines : List ReportLine) (tick : ℕ) → r.phase ≡ Running → end_of (unless_ended o m switches r k states lines) ≡ None
    → (homing_turn r.clocks k states r.homing).cut ≡ Some tick → TellsHomed (unless_ended o m switches r k states lines).ordered.word.news
ended_tells (Some cause) m switches r k states lines tick is e cut = cc
ended_tells None m switches r k states lines tick is e cut = phase_tells r.phase m switches r k states lines tick is e cut

turn_tells : (m : Machine) (switches : List Switch) (r : Known) (k : ℕ) (states : List State) (note : Option Note) (tick : ℕ) → (noted m note r).phase ≡ Running → (reacts m switches r k states note).ordered.end ≡ None
    → (homing_turn (noted m note r).clocks k states (noted m note r).homing).cut ≡ Some tick → TellsHomed (reacts m switches r k states note).ordered.word.news
turn_tells m switches r k states note tick is e cut =
    let s = noted m note r in
    ended_tells (first_cause (is_out note) s.stopped states) m switches s k states (first_lines m s k (news_of note) states) tick is e cut

-- what homing tells where a group answers
cut_of : (clocks : List Clocks) (k : ℕ) (states : List State) (o : Option Homing) (h : Homing) (tick : ℕ) → o ≡ Some h → answer_in k h.start (hears_all clocks states h).group ≡ Some (Endstop tick) → (homing_turn clocks k states o).cut ≡ Some tick
cut_of clocks k states o h tick is answer =
    let g = hears_all clocks states h in
    ap (λ x. (homing_turn clocks k states x).cut) is ∙ ap (λ x. (by_answer k g x).cut) answer

-- the answer that a line tells
pub answer_of : (clocks : List Clocks) (k : ℕ) (states : List State) (o : Option Homing) (tick : ℕ) → (homing_turn clocks k states o).cut ≡ Some tick
    → (h : Homing) × (o ≡ Some h) × (answer_in k h.start (hears_all clocks states h).group ≡ Some (Endstop tick)) × ((homing_turn clocks k states o).section ≡ h.section) × ((homing_turn clocks k states o).axis ≡ h.axis)
answer_of clocks k states o tick p5 = search (rules, hears_all, switch_answer, answer_in, by_answer)

-- by what came
pub told_cut : (m : Machine) (switches : List Switch) (c : Came) (before : List Came) → (last_reacted m switches c before).ordered.end ≡ None → TellsHomed (last_reacted m switches c before).ordered.word.news → TellsCut m switches c before
told_cut m switches c before e t =
    let r = known_by m switches before in
    let n = noted m c.note r in
    elim (turn_cuts m switches r (length before) c.states c.note e) [
      | inr u ↦ absurd (u.none t)
      | inl x ↦
          let a = answer_of n.clocks (length before) c.states n.homing x.tick x.cut in
          record {
            homing = a.0;
            known = a.1;
            tick = x.tick;
            answer = a.2;
            lines = x.lines ∙ ap (λ s. cut_line m switches s (axis_at m (homing_turn n.clocks (length before) c.states n.homing).axis) (Some x.tick)) a.3 ∙ ap (λ i. cut_line m switches a.0.section (axis_at m i) (Some x.tick)) a.4;
          }
    ]

pub told_none : (m : Machine) (switches : List Switch) (c : Came) (before : List Came) → (last_reacted m switches c before).ordered.end ≡ None → (TellsHomed (last_reacted m switches c before).ordered.word.news → ⊥) → cuts_of (last_reacted m switches c before).ordered.lines ≡ []
told_none m switches c before e none = elim (turn_cuts m switches (known_by m switches before) (length before) c.states c.note e) [ inl x ↦ absurd (none x.tells) | inr u ↦ u.lines ]

-- the section is one that the planner began
pub told_section : (m : Machine) (switches : List Switch) (begun : List Started) (c : Came) (before : List Came) → GoesOn m switches before → CameNotes begun (c ∷ before) → (x : TellsCut m switches c before) → WasBegun begun (Some x.homing)
told_section m switches begun c before g notes x = subst (λ (o : Option Homing). WasBegun begun o) x.known (now_was m switches begun c before g notes)

-- none of the members of a group that answers so told that it expired in time
all_unexpired : (W : ℕ → Fired → Type 0) (own last : ℕ) (xs : List Seen) → Each W own xs → all_fired xs ≡ true → first_expired last xs ≡ None → NoneExpired W last (map (λ (x : Seen). x.member) xs)
all_unexpired W own last [] each all none = tt
all_unexpired W own last (x ∷ xs) each all none =
    let parts = both_parts (has_fired x.fired) (all_fired xs) all in
    let some = fired_some x.fired parts.0 in
    let none_both = else_none (expired last x.member.board x.fired) (first_expired last xs) none in
    ((some.0, each.0.0 some.0 some.1, λ two early. none_expired last x.member.board x.fired some.0 some.1 none_both.0 two early), all_unexpired W own last xs each.1 parts.1 none_both.1)

pub closed_told : (m : Machine) (switches : List Switch) (c : Came) (before : List Came) (h : Homing) (tick : ℕ) → GoesOn m switches before → (noted m c.note (known_by m switches before)).homing ≡ Some h
    → answer_in (length before) h.start (hears_all (noted m c.note (known_by m switches before)).clocks c.states h).group ≡ Some (Endstop tick)
    → NoneExpired (λ b f. WasReported m switches b h.start f (c ∷ before)) h.group.last (members_of h.group)
closed_told m switches c before h tick goes known answers =
    let n = noted m c.note (known_by m switches before) in
    let g = (hears_all n.clocks c.states h).group in
    let W : ℕ → Fired → Type 0 = λ b f. WasReported m switches b h.start f (c ∷ before) in
    let none = all_unexpired W (axis_at m h.axis).board g.last g.members (all_told m switches c before h goes known) (answered (nat_le h.start (length before)) g (Endstop tick) answers) (closed_unexpired (length before) h.start g tick answers) in
    let Out : List Member → Type 0 = λ ms. NoneExpired W g.last ms in
    let At : ℕ → Type 0 = λ k. NoneExpired W k (members_of h.group) in
    subst At (hears_keep n.clocks c.states h).last (subst Out (states-kept n.clocks 0 h.start c.states h.group) none)

-- a turn whose word tells of an answer
abbrev pub tells_answer : (m : Machine) (switches : List Switch) (c : Came) (before : List Came) (lines : List ReportLine) → GoesOn m switches before → TellsCut m switches c before → lines ≡ (last_reacted m switches c before).ordered.lines
    → TellsAnswer m switches c before lines
tells_answer m switches c before lines goes told are =
    let fired = answer_told m switches c before told.homing told.tick goes told.known told.answer in
    record {
      homing = told.homing;
      known = told.known;
      tick = told.tick;
      answer = told.answer;
      turn = fired.0;
      told = fired.1;
      unexpired = closed_told m switches c before told.homing told.tick goes told.known told.answer;
      lines_are = ap cuts_of are ∙ told.lines;
    }

-- a turn that goes on tells of a switch exactly where a group answers that it closed
turn_answers : (m : Machine) (switches : List Switch) (c : Came) (before : List Came) (lines : List ReportLine) → GoesOn m switches before → (last_reacted m switches c before).ordered.end ≡ None → lines ≡ (last_reacted m switches c before).ordered.lines
    → TellsAnswer m switches c before lines ⊎ TellsNoAnswer m switches c before lines
turn_answers m switches c before lines goes e are =
    let r = known_by m switches before in
    let n = noted m c.note r in
    elim (turn_cuts m switches r (length before) c.states c.note e) [
      | inl x ↦
          let told = told_cut m switches c before e x.tells in
          inl (tells_answer m switches c before lines goes told are)
      | inr u ↦
          inr (record {
            none = λ h tick runs known answer. u.none (turn_tells m switches r (length before) c.states c.note tick runs e (cut_of n.clocks (length before) c.states n.homing h tick known answer));
            lines_are = ap cuts_of are ∙ u.lines;
          })
    ]

pub turns_answer : (m : Machine) (switches : List Switch) (before : List Came) (rs : List ReactorTurn) → GoesOn m switches before → AreReactorTurns m switches before rs → TellAnswers m switches before rs
turns_answer m switches before [] goes turns = tt
turns_answer m switches before (t ∷ ts) goes turns =
    (turn_answers m switches (came_in t) before t.lines goes turns.0.goes_on turns.0.lines_are, turns_answer m switches (came_in t ∷ before) ts (turns.0.goes_on, goes) turns.1)

-- so the turns of a whole run, but the last one
pub run_answers : {F S : Type 0} (f : Files F) (o : Sink S) (m : Machine) (s : Scene) (name : List ℕ) (files files' : F) (out out' : S) (kept kept' : Kept) (t : near.Told Run) (r : RunsOver f o m s name files out kept t files' out' kept') → TellAnswers m s.switches [] r.runs.1
run_answers f o m s name files files' out out' kept kept' t r = turns_answer m s.switches [] r.runs.1 tt (run_turns f o m s name files files' out out' kept kept' t r)

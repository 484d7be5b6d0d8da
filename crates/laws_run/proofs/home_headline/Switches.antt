-- Each turn of a whole run tells of a switch exactly where a homing section ended in it.
use Rattle.std.proofs.Common.{◌≡◌, ℕ, suc, ◌+◌, ◌-◌, ◌≤◌, ◌⊎◌, Bool, true, false, cond, List, [], ◌∷◌, ◌++◌, All, length, Option, Some, None, refl, ap, sym, ◌∙◌, subst, arith, inl, inr, append-nil, append_assoc, length-append}
use Rattle.laws_board.proofs.Names.{∥∥₁_map, leb_tells, length-map, Cause, AxisDef, Machine, ReadStop, Home, IsValidMachine, axis_at, Note, State, ReportLine, Scene, Switch, Homing, HomingTurn, homing_turn, Asking, all_connected, giving_up, listen_all, ready_all, stale, Known, Phase, Connecting, Stopping, is_out, news_of, noted, Reacted, Run, by_phase, cut_line, reacts, unless_ended, unless_stale, first_lines, first_cause, stop_of, Came, GoesOn, known_by, last_reacted, Started, MotionTurn, ReactorTurn}
use Rattle.std.proofs.Math.Logic.{∥∥₁_elim}
use Rattle.std.proofs.Props.{props}
use Rattle.plan_types.specs.declared.cause.Cause.TheVariants as cause
use Rattle.plan_types.specs.declared.plan.ReadStop.TheVariants as read
use Rattle.io_core.specs.declared.traits.Files.{Ghosts as Files}
use Rattle.io_core.specs.declared.traits.Sink.{Ghosts as Sink}
use Rattle.host_reactor.specs.declared.ordered.Phase.TheVariants.{Running}
use Rattle.host_reactor.specs.declared.ordered.Reading.{Reading}
use Rattle.host_reactor.specs.Reactor.{after_homing, asks_boards, carries_on, finishes, is_connected_now, unless_given_up, unless_homing_ends, unless_late_stale}
use Rattle.host_reactor.specs.Report.{count_lines}
use Rattle.host_reactor.specs.Running.{is_finished}
use Rattle.session_lanes.specs.declared.near.Told as near
use Rattle.session_run.specs.declared.tell.Kept.{Kept}
use Rattle.session_run.specs.Boards.{AreReactorTurns, came_from, came_in}
use Rattle.session_run.specs.Runs.{RunsOver}
use Rattle.laws_board.specs.plans.Planned.{Plans, put_of}
use Rattle.laws_board.proofs.plans.Beginning.{Spread}
use Rattle.laws_board.proofs.plans.Spreading.{plans_spread}
use Rattle.laws_run.specs.run_ends.Ends.{GoesThrough}
use Rattle.laws_run.proofs.run_ends.Ending.{own_cause, none_some, same_cause}
use Rattle.laws_run.specs.run_headline.Made.{IsMade}
use Rattle.laws_run.specs.run_headline.Timely.{clocks_heard, ready_heard}
use Rattle.laws_run.proofs.run_headline.Cutting.{run_silent}
use Rattle.laws_run.proofs.run_headline.Earlier.{over_at}
use Rattle.laws_run.proofs.run_headline.Making.{run_made}
use Rattle.laws_run.proofs.run_headline.Runs.{facts, run_ended}
use Rattle.laws_run.proofs.run_headline.Showing.{Ended, Facts, alone_ends, came_long, few, hears, in_none, long_own, notes_before, starts_late, through_long, took_notes, untold_alone}
use Rattle.laws_run.proofs.run_headline.Telling.{first_told}
use Rattle.laws_homing.specs.home_runs.Words.{TellsHomed}
use Rattle.laws_homing.specs.home_plans.Notes.{CameNotes, WasBegun}
use Rattle.laws_board.specs.plans.Rows.{AreInARow}
use Rattle.laws_homing.proofs.home_plans.Knowing.{now_was}
use Rattle.laws_homing.specs.home_parts.Answers.{IsPlannedBy, TellsIn}
use Rattle.laws_homing.proofs.home_parts.Ends.{ends_low, ends_told, in_row, ready, waits_silent}
use Rattle.laws_homing.proofs.home_parts.Known.{known_silent, none_tells, tells_known}
use Rattle.laws_homing.proofs.home_parts.Told.{tells_now, tells_tail}
use Rattle.laws_board.proofs.plans.Rows.{row_from}
use Rattle.laws_run.specs.home_headline.Cuts.{EndsIn, TellEnds, TellsNone, TellsSwitch, cuts_of}
use Rattle.laws_run.specs.home_headline.Follow.{AllShowHomes}
use Rattle.laws_board.specs.causes.Short.{HaveShortDictionaries}
use Rattle.laws_run.specs.home_headline.Near.{AllKeepUp}
use Rattle.laws_run.proofs.home_headline.Cuts.{answer_of, end_of, told_cut, told_section, turn_cuts, uncut, uncut_both}
use Rattle.laws_run.proofs.home_headline.Ended.{goes_behind, notes_behind}
use Rattle.laws_run.proofs.home_headline.Planned.{all_notes, planned_by}
use Rattle.laws_run.proofs.home_headline.Shows.{all_shows}
use Rattle.laws_homing.proofs.fired_runs.Heard.{some_same}

-- a turn that ends a run for a cause tells of no switch; or the run went through, and a group answered in it
abbrev Ending : Reacted → Cause → Option ℕ → Type 0
Ending x c cut = (cuts_of x.ordered.lines ≡ []) ⊎ (GoesThrough c × ((tick : ℕ) × (cut ≡ Some tick)))

uncounted : (o : Option Reading) → cuts_of (count_lines o) ≡ []
uncounted None = refl
uncounted (Some r) = refl

over_lines : (m : Machine) (switches : List Switch) (section : ℕ) (axis : AxisDef) (cut : Option ℕ) (lines : List ReportLine) (o : Option Reading) → cuts_of lines ≡ []
    → (cuts_of ((lines ++ cut_line m switches section axis cut) ++ count_lines o) ≡ []) ⊎ ((tick : ℕ) × (cut ≡ Some tick))
over_lines m switches section axis (Some tick) lines o none = inr (tick, refl)
over_lines m switches section axis None lines o none = inl (uncut_both (lines ++ []) (count_lines o) (ap cuts_of (append-nil lines) ∙ none) ∙ uncounted o)

finished_last : (o : ReadStop) (m : Machine) (switches : List Switch) (r : Known) (k : ℕ) (lines : List ReportLine) (askings : List Asking) (turn : HomingTurn) (c : Cause) → cuts_of lines ≡ []
    → end_of (finishes o m r k (lines ++ cut_line m switches turn.section (axis_at m turn.axis) turn.cut) askings turn) ≡ Some c
    → Ending (finishes o m r k (lines ++ cut_line m switches turn.section (axis_at m turn.axis) turn.cut) askings turn) c turn.cut
finished_last (read.Stop line) m switches r k lines askings turn c none e = absurd (none_some c e)
finished_last read.End m switches r k lines askings turn c none e = elim (over_lines m switches turn.section (axis_at m turn.axis) turn.cut lines r.reading none) [
  | inl n ↦ inl n
  | inr t ↦ inr (subst (λ (z : Cause). GoesThrough z) (same_cause cause.Done c e) tt, t)
]
finished_last (read.Refused line kind) m switches r k lines askings turn c none e = elim (over_lines m switches turn.section (axis_at m turn.axis) turn.cut lines r.reading none) [
  | inl n ↦ inl n
  | inr t ↦ inr (subst (λ (z : Cause). GoesThrough z) (same_cause (cause.Line line kind) c e) tt, t)
]

ends_or_last : (b : Bool) (m : Machine) (switches : List Switch) (r : Known) (k : ℕ) (lines : List ReportLine) (askings : List Asking) (turn : HomingTurn) (c : Cause) → cuts_of lines ≡ []
    → end_of (cond b (finishes (stop_of r.reading) m r k (lines ++ cut_line m switches turn.section (axis_at m turn.axis) turn.cut) askings turn) (carries_on m r k (lines ++ cut_line m switches turn.section (axis_at m turn.axis) turn.cut) askings turn None)) ≡ Some c
    → Ending (cond b (finishes (stop_of r.reading) m r k (lines ++ cut_line m switches turn.section (axis_at m turn.axis) turn.cut) askings turn) (carries_on m r k (lines ++ cut_line m switches turn.section (axis_at m turn.axis) turn.cut) askings turn None)) c turn.cut
ends_or_last true m switches r k lines askings turn c none e = finished_last (stop_of r.reading) m switches r k lines askings turn c none e
ends_or_last false m switches r k lines askings turn c none e = absurd (none_some c e)

homing_last : (o : Option Cause) (m : Machine) (switches : List Switch) (r : Known) (k : ℕ) (states : List State) (lines : List ReportLine) (askings : List Asking) (turn : HomingTurn) (c : Cause) → cuts_of lines ≡ []
    → end_of (unless_homing_ends o m r k states lines (cut_line m switches turn.section (axis_at m turn.axis) turn.cut) askings turn) ≡ Some c
    → Ending (unless_homing_ends o m r k states lines (cut_line m switches turn.section (axis_at m turn.axis) turn.cut) askings turn) c turn.cut
homing_last (Some d) m switches r k states lines askings turn c none e = inl none
homing_last None m switches r k states lines askings turn c none e = ends_or_last (is_finished r k states) m switches r k lines askings turn c none e

stale_last : (o : Option Cause) (m : Machine) (switches : List Switch) (r : Known) (k : ℕ) (states : List State) (lines : List ReportLine) (askings : List Asking) (c : Cause) → cuts_of lines ≡ []
    → end_of (unless_stale o m switches r k states lines askings) ≡ Some c → Ending (unless_stale o m switches r k states lines askings) c (homing_turn r.clocks k states r.homing).cut
stale_last (Some d) m switches r k states lines askings c none e = inl none
stale_last None m switches r k states lines askings c none e =
    let turn = homing_turn r.clocks k states r.homing in
    homing_last turn.end m switches (after_homing r k states) k states lines askings turn c none e

given_last : (o : Option Cause) (m : Machine) (r : Known) (k : ℕ) (lines : List ReportLine) (askings : List Asking) (c : Cause) → cuts_of lines ≡ [] → end_of (unless_given_up o m r k lines askings) ≡ Some c
    → cuts_of (unless_given_up o m r k lines askings).ordered.lines ≡ []
given_last (Some d) m r k lines askings c none e = none
given_last None m r k lines askings c none e = absurd (on (all_connected askings) e)
  where
    on : (b : Bool) → end_of (cond b (is_connected_now m r k lines askings) (asks_boards m r k lines askings)) ≡ Some c → ⊥
    on true f = none_some c f
    on false f = none_some c f

late_last : (o : Option Cause) (m : Machine) (r : Known) (k : ℕ) (lines : List ReportLine) (line : ℕ) → cuts_of lines ≡ [] → cuts_of (unless_late_stale o m r k lines line).ordered.lines ≡ []
late_last (Some d) m r k lines line none = none
late_last None m r k lines line none = uncut_both lines (count_lines r.reading) none ∙ uncounted r.reading

phase_last : (p : Phase) (m : Machine) (switches : List Switch) (r : Known) (k : ℕ) (states : List State) (lines : List ReportLine) (c : Cause) → cuts_of lines ≡ []
    → end_of (by_phase p m switches r k states lines) ≡ Some c → Ending (by_phase p m switches r k states lines) c (homing_turn r.clocks k states r.homing).cut
phase_last Connecting m switches r k states lines c none e =
    let askings = ready_all m 0 (listen_all r.askings.items states) in
    inl (given_last (giving_up k 0 askings) m r k lines askings c none e)
phase_last Running m switches r k states lines c none e = let askings = listen_all r.askings.items states in stale_last (stale k 0 askings) m switches r k states lines askings c none e
phase_last (Stopping line) m switches r k states lines c none e = inl (late_last (stale k 0 (listen_all r.askings.items states)) m r k lines line none)

ended_last : (o : Option Cause) (m : Machine) (switches : List Switch) (r : Known) (k : ℕ) (states : List State) (lines : List ReportLine) (c : Cause) → cuts_of lines ≡ []
    → end_of (unless_ended o m switches r k states lines) ≡ Some c → Ending (unless_ended o m switches r k states lines) c (homing_turn r.clocks k states r.homing).cut
ended_last (Some d) m switches r k states lines c none e = inl none
ended_last None m switches r k states lines c none e = phase_last r.phase m switches r k states lines c none e

turn_last : (m : Machine) (switches : List Switch) (r : Known) (k : ℕ) (states : List State) (note : Option Note) (c : Cause) → (reacts m switches r k states note).ordered.end ≡ Some c
    → Ending (reacts m switches r k states note) c (homing_turn (noted m note r).clocks k states (noted m note r).homing).cut
turn_last m switches r k states note c e =
    let s = noted m note r in
    let lines = first_lines m s k (news_of note) states in
    ended_last (first_cause (is_out note) s.stopped states) m switches s k states lines c (uncut m lines (first_told false m s k (news_of note) states)) e

-- what came up to some turns
pub came_ahead : (before : List Came) (rs : List ReactorTurn) → (ahead : List Came) × (came_from before rs ≡ ahead ++ before)
came_ahead before [] = ([], refl)
came_ahead before (r ∷ rs) = let a = came_ahead (came_in r ∷ before) rs in (a.0 ++ came_in r ∷ [], a.1 ∙ sym (append_assoc a.0 (came_in r ∷ []) before))

pub came_snoc : (before : List Came) (rs : List ReactorTurn) (end : ReactorTurn) → came_from before (rs ++ end ∷ []) ≡ came_in end ∷ came_from before rs
came_snoc before [] end = refl
came_snoc before (r ∷ rs) end = came_snoc (came_in r ∷ before) rs end

tells_ahead : (m : Machine) (switches : List Switch) (ahead : List Came) (c : Came) (before : List Came) → TellsHomed (last_reacted m switches c before).ordered.word.news → TellsIn m switches (length before) (ahead ++ c ∷ before)
tells_ahead m switches [] c before t = inl (refl, t)
tells_ahead m switches (x ∷ ahead) c before t = inr (tells_ahead m switches ahead c before t)

pub ends_snoc : (m : Machine) (switches : List Switch) (begun : List Started) (k : ℕ) (xs : List ReactorTurn) (y : ReactorTurn) → TellEnds m switches begun k xs → TellsSwitch m switches begun (k + length xs) y.lines ⊎ TellsNone begun (k + length xs) y.lines
    → TellEnds m switches begun k (xs ++ y ∷ [])
ends_snoc m switches begun k [] y tells one =
    let e : k + 0 ≡ k = omega arith in
    let At : ℕ → Type 0 = λ i. TellsSwitch m switches begun i y.lines ⊎ TellsNone begun i y.lines in
    (subst At e one, tt)
ends_snoc m switches begun k (x ∷ xs) y tells one =
    let e : k + length (x ∷ xs) ≡ k + 1 + length xs = omega arith in
    let At : ℕ → Type 0 = λ i. TellsSwitch m switches begun i y.lines ⊎ TellsNone begun i y.lines in
    (tells.0, ends_snoc m switches begun (k + 1) xs y tells.1 (subst At e one))

-- the turns that go on
module _ (m : Machine) (switches : List Switch) (n : ℕ) (ts : List MotionTurn) (p : Plans m n ts) (came : List Came) (by : IsPlannedBy m switches n ts p came) (few : length came ≤ length (p.made ++ p.last)) where
  -- the answer of a section that ended in a turn is told in it
  told_of : (ahead : List Came) (c : Came) (before : List Came) (number axis : ℕ) → came ≡ ahead ++ c ∷ before → EndsIn p.seen.begun (length before) number axis → TellsHomed (last_reacted m switches c before).ordered.word.news
  told_of ahead c before number axis are e =
      let size : length came ≡ length ahead + length (c ∷ before) = ap length are ∙ length-append ahead (c ∷ before) in
      let at = e.end in
      let Tells : List Came → Type 0 = λ z. TellsIn m switches e.s.end z in
      let told = ends_told m switches n ts p came e.past e.s e.later axis by e.cut e.home (omega (arith, size, at)) in
      tells_now m switches e.s.end c before (sym at) (tells_tail m switches e.s.end ahead (c ∷ before) (omega (arith, at)) (subst Tells are told))

  -- and one that is told is that of a section that ended in the turn
  ended_of : (ahead : List Came) (c : Came) (before : List Came) → came ≡ ahead ++ c ∷ before → TellsHomed (last_reacted m switches c before).ordered.word.news → TellsSwitch m switches p.seen.begun (length before) (last_reacted m switches c before).ordered.lines
  ended_of ahead c before are t =
      let Goes : List Came → Type 0 = λ z. GoesOn m switches z in
      let Notes : List Came → Type 0 = λ z. CameNotes p.seen.begun z in
      let goes = goes_behind m switches ahead (c ∷ before) (subst Goes are by.goes_on) in
      let notes = notes_behind p.seen.begun ahead (c ∷ before) (subst Notes are by.notes) in
      let size : length came ≡ length ahead + length (c ∷ before) = ap length are ∙ length-append ahead (c ∷ before) in
      let x = told_cut m switches c before goes.0 t in
      let was : WasBegun p.seen.begun (Some x.homing) = told_section m switches p.seen.begun c before goes.1 notes x in
      let known = tells_known m switches c before goes.0 t in
      let same : known.0 ≡ x.homing = some_same known.0 x.homing (sym known.1 ∙ x.known) in
      let late : known.0.start ≤ length before = known.2 in
      let own : x.homing.start ≡ was.1.start = was.6 in
      let start : known.0.start ≡ was.1.start = ap (λ (h : Homing). h.start) same ∙ was.6 in
      let Row : List Started → Type 0 = λ z. AreInARow (ready m switches n ts p came by) z in
      let order = (row_from (ready m switches n ts p came by) was.0 was.1 was.2 (subst Row was.4 (in_row m switches n ts p came by))).1 in
      let Apart : List Started → Type 0 = λ z. Spread 260 z in
      let far = starts_late 260 was.0 was.1 was.2 (subst Apart was.4 (plans_spread m n ts p)) in
      let s = was.1 in
      let at : s.end ≡ length before = elim (leb_tells (suc s.end) (length before)) [
        | inl q ↦
            let soon = q.1 in
            let told = ends_told m switches n ts p came was.0 s was.2 was.3 by was.4 was.5 (omega (arith, soon, size)) in
            let silent = known_silent m switches p.seen.begun c before x.homing s.end (s.end + 1) goes.1 notes x.known (omega (arith, own, order)) in
            let Tells : List Came → Type 0 = λ z. TellsIn m switches s.end z in
            absurd (elim (tells_tail m switches s.end ahead (c ∷ before) (omega (arith, soon)) (subst Tells are told)) [
              | inl u ↦ let e = u.0 in omega (arith, e, soon)
              | inr u ↦ none_tells m switches s.end (s.end + 1) s.end before silent (omega arith) (omega arith) u
            ])
        | inr q ↦ elim (leb_tells s.end (length before)) [
          | inl r ↦ let low = q.1 in let high = r.1 in omega (arith, low, high)
          | inr r ↦
              let over = r.1 in
              let from = s.start - 259 in
              let when : from + 259 ≡ s.start = omega (arith, far) in
              let waits = waits_silent m switches n ts p came [] came was.0 s was.2 was.3 from by refl few was.4 was.5 when in
              let Tells : List Came → Type 0 = λ z. TellsIn m switches (length before) z in
              absurd (none_tells m switches from s.end (length before) came waits (omega (arith, when, start, late)) (omega (arith, over)) (subst Tells (sym are) (tells_ahead m switches ahead c before t)))
        ]
      ] in
      record {
        number = x.homing.section;
        axis = x.homing.axis;
        ended = record { past = was.0; s = s; later = was.2; cut = was.4; number_is = was.8; home = was.5 ∙ ap Home (sym was.9); end = at };
        tick = x.tick;
        lines_are = x.lines;
      }

  one_tells : (ahead : List Came) (c : Came) (before : List Came) → came ≡ ahead ++ c ∷ before
      → TellsSwitch m switches p.seen.begun (length before) (last_reacted m switches c before).ordered.lines ⊎ TellsNone p.seen.begun (length before) (last_reacted m switches c before).ordered.lines
  one_tells ahead c before are =
      let Goes : List Came → Type 0 = λ z. GoesOn m switches z in
      let goes = goes_behind m switches ahead (c ∷ before) (subst Goes are by.goes_on) in
      elim (turn_cuts m switches (known_by m switches before) (length before) c.states c.note goes.0) [
        | inl x ↦ inl (ended_of ahead c before are x.tells)
        | inr u ↦ inr (record { none = λ number axis e. u.none (told_of ahead c before number axis are e); lines_are = u.lines })
      ]

  pub turns_tell : (before : List Came) (rs : List ReactorTurn) → AreReactorTurns m switches before rs → came ≡ came_from before rs → TellEnds m switches p.seen.begun (length before) rs
  turns_tell before [] turns are = tt
  turns_tell before (r ∷ rs) turns are =
      let a = came_ahead (came_in r ∷ before) rs in
      let Lines : List ReportLine → Type 0 = λ z. TellsSwitch m switches p.seen.begun (length before) z ⊎ TellsNone p.seen.begun (length before) z in
      let one = subst Lines (sym turns.0.lines_are) (one_tells a.0 (came_in r) before (are ∙ a.1)) in
      let At : ℕ → Type 0 = λ i. TellEnds m switches p.seen.begun i rs in
      let next : length (came_in r ∷ before) ≡ length before + 1 = omega arith in
      (one, subst At next (turns_tell (came_in r ∷ before) rs turns.1 are))

-- and the one that ends the run
module _ (m : Machine) (v : IsValidMachine m) (s : Scene) (ts : List MotionTurn) (p : Plans m (length m.boards) ts) (end : ReactorTurn) (c : Cause) where
  module _ (first : ReactorTurn) (rest : List ReactorTurn) (f : Facts m s ts (first ∷ rest) end c)
      (is : Some c ≡ (reacts m s.switches f.known (length (came_from [] (first ∷ rest))) end.states end.note).ordered.end) where
    abbrev came : List Came
    came = came_from [] (first ∷ rest)

    count : length came ≡ length (first ∷ rest)
    count = let e = came_long [] (first ∷ rest) in omega (arith, e)

    planned : IsPlannedBy m s.switches (length m.boards) ts p came
    planned =
        let size = length-append rest (end ∷ []) in
        let l = few m v s ts p end c first rest f in
        planned_by m s.switches (length m.boards) f.ahead ts p first rest f.words_left f.turns f.words (notes_before m v s ts p end c first rest f) (omega (arith, l, size))

    notes : length (rest ++ end ∷ []) ≤ length p.made → CameNotes p.seen.begun (came_in end ∷ came)
    notes long =
        let Notes : List Came → Type 0 = λ z. CameNotes p.seen.begun z in
        subst Notes (came_snoc [] (first ∷ rest) end) (all_notes m p.seen.text p.seen.begun p.made first (rest ++ end ∷ []) p.put (took_notes m v s ts p end c first rest f long))

    -- no section ended in it
    none_ended : (number axis : ℕ) → EndsIn p.seen.begun (length came) number axis → ⊥
    none_ended number axis e =
        let at = e.end in
        let most = planned.long in
        let made = length-map p.made put_of in
        let small = p.small in
        let low = ends_low m s.switches (length m.boards) ts p came e.past e.s e.later axis planned e.cut e.home (λ q. omega (arith, q, at, most, made, small)) in
        omega (arith, low, at)

    -- where the run went through no group answered in it
    none_answers : GoesThrough c → length (rest ++ end ∷ []) ≤ length p.made → (tick : ℕ) → (homing_turn (noted m end.note (known_by m s.switches came)).clocks (length came) end.states (noted m end.note (known_by m s.switches came)).homing).cut ≡ Some tick → ⊥
    none_answers g long tick cut =
        let n = noted m end.note (known_by m s.switches came) in
        let a = answer_of n.clocks (length came) end.states n.homing tick cut in
        let h = a.0 in
        let Was : Option Homing → Type 0 = λ o. WasBegun p.seen.begun o in
        let was : WasBegun p.seen.begun (Some h) = subst Was a.1 (now_was m s.switches p.seen.begun (came_in end) came planned.goes_on (notes long)) in
        let x = was.1 in
        let Over : List Started → Type 0 = λ z. All (λ (y : Started). y.end + 5 ≤ length (rest ++ end ∷ [])) z in
        let over = over_at (length (rest ++ end ∷ [])) was.0 x was.2 (subst Over was.4 (through_long m v s ts p end c first rest f g long).over) in
        let size = length-append rest (end ∷ []) in
        let many = count in
        let Row : List Started → Type 0 = λ z. AreInARow (ready m s.switches (length m.boards) ts p came planned) z in
        let order = (row_from (ready m s.switches (length m.boards) ts p came planned) was.0 x was.2 (subst Row was.4 (in_row m s.switches (length m.boards) ts p came planned))).1 in
        let start = was.6 in
        let told = ends_told m s.switches (length m.boards) ts p came was.0 x was.2 was.3 planned was.4 was.5 (omega (arith, over, size, many)) in
        let silent = known_silent m s.switches p.seen.begun (came_in end) came h x.end (x.end + 1) planned.goes_on (notes long) a.1 (omega (arith, start, order)) in
        none_tells m s.switches x.end (x.end + 1) x.end came silent (omega arith) (omega arith) told

    -- what is known in it where the run went through
    known_then : GoesThrough c → f.known ≡ known_by m s.switches came
    known_then g = (f.own (own_cause c g)).0

    last_tells : TellsSwitch m s.switches p.seen.begun (length came) end.lines ⊎ TellsNone p.seen.begun (length came) end.lines
    last_tells =
        let k = length (came_from [] (first ∷ rest)) in
        inr (record {
          none = none_ended;
          lines_are = elim (turn_last m s.switches f.known k end.states end.note c (sym is)) [
            | inl none ↦ ap cuts_of f.lines_are ∙ none
            | inr t ↦
                let Cut : Known → Type 0 = λ r. (homing_turn (noted m end.note r).clocks k end.states (noted m end.note r).homing).cut ≡ Some t.1.0 in
                absurd (none_answers t.0 (long_own m v s ts p end c first rest f (own_cause c t.0)) t.1.0 (subst Cut (known_then t.0) t.1.1))
          ];
        })

    ends_whole : TellEnds m s.switches p.seen.begun 0 (first ∷ (rest ++ end ∷ []))
    ends_whole =
        let At : ℕ → Type 0 = λ i. TellsSwitch m s.switches p.seen.begun i end.lines ⊎ TellsNone p.seen.begun i end.lines in
        let e : length came ≡ 0 + length (first ∷ rest) = (let many = count in omega (arith, many)) in
        ends_snoc m s.switches p.seen.begun 0 (first ∷ rest) end (turns_tell m s.switches (length m.boards) ts p came planned (let many = count in let size = length-append rest (end ∷ []) in let l = hears m v s ts p end c first rest f in omega (arith, l, size, many)) [] (first ∷ rest) f.turns refl) (subst At e last_tells)

  -- a run of one turn
  ends_alone : (f : Facts m s ts [] end c) → Some c ≡ (reacts m s.switches f.known 0 end.states end.note).ordered.end → TellEnds m s.switches p.seen.begun 0 (end ∷ [])
  ends_alone f is = (
    inr (record {
      none = λ number axis e. untold_alone m v s ts p end c p.seen.told refl f (λ none. in_none e.past e.s e.later p.seen.begun none e.cut);
      lines_are = elim (turn_last m s.switches f.known 0 end.states end.note c (sym is)) [ inl none ↦ ap cuts_of f.lines_are ∙ none | inr t ↦ absurd (alone_ends m v s ts p end c f t.0) ];
    }),
    tt,
  )

  pub all_ends : (rs : List ReactorTurn) → Ended m s ts rs end c → TellEnds m s.switches p.seen.begun 0 (rs ++ end ∷ [])
  all_ends [] e = ends_alone e.facts e.end_is
  all_ends (first ∷ rest) e = ends_whole first rest e.facts e.end_is

  -- the turn that ends the run tells of no switch, whatever ended it
  pub last_cuts : (rs : List ReactorTurn) → Ended m s ts rs end c → cuts_of end.lines ≡ []
  last_cuts [] e = elim (turn_last m s.switches e.facts.known 0 end.states end.note c (sym e.end_is)) [ inl none ↦ ap cuts_of e.facts.lines_are ∙ none | inr t ↦ absurd (alone_ends m v s ts p end c e.facts t.0) ]
  last_cuts (first ∷ rest) e =
      let f = e.facts in
      let k = length (came_from [] (first ∷ rest)) in
      elim (turn_last m s.switches f.known k end.states end.note c (sym e.end_is)) [
        | inl none ↦ ap cuts_of f.lines_are ∙ none
        | inr t ↦
            let Cut : Known → Type 0 = λ r. (homing_turn (noted m end.note r).clocks k end.states (noted m end.note r).homing).cut ≡ Some t.1.0 in
            absurd (none_answers first rest f e.end_is t.0 (long_own m v s ts p end c first rest f (own_cause c t.0)) t.1.0 (subst Cut (known_then first rest f e.end_is t.0) t.1.1))
      ]

none_of : (lines : List ReportLine) → length (cuts_of lines) ≡ 0 → cuts_of lines ≡ []
none_of lines e = empty (cuts_of lines) e
  where
    empty : (xs : List ReportLine) → length xs ≡ 0 → xs ≡ []
    empty [] e = refl
    empty (x ∷ xs) e = absurd (omega (arith, e))

pub run_last : {F S : Type 0} (f : Files F) (o : Sink S) (m : Machine) (s : Scene) (name : List ℕ) (files files' : F) (out out' : S) (kept kept' : Kept) (t : near.Told Run) (r : RunsOver f o m s name files out kept t files' out' kept') → IsValidMachine m → (text : List ℕ)
    → f.told files name ≡ Some text → kept.at ≡ 0 → cuts_of r.runs.2.lines ≡ []
run_last f o m s name files files' out out' kept kept' t r v text told at = by t.cause refl
  where
    goes : (t.cause ≡ cause.Memory → ⊥) → cuts_of r.runs.2.lines ≡ []
    goes other =
        let short : length (cuts_of r.runs.2.lines) ≡ 0 = ∥∥₁_elim (run_made f o m s name files files' out out' kept kept' t r text told at) (hlevel props)
        (λ w. ap length (last_cuts m v s r.runs.0 w.0.plans r.runs.2 t.cause r.runs.1 (run_ended f o m s name files files' out out' kept kept' t r other))) in
        none_of r.runs.2.lines short

    by : (c : Cause) → t.cause ≡ c → cuts_of r.runs.2.lines ≡ []
    by cause.Memory e = ap cuts_of (run_silent f o m s name files files' out out' kept kept' t r e)
    by c e = goes (λ g. let h : c ≡ cause.Memory = sym e ∙ g in cc)

pub run_ends : {F S : Type 0} (f : Files F) (o : Sink S) (m : Machine) (s : Scene) (name : List ℕ) (files files' : F) (out out' : S) (kept kept' : Kept) (t : near.Told Run) (r : RunsOver f o m s name files out kept t files' out' kept') → IsValidMachine m → (text : List ℕ)
    → f.told files name ≡ Some text → kept.at ≡ 0 → ∥ ((made : IsMade m s r.runs.0 r.runs.1) × (made.plans.seen.text ≡ text)
    × ((t.cause ≡ cause.Memory → ⊥) → HaveShortDictionaries m → AllKeepUp m s text r.runs.0 (r.runs.1 ++ r.runs.2 ∷ []) → AllShowHomes m made.plans.seen (clocks_heard made.plans.seen.told) (ready_heard made.plans.seen.told) t.cause (r.runs.1 ++ r.runs.2 ∷ []))
    × ((t.cause ≡ cause.Memory → ⊥) → TellEnds m s.switches made.plans.seen.begun 0 (r.runs.1 ++ r.runs.2 ∷ []))) ∥₁
run_ends f o m s name files files' out out' kept kept' t r v text told at =
    ∥∥₁_map (run_made f o m s name files files' out out' kept kept' t r text told at) (λ w.
    let made = w.0 in
    let Little : List ℕ → Type 0 = λ z. AllKeepUp m s z r.runs.0 (r.runs.1 ++ r.runs.2 ∷ []) in (
      made,
      w.1,
      λ other short little. all_shows m v s r.runs.0 made.plans r.runs.2 t.cause r.runs.1 (facts f o m s name files files' out out' kept kept' t r other) short (subst Little (sym w.1) little),
      λ other. all_ends m v s r.runs.0 made.plans r.runs.2 t.cause r.runs.1 (run_ended f o m s name files files' out out' kept kept' t r other),
    ))

-- What the report of a run over links shows that ended for want of memory: its lines are those of the turns before the last one.
use Rattle.std.proofs.Common.{take-append-drop, ◌≡◌, ◌∙◌, ℕ, ◌<◌, ◌^◌, All, List, [], ◌∷◌, ◌++◌, length, map, take, drop, Some, ap, sym, refl, subst, arith, append-nil, inl, inr, None, length-append}
use Rattle.laws_board.proofs.Names.{∥∥₁_map, Cause, Machine, Section, Clocks, IsValidMachine, ReportLine, Started, MotionTurn, ReactorTurn, Scene}
use Rattle.gcode_program.specs.Programs.{program_sections}
use Rattle.io_core.specs.declared.traits.Files.{Ghosts as Files}
use Rattle.io_core.specs.declared.traits.Sink.{Ghosts as Sink}
use Rattle.plan_types.specs.declared.cause.Cause.TheVariants as cause
use Rattle.session_lanes.specs.declared.near.LinkLog.{LinkLog}
use Rattle.session_run.specs.Boards.{AreReactorTurns}
use Rattle.session_run.specs.Reported.{IsReported}
use Rattle.laws_board.specs.causes.Short.{HaveShortDictionaries}
use Rattle.laws_board.specs.plans.Lines.{TellTurns}
use Rattle.laws_board.specs.plans.Planned.{Plans, PlannerInput}
use Rattle.laws_board.proofs.plans.Spreading.{plans_spread}
use Rattle.laws_run.specs.run_ends.Ends.{GoesThrough}
use Rattle.laws_run.specs.run_headline.Timely.{clocks_heard, ready_heard}
use Rattle.laws_run.specs.home_headline.Follow.{AllShowBegun}
use Rattle.laws_run.specs.home_headline.Near.{AllKeepUp}
use Rattle.laws_run.proofs.home_headline.Sections.{all_begun}
use Rattle.laws_run.proofs.home_headline.Shows.{all_shows}
use Rattle.laws_run.proofs.home_wholes.Shows.{all_wholes}
use Rattle.laws_run.proofs.run_headline.Cutting.{run_front}
use Rattle.laws_run.proofs.run_headline.Making.{front_made, run_turns}
use Rattle.laws_run.proofs.run_headline.Showing.{Facts, cut_last}
use Rattle.laws_report.specs.reports.Cuts.{HaveCuts}
use Rattle.laws_report.specs.reports.Promises.{sections_over}
use Rattle.laws_run.proofs.home_headline.Switched.{AreSwitched, turns_switched}
use Rattle.laws_report.proofs.reports.Homing.{ShowsLog, none-prints, shown-prints}
use Rattle.laws_report.proofs.reports.Inside.{have_cuts}
use Rattle.laws_report.proofs.reports.Linked.{KeepsUp, front_written, homes_shown, lines_of, none_through, none_written, numbered_said, some_turns}
use Rattle.plan_types.proofs.Facts.{none_some}

-- the section lines of sections that were begun
lines_begun : (m : Machine) (seen : PlannerInput) (clocks : List Clocks) (ready : ℕ) (own : Cause) (turns : List ReactorTurn) → AllShowBegun m seen clocks ready own turns → TellTurns m seen.begun 0 turns
lines_begun m seen clocks ready own [] h = tt
lines_begun m seen clocks ready own (first ∷ later) h = h.lines

-- the cut lines of a front of a run
front_cuts : (m : Machine) (s : Scene) (seen : PlannerInput) (clocks : List Clocks) (ready : ℕ) (own c : Cause) (text : List ℕ) (said rest : List ReportLine) (turns : List ReactorTurn) → (x : ReactorTurn) × (xs : List ReactorTurn) × (turns ≡ x ∷ xs) → seen.text ≡ text → (GoesThrough c → ⊥)
    → AllShowBegun m seen clocks ready own turns → AreSwitched m s.switches seen.begun turns → lines_of turns ≡ said ++ rest → HaveCuts m s.switches c (sections_over m text) said
front_cuts m s seen clocks ready own c text said rest [] some same not h switched are = absurd (let e : [] ≡ some.0 ∷ some.1 = some.2 in cc)
front_cuts m s seen clocks ready own c text said rest (first ∷ later) some same not h switched are =
    let sections = sections_over m text in
    let n = length seen.begun in
    let front : take n sections ≡ map (λ (x : Started). x.section) switched.known = ap (λ z. take n (program_sections m z)) (sym same) ∙ sym h.of_text ∙ sym switched.same in
    let of_text : sections ≡ map (λ (x : Started). x.section) switched.known ++ drop n sections = sym (take-append-drop n sections) ∙ ap (λ (z : List Section). z ++ drop n sections) front in
    have_cuts m s.switches sections (drop n sections) switched.known of_text switched.spread switched.at switched.row (first ∷ later) switched.lines switched.ends c said rest are
    (numbered_said m seen clocks ready own first later said rest h are) (λ g. absurd (not g))

no_cause : (board turn : ℕ) → cause.ReadFault ≡ cause.Connect board turn → ⊥
no_cause board turn e = cc

module _ {F S : Type 0} (f : Files F) (o : Sink S) (m : Machine) (s : Scene) (gcode : List ℕ) (files files' : F) (out out' : S) (c : Cause) (lines : List ReportLine) (counts : List ℕ) (links : List LinkLog) (valid : IsValidMachine m) (short : HaveShortDictionaries m) where
  -- a front of its turns, as a run that ended for a read that failed
  module _ (turns : List ReactorTurn) (last : ReactorTurn) (ts : List MotionTurn) (p : Plans m (length m.boards) ts) (text : List ℕ) (same : p.seen.text ≡ text) (facts : Facts m s ts turns last cause.ReadFault) (all : AreReactorTurns m s.switches [] (turns ++ last ∷ []))
      (said rest : List ReportLine) (are : lines_of (turns ++ last ∷ []) ≡ said ++ rest) (not : GoesThrough c → ⊥) where
    begun : AllShowBegun m p.seen (clocks_heard p.seen.told) (ready_heard p.seen.told) cause.ReadFault (turns ++ last ∷ [])
    begun = all_begun m valid s ts p last cause.ReadFault turns facts

    cuts : (d : Cause) → (GoesThrough d → ⊥) → (front behind : List ReportLine) → lines_of (turns ++ last ∷ []) ≡ front ++ behind → HaveCuts m s.switches d (sections_over m text) front
    cuts d none front behind cut =
        front_cuts m s p.seen (clocks_heard p.seen.told) (ready_heard p.seen.told) cause.ReadFault d text front behind (turns ++ last ∷ []) (some_turns turns last) same none begun
        (turns_switched m valid s ts p last cause.ReadFault turns facts all (lines_begun m p.seen (clocks_heard p.seen.told) (ready_heard p.seen.told) cause.ReadFault (turns ++ last ∷ []) begun)) cut

    front_prints : All (λ w. w.line < 2 ^ 64) s.switches → AllKeepUp m s text ts (turns ++ last ∷ []) → ShowsLog m text c said
    front_prints scene little =
        let Little : List ℕ → Type 0 = λ z. AllKeepUp m s z ts (turns ++ last ∷ []) in
        let held = subst Little (sym same) little in
        let shows = all_shows m valid s ts p last cause.ReadFault turns facts short held in
        let wholes = all_wholes m valid s ts p last cause.ReadFault turns facts short held in
        let homes = λ (d : Cause) (none : GoesThrough d → ⊥) (front behind : List ReportLine) (cut : lines_of (turns ++ last ∷ []) ≡ front ++ behind).
        homes_shown m s.switches p.seen (clocks_heard p.seen.told) (ready_heard p.seen.told) cause.ReadFault d text front behind (plans_spread m (length m.boards) ts p) same (λ g. absurd (none g)) (turns ++ last ∷ []) (some_turns turns last) shows (cuts d none front behind cut) wholes cut in
        let whole = lines_of (turns ++ last ∷ []) in
        shown-prints m s text c cause.ReadFault said rest valid (homes c not said rest are) ts p turns last facts shows (homes cause.ReadFault (λ g. g) whole [] (sym (append-nil whole))) are (λ board turn e none. no_cause board turn e) scene

  -- what it shows: its cut lines, and the log of its lines where each board held nothing long before the last turn
  abbrev pub ShowsWanted : IsReported f o m s gcode files files' out out' c lines counts links → List ℕ → Type 0
  ShowsWanted r text =
      HaveCuts m s.switches c (sections_over m text) r.said × (All (λ w. w.line < 2 ^ 64) s.switches → KeepsUp f o m s gcode files files' out out' c lines counts links valid short r text → ShowsLog m text c r.said)

  none_wanted : (r : IsReported f o m s gcode files files' out out' c lines counts links) (text : List ℕ) → r.told.cause ≡ cause.Memory → r.runs.runs.1 ≡ [] → ShowsWanted r text
  none_wanted r text memory none =
      let not = none_through f o m s gcode files files' out out' c lines counts links valid short r memory in
      let Said : List ReportLine → Type 0 = λ z. HaveCuts m s.switches c (sections_over m text) z × ShowsLog m text c z in
      let cuts : HaveCuts m s.switches c (sections_over m text) [] = record { before = refl; moves = λ i kind. refl; homes = λ i axis kind. inl refl; ended = λ i axis kind why. absurd (elim why [ inl next ↦ none_some next.0 next.1 | inr g ↦ not g ]) } in
      let both = subst Said (sym (none_written f o m s gcode files files' out out' c lines counts links valid short r memory none)) (cuts, none-prints m text c [] valid (record { of_run = tt; may = tt; heads = tt }) (λ g. absurd (not g))) in
      (both.0, λ scene little. both.1)

  pub wanted_texts : (r : IsReported f o m s gcode files files' out out' c lines counts links) (text : List ℕ) → f.told files gcode ≡ Some text → r.told.cause ≡ cause.Memory → ∥ ShowsWanted r text ∥₁
  wanted_texts r text told memory = elim (cut_last r.runs.runs.1) [
    | inl none ↦ ∣ none_wanted r text memory none ∣₁
    | inr x ↦
        let part = run_front f o m s gcode files files' out r.behind r.kept r.kept' r.told r.runs x.0 x.1 x.2 in
        let Turns : List ReactorTurn → Type 0 = λ z. AreReactorTurns m s.switches [] z in
        let all = subst Turns x.2 (run_turns f o m s gcode files files' out r.behind r.kept r.kept' r.told r.runs) in
        let not = none_through f o m s gcode files files' out out' c lines counts links valid short r memory in
        let are = front_written f o m s gcode files files' out out' c lines counts links valid short r memory x.0 x.1 x.2 in
        let long = part.long in
        let size = ap length x.2 ∙ length-append x.0 (x.1 ∷ []) in
        let Held : List ReactorTurn → Type 0 = λ z. AllKeepUp m s text part.planned z in
        ∥∥₁_map (front_made f o m s gcode files files' out r.behind r.kept r.kept' r.told r.runs text told r.fresh.at part.planned part.later part.are) (λ w. (
          cuts x.0 x.1 part.planned w.0 text w.1 part.facts all r.said r.rest are not c not r.said r.rest are,
          λ scene little. front_prints x.0 x.1 part.planned w.0 text w.1 part.facts all r.said r.rest are not scene (subst Held x.2 (little.1 memory part.planned part.later part.are (omega (arith, long, size)))),
        ))
  ]

-- The report of a run over links follows the plans.
use Rattle.std.proofs.Common.{take-append-drop, ◌≡◌, ◌≢◌, ℕ, zero, suc, ◌+◌, ◌<◌, ◌≤◌, ◌⊎◌, Bool, true, false, All, List, [], ◌∷◌, ◌++◌, get_or, map, take, drop, length, Some, None, refl, ap, sym, ◌∙◌, subst, arith, inl, inr, append_assoc, append-nil, rules}
use Rattle.laws_board.proofs.Names.{∥∥₁_map, length-map, All-head, All-tail, Cause, Machine, Planned, Pulse, ReadStop, Section, SectionKind, Moves, Clocks, IsValidMachine, stepper_at, Fits, clocks_at, stepper_plan, ReportLine, Scene, Switch, AreStarted, Started, ReactorTurn, gather, IsOwn, flat_map-append}
use Rattle.std.proofs.Math.Logic.{∥∥₁_elim}
use Rattle.std.proofs.Props.{props}
use Rattle.std.specs.Prelude.{◌-◌, ◌==◌, if◌then◌else◌}
use Rattle.std.proofs.lemmas.List.{length-append, length-drop, length-take-le, take-take, take_all}
use Rattle.plan_types.specs.declared.cause.Cause.TheVariants as cause
use Rattle.plan_types.specs.declared.plan.ReadStop.TheVariants as read
use Rattle.plan_types.specs.Sections.{base_tick, no_section}
use Rattle.io_core.specs.declared.traits.Files.{Ghosts as Files}
use Rattle.io_core.specs.declared.traits.Sink.{Ghosts as Sink}
use Rattle.report_text.specs.declared.line.ReportLine.TheVariants as report
use Rattle.gcode_program.specs.Programs.{program_end, program_sections}
use Rattle.host_reactor.specs.Running.{text_end}
use Rattle.motion_work.specs.Seen.{IsPlanned}
use Rattle.session_lanes.specs.declared.near.LinkLog.{LinkLog}
use Rattle.section_feed.specs.Fewer.{AreFirstLines}
use Rattle.session_work.proofs.Goes.{gather_on}
use Rattle.session_run.specs.declared.read.ReadStop.{ReadStop as DeskStop}
use Rattle.session_run.specs.declared.read.ReadStop.TheVariants as stop
use Rattle.session_run.specs.Desks as desk
use Rattle.session_run.specs.Reported.{IsReported}
use Rattle.laws_board.specs.plans.Boards.{lines_between, times_of}
use Rattle.laws_board.specs.plans.Lines.{TellTurns, pulse_in, pulses_of}
use Rattle.laws_board.proofs.plans.Beginning.{Spread}
use Rattle.laws_board.proofs.plans.Spreading.{plans_spread}
use Rattle.laws_board.specs.sections.Boards.{IsWindow, NextStart}
use Rattle.laws_run.specs.run_headline.Timely.{AreOfMoves, clocks_heard, ready_heard}
use Rattle.laws_run.specs.run_ends.Ends.{GoesThrough}
use Rattle.laws_run.specs.run_headline.Made.{IsNamed}
use Rattle.laws_run.proofs.run_headline.Cutting.{run_silent}
use Rattle.laws_run.proofs.run_headline.Making.{run_made}
use Rattle.laws_run.specs.run_links.Links.{AreLinksIn}
use Rattle.laws_run.proofs.run_links.Links.{run_links}
use Rattle.laws_run.proofs.run_lates.Ending.{run_home_tells}
use Rattle.laws_run.proofs.run_lates.Late.{run_late}
use Rattle.laws_run.proofs.run_lates.Naming.{run_home_units}
use Rattle.laws_run.proofs.run_turns.Ending.{ends}
use Rattle.laws_run.proofs.run_turns.Starting.{starts}
use Rattle.laws_run.proofs.run_turns.Words.{run_taken}
use Rattle.laws_run.proofs.run_clocks.First as clocks
use Rattle.laws_run.proofs.run_clocks.Printed.{run_printed}
use Rattle.laws_run.proofs.run_headline.Runs.{facts, run_ended, run_names, run_none}
use Rattle.laws_run.proofs.run_headline.Showing.{cut_last}
use Rattle.laws_run.proofs.home_headline.Cuts.{run_answers}
use Rattle.laws_run.proofs.home_headline.Read.{run_reads}
use Rattle.plan_types.specs.Sections.{section_end}
use Rattle.laws_board.specs.plans.Lines.{head_in, heads_of}
use Rattle.laws_run.specs.run_headline.Further.{TellFurther}
use Rattle.laws_board.specs.plans.Planned.{PlannerInput}
use Rattle.laws_run.specs.run_lines.Due.{AreFirst, begun_lines}
use Rattle.laws_run.proofs.run_lines.Further.{Reach, reach}
use Rattle.laws_run.proofs.run_lines.Heads.{ShowStarts, first_heads, whole_heads}
use Rattle.laws_run.specs.run_ends.Boards.{counts_of}
use Rattle.laws_report.specs.reports.Body.{cause_of}
use Rattle.laws_report.specs.reports.Headline.{section_kind, moves_of}
use Rattle.laws_board.proofs.plans.Rows.{begun_row}
use Rattle.laws_run.specs.home_headline.Cuts.{TellEnds}
use Rattle.laws_run.specs.home_headline.Follow.{AllShowBegun, AllShowHomes, HaveBegunLines, ShowHomes, ShowBegun}
use Rattle.laws_run.specs.run_headline.Made.{IsMade}
use Rattle.laws_run.specs.home_headline.Near.{AllKeepUp}
use Rattle.laws_run.proofs.home_headline.Held.{near_keeps}
use Rattle.laws_run.proofs.home_headline.Heads.{begun_heads, home_boards, homes_apart, homes_further, homes_sound, show_begun}
use Rattle.laws_run.proofs.run_headline.Cutting.{run_front}
use Rattle.laws_run.proofs.run_headline.Making.{front_made}
use Rattle.laws_report.proofs.reports.Shorts.{IsTimed}
use Rattle.laws_run.proofs.run_lines.Heads.{some_first}
use Rattle.laws_report.proofs.reports.Timed.{begun_timed}
use Rattle.laws_run.proofs.home_headline.Sections.{all_begun}
use Rattle.laws_run.proofs.home_headline.Shows.{all_shows}
use Rattle.laws_run.proofs.home_headline.Switches.{all_ends, run_last}
use Rattle.laws_run.specs.home_wholes.Whole.{AllWholeHomes}
use Rattle.laws_run.proofs.home_wholes.First as first_cuts
use Rattle.laws_run.proofs.home_wholes.Own.{run_own}
use Rattle.laws_run.proofs.home_wholes.Shows.{all_wholes}
use Rattle.laws_run.proofs.clear_homes.Clear as homed
use Rattle.laws_run.proofs.clear_homes.First.{run_first, run_unswitched}
use Rattle.laws_run.proofs.hindered_runs.Ending.{run_hindered}
use Rattle.laws_run.proofs.missed_switches.Missing.{run_missed}
use Rattle.laws_run.proofs.run_causes.Answering as answering
use Rattle.laws_board.specs.causes.Short.{HaveShortDictionaries}
use Rattle.laws_run.specs.clear_runs.Clear.{SendsAllSoon}
use Rattle.laws_run.proofs.clear_runs.Stopped.{run_is_for}
use Rattle.laws_report.specs.reports.Promises.{FollowsPlanBy, IsCauseOf, lines_line, sections_over}
use Rattle.laws_report.specs.reports.Homes.{ShowsBegun}
use Rattle.laws_report.proofs.reports.Homes.{IsCompleteOfMovesBefore, IsCompleteOfMovesBy, ShowsHomes}
use Rattle.laws_report.specs.reports.Linked.{EndsFor, EndsUnswitched, IsLinkReport, KeepUp, MeetPremise}
use Rattle.laws_report.specs.page.Log.{log_of}
use Rattle.laws_report.specs.page.Report.{Shows}
use Rattle.laws_report.specs.reports.Read.{IsSceneFor}
use Rattle.laws_report.specs.page.Steps.{counts_planned}
use Rattle.laws_report.specs.reports.Checks.{check_cause}
use Rattle.laws_report.specs.reports.Names.{HasNames}
use Rattle.report_text.specs.Text.{report_text}
use Rattle.laws_report.specs.reports.Cuts.{HaveCuts}
use Rattle.laws_report.specs.reports.Shown.{lines_behind, pulses_before, pulses_in, section_turn, sections_shown}
use Rattle.laws_report.proofs.reports.Behind.{AreNumbered, behind, behind_front, in_stays, next_begun, numbered_front}
use Rattle.laws_report.proofs.reports.Followed.{NextAt, shown}
use Rattle.laws_report.proofs.reports.Inside.{have_cuts, numbered_begun, some_behind, turn_front}
use Rattle.laws_run.proofs.run_headline.Facts.{starts_late}
use Rattle.plan_types.proofs.Facts.{none_some}
use Rattle.laws_run.proofs.run_headline.Earlier.{over_at}
use Rattle.laws_report.proofs.reports.Unshown.{shown_heads}

-- the section of a number is that which was begun there
section_is : (past : List Started) (s : Started) (later : List Started) (sections : List Section) (n : ℕ) → map (λ x. x.section) (past ++ s ∷ later) ≡ take n sections → get_or sections (length past) no_section ≡ s.section
section_is [] s later sections zero e = absurd (let f : s.section ∷ map (λ (x : Started). x.section) later ≡ [] = e in cc)
section_is [] s later [] (suc n) e = absurd (let f : s.section ∷ map (λ (x : Started). x.section) later ≡ [] = e in cc)
section_is [] s later (x ∷ sections) (suc n) e = let f : x ≡ s.section = cc in f
section_is (y ∷ past) s later sections zero e = absurd (let f : y.section ∷ map (λ (x : Started). x.section) (past ++ s ∷ later) ≡ [] = e in cc)
section_is (y ∷ past) s later [] (suc n) e = absurd (let f : y.section ∷ map (λ (x : Started). x.section) (past ++ s ∷ later) ≡ [] = e in cc)
section_is (y ∷ past) s later (x ∷ sections) (suc n) e = let behind : map (λ (z : Started). z.section) (past ++ s ∷ later) ≡ take n sections = cc in section_is past s later sections n behind

next_before : (n : ℕ) (later : List Started) (to : ℕ) → to + 1 ≡ n → NextStart n (map (λ (x : Started). record { start = x.start + 1; end = x.end }) later) → NextStart to (times_of later)
next_before n [] to e h = tt
next_before n (y ∷ later) to e h = omega (arith, e, h)

-- sections one behind the other
apart_by : (m : Machine) (clocks : List Clocks) (ready : ℕ) (past : List Started) (s y : Started) (later : List Started) → AreStarted m clocks ready (past ++ s ∷ y ∷ later) → s.end + 260 ≤ y.start
apart_by m clocks ready [] s y later h = let start = h.1.0.start in omega (arith, start)
apart_by m clocks ready (x ∷ past) s y later h = apart_by m clocks (x.end + 260) past s y later h.1

-- one of some sections is planned
planned_at : (m : Machine) (clocks : List Clocks) (ready : ℕ) (past : List Started) (s : Started) (later : List Started) → AreStarted m clocks ready (past ++ s ∷ later) → IsPlanned s.section.kind m clocks s
planned_at m clocks ready [] s later h = h.0.planned
planned_at m clocks ready (x ∷ past) s later h = planned_at m clocks (x.end + 260) past s later h.1

module _ (m : Machine) (seen : PlannerInput) (text : List ℕ) (first : ReactorTurn) (rest : List ReactorTurn) (spread : Spread 260 seen.begun) (of_text : map (λ s. s.section) seen.begun ≡ take (length seen.begun) (program_sections m seen.text))
    (lines : TellTurns m seen.begun 0 (first ∷ rest)) (same : seen.text ≡ text) where
  -- a section's line, with the section that was begun and its turns
  record Part (i turn s : ℕ) : Type 0 where
    past : List Started
    x : Started
    later : List Started
    cut : seen.begun ≡ past ++ x ∷ later
    place_is : length past ≡ i
    from : ℕ
    to : ℕ
    start : x.start ≡ turn
    window : IsWindow (length rest) from to (record { start = x.start; end = x.end }) (times_of later)
    ends : (to ≡ length rest) ⊎ NextAt m seen.begun spread s (to + 1) later
    pulses : pulses_of s (lines_between from to rest) ≡ pulses_in i s (gather (λ t. t.lines) (first ∷ rest))
    moves : moves_of (sections_over m text) i ≡ x.section.moves
    kind : section_kind (sections_over m text) i ≡ x.section.kind

  sections_of : (past : List Started) (x : Started) (later : List Started) → seen.begun ≡ past ++ x ∷ later → get_or (sections_over m text) (length past) no_section ≡ x.section
  sections_of past x later cut = search (rules, section_is)

  part_of : (i turn s : ℕ) → section_turn i (gather (λ t. t.lines) (first ∷ rest)) ≡ Some turn → Part i turn s
  part_of i turn s e =
      let x = shown m seen.begun spread s 0 i turn (first ∷ rest) lines e in
      let At : List Started → Type 0 = λ z. Spread 260 z in
      let late = starts_late 260 x.past x.s x.later (subst At x.cut spread) in
      let from = turn - 1 in
      let to = turn - 1 + x.many in
      let start = x.start in
      let within = x.within in
      let some = x.some in
      let begins : from + 1 ≡ x.s.start = omega arith in
      let count : to - from ≡ x.many = omega arith in
      let place : turn - 0 ≡ suc from = omega arith in
      let behind : turn + x.many ≡ to + 1 = omega arith in
      let Next : ℕ → Type 0 = λ n. NextAt m seen.begun spread s n x.later in
      record {
        past = x.past;
        x = x.s;
        later = x.later;
        cut = x.cut;
        place_is = x.place_is;
        from = from;
        to = to;
        start = start;
        window = record { begins = begins; order = omega arith; within = omega arith; next = next_before (turn + x.many) x.later to (omega arith) x.next };
        ends = elim x.ends [ inl f ↦ inl (omega (arith, f, behind)) | inr f ↦ inr (subst Next behind f) ];
        pulses = ap (λ n. pulses_of s (gather (λ (t : ReactorTurn). t.lines) (take n (drop from rest)))) count
            ∙ sym (x.pulses ∙ ap (λ n. pulses_of s (gather (λ (t : ReactorTurn). t.lines) (take x.many (drop n (first ∷ rest))))) place);
        moves = ap (λ n. moves_of (sections_over m text) n) (sym x.place_is) ∙ ap (λ (z : Section). z.moves) (sections_of x.past x.s x.later x.cut);
        kind = ap (λ n. section_kind (sections_over m text) n) (sym x.place_is) ∙ ap (λ (z : Section). z.kind) (sections_of x.past x.s x.later x.cut);
      }

  -- the end of a section of moves
  part_end : (clocks : List Clocks) (ready : ℕ) → AreStarted m clocks ready seen.begun → (i turn : ℕ) (e : section_turn i (gather (λ t. t.lines) (first ∷ rest)) ≡ Some turn) → section_kind (sections_over m text) i ≡ Moves
      → (part_of i turn 0 e).x.end ≡ section_end m clocks (moves_of (sections_over m text) i) turn
  part_end clocks ready started i turn e moves = search (rules, part_of, planned_at)

  -- a section of moves with its line ended by the last turn, where all did
  part_over : (clocks : List Clocks) (ready : ℕ) → AreStarted m clocks ready seen.begun → All (λ y. y.end + 5 ≤ length rest) seen.begun → (i turn : ℕ) → section_turn i (gather (λ t. t.lines) (first ∷ rest)) ≡ Some turn
      → section_kind (sections_over m text) i ≡ Moves → section_end m clocks (moves_of (sections_over m text) i) turn < length rest
  part_over clocks ready started over i turn e moves =
      let x = part_of i turn 0 e in
      let Over : List Started → Type 0 = λ z. All (λ y. y.end + 5 ≤ length rest) z in
      let o = over_at (length rest) x.past x.x x.later (subst Over x.cut over) in
      let end = part_end clocks ready started i turn e moves in
      omega (arith, o, end)

  -- and by it where the next section has its line
  part_next : (clocks : List Clocks) (ready : ℕ) → AreStarted m clocks ready seen.begun → (i turn next : ℕ) → section_turn i (gather (λ t. t.lines) (first ∷ rest)) ≡ Some turn → section_turn (i + 1) (gather (λ t. t.lines) (first ∷ rest)) ≡ Some next
      → section_kind (sections_over m text) i ≡ Moves → section_end m clocks (moves_of (sections_over m text) i) turn < length rest
  part_next clocks ready started i turn next e f moves =
      let x = part_of i turn 0 e in
      let y = part_of (i + 1) next 0 f in
      let Apart : List Started → Type 0 = λ z. AreStarted m clocks ready z in
      let behind = next_begun x.past x.x x.later y.past y.x y.later (sym x.cut ∙ y.cut) (omega (arith, x.place_is, y.place_is)) in
      let apart = apart_by m clocks ready x.past x.x y.x y.later (subst Apart (x.cut ∙ ap (λ z. x.past ++ x.x ∷ z) behind) started) in
      let begins = y.window.begins in
      let order = y.window.order in
      let within = y.window.within in
      let end = part_end clocks ready started i turn e moves in
      omega (arith, apart, begins, order, within, end)

  -- the pulses of each stepper in each section fit its plan
  abbrev AllFit : List Clocks → Type 0
  AllFit clocks = (past : List Started) (s : Started) (later : List Started) (from to place : ℕ) → seen.begun ≡ past ++ s ∷ later → place < length m.steppers → IsWindow (length rest) from to (record { start = s.start; end = s.end }) (times_of later)
      → Fits (clocks_at clocks (stepper_at m place).board).first.freq (base_tick m clocks s.start place) (pulses_of place (lines_between from to rest)) (stepper_plan m clocks s.section.moves s.start place)

  -- the lines of all turns
  fits_follow : (clocks : List Clocks) → AllFit clocks → FollowsPlanBy clocks m (sections_over m text) (gather (λ t. t.lines) (first ∷ rest))
  fits_follow clocks fits i turn s e low =
      let x = part_of i turn s e in
      let fit = fits x.past x.x x.later x.from x.to s x.cut low x.window in
      let pulses = x.pulses in
      let start = x.start in
      let own = x.moves in
      let Of : List Pulse × ℕ × List _ → Type 0 = λ z. Fits (clocks_at clocks (stepper_at m s).board).first.freq (base_tick m clocks z.1 s) z.0 (stepper_plan m clocks z.2 z.1 s) in
      subst Of (λ j. (pulses j, start j, sym own j)) fit

-- the first lines of a report show the first ones of the pulses
before_front : (s : ℕ) (xs ys : List ReportLine) → (more : List Pulse) × (pulses_before s (xs ++ ys) ≡ pulses_before s xs ++ more)
before_front s [] ys = (pulses_before s ys, refl)
before_front s (report.Section j t kind ∷ xs) ys = ([], refl)
before_front s (report.Pulse board stepper tick up ∷ xs) ys = by (stepper == s) (before_front s xs ys)
  where
    by : (b : Bool) → (more : List Pulse) × (pulses_before s (xs ++ ys) ≡ pulses_before s xs ++ more) → (more : List Pulse) × ((if b then record { tick = tick; stepper = stepper; up = up } ∷ pulses_before s (xs ++ ys) else pulses_before s (xs ++ ys))
        ≡ (if b then record { tick = tick; stepper = stepper; up = up } ∷ pulses_before s xs else pulses_before s xs) ++ more)
    by true rest = (rest.0, ap (λ z. record { tick = tick; stepper = stepper; up = up } ∷ z) rest.1)
    by false rest = rest
before_front s (report.Machine corexy boards steppers ∷ xs) ys = before_front s xs ys
before_front s (report.Board board freq at tick ∷ xs) ys = before_front s xs ys
before_front s (report.Cut section board pin tick from ∷ xs) ys = before_front s xs ys
before_front s (report.Drift board sent clock from ∷ xs) ys = before_front s xs ys
before_front s (report.Lines accepted passed ∷ xs) ys = before_front s xs ys
before_front s (report.Out board pin tick on ∷ xs) ys = before_front s xs ys
before_front s (report.Fit section stepper pulses planned early late ∷ xs) ys = before_front s xs ys
before_front s (report.Made seed moves ∷ xs) ys = before_front s xs ys
before_front s (report.Count stepper pulses ∷ xs) ys = before_front s xs ys
before_front s (report.End c ∷ xs) ys = before_front s xs ys

in_front : (i turn s : ℕ) (xs ys : List ReportLine) → section_turn i xs ≡ Some turn → (more : List Pulse) × (pulses_in i s (xs ++ ys) ≡ pulses_in i s xs ++ more)
in_front i turn s [] ys e = absurd (let f : None ≡ Some turn = e in cc)
in_front i turn s (report.Section j t kind ∷ xs) ys e = by (j == i) (λ f. in_front i turn s xs ys f) e
  where
    by : (b : Bool) → (section_turn i xs ≡ Some turn → (more : List Pulse) × (pulses_in i s (xs ++ ys) ≡ pulses_in i s xs ++ more)) → (if b then Some t else section_turn i xs) ≡ Some turn
        → (more : List Pulse) × ((if b then pulses_before s (xs ++ ys) else pulses_in i s (xs ++ ys)) ≡ (if b then pulses_before s xs else pulses_in i s xs) ++ more)
    by true rec f = before_front s xs ys
    by false rec f = rec f
in_front i turn s (report.Pulse board stepper tick up ∷ xs) ys e = in_front i turn s xs ys e
in_front i turn s (report.Machine corexy boards steppers ∷ xs) ys e = in_front i turn s xs ys e
in_front i turn s (report.Board board freq at tick ∷ xs) ys e = in_front i turn s xs ys e
in_front i turn s (report.Cut section board pin tick from ∷ xs) ys e = in_front i turn s xs ys e
in_front i turn s (report.Drift board sent clock from ∷ xs) ys e = in_front i turn s xs ys e
in_front i turn s (report.Lines accepted passed ∷ xs) ys e = in_front i turn s xs ys e
in_front i turn s (report.Out board pin tick on ∷ xs) ys e = in_front i turn s xs ys e
in_front i turn s (report.Fit section stepper pulses planned early late ∷ xs) ys e = in_front i turn s xs ys e
in_front i turn s (report.Made seed moves ∷ xs) ys e = in_front i turn s xs ys e
in_front i turn s (report.Count stepper pulses ∷ xs) ys e = in_front i turn s xs ys e
in_front i turn s (report.End c ∷ xs) ys e = in_front i turn s xs ys e

fits_front : (freq base : ℕ) (ps qs : List Pulse) (plan : List Planned) → Fits freq base (ps ++ qs) plan → Fits freq base ps plan
fits_front freq base [] qs plan h = tt
fits_front freq base (p ∷ ps) qs [] h = absurd h
fits_front freq base (p ∷ ps) qs (s ∷ plan) h = (h.0, fits_front freq s.tick ps qs plan h.1)

follow_front : (clocks : List Clocks) (m : Machine) (text : List ℕ) (xs ys : List ReportLine) → FollowsPlanBy clocks m (sections_over m text) (xs ++ ys) → FollowsPlanBy clocks m (sections_over m text) xs
follow_front clocks m text xs ys h i turn s e low =
    let all = h i turn s (turn_front i turn xs ys e) low in
    let f = in_front i turn s xs ys e in
    let freq = (clocks_at clocks (stepper_at m s).board).first.freq in
    let plan = stepper_plan m clocks (moves_of (sections_over m text) i) turn s in
    let At : List Pulse → Type 0 = λ z. Fits freq (base_tick m clocks turn s) z plan in
    fits_front freq (base_tick m clocks turn s) (pulses_in i s xs) f.0 plan (subst At f.1 all)

moves_front : (clocks : List Clocks) (m : Machine) (text : List ℕ) (xs ys : List ReportLine) → AreNumbered 0 (heads_of xs) → IsCompleteOfMovesBefore clocks m (sections_over m text) (xs ++ ys) → IsCompleteOfMovesBefore clocks m (sections_over m text) xs
moves_front clocks m text xs ys numbered h i turn s other e kind low more same some =
    let front = behind_front other (i + 1) xs ys some in
    let grown = ap (pulses_of other) front ∙ flat_map-append (pulse_in other) (lines_behind (i + 1) xs) ys in
    let stays = in_stays i s other 0 xs ys numbered (omega arith) some in
    ap length (sym stays) ∙ h i turn s other (turn_front i turn xs ys e) kind low more same (λ f. some (first_none (pulses_of other (lines_behind (i + 1) xs)) (pulses_of other ys) (sym grown ∙ f)))
  where
    first_none : (ps qs : List Pulse) → ps ++ qs ≡ [] → ps ≡ []
    first_none [] qs e = refl
    first_none (p ∷ ps) qs e = let f : p ∷ (ps ++ qs) ≡ [] = e in cc

-- the numbers of what was read
first_counts : (a p : ℕ) (rest lines : List ReportLine) → counts_of lines ≡ report.Lines a p ∷ rest → lines_line lines ≡ Some (a, p)
first_counts a p rest [] e = absurd (let f : [] ≡ report.Lines a p ∷ rest = e in cc)
first_counts a p rest (report.Lines accepted passed ∷ lines) e =
    let f : report.Lines accepted passed ∷ counts_of lines ≡ report.Lines a p ∷ rest = e in
    let same : (accepted, passed) ≡ (a, p) = cc in
    ap Some same
first_counts a p rest (report.Section section turn kind ∷ lines) e = first_counts a p rest lines e
first_counts a p rest (report.Pulse board stepper tick up ∷ lines) e = first_counts a p rest lines e
first_counts a p rest (report.Machine corexy boards steppers ∷ lines) e = first_counts a p rest lines e
first_counts a p rest (report.Board board freq at tick ∷ lines) e = first_counts a p rest lines e
first_counts a p rest (report.Cut section board pin tick from ∷ lines) e = first_counts a p rest lines e
first_counts a p rest (report.Drift board sent clock from ∷ lines) e = first_counts a p rest lines e
first_counts a p rest (report.Out board pin tick on ∷ lines) e = first_counts a p rest lines e
first_counts a p rest (report.Fit section stepper pulses planned early late ∷ lines) e = first_counts a p rest lines e
first_counts a p rest (report.Made seed moves ∷ lines) e = first_counts a p rest lines e
first_counts a p rest (report.Count stepper pulses ∷ lines) e = first_counts a p rest lines e
first_counts a p rest (report.End c ∷ lines) e = first_counts a p rest lines e

ends_as : (s : ReadStop) → text_end s ≡ cause_of s
ends_as read.End = refl
ends_as c = refl

-- a run that went through was written whole
through_whole : (c : Cause) → GoesThrough c → (c ≡ cause.Memory → ⊥) × (c ≡ cause.WriteFault → ⊥)
through_whole cause.Done g = (λ e. let f : cause.Done ≡ cause.Memory = e in cc, λ e. let f : cause.Done ≡ cause.WriteFault = e in cc)
through_whole (cause.Line line kind) g = (λ e. let f : cause.Line line kind ≡ cause.Memory = e in cc, λ e. let f : cause.Line line kind ≡ cause.WriteFault = e in cc)
through_whole (cause.Asked line) g = (λ e. let f : cause.Asked line ≡ cause.Memory = e in cc, λ e. let f : cause.Asked line ≡ cause.WriteFault = e in cc)
through_whole c g = absurd g

-- memory was wanted, or a write failed, or neither
cause_either : (c : Cause) → ((c ≡ cause.Memory) ⊎ (c ≡ cause.WriteFault)) ⊎ ((c ≡ cause.Memory → ⊥) × (c ≡ cause.WriteFault → ⊥))
cause_either cause.Memory = inl (inl refl)
cause_either cause.WriteFault = inl (inr refl)
cause_either c = inr (λ e. let f : c ≡ cause.Memory = e in cc, λ e. let f : c ≡ cause.WriteFault = e in cc)

read_causes : (x : DeskStop) (c : Cause) → c ≡ desk.cause_of x → (c ≡ cause.Memory) ⊎ ((c ≡ cause.ReadFault) ⊎ (c ≡ cause.WriteFault))
read_causes stop.Memory c e = inl e
read_causes stop.Failed c e = inr (inl e)

pub some_turns : {T : Type 0} (xs : List T) (x : T) → (y : T) × (ys : List T) × (xs ++ x ∷ [] ≡ y ∷ ys)
some_turns [] x = (x, [], refl)
some_turns (y ∷ xs) x = (y, xs ++ x ∷ [], refl)

-- what the turns of a run in which axes may home show
homes_follow : (m : Machine) (seen : PlannerInput) (clocks : List Clocks) (ready : ℕ) (c : Cause) (text : List ℕ) (first : ReactorTurn) (rest : List ReactorTurn) → Spread 260 seen.begun → ShowHomes m seen clocks ready c first rest → seen.text ≡ text
    → FollowsPlanBy clocks m (sections_over m text) (gather (λ t. t.lines) (first ∷ rest))
homes_follow m seen clocks ready c text first rest spread h same = fits_follow m seen text first rest spread h.of_text h.lines same clocks h.fit

-- where the sections of moves of its turns are whole, those of its lines are
module _ (m : Machine) (seen : PlannerInput) (clocks : List Clocks) (ready : ℕ) (c : Cause) (text : List ℕ) (first : ReactorTurn) (rest : List ReactorTurn) (spread : Spread 260 seen.begun) (h : ShowHomes m seen clocks ready c first rest)
    (same : seen.text ≡ text) where
  home_piece : (i turn s : ℕ) → section_turn i (gather (λ t. t.lines) (first ∷ rest)) ≡ Some turn → Part m seen text first rest spread h.of_text h.lines same i turn s
  home_piece i turn s e = part_of m seen text first rest spread h.of_text h.lines same i turn s e

  -- in a run that went through
  abbrev MovesWhole : Type 0
  MovesWhole = (past : List Started) (s : Started) (later : List Started) (from to place : ℕ) → seen.begun ≡ past ++ s ∷ later → s.section.kind ≡ Moves → place < length m.steppers
      → IsWindow (length rest) from to (record { start = s.start; end = s.end }) (times_of later) → s.end + 5 ≤ to → length (pulses_of place (lines_between from to rest)) ≡ length (stepper_plan m clocks s.section.moves s.start place)

  homes_whole : MovesWhole → GoesThrough c → IsCompleteOfMovesBy clocks m (sections_over m text) (gather (λ t. t.lines) (first ∷ rest))
  homes_whole moves g i turn s e kind low =
      let x = home_piece i turn s e in
      let whole = moves x.past x.x x.later x.from x.to s x.cut (sym x.kind ∙ kind) low x.window (over x.past x.x x.later x.to x.cut x.ends) in
      let pulses = x.pulses in
      let start = x.start in
      let own = x.moves in
      let Of : List Pulse × ℕ × List _ → Type 0 = λ z. length z.0 ≡ length (stepper_plan m clocks z.2 z.1 s) in
      subst Of (λ j. (pulses j, start j, sym own j)) whole
    where
      over : (past : List Started) (x : Started) (later : List Started) (to : ℕ) → seen.begun ≡ past ++ x ∷ later → (to ≡ length rest) ⊎ NextAt m seen.begun spread s (to + 1) later → x.end + 5 ≤ to
      over past x later to cut (inl f) =
          let Over : List Started → Type 0 = λ z. All (λ y. y.end + 5 ≤ length rest) z in
          let o = over_at (length rest) past x later (subst Over cut (h.through g).over) in
          omega (arith, o, f)
      over past x [] to cut (inr f) = absurd f
      over past x (y ∷ later) to cut (inr f) =
          let Apart : List Started → Type 0 = λ z. AreStarted m clocks ready z in
          let a = apart_by m clocks ready past x y later (subst Apart cut h.started) in
          omega (arith, a, f)

  -- and whatever ended it
  abbrev MovesPassed : Type 0
  MovesPassed = (past : List Started) (s : Started) (later : List Started) (from to place other : ℕ) → seen.begun ≡ past ++ s ∷ later → s.section.kind ≡ Moves → place < length m.steppers → other < length m.steppers
      → (stepper_at m other).board ≡ (stepper_at m place).board → IsWindow (length rest) from to (record { start = s.start; end = s.end }) (times_of later) → s.end + 5 ≤ to
      → pulses_of other (lines_between to (length rest) rest) ≢ [] → length (pulses_of place (lines_between from to rest)) ≡ length (stepper_plan m clocks s.section.moves s.start place)

  homes_before : MovesPassed → IsCompleteOfMovesBefore clocks m (sections_over m text) (gather (λ t. t.lines) (first ∷ rest))
  homes_before passed i turn s other e kind low more board some =
      let x = home_piece i turn s e in
      let b = behind m seen.begun spread other 0 (i + 1) (first ∷ rest) h.lines some in
      let next = next_begun x.past x.x x.later b.past b.s b.later (sym x.cut ∙ b.cut) (omega (arith, b.place_is, x.place_is)) in
      let at = starts x.later b.s b.later x.to next x.window.next x.ends b.within in
      let Apart : List Started → Type 0 = λ z. AreStarted m clocks ready z in
      let apart = apart_by m clocks ready x.past x.x b.s b.later (subst Apart (x.cut ∙ ap (λ z. x.past ++ x.x ∷ z) next) h.started) in
      let turns : b.s.start - 0 ≡ suc x.to = omega (arith, at) in
      let size = length-drop x.to rest in
      let told : pulses_of other (lines_behind (i + 1) (gather (λ t. t.lines) (first ∷ rest))) ≡ pulses_of other (lines_between x.to (length rest) rest) =
      b.pulses ∙ ap (λ n. pulses_of other (gather (λ (t : ReactorTurn). t.lines) (drop n (first ∷ rest)))) turns
      ∙ ap (λ z. pulses_of other (gather (λ (t : ReactorTurn). t.lines) z)) (sym (take_all (length rest - x.to) (drop x.to rest) (omega (arith, size)))) in
      let whole = passed x.past x.x x.later x.from x.to s other x.cut (sym x.kind ∙ kind) low more board x.window (omega (arith, at, apart)) (λ f. some (told ∙ f)) in
      let pulses = x.pulses in
      let start = x.start in
      let own = x.moves in
      let Of : List Pulse × ℕ × List _ → Type 0 = λ z. length z.0 ≡ length (stepper_plan m clocks z.2 z.1 s) in
      subst Of (λ j. (pulses j, start j, sym own j)) whole
    where
      starts : (later : List Started) (y : Started) (more : List Started) (to : ℕ) → later ≡ y ∷ more → NextStart to (times_of later) → (to ≡ length rest) ⊎ NextAt m seen.begun spread s (to + 1) later → y.start < 0 + length (first ∷ rest) → y.start ≡ to + 1
      starts [] y more to e n a w = absurd (let f : [] ≡ y ∷ more = e in cc)
      starts (z ∷ later) y more to e n (inl a) w = let same : z ≡ y = cc in let is = ap (λ (q : Started). q.start) same in absurd (omega (arith, n, a, w, is))
      starts (z ∷ later) y more to e n (inr a) w = let same : z ≡ y = cc in ap (λ (q : Started). q.start) (sym same) ∙ a

-- turns up to one
tell_take : (m : Machine) (begun : List Started) (k n : ℕ) (ts : List ReactorTurn) → TellTurns m begun k ts → TellTurns m begun k (take n ts)
tell_take m begun k zero ts h = tt
tell_take m begun k (suc n) [] h = tt
tell_take m begun k (suc n) (t ∷ ts) h = (h.0, tell_take m begun (k + 1) n ts h.1)

take_in : {A : Type 0} (k from n : ℕ) (xs : List A) → from + k ≤ n → take k (drop from (take n xs)) ≡ take k (drop from xs)
take_in k zero n xs h = take-take k n xs (omega (arith, h))
take_in k (suc from) zero xs h = absurd (omega (arith, h))
take_in k (suc from) (suc n) [] h = refl
take_in k (suc from) (suc n) (x ∷ xs) h = take_in k from n xs (omega (arith, h))

-- the section lines of those that were written have their numbers
pub numbered_said : (m : Machine) (seen : PlannerInput) (clocks : List Clocks) (ready : ℕ) (own : Cause) (first : ReactorTurn) (later : List ReactorTurn) (said rest : List ReportLine) → ShowBegun m seen clocks ready own first later → gather (λ t. t.lines) (first ∷ later) ≡ said ++ rest → AreNumbered 0 (heads_of said)
numbered_said m seen clocks ready own first later said rest h shown_all =
    let Numbered : List ReportLine → Type 0 = λ z. AreNumbered 0 z in
    let its = begun_heads m seen clocks ready own first later h in
    let all = numbered_front 0 (heads_of (gather (λ (t : ReactorTurn). t.lines) (first ∷ later))) its.front.0 (subst Numbered its.front.1 (numbered_begun 0 its.begun)) in
    numbered_front 0 (heads_of said) (heads_of rest) (subst Numbered (ap heads_of shown_all ∙ flat_map-append head_in said rest) all)

-- the cut lines of those that were written
module _ (m : Machine) (switches : List Switch) (seen : PlannerInput) (clocks : List Clocks) (ready : ℕ) (own c : Cause) (text : List ℕ) (said rest : List ReportLine) (spread : Spread 260 seen.begun) (same : seen.text ≡ text) (through : GoesThrough c → (rest ≡ []) × (c ≡ own)) where
  cuts_shown : (first : ReactorTurn) (later : List ReactorTurn) → ShowBegun m seen clocks ready own first later → TellEnds m switches seen.begun 0 (first ∷ later) → gather (λ t. t.lines) (first ∷ later) ≡ said ++ rest → HaveCuts m switches c (sections_over m text) said
  cuts_shown first later h ends shown_all =
      have_cuts m switches (sections_over m text) (drop (length seen.begun) (sections_over m text)) seen.begun of_sections spread ready (begun_row m clocks ready seen.begun h.started) (first ∷ later) h.lines ends c said rest shown_all
      (numbered_said m seen clocks ready own first later said rest h shown_all) (λ g. (
        (through g).0,
        sym (ap length ((h.through (went g)).all ∙ ap (program_sections m) same)) ∙ length-map seen.begun (λ (x : Started). x.section),
        λ past s more cut.
            let Over : List Started → Type 0 = λ z. All (λ (y : Started). y.end + 5 ≤ length later) z in
            let over = over_at (length later) past s more (subst Over cut (h.through (went g)).over) in
            omega (arith, over),
      ))
    where
      of_sections : sections_over m text ≡ map (λ x. x.section) seen.begun ++ drop (length seen.begun) (sections_over m text)
      of_sections = sym (take-append-drop (length seen.begun) (sections_over m text)) ∙ ap (λ z. z ++ drop (length seen.begun) (sections_over m text)) (sym (h.of_text ∙ ap (λ z. take (length seen.begun) (program_sections m z)) same))

      went : GoesThrough c → GoesThrough own
      went g = subst (λ (z : Cause). GoesThrough z) (through g).1 g

  all_cuts : (turns : List ReactorTurn) → (x : ReactorTurn) × (xs : List ReactorTurn) × (turns ≡ x ∷ xs) → AllShowBegun m seen clocks ready own turns → TellEnds m switches seen.begun 0 turns → gather (λ t. t.lines) turns ≡ said ++ rest → HaveCuts m switches c (sections_over m text) said
  all_cuts [] some h ends shown_all = absurd (let e : [] ≡ some.0 ∷ some.1 = some.2 in cc)
  all_cuts (first ∷ later) some h ends shown_all = cuts_shown first later h ends shown_all

-- the pulses of those that were written
said_follow : (m : Machine) (seen : PlannerInput) (clocks : List Clocks) (ready : ℕ) (own : Cause) (text : List ℕ) (said rest : List ReportLine) → Spread 260 seen.begun → seen.text ≡ text → (first : ReactorTurn) (later : List ReactorTurn)
    → ShowHomes m seen clocks ready own first later → gather (λ t. t.lines) (first ∷ later) ≡ said ++ rest → FollowsPlanBy clocks m (sections_over m text) said
said_follow m seen clocks ready own text said rest spread same first later h shown_all =
    let At : List ReportLine → Type 0 = λ z. FollowsPlanBy clocks m (sections_over m text) z in
    follow_front clocks m text said rest (subst At shown_all (homes_follow m seen clocks ready own text first later spread h same))

-- those that were written show it
module _ (m : Machine) (switches : List Switch) (seen : PlannerInput) (clocks : List Clocks) (ready : ℕ) (own c : Cause) (text : List ℕ) (said rest : List ReportLine) (spread : Spread 260 seen.begun) (same : seen.text ≡ text) (through : GoesThrough c → (rest ≡ []) × (c ≡ own)) where
  pub homes_shown : (turns : List ReactorTurn) → (x : ReactorTurn) × (xs : List ReactorTurn) × (turns ≡ x ∷ xs) → AllShowHomes m seen clocks ready own turns → HaveCuts m switches c (sections_over m text) said → AllWholeHomes m seen clocks own turns → gather (λ t. t.lines) turns ≡ said ++ rest → ShowsHomes m switches text c said
  homes_shown [] some all cuts wholes shown_all = absurd (let e : [] ≡ some.0 ∷ some.1 = some.2 in cc)
  homes_shown (first ∷ later) some h cuts wholes shown_all = record {
    clocks = clocks;
    ready = ready;
    prefix = said_follow m seen clocks ready own text said rest spread same first later h shown_all;
    whole = λ g.
        let Whole : List ReportLine → Type 0 = λ z. IsCompleteOfMovesBy clocks m (sections_over m text) z in
        subst Whole (whole g) (homes_whole m seen clocks ready own text first later spread h same (wholes.whole (went g)) (went g));
    before =
        let Before : List ReportLine → Type 0 = λ z. IsCompleteOfMovesBefore clocks m (sections_over m text) z in
        moves_front clocks m text said rest numbered (subst Before shown_all (homes_before m seen clocks ready own text first later spread h same wholes.passed));
    begun = seen.begun;
    of_text = h.of_text ∙ ap (λ z. take (length seen.begun) (program_sections m z)) same;
    started = h.started;
    sections = (
      heads_of rest ++ front.0,
      front.1 ∙ ap (λ z. z ++ front.0) both ∙ append_assoc (heads_of said) (heads_of rest) front.0 ∙ ap (λ z. z ++ (heads_of rest ++ front.0)) (sym (shown_heads said)),
    );
    all = λ g.
        let t = h.through (went g) in
        (t.all ∙ ap (program_sections m) same, shown_heads said ∙ ap heads_of (sym (whole g)) ∙ whole_heads m seen clocks ready first later starts t.over);
    cuts = cuts;
    boards = λ i turn e. home_boards m seen clocks ready own first later said rest (show_begun m seen clocks ready own first later h) shown_all (some_behind i turn said e);
    counts = λ g.
        let is = h.counts (went g) ∙ ap (λ z. report.Lines (program_end m z).lines (program_end m z).passed ∷ []) same in
        first_counts (program_end m text).lines (program_end m text).passed [] said (ap counts_of (sym (whole g)) ∙ is);
    cause = λ g.
        let is = (h.through (went g)).cause_is ∙ ap (λ z. text_end (program_end m z).stop) same in
        (through g).1 ∙ is ∙ ends_as (program_end m text).stop;
    apart = λ i turn e. homes_apart m seen clocks ready own first later h said rest shown_all (some_behind i turn said e);
    sound = λ i turn e. homes_sound m seen clocks ready own first later said rest (show_begun m seen clocks ready own first later h) shown_all (some_behind i turn said e);
    last = reached.n + 271;
    further = λ i turn e. (told_further i turn e).further;
    first = λ i turn e. (told_further i turn e).first;
    named = λ i turn e. (told_further i turn e).named;
    over = λ i turn e kind why.
        let soon : section_end m clocks (moves_of (sections_over m text) i) turn < reached.n = elim why [
          | inl next ↦
              let over = part_next m seen text first (take reached.n later) spread h.of_text upto_lines same clocks ready h.started i turn next.0 (in_upto i turn e) (in_upto (i + 1) next.0 next.1) kind in
              omega (arith, over, size)
          | inr g ↦
              let over = part_over m seen text first later spread h.of_text h.lines same clocks ready h.started (h.through (went g)).over i turn (in_all i turn e) kind in
              let all = reached.whole (through g).0 in
              omega (arith, over, all)
        ] in
        omega (arith, soon);
    told = λ short firsts.
        let Follows : List ReportLine → Type 0 = λ z. FollowsPlanBy short m (sections_over m text) z in
        follow_front short m text said reached.more (subst Follows reached.upto (fits_follow m seen text first (take reached.n later) spread h.of_text upto_lines same short (fits short firsts)));
  }
    where
      -- the last turn of which lines were written
      reached : Reach (first ∷ later) said rest
      reached = reach first later said rest shown_all

      size : length (take reached.n later) ≡ reached.n
      size = length-take-le reached.n later (let within = reached.within in omega (arith, within))

      upto_lines : TellTurns m seen.begun 0 (first ∷ take reached.n later)
      upto_lines = tell_take m seen.begun 0 (suc reached.n) (first ∷ later) h.lines

      in_upto : (i turn : ℕ) → section_turn i said ≡ Some turn → section_turn i (gather (λ t. t.lines) (first ∷ take reached.n later)) ≡ Some turn
      in_upto i turn e = ap (section_turn i) reached.upto ∙ turn_front i turn said reached.more e

      fits : (short : List Clocks) → ((b : ℕ) → b < length m.boards → AreFirstLines (clocks_at short b) (clocks_at clocks b) (reached.n + 271)) → AllFit m seen text first (take reached.n later) spread h.of_text upto_lines same short
      fits short firsts past s more from to place cut low w =
          let within = reached.within in
          let Window : ℕ → Type 0 = λ n. IsWindow n from to (record { start = s.start; end = s.end }) (times_of more) in
          let own = subst Window size w in
          let order = own.order in
          let inside = own.within in
          let fit = h.told (reached.n + 271) reached.n (omega arith) (omega (arith, within)) short firsts past s more from to place cut low own in
          let At : List ReportLine → Type 0 = λ z. Fits (clocks_at short (stepper_at m place).board).first.freq (base_tick m short s.start place) (pulses_of place z) (stepper_plan m short s.section.moves s.start place) in
          subst At (ap (λ z. gather (λ (t : ReactorTurn). t.lines) z) (sym (take_in (to - from) from reached.n later (omega (arith, order, inside))))) fit

      both : heads_of (gather (λ t. t.lines) (first ∷ later)) ≡ heads_of said ++ heads_of rest
      both = ap heads_of shown_all ∙ flat_map-append head_in said rest

      in_all : (i turn : ℕ) → section_turn i said ≡ Some turn → section_turn i (gather (λ t. t.lines) (first ∷ later)) ≡ Some turn
      in_all i turn e = ap (section_turn i) shown_all ∙ turn_front i turn said rest e

      starts : ShowStarts m seen clocks ready first later
      starts = record { late = h.late; started = h.started; boards = h.boards; lines = h.lines; early = h.early }

      front : AreFirst (heads_of (gather (λ t. t.lines) (first ∷ later))) (begun_lines 0 seen.begun)
      front = first_heads m seen clocks ready first later starts

      numbered : AreNumbered 0 (heads_of said)
      numbered =
          let Numbered : List ReportLine → Type 0 = λ z. AreNumbered 0 z in
          let all = numbered_front 0 (heads_of (gather (λ (t : ReactorTurn). t.lines) (first ∷ later))) front.0 (subst Numbered front.1 (numbered_begun 0 seen.begun)) in
          numbered_front 0 (heads_of said) (heads_of rest) (subst Numbered both all)

      went : GoesThrough c → GoesThrough own
      went g = subst (λ (z : Cause). GoesThrough z) (through g).1 g

      told_further : (i turn : ℕ) → section_turn i said ≡ Some turn → TellFurther m clocks (reached.n + 271) said
      told_further i turn e = homes_further m seen clocks ready own first later said rest (show_begun m seen clocks ready own first later h) shown_all reached (some_behind i turn said e)

      whole : GoesThrough c → gather (λ t. t.lines) (first ∷ later) ≡ said
      whole g = shown_all ∙ ap (λ z. said ++ z) (through g).0 ∙ append-nil said

-- and what is not of pulses
module _ (Keeps : Type 0) (m : Machine) (seen : PlannerInput) (clocks : List Clocks) (ready : ℕ) (own c : Cause) (text : List ℕ) (said rest : List ReportLine) (spread : Spread 260 seen.begun) (same : seen.text ≡ text) (through : GoesThrough c → (rest ≡ []) × (c ≡ own)) where
  begun_shown : (turns : List ReactorTurn) → (x : ReactorTurn) × (xs : List ReactorTurn) × (turns ≡ x ∷ xs) → AllShowBegun m seen clocks ready own turns → (Keeps → AllShowHomes m seen clocks ready own turns) → gather (λ t. t.lines) turns ≡ said ++ rest → ShowsBegun Keeps m text c said
  begun_shown [] some h homes shown_all = absurd (let e : [] ≡ some.0 ∷ some.1 = some.2 in cc)
  begun_shown (first ∷ later) some h homes shown_all = record {
    clocks = clocks;
    ready = ready;
    begun = own_lines.begun;
    of_text = own_lines.of_text ∙ ap (λ z. take (length own_lines.begun) (program_sections m z)) same;
    started = own_lines.started;
    follows = λ keeps. said_follow m seen clocks ready own text said rest spread same first later (homes keeps) shown_all;
    sections = (
      heads_of rest ++ own_lines.front.0,
      own_lines.front.1 ∙ ap (λ z. z ++ own_lines.front.0) both ∙ append_assoc (heads_of said) (heads_of rest) own_lines.front.0 ∙ ap (λ z. z ++ (heads_of rest ++ own_lines.front.0)) (sym (shown_heads said)),
    );
    all = λ g.
        let all = own_lines.all (went g) in
        (all.0 ∙ ap (program_sections m) same, shown_heads said ∙ ap heads_of (sym (whole g)) ∙ all.1);
    boards = λ i turn e. home_boards m seen clocks ready own first later said rest h shown_all (some_behind i turn said e);
    sound = λ i turn e. homes_sound m seen clocks ready own first later said rest h shown_all (some_behind i turn said e);
    counts = λ g.
        let is = h.counts (went g) ∙ ap (λ z. report.Lines (program_end m z).lines (program_end m z).passed ∷ []) same in
        first_counts (program_end m text).lines (program_end m text).passed [] said (ap counts_of (sym (whole g)) ∙ is);
    cause = λ g.
        let is = (h.through (went g)).cause_is ∙ ap (λ z. text_end (program_end m z).stop) same in
        (through g).1 ∙ is ∙ ends_as (program_end m text).stop;
    last = reached.n + 271;
    further = λ i turn e. (told_further i turn e).further;
    first = λ i turn e. (told_further i turn e).first;
    named = λ i turn e. (told_further i turn e).named;
  }
    where
      reached : Reach (first ∷ later) said rest
      reached = reach first later said rest shown_all

      own_lines : HaveBegunLines m seen.text clocks ready own (gather (λ t. t.lines) (first ∷ later))
      own_lines = begun_heads m seen clocks ready own first later h

      both : heads_of (gather (λ t. t.lines) (first ∷ later)) ≡ heads_of said ++ heads_of rest
      both = ap heads_of shown_all ∙ flat_map-append head_in said rest

      went : GoesThrough c → GoesThrough own
      went g = subst (λ (z : Cause). GoesThrough z) (through g).1 g

      told_further : (i turn : ℕ) → section_turn i said ≡ Some turn → TellFurther m clocks (reached.n + 271) said
      told_further i turn e = homes_further m seen clocks ready own first later said rest h shown_all reached (some_behind i turn said e)

      whole : GoesThrough c → gather (λ t. t.lines) (first ∷ later) ≡ said
      whole g = shown_all ∙ ap (λ z. said ++ z) (through g).0 ∙ append-nil said

-- with what the ticks are that the boards' lines tell
abbrev BegunSo : Type 0 → Machine → List ℕ → Cause → List ReportLine → Type 0
BegunSo Keeps m text c said = (begun : ShowsBegun Keeps m text c said) × ((i turn : ℕ) → section_turn i said ≡ Some turn → (b : ℕ) → b < length m.boards → IsTimed begun.clocks begun.ready b)

module _ (Keeps : Type 0) (m : Machine) (seen : PlannerInput) (clocks : List Clocks) (ready : ℕ) (own c : Cause) (text : List ℕ) (said rest : List ReportLine) (spread : Spread 260 seen.begun) (same : seen.text ≡ text) (through : GoesThrough c → (rest ≡ []) × (c ≡ own)) where
  front_shown : (turns : List ReactorTurn) → (x : ReactorTurn) × (xs : List ReactorTurn) × (turns ≡ x ∷ xs) → AllShowBegun m seen clocks ready own turns → (Keeps → AllShowHomes m seen clocks ready own turns) → (seen.begun ≢ [] → (b : ℕ) → b < length m.boards → IsTimed clocks ready b) → gather (λ t. t.lines) turns ≡ said ++ rest
      → BegunSo Keeps m text c said
  unfolding begun_shown
  front_shown [] some b homes timed shown_all = absurd (let e : [] ≡ some.0 ∷ some.1 = some.2 in cc)
  front_shown (first ∷ later) some b homes timed shown_all = (
    begun_shown Keeps m seen clocks ready own c text said rest spread same through (first ∷ later) some b homes shown_all,
    λ i turn e. timed (some_first m clocks ready seen.begun (first ∷ later) said rest b.late b.started b.lines shown_all (some_behind i turn said e)),
  )

-- where nothing was written
nothing_shown : (Keeps : Type 0) (m : Machine) (text : List ℕ) (c : Cause) → (GoesThrough c → ⊥) → ShowsBegun Keeps m text c []
nothing_shown Keeps m text c not = record {
  clocks = [];
  ready = 260;
  begun = [];
  of_text = refl;
  started = tt;
  follows = λ keeps i turn s e low. absurd (none_some turn e);
  sections = ([], refl);
  all = λ g. absurd (not g);
  boards = λ i turn e. absurd (none_some turn e);
  sound = λ i turn e. absurd (none_some turn e);
  counts = λ g. absurd (not g);
  cause = λ g. absurd (not g);
  last = 0;
  further = λ i turn e b h. absurd (none_some turn e);
  first = λ i turn e. absurd (none_some turn e);
  named = λ i turn e. absurd (none_some turn e);
}

nothing_written : (said rest : List ReportLine) → [] ≡ said ++ rest → said ≡ []
nothing_written [] rest e = refl
nothing_written (x ∷ said) rest e = absurd (let g : [] ≡ x ∷ (said ++ rest) = e in cc)

-- the lines of some turns
abbrev pub lines_of : List ReactorTurn → List ReportLine
lines_of turns = gather (λ t. t.lines) turns

-- memory was wanted, or not
pub memory_or : (c : Cause) → (c ≡ cause.Memory) ⊎ (c ≡ cause.Memory → ⊥)
memory_or c = search (rules, cause_either)

module _ {F S : Type 0} (f : Files F) (o : Sink S) (m : Machine) (s : Scene) (gcode : List ℕ) (files files' : F) (out out' : S) (c : Cause) (lines : List ReportLine) (counts : List ℕ) (links : List LinkLog) (v : IsValidMachine m) (short : HaveShortDictionaries m) where
  -- a run that went through was written whole, and ends for its own cause
  pub whole_of : (r : IsReported f o m s gcode files files' out out' c lines counts links) → GoesThrough c → (r.rest ≡ []) × (c ≡ r.told.cause)
  whole_of r g = search (rules, through_whole)

  -- and the cut lines of any text, all or the first ones
  pub cut_lines : (r : IsReported f o m s gcode files files' out out' c lines counts links) (text : List ℕ) (made : IsMade m s r.runs.runs.0 r.runs.runs.1) → made.plans.seen.text ≡ text → (r.told.cause ≡ cause.Memory → ⊥)
      → (said rest : List ReportLine) (d : Cause) → (GoesThrough d → (rest ≡ []) × (d ≡ r.told.cause)) → gather (λ t. t.lines) (r.runs.runs.1 ++ r.runs.runs.2 ∷ []) ≡ said ++ rest → HaveCuts m s.switches d (sections_over m text) said
  cut_lines r text made same other said rest d through shown =
      let seen = made.plans.seen in
      all_cuts m s.switches seen (clocks_heard seen.told) (ready_heard seen.told) r.told.cause d text said rest (plans_spread m (length m.boards) r.runs.runs.0 made.plans) same through (r.runs.runs.1 ++ r.runs.runs.2 ∷ []) (some_turns r.runs.runs.1 r.runs.runs.2)
      (all_begun m v s r.runs.runs.0 made.plans r.runs.runs.2 r.told.cause r.runs.runs.1 (facts f o m s gcode files files' out r.behind r.kept r.kept' r.told r.runs other))
      (all_ends m v s r.runs.runs.0 made.plans r.runs.runs.2 r.told.cause r.runs.runs.1 (run_ended f o m s gcode files files' out r.behind r.kept r.kept' r.told r.runs other)) shown

  -- and of any text, all lines or the first ones
  pub home_lines : (r : IsReported f o m s gcode files files' out out' c lines counts links) (text : List ℕ) (made : IsMade m s r.runs.runs.0 r.runs.runs.1) → made.plans.seen.text ≡ text → (r.told.cause ≡ cause.Memory → ⊥)
      → AllKeepUp m s text r.runs.runs.0 (r.runs.runs.1 ++ r.runs.runs.2 ∷ []) → (said rest : List ReportLine) (d : Cause) → (GoesThrough d → (rest ≡ []) × (d ≡ r.told.cause))
      → gather (λ t. t.lines) (r.runs.runs.1 ++ r.runs.runs.2 ∷ []) ≡ said ++ rest → ShowsHomes m s.switches text d said
  home_lines r text made same other little said rest d through shown =
      let seen = made.plans.seen in
      let turns = r.runs.runs.1 ++ r.runs.runs.2 ∷ [] in
      let Little : List ℕ → Type 0 = λ z. AllKeepUp m s z r.runs.runs.0 turns in
      let held = subst Little (sym same) little in
      let all = facts f o m s gcode files files' out r.behind r.kept r.kept' r.told r.runs other in
      homes_shown m s.switches seen (clocks_heard seen.told) (ready_heard seen.told) r.told.cause d text said rest (plans_spread m (length m.boards) r.runs.runs.0 made.plans) same through turns (some_turns r.runs.runs.1 r.runs.runs.2)
      (all_shows m v s r.runs.runs.0 made.plans r.runs.runs.2 r.told.cause r.runs.runs.1 all short held) (cut_lines r text made same other said rest d through shown)
      (all_wholes m v s r.runs.runs.0 made.plans r.runs.runs.2 r.told.cause r.runs.runs.1 all short held) shown

  -- each board keeps up in all its turns; or in those before the last one, where it ended for want of memory
  abbrev pub KeepsUp : IsReported f o m s gcode files files' out out' c lines counts links → List ℕ → Type 0
  KeepsUp r text = KeepUp m s text r.runs.runs.0 r.runs.runs.1 r.runs.runs.2 r.told.cause

  home_texts : (r : IsReported f o m s gcode files files' out out' c lines counts links) (text : List ℕ) → f.told files gcode ≡ Some text → (r.told.cause ≡ cause.Memory → ⊥)
      → AllKeepUp m s text r.runs.runs.0 (r.runs.runs.1 ++ r.runs.runs.2 ∷ []) → ∥ ShowsHomes m s.switches text c r.said ∥₁
  home_texts r text told other little =
      ∥∥₁_map (run_made f o m s gcode files files' out r.behind r.kept r.kept' r.told r.runs text told r.fresh.at) (λ w. home_lines r text w.0 w.1 other little r.said r.rest c (whole_of r) r.shown)

  -- one that ends for want of memory doesn't go through; and what it writes stands in the turns before the last one
  pub none_through : (r : IsReported f o m s gcode files files' out out' c lines counts links) → r.told.cause ≡ cause.Memory → GoesThrough c → ⊥
  none_through r memory g = (through_whole c g).0 ((whole_of r g).1 ∙ memory)

  pub before_last : (r : IsReported f o m s gcode files files' out out' c lines counts links) → r.told.cause ≡ cause.Memory → lines_of r.runs.runs.1 ≡ r.said ++ r.rest
  before_last r memory =
      let silent = run_silent f o m s gcode files files' out r.behind r.kept r.kept' r.told r.runs memory in
      sym (gather_on (λ (t : ReactorTurn). t.lines) r.runs.runs.1 r.runs.runs.2 ∙ ap (λ z. gather (λ (t : ReactorTurn). t.lines) r.runs.runs.1 ++ z) silent ∙ append-nil (gather (λ (t : ReactorTurn). t.lines) r.runs.runs.1)) ∙ r.shown

  pub none_written : (r : IsReported f o m s gcode files files' out out' c lines counts links) → r.told.cause ≡ cause.Memory → r.runs.runs.1 ≡ [] → r.said ≡ []
  none_written r memory none = nothing_written r.said r.rest (sym (ap lines_of none) ∙ before_last r memory)

  pub front_written : (r : IsReported f o m s gcode files files' out out' c lines counts links) → r.told.cause ≡ cause.Memory → (turns : List ReactorTurn) (last : ReactorTurn) → r.runs.runs.1 ≡ turns ++ last ∷ [] → lines_of (turns ++ last ∷ []) ≡ r.said ++ r.rest
  front_written r memory turns last cut = sym (ap lines_of cut) ∙ before_last r memory

  -- whatever its links hold, and whatever ended it
  pub begun_texts : (r : IsReported f o m s gcode files files' out out' c lines counts links) (text : List ℕ) → f.told files gcode ≡ Some text → ∥ BegunSo (KeepsUp r text) m text c r.said ∥₁
  begun_texts r text told = elim (memory_or r.told.cause) [
    | inr other ↦ ∥∥₁_map (run_made f o m s gcode files files' out r.behind r.kept r.kept' r.told r.runs text told r.fresh.at) (λ w.
        let made = w.0 in
        let seen = made.plans.seen in
        let turns = r.runs.runs.1 ++ r.runs.runs.2 ∷ [] in
        let all = facts f o m s gcode files files' out r.behind r.kept r.kept' r.told r.runs other in
        let begun = all_begun m v s r.runs.runs.0 made.plans r.runs.runs.2 r.told.cause r.runs.runs.1 all in
        let Little : List ℕ → Type 0 = λ z. AllKeepUp m s z r.runs.runs.0 turns in
        front_shown (KeepsUp r text) m seen (clocks_heard seen.told) (ready_heard seen.told) r.told.cause c text r.said r.rest (plans_spread m (length m.boards) r.runs.runs.0 made.plans) w.1 (whole_of r) turns (some_turns r.runs.runs.1 r.runs.runs.2) begun
        (λ keeps. all_shows m v s r.runs.runs.0 made.plans r.runs.runs.2 r.told.cause r.runs.runs.1 all short (subst Little (sym w.1) (keeps.0 other)))
        (begun_timed m v s r.runs.runs.0 made.plans r.runs.runs.2 r.told.cause r.runs.runs.1 all begun) r.shown)
    | inl memory ↦ elim (cut_last r.runs.runs.1) [
      | inl none ↦
          let At : List ReportLine → Type 0 = λ z. BegunSo (KeepsUp r text) m text c z in
          ∣ subst At (sym (none_written r memory none)) (nothing_shown (KeepsUp r text) m text c (none_through r memory), λ i turn e. absurd (none_some turn e)) ∣₁
      | inr x ↦
          let turns = x.0 ++ x.1 ∷ [] in
          let part = run_front f o m s gcode files files' out r.behind r.kept r.kept' r.told r.runs x.0 x.1 x.2 in
          let long = part.long in
          let size = ap length x.2 ∙ length-append x.0 (x.1 ∷ []) in
          ∥∥₁_map (front_made f o m s gcode files files' out r.behind r.kept r.kept' r.told r.runs text told r.fresh.at part.planned part.later part.are) (λ w.
          let seen = w.0.seen in
          let begun = all_begun m v s part.planned w.0 x.1 cause.ReadFault x.0 part.facts in
          let Little : List ℕ × List ReactorTurn → Type 0 = λ z. AllKeepUp m s z.0 part.planned z.1 in
          front_shown (KeepsUp r text) m seen (clocks_heard seen.told) (ready_heard seen.told) cause.ReadFault c text r.said r.rest (plans_spread m (length m.boards) part.planned w.0) w.1 (λ g. absurd (none_through r memory g)) turns (some_turns x.0 x.1) begun
          (λ keeps. all_shows m v s part.planned w.0 x.1 cause.ReadFault x.0 part.facts short (subst Little (λ j. (sym w.1 j, x.2 j)) (keeps.1 memory part.planned part.later part.are (omega (arith, long, size)))))
          (begun_timed m v s part.planned w.0 x.1 cause.ReadFault x.0 part.facts begun) (front_written r memory x.0 x.1 x.2))
    ]
  ]

  -- and so does one of any text, or a switch never closed
  homes_complete : (r : IsReported f o m s gcode files files' out out' c lines counts links) (text : List ℕ) → f.told files gcode ≡ Some text → ((line : ℕ) → (program_end m text).stop ≡ read.Stop line → ⊥)
      → s.entries ≡ [] → SendsAllSoon m text r.runs.runs.0 → IsCauseOf (cause_of (program_end m text).stop) c ⊎ ((section : ℕ) × (c ≡ cause.NoSwitch section))
  homes_complete r text told goes clear sends = elim (cause_either c) [
    | inl e ↦ inl (elim e [ inl x ↦ inr (inl x) | inr x ↦ inr (inr (inr x)) ])
    | inr not ↦
        let w = r.cause_is not.0 not.1 in
        elim (run_is_for f o m s gcode files files' out r.behind r.kept r.kept' r.told r.runs) [
          | inl e ↦ inl (inr (inl (w.2 ∙ e)))
          | inr (inl e) ↦ inl (inr (inr (inr (w.2 ∙ e))))
          | inr (inr (inl x)) ↦ inl (inr (read_causes x.0 c (w.2 ∙ x.1)))
          | inr (inr (inr own)) ↦
              let other = λ (e : r.told.cause ≡ cause.Memory). not.0 (w.2 ∙ e) in
              let Through : Cause → Type 0 = λ z. GoesThrough z in
              elim (homed.run_through f o m s gcode files files' out r.behind r.kept r.kept' r.told r.runs v short text told r.fresh.at clear own other goes sends) [
                | inl through ↦ inl (inl (∥∥₁_elim (begun_texts r text told) (hlevel props) (λ z. z.0.cause (subst Through (sym w.2) through))))
                | inr e ↦ inr (e.0, w.2 ∙ e.1)
              ]
        ]
  ]

  -- a cause other than want of memory and a failed write is that for which the run ended
  of_run : (r : IsReported f o m s gcode files files' out out' c lines counts links) (x : Cause) → (x ≡ cause.Memory → ⊥) → (x ≡ cause.WriteFault → ⊥) → c ≡ x → r.told.cause ≡ x
  of_run r x memory write e = let w = r.cause_is (λ g. memory (sym e ∙ g)) (λ g. write (sym e ∙ g)) in sym w.2 ∙ e

  of_no_switch : (r : IsReported f o m s gcode files files' out out' c lines counts links) (section : ℕ) → c ≡ cause.NoSwitch section → r.told.cause ≡ cause.NoSwitch section
  of_no_switch r section e = of_run r (cause.NoSwitch section) (λ g. let h : cause.NoSwitch section ≡ cause.Memory = g in cc) (λ g. let h : cause.NoSwitch section ≡ cause.WriteFault = g in cc) e

  of_late : (r : IsReported f o m s gcode files files' out out' c lines counts links) (board first arrival spoiled spill : ℕ) → c ≡ cause.Late board first arrival spoiled spill
      → r.told.cause ≡ cause.Late board first arrival spoiled spill
  of_late r board first arrival spoiled spill e = search (rules, of_run)

  -- what its cause says
  cause_ends : (r : IsReported f o m s gcode files files' out out' c lines counts links) (d : Cause) → c ≡ d → EndsFor m s (f.told files gcode) r.runs.runs.0 r.runs.runs.1 r.runs.runs.2 d
  cause_ends r (cause.Connect board turn) e = λ text told. answering.run_silent f o m s gcode files files' out r.behind r.kept r.kept' r.told r.runs v text told r.fresh.at board turn
      (of_run r (cause.Connect board turn) (λ g. let h : cause.Connect board turn ≡ cause.Memory = g in cc) (λ g. let h : cause.Connect board turn ≡ cause.WriteFault = g in cc) e)
  cause_ends r (cause.Stale board turn) e = answering.run_stale f o m s gcode files files' out r.behind r.kept r.kept' r.told r.runs v board turn
      (of_run r (cause.Stale board turn) (λ g. let h : cause.Stale board turn ≡ cause.Memory = g in cc) (λ g. let h : cause.Stale board turn ≡ cause.WriteFault = g in cc) e)
  cause_ends r (cause.Late board first arrival spoiled spill) e =
      let is = of_late r board first arrival spoiled spill e in (
        run_late f o m s gcode files files' out r.behind r.kept r.kept' r.told r.runs v board first arrival spoiled spill is,
        λ text told near sends. ∥∥₁_map (run_home_units f o m s gcode files files' out r.behind r.kept r.kept' r.told r.runs v short board first arrival spoiled spill text told r.fresh.at is (near_keeps m s text r.runs.runs.0 (r.runs.runs.1 ++ r.runs.runs.2 ∷ []) near))
            (λ w. record { made = w.0; of_text = w.1; late = w.2; heard = w.3.0; known = w.3.1; unit = w.3.3 (inl sends) }),
      )
  cause_ends r (cause.Expired board turn) e =
      let is = of_run r (cause.Expired board turn) (λ g. let h : cause.Expired board turn ≡ cause.Memory = g in cc) (λ g. let h : cause.Expired board turn ≡ cause.WriteFault = g in cc) e in (
        run_first f o m s gcode files files' out r.behind r.kept r.kept' r.told r.runs board turn is,
        λ text told little reads. run_hindered f o m s gcode files files' out r.behind r.kept r.kept' r.told r.runs v short text told r.fresh.at board turn is little reads,
      )
  cause_ends r (cause.NoSwitch section) e =
      let is = of_no_switch r section e in (
        run_unswitched f o m s gcode files files' out r.behind r.kept r.kept' r.told r.runs section is,
        λ text told reads shut. ∥∥₁_map (run_missed f o m s gcode files files' out r.behind r.kept r.kept' r.told r.runs v short text told r.fresh.at reads shut) (λ w. record { made = w.0; of_text = w.1; misses = w.2 section is }),
      )
  cause_ends r _ e = tt

  -- it ends as its text is read; or as no switch closed, and none did in time
  ends_as_read : (r : IsReported f o m s gcode files files' out out' c lines counts links) → (text : List ℕ) → f.told files gcode ≡ Some text → ((line : ℕ) → (program_end m text).stop ≡ read.Stop line → ⊥) → s.entries ≡ [] → SendsAllSoon m text r.runs.runs.0
      → ∥ IsCauseOf (cause_of (program_end m text).stop) c ⊎ EndsUnswitched m s text r.runs.runs.0 r.runs.runs.1 c ∥₁
  ends_as_read r text told goes clear sends = elim (homes_complete r text told goes clear sends) as (λ _. ∥ IsCauseOf (cause_of (program_end m text).stop) c ⊎ EndsUnswitched m s text r.runs.runs.0 r.runs.runs.1 c ∥₁) [
    | inl is ↦ ∣ inl is ∣₁
    | inr x ↦ ∥∥₁_map (homed.run_misses f o m s gcode files files' out r.behind r.kept r.kept' r.told r.runs v short text told r.fresh.at clear goes sends) (λ w.
        inr (record { made = w.0; of_text = w.1; section = x.0; cause_is = x.1; misses = w.2 x.0 (of_no_switch r x.0 x.1) }))
  ]

  -- with what its lines show
  pub planned : IsSceneFor m s → (r : IsReported f o m s gcode files files' out out' c lines counts links)
      → ((text : List ℕ) → f.told files gcode ≡ Some text → ∥ Shows (MeetPremise m s text r.runs.runs.0 r.runs.runs.1 r.runs.runs.2 r.told.cause) m s text c r.said ∥₁)
      → ((text : List ℕ) → f.told files gcode ≡ Some text → GoesThrough c → AreOfMoves (sections_over m text) → MeetPremise m s text r.runs.runs.0 r.runs.runs.1 r.runs.runs.2 r.told.cause → counts ≡ counts_planned m (sections_over m text) (log_of r.said))
      → ((text : List ℕ) → f.told files gcode ≡ Some text → GoesThrough c → HasNames m → MeetPremise m s text r.runs.runs.0 r.runs.runs.1 r.runs.runs.2 r.told.cause ⊎ (sections_over m text ≡ []) → check_cause m text (report_text m (r.said ++ report.End c ∷ [])) ≡ cause.Done)
      → IsLinkReport f o m s gcode files files' out out' c lines counts links
  planned scene r shown counted checks = record {
    reported = r;
    scene = scene;
    counted = counted;
    checks = checks;
    names = λ own other.
        let w = r.cause_is other (λ e. subst IsOwn e own) in
        let Own : Cause → Type 0 = λ z. IsOwn z in
        let Named : Cause → Type 0 = λ z. IsNamed m s r.runs.runs.1 r.runs.runs.2 z in
        subst Named (sym w.2) (run_names f o m s gcode files files' out r.behind r.kept r.kept' r.told r.runs (subst Own w.2 own) (λ e. other (w.2 ∙ e)));
    earlier = run_none f o m s gcode files files' out r.behind r.kept r.kept' r.told r.runs;
    answers = run_answers f o m s gcode files files' out r.behind r.kept r.kept' r.told r.runs;
    readings = run_reads f o m s gcode files files' out r.behind r.kept r.kept' r.told r.runs;
    boards = λ text told. subst (λ z. ∥ AreLinksIn m s text r.told.cause r.runs.runs.0 r.runs.runs.1 r.runs.runs.2 z ∥₁) (sym r.links_are)
        (run_links f o m s gcode files files' out r.behind r.kept r.kept' r.told r.runs text told r.fresh.at);
    shows = shown;
    begun = λ text told. ∥∥₁_map (begun_texts r text told) (λ b. b.0);
    memory = run_silent f o m s gcode files files' out r.behind r.kept r.kept' r.told r.runs;
    triggers = λ text told other reads. run_own f o m s gcode files files' out r.behind r.kept r.kept' r.told r.runs v short text told r.fresh.at other reads;
    complete = ends_as_read r;
    first_ticks = λ text told other reads takes. first_cuts.run_first f o m s gcode files files' out r.behind r.kept r.kept' r.told r.runs v short text told r.fresh.at other reads takes;
    last_cut = λ text told. run_last f o m s gcode files files' out r.behind r.kept r.kept' r.told r.runs v text told r.fresh.at;
    ends = cause_ends r c refl;
    shutdowns = λ text told other near.
        run_home_tells f o m s gcode files files' out r.behind r.kept r.kept' r.told r.runs v short text told r.fresh.at other (near_keeps m s text r.runs.runs.0 (r.runs.runs.1 ++ r.runs.runs.2 ∷ []) near);
    times = λ text told. ∥∥₁_map (run_made f o m s gcode files files' out r.behind r.kept r.kept' r.told r.runs text told r.fresh.at) (λ w.
        let ts = r.runs.runs.0 in
        let rs = r.runs.runs.1 in
        let took = run_taken f o m s gcode files files' out r.behind r.kept r.kept' r.told r.runs ts [] (sym (append-nil ts)) in (
          w.0,
          w.1,
          record {
            first = λ t known. starts m v s ts w.0.plans t r.runs.runs.2 known rs took;
            ends = λ past x others axis. ends m s ts w.0.plans rs took past x others axis;
            exact = λ other t known. clocks.run_first f o m s gcode files files' out r.behind r.kept r.kept' r.told r.runs v other w.0 t known;
          },
        ));
    board_lines = λ other. run_printed f o m s gcode files files' out r.behind r.kept r.kept' r.told r.runs v other;
  }

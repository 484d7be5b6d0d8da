-- The report of a run over links in which axes home checks.
use Rattle.std.proofs.Common.{◌≡◌, ◌≢◌, ◌∙◌, ℕ, true, false, ◌+◌, ◌<◌, ◌^◌, All, List, [], ◌∷◌, ◌++◌, length, Option, Some, None, ap, sym, refl, subst, arith, append-nil, inl, inr, length-append, map}
use Rattle.std.proofs.Math.Logic.{∥∥₁_elim}
use Rattle.std.proofs.Props.{props}
use Rattle.laws_board.proofs.Names.{flat_map-append, length-map, Cause, Machine, tick, Clocks, IsValidMachine, ReportLine, reacts, Known, news_of, noted, first_lines, Came, known_by, Started, Told, MotionTurn, ReactorTurn, gather, Scene, Switch}
use Rattle.io_core.specs.declared.traits.Files.{Ghosts as Files}
use Rattle.io_core.specs.declared.traits.Sink.{Ghosts as Sink}
use Rattle.plan_types.specs.declared.cause.Cause.TheVariants as cause
use Rattle.report_text.specs.declared.line.ReportLine.TheVariants as report
use Rattle.report_text.specs.Text.{report_text}
use Rattle.laws_report.specs.reports.Further.{further_told}
use Rattle.laws_report.specs.reports.Logged.{logged}
use Rattle.session_lanes.specs.declared.near.LinkLog.{LinkLog}
use Rattle.session_run.specs.Boards.{AreReactorTurns, came_from, came_in}
use Rattle.session_run.specs.Reported.{IsReported}
use Rattle.laws_board.specs.plans.Lines.{head_in, heads_of}
use Rattle.laws_board.specs.plans.Planned.{AreToldBy, Plans, PlannerInput, put_of}
use Rattle.laws_board.proofs.plans.Spreading.{plans_spread}
use Rattle.laws_run.specs.run_ends.Boards.{board_in, boards_of}
use Rattle.laws_run.specs.run_ends.Ends.{GoesThrough}
use Rattle.laws_run.specs.run_headline.Further.{TellFurther}
use Rattle.laws_run.specs.run_headline.Timely.{clocks_heard, ready_heard}
use Rattle.laws_run.specs.run_headline.Told.{AreTold}
use Rattle.laws_run.proofs.run_causes.Answering.{run_silent}
use Rattle.laws_run.proofs.run_headline.Boarded.{ready}
use Rattle.laws_run.proofs.run_headline.Runs.{facts}
use Rattle.laws_run.proofs.run_headline.Showing.{Facts, few, turns_cut, untold_alone}
use Rattle.laws_run.proofs.run_headline.Telling.{first_told, reacts_told}
use Rattle.laws_run.specs.run_lines.Due.{begun_lines}
use Rattle.laws_run.proofs.run_lines.Heads.{first_heads, gather_lines}
use Rattle.laws_run.specs.run_causes.Unanswered.{GaveNoAnswer}
use Rattle.laws_run.specs.home_headline.Cuts.{cuts_of}
use Rattle.laws_run.specs.home_headline.Follow.{AllShowHomes, ShowHomes}
use Rattle.laws_run.specs.home_headline.Near.{AllKeepUp}
use Rattle.laws_board.specs.causes.Short.{HaveShortDictionaries}
use Rattle.laws_run.specs.run_limits.Limits.{AreLow, DriftsLow, start_limit}
use Rattle.laws_run.proofs.run_limits.Early.{heads_low}
use Rattle.laws_run.proofs.run_limits.Drifts.{drifts_low}
use Rattle.laws_run.proofs.run_limits.Keeping.{low_of, ready_by}
use Rattle.laws_run.proofs.run_limits.Ticks.{lines_low}
use Rattle.laws_report.specs.reports.Checks.{check_cause}
use Rattle.laws_report.proofs.reports.Homes.{ShowsHomes}
use Rattle.laws_report.specs.reports.Promises.{sections_over}
use Rattle.laws_report.specs.reports.Shown.{section_turn, sections_shown}
use Rattle.laws_report.proofs.reports.Inside.{some_behind}
use Rattle.laws_report.specs.reports.Names.{HasNames}
use Rattle.laws_run.specs.run_headline.Made.{IsMade}
use Rattle.laws_report.proofs.reports.Shorts.{IsTimed}
use Rattle.laws_report.proofs.reports.Timed.{begun_timed, starts_soon}
use Rattle.laws_run.proofs.home_headline.Heads.{show_begun}
use Rattle.laws_report.specs.page.Log.{Follows, SaysLog, StartsOnTime, log_of}
use Rattle.laws_report.proofs.reports.Faulted.{last_lines}
use Rattle.laws_report.proofs.reports.Homed.{home-checks, home-front, home-none, home-says, log-follows, none_first, says-log, shown-all}
use Rattle.laws_report.proofs.reports.Unbegun.{ShowsNone, counts_low}
use Rattle.laws_report.proofs.reports.Unshown.{alone_goes, alone_own, alone_plain, both_none, shown_heads, shown_none, whole_before}
use Rattle.laws_report.proofs.page.Front.{heads-follow}
use Rattle.laws_report.proofs.reports.Linking.{text-cause}
use Rattle.laws_report.proofs.reports.Low.{shown_turn}
use Rattle.laws_report.proofs.reports.Linked.{home_lines, whole_of}
use Rattle.laws_report.proofs.reports.Standing.{first_shown, told_parts}
use Rattle.laws_report.proofs.reports.Wide.{long_uncut, turn_long, turns_long}
use Rattle.laws_report.proofs.reports.Limits.{HaveLongCuts}

-- sections that have their line were begun
begun_some : (m : Machine) (seen : PlannerInput) (clocks : List Clocks) (at : ℕ) (c : Cause) (first : ReactorTurn) (rest : List ReactorTurn) → ShowHomes m seen clocks at c first rest → heads_of (gather (λ t. t.lines) (first ∷ rest)) ≢ [] → seen.begun ≢ []
begun_some m seen clocks at c first rest shows some none =
    let front = first_heads m seen clocks at first rest (record { late = shows.late; started = shows.started; boards = shows.boards; lines = shows.lines; early = shows.early }) in
    let e : [] ≡ heads_of (gather (λ (t : ReactorTurn). t.lines) (first ∷ rest)) ++ front.0 = sym (ap (begun_lines 0) none) ∙ front.1 in
    some (by (heads_of (gather (λ (t : ReactorTurn). t.lines) (first ∷ rest))) front.0 e)
  where
    by : (xs ys : List ReportLine) → [] ≡ xs ++ ys → xs ≡ []
    by [] ys e = refl
    by (x ∷ xs) ys e = absurd (let f : [] ≡ x ∷ (xs ++ ys) = e in cc)

-- the lines of the turns of a run keep the limits of a run
module _ (m : Machine) (v : IsValidMachine m) (s : Scene) (ts : List MotionTurn) (p : Plans m (length m.boards) ts) (end : ReactorTurn) (c : Cause) (some : p.seen.begun ≢ []) where
  module _ (first : ReactorTurn) (rest : List ReactorTurn) (f : Facts m s ts (first ∷ rest) end c)
      (shows : ShowHomes m p.seen (clocks_heard p.seen.told) (ready_heard p.seen.told) c first (rest ++ end ∷ [])) where
    early : All (λ x. x.start < start_limit) p.seen.begun
    early = starts_soon m v s ts p end c (first ∷ rest) f

    timed : (b : ℕ) → b < length m.boards → IsTimed (clocks_heard p.seen.told) (ready_heard p.seen.told) b
    timed = begun_timed m v s ts p end c (first ∷ rest) f (show_begun m p.seen (clocks_heard p.seen.told) (ready_heard p.seen.told) c first (rest ++ end ∷ []) shows) some

    boards_low : AreLow (boards_of (gather (λ t. t.lines) (first ∷ (rest ++ end ∷ []))))
    boards_low =
        let told = shows.boards some in
        let lines = λ (z : List ReactorTurn). gather (λ (t : ReactorTurn). t.lines) z in
        let count = (shows.sound some).clocks_are.count in
        let cut = ap boards_of (ap lines told.are ∙ gather_lines told.past told.later) ∙ flat_map-append board_in (lines told.past) (lines told.later) ∙ ap (λ z. boards_of (lines told.past) ++ z) told.rest ∙ append-nil (boards_of (lines told.past)) ∙ told.lines in
        subst AreLow (sym cut)
        (lines_low (ready_heard p.seen.told) 0 (clocks_heard p.seen.told) (ready_by m (clocks_heard p.seen.told) (ready_heard p.seen.told) p.seen.begun shows.started some early) (λ i lt. (timed i (omega (arith, lt, count))).low))

    further_low : DriftsLow (gather (λ t. t.lines) (first ∷ (rest ++ end ∷ [])))
    further_low = by p.seen.told refl
      where
        by : (o : Option Told) → p.seen.told ≡ o → DriftsLow (gather (λ t. t.lines) (first ∷ (rest ++ end ∷ [])))
        by None e = absurd (some (subst (λ (o : Option Told). AreToldBy m o p.seen.begun) e p.sections))
        by (Some t) e =
            let made = length-map p.made put_of in
            let small = p.small in
            let many = length-append rest (end ∷ []) in
            let own = few m v s ts p end c first rest f in
            let turns = first ∷ (rest ++ end ∷ []) in
            let Tell : Option Told → Type 0 = λ o. TellFurther m (clocks_heard o) (length turns + 271) (gather (λ t. t.lines) turns) in
            drifts_low m v s ts p t first rest end e (ready m v s ts p t first rest end e f.ahead f.words_left f.turns f.words) (λ b h. f.boards b first rest h refl) (omega (arith, made, small, many, own)) (length turns + 271) (gather (λ t. t.lines) turns) (subst Tell e (shows.further some turns [] (sym (append-nil turns))))

    home_low : AreLow (gather (λ t. t.lines) (first ∷ (rest ++ end ∷ [])))
    home_low =
        low_of (gather (λ t. t.lines) (first ∷ (rest ++ end ∷ []))) (heads_low m p.seen.begun 0 (first ∷ (rest ++ end ∷ [])) (plans_spread m (length m.boards) ts p) early shows.lines) boards_low (counts_low m v s ts p end c first rest f)
        further_low

-- the first of some lines
low_first : (xs ys : List ReportLine) → AreLow (xs ++ ys) → AreLow xs
low_first [] ys low = tt
low_first (x ∷ xs) ys low = (low.0, low_first xs ys low.1)

long_first : (xs ys : List ReportLine) → HaveLongCuts (xs ++ ys) → HaveLongCuts xs
long_first [] ys long = tt
long_first (report.Cut i board pin tick from ∷ xs) ys long = (long.0, long.1, long_first xs ys long.2)
long_first (x ∷ xs) ys long = long_first xs ys long

-- and each is one that a reactor may tell
told_both : (m : Machine) (xs ys : List ReportLine) → AreTold true m xs → AreTold true m ys → AreTold true m (xs ++ ys)
told_both m [] ys a b = b
told_both m (x ∷ xs) ys a b = (a.0, told_both m xs ys a.1 b)

turn_told : (m : Machine) (switches : List Switch) (r : Known) (k : ℕ) (t : ReactorTurn) → t.lines ≡ (reacts m switches r k t.states t.note).ordered.lines → AreTold true m t.lines
turn_told m switches r k t e = subst (λ (z : List ReportLine). AreTold true m z) (sym e) (reacts_told true m switches r k t.states t.note (inl refl))

all_told : (m : Machine) (switches : List Switch) (before : List Came) (rs : List ReactorTurn) (end : ReactorTurn) (known : Known) (k : ℕ) → AreReactorTurns m switches before rs → end.lines ≡ (reacts m switches known k end.states end.note).ordered.lines
    → AreTold true m (gather (λ t. t.lines) (rs ++ end ∷ []))
all_told m switches before [] end known k turns last = told_both m end.lines [] (turn_told m switches known k end last) tt
all_told m switches before (r ∷ rs) end known k turns last =
    told_both m r.lines (gather (λ (t : ReactorTurn). t.lines) (rs ++ end ∷ [])) (turn_told m switches (known_by m switches before) (length before) r turns.0.lines_are) (all_told m switches (came_in r ∷ before) rs end known k turns.1 last)

-- the lines of the turns of a run, or of a front of it
module _ (m : Machine) (v : IsValidMachine m) (s : Scene) (ts : List MotionTurn) (p : Plans m (length m.boards) ts) (end : ReactorTurn) (c : Cause) where
  limits : (rs : List ReactorTurn) → Facts m s ts rs end c → AllShowHomes m p.seen (clocks_heard p.seen.told) (ready_heard p.seen.told) c (rs ++ end ∷ []) → heads_of (gather (λ t. t.lines) (rs ++ end ∷ [])) ≢ [] → AreLow (gather (λ t. t.lines) (rs ++ end ∷ []))
  limits [] f shows some = absurd (untold_alone m v s ts p end c p.seen.told refl f (begun_some m p.seen (clocks_heard p.seen.told) (ready_heard p.seen.told) c end [] shows some))
  limits (first ∷ rest) f shows some = home_low m v s ts p end c (begun_some m p.seen (clocks_heard p.seen.told) (ready_heard p.seen.told) c first (rest ++ end ∷ []) shows some) first rest f shows

  -- and where no section has its line they are those of boards and notes
  nones : (rs : List ReactorTurn) → Facts m s ts rs end c → AllShowHomes m p.seen (clocks_heard p.seen.told) (ready_heard p.seen.told) c (rs ++ end ∷ []) → AreTold true m (gather (λ t. t.lines) (rs ++ end ∷ [])) → cuts_of (gather (λ t. t.lines) (rs ++ end ∷ [])) ≡ []
      → heads_of (gather (λ t. t.lines) (rs ++ end ∷ [])) ≡ [] → ((board turn : ℕ) → c ≡ cause.Connect board turn → rs ≡ [] → ⊥) → ShowsNone m (gather (λ t. t.lines) (rs ++ end ∷ []))
  nones [] f shows told uncut none answers = elim f.last [
    | inl why ↦ elim (last_lines m s ts [] end c f why) [
      | inl own ↦ absurd (alone_own m s ts end c f own f.other (λ board turn is. answers board turn is refl))
      | inr plain ↦ alone_plain m s.switches end f.known f.row f.begun plain
    ]
    | inr g ↦ alone_goes m s.switches end v g.0.0
  ]
  nones (first ∷ rest) f shows told uncut none answers = shown_none m v s ts p end c first rest f shows told uncut none

  turns_told : (rs : List ReactorTurn) → Facts m s ts rs end c → AreTold true m (gather (λ t. t.lines) (rs ++ end ∷ []))
  turns_told rs f = all_told m s.switches [] rs end f.known (length (came_from [] rs)) f.turns f.lines_are

  cuts_long : All (λ w. w.line < 2 ^ 64) s.switches → (rs : List ReactorTurn) → Facts m s ts rs end c → HaveLongCuts (gather (λ t. t.lines) (rs ++ end ∷ []))
  cuts_long scene rs f =
      let before = came_from [] rs in
      turns_long m s.switches scene [] rs end tt f.turns (λ goes. elim f.last [
        | inl why ↦ elim (last_lines m s ts rs end c f why) [
          | inl own ↦ turn_long m s.switches scene before end goes (f.lines_are ∙ ap (λ (k : Known). (reacts m s.switches k (length before) end.states end.note).ordered.lines) (f.own own).0)
          | inr plain ↦ subst (λ (z : List ReportLine). HaveLongCuts z) (sym plain) (long_uncut m (first_lines m (noted m end.note f.known) (length before) (news_of end.note) end.states) (first_told false m (noted m end.note f.known) (length before) (news_of end.note) end.states))
        ]
        | inr g ↦ turn_long m s.switches scene before end goes (turns_cut m s.switches [] rs (end ∷ []) g.0).1.0.lines_are
      ])

-- the log of what is printed of a run that met its premise
pub record ShowsLog (m : Machine) (text : List ℕ) (c : Cause) (said : List ReportLine) : Type 0 where
  pub follows : Follows (GoesThrough c) m (sections_over m text) (log_of said)
  pub starts : StartsOnTime (GoesThrough c) m (sections_over m text) (log_of said)
  pub says : HasNames m → SaysLog m (report_text m said) (log_of said)

-- of lines of boards and notes alone
pub none-prints : (m : Machine) (text : List ℕ) (c : Cause) (said : List ReportLine) → IsValidMachine m → ShowsNone m said → (GoesThrough c → length (sections_shown said) ≡ length (sections_over m text)) → ShowsLog m text c said
none-prints m text c said valid none all =
    let Text = sections_over m text in
    let log = log-follows (GoesThrough c) m Text said (heads-follow (GoesThrough c) m Text (further_told (map logged said)) said none.may none.heads) all in
    record { follows = log.0; starts = log.1; says = says-log m said valid none.of_run }

-- what is printed of a run, or of a front of it, by what its turns show
module _ (m : Machine) (s : Scene) (text : List ℕ) (c d : Cause) (said rest : List ReportLine) (valid : IsValidMachine m) (shows : ShowsHomes m s.switches text c said) (ts : List MotionTurn) (p : Plans m (length m.boards) ts) (rs : List ReactorTurn) (end : ReactorTurn) (f : Facts m s ts rs end d)
    (all : AllShowHomes m p.seen (clocks_heard p.seen.told) (ready_heard p.seen.told) d (rs ++ end ∷ [])) (all_shows : ShowsHomes m s.switches text d (gather (λ t. t.lines) (rs ++ end ∷ []))) (are : gather (λ t. t.lines) (rs ++ end ∷ []) ≡ said ++ rest)
    (answers : (board turn : ℕ) → d ≡ cause.Connect board turn → rs ≡ [] → ⊥) (scene : All (λ w. w.line < 2 ^ 64) s.switches) where
  abbrev whole : List ReportLine
  whole = gather (λ t. t.lines) (rs ++ end ∷ [])

  parts : heads_of whole ≡ heads_of said ++ heads_of rest
  parts = ap heads_of are ∙ flat_map-append head_in said rest

  told_whole : AreTold true m whole
  told_whole = turns_told m valid s ts p end d rs f

  told_all : AreTold true m said
  told_all = (told_parts true m said rest (subst (AreTold true m) are told_whole)).0

  long_whole : HaveLongCuts whole
  long_whole = cuts_long m valid s ts p end d scene rs f

  long : HaveLongCuts said
  long = long_first said rest (subst HaveLongCuts are long_whole)

  low_whole : heads_of whole ≢ [] → AreLow whole
  low_whole some = limits m valid s ts p end d rs f all some

  low : heads_of said ≢ [] → AreLow said
  low some = low_first said rest (subst AreLow are (low_whole (λ none. some (both_none (heads_of said) (heads_of rest) (sym parts ∙ none)).0)))

  none : heads_of said ≡ [] → ShowsNone m said
  none before = by (heads_of whole) refl
    where
      by : (heads : List ReportLine) → heads_of whole ≡ heads → ShowsNone m said
      by [] e =
          let uncut : cuts_of whole ≡ [] = ap cuts_of (sym (whole_before whole e)) ∙ all_shows.cuts.before in
          none_first m said rest (subst (ShowsNone m) are (nones m valid s ts p end d rs f all told_whole uncut e answers))
      by (h ∷ hs) e =
          let some : heads_of whole ≢ [] = λ none. (let g : h ∷ hs ≡ [] = sym e ∙ none in cc) in
          home-none m s.switches text d whole valid (λ none. some (sym (shown_heads whole) ∙ none)) all_shows (low_whole some) told_whole long_whole said rest are before

  -- a section is shown
  some_shown : (i turn : ℕ) → section_turn i said ≡ Some turn → sections_shown said ≢ []
  some_shown i turn e none = (let f : None ≡ Some turn = sym (ap (section_turn i) none) ∙ shown_turn i said ∙ e in cc)

  pub shown-checks : HasNames m → sections_over m text ≢ [] → GoesThrough c → check_cause m text (report_text m (said ++ report.End c ∷ [])) ≡ cause.Done
  shown-checks names some through =
      let first = begun_first shows.begun ((shows.all through).1) (λ none. some (sym (shows.all through).0 ∙ ap (map (λ (x : Started). x.section)) none)) in
      home-checks m s.switches text c said valid (some_shown 0 first.0 first.1) shows (low (some_behind 0 first.0 said first.1)) told_all long through names (shows.whole through) (text-cause m text c (shows.cause through))
    where
      begun_first : (begun : List Started) → sections_shown said ≡ begun_lines 0 begun → begun ≢ [] → (turn : ℕ) × (section_turn 0 said ≡ Some turn)
      begun_first [] e never = absurd (never refl)
      begun_first (x ∷ begun) e never = (x.start, first_shown 0 x.start x.section.kind (begun_lines 1 begun) said e)

  -- what was printed before the end line follows the plan, as far as the run came
  pub shown-prints : ShowsLog m text c said
  shown-prints = by (heads_of said) refl
    where
      by : (heads : List ReportLine) → heads_of said ≡ heads → ShowsLog m text c said
      by [] e = none-prints m text c said valid (none e) (shown-all m s.switches text c said shows)
      by (h ∷ hs) e =
          let some : heads_of said ≢ [] = λ none. (let g : h ∷ hs ≡ [] = sym e ∙ none in cc) in
          let shown : sections_shown said ≢ [] = λ none. some (sym (shown_heads said) ∙ none) in
          let log = home-front m s.switches text c said valid shown shows (low some) told_all long in
          record { follows = log.0; starts = log.1; says = home-says m s.switches text c said valid shown shows (low some) told_all long }

-- what a run shows, by what its planner made
module _ {F S : Type 0} (f : Files F) (o : Sink S) (m : Machine) (s : Scene) (gcode : List ℕ) (files files' : F) (out out' : S) (c : Cause) (lines : List ReportLine) (counts : List ℕ) (links : List LinkLog) (valid : IsValidMachine m) (short : HaveShortDictionaries m)
    (own : IsReported f o m s gcode files files' out out' c lines counts links) (text : List ℕ) (told : f.told files gcode ≡ Some text) (not : own.told.cause ≡ cause.Memory → ⊥) (made : IsMade m s own.runs.runs.0 own.runs.runs.1) (same : made.plans.seen.text ≡ text)
    (little : AllKeepUp m s text own.runs.runs.0 (own.runs.runs.1 ++ own.runs.runs.2 ∷ [])) (all : AllShowHomes m made.plans.seen (clocks_heard made.plans.seen.told) (ready_heard made.plans.seen.told) own.told.cause (own.runs.runs.1 ++ own.runs.runs.2 ∷ []))
    (scene : All (λ w. w.line < 2 ^ 64) s.switches) where
  abbrev own_lines : List ReportLine
  own_lines = gather (λ t. t.lines) (own.runs.runs.1 ++ own.runs.runs.2 ∷ [])

  shows : ShowsHomes m s.switches text c own.said
  shows = home_lines f o m s gcode files files' out out' c lines counts links valid short own text made same not little own.said own.rest c (whole_of f o m s gcode files files' out out' c lines counts links valid short own) own.shown

  all_shows : ShowsHomes m s.switches text own.told.cause own_lines
  all_shows = home_lines f o m s gcode files files' out out' c lines counts links valid short own text made same not little own_lines [] own.told.cause (λ g. (refl, refl)) (sym (append-nil own_lines))

  own_facts : Facts m s own.runs.runs.0 own.runs.runs.1 own.runs.runs.2 own.told.cause
  own_facts = facts f o m s gcode files files' out own.behind own.kept own.kept' own.told own.runs not

  -- a run of one turn doesn't end for a board that gave no answer
  unanswered : (board turn : ℕ) → own.told.cause ≡ cause.Connect board turn → own.runs.runs.1 ≡ [] → ⊥
  unanswered board turn is alone =
      let Gave : List ReactorTurn → Type 0 = λ z. GaveNoAnswer m s board turn own.runs.runs.0 z own.runs.runs.2 in
      ∥∥₁_elim (run_silent f o m s gcode files files' out own.behind own.kept own.kept' own.told own.runs valid text told own.fresh.at board turn is) (hlevel props) (λ gave. subst Gave alone gave)

  pub home-links : HasNames m → sections_over m text ≢ [] → GoesThrough c → check_cause m text (report_text m (own.said ++ report.End c ∷ [])) ≡ cause.Done
  home-links = shown-checks m s text c own.told.cause own.said own.rest valid shows own.runs.runs.0 made.plans own.runs.runs.1 own.runs.runs.2 own_facts all all_shows own.shown unanswered scene

  pub home-prints : ShowsLog m text c own.said
  home-prints = shown-prints m s text c own.told.cause own.said own.rest valid shows own.runs.runs.0 made.plans own.runs.runs.1 own.runs.runs.2 own_facts all all_shows own.shown unanswered scene

-- The report of a run in which axes home checks.
use Rattle.std.proofs.Common.{Option, Ok, ◌≡◌, ◌≢◌, ◌∙◌, ◌⊎◌, inl, inr, ℕ, zero, suc, ◌+◌, ◌<◌, ◌≤◌, Bool, true, false, List, [], ◌∷◌, ◌++◌, length, map, drop, ap, sym, refl, subst, arith, Some, None, append_assoc, append-nil, length-append, rules}
use Rattle.std.specs.Prelude.{Ok, if◌then◌else◌}
use Rattle.laws_board.proofs.Names.{eqb_tells, flat_map-append, length-map, take-append-drop, Cause, Machine, Pulse, Section, SectionKind, Home, Moves, Clocks, IsValidMachine, axis_at, stepper_at, Fits, clocks_at, stepper_plan, AreStarted, Started, ReportLine, Switch}
use Rattle.plan_types.specs.declared.cause.Cause.TheVariants as cause
use Rattle.plan_types.specs.Sections.{base_tick, section_end, is_home}
use Rattle.gcode_program.specs.Cuts.{homes}
use Rattle.gcode_program.specs.Programs.{outcome_of}
use Rattle.gcode_program.proofs.Homing.{axis_valid}
use Rattle.motion_work.specs.Seen.{IsPlanned}
use Rattle.report_text.specs.declared.line.ReportLine.TheVariants as report
use Rattle.report_text.specs.Text.{report_text}
use Rattle.log_text.specs.declared.line.LogLine.{LogLine}
use Rattle.log_text.specs.declared.line.LogLine.TheVariants as line
use Rattle.log_check.specs.declared.further.Further.{Further}
use Rattle.log_check.specs.Behind.{begun, clocks, further_of, with_one}
use Rattle.log_check.specs.Points.{section_at}
use Rattle.laws_report.specs.logs.Follows.{all_said, further_among, in_order, ok_line}
use Rattle.laws_report.proofs.logs.Standing.{onto}
use Rattle.laws_report.specs.reports.Further.{AllMayStand, further_told}
use Rattle.laws_report.specs.reports.Logged.{AreOfRun, IsCauseOn, IsKind, logged}
use Rattle.laws_report.specs.reports.Names.{HasNames}
use Rattle.laws_report.specs.reports.Retold.{PlansAlike, all_retold, retold}
use Rattle.laws_report.specs.reports.Through.{AreHeads}
use Rattle.laws_report.specs.reports.Within.{ready_behind}
use Rattle.laws_report.proofs.reports.Fewer.{fewer}
use Rattle.laws_report.proofs.reports.Reading.{lines-read, words-said}
use Rattle.laws_report.proofs.reports.Retelling.{alike}
use Rattle.laws_report.proofs.reports.Running.{map-append, onto-append, onto-in-order, stand-first}
use Rattle.laws_report.proofs.reports.Shortening.{AreShownShort, short-lines}
use Rattle.laws_board.proofs.sections.Lists.{cuts}
use Rattle.laws_board.specs.plans.Lines.{head_in, heads_of, pulse_in, pulses_of}
use Rattle.laws_run.specs.run_ends.Boards.{boards_of, lines_at}
use Rattle.laws_run.specs.run_ends.Ends.{GoesThrough}
use Rattle.board_asking.specs.Connecting.{turn_tick}
use Rattle.laws_run.specs.run_headline.Told.{AreTold}
use Rattle.laws_run.specs.run_lines.Due.{begun_lines}
use Rattle.laws_run.specs.run_limits.Limits.{AreLow}
use Rattle.laws_run.specs.home_headline.Cuts.{cuts_of}
use Rattle.laws_run.proofs.home_wholes.Axes.{HasAxis, HaveAxes, have_axes}
use Rattle.laws_report.specs.reports.Checks.{check_cause}
use Rattle.laws_report.specs.reports.Cuts.{IsCutOf, cuts_in, lines_before, scene_line}
use Rattle.laws_report.specs.reports.Headline.{section_kind, moves_of, plan_by}
use Rattle.laws_report.proofs.reports.Homes.{IsCompleteOfMovesBy, ShowsHomes}
use Rattle.laws_report.specs.reports.Promises.{FollowsPlanBy, sections_over}
use Rattle.laws_report.specs.reports.Shown.{begins, lines_behind, pulses_in, section_turn, sections_shown}
use Rattle.laws_report.proofs.reports.Inside.{kind_at, section_here, turn_front}
use Rattle.laws_report.specs.reports.Stands.{IsPlannedAlike}
use Rattle.laws_report.proofs.reports.Bridging.{AreDue, IsCutOrNot, IsOneCut, fits-same, head-behind, head-pulses, head-shown, head-turn}
use Rattle.laws_report.proofs.reports.Checking.{cut-checks}
use Rattle.laws_report.proofs.reports.Limits.{AreSmall, HaveLongCuts, KeepLimits}
use Rattle.laws_report.proofs.reports.Low.{AreNumbered, Facts, IsDue, keep_by, numbered_begun, shorts_of, shown_turn, turn_low}
use Rattle.laws_report.proofs.reports.Shorts.{told_timed}
use Rattle.laws_report.proofs.reports.Unbegun.{ShowsNone}
use Rattle.laws_report.proofs.reports.Standing.{AreAllKinds, apart_heads, are_behind, first_shown, of_run, shown_kinds, some_pulse, stands, told_behind, told_parts}
use Rattle.laws_report.specs.page.Log.{Follows, SaysLog, StartsOnTime, TellsPulseOf, board_turn, log_of}
use Rattle.laws_report.proofs.page.Front.{in_order_append, in_order_twice, AreFronted, all-follows, all-start, lines-follow}
use Rattle.laws_report.proofs.page.Going.{Ahead, AreOf, IsShown, goes-on}
use Rattle.motion_stream.proofs.ByKind.{moves_kind}
use Rattle.motion_work.proofs.Turning.{end_after}

-- the sections of a text do what a log may tell
abbrev HaveKinds : List Section → Type 0
HaveKinds [] = Unit {0}
HaveKinds (s ∷ sections) = IsKind s.kind × HaveKinds sections

has_kind : (k : SectionKind) → HasAxis k → IsKind k
has_kind Moves h = tt
has_kind (Home axis) h = h

have_kinds : (sections : List Section) → HaveAxes sections → HaveKinds sections
have_kinds [] h = tt
have_kinds (s ∷ sections) h = (has_kind s.kind h.0, have_kinds sections h.1)

begun_kinds : (i : ℕ) (begun : List Started) → HaveKinds (map (λ s. s.section) begun) → AreAllKinds (begun_lines i begun)
begun_kinds i [] kinds = tt
begun_kinds i (s ∷ begun) kinds = (kinds.0, begun_kinds (i + 1) begun kinds.1)

-- whether a section of a text homes
abbrev homes_at : List Section → ℕ → Bool
homes_at sections j = is_home (section_kind sections j)

-- each section is due behind the one before
next_due : (m : Machine) (clocks : List Clocks) (k : SectionKind) (s : Started) → IsPlanned k m clocks s → ready_behind (is_home k) s.start (section_end m clocks s.section.moves s.start) ≤ s.end + 260
next_due m clocks Moves s planned = let end = planned.end in omega (arith, end)
next_due m clocks (Home axis) s planned = let late = planned.late in omega (arith, late)

begun_due : (m : Machine) (clocks : List Clocks) (all begun past : List Started) (sections more : List Section) (ready soon i : ℕ) → all ≡ past ++ begun → length past ≡ i → sections ≡ map (λ x. x.section) all ++ more → soon ≤ ready → AreStarted m clocks ready begun
    → AreDue m clocks (homes_at sections) soon i (map (λ x. x.section) begun) (begun_lines i begun)
begun_due m clocks all [] past sections more ready soon i are at of low started = tt
begun_due m clocks all (s ∷ begun) past sections more ready soon i are at of low started =
    let start = started.0.start in
    let kind = kind_at sections more all i (record { past = past; s = s; later = begun; cut = are; place = at }) of in
    let next = next_due m clocks s.section.kind s started.0.planned in
    let soon' : ready_behind (homes_at sections i) s.start (section_end m clocks s.section.moves s.start) ≤ s.end + 260 =
    subst (λ (k : SectionKind). ready_behind (is_home k) s.start (section_end m clocks s.section.moves s.start) ≤ s.end + 260) (sym kind) next in
    let long = length-append past (s ∷ []) in (
      s.start,
      refl,
      omega (arith, start, low),
      begun_due m clocks all begun (past ++ s ∷ []) sections more (s.end + 260) (ready_behind (homes_at sections i) s.start (section_end m clocks s.section.moves s.start)) (i + 1) (are ∙ sym (append_assoc past (s ∷ []) begun)) (omega (arith, long, at)) of soon' started.1,
    )

-- when a section that is shown starts
begun_when : (m : Machine) (clocks : List Clocks) (first i ready : ℕ) (begun : List Started) (j turn : ℕ) → first ≤ ready → AreStarted m clocks ready begun → section_turn j (begun_lines i begun) ≡ Some turn → IsDue first i j (length begun) turn
begun_when m clocks first i ready [] j turn low started e = absurd (let f : None ≡ Some turn = e in cc)
begun_when m clocks first i ready (s ∷ begun) j turn low started e =
    let start = started.0.start in
    let rest = section_turn j (begun_lines (i + 1) begun) in
    let At : Bool → Type 0 = λ b. (if b then Some s.start else rest) ≡ Some turn in
    let order = order_of m clocks s.section.kind s started.0.planned in
    elim (eqb_tells i j) [
      | inl p ↦ (let f : Some s.start ≡ Some turn = subst At p.0 e in let same : s.start ≡ turn = cc in let is = p.1 in record { from = omega (arith, is); inside = omega (arith, is); late = omega (arith, same, low, start) })
      | inr p ↦
          let later = begun_when m clocks first (i + 1) (s.end + 260) begun j turn (omega (arith, low, start, order)) started.1 (subst At p.0 e) in
          let a = later.from in
          let b = later.inside in
          record { from = omega (arith, a); inside = omega (arith, b); late = later.late }
    ]
  where
    order_of : (m : Machine) (clocks : List Clocks) (k : SectionKind) (s : Started) → IsPlanned k m clocks s → s.start ≤ s.end
    order_of m clocks Moves s planned = let end = planned.end in let after = end_after m clocks s.section.moves s.start in omega (arith, end, after)
    order_of m clocks (Home axis) s planned = planned.late

-- a section that is shown has a small number
number_low : (j turn : ℕ) (lines : List ReportLine) → AreLow lines → section_turn j lines ≡ Some turn → j ≤ turn
number_low j at [] low e = absurd (let f : None ≡ Some at = e in cc)
number_low j at (report.Section i turn kind ∷ lines) low e = elim (eqb_tells i j) [
  | inl p ↦
      let At : Bool → Type 0 = λ b. (if b then Some turn else section_turn j lines) ≡ Some at in
      let f : Some turn ≡ Some at = subst At p.0 e in
      let same : turn ≡ at = cc in
      let few = low.0.0 in
      let is = p.1 in
      omega (arith, same, few, is)
  | inr p ↦
      let At : Bool → Type 0 = λ b. (if b then Some turn else section_turn j lines) ≡ Some at in
      number_low j at lines low.1 (subst At p.0 e)
]
number_low j at (x ∷ lines) low e = number_low j at lines low.1 e

-- the cut lines among some have long numbers
long_before : (lines : List ReportLine) → HaveLongCuts lines → HaveLongCuts (lines_before lines)
long_before [] long = tt
long_before (report.Section i turn kind ∷ lines) long = tt
long_before (report.Cut i board pin tick from ∷ lines) long = (long.0, long.1, long_before lines long.2)
long_before (x ∷ lines) long = long_before lines long

long_tail : (l : ReportLine) (lines : List ReportLine) → HaveLongCuts (l ∷ lines) → HaveLongCuts lines
long_tail (report.Cut i board pin tick from) lines long = long.2
long_tail (report.Section i turn kind) lines long = long
long_tail l lines long = long

long_behind : (i : ℕ) (lines : List ReportLine) → HaveLongCuts lines → HaveLongCuts (lines_behind i lines)
long_behind i [] long = tt
long_behind i (l ∷ lines) long = by (begins i l) (long_behind i lines (long_tail l lines long))
  where
    by : (b : Bool) → HaveLongCuts (lines_behind i lines) → HaveLongCuts (if b then lines else lines_behind i lines)
    by true h = long_tail l lines long
    by false h = h

long_cuts : (lines : List ReportLine) → HaveLongCuts lines → HaveLongCuts (cuts_of lines)
long_cuts [] long = tt
long_cuts (report.Cut i board pin tick from ∷ lines) long = (long.0, long.1, long_cuts lines long.2)
long_cuts (report.Section i turn kind ∷ lines) long = long_cuts lines long
long_cuts (x ∷ lines) long = long_cuts lines long

-- a section that homes has a cut line
some_cut : (sections : List Section) (homing : Bool) (j : ℕ) (said : List ReportLine) → IsCutOrNot sections homing j said → homing ≡ true → cuts_in j said ≢ []
some_cut sections homing j said (inl e) homes none = absurd (let f : false ≡ true = sym e.0 ∙ homes in cc)
some_cut sections homing j said (inr e) homes none = absurd (let f : [] ≡ report.Cut j e.1.0 e.1.1 e.1.2 e.1.3 ∷ [] = sym none ∙ e.1.4 in cc)

-- the first ones of some sections, and of lines
first_kinds : (xs ys : List Section) → HaveKinds (xs ++ ys) → HaveKinds xs
first_kinds [] ys kinds = tt
first_kinds (x ∷ xs) ys kinds = (kinds.0, first_kinds xs ys kinds.1)

first_numbered : (k : ℕ) (xs ys : List ReportLine) → AreNumbered k (xs ++ ys) → AreNumbered k xs
first_numbered k [] ys h = tt
first_numbered k (x ∷ xs) ys h = (h.0, first_numbered (k + 1) xs ys h.1)

all_first : (xs ys : List ReportLine) → AreAllKinds (xs ++ ys) → AreAllKinds xs
all_first [] ys h = tt
all_first (report.Section i turn kind ∷ xs) ys h = (h.0, all_first xs ys h.1)
all_first (x ∷ xs) ys h = all_first xs ys h

-- where it doesn't home, exactly
next_is : (m : Machine) (clocks : List Clocks) (k : SectionKind) (s : Started) → IsPlanned k m clocks s → is_home k ≡ false → ready_behind (is_home k) s.start (section_end m clocks s.section.moves s.start) ≡ s.end + 260
next_is m clocks Moves s planned moves = let end = planned.end in omega (arith, end)
next_is m clocks (Home axis) s planned moves = absurd (let f : true ≡ false = moves in cc)

-- the lines of sections that were begun are those of the text's sections
begun_of : (m : Machine) (clocks : List Clocks) (all begun past : List Started) (sections more : List Section) (ready soon i : ℕ) (home : Bool) → all ≡ past ++ begun → length past ≡ i → sections ≡ map (λ x. x.section) all ++ more → soon ≤ ready → (home ≡ false → soon ≡ ready)
    → AreStarted m clocks ready begun → AreOf m sections clocks i home soon (begun_lines i begun)
begun_of m clocks all [] past sections more ready soon i home are at of low same started = tt
begun_of m clocks all (s ∷ begun) past sections more ready soon i home are at of low same started =
    let start = started.0.start in
    let here = section_here sections more all i (record { past = past; s = s; later = begun; cut = are; place = at }) of in
    let next = next_due m clocks s.section.kind s started.0.planned in
    let exact = next_is m clocks s.section.kind s started.0.planned in
    let long = length-append past (s ∷ []) in
    let size = ap length of ∙ length-append (map (λ (x : Started). x.section) all) more in
    let many = length-map all (λ (x : Started). x.section) in
    let count = ap length are ∙ length-append past (s ∷ begun) in
    let later = begun_of m clocks all begun (past ++ s ∷ []) sections more (s.end + 260) (ready_behind (is_home s.section.kind) s.start (section_end m clocks s.section.moves s.start)) (i + 1) (is_home s.section.kind) (are ∙ sym (append_assoc past (s ∷ []) begun)) (omega (arith, long, at)) of next exact started.1 in
    let one : i + 1 ≡ suc i = omega arith in
    let Next : ℕ → Type 0 = λ n. AreOf m sections clocks n (is_home s.section.kind) (ready_behind (is_home s.section.kind) s.start (section_end m clocks s.section.moves s.start)) (begun_lines (i + 1) begun) in
    let At : Section → Type 0 = λ x. (t : ℕ) × (report.Section i s.start s.section.kind ≡ report.Section i t x.kind) × (i < length sections) × (soon + x.dwell ≤ t) × (home ≡ false → soon + x.dwell ≡ t)
    × AreOf m sections clocks (suc i) (is_home x.kind) (ready_behind (is_home x.kind) t (section_end m clocks x.moves t)) (begun_lines (i + 1) begun) in
    subst At (sym here) (s.start, refl, omega (arith, size, many, count, at), omega (arith, start, low), λ h. (let e = same h in omega (arith, e, start)), subst Next one later)

of_first : (m : Machine) (sections : List Section) (clocks : List Clocks) (k : ℕ) (home : Bool) (soon : ℕ) (xs ys : List ReportLine) → AreOf m sections clocks k home soon (xs ++ ys) → AreOf m sections clocks k home soon xs
of_first m sections clocks k home soon [] ys h = tt
of_first m sections clocks k home soon (x ∷ xs) ys h = (h.0, h.1, h.2, h.3, h.4, of_first m sections clocks (suc k) _ _ xs ys h.5)

-- a pulse that a log tells is one of its stepper, which is there
is_pulse : (m : Machine) (x : ReportLine) (lines : List ReportLine) (s tick : ℕ) (up : Bool) → AreTold true m (x ∷ lines) → logged x ≡ line.Pulse s tick up → (s < length m.steppers) × (pulses_of s (x ∷ lines) ≢ [])
is_pulse m x lines s tick up p6 p7 = search (rules, some_pulse)

later_none : (xs ys : List Pulse) → xs ++ ys ≡ [] → ys ≡ []
later_none [] ys e = e
later_none (x ∷ xs) ys e = absurd (let f : x ∷ (xs ++ ys) ≡ [] = e in cc)

pulse_among : (m : Machine) (lines : List ReportLine) (ys zs : List LogLine) (s tick : ℕ) (up : Bool) → AreTold true m lines → map logged lines ≡ ys ++ line.Pulse s tick up ∷ zs → (s < length m.steppers) × (pulses_of s lines ≢ [])
pulse_among m [] [] zs s tick up told e = absurd (let f : [] ≡ line.Pulse s tick up ∷ zs = e in cc)
pulse_among m [] (y ∷ ys) zs s tick up told e = absurd (let f : [] ≡ y ∷ (ys ++ line.Pulse s tick up ∷ zs) = e in cc)
pulse_among m (x ∷ lines) [] zs s tick up told e = is_pulse m x lines s tick up told (let f : logged x ∷ map logged lines ≡ line.Pulse s tick up ∷ zs = e in cc)
pulse_among m (x ∷ lines) (y ∷ ys) zs s tick up told e =
    let f : logged x ∷ map logged lines ≡ y ∷ (ys ++ line.Pulse s tick up ∷ zs) = e in
    let r = pulse_among m lines ys zs s tick up told.1 cc in
    (r.0, λ none. r.1 (later_none (pulse_in s x) (pulses_of s lines) none))

told_pulse : (m : Machine) (b : ℕ) (lines : List ReportLine) → AreTold true m lines → (t : TellsPulseOf m b (in_order (map logged lines))) → (t.s < length m.steppers) × (pulses_of t.s lines ≢ [])
told_pulse m b lines told t =
    let p = line.Pulse t.s t.tick t.up in
    pulse_among m lines (in_order t.before) (in_order t.later) t.s t.tick t.up told
    (sym (in_order_twice (map logged lines)) ∙ ap in_order t.are ∙ in_order_append t.later (p ∷ t.before) ∙ append_assoc (in_order t.before) (p ∷ []) (in_order t.later))

run_behind : (m : Machine) (xs ys : List ReportLine) → AreOfRun m (xs ++ ys) → AreOfRun m ys
run_behind m [] ys of = of
run_behind m (x ∷ xs) ys of = run_behind m xs ys of.1

run_first : (m : Machine) (xs ys : List ReportLine) → AreOfRun m (xs ++ ys) → AreOfRun m xs
run_first m [] ys of = tt
run_first m (x ∷ xs) ys of = (of.0, run_first m xs ys of.1)

heads_first : (b : ℕ) (xs ys : List ReportLine) → AreHeads b (xs ++ ys) → AreHeads b xs
heads_first b [] ys heads = tt
heads_first b (report.Board board freq turn tick ∷ xs) ys heads = (heads.0, heads_first (b + 1) xs ys heads.1)
heads_first b (report.Machine corexy boards steppers ∷ xs) ys heads = heads_first b xs ys heads
heads_first b (report.Drift board sent clock from ∷ xs) ys heads = heads_first b xs ys heads
heads_first b (report.Lines accepted passed ∷ xs) ys heads = heads_first b xs ys heads
heads_first b (x ∷ xs) ys heads = absurd heads

-- the first lines of a report that has no line of a section have none
pub none_first : (m : Machine) (xs ys : List ReportLine) → ShowsNone m (xs ++ ys) → ShowsNone m xs
none_first m xs ys shows = search (rules, of_run, run_first, stand-first, map-append, heads_first)

-- the lines of boards among some all tell a turn
abbrev AllTell : ℕ → List ReportLine → Type 0
AllTell turn [] = Unit {0}
AllTell turn (report.Board board freq at tick ∷ lines) = (at ≡ turn) × AllTell turn lines
AllTell turn (l ∷ lines) = AllTell turn lines

tell-at : (turn b : ℕ) (clocks : List Clocks) → AllTell turn (lines_at turn b clocks)
tell-at turn b [] = tt
tell-at turn b (c ∷ clocks) = (refl, tell-at turn (b + 1) clocks)

tell-all : (turn : ℕ) (lines : List ReportLine) → AllTell turn (boards_of lines) → AllTell turn lines
tell-all turn [] h = tt
tell-all turn (report.Board board freq at tick ∷ lines) h = (h.0, tell-all turn lines h.1)
tell-all turn (report.Machine corexy boards steppers ∷ lines) h = tell-all turn lines h
tell-all turn (report.Section i at kind ∷ lines) h = tell-all turn lines h
tell-all turn (report.Pulse board stepper tick up ∷ lines) h = tell-all turn lines h
tell-all turn (report.Cut i board pin tick from ∷ lines) h = tell-all turn lines h
tell-all turn (report.Drift board sent clock from ∷ lines) h = tell-all turn lines h
tell-all turn (report.Lines accepted passed ∷ lines) h = tell-all turn lines h
tell-all turn (report.Out board pin tick on ∷ lines) h = tell-all turn lines h
tell-all turn (report.Made seed many ∷ lines) h = tell-all turn lines h
tell-all turn (report.Count stepper many ∷ lines) h = tell-all turn lines h
tell-all turn (report.Fit section stepper many planned early late ∷ lines) h = tell-all turn lines h
tell-all turn (report.End c ∷ lines) h = tell-all turn lines h

all-turn : (turn : ℕ) (head : List ReportLine) (clocks : List Clocks) (b : ℕ) → boards_of head ≡ lines_at turn b clocks → AllTell turn head
all-turn turn head clocks b e = tell-all turn head (subst (AllTell turn) (sym e) (tell-at turn b clocks))

some_boards : (turn b : ℕ) (clocks : List Clocks) (head : List ReportLine) → boards_of head ≡ lines_at turn b clocks → 0 < length clocks → boards_of head ≢ []
some_boards turn b [] head e some none = absurd (omega (arith, some))
some_boards turn b (c ∷ clocks) head e some none = (let f : [] ≡ report.Board b c.first.freq turn (turn_tick c.first turn) ∷ lines_at turn (b + 1) clocks = sym none ∙ e in cc)

-- so does their log
heads-turn : (turn b : ℕ) (head : List ReportLine) (before : List LogLine) → AreHeads b head → AllTell turn head → (boards_of head ≢ []) ⊎ (board_turn before ≡ turn) → board_turn (onto (map logged head) before) ≡ turn
heads-turn turn b [] before heads tell (inl some) = absurd (some refl)
heads-turn turn b [] before heads tell (inr e) = e
heads-turn turn b (report.Board board freq at tick ∷ head) before heads tell why = heads-turn turn (b + 1) head (line.Board board at tick ∷ before) heads.1 tell.1 (inr tell.0)
heads-turn turn b (report.Machine corexy boards steppers ∷ head) before heads tell why = heads-turn turn b head (line.Note ∷ before) heads tell why
heads-turn turn b (report.Drift board sent clock from ∷ head) before heads tell why = heads-turn turn b head (line.Line board sent clock from ∷ before) heads tell why
heads-turn turn b (report.Lines accepted passed ∷ head) before heads tell why = heads-turn turn b head (line.Note ∷ before) heads tell why
heads-turn turn b (x ∷ head) before heads tell why = absurd heads

-- as many sections begin in the log of some lines as are shown
begun-shown : (lines : List ReportLine) (before : List LogLine) → begun (onto (map logged lines) before) ≡ length (sections_shown lines) + begun before
begun-shown [] before = omega arith
begun-shown (report.Section i at kind ∷ lines) before = (let rest = begun-shown lines (line.Section i at kind ∷ before) in omega (arith, rest))
begun-shown (report.Board board freq at tick ∷ lines) before = begun-shown lines (line.Board board at tick ∷ before)
begun-shown (report.Machine corexy boards steppers ∷ lines) before = begun-shown lines (line.Note ∷ before)
begun-shown (report.Pulse board stepper tick up ∷ lines) before = begun-shown lines (line.Pulse stepper tick up ∷ before)
begun-shown (report.Cut i board pin tick from ∷ lines) before = begun-shown lines (line.Cut i ∷ before)
begun-shown (report.Drift board sent clock from ∷ lines) before = begun-shown lines (line.Line board sent clock from ∷ before)
begun-shown (report.Lines accepted passed ∷ lines) before = begun-shown lines (line.Note ∷ before)
begun-shown (report.Out board pin tick on ∷ lines) before = begun-shown lines (line.Note ∷ before)
begun-shown (report.Made seed many ∷ lines) before = begun-shown lines (line.Note ∷ before)
begun-shown (report.Count stepper many ∷ lines) before = begun-shown lines (line.Note ∷ before)
begun-shown (report.Fit section stepper many planned early late ∷ lines) before = begun-shown lines (line.Note ∷ before)
begun-shown (report.End c ∷ lines) before = begun-shown lines (line.End ∷ before)

-- the further clock lines that some lines tell, read from the end
among-more : (l : LogLine) (xs : List LogLine) → further_among (xs ++ l ∷ []) ≡ with_one (further_of (Ok l)) (further_among xs)
among-more l [] = refl
among-more l (x ∷ xs) = ap (λ (z : List Further). z ++ with_one (further_of (Ok x)) []) (among-more l xs) ∙ by (further_of (Ok l))
  where
    by : (o : Option Further) → with_one o (further_among xs) ++ with_one (further_of (Ok x)) [] ≡ with_one o (further_among xs ++ with_one (further_of (Ok x)) [])
    by None = refl
    by (Some f) = refl

among-told : (lines : List LogLine) → further_told lines ≡ further_among (in_order lines)
among-told [] = refl
among-told (l ∷ lines) = ap (with_one (further_of (Ok l))) (among-told lines) ∙ sym (among-more l (in_order lines))

-- the log of lines that follow the plan does
pub log-follows : (through : Type 0) (m : Machine) (sections : List Section) (said : List ReportLine) → AreFronted through m sections (further_told (map logged said)) (onto (map logged said) []) → (through → length (sections_shown said) ≡ length sections)
    → Follows through m sections (log_of said) × StartsOnTime through m sections (log_of said)
log-follows through m sections said front all =
    let logs = map logged said in
    let log = in_order logs in
    let on : onto logs [] ≡ log = onto-in-order logs [] ∙ append-nil log in
    let read = subst (λ (f : List Further). AreFronted through m sections f log) (among-told logs) (subst (λ (x : List LogLine). AreFronted through m sections (further_told logs) x) on front) in
    let count = begun-shown said [] in
    let same = ap begun on in
    (all-follows through m sections log read, all-start through m sections log read (λ gone. (let e = all gone in omega (arith, count, same, e))))

-- and lines of a run say it
pub says-log : (m : Machine) (said : List ReportLine) → IsValidMachine m → AreOfRun m said → HasNames m → SaysLog m (report_text m said) (log_of said)
says-log m said valid of names = ap (all_said m) (lines-read m said 1 valid names of) ∙ words-said m said 1 valid names of ∙ ap (map ok_line) (sym (in_order_twice (map logged said)))

-- a run that went through shows as many sections as the text has
pub shown-all : (m : Machine) (switches : List Switch) (text : List ℕ) (c : Cause) (said : List ReportLine) → ShowsHomes m switches text c said → GoesThrough c → length (sections_shown said) ≡ length (sections_over m text)
shown-all m switches text c said shows gone =
    let all = shows.all gone in
    ap length all.1 ∙ many 0 shows.begun ∙ sym (length-map shows.begun (λ (x : Started). x.section)) ∙ ap length all.0
  where
    many : (i : ℕ) (ss : List Started) → length (begun_lines i ss) ≡ length ss
    many i [] = refl
    many i (s ∷ ss) = ap suc (many (i + 1) ss)

-- A run that shows all its lines, and the line of a section among them.
module _ (m : Machine) (switches : List Switch) (text : List ℕ) (c : Cause) (said : List ReportLine) (valid : IsValidMachine m) (some : sections_shown said ≢ []) (shows : ShowsHomes m switches text c said) (low : AreLow said) (told : AreTold true m said) (long : HaveLongCuts said) where
  abbrev Text : List Section
  Text = sections_over m text

  -- the sections of the text that were not begun
  abbrev More : List Section
  More = drop (length shows.begun) Text

  of_text : Text ≡ map (λ x. x.section) shows.begun ++ More
  of_text = sym (take-append-drop (length shows.begun) Text) ∙ ap (λ z. z ++ drop (length shows.begun) Text) (sym shows.of_text)

  shown : begun_lines 0 shows.begun ≡ sections_shown said ++ shows.sections.0
  shown = shows.sections.1

  kinds : HaveKinds Text
  kinds = have_kinds Text (have_axes m 0 [] (outcome_of m text).deeds)

  -- the first section is shown
  first : (turn : ℕ) × (section_turn 0 said ≡ Some turn)
  first = by shows.begun (sections_shown said) refl shown
    where
      by : (begun : List Started) (ls : List ReportLine) → sections_shown said ≡ ls → begun_lines 0 begun ≡ ls ++ shows.sections.0 → (turn : ℕ) × (section_turn 0 said ≡ Some turn)
      by begun [] is e = absurd (some is)
      by [] (l ∷ ls) is e = absurd (let f : [] ≡ l ∷ (ls ++ shows.sections.0) = e in cc)
      by (s ∷ begun) (l ∷ ls) is e =
          let f : report.Section 0 s.start s.section.kind ∷ begun_lines 1 begun ≡ l ∷ (ls ++ shows.sections.0) = e in
          let same : l ≡ report.Section 0 s.start s.section.kind = cc in
          (s.start, first_shown 0 s.start s.section.kind ls said (is ∙ ap (λ z. z ∷ ls) same))

  due_in : (j turn : ℕ) → section_turn j said ≡ Some turn → IsDue shows.ready 0 j (length shows.begun) turn
  due_in j turn e = begun_when m shows.clocks shows.ready 0 shows.ready shows.begun j turn (omega arith) shows.started (ap (section_turn j) shown ∙ turn_front j turn (sections_shown said) shows.sections.0 (shown_turn j said ∙ e))

  due_at : (j turn : ℕ) → section_turn j said ≡ Some turn → IsDue shows.ready 0 j (length Text) turn
  due_at j turn e = search (rules, due_in, of_text, length-append, length-map)

  -- its cut lines: none in a section of moves, one at most in one that homes, and one there where the next section is shown or the run went through
  uncut_at : (j turn : ℕ) → section_turn j said ≡ Some turn → section_kind Text j ≡ Moves → cuts_in j said ≡ []
  uncut_at j turn e is = shows.cuts.moves j is

  one_cut : (j axis : ℕ) → IsCutOf m switches j axis (cuts_in j said) → IsOneCut j (cuts_in j said)
  one_cut j axis one = ((axis_at m axis).board, (axis_at m axis).pin, one.0, scene_line m switches axis one.0, one.1)

  one_at : (j turn : ℕ) → section_turn j said ≡ Some turn → (cuts_in j said ≡ []) ⊎ IsOneCut j (cuts_in j said)
  one_at j turn e = by (section_kind Text j) refl
    where
      by : (k : SectionKind) → section_kind Text j ≡ k → (cuts_in j said ≡ []) ⊎ IsOneCut j (cuts_in j said)
      by Moves is = inl (shows.cuts.moves j is)
      by (Home axis) is = elim (shows.cuts.homes j axis is) [ inl none ↦ inl none | inr one ↦ inr (one_cut j axis one) ]

  ended_at : (j turn : ℕ) → section_turn j said ≡ Some turn → ((next : ℕ) × (section_turn (j + 1) said ≡ Some next)) ⊎ GoesThrough c → is_home (section_kind Text j) ≡ true → IsOneCut j (cuts_in j said)
  ended_at j turn e why homes = by (section_kind Text j) refl
    where
      by : (k : SectionKind) → section_kind Text j ≡ k → IsOneCut j (cuts_in j said)
      by Moves is = absurd (let f : false ≡ true = sym (ap is_home is) ∙ homes in cc)
      by (Home axis) is = one_cut j axis (shows.cuts.ended j axis is why)

  -- they are small
  cut_small : (j turn : ℕ) → section_turn j said ≡ Some turn → AreSmall m (cuts_in j said)
  cut_small j turn e = by (section_kind Text j) refl
    where
      kind_low : (ss : List Section) (i : ℕ) → HaveKinds ss → i < 0 + length ss → IsKind (section_kind ss i)
      kind_low [] i ks lt = absurd (omega (arith, lt))
      kind_low (s ∷ ss) zero ks lt = ks.0
      kind_low (s ∷ ss) (suc i) ks lt = kind_low ss i ks.1 (omega (arith, lt))

      by : (k : SectionKind) → section_kind Text j ≡ k → AreSmall m (cuts_in j said)
      by Moves is = subst (λ (z : List ReportLine). AreSmall m z) (sym (shows.cuts.moves j is)) tt
      by (Home axis) is = elim (shows.cuts.homes j axis is) [
        | inl none ↦ subst (λ (z : List ReportLine). AreSmall m z) (sym none) tt
        | inr one ↦
            let here : cuts_in j said ≡ report.Cut j (axis_at m axis).board (axis_at m axis).pin one.0 (scene_line m switches axis one.0) ∷ [] = one.1 in
            let wide : HaveLongCuts (report.Cut j (axis_at m axis).board (axis_at m axis).pin one.0 (scene_line m switches axis one.0) ∷ []) =
            subst (λ (z : List ReportLine). HaveLongCuts z) here (long_cuts (lines_before (lines_behind j said)) (long_before (lines_behind j said) (long_behind j said long))) in
            let kind : IsKind (Home axis) = subst (λ (k : SectionKind). IsKind k) is (kind_low Text j kinds (due_at j turn e).inside) in
            let a = axis_valid m axis valid kind in
            let few = number_low j turn said low e in
            let early = turn_low j turn said low e in
            subst (λ (z : List ReportLine). AreSmall m z) (sym here) ((omega (arith, few, early), a.board, a.pin, wide.0, wide.1), tt)
      ]

  heads : AreHeads 0 (shows.apart 0 first.0 first.1).head
  heads = apart_heads true m shows.clocks shows.ready said (shows.apart 0 first.0 first.1) shows.cuts.before told

  facts : Facts true m Text shows.clocks shows.ready said
  facts = record {
    due = due_at;
    numbered = let Numbered : List ReportLine → Type 0 = λ z. AreNumbered 0 z in first_numbered 0 (sections_shown said) shows.sections.0 (subst Numbered shown (numbered_begun 0 shows.begun));
    apart = shows.apart 0 first.0 first.1;
    heads = heads;
    sound = shows.sound 0 first.0 first.1;
    boards = shows.boards 0 first.0 first.1;
    own = told;
    cut = subst (λ (z : List ReportLine). AreSmall m z) (sym shows.cuts.before) tt;
    cuts = cut_small;
    last = shows.last;
    first = shows.first 0 first.0 first.1;
    names = shows.named 0 first.0 first.1;
    timed = λ b h. (told_timed m shows.clocks shows.ready said (shows.sound 0 first.0 first.1).clocks_are.count (shows.boards 0 first.0 first.1) low b h).low;
    soon = let early = (told_timed m shows.clocks shows.ready said (shows.sound 0 first.0 first.1).clocks_are.count (shows.boards 0 first.0 first.1) low 0 valid.boards_some).early in omega (arith, early);
    further = shows.further 0 first.0 first.1;
  }

  short : AreShownShort m shows.clocks shows.ready shows.last (shows.apart 0 first.0 first.1).head said
  unfolding facts
  short = shorts_of true m Text shows.clocks shows.ready said facts

  -- the pulses of each section fit its plan by what is told
  follows : FollowsPlanBy short.short m Text said
  unfolding facts
  follows = shows.told short.short (λ b h. short-lines m shows.clocks short.short (further_told (map logged said)) shows.last b (short.each b h))

  -- by what is told a section of moves is planned as it was where the next one is shown or the run went through: the others hold from behind its end
  same_plan : (j turn : ℕ) → section_turn j said ≡ Some turn → section_kind Text j ≡ Moves → ((next : ℕ) × (section_turn (j + 1) said ≡ Some next)) ⊎ GoesThrough c → PlansAlike m short.short shows.clocks (moves_of Text j) turn
  unfolding facts
  same_plan j turn e is why =
      let over = shows.over j turn e is why in
      let after = end_after m shows.clocks (moves_of Text j) turn in
      fewer m short.short shows.clocks (moves_of Text j) turn shows.last valid (shows.sound 0 first.0 first.1).kept (λ b h. short-lines m shows.clocks short.short (further_told (map logged said)) shows.last b (short.each b h)) (omega (arith, over, after)) (omega (arith, over))

  limits : KeepLimits m short.short shows.ready Text said
  unfolding facts short
  limits = keep_by true m text shows.clocks shows.ready said valid facts low follows

  kinds_are : AreAllKinds said
  kinds_are = search (rules, shown_kinds, all_first, shown, begun_kinds, first_kinds, of_text, kinds)

  due : AreDue m shows.clocks (homes_at Text) shows.ready 0 (map (λ x. x.section) shows.begun) (begun_lines 0 shows.begun)
  due = begun_due m shows.clocks shows.begun shows.begun [] Text More shows.ready shows.ready 0 refl refl of_text (omega arith) shows.started

  -- read back as a log they follow the plan, as far as the run came
  abbrev From : List ReportLine
  From = report.Section 0 facts.apart.turn facts.apart.kind ∷ facts.apart.body

  abbrev Told_lines : List Clocks
  Told_lines = all_retold shows.ready short.short

  turns : (i : ℕ) → section_turn i said ≡ section_turn i From
  turns i = ap (section_turn i) facts.apart.are ∙ head-turn 0 i facts.apart.head From facts.heads

  ahead : Ahead (GoesThrough c) m Text shows.clocks Told_lines 0 false shows.ready From
  unfolding facts short
  ahead =
      let pulses_are = λ (i s : ℕ). ap (pulses_in i s) facts.apart.are ∙ head-pulses 0 i s facts.apart.head From facts.heads in
      let cuts_are = λ (i : ℕ). ap (cuts_in i) facts.apart.are ∙ ap (λ (z : List ReportLine). cuts_of (lines_before z)) (head-behind 0 i facts.apart.head From facts.heads) in
      let Of : List ReportLine → Type 0 = λ z. AreOf m Text shows.clocks 0 false shows.ready z in
      let same = λ (j at : ℕ) (e : section_turn j From ≡ Some at). alike m short.short (moves_of Text j) shows.ready at valid short.have (due_at j at (turns j ∙ e)).late in
      let next = λ (j at : ℕ) (e : section_turn (suc j) From ≡ Some at). (let one : j + 1 ≡ suc j = omega arith in let f : section_turn (j + 1) said ≡ Some at = ap (λ (n : ℕ). section_turn n said) one ∙ turns (suc j) ∙ e in f) in
      let why_so = λ (j : ℕ) (why : GoesThrough c ⊎ IsShown (suc j) From). elim why as (λ _. ((after : ℕ) × (section_turn (j + 1) said ≡ Some after)) ⊎ GoesThrough c) [ inl g ↦ inr g | inr x ↦ inl (x.0, next j x.0 x.1) ] in
      record {
        shown = subst Of (ap sections_shown facts.apart.are ∙ head-shown 0 facts.apart.head From facts.heads)
            (of_first m Text shows.clocks 0 false shows.ready (sections_shown said) shows.sections.0 (subst Of shown (begun_of m shows.clocks shows.begun shows.begun [] Text More shows.ready shows.ready 0 false refl refl of_text (omega arith) (λ h. refl) shows.started)));
        fits = λ j at s late e inside.
            let a = same j at e in
            subst (λ (ps : List Pulse). Fits (clocks_at Told_lines (stepper_at m s).board).first.freq (base_tick m Told_lines at s) ps (stepper_plan m Told_lines (moves_of Text j) at s)) (pulses_are j s)
            (fits-same (pulses_in j s said) (a.freq s) (a.base s) (a.steps s) (follows j at s (turns j ∙ e) inside));
        ends = λ j at after late e f home. (same j at e).end ∙ (same_plan j at (turns j ∙ e) (moves_kind (section_kind Text j) home) (inl (after, next j after f))).end;
        uncut = λ j at late e home. sym (cuts_are j) ∙ uncut_at j at (turns j ∙ e) (moves_kind (section_kind Text j) home);
        one = λ j at late e. subst (λ (z : List ReportLine). (z ≡ []) ⊎ IsOneCut j z) (cuts_are j) (one_at j at (turns j ∙ e));
        ended = λ j at late e why home none.
            let one = ended_at j at (turns j ∙ e) (why_so j why) home in
            let g : [] ≡ report.Cut j one.0 one.1 one.2 one.3 ∷ [] = sym (cuts_are j ∙ none) ∙ one.4 in
            cc;
        whole = λ j at s late e home inside why.
            let is = moves_kind (section_kind Text j) home in
            let shown_so : GoesThrough c ⊎ IsShown (suc j) From = elim why [ inl g ↦ inl g | inr x ↦ inr x.0 ] in
            let plans = same_plan j at (turns j ∙ e) is (why_so j shown_so) in
            let count : length (pulses_in j s said) ≡ length (plan_by shows.clocks m Text j at s) = elim why [
              | inl g ↦ shows.whole g j at s (turns j ∙ e) is inside
              | inr x ↦
                  let behind_are : lines_behind (suc j) said ≡ lines_behind (suc j) From = ap (lines_behind (suc j)) facts.apart.are ∙ head-behind 0 (suc j) facts.apart.head From facts.heads in
                  let Tells : List ReportLine → Type 0 = λ z. TellsPulseOf m (stepper_at m s).board (in_order (map logged z)) in
                  let t = subst Tells (sym behind_are) x.1 in
                  let found = told_pulse m (stepper_at m s).board (lines_behind (suc j) said) (told_behind true m (suc j) said told) t in
                  let one : suc j ≡ j + 1 = omega arith in
                  let Some_of : ℕ → Type 0 = λ n. pulses_of t.s (lines_behind n said) ≢ [] in
                  shows.before j at s t.s (turns j ∙ e) is inside found.0 t.on (subst Some_of one found.1)
            ] in
            sym (ap length (pulses_are j s)) ∙ count ∙ ap length (sym ((same j at e).steps s ∙ plans.steps s inside));
      }

  of_said : AreOfRun m said
  unfolding facts short
  of_said = of_run true m shows.clocks shows.ready [] shows.clocks 0 said facts.sound refl refl told limits.small kinds_are facts.boards

  front : AreFronted (GoesThrough c) m Text (further_told (map logged said)) (onto (map logged said) [])
  unfolding facts short
  front =
      let a = facts.apart in
      let fs = further_told (map logged said) in
      let head = map logged a.head in
      let parted : map logged said ≡ head ++ map logged From = ap (map logged) a.are ∙ map-append a.head From in
      let stands = stand-first m [] head (map logged From) (subst (λ (l : List LogLine). AllMayStand m [] l) parted short.may) in
      let of = run_behind m a.head From (subst (λ (z : List ReportLine). AreOfRun m z) a.are of_said) in
      let told_is : clocks m fs (onto head []) ≡ Told_lines = ap (clocks m fs) (onto-in-order head [] ∙ append-nil (in_order head)) ∙ short.lines_told in
      let boards : length Told_lines ≡ length m.boards = length-map short.short (retold shows.ready) ∙ short.have.boards in
      let parts = told_parts true m a.head From (subst (AreTold true m) a.are told) in
      let behind = are_behind true m a.body parts.1.1 a.rest in
      let sh = ahead.shown in
      let same : report.Section 0 a.turn a.kind ≡ report.Section 0 sh.0 (section_at Text 0).kind = sh.1 in
      let kind : a.kind ≡ (section_at Text 0).kind = cc in
      let when : a.turn ≡ sh.0 = cc in
      let soon = sh.3 in
      let late = facts.sound.late in
      let at = heads-turn shows.ready 0 a.head [] facts.heads (all-turn shows.ready a.head shows.clocks 0 a.told) (inl (some_boards shows.ready 0 shows.clocks a.head a.told (let count = facts.sound.clocks_are.count in let boards = valid.boards_some in omega (arith, count, boards)))) in
      let own = sh.4 refl in
      let timely : a.turn ≡ board_turn (onto head []) + (section_at Text 0).dwell = omega (arith, own, when, at) in
      let rest = lines-follow (GoesThrough c) m Text fs Told_lines a.head a.turn a.kind a.body stands.0 facts.heads told_is boards sh.2 kind (omega (arith, soon, when, late)) timely (λ s inside. ahead.fits 0 a.turn s (omega arith) refl inside)
      (goes-on (GoesThrough c) m Text shows.clocks Told_lines a.turn false shows.ready a.kind a.body behind ahead) stands.1.1 of.1 in
      let whole : onto (map logged said) [] ≡ onto (map logged a.body) (line.Section 0 a.turn a.kind ∷ onto head []) = ap (λ (l : List LogLine). onto l []) parted ∙ onto-append head (map logged From) [] in
      subst (λ (l : List LogLine). AreFronted (GoesThrough c) m Text fs l) (sym whole) rest

  -- what stands before the first section's line, or is the first of that, shows no section
  pub home-none : (xs ys : List ReportLine) → said ≡ xs ++ ys → heads_of xs ≡ [] → ShowsNone m xs
  unfolding facts short
  home-none xs ys cut none =
      let a = facts.apart in
      let parted = ap (map logged) cut ∙ map-append xs ys in
      record {
        of_run = run_first m xs ys (subst (λ (z : List ReportLine). AreOfRun m z) cut of_said);
        may = (stand-first m [] (map logged xs) (map logged ys) (subst (λ (l : List LogLine). AllMayStand m [] l) parted short.may)).0;
        heads = elim (cuts a.head From xs ys (sym a.are ∙ cut)) [
          | inl p ↦ behind a.head p.0 xs ys p.1 p.2 facts.heads none
          | inr p ↦ heads_first 0 xs (p.0 ∷ p.1) (subst (λ (z : List ReportLine). AreHeads 0 z) p.2 facts.heads)
        ];
      }
    where
      not_empty : (xs : List ReportLine) (x : ReportLine) (ys : List ReportLine) → xs ++ x ∷ ys ≡ [] → ⊥
      not_empty [] x ys e = cc
      not_empty (z ∷ xs) x ys e = cc

      behind : (head more xs ys : List ReportLine) → xs ≡ head ++ more → From ≡ more ++ ys → AreHeads 0 head → heads_of xs ≡ [] → AreHeads 0 xs
      behind head [] xs ys e from heads none = subst (λ (z : List ReportLine). AreHeads 0 z) (sym (e ∙ append-nil head)) heads
      behind head (l ∷ more) xs ys e from heads none =
          let same : l ≡ report.Section 0 facts.apart.turn facts.apart.kind = cc in
          let at : heads_of xs ≡ heads_of head ++ (report.Section 0 facts.apart.turn facts.apart.kind ∷ heads_of more) = ap heads_of e ∙ flat_map-append head_in head (l ∷ more) ∙ ap (λ (x : ReportLine). heads_of head ++ (head_in x ++ heads_of more)) same in
          absurd (not_empty (heads_of head) (report.Section 0 facts.apart.turn facts.apart.kind) (heads_of more) (sym at ∙ none))

  pub home-front : Follows (GoesThrough c) m Text (log_of said) × StartsOnTime (GoesThrough c) m Text (log_of said)
  home-front = log-follows (GoesThrough c) m Text said front (shown-all m switches text c said shows)

  pub home-says : HasNames m → SaysLog m (report_text m said) (log_of said)
  home-says = says-log m said valid of_said

  module _ (through : GoesThrough c) where
    begun_all : sections_shown said ≡ begun_lines 0 shows.begun
    begun_all = (shows.all through).1

    cut_or_not : (j turn : ℕ) → section_turn j said ≡ Some turn → IsCutOrNot Text (homes_at Text j) j said
    cut_or_not j turn e = search (rules, uncut_at, ended_at)

    -- each section of moves is planned as it was, and one that homes is cut
    planned_alike : (j turn : ℕ) → section_turn j said ≡ Some turn → IsPlannedAlike m short.short shows.clocks Text said j turn
    planned_alike j turn e = search (rules, same_plan, some_cut, cut_or_not, follows)

    pub home-checks : HasNames m → IsCompleteOfMovesBy shows.clocks m Text said → IsCauseOn m c → check_cause m text (report_text m (said ++ report.End c ∷ [])) ≡ cause.Done
    unfolding facts short
    home-checks names whole on =
        let f = facts in
        let order = stands true m shows.clocks shows.ready shows.last Text said valid kinds_are f.apart heads f.sound f.boards told short limits planned_alike in
        let Due : List Section → Type 0 = λ z. AreDue m shows.clocks (homes_at Text) shows.ready 0 z (begun_lines 0 shows.begun) in
        let Shown : List ReportLine → Type 0 = λ z. AreDue m shows.clocks (homes_at Text) shows.ready 0 Text z in
        cut-checks m text shows.clocks (homes_at Text) shows.ready said c names shows.prefix (λ j turn s e uncut inside. whole j turn s e (moves_kind (section_kind Text j) uncut) inside) cut_or_not (subst Shown (sym begun_all) (subst Due (shows.all through).0 due)) order on

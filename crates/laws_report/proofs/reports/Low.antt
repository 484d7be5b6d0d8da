-- The lines of a run over links keep the limits of a log.
use Rattle.std.proofs.Common.{◌≡◌, ◌∙◌, ℕ, zero, suc, ◌+◌, ◌-◌, ◌*◌, ◌^◌, ◌<◌, ◌≤◌, Bool, true, false, List, [], ◌∷◌, ◌++◌, All, length, map, ap, sym, refl, subst, arith, inl, inr, Option, Some, None}
use Rattle.std.specs.Prelude.{◌==◌, if◌then◌else◌}
use Rattle.laws_board.proofs.Names.{eqb_tells, All-head, All-tail, Machine, Planned, Pulse, Section, SectionKind, tick, turn_ns, Clocks, IsValidMachine, stepper_at, Fits, clocks_at, stepper_plan, Started, ReportLine}
use Rattle.plan_types.specs.Sections.{base_tick, no_section}
use Rattle.gcode_program.specs.Held.{ArePlannable}
use Rattle.gcode_program.proofs.Plannable.{sections_plannable}
use Rattle.motion_work.proofs.Homing.{near_short}
use Rattle.report_text.specs.declared.line.ReportLine.TheVariants as report
use Rattle.log_check.specs.Faults.{have_room}
use Rattle.laws_report.specs.reports.Further.{further_told}
use Rattle.laws_report.specs.reports.Logged.{logged}
use Rattle.laws_report.specs.reports.Retold.{all_retold}
use Rattle.laws_report.specs.reports.Through.{AreHeads}
use Rattle.laws_report.proofs.reports.Retelling.{alike}
use Rattle.laws_report.proofs.reports.Shortening.{AreShownShort}
use Rattle.laws_board.specs.plans.Lines.{pulses_of}
use Rattle.laws_run.specs.run_headline.Further.{AreNamed, BoardsFirst, TellsFurther}
use Rattle.laws_run.specs.run_headline.Told.{AreTold}
use Rattle.laws_run.specs.run_headline.Timely.{AreSound}
use Rattle.laws_run.specs.run_lines.Due.{BoardsHave, StandApart, begun_lines}
use Rattle.laws_run.specs.run_limits.Limits.{AreLow, greatest_tick, start_limit}
use Rattle.laws_report.specs.reports.Headline.{moves_of, plan_by}
use Rattle.laws_report.specs.reports.Promises.{FollowsPlanBy, sections_over}
use Rattle.laws_run.specs.home_headline.Cuts.{cuts_of}
use Rattle.laws_report.specs.reports.Cuts.{cuts_in, lines_before}
use Rattle.laws_report.specs.reports.Shown.{lines_behind, pulses_before, pulses_in, section_turn, sections_shown}
use Rattle.laws_report.proofs.reports.Bridging.{is-first, is-here, is-later}
use Rattle.laws_report.proofs.reports.Further.{EachFurther, IsLongFurther}
use Rattle.laws_report.proofs.reports.Limits.{AreSmall, KeepLimits}
use Rattle.laws_report.proofs.reports.Shorts.{longs, rooms_at, shorts, steps_at}
use Rattle.laws_report.proofs.reports.Standing.{some_pulse}
use Rattle.plan_types.proofs.Facts.{is_itself}

-- so a section that is shown starts before the last turn in which one may
pub turn_low : (j turn : ℕ) (lines : List ReportLine) → AreLow lines → section_turn j lines ≡ Some turn → turn < start_limit
turn_low j at [] low e = absurd (let f : None ≡ Some at = e in cc)
turn_low j at (report.Section i turn kind ∷ lines) low e = by (i == j) e (λ f. turn_low j at lines low.1 f) where
  by : (b : Bool) → (if b then Some turn else section_turn j lines) ≡ Some at → (section_turn j lines ≡ Some at → at < start_limit) → at < start_limit
  by true here later = (let same : turn ≡ at = cc in let few = low.0.1 in omega (arith, same, few))
  by false here later = later here
turn_low j at (report.Machine corexy boards steppers ∷ lines) low e = turn_low j at lines low.1 e
turn_low j at (report.Board board freq turn tick ∷ lines) low e = turn_low j at lines low.1 e
turn_low j at (report.Pulse board stepper tick up ∷ lines) low e = turn_low j at lines low.1 e
turn_low j at (report.Cut i board pin tick from ∷ lines) low e = turn_low j at lines low.1 e
turn_low j at (report.Drift board sent clock from ∷ lines) low e = turn_low j at lines low.1 e
turn_low j at (report.Lines accepted passed ∷ lines) low e = turn_low j at lines low.1 e
turn_low j at (report.Out board pin tick on ∷ lines) low e = turn_low j at lines low.1 e
turn_low j at (report.Made seed moves ∷ lines) low e = turn_low j at lines low.1 e
turn_low j at (report.Count stepper pulses ∷ lines) low e = turn_low j at lines low.1 e
turn_low j at (report.Fit section stepper pulses planned early late ∷ lines) low e = turn_low j at lines low.1 e
turn_low j at (report.End c ∷ lines) low e = turn_low j at lines low.1 e

-- the turn of a section is that of its line
pub shown_turn : (j : ℕ) (lines : List ReportLine) → section_turn j (sections_shown lines) ≡ section_turn j lines
shown_turn j [] = refl
shown_turn j (report.Section i turn kind ∷ lines) = ap (λ (o : Option ℕ). if i == j then Some turn else o) (shown_turn j lines)
shown_turn j (report.Machine corexy boards steppers ∷ lines) = shown_turn j lines
shown_turn j (report.Board board freq turn tick ∷ lines) = shown_turn j lines
shown_turn j (report.Pulse board stepper tick up ∷ lines) = shown_turn j lines
shown_turn j (report.Cut i board pin tick from ∷ lines) = shown_turn j lines
shown_turn j (report.Drift board sent clock from ∷ lines) = shown_turn j lines
shown_turn j (report.Lines accepted passed ∷ lines) = shown_turn j lines
shown_turn j (report.Out board pin tick on ∷ lines) = shown_turn j lines
shown_turn j (report.Made seed moves ∷ lines) = shown_turn j lines
shown_turn j (report.Count stepper pulses ∷ lines) = shown_turn j lines
shown_turn j (report.Fit section stepper pulses planned early late ∷ lines) = shown_turn j lines
shown_turn j (report.End c ∷ lines) = shown_turn j lines

-- a section that is shown is one of the text, and starts no sooner than the first may
pub record IsDue (first i j n turn : ℕ) : Type 0 where
  pub from : i ≤ j
  pub inside : j < i + n
  pub late : first ≤ turn

-- the moves of a section of a number
few_of : (sections : List Section) (j : ℕ) → All (λ s. length s.moves ≤ 2_000_000) sections → length (moves_of sections j) ≤ 2_000_000
few_of [] j few = omega arith
few_of (s ∷ sections) zero few = All-head (λ (x : Section). length x.moves ≤ 2_000_000) s sections few
few_of (s ∷ sections) (suc j) few = few_of sections j (All-tail (λ (x : Section). length x.moves ≤ 2_000_000) s sections few)

-- pulses that fit steps of 64 bits have ticks of 64 bits
abbrev HaveTicks : List Pulse → Type 0
HaveTicks [] = Unit {0}
HaveTicks (p ∷ ps) = (p.tick < 2 ^ 64) × HaveTicks ps

fit_ticks : (freq before : ℕ) (ps : List Pulse) (steps : List Planned) → Fits freq before ps steps → All (λ q. q.tick < 2 ^ 64) steps → HaveTicks ps
fit_ticks freq before [] steps fits small = tt
fit_ticks freq before (p ∷ ps) [] fits small = absurd fits
fit_ticks freq before (p ∷ ps) (s ∷ steps) fits small =
    let late = fits.0.not_late in
    let own = All-head (λ (q : Planned). q.tick < 2 ^ 64) s steps small in
    (omega (arith, late, own), fit_ticks freq s.tick ps steps fits.1 (All-tail (λ (q : Planned). q.tick < 2 ^ 64) s steps small))

-- no pulses before the first section
before_none : (s turn : ℕ) (kind : SectionKind) (head body : List ReportLine) → pulses_of s head ≡ [] → pulses_before s (head ++ report.Section 0 turn kind ∷ body) ≡ []
before_none s at sort [] body none = refl
before_none s at sort (report.Section i turn kind ∷ head) body none = refl
before_none s at sort (report.Pulse board stepper tick up ∷ head) body none =
    let here : Pulse = record { tick = tick; stepper = stepper; up = up } in
    let others = pulses_before s (head ++ report.Section 0 at sort ∷ body) in
    let At : Bool → Type 0 = λ b. (if b then here ∷ others else others) ≡ [] in
    elim (eqb_tells stepper s) [
      | inl p ↦ absurd (some_pulse board s tick up head (subst (λ (n : ℕ). pulses_of s (report.Pulse board n tick up ∷ head) ≡ []) p.1 none))
      | inr p ↦ subst At (sym p.0) (before_none s at sort head body (pulses_less s board stepper tick up head p.1 none))
    ]
  where
    pulses_less : (s board stepper tick : ℕ) (up : Bool) (head : List ReportLine) → (stepper ≡ s → ⊥) → pulses_of s (report.Pulse board stepper tick up ∷ head) ≡ [] → pulses_of s head ≡ []
    pulses_less s board stepper tick up head differ e = elim (eqb_tells stepper s) [
      | inl p ↦ absurd (differ p.1)
      | inr p ↦
          let here : Pulse = record { tick = tick; stepper = s; up = up } in
          let At : Bool → List Pulse = λ b. (if b then here ∷ [] else []) ++ pulses_of s head in
          sym (ap At p.0) ∙ e
    ]
before_none s at sort (report.Machine corexy boards steppers ∷ head) body none = before_none s at sort head body none
before_none s at sort (report.Board board freq turn tick ∷ head) body none = before_none s at sort head body none
before_none s at sort (report.Cut i board pin tick from ∷ head) body none = before_none s at sort head body none
before_none s at sort (report.Drift board sent clock from ∷ head) body none = before_none s at sort head body none
before_none s at sort (report.Lines accepted passed ∷ head) body none = before_none s at sort head body none
before_none s at sort (report.Out board pin tick on ∷ head) body none = before_none s at sort head body none
before_none s at sort (report.Made seed moves ∷ head) body none = before_none s at sort head body none
before_none s at sort (report.Count stepper pulses ∷ head) body none = before_none s at sort head body none
before_none s at sort (report.Fit section stepper pulses planned early late ∷ head) body none = before_none s at sort head body none
before_none s at sort (report.End c ∷ head) body none = before_none s at sort head body none

-- the pulses up to the next section line, and those of each section from a number on, have ticks of 64 bits, and the cut lines are small
record AreTimed (m : Machine) (n : ℕ) (lines : List ReportLine) : Type 0 where
  before : (s : ℕ) → s < length m.steppers → HaveTicks (pulses_before s lines)
  inside : (j turn s : ℕ) → n ≤ j → section_turn j lines ≡ Some turn → s < length m.steppers → HaveTicks (pulses_in j s lines)
  cut : AreSmall m (cuts_of (lines_before lines))
  cuts : (j turn : ℕ) → n ≤ j → section_turn j lines ≡ Some turn → AreSmall m (cuts_in j lines)

-- lines of sections that are numbered from a number on
abbrev pub AreNumbered : ℕ → List ReportLine → Type 0
AreNumbered k [] = Unit {0}
AreNumbered k (line ∷ lines) = ((turn : ℕ) × (kind : SectionKind) × (line ≡ report.Section k turn kind)) × AreNumbered (k + 1) lines

pub numbered_begun : (k : ℕ) (ss : List Started) → AreNumbered k (begun_lines k ss)
numbered_begun k [] = tt
numbered_begun k (s ∷ ss) = ((s.start, s.section.kind, refl), numbered_begun (k + 1) ss)

pulse_less : (b : Bool) (p : Pulse) (ps : List Pulse) → HaveTicks (if b then p ∷ ps else ps) → HaveTicks ps
pulse_less true p ps h = h.1
pulse_less false p ps h = h

not_same : (n j : ℕ) → n + 1 ≤ j → (n == j) ≡ false
not_same n j low = elim (eqb_tells n j) [ inl p ↦ absurd (omega (arith, p.1, low)) | inr p ↦ p.0 ]

-- so all lines are small
small : (homes : Bool) (m : Machine) (n : ℕ) (lines : List ReportLine) → AreNumbered n (sections_shown lines) → AreTold homes m lines → AreLow lines → EachFurther IsLongFurther (further_told (map logged lines)) → AreNamed m lines → AreTimed m n lines → AreSmall m lines
small homes m n [] shown told low long names timed = tt
small homes m n (report.Section i turn kind ∷ lines) shown told low long names timed =
    let e : report.Section i turn kind ≡ report.Section n shown.0.0 shown.0.1 = shown.0.2 in
    let number : i ≡ n = cc in
    let few = low.0.0 in
    let early = low.0.1 in
    let here = report.Section i turn kind ∷ lines in
    let self : (i == n) ≡ true = ap (λ (k : ℕ). i == k) (sym number) ∙ is_itself i in
    let no : (j : ℕ) → n + 1 ≤ j → (i == j) ≡ false = λ j late. not_same i j (omega (arith, late, number)) in
    let now : section_turn n here ≡ Some turn = is-first (i == n) turn (section_turn n lines) self in
    let Small : List ReportLine → Type 0 = λ z. AreSmall m (cuts_of (lines_before z)) in
    let later : AreTimed m (n + 1) lines = record {
      before = λ s lt. subst HaveTicks (is-here (i == n) (pulses_before s lines) (pulses_in n s lines) self) (timed.inside n turn s (omega arith) now lt);
      inside = λ j at s late shows lt.
          subst HaveTicks (is-later (i == j) (pulses_before s lines) (pulses_in j s lines) (no j late)) (timed.inside j at s (omega (arith, late)) (is-later (i == j) (Some turn) (section_turn j lines) (no j late) ∙ shows) lt);
      cut = subst Small (is-here (i == n) lines (lines_behind n lines) self) (timed.cuts n turn (omega arith) now);
      cuts = λ j at late shows. subst Small (is-later (i == j) lines (lines_behind j lines) (no j late)) (timed.cuts j at (omega (arith, late)) (is-later (i == j) (Some turn) (section_turn j lines) (no j late) ∙ shows));
    } in
    ((omega (arith, few, early), omega (arith, early)), small homes m (n + 1) lines shown.1 told.1 low.1 long names later)
small homes m n (report.Pulse board stepper tick up ∷ lines) shown told low long names timed =
    let p : Pulse = record { tick = tick; stepper = stepper; up = up } in
    let ps = pulses_before stepper lines in
    let own = subst HaveTicks (is-here (stepper == stepper) (p ∷ ps) ps (is_itself stepper)) (timed.before stepper told.0.0) in
    (own.0, small homes m n lines shown told.1 low.1 long names (record { before = λ s lt. pulse_less (stepper == s) p (pulses_before s lines) (timed.before s lt); inside = timed.inside; cut = timed.cut; cuts = timed.cuts }))
small homes m n (report.Machine corexy many others ∷ lines) shown told low long names timed = (tt, small homes m n lines shown told.1 low.1 long names (record { before = timed.before; inside = timed.inside; cut = timed.cut; cuts = timed.cuts }))
small homes m n (report.Board board freq turn tick ∷ lines) shown told low long names timed = (tt, small homes m n lines shown told.1 low.1 long names (record { before = timed.before; inside = timed.inside; cut = timed.cut; cuts = timed.cuts }))
small homes m n (report.Cut i board pin tick from ∷ lines) shown told low long names timed = (timed.cut.0, small homes m n lines shown told.1 low.1 long names (record { before = timed.before; inside = timed.inside; cut = timed.cut.1; cuts = timed.cuts }))
small homes m n (report.Drift board sent clock from ∷ lines) shown told low long names timed =
    ((names.0, long.0.0, long.0.1, long.0.2), small homes m n lines shown told.1 low.1 long.1 names.1 (record { before = timed.before; inside = timed.inside; cut = timed.cut; cuts = timed.cuts }))
small homes m n (report.Lines accepted passed ∷ lines) shown told low long names timed =
    let a = low.0.0 in
    let b = low.0.1 in
    ((omega (arith, a), omega (arith, b)), small homes m n lines shown told.1 low.1 long names (record { before = timed.before; inside = timed.inside; cut = timed.cut; cuts = timed.cuts }))
small homes m n (report.Out board pin tick on ∷ lines) shown told low long names timed = absurd told.0
small homes m n (report.Made seed many ∷ lines) shown told low long names timed = absurd told.0
small homes m n (report.Count stepper pulses ∷ lines) shown told low long names timed = absurd told.0
small homes m n (report.Fit section stepper pulses planned early late ∷ lines) shown told low long names timed = absurd told.0
small homes m n (report.End c ∷ lines) shown told low long names timed = absurd told.0

-- what the lines of a run show
pub record Facts (homes : Bool) (m : Machine) (sections : List Section) (clocks : List Clocks) (ready : ℕ) (said : List ReportLine) : Type 0 where
  pub due : (j turn : ℕ) → section_turn j said ≡ Some turn → IsDue ready 0 j (length sections) turn
  pub numbered : AreNumbered 0 (sections_shown said)
  pub apart : StandApart m clocks ready said
  pub heads : AreHeads 0 apart.head
  pub sound : AreSound m clocks ready
  pub boards : BoardsHave clocks ready said
  pub own : AreTold homes m said
  pub cut : AreSmall m (cuts_of (lines_before said))
  pub cuts : (j turn : ℕ) → section_turn j said ≡ Some turn → AreSmall m (cuts_in j said)
  pub last : ℕ
  pub first : BoardsFirst said
  pub names : AreNamed m said
  pub timed : (b : ℕ) → b < length m.boards → tick (clocks_at clocks b).first (ready * turn_ns) ≤ greatest_tick ready
  pub soon : ready < 2 ^ 43
  pub further : (b : ℕ) → b < length m.boards → TellsFurther b (clocks_at clocks b).held last said

-- what it tells of the boards' clock lines
abbrev pub shorts_of : (homes : Bool) (m : Machine) (sections : List Section) (clocks : List Clocks) (ready : ℕ) (said : List ReportLine) (f : Facts homes m sections clocks ready said) → AreShownShort m clocks ready f.last f.apart.head said
shorts_of homes m sections clocks ready said f = shorts m clocks ready f.last f.apart.head (report.Section 0 f.apart.turn f.apart.kind ∷ f.apart.body) said f.apart.are f.heads f.apart.told f.apart.rest f.sound f.names f.timed f.soon f.first f.further

-- the planned steps of a section have ticks of 64 bits
less_than : (top : ℕ) (xs : List Planned) → All (λ q. q.tick ≤ top - 1) xs → 0 < top → All (λ q. q.tick < top) xs
less_than top xs all some = λ k d lt. let h = all k d lt in omega (arith, h, some)

pub keep_by : (homes : Bool) (m : Machine) (text : List ℕ) (clocks : List Clocks) (ready : ℕ) (said : List ReportLine) → IsValidMachine m → (f : Facts homes m (sections_over m text) clocks ready said) → (low : AreLow said)
    → FollowsPlanBy (shorts_of homes m (sections_over m text) clocks ready said f).short m (sections_over m text) said
    → KeepLimits m (shorts_of homes m (sections_over m text) clocks ready said f).short ready (sections_over m text) said
keep_by homes m text clocks ready said valid shows low follows =
    record { small = small homes m 0 said shows.numbered shows.own low (longs m clocks ready shows.last shows.apart.head (report.Section 0 shows.apart.turn shows.apart.kind ∷ shows.apart.body) said shows.apart.are shows.heads shows.apart.told shows.apart.rest shows.sound shows.names shows.timed shows.soon shows.first shows.further) shows.names timed; rooms = rooms }
  where
    can : ArePlannable (sections_over m text)
    can = sections_plannable m text valid

    short : AreShownShort m clocks ready shows.last shows.apart.head said
    short = shorts_of homes m (sections_over m text) clocks ready said shows

    rooms : (j turn : ℕ) → section_turn j said ≡ Some turn → have_room (all_retold ready short.short) (length (moves_of (sections_over m text) j)) turn ≡ true
    rooms j turn e =
        let d = shows.due j turn e in
        rooms_at m clocks ready shows.last shows.apart.head (report.Section 0 shows.apart.turn shows.apart.kind ∷ shows.apart.body) said shows.apart.are shows.heads shows.apart.told shows.apart.rest shows.sound shows.names shows.timed shows.soon shows.first shows.further low (length (moves_of (sections_over m text) j)) turn d.late (turn_low j turn said low e) (few_of (sections_over m text) j can.few)

    steps : (j turn s : ℕ) → section_turn j said ≡ Some turn → s < length m.steppers → All (λ q. q.tick < 2 ^ 64) (stepper_plan m short.short (moves_of (sections_over m text) j) turn s)
    steps j turn s e lt =
        let d = shows.due j turn e in
        let there : j < length (sections_over m text) = (let h = d.inside in omega (arith, h)) in
        let moves = moves_of (sections_over m text) j in
        let late = d.late in
        let made = steps_at m clocks ready shows.last shows.apart.head (report.Section 0 shows.apart.turn shows.apart.kind ∷ shows.apart.body) said shows.apart.are shows.heads shows.apart.told shows.apart.rest shows.sound shows.names shows.timed shows.soon shows.first shows.further low moves turn s valid late (turn_low j turn said low e)
        (near_short moves (can.valid j no_section there) (can.near j no_section there)) (few_of (sections_over m text) j can.few) lt in
        let is : stepper_plan m (all_retold ready short.short) moves turn s ≡ stepper_plan m short.short moves turn s = (alike m short.short moves ready turn valid short.have late).steps s in
        less_than (2 ^ 64) (stepper_plan m short.short moves turn s) (subst (λ (xs : List Planned). All (λ q. q.tick ≤ 2 ^ 64 - 1) xs) is made) (omega arith)

    timed : AreTimed m 0 said
    timed = record {
      before = λ s lt.
          let apart = shows.apart in
          let none = ap (pulses_before s) apart.are ∙ before_none s apart.turn apart.kind apart.head apart.body (apart.still s lt) in
          subst HaveTicks (sym none) tt;
      inside = λ j turn s low_j e lt.
          fit_ticks (clocks_at short.short (stepper_at m s).board).first.freq (base_tick m short.short turn s) (pulses_in j s said) (plan_by short.short m (sections_over m text) j turn s) (follows j turn s e lt) (steps j turn s e lt);
      cut = shows.cut;
      cuts = λ j turn low_j e. shows.cuts j turn e;
    }

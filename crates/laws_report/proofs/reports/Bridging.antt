-- Lines that follow the plan and stand in order go through the sections.
use Rattle.std.proofs.Common.{◌≡◌, ◌∙◌, ◌⊎◌, inl, inr, ℕ, ◌+◌, ◌<◌, ◌≤◌, Bool, true, false, List, [], ◌∷◌, ◌++◌, length, ap, sym, refl, subst, arith, Option, Some, append_assoc, length-append, rules}
use Rattle.std.specs.Prelude.{◌==◌, slice_index_or, if◌then◌else◌}
use Rattle.laws_board.proofs.Names.{nat_tests, length-map, Machine, Move, Planned, Pulse, Section, SectionKind, Home, Clocks, IsValidMachine, stepper_at, Fits, clocks_at, stepper_plan, ReportLine}
use Rattle.std.proofs.Math.Seq.{get_or-append_seam}
use Rattle.plan_types.specs.Sections.{base_tick, section_end, no_section}
use Rattle.report_text.specs.declared.line.ReportLine.TheVariants as report
use Rattle.log_check.specs.Behind.{pulses}
use Rattle.log_check.specs.Faults.{have_room}
use Rattle.laws_report.specs.logs.Follows.{in_order}
use Rattle.laws_report.specs.reports.Retold.{HaveLines, PlansAlike, all_retold, retold}
use Rattle.laws_report.specs.reports.Stands.{AreOfSections, BeginSection, IsPlannedAlike, StandInOrder}
use Rattle.laws_report.specs.reports.Through.{AreHeads, told_pulses}
use Rattle.laws_report.specs.reports.Within.{AreInSection, GoWithin, TellAllWithin, TellsWithin, has_cut, ready_behind}
use Rattle.laws_report.proofs.reports.Retelling.{alike}
use Rattle.laws_report.proofs.reports.Running.{told-more}
use Rattle.laws_run.specs.home_headline.Cuts.{cuts_of}
use Rattle.laws_report.specs.reports.Cuts.{cuts_in, lines_before}
use Rattle.laws_report.specs.reports.Shown.{lines_behind, pulses_before, pulses_in, section_turn, sections_shown}
use Rattle.laws_report.specs.reports.Headline.{section_kind, moves_of, plan_by}
use Rattle.laws_report.specs.reports.Promises.{FollowsPlanBy}
use Rattle.motion_work.proofs.Turning.{end_after}

-- lines behind that of a section, which may have cut lines of any section
abbrev AreLoose : List ReportLine → Type 0
AreLoose [] = Unit {0}
AreLoose (report.Pulse board stepper tick up ∷ lines) = AreLoose lines
AreLoose (report.Machine corexy boards steppers ∷ lines) = AreLoose lines
AreLoose (report.Cut i board pin tick from ∷ lines) = AreLoose lines
AreLoose (report.Drift board sent clock from ∷ lines) = AreLoose lines
AreLoose (report.Lines accepted passed ∷ lines) = AreLoose lines
AreLoose (_ ∷ lines) = ⊥

-- one cut line, of the section of a number
abbrev pub IsOneCut : ℕ → List ReportLine → Type 0
IsOneCut i lines = (board pin tick from : ℕ) × (lines ≡ report.Cut i board pin tick from ∷ [])

-- where there are none
within-none : (i : ℕ) (block : List ReportLine) → AreLoose block → cuts_of block ≡ [] → AreInSection i block × (has_cut block ≡ false)
within-none i [] loose e = (tt, refl)
within-none i (report.Pulse board stepper tick up ∷ block) loose e = within-none i block loose e
within-none i (report.Machine corexy boards steppers ∷ block) loose e = within-none i block loose e
within-none i (report.Cut j board pin tick from ∷ block) loose e = absurd (let f : report.Cut j board pin tick from ∷ cuts_of block ≡ [] = e in cc)
within-none i (report.Drift board sent clock from ∷ block) loose e = within-none i block loose e
within-none i (report.Lines accepted passed ∷ block) loose e = within-none i block loose e
within-none i (report.Board board freq turn tick ∷ block) loose e = absurd loose
within-none i (report.Section j turn kind ∷ block) loose e = absurd loose
within-none i (report.Out board pin tick on ∷ block) loose e = absurd loose
within-none i (report.Made seed moves ∷ block) loose e = absurd loose
within-none i (report.Count stepper pulses ∷ block) loose e = absurd loose
within-none i (report.Fit section stepper pulses planned early late ∷ block) loose e = absurd loose
within-none i (report.End c ∷ block) loose e = absurd loose

-- or one
within-one : (i : ℕ) (block : List ReportLine) → AreLoose block → IsOneCut i (cuts_of block) → AreInSection i block × (has_cut block ≡ true)
within-one i [] loose one = absurd (let f : [] ≡ report.Cut i one.0 one.1 one.2 one.3 ∷ [] = one.4 in cc)
within-one i (report.Pulse board stepper tick up ∷ block) loose one = within-one i block loose one
within-one i (report.Machine corexy boards steppers ∷ block) loose one = within-one i block loose one
within-one i (report.Cut j board pin tick from ∷ block) loose one =
    let f : report.Cut j board pin tick from ∷ cuts_of block ≡ report.Cut i one.0 one.1 one.2 one.3 ∷ [] = one.4 in
    let same : j ≡ i = cc in
    let rest : cuts_of block ≡ [] = cc in
    ((same, (within-none i block loose rest).0), refl)
within-one i (report.Drift board sent clock from ∷ block) loose one = within-one i block loose one
within-one i (report.Lines accepted passed ∷ block) loose one = within-one i block loose one
within-one i (report.Board board freq turn tick ∷ block) loose one = absurd loose
within-one i (report.Section j turn kind ∷ block) loose one = absurd loose
within-one i (report.Out board pin tick on ∷ block) loose one = absurd loose
within-one i (report.Made seed moves ∷ block) loose one = absurd loose
within-one i (report.Count stepper pulses ∷ block) loose one = absurd loose
within-one i (report.Fit section stepper pulses planned early late ∷ block) loose one = absurd loose
within-one i (report.End c ∷ block) loose one = absurd loose

if-told : (b : Bool) (p : Pulse) (others : List Pulse) → (if b then p ∷ others else others) ≡ in_order (if b then p ∷ [] else []) ++ others
if-told true p others = refl
if-told false p others = refl

-- the pulses up to the next section
before-told : (s i : ℕ) (block rest : List ReportLine) → AreInSection i block → BeginSection rest → pulses_before s (block ++ rest) ≡ told_pulses s block
before-told s i [] [] are begins = refl
before-told s i [] (report.Section j turn kind ∷ rest) are begins = refl
before-told s i [] (report.Pulse board stepper tick up ∷ rest) are begins = absurd begins
before-told s i [] (report.Machine corexy boards steppers ∷ rest) are begins = absurd begins
before-told s i [] (report.Board board freq turn tick ∷ rest) are begins = absurd begins
before-told s i [] (report.Cut j board pin tick from ∷ rest) are begins = absurd begins
before-told s i [] (report.Drift board sent clock from ∷ rest) are begins = absurd begins
before-told s i [] (report.Lines accepted passed ∷ rest) are begins = absurd begins
before-told s i [] (report.Out board pin tick on ∷ rest) are begins = absurd begins
before-told s i [] (report.Made seed moves ∷ rest) are begins = absurd begins
before-told s i [] (report.Count stepper pulses ∷ rest) are begins = absurd begins
before-told s i [] (report.Fit section stepper pulses planned early late ∷ rest) are begins = absurd begins
before-told s i [] (report.End c ∷ rest) are begins = absurd begins
before-told s i (report.Pulse board stepper tick up ∷ block) rest are begins =
    let p : Pulse = record { tick = tick; stepper = stepper; up = up } in
    if-told (stepper == s) p (pulses_before s (block ++ rest)) ∙ (ap (λ (ps : List Pulse). in_order (if stepper == s then p ∷ [] else []) ++ ps) (before-told s i block rest are begins) ∙ sym (told-more s i (report.Pulse board stepper tick up) block are))
before-told s i (report.Machine corexy boards steppers ∷ block) rest are begins = before-told s i block rest are begins ∙ sym (told-more s i (report.Machine corexy boards steppers) block are)
before-told s i (report.Cut j board pin tick from ∷ block) rest are begins = before-told s i block rest are.1 begins ∙ sym (told-more s i (report.Cut j board pin tick from) block are)
before-told s i (report.Drift board sent clock from ∷ block) rest are begins = before-told s i block rest are begins ∙ sym (told-more s i (report.Drift board sent clock from) block are)
before-told s i (report.Lines accepted passed ∷ block) rest are begins = before-told s i block rest are begins ∙ sym (told-more s i (report.Lines accepted passed) block are)
before-told s i (report.Board board freq turn tick ∷ block) rest are begins = absurd are
before-told s i (report.Section j turn kind ∷ block) rest are begins = absurd are
before-told s i (report.Out board pin tick on ∷ block) rest are begins = absurd are
before-told s i (report.Made seed moves ∷ block) rest are begins = absurd are
before-told s i (report.Count stepper pulses ∷ block) rest are begins = absurd are
before-told s i (report.Fit section stepper pulses planned early late ∷ block) rest are begins = absurd are
before-told s i (report.End c ∷ block) rest are begins = absurd are

-- the lines up to the next section, and from it on
record IsCut (homes : Bool) (lines rest : List ReportLine) : Type 0 where
  are : lines ≡ lines_before lines ++ rest
  loose : AreLoose (lines_before lines)
  begins : BeginSection rest
  behind : AreOfSections homes rest
  shown : sections_shown lines ≡ sections_shown rest
  turns : (j : ℕ) → section_turn j lines ≡ section_turn j rest
  later : (j s : ℕ) → pulses_in j s lines ≡ pulses_in j s rest
  later_lines : (j : ℕ) → lines_behind j lines ≡ lines_behind j rest

cut-at : (homes : Bool) (i turn : ℕ) (kind : SectionKind) (lines : List ReportLine) → AreOfSections homes lines → IsCut homes (report.Section i turn kind ∷ lines) (report.Section i turn kind ∷ lines)
cut-at homes i turn kind lines behind = record { are = refl; loose = tt; begins = tt; behind = behind; shown = refl; turns = λ j. refl; later = λ j s. refl; later_lines = λ j. refl }

cut-lines : (homes : Bool) (lines : List ReportLine) → AreOfSections homes lines → (rest : List ReportLine) × IsCut homes lines rest
cut-lines homes [] behind = ([], record { are = refl; loose = tt; begins = tt; behind = tt; shown = refl; turns = λ j. refl; later = λ j s. refl; later_lines = λ j. refl })
cut-lines homes (report.Section i turn kind ∷ lines) behind = (report.Section i turn kind ∷ lines, cut-at homes i turn kind lines behind)
cut-lines homes (report.Pulse board stepper tick up ∷ lines) behind =
    let f = cut-lines homes lines behind in
    let c = f.1 in
    (f.0, record { are = ap (λ (x : List ReportLine). report.Pulse board stepper tick up ∷ x) c.are; loose = c.loose; begins = c.begins; behind = c.behind; shown = c.shown; turns = c.turns; later = c.later; later_lines = c.later_lines })
cut-lines homes (report.Machine corexy boards steppers ∷ lines) behind =
    let f = cut-lines homes lines behind in
    let c = f.1 in
    (f.0, record { are = ap (λ (x : List ReportLine). report.Machine corexy boards steppers ∷ x) c.are; loose = c.loose; begins = c.begins; behind = c.behind; shown = c.shown; turns = c.turns; later = c.later; later_lines = c.later_lines })
cut-lines homes (report.Cut i board pin tick from ∷ lines) behind =
    let f = cut-lines homes lines behind.1 in
    let c = f.1 in
    (f.0, record { are = ap (λ (x : List ReportLine). report.Cut i board pin tick from ∷ x) c.are; loose = c.loose; begins = c.begins; behind = c.behind; shown = c.shown; turns = c.turns; later = c.later; later_lines = c.later_lines })
cut-lines homes (report.Drift board sent clock from ∷ lines) behind =
    let f = cut-lines homes lines behind in
    let c = f.1 in
    (f.0, record { are = ap (λ (x : List ReportLine). report.Drift board sent clock from ∷ x) c.are; loose = c.loose; begins = c.begins; behind = c.behind; shown = c.shown; turns = c.turns; later = c.later; later_lines = c.later_lines })
cut-lines homes (report.Lines accepted passed ∷ lines) behind =
    let f = cut-lines homes lines behind in
    let c = f.1 in
    (f.0, record { are = ap (λ (x : List ReportLine). report.Lines accepted passed ∷ x) c.are; loose = c.loose; begins = c.begins; behind = c.behind; shown = c.shown; turns = c.turns; later = c.later; later_lines = c.later_lines })
cut-lines homes (report.Board board freq turn tick ∷ lines) behind = absurd behind
cut-lines homes (report.Out board pin tick on ∷ lines) behind = absurd behind
cut-lines homes (report.Made seed moves ∷ lines) behind = absurd behind
cut-lines homes (report.Count stepper pulses ∷ lines) behind = absurd behind
cut-lines homes (report.Fit section stepper pulses planned early late ∷ lines) behind = absurd behind
cut-lines homes (report.End c ∷ lines) behind = absurd behind

-- a section is cut, and homes; or it isn't
abbrev pub IsCutOrNot : List Section → Bool → ℕ → List ReportLine → Type 0
IsCutOrNot sections cut j lines = ((cut ≡ false) × (cuts_in j lines ≡ [])) ⊎ ((cut ≡ true) × IsOneCut j (cuts_in j lines) × ((axis : ℕ) × (section_kind sections j ≡ Home axis)))

-- a section is planned alike whose cut lines and pulses are the same
alike-same : (m : Machine) (short clocks : List Clocks) (sections : List Section) (said body : List ReportLine) (j turn : ℕ) → cuts_in j said ≡ cuts_in j body → ((s : ℕ) → pulses_in j s said ≡ pulses_in j s body) → IsPlannedAlike m short clocks sections said j turn
    → IsPlannedAlike m short clocks sections body j turn
alike-same m short clocks sections said body j turn p8 p9 p10 = search (rules, clocks_at, stepper_at)

-- what is asked of the lines from a section on, of which some are cut
pub record Follow (m : Machine) (sections : List Section) (clocks short : List Clocks) (cut : ℕ → Bool) (ready i : ℕ) (body : List ReportLine) : Type 0 where
  pub fits : (j turn s : ℕ) → i ≤ j → section_turn j body ≡ Some turn → s < length m.steppers → Fits (clocks_at clocks (stepper_at m s).board).first.freq (base_tick m clocks turn s) (pulses_in j s body) (plan_by clocks m sections j turn s)
  pub whole : (j turn s : ℕ) → i ≤ j → section_turn j body ≡ Some turn → cut j ≡ false → s < length m.steppers → length (pulses_in j s body) ≡ length (plan_by clocks m sections j turn s)
  pub rooms : (j turn : ℕ) → i ≤ j → section_turn j body ≡ Some turn → have_room (all_retold ready short) (length (moves_of sections j)) turn ≡ true
  pub alike : (j turn : ℕ) → i ≤ j → section_turn j body ≡ Some turn → IsPlannedAlike m short clocks sections body j turn
  pub cuts : (j turn : ℕ) → i ≤ j → section_turn j body ≡ Some turn → IsCutOrNot sections (cut j) j body

-- sections from a number on have these lines: the first may start in a turn or later, and each later one behind the one before
abbrev pub AreDue : Machine → List Clocks → (ℕ → Bool) → ℕ → ℕ → List Section → List ReportLine → Type 0
AreDue m clocks cut soon i [] [] = Unit {0}
AreDue m clocks cut soon i [] (h ∷ hs) = ⊥
AreDue m clocks cut soon i (s ∷ secs) [] = ⊥
AreDue m clocks cut soon i (s ∷ secs) (h ∷ hs) = (turn : ℕ) × (h ≡ report.Section i turn s.kind) × (soon + s.dwell ≤ turn) × AreDue m clocks cut (ready_behind (cut i) turn (section_end m clocks s.moves turn)) (i + 1) secs hs

pub is-first : (b : Bool) (turn : ℕ) (later : Option ℕ) → b ≡ true → (if b then Some turn else later) ≡ Some turn
is-first true turn later e = refl
is-first false turn later e = cc

pub is-later : {A : Type 0} (b : Bool) (x y : A) → b ≡ false → (if b then x else y) ≡ y
is-later true x y e = cc
is-later false x y e = refl

pub is-here : {A : Type 0} (b : Bool) (x y : A) → b ≡ true → (if b then x else y) ≡ x
is-here true x y e = refl
is-here false x y e = cc

-- the lines behind that of a section
follow-later : (m : Machine) (sections : List Section) (clocks short : List Clocks) (cuts : ℕ → Bool) (homes : Bool) (ready i turn : ℕ) (kind : SectionKind) (lines rest : List ReportLine) → Follow m sections clocks short cuts ready i (report.Section i turn kind ∷ lines) → IsCut homes lines rest
    → Follow m sections clocks short cuts ready (i + 1) rest
follow-later m sections clocks short cuts homes ready i turn kind lines rest follow cut =
    let here = report.Section i turn kind ∷ lines in
    let no : (j : ℕ) → i + 1 ≤ j → (i == j) ≡ false = λ j low. grind (arith, nat_tests) in
    let turns : (j : ℕ) → i + 1 ≤ j → section_turn j here ≡ section_turn j rest = λ j low. is-later (i == j) (Some turn) (section_turn j lines) (no j low) ∙ cut.turns j in
    let pulses_are : (j s : ℕ) → i + 1 ≤ j → pulses_in j s here ≡ pulses_in j s rest = λ j s low. is-later (i == j) (pulses_before s lines) (pulses_in j s lines) (no j low) ∙ cut.later j s in
    let cuts_are : (j : ℕ) → i + 1 ≤ j → cuts_in j here ≡ cuts_in j rest = λ j low. ap (λ (z : List ReportLine). cuts_of (lines_before z)) (is-later (i == j) lines (lines_behind j lines) (no j low) ∙ cut.later_lines j) in
    record {
      fits = λ j t s low shows inside. subst (λ (ps : List Pulse). Fits (clocks_at clocks (stepper_at m s).board).first.freq (base_tick m clocks t s) ps (plan_by clocks m sections j t s)) (pulses_are j s low) (follow.fits j t s (omega (arith, low)) (turns j low ∙ shows) inside);
      whole = λ j t s low shows uncut inside. sym (ap length (pulses_are j s low)) ∙ follow.whole j t s (omega (arith, low)) (turns j low ∙ shows) uncut inside;
      rooms = λ j t low shows. follow.rooms j t (omega (arith, low)) (turns j low ∙ shows);
      alike = λ j t low shows. alike-same m short clocks sections here rest j t (cuts_are j low) (λ s. pulses_are j s low) (follow.alike j t (omega (arith, low)) (turns j low ∙ shows));
      cuts = λ j t low shows. elim (follow.cuts j t (omega (arith, low)) (turns j low ∙ shows)) [
        | inl e ↦ inl (e.0, sym (cuts_are j low) ∙ e.1)
        | inr e ↦ inr (e.0, (e.1.0, e.1.1, e.1.2, e.1.3, sym (cuts_are j low) ∙ e.1.4), e.2)
      ];
    }

same-kind-of : (sections past secs : List Section) (s : Section) (i : ℕ) → sections ≡ past ++ s ∷ secs → i ≡ length past → section_kind sections i ≡ s.kind
same-kind-of sections past secs s i are at =
    ap (λ (ss : List Section). section_kind ss i) are ∙ (ap (λ (n : ℕ). section_kind (past ++ s ∷ secs) n) at ∙ ap (λ (x : Section). x.kind) (get_or-append_seam past s secs no_section))

same-moves : (sections past secs : List Section) (s : Section) (i : ℕ) → sections ≡ past ++ s ∷ secs → i ≡ length past → moves_of sections i ≡ s.moves
same-moves sections past secs s i are at =
    ap (λ (ss : List Section). (slice_index_or ss i no_section).moves) are ∙ (ap (λ (n : ℕ). (slice_index_or (past ++ s ∷ secs) n no_section).moves) at ∙ ap (λ (x : Section). x.moves) (get_or-append_seam past s secs no_section))

-- one section
record IsTold (m : Machine) (sections : List Section) (clocks short : List Clocks) (ready i turn : ℕ) (s : Section) (cut : Bool) (block : List ReportLine) : Type 0 where
  tells : TellsWithin m (all_retold ready short) s i turn block
  next : ready_behind cut turn (section_end m (all_retold ready short) s.moves turn) ≡ ready_behind cut turn (section_end m clocks s.moves turn)
  cut_is : has_cut block ≡ cut

-- pulses that fit a plan fit one that is the same
pub fits-same : (ps : List Pulse) {f g b c : ℕ} {xs ys : List Planned} → f ≡ g → b ≡ c → xs ≡ ys → Fits g c ps ys → Fits f b ps xs
fits-same ps {f} {g} {b} {c} {xs} {ys} freq base steps fit =
    subst (λ (n : ℕ). Fits n b ps xs) (sym freq) (subst (λ (n : ℕ). Fits g n ps xs) (sym base) (subst (λ (zs : List Planned). Fits g c ps zs) (sym steps) fit))

-- behind a section that is cut the next one starts no sooner, whenever its plan ends
behind-cut : (cut : Bool) (turn end other : ℕ) → cut ≡ true → ready_behind cut turn end ≡ ready_behind cut turn other
behind-cut true turn end other cut = refl
behind-cut false turn end other cut = absurd (let f : false ≡ true = cut in cc)

tell-one : (m : Machine) (sections past secs : List Section) (clocks short : List Clocks) (cuts : ℕ → Bool) (homes : Bool) (ready i turn : ℕ) (s : Section) (kind : SectionKind) (lines rest : List ReportLine) → IsValidMachine m → HaveLines m short ready → sections ≡ past ++ s ∷ secs → i ≡ length past → ready ≤ turn
    → Follow m sections clocks short cuts ready i (report.Section i turn kind ∷ lines) → IsCut homes lines rest → IsTold m sections clocks short ready i turn s (cuts i) (lines_before lines)
tell-one m sections past secs clocks short cuts homes ready i turn s kind lines rest valid one are at order follow cut =
    let here = report.Section i turn kind ∷ lines in
    let block = lines_before lines in
    let self : (i == i) ≡ true = grind (arith, nat_tests) in
    let shows : section_turn i here ≡ Some turn = is-first (i == i) turn (section_turn i lines) self in
    let moves = same-moves sections past secs s i are at in
    let kind_is = same-kind-of sections past secs s i are at in
    let told_same = alike m short s.moves ready turn valid one order in
    let cuts_are : cuts_in i here ≡ cuts_of block = ap (λ (z : List ReportLine). cuts_of (lines_before z)) (is-here (i == i) lines (lines_behind i lines) self) in
    let found : AreInSection i block × (has_cut block ≡ cuts i) × (cuts i ≡ true → (axis : ℕ) × (s.kind ≡ Home axis)) = elim (follow.cuts i turn (omega arith) shows) [
      | inl e ↦ let w = within-none i block cut.loose (sym cuts_are ∙ e.1) in (w.0, w.1 ∙ sym e.0, λ yes. absurd (let f : false ≡ true = sym e.0 ∙ yes in cc))
      | inr e ↦ let w = within-one i block cut.loose (e.1.0, e.1.1, e.1.2, e.1.3, sym cuts_are ∙ e.1.4) in (w.0, w.1 ∙ sym e.0, λ yes. (e.2.0, sym kind_is ∙ e.2.1))
    ] in
    let pulses_are : (q : ℕ) → pulses_in i q here ≡ told_pulses q block = λ q. is-here (i == i) (pulses_before q lines) (pulses_in i q lines) self ∙ ap (pulses_before q) cut.are ∙ before-told q i block rest found.0 cut.begins in
    let fits_by : (cs : List Clocks) (q : ℕ) → Fits (clocks_at cs (stepper_at m q).board).first.freq (base_tick m cs turn q) (pulses_in i q here) (plan_by cs m sections i turn q)
    → Fits (clocks_at cs (stepper_at m q).board).first.freq (base_tick m cs turn q) (told_pulses q block) (stepper_plan m cs s.moves turn q) = λ cs q fit.
    let freq = (clocks_at cs (stepper_at m q).board).first.freq in
    let base = base_tick m cs turn q in
    subst (λ (ms : List Move). Fits freq base (told_pulses q block) (stepper_plan m cs ms turn q)) moves (subst (λ (ps : List Pulse). Fits freq base ps (plan_by cs m sections i turn q)) (pulses_are q) fit) in
    let homes : has_cut block ≡ true → (axis : ℕ) × (s.kind ≡ Home axis) = λ yes. found.2 (sym found.1 ∙ yes) in
    let room : have_room (all_retold ready short) (length s.moves) turn ≡ true = ap (λ (ms : List Move). have_room (all_retold ready short) (length ms) turn) (sym moves) ∙ follow.rooms i turn (omega arith) shows in
    elim (follow.alike i turn (omega arith) shows) [
      | inl by_moves ↦
          let same = subst (λ (ms : List Move). PlansAlike m short clocks ms turn) moves by_moves in
          record {
            tells = record {
              are = found.0;
              homes = homes;
              fits = λ q inside.
                  fits-same (told_pulses q block) (told_same.freq q ∙ same.freq q inside) (told_same.base q ∙ same.base q inside) (told_same.steps q ∙ same.steps q inside) (fits_by clocks q (follow.fits i turn q (omega arith) shows inside));
              whole = λ uncut q inside.
                  sym (ap length (pulses_are q)) ∙ (follow.whole i turn q (omega arith) shows (sym found.1 ∙ uncut) inside ∙ (ap (λ (ms : List Move). length (stepper_plan m clocks ms turn q)) moves ∙ ap length (sym (told_same.steps q ∙ same.steps q inside))));
              room = room;
            };
            next = ap (ready_behind (cuts i) turn) (told_same.end ∙ same.end);
            cut_is = found.1;
          }
      | inr own ↦
          let yes : cuts i ≡ true = elim (follow.cuts i turn (omega arith) shows) [ inl e ↦ absurd (own.0 e.1) | inr e ↦ e.0 ] in
          record {
            tells = record {
              are = found.0;
              homes = homes;
              fits = λ q inside. fits-same (told_pulses q block) (told_same.freq q) (told_same.base q) (told_same.steps q) (fits_by short q (own.1 q inside));
              whole = λ uncut q inside. absurd (let f : true ≡ false = sym yes ∙ sym found.1 ∙ uncut in cc);
              room = room;
            };
            next = behind-cut (cuts i) turn (section_end m (all_retold ready short) s.moves turn) (section_end m clocks s.moves turn) yes;
            cut_is = found.1;
          }
    ]

-- the first line of some, where it begins a section
section-line : (i t : ℕ) (k : SectionKind) (l : ReportLine) (j u : ℕ) (h : SectionKind) → l ≡ report.Section i t k → l ≡ report.Section j u h → (j ≡ i) × (u ≡ t) × (h ≡ k)
section-line i t k l j u h e f = let g : report.Section j u h ≡ report.Section i t k = sym f ∙ e in (cc, cc, cc)

ready-low : (b : Bool) (turn end : ℕ) → turn ≤ end → turn ≤ ready_behind b turn end
ready-low true turn end low = omega arith
ready-low false turn end low = omega (arith, low)

tell-all : (m : Machine) (sections : List Section) (clocks short : List Clocks) (cuts : ℕ → Bool) (homes : Bool) (ready : ℕ) → IsValidMachine m → HaveLines m short ready → (secs past : List Section) (i soon : ℕ) (body : List ReportLine) → sections ≡ past ++ secs → i ≡ length past → ready ≤ soon → BeginSection body
    → AreOfSections homes body → AreDue m clocks cuts soon i secs (sections_shown body) → Follow m sections clocks short cuts ready i body → TellAllWithin m (all_retold ready short) i soon secs body
tell-all m sections clocks short cuts homes ready valid one [] past i soon [] are at order begins behind due follow = tt
tell-all m sections clocks short cuts homes ready valid one (s ∷ secs) past i soon [] are at order begins behind due follow = absurd due
tell-all m sections clocks short cuts homes ready valid one [] past i soon (report.Section j u h ∷ lines) are at order begins behind due follow = absurd due
tell-all m sections clocks short cuts homes ready valid one (s ∷ secs) past i soon (report.Section j u h ∷ lines) are at order begins behind due follow =
    let turn = due.0 in
    let same = section-line i turn s.kind (report.Section j u h) j u h due.1 refl in
    let is : report.Section j u h ∷ lines ≡ report.Section i turn s.kind ∷ lines = ap (λ (l : ReportLine). l ∷ lines) due.1 in
    let follow' = subst (λ (b : List ReportLine). Follow m sections clocks short cuts ready i b) is follow in
    let found = cut-lines homes lines behind in
    let rest = found.0 in
    let cut = found.1 in
    let block = lines_before lines in
    let late = due.2 in
    let low : ready ≤ turn = omega (arith, order, late) in
    let tell = tell-one m sections past secs clocks short cuts homes ready i turn s s.kind lines rest valid one are at low follow' cut in
    let end = section_end m clocks s.moves turn in
    let after = end_after m clocks s.moves turn in
    let far = ready-low (cuts i) turn end after in
    let long = length-append past (s ∷ []) in
    let Due : List ReportLine → Type 0 = λ hs. AreDue m clocks cuts (ready_behind (cuts i) turn end) (i + 1) secs hs in
    let later = tell-all m sections clocks short cuts homes ready valid one secs (past ++ s ∷ []) (i + 1) (ready_behind (cuts i) turn end) rest (are ∙ sym (append_assoc past (s ∷ []) secs)) (omega (arith, at, long)) (omega (arith, low, far)) cut.begins cut.behind (subst Due cut.shown due.3)
    (follow-later m sections clocks short cuts homes ready i turn s.kind lines rest follow' cut) in
    let By_cut : Bool → Type 0 = λ b. TellAllWithin m (all_retold ready short) (i + 1) (ready_behind b turn (section_end m (all_retold ready short) s.moves turn)) secs rest in
    (turn, block, rest, is ∙ ap (λ (x : List ReportLine). report.Section i turn s.kind ∷ x) cut.are, late, tell.tells, subst By_cut (sym tell.cut_is) (subst (λ (n : ℕ). TellAllWithin m (all_retold ready short) (i + 1) n secs rest) (sym tell.next) later))
tell-all m sections clocks short cuts homes ready valid one secs past i soon (report.Pulse board stepper tick up ∷ lines) are at order begins behind due follow = absurd begins
tell-all m sections clocks short cuts homes ready valid one secs past i soon (report.Machine corexy boards steppers ∷ lines) are at order begins behind due follow = absurd begins
tell-all m sections clocks short cuts homes ready valid one secs past i soon (report.Board board freq turn tick ∷ lines) are at order begins behind due follow = absurd begins
tell-all m sections clocks short cuts homes ready valid one secs past i soon (report.Cut x board pin tick from ∷ lines) are at order begins behind due follow = absurd begins
tell-all m sections clocks short cuts homes ready valid one secs past i soon (report.Drift board sent clock from ∷ lines) are at order begins behind due follow = absurd begins
tell-all m sections clocks short cuts homes ready valid one secs past i soon (report.Lines accepted passed ∷ lines) are at order begins behind due follow = absurd begins
tell-all m sections clocks short cuts homes ready valid one secs past i soon (report.Out board pin tick on ∷ lines) are at order begins behind due follow = absurd begins
tell-all m sections clocks short cuts homes ready valid one secs past i soon (report.Made seed moves ∷ lines) are at order begins behind due follow = absurd begins
tell-all m sections clocks short cuts homes ready valid one secs past i soon (report.Count stepper pulses ∷ lines) are at order begins behind due follow = absurd begins
tell-all m sections clocks short cuts homes ready valid one secs past i soon (report.Fit section stepper pulses planned early late ∷ lines) are at order begins behind due follow = absurd begins
tell-all m sections clocks short cuts homes ready valid one secs past i soon (report.End c ∷ lines) are at order begins behind due follow = absurd begins

-- the lines before the first section show nothing of sections
pub head-shown : (b : ℕ) (head body : List ReportLine) → AreHeads b head → sections_shown (head ++ body) ≡ sections_shown body
head-shown b [] body heads = refl
head-shown b (report.Board board freq turn tick ∷ head) body heads = head-shown (b + 1) head body heads.1
head-shown b (report.Machine corexy boards steppers ∷ head) body heads = head-shown b head body heads
head-shown b (report.Drift board sent clock from ∷ head) body heads = head-shown b head body heads
head-shown b (report.Lines accepted passed ∷ head) body heads = head-shown b head body heads
head-shown b (report.Section i turn kind ∷ head) body heads = absurd heads
head-shown b (report.Pulse board stepper tick up ∷ head) body heads = absurd heads
head-shown b (report.Cut i board pin tick from ∷ head) body heads = absurd heads
head-shown b (report.Out board pin tick on ∷ head) body heads = absurd heads
head-shown b (report.Made seed moves ∷ head) body heads = absurd heads
head-shown b (report.Count stepper pulses ∷ head) body heads = absurd heads
head-shown b (report.Fit section stepper pulses planned early late ∷ head) body heads = absurd heads
head-shown b (report.End c ∷ head) body heads = absurd heads

pub head-turn : (b i : ℕ) (head body : List ReportLine) → AreHeads b head → section_turn i (head ++ body) ≡ section_turn i body
head-turn b i [] body heads = refl
head-turn b i (report.Board board freq turn tick ∷ head) body heads = head-turn (b + 1) i head body heads.1
head-turn b i (report.Machine corexy boards steppers ∷ head) body heads = head-turn b i head body heads
head-turn b i (report.Drift board sent clock from ∷ head) body heads = head-turn b i head body heads
head-turn b i (report.Lines accepted passed ∷ head) body heads = head-turn b i head body heads
head-turn b i (report.Section j turn kind ∷ head) body heads = absurd heads
head-turn b i (report.Pulse board stepper tick up ∷ head) body heads = absurd heads
head-turn b i (report.Cut j board pin tick from ∷ head) body heads = absurd heads
head-turn b i (report.Out board pin tick on ∷ head) body heads = absurd heads
head-turn b i (report.Made seed moves ∷ head) body heads = absurd heads
head-turn b i (report.Count stepper pulses ∷ head) body heads = absurd heads
head-turn b i (report.Fit section stepper pulses planned early late ∷ head) body heads = absurd heads
head-turn b i (report.End c ∷ head) body heads = absurd heads

pub head-pulses : (b i s : ℕ) (head body : List ReportLine) → AreHeads b head → pulses_in i s (head ++ body) ≡ pulses_in i s body
head-pulses b i s [] body heads = refl
head-pulses b i s (report.Board board freq turn tick ∷ head) body heads = head-pulses (b + 1) i s head body heads.1
head-pulses b i s (report.Machine corexy boards steppers ∷ head) body heads = head-pulses b i s head body heads
head-pulses b i s (report.Drift board sent clock from ∷ head) body heads = head-pulses b i s head body heads
head-pulses b i s (report.Lines accepted passed ∷ head) body heads = head-pulses b i s head body heads
head-pulses b i s (report.Section j turn kind ∷ head) body heads = absurd heads
head-pulses b i s (report.Pulse board stepper tick up ∷ head) body heads = absurd heads
head-pulses b i s (report.Cut j board pin tick from ∷ head) body heads = absurd heads
head-pulses b i s (report.Out board pin tick on ∷ head) body heads = absurd heads
head-pulses b i s (report.Made seed moves ∷ head) body heads = absurd heads
head-pulses b i s (report.Count stepper pulses ∷ head) body heads = absurd heads
head-pulses b i s (report.Fit section stepper pulses planned early late ∷ head) body heads = absurd heads
head-pulses b i s (report.End c ∷ head) body heads = absurd heads

pub head-behind : (b i : ℕ) (head body : List ReportLine) → AreHeads b head → lines_behind i (head ++ body) ≡ lines_behind i body
head-behind b i [] body heads = refl
head-behind b i (report.Board board freq turn tick ∷ head) body heads = head-behind (b + 1) i head body heads.1
head-behind b i (report.Machine corexy boards steppers ∷ head) body heads = head-behind b i head body heads
head-behind b i (report.Drift board sent clock from ∷ head) body heads = head-behind b i head body heads
head-behind b i (report.Lines accepted passed ∷ head) body heads = head-behind b i head body heads
head-behind b i (report.Section j turn kind ∷ head) body heads = absurd heads
head-behind b i (report.Pulse board stepper tick up ∷ head) body heads = absurd heads
head-behind b i (report.Cut j board pin tick from ∷ head) body heads = absurd heads
head-behind b i (report.Out board pin tick on ∷ head) body heads = absurd heads
head-behind b i (report.Made seed moves ∷ head) body heads = absurd heads
head-behind b i (report.Count stepper pulses ∷ head) body heads = absurd heads
head-behind b i (report.Fit section stepper pulses planned early late ∷ head) body heads = absurd heads
head-behind b i (report.End c ∷ head) body heads = absurd heads

-- Lines that follow the plan, whose sections are due, and of which some are cut, go through them.
pub go-within : (homes : Bool) (m : Machine) (sections : List Section) (clocks : List Clocks) (cuts : ℕ → Bool) (ready : ℕ) (said : List ReportLine) → IsValidMachine m → FollowsPlanBy clocks m sections said
    → ((j turn s : ℕ) → section_turn j said ≡ Some turn → cuts j ≡ false → s < length m.steppers → length (pulses_in j s said) ≡ length (plan_by clocks m sections j turn s))
    → ((j turn : ℕ) → section_turn j said ≡ Some turn → IsCutOrNot sections (cuts j) j said) → AreDue m clocks cuts ready 0 sections (sections_shown said) → (stands : StandInOrder homes m clocks ready sections said) → GoWithin m sections (all_retold ready stands.told_lines) ready said
go-within homes m sections clocks cuts ready said valid follows complete cut due stands =
    let turns = λ (i : ℕ). ap (section_turn i) stands.are ∙ head-turn 0 i stands.head stands.body stands.heads in
    let pulses_are = λ (i s : ℕ). ap (pulses_in i s) stands.are ∙ head-pulses 0 i s stands.head stands.body stands.heads in
    let cuts_are = λ (i : ℕ). ap (cuts_in i) stands.are ∙ ap (λ (z : List ReportLine). cuts_of (lines_before z)) (head-behind 0 i stands.head stands.body stands.heads) in
    let shows = ap sections_shown stands.are ∙ head-shown 0 stands.head stands.body stands.heads in
    let short = stands.told_lines in
    let one = stands.have in
    let follow : Follow m sections clocks short cuts ready 0 stands.body = record {
      fits = λ j turn s low e inside. subst (λ (ps : List Pulse). Fits (clocks_at clocks (stepper_at m s).board).first.freq (base_tick m clocks turn s) ps (plan_by clocks m sections j turn s)) (pulses_are j s) (follows j turn s (turns j ∙ e) inside);
      whole = λ j turn s low e uncut inside. sym (ap length (pulses_are j s)) ∙ complete j turn s (turns j ∙ e) uncut inside;
      rooms = λ j turn low e. stands.rooms j turn (turns j ∙ e);
      alike = λ j turn low e. alike-same m short clocks sections said stands.body j turn (cuts_are j) (pulses_are j) (stands.alike j turn (turns j ∙ e));
      cuts = λ j turn low e. elim (cut j turn (turns j ∙ e)) [
        | inl c ↦ inl (c.0, sym (cuts_are j) ∙ c.1)
        | inr c ↦ inr (c.0, (c.1.0, c.1.1, c.1.2, c.1.3, sym (cuts_are j) ∙ c.1.4), c.2)
      ];
    } in
    let Due : List ReportLine → Type 0 = λ hs. AreDue m clocks cuts ready 0 sections hs in
    record {
      head = stands.head;
      body = stands.body;
      are = stands.are;
      of_run = stands.of_run;
      may = stands.may;
      heads = stands.heads;
      lines_told = stands.lines_told;
      all = λ some. length-map short (retold ready) ∙ one.boards;
      soonest = stands.soonest;
      told_all = tell-all m sections clocks short cuts homes ready valid one sections [] 0 ready stands.body refl refl (omega arith) stands.begins stands.behind (subst Due shows due) follow;
    }

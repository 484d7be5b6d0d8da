-- The lines of a run over links stand as a log wants them.
use Rattle.std.proofs.Common.{◌≡◌, ◌∙◌, ℕ, ◌+◌, ◌-◌, ◌*◌, ◌^◌, ◌<◌, Bool, true, false, List, [], ◌∷◌, ◌++◌, length, ap, sym, refl, subst, arith, inl, inr, Option, Some, append_assoc, length-append, rules}
use Rattle.std.specs.Prelude.{min, if◌then◌else◌}
use Rattle.laws_board.proofs.Names.{eqb_tells, Machine, Pulse, Section, SectionKind, tick, turn_ns, Clocks, IsValidMachine, board_at, ReportLine}
use Rattle.report_text.specs.declared.line.ReportLine.TheVariants as report
use Rattle.board_asking.specs.Connecting.{turn_tick}
use Rattle.laws_report.specs.reports.Logged.{AreOfRun, IsKind}
use Rattle.laws_report.specs.reports.Through.{AreHeads}
use Rattle.laws_report.proofs.reports.Shortening.{AreShownShort}
use Rattle.laws_board.specs.plans.Lines.{heads_of, pulses_of}
use Rattle.laws_run.specs.run_ends.Boards.{boards_of, lines_at}
use Rattle.laws_run.specs.run_headline.Told.{AreTold}
use Rattle.laws_run.specs.run_headline.Timely.{AreSound}
use Rattle.laws_run.specs.run_lines.Due.{BoardsHave, StandApart}
use Rattle.laws_run.specs.home_headline.Cuts.{cuts_of}
use Rattle.laws_report.specs.reports.Cuts.{lines_before}
use Rattle.laws_report.specs.reports.Shown.{begins, lines_behind, section_turn, sections_shown}
use Rattle.laws_report.specs.reports.Stands.{AreOfSections, IsPlannedAlike, StandInOrder}
use Rattle.laws_report.proofs.reports.Limits.{AreSmall, KeepLimits}
use Rattle.laws_report.proofs.reports.Shorts.{here_at}
use Rattle.laws_run.proofs.home_headline.Cuts.{uncut as uncut_told}

-- parts of lines
pub told_parts : (homes : Bool) (m : Machine) (xs ys : List ReportLine) → AreTold homes m (xs ++ ys) → AreTold homes m xs × AreTold homes m ys
told_parts homes m [] ys h = (tt, h)
told_parts homes m (x ∷ xs) ys h = let r = told_parts homes m xs ys h.1 in ((h.0, r.0), r.1)

-- a pulse is one of its stepper
pub some_pulse : (board stepper tick : ℕ) (up : Bool) (lines : List ReportLine) → pulses_of stepper (report.Pulse board stepper tick up ∷ lines) ≡ [] → ⊥
some_pulse board stepper tick up lines e = search (rules, tick, eqb_tells)

pub told_behind : (homes : Bool) (m : Machine) (i : ℕ) (lines : List ReportLine) → AreTold homes m lines → AreTold homes m (lines_behind i lines)
told_behind homes m i [] told = tt
told_behind homes m i (l ∷ lines) told = by (begins i l) (told_behind homes m i lines told.1)
  where
    by : (b : Bool) → AreTold homes m (lines_behind i lines) → AreTold homes m (if b then lines else lines_behind i lines)
    by true h = told.1
    by false h = h

-- the lines before the first section
pub are_heads : (homes : Bool) (m : Machine) (ready b : ℕ) (cs : List Clocks) (lines : List ReportLine) → AreTold homes m lines → cuts_of lines ≡ [] → heads_of lines ≡ [] → ((place : ℕ) → place < length m.steppers → pulses_of place lines ≡ []) → boards_of lines ≡ lines_at ready b cs → AreHeads b lines
are_heads homes m ready b cs [] told uncut none still boards = tt
are_heads homes m ready b cs (report.Machine corexy many others ∷ lines) told uncut none still boards = are_heads homes m ready b cs lines told.1 uncut none still boards
are_heads homes m ready b [] (report.Board board freq turn tick ∷ lines) told uncut none still boards = absurd (let e : report.Board board freq turn tick ∷ boards_of lines ≡ [] = boards in cc)
are_heads homes m ready b (c ∷ cs) (report.Board board freq turn tick ∷ lines) told uncut none still boards =
    let e : report.Board board freq turn tick ∷ boards_of lines ≡ report.Board b c.first.freq ready (turn_tick c.first ready) ∷ lines_at ready (b + 1) cs = boards in
    let same : board ≡ b = cc in
    let rest : boards_of lines ≡ lines_at ready (b + 1) cs = cc in
    (same, are_heads homes m ready (b + 1) cs lines told.1 uncut none still rest)
are_heads homes m ready b cs (report.Section i turn kind ∷ lines) told uncut none still boards = absurd (let e : report.Section i turn kind ∷ heads_of lines ≡ [] = none in cc)
are_heads homes m ready b cs (report.Pulse board stepper tick up ∷ lines) told uncut none still boards = absurd (some_pulse board stepper tick up lines (still stepper told.0.0))
are_heads homes m ready b cs (report.Cut i board pin tick from ∷ lines) told uncut none still boards = absurd (let e : report.Cut i board pin tick from ∷ cuts_of lines ≡ [] = uncut in cc)
are_heads homes m ready b cs (report.Drift board sent clock from ∷ lines) told uncut none still boards = are_heads homes m ready b cs lines told.1 uncut none still boards
are_heads homes m ready b cs (report.Lines accepted passed ∷ lines) told uncut none still boards = are_heads homes m ready b cs lines told.1 uncut none still boards
are_heads homes m ready b cs (report.Out board pin tick on ∷ lines) told uncut none still boards = absurd told.0
are_heads homes m ready b cs (report.Made seed many ∷ lines) told uncut none still boards = absurd told.0
are_heads homes m ready b cs (report.Count stepper pulses ∷ lines) told uncut none still boards = absurd told.0
are_heads homes m ready b cs (report.Fit section stepper pulses planned early late ∷ lines) told uncut none still boards = absurd told.0
are_heads homes m ready b cs (report.End c ∷ lines) told uncut none still boards = absurd told.0

-- and those from it on
pub are_behind : (homes : Bool) (m : Machine) (lines : List ReportLine) → AreTold homes m lines → boards_of lines ≡ [] → AreOfSections homes lines
are_behind homes m [] told none = tt
are_behind homes m (report.Machine corexy many others ∷ lines) told none = are_behind homes m lines told.1 none
are_behind homes m (report.Board board freq turn tick ∷ lines) told none = absurd (let e : report.Board board freq turn tick ∷ boards_of lines ≡ [] = none in cc)
are_behind homes m (report.Section i turn kind ∷ lines) told none = are_behind homes m lines told.1 none
are_behind homes m (report.Pulse board stepper tick up ∷ lines) told none = are_behind homes m lines told.1 none
are_behind homes m (report.Cut i board pin tick from ∷ lines) told none = (told.0, are_behind homes m lines told.1 none)
are_behind homes m (report.Drift board sent clock from ∷ lines) told none = are_behind homes m lines told.1 none
are_behind homes m (report.Lines accepted passed ∷ lines) told none = are_behind homes m lines told.1 none
are_behind homes m (report.Out board pin tick on ∷ lines) told none = absurd told.0
are_behind homes m (report.Made seed many ∷ lines) told none = absurd told.0
are_behind homes m (report.Count stepper pulses ∷ lines) told none = absurd told.0
are_behind homes m (report.Fit section stepper pulses planned early late ∷ lines) told none = absurd told.0
are_behind homes m (report.End c ∷ lines) told none = absurd told.0

-- the sections do what a log may tell: they are of moves, or home one of three axes
abbrev pub AreAllKinds : List ReportLine → Type 0
AreAllKinds [] = Unit {0}
AreAllKinds (report.Section i turn kind ∷ lines) = IsKind kind × AreAllKinds lines
AreAllKinds (_ ∷ lines) = AreAllKinds lines

pub shown_kinds : (lines : List ReportLine) → AreAllKinds (sections_shown lines) → AreAllKinds lines
shown_kinds [] h = tt
shown_kinds (report.Machine corexy many others ∷ lines) h = shown_kinds lines h
shown_kinds (report.Board board freq turn tick ∷ lines) h = shown_kinds lines h
shown_kinds (report.Section i turn kind ∷ lines) h = (h.0, shown_kinds lines h.1)
shown_kinds (report.Pulse board stepper tick up ∷ lines) h = shown_kinds lines h
shown_kinds (report.Cut i board pin tick from ∷ lines) h = shown_kinds lines h
shown_kinds (report.Drift board sent clock from ∷ lines) h = shown_kinds lines h
shown_kinds (report.Lines accepted passed ∷ lines) h = shown_kinds lines h
shown_kinds (report.Out board pin tick on ∷ lines) h = shown_kinds lines h
shown_kinds (report.Made seed many ∷ lines) h = shown_kinds lines h
shown_kinds (report.Count stepper pulses ∷ lines) h = shown_kinds lines h
shown_kinds (report.Fit section stepper pulses planned early late ∷ lines) h = shown_kinds lines h
shown_kinds (report.End c ∷ lines) h = shown_kinds lines h

pub capped : (n : ℕ) → min n (2 ^ 64 - 1) < 2 ^ 64
capped n = omega arith

-- each line is one of a run
pub of_run : (homes : Bool) (m : Machine) (all : List Clocks) (ready : ℕ) (past cs : List Clocks) (b : ℕ) (lines : List ReportLine) → AreSound m all ready → all ≡ past ++ cs → b ≡ length past → AreTold homes m lines → AreSmall m lines → AreAllKinds lines → boards_of lines ≡ lines_at ready b cs
    → AreOfRun m lines
of_run homes m all ready past cs b [] sound are at told small moves boards = tt
of_run homes m all ready past cs b (report.Machine corexy many others ∷ lines) sound are at told small moves boards = (told.0, of_run homes m all ready past cs b lines sound are at told.1 small.1 moves boards)
of_run homes m all ready past [] b (report.Board board freq turn tick ∷ lines) sound are at told small moves boards = absurd (let e : report.Board board freq turn tick ∷ boards_of lines ≡ [] = boards in cc)
of_run homes m all ready past (c ∷ cs) b (report.Board board freq turn tick ∷ lines) sound are at told small moves boards =
    let e : report.Board board freq turn tick ∷ boards_of lines ≡ report.Board b c.first.freq ready (turn_tick c.first ready) ∷ lines_at ready (b + 1) cs = boards in
    let same : board ≡ b = cc in
    let own : freq ≡ c.first.freq = cc in
    let when : turn ≡ ready = cc in
    let ticks : tick ≡ turn_tick c.first ready = cc in
    let rest : boards_of lines ≡ lines_at ready (b + 1) cs = cc in
    let here = here_at m past cs all c b ready sound.clocks_are are at in
    let inside = here.inside in
    let early = sound.small in
    let size = length-append past (c ∷ []) in
    let freq_is : freq ≡ (board_at m board).freq = own ∙ here.freq ∙ ap (λ (n : ℕ). (board_at m n).freq) (sym same) in
    ((omega (arith, same, inside), freq_is, omega (arith, when, early), subst (λ (n : ℕ). n < 2 ^ 64) (sym ticks) (capped (Rattle.plan_types.specs.Clock.tick c.first (ready * turn_ns)))), of_run homes m all ready (past ++ c ∷ []) cs (b + 1) lines sound (are ∙ sym (append_assoc past (c ∷ []) cs)) (omega (arith, at, size)) told.1 small.1 moves rest)
of_run homes m all ready past cs b (report.Section i turn kind ∷ lines) sound are at told small moves boards = ((small.0.0, small.0.1, moves.0), of_run homes m all ready past cs b lines sound are at told.1 small.1 moves.1 boards)
of_run homes m all ready past cs b (report.Pulse board stepper tick up ∷ lines) sound are at told small moves boards = ((told.0.0, told.0.1, small.0), of_run homes m all ready past cs b lines sound are at told.1 small.1 moves boards)
of_run homes m all ready past cs b (report.Cut i board pin tick from ∷ lines) sound are at told small moves boards = (small.0, of_run homes m all ready past cs b lines sound are at told.1 small.1 moves boards)
of_run homes m all ready past cs b (report.Drift board sent clock from ∷ lines) sound are at told small moves boards = (small.0, of_run homes m all ready past cs b lines sound are at told.1 small.1 moves boards)
of_run homes m all ready past cs b (report.Lines accepted passed ∷ lines) sound are at told small moves boards = (small.0, of_run homes m all ready past cs b lines sound are at told.1 small.1 moves boards)
of_run homes m all ready past cs b (report.Out board pin tick on ∷ lines) sound are at told small moves boards = absurd told.0
of_run homes m all ready past cs b (report.Made seed many ∷ lines) sound are at told small moves boards = absurd told.0
of_run homes m all ready past cs b (report.Count stepper pulses ∷ lines) sound are at told small moves boards = absurd told.0
of_run homes m all ready past cs b (report.Fit section stepper pulses planned early late ∷ lines) sound are at told small moves boards = absurd told.0
of_run homes m all ready past cs b (report.End c ∷ lines) sound are at told small moves boards = absurd told.0

-- these are the lines up to the first section line
head_before : (head : List ReportLine) (turn : ℕ) (kind : SectionKind) (body : List ReportLine) → heads_of head ≡ [] → lines_before (head ++ report.Section 0 turn kind ∷ body) ≡ head
head_before [] at sort body none = refl
head_before (report.Section i turn kind ∷ head) at sort body none = absurd (let e : report.Section i turn kind ∷ heads_of head ≡ [] = none in cc)
head_before (x ∷ head) at sort body none = ap (λ z. x ∷ z) (head_before head at sort body none)

-- the lines before the first section are those of the boards, and notes
pub apart_heads : (homes : Bool) (m : Machine) (all : List Clocks) (ready : ℕ) (said : List ReportLine) (apart : StandApart m all ready said) → cuts_of (lines_before said) ≡ [] → AreTold homes m said → AreHeads 0 apart.head
apart_heads homes m all ready said apart uncut told =
    let from = report.Section 0 apart.turn apart.kind ∷ apart.body in
    let parts = told_parts homes m apart.head from (subst (AreTold homes m) apart.are told) in
    let none = sym (ap cuts_of (head_before apart.head apart.turn apart.kind apart.body apart.none)) ∙ ap (λ (z : List ReportLine). cuts_of (lines_before z)) (sym apart.are) ∙ uncut in
    are_heads homes m ready 0 all apart.head parts.0 none apart.none apart.still apart.told

-- so all lines stand in order
pub stands : (homes : Bool) (m : Machine) (all : List Clocks) (ready last : ℕ) (sections : List Section) (said : List ReportLine) → IsValidMachine m → AreAllKinds said → (apart : StandApart m all ready said) → AreHeads 0 apart.head → AreSound m all ready → BoardsHave all ready said
    → AreTold homes m said → (shorts : AreShownShort m all ready last apart.head said) → KeepLimits m shorts.short ready sections said → ((i turn : ℕ) → section_turn i said ≡ Some turn → IsPlannedAlike m shorts.short all sections said i turn) → StandInOrder homes m all ready sections said
stands homes m all ready last sections said valid kinds apart heads sound boards told shorts limits alike =
    let from = report.Section 0 apart.turn apart.kind ∷ apart.body in
    let parts = told_parts homes m apart.head from (subst (AreTold homes m) apart.are told) in
    record {
      head = apart.head;
      body = from;
      are = apart.are;
      of_run = of_run homes m all ready [] all 0 said sound refl refl told limits.small kinds boards;
      may = shorts.may;
      heads = heads;
      begins = tt;
      behind = are_behind homes m apart.body parts.1.1 apart.rest;
      told_lines = shorts.short;
      lines_told = shorts.lines_told;
      have = shorts.have;
      alike = alike;
      soonest = sound.late;
      rooms = limits.rooms;
      machine = valid;
    }

-- the first section of a run that went through is shown
pub first_shown : (i turn : ℕ) (kind : SectionKind) (rest : List ReportLine) (lines : List ReportLine) → sections_shown lines ≡ report.Section i turn kind ∷ rest → section_turn i lines ≡ Some turn
first_shown i at sort rest [] e = absurd (let f : [] ≡ report.Section i at sort ∷ rest = e in cc)
first_shown i at sort rest (report.Section number turn kind ∷ lines) e =
    let f : report.Section number turn kind ∷ sections_shown lines ≡ report.Section i at sort ∷ rest = e in
    let same : number ≡ i = cc in
    let when : turn ≡ at = cc in
    let At : Bool → Option ℕ = λ b. if b then Some turn else section_turn i lines in
    elim (eqb_tells number i) [ inl p ↦ ap At p.0 ∙ ap Some when | inr p ↦ absurd (p.1 same) ]
first_shown i at sort rest (report.Machine corexy many others ∷ lines) e = first_shown i at sort rest lines e
first_shown i at sort rest (report.Board board freq turn tick ∷ lines) e = first_shown i at sort rest lines e
first_shown i at sort rest (report.Pulse board stepper tick up ∷ lines) e = first_shown i at sort rest lines e
first_shown i at sort rest (report.Cut number board pin tick from ∷ lines) e = first_shown i at sort rest lines e
first_shown i at sort rest (report.Drift board sent clock from ∷ lines) e = first_shown i at sort rest lines e
first_shown i at sort rest (report.Lines accepted passed ∷ lines) e = first_shown i at sort rest lines e
first_shown i at sort rest (report.Out board pin tick on ∷ lines) e = first_shown i at sort rest lines e
first_shown i at sort rest (report.Made seed many ∷ lines) e = first_shown i at sort rest lines e
first_shown i at sort rest (report.Count stepper pulses ∷ lines) e = first_shown i at sort rest lines e
first_shown i at sort rest (report.Fit section stepper pulses planned early late ∷ lines) e = first_shown i at sort rest lines e
first_shown i at sort rest (report.End c ∷ lines) e = first_shown i at sort rest lines e

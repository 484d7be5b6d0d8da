-- A report that goes through the sections of a text, of moves or homing: behind the line of one that homes
-- stands the cut line that tells of its switch.
use Rattle.std.specs.Prelude.{◌≡◌, ℕ, ◌+◌, ◌<◌, ◌≤◌, Bool, true, false, List, [], ◌∷◌, ◌++◌, length, map, if◌then◌else◌}
use Rattle.plan_types.specs.declared.machine.Machine.{Machine}
use Rattle.plan_types.specs.declared.plan.Section.{Section}
use Rattle.plan_types.specs.declared.plan.SectionKind.TheVariants.{Home}
use Rattle.plan_types.specs.Lines.{Clocks}
use Rattle.plan_types.specs.Machines.{stepper_at}
use Rattle.plan_types.specs.Plan.{Fits}
use Rattle.plan_types.specs.Sections.{base_tick, clocks_at, section_end, stepper_plan, first_turn}
use Rattle.report_text.specs.declared.line.ReportLine.{ReportLine}
use Rattle.report_text.specs.declared.line.ReportLine.TheVariants as report
use Rattle.log_check.specs.Behind.{clocks}
use Rattle.log_check.specs.Faults.{have_room}
use Rattle.laws_report.specs.logs.Follows.{in_order}
use Rattle.laws_report.specs.reports.Further.{AllMayStand, further_told}
use Rattle.laws_report.specs.reports.Logged.{AreOfRun, logged}
use Rattle.laws_report.specs.reports.Through.{AreHeads, AreNotes, told_pulses}

-- lines behind that of the section of a number: pulses, notes, and cut lines of this section
abbrev pub AreInSection : ℕ → List ReportLine → Type 0
AreInSection i [] = Unit {0}
AreInSection i (report.Pulse board stepper tick up ∷ lines) = AreInSection i lines
AreInSection i (report.Cut j board pin tick from ∷ lines) = (j ≡ i) × AreInSection i lines
AreInSection i (report.Machine corexy boards steppers ∷ lines) = AreInSection i lines
AreInSection i (report.Drift board sent clock from ∷ lines) = AreInSection i lines
AreInSection i (report.Lines accepted passed ∷ lines) = AreInSection i lines
AreInSection i (_ ∷ lines) = ⊥

-- one of some lines is a cut line
abbrev pub has_cut : List ReportLine → Bool
has_cut [] = false
has_cut (report.Cut i board pin tick from ∷ lines) = true
has_cut (_ ∷ lines) = has_cut lines

-- The lines behind that of a section of a number which starts in a turn: the pulses of each stepper fit its
-- plan, and are as many as planned where no cut line is told; a section of which one is told homes. The
-- boards' clock lines have ticks for the section.
pub record TellsWithin (m : Machine) (lines : List Clocks) (s : Section) (i turn : ℕ) (behind : List ReportLine)
    : Type 0 where
  pub are : AreInSection i behind
  pub homes : has_cut behind ≡ true → (axis : ℕ) × (s.kind ≡ Home axis)
  pub fits : (q : ℕ) → q < length m.steppers →
      Fits (clocks_at lines (stepper_at m q).board).first.freq (base_tick m lines turn q) (told_pulses q behind)
      (stepper_plan m lines s.moves turn q)
  pub whole : has_cut behind ≡ false → (q : ℕ) → q < length m.steppers →
      length (told_pulses q behind) ≡ length (stepper_plan m lines s.moves turn q)
  pub room : have_room lines (length s.moves) turn ≡ true

-- the turn from which on the next section may start, behind one that started and whose plan ends in these
-- turns, and that was cut or not
abbrev pub ready_behind : Bool → ℕ → ℕ → ℕ
ready_behind cut start end = if cut then start + 260 else end + 260

-- Some sections, the first of which has a number and may start in a turn or later: each has its line in the
-- turn in which it starts, and the lines behind it tell it; and behind the last one notes alone.
abbrev pub TellAllWithin : Machine → List Clocks → ℕ → ℕ → List Section → List ReportLine → Type 0
TellAllWithin m lines i ready [] told_lines = AreNotes told_lines
TellAllWithin m lines i ready (s ∷ sections) told_lines =
    (turn : ℕ) × (behind rest : List ReportLine) × (told_lines ≡ report.Section i turn s.kind ∷ (behind ++ rest))
    × (ready + s.dwell ≤ turn) × TellsWithin m lines s i turn behind
    × TellAllWithin m lines (i + 1) (ready_behind (has_cut behind) turn (section_end m lines s.moves turn)) sections
    rest

-- The lines of a report but the end line go through the sections of a text, by the clock lines that the
-- boards' lines tell and all its further ones, each of which may follow the lines before it; the first one
-- may start in a turn or later.
pub record GoWithin (m : Machine) (sections : List Section) (lines : List Clocks) (ready : ℕ) (said : List ReportLine)
    : Type 0 where
  pub head : List ReportLine
  pub body : List ReportLine
  pub are : said ≡ head ++ body
  pub of_run : AreOfRun m said
  pub may : AllMayStand m [] (map logged said)
  pub heads : AreHeads 0 head
  pub lines_told : clocks m (further_told (map logged said)) (in_order (map logged head)) ≡ lines
  pub all : 0 < length sections → length lines ≡ length m.boards
  pub soonest : first_turn ≤ ready
  pub told_all : TellAllWithin m lines 0 ready sections body

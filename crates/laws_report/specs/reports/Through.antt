-- A report that goes through the sections of a text: first the lines of the boards, then each section's line
-- with its pulses.
use Rattle.std.specs.Prelude.{◌≡◌, ℕ, ◌+◌, ◌<◌, ◌≤◌, true, List, [], ◌∷◌, ◌++◌, length, map}
use Rattle.plan_types.specs.declared.machine.Machine.{Machine}
use Rattle.plan_types.specs.declared.plan.Move.{Move}
use Rattle.plan_types.specs.declared.plan.Pulse.{Pulse}
use Rattle.plan_types.specs.declared.plan.Section.{Section}
use Rattle.plan_types.specs.Lines.{Clocks}
use Rattle.plan_types.specs.Machines.{stepper_at}
use Rattle.plan_types.specs.Plan.{Fits}
use Rattle.plan_types.specs.Sections.{base_tick, clocks_at, section_end, stepper_plan, first_turn}
use Rattle.report_text.specs.declared.line.ReportLine.{ReportLine}
use Rattle.report_text.specs.declared.line.ReportLine.TheVariants as report
use Rattle.log_check.specs.Behind.{clocks, pulses}
use Rattle.log_check.specs.Faults.{have_room}
use Rattle.laws_report.specs.logs.Follows.{in_order}
use Rattle.laws_report.specs.reports.Further.{AllMayStand, further_told}
use Rattle.laws_report.specs.reports.Logged.{AreOfRun, logged}

-- lines that say nothing of boards, sections and pulses
abbrev pub AreNotes : List ReportLine → Type 0
AreNotes [] = Unit {0}
AreNotes (report.Machine corexy boards steppers ∷ lines) = AreNotes lines
AreNotes (report.Drift board sent clock from ∷ lines) = AreNotes lines
AreNotes (report.Lines accepted passed ∷ lines) = AreNotes lines
AreNotes (_ ∷ lines) = ⊥

-- lines before the first section: those of the boards from a number on, in order, and notes
abbrev pub AreHeads : ℕ → List ReportLine → Type 0
AreHeads b [] = Unit {0}
AreHeads b (report.Board board freq turn tick ∷ lines) = (board ≡ b) × AreHeads (b + 1) lines
AreHeads b (report.Machine corexy boards steppers ∷ lines) = AreHeads b lines
AreHeads b (report.Drift board sent clock from ∷ lines) = AreHeads b lines
AreHeads b (report.Lines accepted passed ∷ lines) = AreHeads b lines
AreHeads b (_ ∷ lines) = ⊥

-- lines behind that of a section: pulses and notes
abbrev pub ArePulses : List ReportLine → Type 0
ArePulses [] = Unit {0}
ArePulses (report.Pulse board stepper tick up ∷ lines) = ArePulses lines
ArePulses (report.Machine corexy boards steppers ∷ lines) = ArePulses lines
ArePulses (report.Drift board sent clock from ∷ lines) = ArePulses lines
ArePulses (report.Lines accepted passed ∷ lines) = ArePulses lines
ArePulses (_ ∷ lines) = ⊥

-- the pulses of a stepper that such lines tell
abbrev pub told_pulses : ℕ → List ReportLine → List Pulse
told_pulses s lines = in_order (pulses s (in_order (map logged lines)))

-- The lines behind that of a section of moves which starts in a turn: the pulses of each stepper fit its
-- plan, and are as many as planned. The boards' clock lines have ticks for the section.
pub record TellsSection (m : Machine) (lines : List Clocks) (moves : List Move) (turn : ℕ) (behind : List ReportLine)
    : Type 0 where
  pub are : ArePulses behind
  pub fits : (s : ℕ) → s < length m.steppers →
      Fits (clocks_at lines (stepper_at m s).board).first.freq (base_tick m lines turn s) (told_pulses s behind)
      (stepper_plan m lines moves turn s)
  pub whole : (s : ℕ) → s < length m.steppers →
      length (told_pulses s behind) ≡ length (stepper_plan m lines moves turn s)
  pub room : have_room lines (length moves) turn ≡ true

-- Some sections, the first of which has a number and may start in a turn: each has its line in the turn in
-- which it starts, and the lines behind it tell it; and behind the last one notes alone.
abbrev pub TellSections : Machine → List Clocks → ℕ → ℕ → List Section → List ReportLine → Type 0
TellSections m lines i ready [] told_lines = AreNotes told_lines
TellSections m lines i ready (s ∷ sections) told_lines =
    (behind rest : List ReportLine) × (told_lines ≡ report.Section i (ready + s.dwell) s.kind ∷ (behind ++ rest))
    × TellsSection m lines s.moves (ready + s.dwell) behind
    × TellSections m lines (i + 1) (section_end m lines s.moves (ready + s.dwell) + 260) sections rest

-- The lines of a report but the end line go through the sections of a text, by the clock lines that the
-- boards' lines tell and all its further ones, each of which may follow the lines before it; the first one
-- may start in a turn.
pub record GoThrough (m : Machine) (sections : List Section) (lines : List Clocks) (ready : ℕ)
    (said : List ReportLine) : Type 0 where
  pub head : List ReportLine
  pub body : List ReportLine
  pub are : said ≡ head ++ body
  pub of_run : AreOfRun m said
  pub may : AllMayStand m [] (map logged said)
  pub heads : AreHeads 0 head
  pub lines_told : clocks m (further_told (map logged said)) (in_order (map logged head)) ≡ lines
  pub all : 0 < length sections → length lines ≡ length m.boards
  pub soonest : first_turn ≤ ready
  pub told_all : TellSections m lines 0 ready sections body

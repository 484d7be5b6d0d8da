-- The lines that sections have in a report.
use Rattle.std.specs.Prelude.{◌≡◌, ℕ, ◌+◌, ◌<◌, ◌≤◌, List, [], ◌∷◌, ◌++◌, length}
use Rattle.gcode_program.specs.Programs.{program_sections}
use Rattle.plan_types.specs.declared.cause.Cause.{Cause}
use Rattle.plan_types.specs.declared.machine.Machine.{Machine}
use Rattle.plan_types.specs.declared.plan.Section.{Section}
use Rattle.plan_types.specs.declared.plan.SectionKind.{SectionKind}
use Rattle.plan_types.specs.Lines.{Clocks}
use Rattle.plan_types.specs.Sections.{section_end}
use Rattle.report_text.specs.declared.line.ReportLine.{ReportLine}
use Rattle.report_text.specs.declared.line.ReportLine.TheVariants as report
use Rattle.motion_work.specs.Seen.{Started}
use Rattle.laws_board.specs.plans.Lines.{heads_of, pulses_of}
use Rattle.laws_run.specs.run_ends.Boards.{boards_of, lines_at}
use Rattle.laws_run.specs.run_ends.Ends.{GoesThrough}

-- the lines of sections that were begun, from a number on
abbrev pub begun_lines : ℕ → List Started → List ReportLine
begun_lines i [] = []
begun_lines i (s ∷ ss) = report.Section i s.start s.section.kind ∷ begun_lines (i + 1) ss

-- The lines of sections of moves, from a number on: the first starts in a turn, each later one 260 turns
-- behind the end of the one before, and as many turns later as the dwells before it have milliseconds.
abbrev pub due_lines : Machine → List Clocks → ℕ → ℕ → List Section → List ReportLine
due_lines m clocks ready i [] = []
due_lines m clocks ready i (s ∷ ss) =
    report.Section i (ready + s.dwell) s.kind
    ∷ due_lines m clocks (section_end m clocks s.moves (ready + s.dwell) + 260) (i + 1) ss

-- some lines are the first of others
abbrev pub AreFirst : List ReportLine → List ReportLine → Type 0
AreFirst xs ys = (rest : List ReportLine) × (ys ≡ xs ++ rest)

-- Of the sections of a text, of moves, the first ones have their line in a report, in their order, each in
-- the turn in which it starts, and all of them where the run went through.
pub record HaveTheirLines (m : Machine) (text : List ℕ) (clocks : List Clocks) (ready : ℕ) (c : Cause)
    (lines : List ReportLine) : Type 0 where
  pub front : AreFirst (heads_of lines) (due_lines m clocks ready 0 (program_sections m text))
  pub all : GoesThrough c → heads_of lines ≡ due_lines m clocks ready 0 (program_sections m text)

-- The boards have their lines in a report: each tells the frequency of its clock line, and at which tick the
-- turn begins by it from which on the first section may start.
abbrev pub BoardsHave : List Clocks → ℕ → List ReportLine → Type 0
BoardsHave clocks ready lines = boards_of lines ≡ lines_at ready 0 clocks

-- The lines of a report stand apart: first those that tell the boards' clock lines, as above, and no section
-- and no pulse; then that of the first section, which starts in the turn from which on it may or later; and
-- behind it no board has a line.
pub record StandApart (m : Machine) (clocks : List Clocks) (ready : ℕ) (lines : List ReportLine) : Type 0 where
  pub head : List ReportLine
  pub turn : ℕ
  pub kind : SectionKind
  pub body : List ReportLine
  pub are : lines ≡ head ++ report.Section 0 turn kind ∷ body
  pub late : ready ≤ turn
  pub none : heads_of head ≡ []
  pub still : (place : ℕ) → place < length m.steppers → pulses_of place head ≡ []
  pub told : BoardsHave clocks ready head
  pub rest : boards_of body ≡ []

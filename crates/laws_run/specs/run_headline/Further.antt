-- The further clock lines in a report.
use Rattle.std.specs.Prelude.{◌≡◌, ℕ, ◌<◌, List, [], ◌∷◌, ◌++◌, length}
use Rattle.plan_types.specs.declared.machine.Machine.{Machine}
use Rattle.plan_types.specs.declared.plan.Held.{Held}
use Rattle.plan_types.specs.Lines.{Clocks}
use Rattle.plan_types.specs.Sections.{clocks_at}
use Rattle.section_feed.specs.Fewer.{HoldBehind}
use Rattle.report_text.specs.declared.line.ReportLine.{ReportLine}
use Rattle.report_text.specs.declared.line.ReportLine.TheVariants as report
use Rattle.laws_board.specs.plans.Lines.{drifts_of, held_lines}
use Rattle.laws_run.specs.run_ends.Boards.{boards_of}

-- no line of a board stands behind one that tells a further clock line
abbrev pub BoardsFirst : List ReportLine → Type 0
BoardsFirst [] = Unit {0}
BoardsFirst (report.Drift board sent clock from ∷ lines) = (boards_of lines ≡ []) × BoardsFirst lines
BoardsFirst (other ∷ lines) = BoardsFirst lines

-- each line that tells a further clock line names a board of a machine
abbrev pub AreNamed : Machine → List ReportLine → Type 0
AreNamed m [] = Unit {0}
AreNamed m (report.Drift board sent clock from ∷ lines) = (board < length m.boards) × AreNamed m lines
AreNamed m (other ∷ lines) = AreNamed m lines

-- The further clock lines of a board in a report: its lines tell the first ones of those that hold, in order;
-- the others hold from behind a turn on.
pub record TellsFurther (b : ℕ) (held : List Held) (turn : ℕ) (lines : List ReportLine) : Type 0 where
  pub told : List Held
  pub rest : List Held
  pub are : held ≡ told ++ rest
  pub lines_are : drifts_of b lines ≡ held_lines b told
  pub later : HoldBehind turn rest

-- The lines of a run tell the further clock lines of its boards, as above: none stands before a board's line,
-- and each is of a board that is there.
pub record TellFurther (m : Machine) (clocks : List Clocks) (turn : ℕ) (lines : List ReportLine) : Type 0 where
  pub first : BoardsFirst lines
  pub named : AreNamed m lines
  pub further : (b : ℕ) → b < length m.boards → TellsFurther b (clocks_at clocks b).held turn lines

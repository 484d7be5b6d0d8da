-- The lines of boards in a report, and those of what was read.
use Rattle.std.specs.Prelude.{ℕ, ◌+◌, List, [], ◌∷◌}
use Rattle.std.specs.List.{flat_map}
use Rattle.plan_types.specs.Lines.{Clocks}
use Rattle.report_text.specs.declared.line.ReportLine.{ReportLine}
use Rattle.report_text.specs.declared.line.ReportLine.TheVariants as report
use Rattle.board_asking.specs.Connecting.{turn_tick}

-- a line, where it tells a board
abbrev pub board_in : ReportLine → List ReportLine
board_in (report.Board board freq turn tick) = report.Board board freq turn tick ∷ []
board_in _ = []

-- the lines of some that tell a board
abbrev pub boards_of : List ReportLine → List ReportLine
boards_of lines = flat_map board_in lines

-- The lines of boards, from a number on, with these clock lines: each tells the frequency of its clock line,
-- and at which tick a turn begins by it.
abbrev pub lines_at : ℕ → ℕ → List Clocks → List ReportLine
lines_at turn b [] = []
lines_at turn b (c ∷ clocks) = report.Board b c.first.freq turn (turn_tick c.first turn) ∷ lines_at turn (b + 1) clocks

-- a line, where it tells how many lines were accepted
abbrev pub count_in : ReportLine → List ReportLine
count_in (report.Lines accepted passed) = report.Lines accepted passed ∷ []
count_in _ = []

-- the lines of some that tell it
abbrev pub counts_of : List ReportLine → List ReportLine
counts_of lines = flat_map count_in lines

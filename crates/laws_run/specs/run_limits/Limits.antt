-- The limits that the lines of a run keep.
use Rattle.std.specs.Prelude.{ℕ, ◌+◌, ◌*◌, ◌^◌, ◌<◌, ◌≤◌, List, [], ◌∷◌}
use Rattle.report_text.specs.declared.line.ReportLine.{ReportLine}
use Rattle.report_text.specs.declared.line.ReportLine.TheVariants as report

-- no section starts in a turn from this one on
abbrev pub start_limit : ℕ
start_limit = 2 ^ 42 + 260

-- the greatest tick that a board's line may tell as a turn begins: of a clock of 200 MHz that begins at 2^40,
-- runs fast by 200 millionths, and was asked three turns before its answer
abbrev pub greatest_tick : ℕ → ℕ
greatest_tick turn = 2 ^ 40 + (turn + 3) * 200_040

-- A line keeps the limits of a run: a section starts before the last turn in which one may, and has no
-- greater number than its turn; a board tells a tick that it may have, as does each of its further clock
-- lines; and no more was read than the first 2^30 bytes.
abbrev pub IsLow : ReportLine → Type 0
IsLow (report.Board board freq turn tick) = (turn < start_limit) × (tick ≤ greatest_tick turn)
IsLow (report.Section i turn kind) = (i ≤ turn) × (turn < start_limit)
IsLow (report.Drift board sent clock from) = clock ≤ greatest_tick sent
IsLow (report.Lines accepted passed) = (accepted ≤ 2 ^ 30) × (passed ≤ 2 ^ 30)
IsLow _ = Unit {0}

-- so each of some lines
abbrev pub AreLow : List ReportLine → Type 0
AreLow [] = Unit {0}
AreLow (l ∷ lines) = IsLow l × AreLow lines

-- so those of some lines that tell further clock lines
abbrev pub DriftsLow : List ReportLine → Type 0
DriftsLow [] = Unit {0}
DriftsLow (report.Drift board sent clock from ∷ lines) = (clock ≤ greatest_tick sent) × DriftsLow lines
DriftsLow (_ ∷ lines) = DriftsLow lines

-- When the lines of a run over links keep the limits of a log.
use Rattle.std.proofs.Common.{◌≡◌, ℕ, ◌<◌, true, List, [], ◌∷◌, length, Some}
use Rattle.laws_board.proofs.Names.{Machine, Section, Clocks, board_at, ReportLine}
use Rattle.report_text.specs.declared.line.ReportLine.TheVariants as report
use Rattle.log_check.specs.Faults.{have_room}
use Rattle.plan_types.specs.Clock.{run_turns}
use Rattle.laws_report.specs.reports.Logged.{IsLong}
use Rattle.laws_report.specs.reports.Retold.{all_retold}
use Rattle.laws_report.specs.reports.Headline.{moves_of}
use Rattle.laws_report.specs.reports.Shown.{section_turn}

-- a line has numbers of 64 bits, its turn is one in which a section may start, a cut line is of a board that is there, as is its pin, and
-- so is a further clock line
abbrev pub IsSmall : Machine → ReportLine → Type 0
IsSmall m (report.Section i turn kind) = IsLong i × (turn < run_turns)
IsSmall m (report.Pulse board stepper tick up) = IsLong tick
IsSmall m (report.Cut i board pin tick from) = IsLong i × (board < length m.boards) × (pin < length (board_at m board).pins) × IsLong tick × IsLong from
IsSmall m (report.Drift board sent clock from) = (board < length m.boards) × IsLong sent × IsLong clock × IsLong from
IsSmall m (report.Lines accepted passed) = IsLong accepted × IsLong passed
IsSmall m _ = Unit {0}

-- so each of some lines
abbrev pub AreSmall : Machine → List ReportLine → Type 0
AreSmall m [] = Unit {0}
AreSmall m (l ∷ lines) = IsSmall m l × AreSmall m lines

-- The lines of a report keep the limits of a log: they are small, and the clock lines that they tell have ticks for each section.
pub record KeepLimits (m : Machine) (short : List Clocks) (ready : ℕ) (sections : List Section) (said : List ReportLine) : Type 0 where
  pub small : AreSmall m said
  pub rooms : (i turn : ℕ) → section_turn i said ≡ Some turn → have_room (all_retold ready short) (length (moves_of sections i)) turn ≡ true

-- the numbers of the cut lines among some lines are of 64 bits: their ticks, and the lines of the scene that they tell
abbrev pub HaveLongCuts : List ReportLine → Type 0
HaveLongCuts [] = Unit {0}
HaveLongCuts (report.Cut i board pin tick from ∷ lines) = IsLong tick × IsLong from × HaveLongCuts lines
HaveLongCuts (_ ∷ lines) = HaveLongCuts lines

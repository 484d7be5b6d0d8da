-- How the lines of a report stand in order, as a log wants them.
use Rattle.std.specs.Prelude.{◌≡◌, ◌≢◌, ◌⊎◌, ℕ, ◌<◌, ◌≤◌, Bool, true, List, [], ◌∷◌, ◌++◌, length, map, Some}
use Rattle.plan_types.specs.declared.machine.Machine.{Machine}
use Rattle.plan_types.specs.declared.plan.Section.{Section}
use Rattle.plan_types.specs.Lines.{Clocks}
use Rattle.plan_types.specs.Machines.{IsValidMachine, stepper_at}
use Rattle.plan_types.specs.Plan.{Fits}
use Rattle.plan_types.specs.Sections.{base_tick, clocks_at, first_turn}
use Rattle.report_text.specs.declared.line.ReportLine.{ReportLine}
use Rattle.report_text.specs.declared.line.ReportLine.TheVariants as report
use Rattle.log_check.specs.Behind.{clocks}
use Rattle.log_check.specs.Faults.{have_room}
use Rattle.laws_report.specs.logs.Follows.{in_order}
use Rattle.laws_report.specs.reports.Further.{AllMayStand, further_told}
use Rattle.laws_report.specs.reports.Logged.{AreOfRun, logged}
use Rattle.laws_report.specs.reports.Retold.{HaveLines, PlansAlike, all_retold}
use Rattle.laws_report.specs.reports.Through.{AreHeads}
use Rattle.laws_report.specs.reports.Cuts.{cuts_in}
use Rattle.laws_report.specs.reports.Shown.{pulses_in, section_turn}
use Rattle.laws_report.specs.reports.Headline.{moves_of, plan_by}

-- lines that begin with that of a section, or none
abbrev pub BeginSection : List ReportLine → Type 0
BeginSection [] = Unit {0}
BeginSection (report.Section i turn kind ∷ lines) = Unit {0}
BeginSection (_ ∷ lines) = ⊥

-- lines of sections, of pulses, and notes, and in a run that homes of cuts
abbrev pub AreOfSections : Bool → List ReportLine → Type 0
AreOfSections homes [] = Unit {0}
AreOfSections homes (report.Section i turn kind ∷ lines) = AreOfSections homes lines
AreOfSections homes (report.Pulse board stepper tick up ∷ lines) = AreOfSections homes lines
AreOfSections homes (report.Machine corexy boards steppers ∷ lines) = AreOfSections homes lines
AreOfSections homes (report.Cut i board pin tick from ∷ lines) = (homes ≡ true) × AreOfSections homes lines
AreOfSections homes (report.Drift board sent clock from ∷ lines) = AreOfSections homes lines
AreOfSections homes (report.Lines accepted passed ∷ lines) = AreOfSections homes lines
AreOfSections homes (_ ∷ lines) = ⊥

-- The plan of a section by the clock lines that are told is that by others; or a cut line is told of it, and
-- its pulses fit the first steps of its plan by those that are told.
abbrev pub IsPlannedAlike : Machine → List Clocks → List Clocks → List Section → List ReportLine → ℕ → ℕ → Type 0
IsPlannedAlike m told lines sections said i turn =
    PlansAlike m told lines (moves_of sections i) turn
    ⊎ ((cuts_in i said ≢ [])
    × ((s : ℕ) → s < length m.steppers →
    Fits (clocks_at told (stepper_at m s).board).first.freq (base_tick m told turn s) (pulses_in i s said)
    (plan_by told m sections i turn s)))

-- The lines of a report stand as a log wants them: first those of the boards, in order, which tell the
-- boards' first clock lines at the beginning of the turn from which on the first section may start; then that
-- of the first section, and behind it only lines of sections, of pulses, and notes, and in a run that homes
-- of cuts. Each further clock line may follow the lines before it. The clock lines that are told have ticks
-- for each section, and the plan of each section by them is that by the boards' clock lines, or it is cut,
-- and its pulses fit by them; the machine is valid.
pub record StandInOrder (homes : Bool) (m : Machine) (lines : List Clocks) (ready : ℕ) (sections : List Section)
    (said : List ReportLine) : Type 0 where
  pub head : List ReportLine
  pub body : List ReportLine
  pub are : said ≡ head ++ body
  pub of_run : AreOfRun m said
  pub may : AllMayStand m [] (map logged said)
  pub heads : AreHeads 0 head
  pub begins : BeginSection body
  pub behind : AreOfSections homes body
  pub told_lines : List Clocks
  pub lines_told : clocks m (further_told (map logged said)) (in_order (map logged head)) ≡ all_retold ready told_lines
  pub have : HaveLines m told_lines ready
  pub alike : (i turn : ℕ) → section_turn i said ≡ Some turn → IsPlannedAlike m told_lines lines sections said i turn
  pub soonest : first_turn ≤ ready
  pub rooms : (i turn : ℕ) → section_turn i said ≡ Some turn →
      have_room (all_retold ready told_lines) (length (moves_of sections i)) turn ≡ true
  pub machine : IsValidMachine m

-- A report's printed lines as a log: they follow the plan of a text, as far as the run came.
use Rattle.std.specs.Prelude.{◌≡◌, ◌⊎◌, ℕ, ◌+◌, ◌<◌, zero, suc, Bool, true, false, List, [], ◌∷◌, ◌++◌, length, map}
use Rattle.plan_types.specs.Sections.{first_turn}
use Rattle.log_check.specs.declared.further.Further.{Further}
use Rattle.log_text.specs.declared.line.LogLine.{LogLine}
use Rattle.log_text.specs.declared.line.LogLine.TheVariants as line
use Rattle.log_check.specs.Behind.{begun, clocks, is_cut, is_ended, section_start, told_clocks}
use Rattle.log_check.specs.Faults.{may_cut, may_follow}
use Rattle.log_check.specs.Points.{end_by, section_at}
use Rattle.laws_report.specs.logs.Follows.{FitsHere, IsNextSection, IsWholeHere, all_said, further_among, in_order, ok_line}
use Rattle.plan_types.specs.declared.machine.Machine.{Machine}
use Rattle.plan_types.specs.declared.plan.Section.{Section}
use Rattle.plan_types.specs.declared.plan.SectionKind.{SectionKind}
use Rattle.plan_types.specs.Machines.{stepper_at}
use Rattle.laws_report.specs.reports.Logged.{logged}
use Rattle.report_text.specs.declared.line.ReportLine.{ReportLine}
use Rattle.text_core.specs.Lines.{lines_of}
use Rattle.text_core.specs.Words.{worded_lines}

-- a text's lines say a log, of which the last line stands first
abbrev pub SaysLog : Machine → List ℕ → List LogLine → Type 0
SaysLog m text log = all_said m (worded_lines 35 1 (lines_of text)) ≡ map ok_line (in_order log)

-- the log that some lines of a report say: the last line stands first
abbrev pub log_of : List ReportLine → List LogLine
log_of said = in_order (map logged said)

-- the turn that the boards' lines tell, from which on the first section may start
abbrev pub board_turn : List LogLine → ℕ
board_turn [] = first_turn
board_turn (line.Board b turn tick ∷ lines) = turn
board_turn (_ ∷ lines) = board_turn lines

-- The turn from which on the next section may start, where no cut stands in the one before: the turn that the
-- boards' lines tell; or 260 turns behind that in which the plan of the one before ends.
abbrev pub earliest_turn : Machine → List Section → List Further → List LogLine → ℕ → ℕ
earliest_turn m sections further lines zero = board_turn lines
earliest_turn m sections further lines (suc i) =
    end_by m sections (clocks m further lines) (suc i) (section_start lines) + 260

-- A line stands behind others in a log as it may, by the further clock lines of the log: a board's line
-- before the first section, in the order of the boards; a further clock line behind those of its board; a
-- section, the next one of the text, not before its turn (`IsNextSection`), behind the lines of all boards; a pulse
-- of a stepper that is there; a cut in the section that it names, which homes.
abbrev pub StandsBehind : Machine → List Section → List Further → List LogLine → LogLine → Type 0
StandsBehind m sections further lines (line.Board b turn tick) =
    (begun lines ≡ 0) × (b ≡ length (clocks m further lines))
StandsBehind m sections further lines (line.Line b turn tick from) =
    may_follow m (told_clocks m lines) b turn tick from ≡ true
StandsBehind m sections further lines (line.Section i turn kind) =
    IsNextSection m sections further lines i turn kind × (length (clocks m further lines) ≡ length m.boards)
StandsBehind m sections further lines (line.Pulse s tick up) = s < length m.steppers
StandsBehind m sections further lines (line.Cut i) = may_cut sections (begun lines) i ≡ true
StandsBehind m sections further lines _ = Unit {0}

-- a pulse of a stepper of a board stands among some lines
pub record TellsPulseOf (m : Machine) (b : ℕ) (lines : List LogLine) : Type 0 where
  pub later : List LogLine
  pub s : ℕ
  pub tick : ℕ
  pub up : Bool
  pub before : List LogLine
  pub are : lines ≡ later ++ line.Pulse s tick up ∷ before
  pub on : (stepper_at m s).board ≡ b

-- A log follows the plan of a text's sections as far as it goes, whatever ended its run.
pub record FollowsFront (m : Machine) (sections : List Section) (log : List LogLine) : Type 0 where
  -- Prefix: behind each line the pulses of every stepper in the open section fit the first of its planned
  -- steps, by the clock lines that the log tells
  pub prefix : (later lines : List LogLine) → log ≡ later ++ lines → (s : ℕ) → s < length m.steppers →
      FitsHere m sections (further_among log) lines s
  -- Sections: each line stands as it may, and none behind the end; the sections are the first ones of the
  -- text, in order, each in its turn
  pub order : (later lines : List LogLine) (l : LogLine) → log ≡ later ++ l ∷ lines →
      (is_ended lines ≡ false) × StandsBehind m sections (further_among log) lines l

-- It does, as far as its run came, which went through or not; and its sections are whole.
pub record Follows (through : Type 0) (m : Machine) (sections : List Section) (log : List LogLine) : Type 0 where
  pub front : FollowsFront m sections log
  -- Whole: the pulses of a section that another follows, and that wasn't cut, are as many as planned, where
  -- the run went through; and whatever ended it, of a stepper of whose board a pulse stands behind the line
  -- of the other
  pub whole : (later lines : List LogLine) (i turn : ℕ) (kind : SectionKind) →
      log ≡ later ++ line.Section i turn kind ∷ lines → is_cut lines ≡ false → (s : ℕ) → s < length m.steppers →
      through ⊎ TellsPulseOf m (stepper_at m s).board later → IsWholeHere m sections (further_among log) lines s
  -- and so are those of the last one, where the run went through
  pub last : through → is_cut log ≡ false → (s : ℕ) → s < length m.steppers →
      IsWholeHere m sections (further_among log) log s

-- Sections, exactly: each starts as many turns later than it may as the dwells before it have milliseconds,
-- unless a cut stands in the one before; and where the run went through each section of the text has its
-- line.
pub record StartsOnTime (through : Type 0) (m : Machine) (sections : List Section) (log : List LogLine) : Type 0 where
  pub due : (later lines : List LogLine) (i turn : ℕ) (kind : SectionKind) →
      log ≡ later ++ line.Section i turn kind ∷ lines → is_cut lines ≡ false →
      turn ≡ earliest_turn m sections (further_among log) lines (begun lines) + (section_at sections i).dwell
  pub all : through → begun log ≡ length sections

-- What a run over links shows: its report on one page.
use Rattle.std.specs.Prelude.{◌≡◌, ◌≢◌, ℕ, List, [], length, Some}
use Rattle.gcode_program.specs.Programs.{program_end}
use Rattle.plan_types.specs.declared.cause.Cause.{Cause}
use Rattle.plan_types.specs.declared.machine.Machine.{Machine}
use Rattle.report_text.specs.declared.line.ReportLine.{ReportLine}
use Rattle.report_text.specs.Text.{report_text}
use Rattle.laws_run.specs.run_ends.Ends.{GoesThrough}
use Rattle.wire_scene.specs.declared.scene.Scene.{Scene}
use Rattle.laws_report.specs.reports.Body.{cause_of, section_lines}
use Rattle.laws_report.specs.reports.Cuts.{HaveCuts}
use Rattle.laws_report.specs.reports.Names.{HasNames}
use Rattle.laws_report.specs.reports.Promises.{lines_line, sections_over}
use Rattle.laws_report.specs.reports.Shown.{sections_shown}
use Rattle.laws_report.specs.page.Clocks.{AreNearBoards}
use Rattle.laws_report.specs.page.Log.{Follows, SaysLog, StartsOnTime, log_of}

-- What the lines of a run show of a text, as they were printed, with those of pulses, whatever ended the run: where it
-- met its premise (`near`), and in any case.
pub record Shows (near : Type 0) (m : Machine) (s : Scene) (text : List ℕ) (c : Cause)
    (said : List ReportLine) : Type 0 where
  -- Prefix, Whole and Sections: what is printed follows the plan of the text, by the clock lines that it tells, as far
  -- as the run came
  pub follows : near → Follows (GoesThrough c) m (sections_over m text) (log_of said)
  -- each section starts in its turn, unless a cut stands in the one before
  pub starts : near → StartsOnTime (GoesThrough c) m (sections_over m text) (log_of said)
  -- Text: the log is what the printed text says, where the names of the machine are words, as those that a
  -- configuration gives
  pub says : near → HasNames m → SaysLog m (report_text m said) (log_of said)
  -- Cuts: in any case each stands in the section that it names, which homes, and tells of its axis's endstop; and there
  -- is one where the next section has its line
  pub cuts : HaveCuts m s.switches c (sections_over m text) said
  -- Clock lines: in any case, where a section has its line, each that is printed is near its board's clock
  pub clocks : sections_shown said ≢ [] → AreNearBoards m (log_of said)
  -- Sections: in any case the section lines are those of the first sections of the text, in order, and of all where the
  -- run went through
  pub sections : (starts : List ℕ) × (sections_shown said ≡ section_lines 0 starts (sections_over m text))
  pub all : GoesThrough c → length (sections_shown said) ≡ length (sections_over m text)
  -- Counts and Cause: a run that went through shows how many lines were accepted and how many commands were passed, and
  -- ends as the reading of the text does
  pub counts : GoesThrough c → lines_line said ≡ Some ((program_end m text).lines, (program_end m text).passed)
  pub cause : GoesThrough c → c ≡ cause_of (program_end m text).stop

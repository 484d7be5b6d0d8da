-- What the lines of a run over links show of the sections of a text that were begun.
use Rattle.std.specs.Prelude.{◌≡◌, ℕ, ◌<◌, List, ◌++◌, length, map, take, Some}
use Rattle.gcode_program.specs.Programs.{program_end}
use Rattle.plan_types.specs.declared.cause.Cause.{Cause}
use Rattle.plan_types.specs.declared.machine.Machine.{Machine}
use Rattle.plan_types.specs.Lines.{Clocks}
use Rattle.plan_types.specs.Sections.{clocks_at}
use Rattle.report_text.specs.declared.line.ReportLine.{ReportLine}
use Rattle.motion_work.specs.Seen.{AreStarted, Started}
use Rattle.laws_run.specs.run_ends.Ends.{GoesThrough}
use Rattle.laws_run.specs.run_headline.Further.{AreNamed, BoardsFirst, TellsFurther}
use Rattle.laws_run.specs.run_headline.Timely.{AreSound}
use Rattle.laws_run.specs.run_lines.Due.{BoardsHave, begun_lines}
use Rattle.laws_report.specs.reports.Body.{cause_of}
use Rattle.laws_report.specs.reports.Promises.{FollowsPlanBy, lines_line, sections_over}
use Rattle.laws_report.specs.reports.Shown.{section_turn, sections_shown}

-- What the lines of a run over links show of the sections of a text, of moves or homing, whatever its links hold, and
-- of their pulses where its boards keep up (`keeps`).
pub record ShowsBegun (keeps : Type 0) (m : Machine) (text : List ℕ) (c : Cause) (said : List ReportLine) : Type 0 where
  -- the boards' clock lines, as the planner heard them, and the turn from which on the first section may start
  pub clocks : List Clocks
  pub ready : ℕ
  -- the sections that were begun are the first ones of the text, each 260 turns behind the end of the one
  -- before, and as many turns later as the dwells before it have milliseconds
  pub begun : List Started
  pub of_text : map (λ s. s.section) begun ≡ take (length begun) (sections_over m text)
  pub started : AreStarted m clocks ready begun
  -- Prefix: by these clock lines the pulses of each stepper in each section fit the first of its planned steps
  pub follows : keeps → FollowsPlanBy clocks m (sections_over m text) said
  -- Sections: the section lines are the first of theirs, and all where the run went through
  pub sections : (rest : List ReportLine) × (begun_lines 0 begun ≡ sections_shown said ++ rest)
  pub all : GoesThrough c →
      (map (λ s. s.section) begun ≡ sections_over m text) × (sections_shown said ≡ begun_lines 0 begun)
  -- Boards: where a section has its line, the boards have theirs, of these clock lines, which are sound, and this turn
  pub boards : (i turn : ℕ) → section_turn i said ≡ Some turn → BoardsHave clocks ready said
  pub sound : (i turn : ℕ) → section_turn i said ≡ Some turn → AreSound m clocks ready
  -- Counts and cause: a run that went through shows how many lines were accepted and how many commands were
  -- passed, and ends as the reading of the text does
  pub counts : GoesThrough c → lines_line said ≡ Some ((program_end m text).lines, (program_end m text).passed)
  pub cause : GoesThrough c → c ≡ cause_of (program_end m text).stop
  -- Further lines: where a section has its line, those of each board that are told are the first ones of
  -- these, in order, and no board has its line behind one; the others hold from behind a turn
  pub last : ℕ
  pub further : (i turn : ℕ) → section_turn i said ≡ Some turn → (b : ℕ) → b < length m.boards →
      TellsFurther b (clocks_at clocks b).held last said
  pub first : (i turn : ℕ) → section_turn i said ≡ Some turn → BoardsFirst said
  pub named : (i turn : ℕ) → section_turn i said ≡ Some turn → AreNamed m said

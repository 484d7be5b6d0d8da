-- What the lines of a run over links show of a text whose axes may home, by the boards' clock lines as its planner heard them.
use Rattle.std.specs.Prelude.{◌≡◌, ◌≢◌, ◌⊎◌, [], ℕ, ◌+◌, ◌<◌, List, ◌++◌, length, map, take, Some}
use Rattle.gcode_program.specs.Programs.{program_end}
use Rattle.laws_board.proofs.Names.{Cause, Machine, Moves, Clocks, clocks_at, ReportLine, Switch, AreStarted, Started, Section, stepper_at}
use Rattle.plan_types.specs.Sections.{section_end}
use Rattle.section_feed.specs.Fewer.{AreFirstLines}
use Rattle.laws_run.specs.run_ends.Ends.{GoesThrough}
use Rattle.laws_run.specs.run_headline.Further.{AreNamed, BoardsFirst, TellsFurther}
use Rattle.laws_run.specs.run_headline.Timely.{AreSound}
use Rattle.laws_run.specs.run_lines.Due.{BoardsHave, StandApart, begun_lines}
use Rattle.laws_report.specs.reports.Body.{cause_of}
use Rattle.laws_report.specs.reports.Cuts.{HaveCuts}
use Rattle.laws_report.specs.reports.Headline.{section_kind, moves_of, plan_by}
use Rattle.laws_report.specs.reports.Promises.{FollowsPlanBy, lines_line, sections_over}
use Rattle.laws_report.specs.reports.Shown.{lines_behind, pulses_in, section_turn, sections_shown}
use Rattle.laws_board.specs.plans.Lines.{pulses_of}

-- Whole, of the sections of moves among others: there are as many of them as planned steps.
abbrev pub IsCompleteOfMovesBy : List Clocks → Machine → List Section → List ReportLine → Type 0
IsCompleteOfMovesBy clocks m sections lines =
    (i turn s : ℕ) → section_turn i lines ≡ Some turn → section_kind sections i ≡ Moves → s < length m.steppers → length (pulses_in i s lines) ≡ length (plan_by clocks m sections i turn s)

-- Whole, of the sections of moves before a fault: there are as many of them as planned steps where, behind the line of the next section,
-- any stepper of the same board has a pulse.
abbrev pub IsCompleteOfMovesBefore : List Clocks → Machine → List Section → List ReportLine → Type 0
IsCompleteOfMovesBefore clocks m sections lines =
    (i turn s other : ℕ) → section_turn i lines ≡ Some turn → section_kind sections i ≡ Moves → s < length m.steppers → other < length m.steppers → (stepper_at m other).board ≡ (stepper_at m s).board →
    pulses_of other (lines_behind (i + 1) lines) ≢ [] → length (pulses_in i s lines) ≡ length (plan_by clocks m sections i turn s)

-- What the lines of a run over links show of a text, of moves or homing, as they were written, with those of pulses.
pub record ShowsHomes (m : Machine) (switches : List Switch) (text : List ℕ) (c : Cause) (said : List ReportLine) : Type 0 where
  -- the boards' clock lines, as the planner heard them, and the turn from which on the first section may start
  pub clocks : List Clocks
  pub ready : ℕ
  -- Prefix: the pulses of a stepper in a section fit the first steps of its plan, also where its trigger cut it
  pub prefix : FollowsPlanBy clocks m (sections_over m text) said
  -- Whole: in a section of moves they are all of them where the run went through
  pub whole : GoesThrough c → IsCompleteOfMovesBy clocks m (sections_over m text) said
  -- and whatever ended it, where behind the line of the next section any stepper of the same board has a pulse
  pub before : IsCompleteOfMovesBefore clocks m (sections_over m text) said
  -- the sections that were begun are the first ones of the text: each starts 260 turns behind the end of the one before, and as many turns
  -- later as the dwells before it have milliseconds; one of moves ends as its plan does, and one that homes with its answer
  pub begun : List Started
  pub of_text : map (λ s. s.section) begun ≡ take (length begun) (sections_over m text)
  pub started : AreStarted m clocks ready begun
  -- Sections: the section lines are the first of theirs, in order, each with the turn in which its section starts; and where the run
  -- went through these are all sections of the text, and each has its line
  pub sections : (rest : List ReportLine) × (begun_lines 0 begun ≡ sections_shown said ++ rest)
  pub all : GoesThrough c → (map (λ s. s.section) begun ≡ sections_over m text) × (sections_shown said ≡ begun_lines 0 begun)
  -- Cuts: in a section that homes there is one line of its axis's endstop, with the scene's line that closed its switch, where the next section has its line or the run went through,
  -- and at most one otherwise; and there are none elsewhere
  pub cuts : HaveCuts m switches c (sections_over m text) said
  -- Boards: where a section has its line, the boards have theirs, of these clock lines and this turn
  pub boards : (i turn : ℕ) → section_turn i said ≡ Some turn → BoardsHave clocks ready said
  -- Counts: a run that went through shows how many lines were accepted and how many commands were passed
  pub counts : GoesThrough c → lines_line said ≡ Some ((program_end m text).lines, (program_end m text).passed)
  -- Cause: a run that went through ends as the reading of the text does
  pub cause : GoesThrough c → c ≡ cause_of (program_end m text).stop
  -- Order: where a section has its line, the boards' lines stand before that of the first section, and no pulse does; and the clock
  -- lines are sound
  pub apart : (i turn : ℕ) → section_turn i said ≡ Some turn → StandApart m clocks ready said
  pub sound : (i turn : ℕ) → section_turn i said ≡ Some turn → AreSound m clocks ready
  -- Further lines: where a section has its line, the further clock lines of each board that are told are the first ones of these, in
  -- order, and no board has its line behind one; the others hold from behind a turn. By this turn the plan of a
  -- section of moves ended where the next section has its line or the run went through; and the pulses of each section fit its plan without lines
  -- that hold from behind it on
  pub last : ℕ
  pub further : (i turn : ℕ) → section_turn i said ≡ Some turn → (b : ℕ) → b < length m.boards →
      TellsFurther b (clocks_at clocks b).held last said
  pub first : (i turn : ℕ) → section_turn i said ≡ Some turn → BoardsFirst said
  pub named : (i turn : ℕ) → section_turn i said ≡ Some turn → AreNamed m said
  pub over : (i turn : ℕ) → section_turn i said ≡ Some turn → section_kind (sections_over m text) i ≡ Moves → ((next : ℕ) × (section_turn (i + 1) said ≡ Some next)) ⊎ GoesThrough c → section_end m clocks (moves_of (sections_over m text) i) turn < last
  pub told : (short : List Clocks) → ((b : ℕ) → b < length m.boards → AreFirstLines (clocks_at short b) (clocks_at clocks b) last) → FollowsPlanBy short m (sections_over m text) said

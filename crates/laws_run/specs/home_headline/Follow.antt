-- What the lines of a whole run in which axes home show of the sections that its planner begun.
use Rattle.std.specs.Prelude.{◌≡◌, ◌≢◌, ℕ, ◌+◌, ◌*◌, ◌<◌, ◌≤◌, All, List, [], ◌∷◌, ◌++◌, length, map, take}
use Rattle.gcode_program.specs.Programs.{program_end, program_sections}
use Rattle.plan_types.specs.declared.cause.Cause.{Cause}
use Rattle.plan_types.specs.declared.machine.Machine.{Machine}
use Rattle.plan_types.specs.Clock.{turn_ns}
use Rattle.plan_types.specs.Lines.{Clocks, lines_tick}
use Rattle.plan_types.specs.Machines.{board_at, stepper_at}
use Rattle.plan_types.specs.Plan.{Fits, max_error}
use Rattle.plan_types.specs.Sections.{base_tick, clocks_at, stepper_plan}
use Rattle.report_text.specs.declared.line.ReportLine.{ReportLine}
use Rattle.report_text.specs.declared.line.ReportLine.TheVariants as report
use Rattle.section_feed.specs.Fewer.{AreFirstLines}
use Rattle.motion_work.specs.Seen.{AreStarted, Started}
use Rattle.motion_work.specs.Told.{Told}
use Rattle.session_work.specs.declared.table.ReactorTurn.{ReactorTurn}
use Rattle.session_work.specs.Rows.{gather}
use Rattle.laws_board.specs.sections.Boards.{AreEnded, IsWindow, NextStart}
use Rattle.laws_board.specs.plans.Boards.{lines_between, times_of}
use Rattle.laws_board.specs.plans.Lines.{TellTurns, heads_of, pulses_of}
use Rattle.laws_board.specs.plans.Planned.{PlannerInput}
use Rattle.laws_run.specs.run_ends.Boards.{counts_of}
use Rattle.laws_run.specs.run_ends.Ends.{GoesThrough}
use Rattle.laws_run.specs.run_headline.Further.{TellFurther}
use Rattle.laws_run.specs.run_headline.Timely.{AreHeard, AreSound, AreThrough, TellBoards}
use Rattle.laws_run.specs.run_lines.Due.{AreFirst, begun_lines}

-- The lines of a run's turns, of which `first` is the first one, follow the plans of the sections that were
-- begun, of moves or homing: a place k of `rest` is turn k + 1.
pub record FollowHomes (m : Machine) (t : Told) (seen : PlannerInput) (first : ReactorTurn) (rest : List ReactorTurn)
    : Type 0 where
  -- these are the first sections of the text
  pub of_text : map (λ s. s.section) seen.begun ≡ take (length seen.begun) (program_sections m seen.text)
  -- the line of each stands in the turn of its start, and behind it the pulses that the boards told
  pub lines : TellTurns m seen.begun 0 (first ∷ rest)
  -- of each stepper the pulses from the line of a section on and before that of the next are made for the
  -- first steps of its plan
  pub fit : (past : List Started) (s : Started) (later : List Started) (from to place : ℕ) →
      seen.begun ≡ past ++ s ∷ later → place < length m.steppers →
      IsWindow (length rest) from to (record { start = s.start; end = s.end }) (times_of later) →
      Fits (board_at m (stepper_at m place).board).freq (base_tick m t.clocks s.start place)
      (pulses_of place (lines_between from to rest)) (stepper_plan m t.clocks s.section.moves s.start place)
  -- and by as much as a step may be early they are before the tick that its board has, by its clock lines,
  -- seven turns behind
  pub soon : (past : List Started) (s : Started) (later : List Started) (from to place : ℕ) →
      seen.begun ≡ past ++ s ∷ later → place < length m.steppers →
      IsWindow (length rest) from to (record { start = s.start; end = s.end }) (times_of later) →
      All (λ p. p.tick + max_error (board_at m (stepper_at m place).board).freq
      < lines_tick (clocks_at t.clocks (stepper_at m place).board) ((to + 7) * turn_ns))
      (pulses_of place (lines_between from to rest))
  -- and there are none behind its end
  pub between : (past later : List Started) (from to place : ℕ) → seen.begun ≡ past ++ later →
      place < length m.steppers → from ≤ to → to ≤ length rest → AreEnded from (times_of past) →
      NextStart to (times_of later) → pulses_of place (lines_between from to rest) ≡ []

-- What the reactor's turns in a whole run in which axes home show of the sections that its planner begun.
-- Place k of `rest` is turn k + 1.
pub record ShowHomes (m : Machine) (seen : PlannerInput) (clocks : List Clocks) (ready : ℕ) (c : Cause)
    (first : ReactorTurn)
    (rest : List ReactorTurn) : Type 0 where
  -- the clock lines are those that the planner heard
  pub heard : AreHeard clocks seen
  -- the sections are the first ones of the text
  pub of_text : map (λ s. s.section) seen.begun ≡ take (length seen.begun) (program_sections m seen.text)
  -- each starts 260 turns behind the end of the one before, and as many later as the dwells before it have milliseconds
  pub late : 260 ≤ ready
  pub started : AreStarted m clocks ready seen.begun
  -- the boards have their lines before any section may start
  pub boards : seen.begun ≢ [] → TellBoards clocks ready (first ∷ rest)
  -- the line of each stands in the turn of its start, and behind it the pulses that the boards told
  pub lines : TellTurns m seen.begun 0 (first ∷ rest)
  -- of each stepper the pulses from the line of a section on and before that of the next are made for the
  -- first steps of its plan
  pub fit : (past : List Started) (s : Started) (later : List Started) (from to place : ℕ) →
      seen.begun ≡ past ++ s ∷ later → place < length m.steppers →
      IsWindow (length rest) from to (record { start = s.start; end = s.end }) (times_of later) →
      Fits (clocks_at clocks (stepper_at m place).board).first.freq (base_tick m clocks s.start place)
      (pulses_of place (lines_between from to rest)) (stepper_plan m clocks s.section.moves s.start place)
  -- and there are none from five turns behind its end on
  pub behind : (past : List Started) (s : Started) (later : List Started) (from to place : ℕ) →
      seen.begun ≡ past ++ s ∷ later → place < length m.steppers → from ≤ to → to ≤ length rest →
      AreEnded from (times_of (past ++ s ∷ [])) → NextStart to (times_of later) →
      pulses_of place (lines_between from to rest) ≡ []
  -- nor before the turn in which the first section starts
  pub early : (s : Started) (later : List Started) (past behind : List ReactorTurn) (place : ℕ) →
      seen.begun ≡ s ∷ later → first ∷ rest ≡ past ++ behind → length past ≤ s.start → place < length m.steppers →
      pulses_of place (gather (λ t. t.lines) past) ≡ []
  -- a run that went through begun all sections of its text, and they ended
  pub through : GoesThrough c → AreThrough m seen c (length rest)
  -- the numbers of accepted lines and of passed commands stand in its lines once
  pub counts : GoesThrough c →
      counts_of (gather (λ t. t.lines) (first ∷ rest))
      ≡ report.Lines (program_end m seen.text).lines (program_end m seen.text).passed ∷ []
  -- where a section was begun, the clock lines are sound, and the lines of the first turns tell the further ones: those
  -- that are left untold hold from behind the 271st turn behind these on
  pub sound : seen.begun ≢ [] → AreSound m clocks ready
  pub further : seen.begun ≢ [] → (front later : List ReactorTurn) → first ∷ rest ≡ front ++ later →
      TellFurther m clocks (length front + 271) (gather (λ t. t.lines) front)
  -- and the pulses of a section that are told by a turn fit its plan without lines that hold from behind the
  -- seventh turn behind it on as well
  pub told : (turn n : ℕ) → n + 7 ≤ turn → n ≤ length rest → (short : List Clocks) →
      ((b : ℕ) → b < length m.boards → AreFirstLines (clocks_at short b) (clocks_at clocks b) turn) →
      (past : List Started) (s : Started) (later : List Started) (from to place : ℕ) → seen.begun ≡ past ++ s ∷ later →
      place < length m.steppers → IsWindow n from to (record { start = s.start; end = s.end }) (times_of later) →
      Fits (clocks_at short (stepper_at m place).board).first.freq (base_tick m short s.start place)
      (pulses_of place (lines_between from to rest)) (stepper_plan m short s.section.moves s.start place)

-- so the turns of a whole run, which ended for a cause
abbrev pub AllShowHomes : Machine → PlannerInput → List Clocks → ℕ → Cause → List ReactorTurn → Type 0
AllShowHomes m seen clocks ready c [] = Unit {0}
AllShowHomes m seen clocks ready c (first ∷ rest) = ShowHomes m seen clocks ready c first rest

-- What the reactor's turns in a whole run show of the lines of boards and sections, whatever the links of its
-- boards hold.
pub record ShowBegun (m : Machine) (seen : PlannerInput) (clocks : List Clocks) (ready : ℕ) (c : Cause)
    (first : ReactorTurn)
    (rest : List ReactorTurn) : Type 0 where
  -- the sections that were begun are the first ones of the text
  pub of_text : map (λ s. s.section) seen.begun ≡ take (length seen.begun) (program_sections m seen.text)
  -- each starts 260 turns behind the end of the one before, and as many later as the dwells before it have milliseconds
  pub late : 260 ≤ ready
  pub started : AreStarted m clocks ready seen.begun
  -- the boards have their lines before any section may start
  pub boards : seen.begun ≢ [] → TellBoards clocks ready (first ∷ rest)
  -- the line of each stands in the turn of its start
  pub lines : TellTurns m seen.begun 0 (first ∷ rest)
  -- a run that went through begun all sections of its text, and they ended
  pub through : GoesThrough c → AreThrough m seen c (length rest)
  -- the numbers of accepted lines and of passed commands stand in its lines once
  pub counts : GoesThrough c →
      counts_of (gather (λ t. t.lines) (first ∷ rest))
      ≡ report.Lines (program_end m seen.text).lines (program_end m seen.text).passed ∷ []
  -- where a section was begun, the clock lines are sound, and the lines of the first turns tell the further ones: those
  -- that are left untold hold from behind the 271st turn behind these on
  pub sound : seen.begun ≢ [] → AreSound m clocks ready
  pub further : seen.begun ≢ [] → (front later : List ReactorTurn) → first ∷ rest ≡ front ++ later →
      TellFurther m clocks (length front + 271) (gather (λ t. t.lines) front)

-- so the turns of a whole run, which ended for a cause
abbrev pub AllShowBegun : Machine → PlannerInput → List Clocks → ℕ → Cause → List ReactorTurn → Type 0
AllShowBegun m seen clocks ready c [] = Unit {0}
AllShowBegun m seen clocks ready c (first ∷ rest) = ShowBegun m seen clocks ready c first rest

-- Sections of a text of moves and homing have their line in a report: the lines of sections are the first of
-- those of some sections that were begun, the first ones of the text. Each starts 260 turns behind the end of
-- the one before, and as many turns later as the dwells before it have milliseconds; where the run went
-- through these are all sections of the text, and each has its line.
pub record HaveBegunLines (m : Machine) (text : List ℕ) (clocks : List Clocks) (ready : ℕ) (c : Cause)
    (lines : List ReportLine) : Type 0 where
  pub begun : List Started
  pub of_text : map (λ s. s.section) begun ≡ take (length begun) (program_sections m text)
  pub started : AreStarted m clocks ready begun
  pub front : AreFirst (heads_of lines) (begun_lines 0 begun)
  pub all : GoesThrough c →
      (map (λ s. s.section) begun ≡ program_sections m text) × (heads_of lines ≡ begun_lines 0 begun)

-- What the boards of a section are given, and give.
use Rattle.std.specs.Prelude.{◌≡◌, ℕ, ◌+◌, ◌*◌, ◌≤◌, true, max, List, ◌++◌}
use Rattle.plan_types.specs.Clock.{turn_ns}
use Rattle.plan_types.specs.Lines.{lines_tick}
use Rattle.plan_types.specs.Plan.{max_error}
use Rattle.plan_types.specs.Sections.{TimedPart, duration, timed}
use Rattle.step_feed.specs.Pacing.{Release, at_turn}
use Rattle.msg_code.specs.declared.unit.Unit.{Unit as StepUnit}
use Rattle.section_stream.specs.declared.ready.Ready.{Ready}
use Rattle.section_stream.specs.Steppers.{StepperKind}
use Rattle.section_feed.specs.declared.board.BoardStream.{BoardStream}
use Rattle.section_feed.specs.Feeding.{IsBoardOf, lines_of_board, packed_of, fed_time, turn_of}
use Rattle.section_feed.specs.Released.{steppers_in}
use Rattle.section_feed.specs.Rests.{AreRested}
use Rattle.section_feed.specs.Sets.{goes_of, set_of}

-- a board was given a move
pub record IsPushed (ready : Ready) (place : ℕ) (old new : BoardStream) : Type 0 where
  pub on : (kinds : ℕ → StepperKind) (base : ℕ) (parts : List TimedPart) (released : List Release) →
      IsBoardOf old kinds base parts released →
      IsBoardOf new kinds base (parts ++ timed ready.one 0 (fed_time old) ready.parts) released
  pub time : fed_time new ≡ fed_time old + duration ready.parts
  pub turn : turn_of new ≡ turn_of old
  pub set : set_of new ≡ set_of old
  pub goes : goes_of new ≡ goes_of old
  pub packed : packed_of new ≡ packed_of old

-- no more moves come for a board
pub record IsBoardStill (place : ℕ) (old new : BoardStream) : Type 0 where
  pub on : (kinds : ℕ → StepperKind) (base : ℕ) (parts : List TimedPart) (released : List Release) →
      IsBoardOf old kinds base parts released → IsBoardOf new kinds base parts released
  pub time : fed_time new ≡ fed_time old
  pub turn : turn_of new ≡ turn_of old
  pub set : set_of new ≡ set_of old
  pub packed : packed_of new ≡ packed_of old

-- a board planned more steps, up to a turn
pub record IsPlanned (turn place : ℕ) (old new : BoardStream) : Type 0 where
  pub on : (kinds : ℕ → StepperKind) (base : ℕ) (parts : List TimedPart) (released : List Release) →
      IsBoardOf old kinds base parts released → IsBoardOf new kinds base parts released
  pub time : fed_time new ≡ fed_time old
  pub next : turn_of new ≡ turn_of old
  pub set : set_of new ≡ set_of old
  pub goes : goes_of new ≡ goes_of old
  pub packed : turn ≤ packed_of new
  pub most : packed_of new ≡ max (packed_of old) turn

-- a board gave the units of a turn
pub record HasBatch (turn : ℕ) (batches : ℕ → List StepUnit) (place : ℕ) (old new : BoardStream) : Type 0 where
  pub on : (kinds : ℕ → StepperKind) (base : ℕ) (parts : List TimedPart) (released : List Release) →
      IsBoardOf old kinds base parts released →
      IsBoardOf new kinds base parts (released ++ at_turn turn (batches place))
  pub time : fed_time new ≡ fed_time old
  pub next : turn_of new ≡ turn + 1
  pub set : set_of new ≡ set_of old
  pub goes : goes_of new ≡ goes_of old
  pub rested : ∥ AreRested (turn + 251) (steppers_in new) ∥₁
  pub packed : packed_of new ≡ packed_of old

-- no steps are packed further ahead of the turn whose units are given next
abbrev pub most_ahead : ℕ
most_ahead = 260

-- a board gives the units of a turn next, and its steps are packed no further ahead
pub record IsAtTurn (turn : ℕ) (b : BoardStream) : Type 0 where
  pub next : turn_of b ≡ turn
  pub near : packed_of b ≤ turn + most_ahead

-- the steps of a board are packed up to a turn
pub record IsPackedTo (turn : ℕ) (b : BoardStream) : Type 0 where
  pub packed : turn ≤ packed_of b

-- Its steps are packed so far ahead of a turn that all units are made that are due by 250 turns behind it: up
-- to a turn that begins behind the next one by as many ticks as a step may be early.
pub record IsAhead (turn : ℕ) (b : BoardStream) : Type 0 where
  pub ahead : lines_tick (lines_of_board b) ((turn + 251) * turn_ns) + max_error (lines_of_board b).first.freq
      ≤ lines_tick (lines_of_board b) (packed_of b * turn_ns)

-- more moves may come for a board
pub record IsOpen (b : BoardStream) : Type 0 where
  pub goes : goes_of b ≡ true

-- The units of a board in a section, spread over the turns.
use Rattle.std.specs.Prelude.{◌≡◌, ℕ, ◌*◌, List, length}
use Rattle.plan_types.specs.Clock.{turn_ns}
use Rattle.plan_types.specs.Lines.{Clocks, lines_tick}
use Rattle.plan_types.specs.Sections.{TimedPart}
use Rattle.step_feed.specs.Units.{StepUnit}
use Rattle.step_feed.specs.Pacing.{Release}
use Rattle.step_feed.specs.declared.stream.FeedStream.{FeedStream}
use Rattle.step_feed.specs.Streams.{IsFedOf, stream_start, next_turn, slots_of}
use Rattle.section_feed.specs.declared.board.BoardStream.{BoardStream}
use Rattle.section_feed.specs.Ordering.{AreInOrderFrom, last_order}
use Rattle.section_stream.specs.declared.stepper.StepperStream.{StepperStream}
use Rattle.section_stream.specs.Steppers.{StepperKind}
use Rattle.section_feed.specs.Boards.{HaveGiven, HaveKinds}

-- Of these parts of the section's moves the steppers of a board have given units, which stand in their order,
-- and of which these were released.
pub record AreFeeding (steppers : List StepperStream) (feed : FeedStream) (clocks : Clocks) (order : ℕ)
    (kinds : ℕ → StepperKind) (base : ℕ) (parts : List TimedPart) (released : List Release) : Type 0 where
  pub units : List StepUnit
  pub kinds_are : HaveKinds steppers kinds
  pub given : HaveGiven steppers base parts units
  pub in_order : AreInOrderFrom 0 units
  pub order_is : order ≡ last_order 0 units
  pub fed : IsFedOf feed clocks units released

-- a board's stream was given these parts, packs its steppers' steps by their kinds, and gave these releases
abbrev pub IsBoardOf : BoardStream → (ℕ → StepperKind) → ℕ → List TimedPart → List Release → Type 0
IsBoardOf b kinds base parts released =
    ∥ AreFeeding b.steppers.items b.feed b.lines b.order kinds base parts released ∥₁

-- when the moves end that a board's stream was given, in nanoseconds since the session's start
abbrev pub fed_time : BoardStream → ℕ
fed_time b = b.time

-- its clock lines
abbrev pub lines_of_board : BoardStream → Clocks
lines_of_board b = b.lines

-- the turn whose units it gives next
abbrev pub turn_of : BoardStream → ℕ
turn_of b = next_turn b.feed

-- from which turn on its units may be released
abbrev pub first_of : BoardStream → ℕ
first_of b = stream_start b.feed

-- how many slots the queue of each of its steppers has
abbrev pub slots_in : BoardStream → ℕ
slots_in b = slots_of b.feed

-- how many steppers it has
abbrev pub count_of : BoardStream → ℕ
count_of b = length b.steppers.items

-- the tick at which the section begins, as long as nothing is planned
abbrev pub base_of : BoardStream → ℕ
base_of b = lines_tick b.lines (b.turn * turn_ns)

-- the turn up to which its steps are packed
abbrev pub packed_of : BoardStream → ℕ
packed_of b = b.turn

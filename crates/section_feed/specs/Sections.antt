-- A section of moves that come one by one, on all boards.
use Rattle.std.specs.Prelude.{◌≡◌, ◌⊎◌, ℕ, ◌<◌, ◌≤◌, List, length, map, slice_index_or}
use Rattle.plan_types.specs.declared.plan.Move.{Move}
use Rattle.plan_types.specs.Sections.{TimedPart}
use Rattle.step_feed.specs.Pacing.{Release}
use Rattle.section_stream.specs.Steppers.{StepperKind}
use Rattle.section_feed.specs.declared.board.BoardStream.{BoardStream}
use Rattle.section_feed.specs.declared.queue.MoveQueue.{MoveQueue}
use Rattle.section_feed.specs.declared.section.SectionStream.{SectionStream}
use Rattle.section_feed.specs.Boards.{most_ns}
use Rattle.section_feed.specs.Feeding.{IsBoardOf, fed_time}
use Rattle.section_feed.specs.Left.{AreLeftOn}
use Rattle.section_feed.specs.Queues.{IsDrawn, IsQueueOf, drawn_to}
use Rattle.section_feed.specs.Sets.{BoardSet, set_of}

-- the boards were given these parts, up to a time, and have released these units
pub record AreBoards (boards : List BoardStream) (time : ℕ) (kinds : ℕ → ℕ → StepperKind) (base : ℕ → ℕ)
    (parts : List TimedPart) (released : ℕ → List Release) : Type 0 where
  pub each : (b : ℕ) (d : BoardStream) → b < length boards →
      IsBoardOf (slice_index_or boards b d) (kinds b) (base b) parts (released b)
  pub times : (b : ℕ) (d : BoardStream) → b < length boards → fed_time (slice_index_or boards b d) ≡ time

-- These moves were pushed; those of them whose speeds are final were given to the boards, as far as they were
-- needed, and the boards have released these units.
pub record IsSectionOf (s : SectionStream) (scv : ℕ) (moves : List Move) (kinds : ℕ → ℕ → StepperKind) (base : ℕ → ℕ)
    (released : ℕ → List Release) : Type 0 where
  pub parts : List TimedPart
  pub queue : IsQueueOf s.queue scv moves parts
  pub boards : AreBoards s.boards.items (drawn_to s.queue) kinds base parts released

-- the turn whose units a section gives next
abbrev pub next_of : SectionStream → ℕ
next_of s = s.next

-- the boards' streams of a section
abbrev pub boards_in : SectionStream → List BoardStream
boards_in s = s.boards.items

-- how many boards a section has
abbrev pub boards_of : SectionStream → ℕ
boards_of s = length s.boards.items

-- its moves that wait for the boards
abbrev pub queue_of : SectionStream → MoveQueue
queue_of s = s.queue

-- what stays the same of its boards
abbrev pub sets_of : SectionStream → List BoardSet
sets_of s = map set_of s.boards.items

-- Something of a section is left: moves may come or wait for the boards, or they go on for 500 years; or of
-- those that the boards were given a step is not packed.
abbrev pub IsLeft : SectionStream → Type 0
IsLeft s = (IsDrawn (queue_of s) → ⊥) ⊎ ((most_ns ≤ drawn_to (queue_of s)) ⊎ AreLeftOn (boards_in s))

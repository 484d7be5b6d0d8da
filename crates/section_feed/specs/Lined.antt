-- A section on one of whose boards one more line holds, from the beginning of a turn on.
use Rattle.std.specs.Prelude.{◌≡◌, ℕ, ◌*◌, ◌<◌, All, List, length, set, slice_index_or}
use Rattle.plan_types.specs.declared.machine.Machine.{Machine}
use Rattle.plan_types.specs.declared.plan.Line.{Line}
use Rattle.plan_types.specs.declared.plan.Move.{Move}
use Rattle.plan_types.specs.Clock.{turn_ns}
use Rattle.plan_types.specs.Lines.{Clocks, lines_tick}
use Rattle.plan_types.specs.Machines.{stepper_at}
use Rattle.plan_types.specs.Sections.{clocks_at, stepper_plan}
use Rattle.clock_line.specs.Kept.{added}
use Rattle.step_feed.specs.Pacing.{Release}
use Rattle.section_stream.specs.Steppers.{StepperKind}
use Rattle.section_feed.specs.declared.section.SectionStream.{SectionStream}
use Rattle.section_feed.specs.Rests.{AreAllRested}
use Rattle.section_feed.specs.Sections.{IsSectionOf, boards_in, boards_of, next_of, queue_of, sets_of}
use Rattle.section_feed.specs.Sets.{BoardSet}

-- the lines of all boards, one of which has one more
abbrev pub line_at : List Clocks → ℕ → ℕ → Line → List Clocks
line_at clocks board turn line = set clocks board (added (clocks_at clocks board) (turn * turn_ns) line)

-- all steps that are planned on a board in a section of moves are before a turn
abbrev pub ArePlannedBefore : Machine → List Clocks → List Move → ℕ → ℕ → ℕ → Type 0
ArePlannedBefore m clocks moves start b turn =
    (s : ℕ) → s < length m.steppers → (stepper_at m s).board ≡ b →
    All (λ q. q.tick < lines_tick (clocks_at clocks b) (turn * turn_ns)) (stepper_plan m clocks moves start s)

-- what stays the same of a board, with one more line
abbrev pub with_line : ℕ → Line → BoardSet → BoardSet
with_line turn line s = record s { clocks = added s.clocks (turn * turn_ns) line }

-- A section took up a line on a board: nothing else has changed, it has released what it had, and what is
-- left is due as before.
pub record HasLine (board turn : ℕ) (line : Line) (old new : SectionStream) : Type 0 where
  pub on : (scv : ℕ) (moves : List Move) (kinds : ℕ → ℕ → StepperKind) (base : ℕ → ℕ) (released : ℕ → List Release) →
      IsSectionOf old scv moves kinds base released → IsSectionOf new scv moves kinds base released
  pub next : next_of new ≡ next_of old
  pub queue : queue_of new ≡ queue_of old
  pub boards : boards_of new ≡ boards_of old
  pub here : (d : BoardSet) →
      slice_index_or (sets_of new) board d ≡ with_line turn line (slice_index_or (sets_of old) board d)
  pub others : (b : ℕ) (d : BoardSet) → (b ≡ board → ⊥) →
      slice_index_or (sets_of new) b d ≡ slice_index_or (sets_of old) b d
  pub rested : (low : ℕ) → low < turn → AreAllRested low (boards_in old) → AreAllRested low (boards_in new)

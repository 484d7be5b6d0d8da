-- A section whose moves come one by one, on the boards of a machine.
use Rattle.std.specs.Prelude.{◌≡◌, ℕ, ◌*◌, ◌<◌, ◌≤◌, ◌++◌, All, Bool, List, [], length, slice_index_or}
use Rattle.plan_types.specs.declared.machine.Machine.{Machine}
use Rattle.plan_types.specs.declared.plan.Move.{Move}
use Rattle.plan_types.specs.Clock.{turn_ns}
use Rattle.plan_types.specs.Lines.{Clocks, lines_tick}
use Rattle.plan_types.specs.Machines.{IsValidMachine, board_at}
use Rattle.plan_types.specs.Sections.{clocks_at}
use Rattle.step_feed.specs.Pacing.{Release, batch_at}
use Rattle.section_units.specs.Plans.{AreOnBoardsBy, AreSentOn, AreSentToOn, IsOnBoardBy}
use Rattle.section_feed.specs.declared.section.SectionStream.{SectionStream}
use Rattle.section_feed.specs.Boards.{MayStart}
use Rattle.section_feed.specs.Kinds.{board_kinds}
use Rattle.section_feed.specs.Queues.{begin_in, cruise_in}
use Rattle.section_feed.specs.Sections.{IsSectionOf, boards_of, queue_of, sets_of}
use Rattle.section_feed.specs.Sets.{BoardSet, start_set}

-- Of a section that starts in a turn on a machine whose boards have these clock lines, these moves were
-- pushed, and these units released; in a homing section no clock is set.
pub record IsSectionOn (m : Machine) (clocks : List Clocks) (turn : ℕ) (homing : Bool) (s : SectionStream)
    (moves : List Move) (released : ℕ → List Release) : Type 0 where
  pub machine : IsValidMachine m
  pub count : length clocks ≡ length m.boards
  pub freq : (b : ℕ) → b < length m.boards → (clocks_at clocks b).first.freq ≡ (board_at m b).freq
  pub lead : 250 ≤ turn
  pub may_start : (b : ℕ) → b < length m.boards → MayStart (clocks_at clocks b) turn
  pub section : IsSectionOf s m.scv moves (λ b. board_kinds m (clocks_at clocks b) b turn homing)
      (λ b. lines_tick (clocks_at clocks b) (turn * turn_ns)) released
  pub boards : boards_of s ≡ length m.boards
  pub sets : (b : ℕ) (d : BoardSet) → b < length m.boards → slice_index_or (sets_of s) b d ≡ start_set m clocks turn b
  pub cruise : cruise_in (queue_of s) ≡ m.cruise
  pub begin : begin_in (queue_of s) ≡ turn * turn_ns

-- With more releases, none of them before a turn, what was released on a board is the whole section of these
-- moves, which homes or not; and that was such as a board is sent.
pub record CanComplete (homing : Bool) (m : Machine) (clocks : List Clocks) (moves : List Move) (turn b next : ℕ)
    (released : List Release) : Type 0 where
  pub more : List Release
  pub whole : IsOnBoardBy homing m clocks moves turn b (released ++ more)
  pub later : All (λ r. next ≤ r.turn) more
  pub sent : AreSentOn m clocks moves turn b released

-- Whole releases of these moves on all boards, in a section that homes or not, of which those before a turn
-- are the ones that were released, and such as a board is sent.
pub record IsToldBy (homing : Bool) (m : Machine) (clocks : List Clocks) (moves : List Move) (turn next : ℕ)
    (released : ℕ → List Release) (boards : List (List Release)) : Type 0 where
  pub are : AreOnBoardsBy homing m clocks moves turn boards
  pub same : (b k : ℕ) → b < length m.boards → k < next →
      batch_at k (slice_index_or boards b []) ≡ batch_at k (released b)
  pub sent : (b : ℕ) → b < length m.boards → AreSentToOn m clocks moves turn b next (slice_index_or boards b [])

use Rattle.std.proofs.Common.{◌≡◌, ℕ, ◌+◌, ◌*◌, ◌≤◌, Bool, List, ◌++◌, drop, map, length, All}
use Rattle.plan_types.specs.declared.plan.Gear.{Gear}
use Rattle.plan_types.specs.declared.plan.Line.{Line}
use Rattle.plan_types.specs.declared.plan.Move.{Move}
use Rattle.plan_types.specs.declared.plan.Segment.{Segment}
use Rattle.plan_types.specs.Sections.{segment_of, timed_moves}
use Rattle.plan_types.specs.Clock.{tick}
use Rattle.plan_types.specs.Steps.{raw_steps}
use Rattle.plan_types.specs.Valid.{IsValidGear}
use Rattle.section_plan.specs.Runs.{IsGoodSegment, move_ns, steps_of_move}
use Rattle.section_plan.proofs.run.segments_of.Given as goal

-- the segments so far and those of the moves that are left are all
pub record HasSegments (corexy : Bool) (drive : ℕ) (line : Line) (cruise : ℕ) (moves : List Move) (speeds : List ℕ) (begin : ℕ) (made : List Segment) (time i : ℕ) : Type 0 where
  pub whole : made ++ map (segment_of corexy drive line) (timed_moves cruise (drop i moves) (drop i speeds) time) ≡ map (segment_of corexy drive line) (timed_moves cruise moves speeds begin)
  pub good : All (IsGoodSegment line (tick line (begin + length moves * move_ns))) made
  pub steps : (g : Gear) (f : ℕ) → IsValidGear g → length (raw_steps g f made) ≤ i * steps_of_move
  pub soon : time ≤ begin + i * move_ns
  pub begun : begin ≤ time

abbrev pub invariant-loop-i : goal.invariant-loop-i
invariant-loop-i l = HasSegments l.drive.corexy l.drive.number l.drive.line l.cruise l.moves l.speeds l.begin l.made.items l.time l.i

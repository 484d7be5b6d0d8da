-- The units that a board has released of a section whose moves may go on.
use Rattle.std.specs.Prelude.{◌≡◌, ℕ, ◌<◌, ◌≤◌, Bool, List, []}
use Rattle.section_units.specs.Sections.{of_stepper}
use Rattle.plan_types.specs.declared.plan.Move.{Move}
use Rattle.plan_types.specs.Lines.{Clocks}
use Rattle.plan_types.specs.Sections.{TimedPart, timed_moves}
use Rattle.plan_types.specs.Speeds.{greatest_speeds}
use Rattle.step_feed.specs.Pacing.{ArePaced, Release, units_of}
use Rattle.section_units.specs.Fronts.{AreFirstOfBy}
use Rattle.section_units.specs.Sent.{AreLongestOf}
use Rattle.section_stream.specs.Steppers.{StepperKind}
use Rattle.section_feed.specs.declared.section.SectionStream.{SectionStream}
use Rattle.section_feed.specs.Ordering.{AreInOrderFrom}
use Rattle.section_feed.specs.Queues.{begin_in, cruise_in}
use Rattle.section_feed.specs.Sections.{queue_of}
use Rattle.section_feed.specs.Wholes.{sent_plan}

-- The units that were released on a board are the first ones of its steppers' plans for these parts, in a
-- section that homes or not, in their order; their triples cover as many steps as one can; and each is
-- released in its turn.
pub record IsBoardFront (homing : Bool) (clocks : Clocks) (freq slots first base : ℕ) (kinds : ℕ → StepperKind)
    (count : ℕ) (parts : List TimedPart) (released : List Release) : Type 0 where
  pub units : (oid : ℕ) → oid < count →
      AreFirstOfBy homing clocks freq oid base (sent_plan (kinds oid) clocks base parts)
      (of_stepper oid (units_of released))
  pub others : (oid : ℕ) → count ≤ oid → of_stepper oid (units_of released) ≡ []
  pub in_order : AreInOrderFrom 0 (units_of released)
  pub longest : (oid : ℕ) → oid < count →
      AreLongestOf clocks freq base (sent_plan (kinds oid) clocks base parts) (of_stepper oid (units_of released))
  pub paced : ArePaced clocks slots first [] released

-- the parts of a section with all these moves
abbrev pub front_parts : SectionStream → ℕ → List Move → List TimedPart
front_parts s scv all = timed_moves (cruise_in (queue_of s)) all (greatest_speeds all scv) (begin_in (queue_of s))

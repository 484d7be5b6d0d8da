use Rattle.std.proofs.Common.{◌≡◌, ℕ, ◌+◌, ◌≤◌, Bool, List, ◌++◌, drop, map, sum_by}
use Rattle.plan_types.specs.declared.plan.Line.{Line}
use Rattle.plan_types.specs.declared.plan.Move.{Move}
use Rattle.plan_types.specs.declared.plan.Part.{Part}
use Rattle.plan_types.specs.declared.plan.Segment.{Segment}
use Rattle.plan_types.specs.Sections.{duration, segment_of, timed}
use Rattle.section_plan.proofs.parts.push_parts.Given as goal

-- the segments so far and those of the parts that are left are all
pub record HasParts (corexy : Bool) (drive : ℕ) (line : Line) (m : Move) (parts : List Part) (begin : ℕ) (old made : List Segment) (before time i : ℕ) : Type 0 where
  pub whole : made ++ map (segment_of corexy drive line) (timed m before time (drop i parts)) ≡ old ++ map (segment_of corexy drive line) (timed m 0 begin parts)
  pub before_is : before + sum_by (λ p. p.d) (drop i parts) ≡ m.d
  pub time_is : time + duration (drop i parts) ≡ begin + duration parts
  pub begun : begin ≤ time

abbrev pub invariant-loop-part : goal.invariant-loop-part
invariant-loop-part l = HasParts l.drive.corexy l.drive.number l.drive.line l.one l.parts l.begin l.initial.made.items l.made.items l.before l.time l.part-index

-- The units of a stepper's plan that is packed, whole or in pieces.
use Rattle.std.specs.Prelude.{◌≡◌, ℕ, Bool, false, Option, Some, None, List, [], ◌∷◌, length, map}
use Rattle.plan_types.specs.declared.plan.Planned.{Planned}
use Rattle.plan_types.specs.Board.{last_of}
use Rattle.plan_types.specs.Lines.{Clocks}
use Rattle.plan_types.specs.Plan.{Fits}
use Rattle.step_pack.specs.declared.Placed.{Placed}
use Rattle.step_feed.specs.Units.{StepUnit}
use Rattle.section_units.specs.Units.{units_on}
use Rattle.section_units.specs.Sections.{AreBegunBy, dir_after, set_to, steps_said}

-- the units of a section that begins at a tick, and homes or not
abbrev pub units_from : Bool → Clocks → ℕ → ℕ → List Planned → List Placed → List StepUnit
units_from homing clocks oid base steps placed = units_on clocks oid (set_to homing base) None steps placed

-- the last tick of some units behind a tick
abbrev pub end_of_units : ℕ → List StepUnit → ℕ
end_of_units behind [] = behind
end_of_units behind (u ∷ us) = end_of_units u.last us

-- the direction behind some units
abbrev pub dir_behind : Bool → List StepUnit → Bool
dir_behind up [] = up
dir_behind up (u ∷ us) = dir_behind (dir_after up u.up) us

-- the direction that was told behind the first units of a section
abbrev pub dir_told : List StepUnit → Option Bool
dir_told [] = None
dir_told (u ∷ us) = Some (dir_behind false (u ∷ us))

-- the tick of the last of some planned steps behind a tick
abbrev pub end_of_plan : ℕ → List Planned → ℕ
end_of_plan base plan = last_of base (map (λ s. s.tick) plan)

-- the units of the next piece of a section's plan, behind those of the pieces before it
abbrev pub units_next : Bool → Clocks → ℕ → ℕ → List StepUnit → List Planned → List Placed → List StepUnit
units_next homing clocks oid base us steps placed = units_on clocks oid (set_to homing base) (dir_told us) steps placed

-- the units of a stepper in a section, which homes or not, are those of a plan so far
pub record ArePackedBy (homing : Bool) (clocks : Clocks) (freq oid base : ℕ) (plan : List Planned)
    (us : List StepUnit) : Type 0 where
  pub begun : AreBegunBy homing clocks base us
  pub fits : Fits freq base (steps_said oid false us) plan
  pub whole : length (steps_said oid false us) ≡ length plan
  pub ends : end_of_units base us ≡ end_of_plan base plan

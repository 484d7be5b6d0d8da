-- A section of which only the first units are there yet.
use Rattle.std.specs.Prelude.{◌≡◌, ℕ, ◌+◌, Bool, false, List, []}
use Rattle.plan_types.specs.declared.plan.Planned.{Planned}
use Rattle.plan_types.specs.Lines.{Clocks}
use Rattle.plan_types.specs.Plan.{AreSpaced, Fits}
use Rattle.step_feed.specs.Units.{StepUnit}
use Rattle.step_feed.specs.Pacing.{ArePaced, Release, units_of}
use Rattle.section_units.specs.Sections.{AreBegunBy, BoardSection, base_of, of_stepper, section_steps, steps_said}

-- the first units of a stepper in a section, which homes or not: each step that they mean fits the step of
-- the plan at its place
pub record AreFirstOfBy (homing : Bool) (clocks : Clocks) (freq oid base : ℕ) (plan : List Planned)
    (us : List StepUnit) : Type 0 where
  pub begun : AreBegunBy homing clocks base us
  pub fits : Fits freq base (steps_said oid false us) plan

-- A section, which homes or not, of which these units were released so far: those of each stepper are the
-- first ones of its plan, and they are paced from 250 turns before its start on.
pub record IsFrontBy (homing : Bool) (clocks : Clocks) (freq slots : ℕ) (s : BoardSection) : Type 0 where
  pub spaced : (oid : ℕ) → AreSpaced (base_of clocks s) (s.plan oid)
  pub begun : (oid : ℕ) → AreBegunBy homing clocks (base_of clocks s) (of_stepper oid (units_of s.releases))
  pub fits : (oid : ℕ) → Fits freq (base_of clocks s) (section_steps oid s) (s.plan oid)
  pub from : ℕ
  pub exact : from + 250 ≡ s.start
  pub paced : ArePaced clocks slots from [] s.releases

-- and of one of moves, which does not home
abbrev pub IsSectionFront : Clocks → ℕ → ℕ → BoardSection → Type 0
IsSectionFront clocks freq slots s = IsFrontBy false clocks freq slots s

-- a section that starts and ends in these turns, with the plan of each object id and its units
abbrev pub section_from : ℕ → ℕ → (ℕ → List Planned) → List Release → BoardSection
section_from start end plan releases = record { start = start; end = end; plan = plan; releases = releases }

-- The steppers that move in the homing sections of a board.
use Rattle.std.specs.Prelude.{◌≡◌, ◌≢◌, ◌<◌, ℕ, List, [], ◌∷◌, length}
use Rattle.plan_types.specs.declared.machine.Machine.{Machine}
use Rattle.plan_types.specs.declared.plan.SectionKind.TheVariants.{Home}
use Rattle.plan_types.specs.Lines.{Clocks}
use Rattle.plan_types.specs.Machines.{axis_at, stepper_at}
use Rattle.step_feed.specs.Pacing.{units_of}
use Rattle.section_units.specs.Sections.{of_stepper}
use Rattle.axis_homing.specs.Homing.{members_from}
use Rattle.motion_work.specs.Seen.{Started}
use Rattle.laws_homing.specs.home_runs.Sections.{Moves}
use Rattle.laws_homing.specs.home_parts.Cuts.{cut_on}

-- an object id of a board is that of a stepper which moves in a section that homes an axis
pub record IsMover (m : Machine) (b : ℕ) (s : Started) (axis oid : ℕ) : Type 0 where
  pub stepper : ℕ
  pub there : stepper < length m.steppers
  pub on : (stepper_at m stepper).board ≡ b
  pub oid_is : (stepper_at m stepper).oid ≡ oid
  pub moves : Moves b stepper (members_from m (axis_at m axis) s.moving 0 m.boards)

-- so is each that has units in one of these homing sections, released before a turn
abbrev pub HaveMovers : Machine → List Clocks → ℕ → ℕ → List Started → Type 0
HaveMovers m clocks turn b [] = Unit {0}
HaveMovers m clocks turn b (s ∷ begun) =
    ((axis oid : ℕ) → s.section.kind ≡ Home axis →
    of_stepper oid (units_of (cut_on m clocks turn b s).section.releases) ≢ [] → IsMover m b s axis oid)
    × HaveMovers m clocks turn b begun

-- What a planner puts in a turn, told by the sections that were begun.
use Rattle.std.specs.Prelude.{◌≡◌, ℕ, ◌+◌, ◌<◌, ◌≤◌, All, List, [], ◌∷◌, ◌++◌, length, slice_index_or, Option, Some, None}
use Rattle.plan_types.specs.Sections.{is_home}
use Rattle.gcode_program.specs.Programs.{program_sections}
use Rattle.plan_types.specs.declared.machine.Machine.{Machine}
use Rattle.plan_types.specs.declared.plan.Section.{Section}
use Rattle.plan_types.specs.Lines.{Clocks}
use Rattle.step_feed.specs.Pacing.{Release}
use Rattle.section_units.specs.Plans.{AreSentOn, IsFrontOnBy}
use Rattle.motion_work.specs.Puts.{IsPut, Put}
use Rattle.motion_work.specs.Seen.{Started, planning_lines, ready_after}
use Rattle.motion_work.specs.Told.{Told}
use Rattle.motion_stream.specs.Seen.{sections_in}
use Rattle.motion_stream.specs.Wholes.{IsToldOf}

-- The units of a section on a board that are released before a turn, whether it homes or not. Those of each
-- stepper mean the first steps of its plan, each triple with its exact first tick, and each is released in
-- the turn that the pacing from 250 turns before the start on gives it. They stand in the order of their
-- first ticks, then of object ids, and each triple covers as many steps as one can.
pub record HasUnits (m : Machine) (clocks : List Clocks) (turn : ℕ) (s : Started) (b : ℕ) : Type 0 where
  pub sent : List Release
  pub later : List Release
  pub are : slice_index_or s.boards b [] ≡ sent ++ later
  pub behind : All (λ r. turn ≤ r.turn) later
  pub planned : IsFrontOnBy (is_home s.section.kind) m (planning_lines s.section.kind s.end clocks)
      s.section.moves s.start b
      sent
  pub longest : AreSentOn m (planning_lines s.section.kind s.end clocks) s.section.moves s.start b sent

-- so some sections have them, on all boards
abbrev pub HaveUnits : Machine → List Clocks → ℕ → List Started → Type 0
HaveUnits m clocks turn [] = Unit {0}
HaveUnits m clocks turn (s ∷ begun) =
    ((b : ℕ) → b < length m.boards → HasUnits m clocks turn s b) × HaveUnits m clocks turn begun

-- by what is known of the boards' clocks; before that there is no section
abbrev pub HaveUnitsBy : Machine → Option Told → ℕ → List Started → Type 0
HaveUnitsBy m None turn begun = begun ≡ []
HaveUnitsBy m (Some t) turn begun = HaveUnits m t.clocks turn begun

-- What is put in turn k, told by these sections of a text: they are its first ones, planned by the boards'
-- clock lines, and start one behind the other; these are all that start by turn k + 260. Each board's batch
-- is exactly what they release in turn k, section by section, and the note tells which of them end in it and
-- which is begun.
pub record IsTurnOf (m : Machine) (text : List ℕ) (clocks : Option Told) (k : ℕ) (begun : List Started) (p : Put)
    : Type 0 where
  pub others : List Section
  pub sections : program_sections m text ≡ sections_in begun ++ others
  pub planned : IsToldOf m clocks begun
  pub started : All (λ s. s.start < k + 261) begun
  pub due : (t : Told) (s : Section) (rest : List Section) → clocks ≡ Some t → others ≡ s ∷ rest →
      k + 261 ≤ ready_after t.first begun + s.dwell
  pub units : HaveUnitsBy m clocks (k + 1) begun
  pub put : IsPut m text begun k p

-- What the steppers of a board are.
use Rattle.std.specs.Prelude.{ℕ, ◌*◌, ◌==◌, Bool, List, [], ◌∷◌, slice_index_or, if◌then◌else◌}
use Rattle.plan_types.specs.declared.machine.Machine.{Machine}
use Rattle.plan_types.specs.declared.machine.StepperDef.{StepperDef}
use Rattle.plan_types.specs.Clock.{turn_ns}
use Rattle.plan_types.specs.Lines.{Clocks, lines_tick}
use Rattle.plan_types.specs.Machines.{no_stepper}
use Rattle.section_units.specs.Sections.{set_to}
use Rattle.section_stream.specs.Steppers.{StepperKind, kind_from}

-- the steppers of one board, in their order
abbrev pub steppers_on : ℕ → List StepperDef → List StepperDef
steppers_on b [] = []
steppers_on b (s ∷ ss) = if s.board == b then s ∷ steppers_on b ss else steppers_on b ss

-- what the steppers of a board are in a section that begins with a turn; in a homing section no clock is set
abbrev pub board_kinds : Machine → Clocks → ℕ → ℕ → Bool → ℕ → StepperKind
board_kinds m clocks b turn homing k =
    kind_from m.corexy (slice_index_or (steppers_on b m.steppers) k no_stepper) clocks.first
    (set_to homing (lines_tick clocks (turn * turn_ns)))

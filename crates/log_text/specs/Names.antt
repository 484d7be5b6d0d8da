-- The numbers of boards and steppers, by their names.
use Rattle.std.specs.Prelude.{ℕ, ◌+◌, List, [], ◌∷◌, if◌then◌else◌, Option, Some, None}
use Rattle.std.specs.Str.{bytes_eq}
use Rattle.plan_types.specs.declared.machine.BoardDef.{BoardDef}
use Rattle.plan_types.specs.declared.machine.StepperDef.{StepperDef}
use Rattle.text_core.specs.Bytes.{Text}

-- the number of the first board of a name, where they are counted from k on
abbrev pub board_from : ℕ → Text → List BoardDef → Option ℕ
board_from k name [] = None
board_from k name (b ∷ boards) = if bytes_eq b.name name then Some k else board_from (k + 1) name boards

-- the number of the first stepper of a name, where they are counted from k on
abbrev pub stepper_from : ℕ → Text → List StepperDef → Option ℕ
stepper_from k name [] = None
stepper_from k name (s ∷ steppers) = if bytes_eq s.name name then Some k else stepper_from (k + 1) name steppers

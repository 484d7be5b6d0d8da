-- The units of a board, and how many bytes their commands take.
use Rattle.std.specs.Prelude.{ℕ, ◌+◌, ◌%◌, ◌^◌, Bool, Option, Some, None}
use Rattle.std.specs.Int.{cast_unsigned, w32}
use Rattle.vlq_code.specs.Spelling.{byte_count}
use Rattle.msg_code.specs.declared.unit.Unit.{Unit}

-- a unit of commands for one stepper
abbrev pub StepUnit : Type 0
StepUnit = Unit

-- `queue_step` with its four parameters; the identifiers of the boards' own dictionary take one byte
unfoldable pub queue_bytes : StepUnit → ℕ
queue_bytes u =
    1 + byte_count u.stepper + byte_count u.triple.interval + byte_count u.triple.count
    + byte_count (cast_unsigned w32 u.triple.add)

-- `set_next_step_dir`, where the direction is told
abbrev pub dir_bytes : ℕ → Option Bool → ℕ
dir_bytes stepper None = 0
dir_bytes stepper (Some up) = 2 + byte_count stepper

-- `reset_step_clock`, where a clock is told
abbrev pub reset_bytes : ℕ → Option ℕ → ℕ
reset_bytes stepper None = 0
reset_bytes stepper (Some clock) = 1 + byte_count stepper + byte_count (clock % 2 ^ 32)

-- all commands of a unit
unfoldable pub unit_bytes : StepUnit → ℕ
unit_bytes u = queue_bytes u + dir_bytes u.stepper u.up + reset_bytes u.stepper u.reset

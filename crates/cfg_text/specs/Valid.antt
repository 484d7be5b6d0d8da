-- What the parts of a valid machine are, before it is whole.
use Rattle.std.specs.Prelude.{◌≡◌, ◌≢◌, ℕ, Option, Some, None, pos, negsuc, ◌+ℤ◌, ◌<◌, ◌≤◌, ◌≤ℤ◌, ◌==◌, List, AllPairs, length, take, count_by, slice_index_or}
use Rattle.plan_types.specs.declared.machine.BoardDef.{BoardDef}
use Rattle.plan_types.specs.declared.machine.StepperDef.{StepperDef}
use Rattle.plan_types.specs.declared.machine.AxisDef.{AxisDef}
use Rattle.plan_types.specs.declared.machine.FanDef.{FanDef}
use Rattle.plan_types.specs.Machines.{no_board, no_stepper}
use Rattle.plan_types.specs.Valid.{IsValidGear}
use Rattle.cfg_text.specs.declared.missing.Range.{Range}

-- the range of an axis
pub record IsValidRange (r : Range) : Type 0 where
  pub low : negsuc 499_999_999 ≤ℤ r.low
  pub high : r.high ≤ℤ pos 500_000_000
  pub apart : (r.low +ℤ pos 1_000_000) ≤ℤ r.high
  pub above : r.low ≤ℤ r.endstop
  pub below : r.endstop ≤ℤ r.high

-- an axis on these boards
pub record IsAxisOn (boards : List BoardDef) (a : AxisDef) : Type 0 where
  pub low : negsuc 499_999_999 ≤ℤ a.min
  pub high : a.max ≤ℤ pos 500_000_000
  pub apart : (a.min +ℤ pos 1_000_000) ≤ℤ a.max
  pub endstop_low : a.min ≤ℤ a.endstop
  pub endstop_high : a.endstop ≤ℤ a.max
  pub speed_low : 100_000 ≤ a.speed
  pub speed_high : a.speed ≤ 1_000_000_000
  pub board : a.board < length boards
  pub pin : a.pin < length (slice_index_or boards a.board no_board).pins

-- a stepper on these boards, behind these steppers
pub record IsStepperBehind (boards : List BoardDef) (before : List StepperDef) (s : StepperDef) : Type 0 where
  pub board : s.board < length boards
  pub oid : s.oid ≡ count_by (λ t. t.board == s.board) before
  pub drive : s.drive < 4
  pub gear : IsValidGear s.gear
  pub step_pin : s.step_pin < length (slice_index_or boards s.board no_board).pins
  pub dir_pin : s.dir_pin < length (slice_index_or boards s.board no_board).pins

-- steppers on these boards
abbrev pub AreSteppersOn : List BoardDef → List StepperDef → Type 0
AreSteppersOn boards steppers =
    (k : ℕ) → k < length steppers → IsStepperBehind boards (take k steppers) (slice_index_or steppers k no_stepper)

-- a part fan on these boards, where there is one
abbrev pub IsFanOn : List BoardDef → Option FanDef → Type 0
IsFanOn boards None = Unit {0}
IsFanOn boards (Some f) = (f.board < length boards) × (f.pin < length (slice_index_or boards f.board no_board).pins)

-- boards whose names differ
abbrev pub NamesDiffer : List BoardDef → Type 0
NamesDiffer boards = AllPairs (λ b c. b.name ≢ c.name) boards

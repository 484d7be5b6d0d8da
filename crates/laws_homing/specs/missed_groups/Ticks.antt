-- The tick at which the switch of an axis closes, as a homing section reads it.
use Rattle.std.specs.Prelude.{◌≡◌, ◌⊎◌, ◌*◌, ◌/◌, ℕ, true, List, [], ◌∷◌, slice_index_or}
use Rattle.plan_types.specs.declared.levels.Level.{Level}
use Rattle.plan_types.specs.declared.machine.AxisDef.{AxisDef}
use Rattle.plan_types.specs.declared.machine.Machine.{Machine}
use Rattle.plan_types.specs.Machines.{board_at}
use Rattle.board_trig.specs.declared.sampling.Sampling.{Sampling}
use Rattle.board_trig.specs.Sampling.{IsTriggerTick}
use Rattle.trigger_group.specs.declared.order.Member.{Member}

-- how a board reads an axis's endstop from a tick on: four readings 15 µs apart, in groups that begin 100 µs apart
abbrev pub readings_from : Machine → ℕ → AxisDef → ℕ → Sampling
readings_from m b axis tick = record {
  at = tick;
  sample = (board_at m b).freq * 15 / 1_000_000;
  count = 4;
  rest = (board_at m b).freq / 10_000;
  value = axis.pressed;
  reason = 1;
}

-- The tick at which its switch triggers, by the levels of the board's pins: the last reading of the first
-- group from a tick on whose readings all show it pressed. There is one at most.
abbrev pub IsSwitchTick : Machine → List (List Level) → ℕ → AxisDef → ℕ → ℕ → Type 0
IsSwitchTick m pins b axis begin tick =
    IsTriggerTick (slice_index_or pins axis.pin []) (readings_from m b axis begin) tick

-- a board is the member with the endstop
abbrev pub IsReader : ℕ → List Member → Type 0
IsReader b [] = ⊥
IsReader b (x ∷ xs) = ((x.board ≡ b) × (x.endstop ≡ true)) ⊎ IsReader b xs

-- Lines of any bytes, which words read of them leave in range.
use Rattle.std.proofs.Common.{◌≡◌, ℕ, ◌+◌, ◌*◌, ◌^◌, Bool, true, false, List, Ok, Err, refl, arith, if◌then◌else◌}
use Rattle.std.proofs.lemmas.Int.{ints}
use Rattle.std.specs.Prelude.{Result, IfOk}
use Rattle.plan_types.specs.declared.cause.LineKind.{LineKind}
use Rattle.plan_types.specs.declared.cause.LineKind.TheVariants as kinds
use Rattle.plan_types.specs.declared.machine.AxisDef.{AxisDef}
use Rattle.plan_types.specs.declared.machine.Machine.{Machine}
use Rattle.plan_types.specs.Machines.{IsValidAxis, IsValidMachine, axis_at}
use Rattle.gcode_text.specs.declared.fault.FaultKind.{FaultKind}
use Rattle.gcode_text.specs.declared.word.Word.{Word}
use Rattle.gcode_text.specs.Lines.{reading}
use Rattle.gcode_state.specs.declared.state.Action.{Action}
use Rattle.gcode_state.specs.declared.state.State.{State}
use Rattle.gcode_state.specs.declared.state.StateFault.{StateFault}
use Rattle.gcode_state.specs.Sound.{IsSteady}
use Rattle.gcode_state.specs.Starts.{axis_from, initial}
use Rattle.gcode_state.specs.States.{IsValidAction, applied, weight}
use Rattle.gcode_state.proofs.Ranging.{IsFine, IsRanged, plain_axis, word_fine, zero_within}
use Rattle.gcode_state.proofs.Weights.{accepted_counted}
use Rattle.gcode_program.specs.Readings.{applied_line, applied_reading, as_kind, is_large, line_result}
use Rattle.gcode_program.proofs.Homing.{axis_valid}

-- what an accepted line leaves, and its action, for which it counts
pub record IsAccepted (s : State) (next : State × Action) : Type 0 where
  pub ranged : IsRanged next.0
  pub valid : IsValidAction next.1
  pub count : next.0.count ≡ s.count + weight next.1

as_accepted : (s : State) (word : Word) (r : Result (State × Action) StateFault) → r ≡ applied s word → IfOk r (IsFine s) → IfOk (as_kind r) (IsAccepted s)
as_accepted s word (Ok next) e h = record { ranged = h.ranged; valid = h.valid; count = accepted_counted s s next.0 next.1 word refl e }
as_accepted s word (Err fault) e h = tt

read_accepted : (s : State) (r : Result Word FaultKind) → IsRanged s → IfOk (applied_reading s r) (IsAccepted s)
read_accepted s (Ok word) h = as_accepted s word (applied s word) refl (word_fine s word h)
read_accepted s (Err fault) h = tt

not_large : (s : State) (b : Bool) (r : Result (State × Action) LineKind) → IfOk r (IsAccepted s) → IfOk (if b then Err kinds.TooLarge else r) (IsAccepted s)
not_large s true r h = tt
not_large s false r h = h

-- a line of any bytes
pub line_accepted : (size start : ℕ) (s : State) (line : List ℕ) → IsRanged s → IfOk (line_result size start s line) (IsAccepted s)
unfolding line_result applied_line
line_accepted size start s line h = not_large s (is_large size start line) (applied_reading s (reading line)) (read_accepted s (reading line) h)

-- the state before the first line
first_steady : (m : Machine) (a : AxisDef) → IsValidAxis m a → IsSteady (plain_axis (axis_from m.homed a))
first_steady m a valid =
    let low = valid.low in
    let high = valid.high in
    let apart = valid.apart in
    let e1 = valid.endstop_low in
    let e2 = valid.endstop_high in
    record {
      min = record { below = omega (arith, ints, low, high, apart); above = omega (arith, ints, low, high, apart) };
      max = record { below = omega (arith, ints, low, high, apart); above = omega (arith, ints, low, high, apart) };
      order = omega (arith, ints, apart);
      endstop = record { below = omega (arith, ints, high, e2); above = omega (arith, ints, low, e1) };
      at = zero_within 500000000;
      reads = zero_within (2 ^ 65);
    }

pub initial_ranged : (m : Machine) → IsValidMachine m → IsRanged (initial m)
unfolding initial
initial_ranged m valid = record {
  x = first_steady m (axis_at m 0) (axis_valid m 0 valid (omega arith));
  y = first_steady m (axis_at m 1) (axis_valid m 1 valid (omega arith));
  z = first_steady m (axis_at m 2) (axis_valid m 2 valid (omega arith));
  top = valid.speed_high;
  speed_factor = omega arith;
  e_factor = omega arith;
  e_factor_low = omega arith;
  acceleration_low = valid.acceleration_low;
  acceleration_high = valid.acceleration_high;
  count = omega arith;
  lines = omega arith;
  e_at = zero_within (500000000 * 0);
  e_reads = zero_within (2 ^ 63 + 2 ^ 36 * 0);
}

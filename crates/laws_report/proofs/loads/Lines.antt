-- What the lines of a load do, one behind the other.
use Rattle.std.proofs.Common.{◌≡◌, ℕ, ◌+◌, ◌*◌, ◌<◌, ◌≤◌, Bool, true, false, List, [], ◌∷◌, refl, arith, if◌then◌else◌}
use Rattle.std.specs.Prelude.{◌&&◌, ◌||◌, int_lt, nat_le, ℤ, pos, ◌+ℤ◌, ◌-ℤ◌, Option, None, Some, Ok}
use Rattle.laws_board.proofs.Names.{nat_tests}
use Rattle.std.proofs.lemmas.Int.{ints}
use Rattle.gcode_state.specs.declared.state.Action.{Action}
use Rattle.gcode_state.specs.declared.state.Action.TheVariants as actions
use Rattle.gcode_state.specs.declared.state.Axis.{Axis}
use Rattle.gcode_state.specs.declared.state.State.{State}
use Rattle.gcode_state.specs.declared.state.StateFault.{StateFault}
use Rattle.gcode_state.specs.declared.state.StateFault.TheVariants.{TooMany}
use Rattle.gcode_state.specs.Starts.{initial}
use Rattle.gcode_state.specs.States.{aim_of, differs, has_relative_e, is_any_outside, is_any_unhomed, is_long, is_slow, is_too_many, linear, move_fault, moved, moves, stretched, unmeasured}
use Rattle.gcode_program.specs.Readings.{applied_line, is_passed}
use Rattle.generated_load.specs.Printer.{load_machine}
use Rattle.laws_report.specs.loads.Path.{load_move}
use Rattle.laws_report.specs.meshes.Bent.{differ}
use Rattle.laws_report.proofs.loads.Words.{line_read, place_line, place_words}
use Rattle.std.proofs.lemmas.Bool.{and_right}

-- an axis of the load's printer at a place
abbrev pub axis_on : ℕ → Axis
axis_on x = record { min = pos 0; max = pos 200_000_000; endstop = pos 0; homed = true; at = pos x; reads = pos x }

-- what the lines leave: a speed, a place, and how many moves and lines there were
abbrev pub standing : ℕ → ℕ → ℕ → ℕ → ℕ → State
standing feed x y count lines = record {
  top = 300_000_000;
  x = axis_on x;
  y = axis_on y;
  z = axis_on 0;
  e_at = pos 0;
  e_reads = pos 0;
  relative = false;
  relative_e = false;
  feed = feed;
  speed_factor = 100_000_000;
  e_factor = 100_000_000;
  acceleration = 3_000_000_000;
  count = count;
  lines = lines;
}

pub begins : initial load_machine ≡ standing 1_500_000_000 0 0 0 0
unfolding initial
begins = refl

abbrev pub place : ℕ → ℕ → List ℤ
place x y = pos x ∷ pos y ∷ pos 0 ∷ pos 0 ∷ []

there : (x to : ℕ) → pos x +ℤ (pos to -ℤ pos x) ≡ pos to
there x to = omega (arith, ints)

inside : (n : ℕ) → n ≤ 200_000_000 → (int_lt (pos n) (pos 0) || int_lt (pos 200_000_000) (pos n)) ≡ false
inside n few = grind (arith, ints, nat_tests)

room : (count : ℕ) → count < 2_000_000 → nat_le 2000000 count ≡ false
room count few = grind (arith, nat_tests)

abbrev fault_if : Bool → Option StateFault
fault_if b = if b then Some TooMany else None

never : (b : Bool) → fault_if (b && false) ≡ None
never true = refl
never false = refl

no_fault : (x y a b count lines : ℕ) → a < 200_001 → b < 200_001 → count < 2_000_000
    → move_fault (standing 6_000_000_000 x y count lines) (aim_of (standing 6_000_000_000 x y count lines) (place_words a b)) false ≡ None
unfolding move_fault is_slow is_any_unhomed is_any_outside is_long is_too_many aim_of has_relative_e stretched
no_fault x y a b count lines few less more =
    rw (there x (a * 1_000), there y (b * 1_000), inside (a * 1_000) (omega arith), inside (b * 1_000) (omega arith), room count more, and_right (differs (pos x) (pos (a * 1_000))) false refl, and_right (differs (pos y) (pos (b * 1_000))) false refl) (never _)

-- what the line of a move does
abbrev pub act_by : List ℤ → List ℤ → Action
act_by from to = if differ from to then actions.Move (load_move from to) else actions.None

abbrev pub count_by : ℕ → List ℤ → List ℤ → ℕ
count_by count from to = if differ from to then count + 1 else count

pub move_applied : (x y a b count lines : ℕ) → a < 200_001 → b < 200_001 → count < 2_000_000
    → applied_line (standing 6_000_000_000 x y count lines) (place_line a b)
    ≡ Ok (standing 6_000_000_000 (a * 1_000) (b * 1_000) (count_by count (place x y) (place (a * 1_000) (b * 1_000))) (lines + 1), act_by (place x y) (place (a * 1_000) (b * 1_000)))
unfolding applied_line linear moved moves unmeasured aim_of has_relative_e stretched
move_applied x y a b count lines few less more =
    rw (line_read a b few less, no_fault x y a b count lines few less more, there x (a * 1_000), there y (b * 1_000)) refl

pub move_passed : (a b : ℕ) → a < 200_001 → b < 200_001 → is_passed (place_line a b) ≡ false
unfolding is_passed
move_passed a b few less = rw (line_read a b few less) refl

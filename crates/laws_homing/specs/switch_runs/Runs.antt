-- What the endstops of a board read in a run.
use Rattle.std.specs.Prelude.{◌≡◌, ◌⊎◌, ◌+◌, ◌*◌, ◌/◌, ℕ, List, [], ◌∷◌, Some, length, slice_index_or}
use Rattle.msg_code.specs.Units.{bit}
use Rattle.plan_types.specs.declared.levels.Level.{Level}
use Rattle.plan_types.specs.declared.machine.AxisDef.{AxisDef}
use Rattle.plan_types.specs.declared.machine.Machine.{Machine}
use Rattle.plan_types.specs.Lines.{Clocks}
use Rattle.plan_types.specs.Machines.{axis_at, board_at}
use Rattle.plan_types.specs.Sections.{clocks_at}
use Rattle.clock_line.specs.Early.{turn_tick}
use Rattle.board_trig.specs.declared.sampling.Homing.{Homing as Readings}
use Rattle.wire_scene.specs.declared.scene.Switch.{Switch}
use Rattle.board_asking.specs.Machine.{endstop_pins, trigger_of}
use Rattle.axis_homing.specs.declared.homing.Homing.{Homing}
use Rattle.axis_homing.specs.Homing.{low}
use Rattle.host_reactor.specs.Notes.{noted}
use Rattle.host_reactor.specs.Runs.{Came, known_by}
use Rattle.laws_homing.specs.switch_runs.Reading.{IsComplete}

-- an endstop with this object id has this pin, of some pins whose endstops stand from a place on
abbrev pub IsAt : ℕ → ℕ → ℕ → List ℕ → Type 0
IsAt oid pin place [] = ⊥
IsAt oid pin place (p ∷ pins) = ((oid ≡ place) × (pin ≡ p)) ⊎ IsAt oid pin (place + 1) pins

-- so one of a board's endstops
abbrev pub IsEndstop : Machine → ℕ → (ℕ → (ℕ → Type 0))
IsEndstop m b oid pin = IsAt oid pin (trigger_of m b + 1) (endstop_pins m b)

-- how a board reads an axis's endstop, from a clock on: four readings 15 µs apart, in groups that begin 100 µs apart
abbrev pub readings : Machine → ℕ → AxisDef → ℕ → Readings
readings m b axis clock = record {
  clock = clock;
  sample_ticks = (board_at m b).freq * 15 / 1_000_000;
  sample_count = 4;
  rest_ticks = (board_at m b).freq / 10_000;
  pin_value = bit axis.pressed;
  reason = 1;
}

-- in a turn of the reactor a homing section of an axis with this start is known, and these clock lines of a board
pub record KnowsSo (m : Machine) (switches : List Switch) (b start axis : ℕ) (lines : Clocks) (c : Came)
    (before : List Came) : Type 0 where
  pub homing : Homing
  pub known : (noted m c.note (known_by m switches before)).homing ≡ Some homing
  pub start_is : homing.start ≡ start
  pub axis_is : homing.axis ≡ axis
  pub lines_are : lines ≡ clocks_at (noted m c.note (known_by m switches before)).clocks b

-- so in the turn with this number, of some turns
abbrev pub KnewSo : Machine → List Switch → ℕ → ℕ → ℕ → ℕ → Clocks → List Came → Type 0
KnewSo m switches b at start axis lines [] = ⊥
KnewSo m switches b at start axis lines (c ∷ before) =
    ((length before ≡ at) × KnowsSo m switches b start axis lines c before)
    ⊎ KnewSo m switches b at start axis lines before

-- A tick at which a board's readings of an axis's endstop are complete, where it took the command that begins them at
-- another: those that the homing section of this axis with this start has it make, from its start on, by the clock
-- lines that are known in the turn with this number.
pub record IsReadAt (m : Machine) (switches : List Switch) (pins : List (List Level)) (b at start axis : ℕ)
    (came : List Came) (now tick : ℕ) : Type 0 where
  pub lines : Clocks
  pub knew : KnewSo m switches b at start axis lines came
  pub complete : IsComplete (slice_index_or pins (axis_at m axis).pin [])
      (readings m b (axis_at m axis) (low (turn_tick lines start))) now tick

-- so those that any homing section has it make, whenever it took their command
pub record IsReadInRun (m : Machine) (switches : List Switch) (pins : List (List Level)) (b : ℕ) (came : List Came)
    (tick : ℕ) : Type 0 where
  pub at : ℕ
  pub start : ℕ
  pub axis : ℕ
  pub now : ℕ
  pub read : IsReadAt m switches pins b at start axis came now tick

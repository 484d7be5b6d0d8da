-- The clock lines of boards, as the boards' lines of a report tell them.
use Rattle.std.specs.Prelude.{◌≡◌, ℕ, ◌*◌, ◌<◌, ◌≤◌, ◌^◌, List, length, map}
use Rattle.plan_types.specs.declared.machine.Machine.{Machine}
use Rattle.plan_types.specs.declared.plan.Move.{Move}
use Rattle.plan_types.specs.Clock.{tick, turn_ns}
use Rattle.plan_types.specs.Lines.{Clocks}
use Rattle.plan_types.specs.Machines.{board_at, stepper_at}
use Rattle.plan_types.specs.Sections.{base_tick, clocks_at, section_end, stepper_plan}
use Rattle.clock_line.specs.Kept.{AreKept}
use Rattle.laws_board.specs.orders.Renewed.{NoneBefore}

-- the lines of a board, the first one told at the beginning of a turn: from then on, with the board's tick then
abbrev pub retold : ℕ → Clocks → Clocks
retold turn clocks =
    record {
      first = record { at = turn * turn_ns; clock = tick clocks.first (turn * turn_ns); freq = clocks.first.freq };
      held = clocks.held;
    }

-- those of all boards
abbrev pub all_retold : ℕ → List Clocks → List Clocks
all_retold turn clocks = map (retold turn) clocks

-- the lines of each board of a machine hold one after the other, the first one from before a turn on, and the
-- others from then on or later
pub record HaveLines (m : Machine) (clocks : List Clocks) (turn : ℕ) : Type 0 where
  pub boards : length clocks ≡ length m.boards
  pub kept : (b : ℕ) → b < length m.boards → AreKept (clocks_at clocks b)
  pub behind : (b : ℕ) → b < length m.boards → NoneBefore turn (clocks_at clocks b).held
  pub freq : (b : ℕ) → b < length m.boards → (clocks_at clocks b).first.freq ≡ (board_at m b).freq
  pub before : (b : ℕ) → b < length m.boards → (clocks_at clocks b).first.at ≤ turn * turn_ns
  pub soon : turn < 2 ^ 62

-- the plan of a section by some clock lines is that by others
pub record PlanAlike (m : Machine) (clocks others : List Clocks) (moves : List Move) (turn : ℕ) : Type 0 where
  pub freq : (s : ℕ) →
      (clocks_at clocks (stepper_at m s).board).first.freq ≡ (clocks_at others (stepper_at m s).board).first.freq
  pub base : (s : ℕ) → base_tick m clocks turn s ≡ base_tick m others turn s
  pub steps : (s : ℕ) → stepper_plan m clocks moves turn s ≡ stepper_plan m others moves turn s
  pub end : section_end m clocks moves turn ≡ section_end m others moves turn

-- so the plan of each stepper that is there
pub record PlansAlike (m : Machine) (clocks others : List Clocks) (moves : List Move) (turn : ℕ) : Type 0 where
  pub freq : (s : ℕ) → s < length m.steppers →
      (clocks_at clocks (stepper_at m s).board).first.freq ≡ (clocks_at others (stepper_at m s).board).first.freq
  pub base : (s : ℕ) → s < length m.steppers → base_tick m clocks turn s ≡ base_tick m others turn s
  pub steps : (s : ℕ) → s < length m.steppers → stepper_plan m clocks moves turn s ≡ stepper_plan m others moves turn s
  pub end : section_end m clocks moves turn ≡ section_end m others moves turn

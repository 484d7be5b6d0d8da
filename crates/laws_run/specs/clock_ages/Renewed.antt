-- How the clock lines of a board are renewed in a whole run.
use Rattle.std.specs.Prelude.{◌≡◌, ◌⊎◌, ℕ, ◌+◌, ◌*◌, ◌≤◌, pos}
use Rattle.plan_types.specs.declared.machine.Machine.{Machine}
use Rattle.plan_types.specs.Clock.{turn_ns}
use Rattle.plan_types.specs.Lines.{Clocks, last_from}
use Rattle.plan_types.specs.Machines.{board_at}
use Rattle.clock_line.specs.Samples.{ppm_size}
use Rattle.laws_board.specs.orders.Renewed.{ComeInTime}

-- The clock lines of a board in a run of so many turns behind the first are renewed in time: none holds later
-- than 345 turns behind the last turn, and its clock is exact, or each line is followed by the next before it
-- is too old, up to 400 turns behind the last turn.
abbrev pub StayYoung : Machine → ℕ → Clocks → ℕ → Type 0
StayYoung m b clocks turns =
    (last_from 0 clocks.held ≤ (turns + 345) * turn_ns)
    × (((board_at m b).drift ≡ pos 0)
    ⊎ ((ppm_size (board_at m b).drift ≤ 200) × ComeInTime (board_at m b).drift clocks.first clocks.held (turns + 400)))

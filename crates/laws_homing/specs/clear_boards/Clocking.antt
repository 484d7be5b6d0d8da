-- Ticks of a homing section's timeouts and reports, by a board and by its clock lines.
use Rattle.std.specs.Prelude.{◌≡◌, ◌<◌, ◌≤◌, ◌+◌, ◌*◌, ◌%◌, ◌^◌, ℕ, Some}
use Rattle.plan_types.specs.Board.{nearest}
use Rattle.plan_types.specs.Clock.{turn_ns}
use Rattle.plan_types.specs.Lines.{Clocks, lines_tick}
use Rattle.clock_line.specs.Early.{turn_in_run, turn_tick}

-- A timeout at a turn, as a command carries it, is taken by a board that stands at its tick of another: the
-- tick that the board reads is that of the clock lines, and it is later than the board's.
pub record IsAhead (own : ℕ → ℕ) (clocks : Clocks) (turn timeout : ℕ) : Type 0 where
  pub is : nearest (own turn) (turn_tick clocks timeout % 2 ^ 32) ≡ lines_tick clocks (timeout * turn_ns)
  pub later : own turn < lines_tick clocks (timeout * turn_ns)

-- A report of a tick that the board came to in a turn or later, told in a state of another turn, counts at
-- just this tick, and in a turn that is at most four before the first.
pub record IsCounted (clocks : Clocks) (turn from tick : ℕ) : Type 0 where
  pub is : nearest (turn_tick clocks turn) (tick % 2 ^ 32) ≡ tick
  pub when : ℕ
  pub in_run : turn_in_run clocks (nearest (turn_tick clocks turn) (tick % 2 ^ 32)) ≡ Some when
  pub late : from ≤ when + 4
  pub ends : (end : ℕ) → tick < lines_tick clocks ((end + 1) * turn_ns) → when ≤ end
  pub begun : (start : ℕ) → lines_tick clocks (start * turn_ns) ≤ tick → start ≤ when

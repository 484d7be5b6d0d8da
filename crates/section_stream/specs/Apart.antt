-- Turns of a board that are apart.
use Rattle.std.specs.Prelude.{ℕ, ◌+◌, ◌-◌, ◌*◌, ◌≤◌}
use Rattle.plan_types.specs.Clock.{tick, turn_ns}
use Rattle.plan_types.specs.Lines.{Clocks, lines_tick}
use Rattle.plan_types.specs.Plan.{max_error}
use Rattle.plan_types.specs.declared.plan.Line.{Line}

-- Each turn of a board, from the time of its first line on, begins at least 25 microseconds after the sixth
-- one before it: by as many ticks as a step may be early. For so long the ticks may stand still where a line
-- is behind the ones before it.
pub record AreTurnsApart (clocks : Clocks) : Type 0 where
  pub turns : (k : ℕ) → clocks.first.at ≤ k * turn_ns →
      lines_tick clocks (k * turn_ns) + max_error clocks.first.freq ≤ lines_tick clocks ((k + 6) * turn_ns)

-- A line that holds from a turn on is not too far behind the others: six turns later it is past the tick that
-- they have then, by as many ticks as a step may be early. And their ticks do not stand still at that time.
pub record IsNearby (clocks : Clocks) (turn : ℕ) (line : Line) : Type 0 where
  pub goes : lines_tick clocks ((turn - 1) * turn_ns) + max_error clocks.first.freq ≤ lines_tick clocks (turn * turn_ns)
  pub past : lines_tick clocks (turn * turn_ns) + max_error clocks.first.freq ≤ tick line ((turn + 6) * turn_ns)

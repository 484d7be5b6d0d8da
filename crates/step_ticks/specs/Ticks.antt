-- What the spacing of steps asks of them.
use Rattle.std.specs.Prelude.{ℕ, ◌<◌, ◌≤◌, ◌^◌}
use Rattle.plan_types.specs.Clock.{tick_limit}
use Rattle.plan_types.specs.declared.plan.Planned.{Planned}
use Rattle.plan_types.specs.Lines.{Clocks, lines_board}

-- a step whose plan tick the board has, and early enough
pub record IsOnBoard (clocks : Clocks) (s : Planned) : Type 0 where
  pub after : clocks.first.clock ≤ s.tick
  pub small : lines_board clocks s.tick < tick_limit

-- a raw step between the first line's clock and the end of the segments
pub record IsBetween (clocks : Clocks) (end : ℕ) (s : Planned) : Type 0 where
  pub after : clocks.first.clock ≤ s.tick
  pub before : s.tick ≤ end

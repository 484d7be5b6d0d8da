-- The clock lines of a run against the boards' own clocks.
use Rattle.std.specs.Prelude.{◌≡◌, ℕ, ◌+◌, ◌-◌, ◌*◌, ◌≤◌, pos}
use Rattle.clock_line.specs.Samples.{AreWithin, line_reach}
use Rattle.plan_types.specs.declared.clock.BoardClock.{BoardClock}
use Rattle.plan_types.specs.declared.plan.Line.{Line}
use Rattle.plan_types.specs.Clock.{board_tick, tick, turn_ns}

-- A clock line of a board is that of a sample of its clock, sent in the turn at whose beginning the line
-- begins and got three turns later at most; the tick in it is the board's own tick of a turn from the one to
-- the other. From there on it is no further from the board than what passes in these turns and the drift
-- since then. Where the clock is exact it is never behind the board, and ahead by no more than these turns.
pub record FollowsClock (clock : BoardClock) (l : Line) : Type 0 where
  pub sent : ℕ
  pub got : ℕ
  pub at : l.at ≡ sent * turn_ns
  pub freq : l.freq ≡ clock.freq
  pub soon : got ≤ sent + 3
  -- the turn in which the board took the asking, and whose own tick it told
  pub turn : ℕ
  pub from : sent ≤ turn
  pub to : turn ≤ got
  pub own : l.clock ≡ board_tick clock turn
  pub near : (k : ℕ) → sent ≤ k →
      AreWithin (line_reach clock.start clock.freq clock.drift sent got k) (tick l (k * turn_ns)) (board_tick clock k)
  pub exact : clock.drift ≡ pos 0 → (k : ℕ) → sent ≤ k →
      (board_tick clock k ≤ tick l (k * turn_ns)) × (tick l (k * turn_ns) ≤ board_tick clock (k + (got - sent)))

-- The clock lines that a report prints, against the boards' own clocks.
use Rattle.std.specs.Prelude.{◌≡◌, ℕ, ◌+◌, ◌-◌, ◌*◌, ◌≤◌, pos, List, ◌∷◌, ◌++◌}
use Rattle.clock_line.specs.Samples.{AreWithin, line_reach}
use Rattle.log_check.specs.Behind.{told_line}
use Rattle.log_text.specs.declared.line.LogLine.{LogLine}
use Rattle.log_text.specs.declared.line.LogLine.TheVariants as line
use Rattle.plan_types.specs.declared.clock.BoardClock.{BoardClock}
use Rattle.plan_types.specs.declared.machine.Machine.{Machine}
use Rattle.plan_types.specs.declared.plan.Line.{Line}
use Rattle.plan_types.specs.Clock.{board_tick, clock_of, tick, turn_ns}
use Rattle.plan_types.specs.Machines.{board_at}

-- A clock line of a board, from a turn on, is that of a sample of its clock, sent in a turn no later and got
-- three turns later at most: it is no further from the board than what passes in these turns and the drift
-- since then. Where the clock is exact it is never behind it, and ahead by no more than these turns.
pub record IsNearBoard (clock : BoardClock) (l : Line) (from : ℕ) : Type 0 where
  pub sent : ℕ
  pub got : ℕ
  pub before : sent ≤ from
  pub soon : got ≤ sent + 3
  pub near : (k : ℕ) → from ≤ k →
      AreWithin (line_reach clock.start clock.freq clock.drift sent got k) (tick l (k * turn_ns)) (board_tick clock k)
  pub exact : clock.drift ≡ pos 0 → (k : ℕ) → from ≤ k →
      (board_tick clock k ≤ tick l (k * turn_ns)) × (tick l (k * turn_ns) ≤ board_tick clock (k + (got - sent)))

-- a tick is a board's own, as a turn begins from one on, and three turns later at most
abbrev pub IsOwnTick : BoardClock → ℕ → ℕ → Type 0
IsOwnTick clock from at = (k : ℕ) × (from ≤ k) × (k ≤ from + 3) × (at ≡ board_tick clock k)

-- each clock line that a log tells is near its board; a further one tells a tick of the board's own
pub record AreNearBoards (m : Machine) (log : List LogLine) : Type 0 where
  pub boards : (later lines : List LogLine) (b turn at : ℕ) → log ≡ later ++ line.Board b turn at ∷ lines →
      IsNearBoard (clock_of (board_at m b)) (told_line m b turn at) turn
  pub further : (later lines : List LogLine) (b turn at from : ℕ) → log ≡ later ++ line.Line b turn at from ∷ lines →
      IsNearBoard (clock_of (board_at m b)) (told_line m b turn at) turn × IsOwnTick (clock_of (board_at m b)) turn at

-- How near a clock line is to its board.
use Rattle.std.specs.Prelude.{◌≡◌, ℕ, ◌+◌, ◌*◌, ◌/◌, ◌<◌, ◌≤◌, List, [], ◌∷◌}
use Rattle.plan_types.specs.declared.clock.BoardClock.{BoardClock}
use Rattle.plan_types.specs.declared.plan.Held.{Held}
use Rattle.plan_types.specs.declared.plan.Line.{Line}
use Rattle.plan_types.specs.Clock.{board_tick, tick, turn_ns}
use Rattle.plan_types.specs.Lines.{Clocks, lines_tick}
use Rattle.link_work.specs.Turn.{LinkState}

-- as a turn begins, a clock line is at most a turn behind its board, and less than four turns ahead
pub record KeepsUp (clock : BoardClock) (line : Line) (turn : ℕ) : Type 0 where
  pub behind : board_tick clock turn ≤ tick line ((turn + 1) * turn_ns)
  pub ahead : tick line (turn * turn_ns) < board_tick clock (turn + 4)

-- the first turn that begins at a time or behind it
abbrev pub turn_from : ℕ → ℕ
turn_from time = (time + 999_999) / 1_000_000

-- Each line of a board keeps up with it in its time: the first one from a turn on, each further one from the
-- turn of its own time on; and each until the first turn behind the time of the next one, the last one until
-- a turn.
abbrev pub AllKeepUp : BoardClock → ℕ → Line → List Held → ℕ → Type 0
AllKeepUp clock from line [] until = (turn : ℕ) → from ≤ turn → turn ≤ until → KeepsUp clock line turn
AllKeepUp clock from line (h ∷ held) until =
    ((turn : ℕ) → from ≤ turn → turn ≤ turn_from h.from → KeepsUp clock line turn)
    × AllKeepUp clock (h.from / turn_ns) h.line held until × (from ≤ turn_from h.from)

-- as a turn begins, the clock lines of a board are at most a turn behind it, and less than four turns ahead
pub record LinesKeepUp (clock : BoardClock) (clocks : Clocks) (turn : ℕ) : Type 0 where
  pub behind : board_tick clock turn ≤ lines_tick clocks ((turn + 1) * turn_ns)
  pub ahead : lines_tick clocks (turn * turn_ns) < board_tick clock (turn + 4)

-- a clock line gives the board's own tick of each turn, from its own on
abbrev pub IsExact : BoardClock → Line → Type 0
IsExact clock line = (turn : ℕ) → line.at ≤ turn * turn_ns → tick line (turn * turn_ns) ≡ board_tick clock turn

-- No entry of the scene was used on a link up to the end of a turn: on neither of its lines.
pub record IsUndisturbed (l : LinkState) : Type 0 where
  pub down : l.down.calm ≡ 0
  pub up : l.up.calm ≡ 0

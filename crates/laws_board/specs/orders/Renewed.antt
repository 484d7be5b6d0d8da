-- Clock lines that are renewed in time.
use Rattle.std.specs.Prelude.{◌⊎◌, ℕ, ℤ, ◌+◌, ◌-◌, ◌*◌, ◌/◌, ◌≤◌, List, [], ◌∷◌, min}
use Rattle.plan_types.specs.declared.clock.BoardClock.{BoardClock}
use Rattle.plan_types.specs.declared.plan.Held.{Held}
use Rattle.plan_types.specs.declared.plan.Line.{Line}
use Rattle.plan_types.specs.Clock.{board_tick, turn_ns}
use Rattle.laws_board.specs.turns.Turns.{BoardTurn}
use Rattle.clock_line.specs.Samples.{ppm_size}
use Rattle.laws_board.specs.clocks.Samples.{IsSampled}

-- for so many turns the line of a sample keeps up with a clock that drifts by so many parts per million:
-- until the drift comes to all but a fiftieth of a turn; 4,900 turns at 200, ten times as many at 20
abbrev pub line_age : ℤ → ℕ
line_age drift = 980_000 / ppm_size drift

-- Behind a line of a board that drifts further ones come in time, up to a turn: each holds before the one
-- before it is too old, as far as it holds by then; and the last one that does is not too old then.
abbrev pub ComeInTime : ℤ → Line → List Held → ℕ → Type 0
ComeInTime drift line [] until = until * turn_ns ≤ line.at + line_age drift * turn_ns
ComeInTime drift line (h ∷ held) until =
    ((until * turn_ns ≤ line.at + line_age drift * turn_ns) × ((until + 1) * turn_ns ≤ h.from))
    ⊎ ((h.from ≤ line.at + line_age drift * turn_ns) × ComeInTime drift h.line held until)

-- The ticks of a board's clock as turns begin, up to one of them; behind it a turn has as many as it would
-- have without a drift.
abbrev pub go_on : BoardClock → ℕ → ℕ → ℕ
go_on clock n turn = board_tick clock (min turn n) + (turn - n) * (clock.freq / 1_000)

-- each of some further lines is that of a sample of a board's clock
abbrev pub AreSampled : BoardClock → List BoardTurn → List Held → Type 0
AreSampled clock turns [] = Unit {0}
AreSampled clock turns (h ∷ held) = IsSampled clock turns h.line × AreSampled clock turns held

-- none of some further lines, which hold one behind the other, holds before a turn begins
abbrev pub NoneBefore : ℕ → List Held → Type 0
NoneBefore turn [] = Unit {0}
NoneBefore turn (h ∷ held) = turn * turn_ns ≤ h.from

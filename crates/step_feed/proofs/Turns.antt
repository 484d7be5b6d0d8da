-- Turns of ticks, and when steps are over.
use Rattle.std.proofs.Common.{ℕ, ◌+◌, ◌*◌, ◌^◌, ◌<◌, arith}
use Rattle.std.proofs.Math.Nat.{div-add-mod}
use Rattle.plan_types.specs.Clock.{tick_limit, turn_ns}
use Rattle.plan_types.specs.Lines.{Clocks, last_from, lines_turn}
use Rattle.step_feed.specs.Pacing.{turn_limit}
use Rattle.clock_line.proofs.Turns.{turn_within}

-- where the last line holds early enough, the turn of a tick is a number of 64 bits
pub turn_small : (clocks : Clocks) (t : ℕ) → last_from clocks.first.at clocks.held < 2 ^ 62 * turn_ns → t < tick_limit → lines_turn clocks t + 5 < turn_limit
turn_small clocks t soon small =
    let w = turn_within clocks t in
    let d = div-add-mod (last_from clocks.first.at clocks.held) turn_ns in
    omega arith

use Rattle.std.proofs.Common.{◌∙◌, ◌+◌, ◌≡◌, ap, sym, arith, subst, ℕ, ◌≤◌}
use Rattle.frame_dump.specs.Traces.{AreTurns}
use Rattle.frame_dump.specs.Sofar.{low_after}
use Rattle.frame_dump.proofs.Reading.{above_low, low_more, rise_more, turn_more}
use Rattle.frame_dump.proofs.read.read_turns.Goals as goal

pub loop-line-preserved : goal.loop-line-preserved
loop-line-preserved c =
    let front = c.loop-line.turns.items in
    let turn = c.in_ok-turn.turn in
    let new = c.keep.new.turns.items in
    let added = c.in_ok-keep.ensures in
    let low : low_after 0 front ≤ turn.turn = (let At : ℕ → Type 0 = λ n. n ≤ turn.turn in subst At c.loop-line.invariant.low (above_low c.loop-line.last turn.turn c.in_ok-turn.ensures.above)) in
    record {
      turns = turn_more _ _ _ new turn _ _ _ c.in_ok-turn.ensures.turn added c.in-Some.ensures.some ∙ c.loop-line.invariant.turns;
      rise = rw added (rise_more 0 front turn c.loop-line.invariant.rise low c.in_ok-turn.ensures.small);
      low = sym (ap (low_after 0) added ∙ low_more 0 front turn);
      small = omega (arith, c.in-Some.ensures.small);
    }

use Rattle.std.proofs.Common.{ℕ, ◌+◌, ◌*◌, ◌<◌, ◌^◌, ap, arith}
use Rattle.std.proofs.Math.Nat.{div-add-mod}
use Rattle.plan_types.specs.Clock.{turn_ns}
use Rattle.plan_types.specs.Lines.{Clocks, lines_tick}
use Rattle.plan_types.specs.Plan.{max_error}
use Rattle.section_feed.specs.Boards.{IsLasting}
use Rattle.section_feed.proofs.Lasts.{lines-small}
use Rattle.section_feed.proofs.take.is_nearby.Goals as goal

-- a tick of these years has room for as many ticks more as a step may be early
error-small : (clocks : Clocks) (time : ℕ) → IsLasting clocks → time < 2 ^ 44 * turn_ns → lines_tick clocks time + max_error clocks.first.freq < 2 ^ 64
error-small clocks time lasting soon =
    let l = lines-small clocks time lasting soon in
    let high = lasting.valid.freq_high in
    let d = div-add-mod (clocks.first.freq * 25) 1_000_000 in
    omega arith

pub tick-before-requires : goal.tick-before-requires
tick-before-requires c =
    let soon = c.requires.soon in
    let less = c.saturating_sub.ensures in
    let begin = c.begin_of.ensures in
    let l = error-small c.args.lines.now c.begin_of.result c.requires.lasting (omega arith) in
    omega arith

pub tick-tick-requires : goal.tick-tick-requires
tick-tick-requires c =
    let soon = c.requires.soon in
    let begin = c.begin_of-2.ensures in
    let l = error-small c.args.lines.now c.begin_of-2.result c.requires.lasting (omega arith) in
    omega arith

pub overflow_add-before : goal.overflow_add-before
overflow_add-before c =
    let soon = c.requires.soon in
    let less = c.saturating_sub.ensures in
    let begin = c.begin_of.ensures in
    let l = error-small c.args.lines.now c.begin_of.result c.requires.lasting (omega arith) in
    let is = c.tick-before.ensures in
    let error = c.max_error-error.ensures in
    let first = ap (λ l. max_error l.freq) c.first.ensures in
    omega arith

pub overflow_add-result : goal.overflow_add-result
overflow_add-result c =
    let soon = c.requires.soon in
    let begin = c.begin_of-2.ensures in
    let l = error-small c.args.lines.now c.begin_of-2.result c.requires.lasting (omega arith) in
    let is = c.tick-tick.ensures in
    let error = c.max_error-error.ensures in
    let first = ap (λ l. max_error l.freq) c.first.ensures in
    omega arith

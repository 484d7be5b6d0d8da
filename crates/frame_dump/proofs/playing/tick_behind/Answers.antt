use Rattle.std.proofs.Common.{◌<◌, ◌^◌, ℕ, ap, sym, ◌∙◌, arith, subst}
use Rattle.plan_types.specs.Clock.{board_tick, clock_of, tick_limit}
use Rattle.plan_types.specs.declared.clock.BoardClock.{BoardClock}
use Rattle.frame_dump.specs.Played.{run_until}
use Rattle.frame_dump.proofs.Replaying.{tick_small}
use Rattle.frame_dump.proofs.playing.tick_behind.Goals as goal

pub tick-requires : goal.tick-requires
tick-requires c =
    let small = tick_small c.args.board.now c.args.turn c.requires.rest.0 c.args.rest.now c.requires.board c.requires.turn c.requires.rest.1 in
    rw (c.clock.ensures, c.next_turn.ensures) (omega (arith, small))

pub returns-clause-small : goal.returns-clause-small
returns-clause-small c =
    let small = tick_small c.args.board.now c.args.turn c.requires.rest.0 c.args.rest.now c.requires.board c.requires.turn c.requires.rest.1 in
    rw (c.tick.ensures, c.clock.ensures, c.next_turn.ensures) small

use Rattle.std.proofs.Common.{◌∙◌, ◌≡◌, ◌≤◌, ℕ, Bool, false, List, [], subst, sym, ap, refl}
use Rattle.plan_types.specs.Clock.{board_tick, clock_of}
use Rattle.plan_types.specs.declared.levels.Level.{Level}
use Rattle.board_sim.specs.Rig.{new_rig}
use Rattle.board_sim.specs.Turn.{Simulated}
use Rattle.frame_dump.specs.declared.trace.TraceTurn.{TraceTurn}
use Rattle.frame_dump.specs.Played.{PlayedSofar, run_until}
use Rattle.frame_dump.specs.Traces.{AreTurns}
use Rattle.frame_dump.proofs.Replaying.{from_start, later, played_all, played_more, played_none, rise_next, stands_next}
use Rattle.frame_dump.proofs.playing.replay.Goals as goal

pub play_turn-requires-clause-later : goal.play_turn-requires-clause-later
play_turn-requires-clause-later c =
    let b = c.args.board.now in
    let from : ℕ → Type 0 = λ k. k ≤ c.tick_behind-first.result in
    let to : ℕ → Type 0 = λ k. b.start ≤ k in
    subst from (sym c.in_ok-simulated.ensures.tick) (subst to (sym c.tick_behind-first.ensures.tick) (from_start b (run_until 0 c.turns-rest.result.now)))

pub loop-rest-init : goal.loop-rest-init
loop-rest-init c =
    let b = c.args.board.now in
    let turns = c.args.trace.now in
    let same = c.turns-rest.ensures.turns in
    let at = c.tick_behind-first.ensures.tick in
    let At : List TraceTurn → Type 0 = λ l. PlayedSofar b turns l c.play_turn.new.simulated c.play_turn.new.pulses.items in
    let Rise : List TraceTurn → Type 0 = λ l. AreTurns 0 l in
    let new = c.in_ok-simulated.ensures.is ∙ ap (λ (pins : List (List Level)). let s : Simulated = record { station = record { rig = new_rig b pins; expected = 0; told = false }; dropping = false; left = [] } in s) c.new.ensures.items in
    record {
      sofar = subst At (sym same) (played_none b turns _ _ _ _ _ _ refl c.new-pulses.ensures.items new (at ∙ ap (λ (l : List TraceTurn). board_tick (clock_of b) (run_until 0 l)) same) c.in_ok-state.ensures.turn);
      stands = stands_next b _ 0 c.turns-rest.result.now (c.in_ok-state.ensures.tick ∙ at);
      rise = (0, subst Rise (sym same) c.turns-rest.ensures.rise);
      state = c.in_ok-state.ensures.state;
    }

pub play_turn-requires-in-len1-up-clause-later : goal.play_turn-requires-in-len1-up-clause-later
play_turn-requires-in-len1-up-clause-later c =
    let l = c.loop-rest in
    let To : ℕ → Type 0 = λ k. l.simulated.station.rig.controller.tick ≤ k in
    subst To (sym c.tick_behind-until.ensures.tick) (later c.args.board.now _ l.invariant.rise.0 l.rest.now c.turn-item.result l.invariant.stands l.invariant.rise.1 c.in-len1-up.len_at_least c.turn-item.is)

pub loop-rest-preserved : goal.loop-rest-preserved
loop-rest-preserved c =
    let l = c.loop-rest in
    let b = c.args.board.now in
    record {
      sofar = played_more b c.args.trace.now l.rest.now c.turn-item.result l.simulated _ _ _ l.pulses.items _ l.invariant.sofar c.in-len1-up.len_at_least c.turn-item.is c.as_slice.ensures c.tick_behind-until.ensures.tick
          c.in_ok-state-2.ensures.turn;
      stands = stands_next b _ c.turn-item.result.turn _ (c.in_ok-state-2.ensures.tick ∙ c.tick_behind-until.ensures.tick);
      rise = rise_next l.invariant.rise.0 l.rest.now l.invariant.rise.1;
      state = c.in_ok-state-2.ensures.state;
    }

pub returns : goal.returns
returns c = let l = c.loop-rest in played_all c.args.board.now c.args.trace.now l.rest.now l.simulated l.pulses.items l.state l.invariant.sofar c.in_default.len_below l.invariant.state

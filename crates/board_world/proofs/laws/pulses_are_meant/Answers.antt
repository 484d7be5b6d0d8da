use Rattle.std.proofs.Common.{[], refl}
use Rattle.board_sim.proofs.HaltedTime.{part_whole}
use Rattle.board_world.specs.World.{new_world, run_world}
use Rattle.board_world.proofs.Runs.{pulses_kept, pulses_cut, last_along}
use Rattle.board_world.proofs.Units.{ticks_taken}
use Rattle.board_world.proofs.laws.pulses_are_meant.Goals as goal

pub returns : goal.returns
returns c = record {
  ticks = ticks_taken;
  kept = pulses_kept;
  cut = pulses_cut;
  whole = λ b pins steps oid fair runs free. let h = run_world steps (new_world b pins) in part_whole h.board.controller h.made h.meant (pulses_kept b pins steps fair) runs oid free;
  last = λ b pins steps. last_along steps (new_world b pins) ([], refl);
}

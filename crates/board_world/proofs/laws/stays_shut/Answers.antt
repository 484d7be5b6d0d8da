use Rattle.std.proofs.Common.{refl}
use Rattle.board_sim.specs.Board.{new_controller}
use Rattle.board_world.specs.World.{new_world}
use Rattle.board_world.proofs.Causes.{was_shut}
use Rattle.board_world.proofs.Runs.{late, still}
use Rattle.board_world.proofs.laws.stays_shut.Goals as goal

pub returns : goal.returns
unfolding new_controller
returns c = record {
  cause = λ b pins steps reason tick first e. was_shut steps (new_world b pins) reason tick first refl e;
  late = λ b pins steps. late steps (new_world b pins) tt;
  still = λ h steps k. still steps h k;
}

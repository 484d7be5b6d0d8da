use Rattle.laws_board.proofs.causes.Around.{around}
use Rattle.laws_board.proofs.causes.Stale.{stale_cause}
use Rattle.laws_board.proofs.causes.stale_ends_for_a_cause.Goals as goal

pub returns : goal.returns
returns c = record {
  cause = stale_cause;
  around = around;
}

use Rattle.laws_board.proofs.causes.Soon.{ends_soon, has_ended}
use Rattle.laws_board.proofs.causes.connecting_ends_soon.Goals as goal

pub returns : goal.returns
returns c = record {
  soon = ends_soon;
  ended = has_ended;
}

use Rattle.step_pack.proofs.Joining.{expansions_join, directions_join}
use Rattle.step_pack.proofs.Piecewise.{packs_piece}
use Rattle.step_pack.proofs.pieces_pack.Goals as goal

pub returns-clause-longest : goal.returns-clause-longest
returns-clause-longest c = packs_piece

pub returns-clause-expansion : goal.returns-clause-expansion
returns-clause-expansion c = expansions_join

pub returns-clause-directions : goal.returns-clause-directions
returns-clause-directions c = directions_join

use Rattle.step_pack.proofs.Expanding.{placed_expand, placed_within}
use Rattle.step_pack.proofs.Rows.{packs_triples}
use Rattle.step_pack.proofs.placed_pack.Goals as goal

pub returns-clause-packing : goal.returns-clause-packing
returns-clause-packing c = packs_triples

pub returns-clause-expansion : goal.returns-clause-expansion
returns-clause-expansion c = placed_expand

pub returns-clause-windows : goal.returns-clause-windows
returns-clause-windows c = placed_within

use Rattle.step_pack.proofs.Expanding.{packs_expand, packs_keep}
use Rattle.step_pack.proofs.packings_expand.Goals as goal

pub returns-clause-expansion : goal.returns-clause-expansion
returns-clause-expansion c = packs_expand

pub returns-clause-directions : goal.returns-clause-directions
returns-clause-directions c = packs_keep

use Rattle.step_pack.proofs.Expanding.{packs_expand, packs_keep}
use Rattle.step_pack.proofs.Rows.{packs_triples, spaced_run}
use Rattle.step_pack.proofs.pack.Goals as goal

pub returns-clause-longest : goal.returns-clause-longest
returns-clause-longest c = rw (c.in_ok-triples.ensures, c.deref.ensures.value) (packs_triples _ _ _ c.in_ok-placed.ensures)

pub returns-clause-expansion : goal.returns-clause-expansion
returns-clause-expansion c = packs_expand _ _ _ (spaced_run c.args.max_error c.args.last c.args.steps.now c.requires) (returns-clause-longest c)

pub returns-clause-directions : goal.returns-clause-directions
returns-clause-directions c = packs_keep _ _ _ (returns-clause-longest c)

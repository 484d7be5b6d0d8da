use Rattle.laws_run.proofs.run_links.Links.{run_links}
use Rattle.laws_run.proofs.run_links.links_carry_the_run.Goals as goal

pub returns : goal.returns
returns g c = λ m s name files files' out out' kept kept' t r text told at. run_links g.F.Files g.S.Sink m s name files files' out out' kept kept' t r text told at

use Rattle.log_check.proofs.Planning.{bases-small}
use Rattle.log_check.specs.Points.{section_at}
use Rattle.log_check.proofs.check.begin.Goals as goal

pub bases_of-requires-clause-small : goal.bases_of-requires-clause-small
bases_of-requires-clause-small c = rw c.deref-2.ensures.value (bases-small c.args.machine.now c.args.stand.now.clocks.items (section_at c.args.sections.now c.args.stand.now.begun).moves c.args.turn c.requires.can)

use Rattle.section_units.proofs.Completing.{completed}
use Rattle.section_units.proofs.laws.fronts_can_be_completed.Goals as goal

pub returns : goal.returns
returns c = completed

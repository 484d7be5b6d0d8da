use Rattle.section_units.proofs.Lateness.{late_one_by_one}
use Rattle.section_units.proofs.laws.units_are_late_one_by_one.Goals as goal

pub returns : goal.returns
returns c = late_one_by_one

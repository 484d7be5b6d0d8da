use Rattle.section_stream.proofs.Keeping.{units-kept}
use Rattle.section_stream.proofs.laws.units_stay.Goals as goal

pub returns : goal.returns
returns c = units-kept

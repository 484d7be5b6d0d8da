use Rattle.section_stream.proofs.Cutting.{given-longest}
use Rattle.section_stream.proofs.laws.units_are_longest.Goals as goal

pub returns : goal.returns
returns c = given-longest

use Rattle.section_stream.proofs.Later.{rest-later}
use Rattle.section_stream.proofs.laws.rests_are_later.Goals as goal

pub returns : goal.returns
returns c = rest-later

use Rattle.section_feed.proofs.Fronting.{section-front}
use Rattle.section_feed.proofs.laws.sections_stay.Goals as goal

pub returns : goal.returns
returns c = section-front

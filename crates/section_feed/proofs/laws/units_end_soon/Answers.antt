use Rattle.section_feed.proofs.Soon.{section-soon}
use Rattle.section_feed.proofs.laws.units_end_soon.Goals as goal

pub returns : goal.returns
returns c = section-soon

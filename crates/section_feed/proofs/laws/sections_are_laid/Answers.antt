use Rattle.section_feed.proofs.Laid.{section-laid}
use Rattle.section_feed.proofs.laws.sections_are_laid.Goals as goal

pub returns : goal.returns
returns c = section-laid

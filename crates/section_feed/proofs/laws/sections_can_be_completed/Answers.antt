use Rattle.section_feed.proofs.Ends.{section-later}
use Rattle.section_feed.proofs.Leaving.{section-left}
use Rattle.section_feed.proofs.Opening.{section-begun, section-open}
use Rattle.section_feed.proofs.laws.sections_can_be_completed.Goals as goal

pub returns : goal.returns
returns c = record { going = section-open; begun = section-begun; later = section-later; left = section-left }

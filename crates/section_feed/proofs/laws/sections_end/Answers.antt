use Rattle.section_feed.proofs.Ends.{section-ends}
use Rattle.section_feed.proofs.Fronting.{drawn-time, section-past, section-released}
use Rattle.section_feed.proofs.laws.sections_end.Goals as goal

pub returns : goal.returns
returns c = record { time = drawn-time; units = section-released; within = section-past; end = section-ends }

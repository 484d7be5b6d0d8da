use Rattle.section_feed.proofs.Lasts.{added-lasts, one-lasts}
use Rattle.section_feed.proofs.laws.lines_last.Goals as goal

pub returns-clause-one : goal.returns-clause-one
returns-clause-one c = one-lasts

pub returns-clause-more : goal.returns-clause-more
returns-clause-more c = added-lasts

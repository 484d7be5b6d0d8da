use Rattle.section_feed.proofs.Telling.{batch-earlier, batch-here, before-more, told-whole}
use Rattle.section_feed.proofs.laws.open_sections_are_told_whole.Goals as goal

pub returns : goal.returns
returns c = record { boards = told-whole; here = batch-here; earlier = batch-earlier; before = before-more }

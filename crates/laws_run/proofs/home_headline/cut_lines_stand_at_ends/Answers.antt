use Rattle.laws_run.proofs.home_headline.Ended.{cut_ends}
use Rattle.laws_run.proofs.home_headline.cut_lines_stand_at_ends.Goals as goal

pub returns : goal.returns
returns c = cut_ends

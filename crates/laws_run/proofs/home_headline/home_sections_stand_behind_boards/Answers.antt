use Rattle.laws_run.proofs.home_headline.Heads.{homes_apart}
use Rattle.laws_run.proofs.home_headline.home_sections_stand_behind_boards.Goals as goal

pub returns : goal.returns
returns c = homes_apart

use Rattle.laws_run.proofs.home_headline.Heads.{home_boards}
use Rattle.laws_run.proofs.home_headline.home_boards_have_their_lines.Goals as goal

pub returns : goal.returns
returns c = home_boards

use Rattle.laws_board.proofs.causes.ShortNames.{short_dictionaries}
use Rattle.laws_board.proofs.dictionaries.configured_boards_have_short_dictionaries.Goals as goal

pub returns : goal.returns
returns c = short_dictionaries

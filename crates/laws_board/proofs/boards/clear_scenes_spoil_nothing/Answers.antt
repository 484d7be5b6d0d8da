use Rattle.laws_board.proofs.sections.Calm.{calm_links}
use Rattle.laws_board.proofs.boards.clear_scenes_spoil_nothing.Goals as goal

pub returns : goal.returns
returns c = calm_links

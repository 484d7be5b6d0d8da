use Rattle.laws_run.proofs.run_ends.Connecting.{after_boards, before_boards}
use Rattle.laws_run.proofs.run_ends.boards_have_one_turn.Goals as goal

pub returns : goal.returns
returns c = record { before = before_boards; after = after_boards }

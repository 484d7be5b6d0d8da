use Rattle.laws_homing.proofs.clear_boards.Saying.{said_in_turn}
use Rattle.laws_homing.proofs.clear_boards.clear_news_are_said_in_their_turn.Goals as goal

pub returns : goal.returns
returns e = λ b pins place entries t before n rests are among. said_in_turn b pins place entries t before n rests are among

use Rattle.laws_homing.proofs.clear_boards.Telling.{told_at_once}
use Rattle.laws_homing.proofs.clear_boards.clear_boards_tell_at_once.Goals as goal

pub returns : goal.returns
returns e = λ b pins place entries t before c rests are among text. told_at_once b pins place entries t before c rests are among text

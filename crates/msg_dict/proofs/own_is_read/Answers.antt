use Rattle.msg_dict.proofs.Told.{told, told_read, told_own}
use Rattle.msg_dict.proofs.own_is_read.Goals as goal

pub returns : goal.returns
returns c = λ b. (told b, told_read b, told_own b)

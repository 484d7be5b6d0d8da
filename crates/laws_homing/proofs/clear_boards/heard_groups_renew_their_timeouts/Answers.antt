use Rattle.laws_homing.proofs.clear_boards.Renewed.{renewed, sent_all}
use Rattle.laws_homing.proofs.clear_boards.heard_groups_renew_their_timeouts.Goals as goal

pub returns : goal.returns
returns c = record { far = λ g turn u low heard fired. renewed g turn u low heard fired; all = λ g turn m low fired there grew. sent_all g turn m low fired there grew }

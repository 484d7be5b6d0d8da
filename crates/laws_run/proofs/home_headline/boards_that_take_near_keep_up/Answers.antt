use Rattle.laws_run.proofs.home_headline.Held.{near_keeps, reads_near, time_keeps}
use Rattle.laws_run.proofs.home_headline.boards_that_take_near_keep_up.Goals as goal

pub returns : goal.returns
returns c = record { keep = near_keeps; in_time = time_keeps; near = reads_near }

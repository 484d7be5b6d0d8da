use Rattle.plan_types.proofs.OwnTicks.{exact, rise}
use Rattle.plan_types.proofs.clock.boards_keep_their_ticks.Goals as goal

pub returns : goal.returns
returns c = record { exact = exact; rise = rise }

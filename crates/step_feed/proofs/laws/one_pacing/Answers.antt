use Rattle.step_feed.proofs.Wholes.{one-pacing}
use Rattle.step_feed.proofs.laws.one_pacing.Goals as goal

pub returns : goal.returns
returns c = one-pacing

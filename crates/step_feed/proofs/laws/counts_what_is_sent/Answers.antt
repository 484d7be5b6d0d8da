use Rattle.step_feed.proofs.Sent.{sent}
use Rattle.step_feed.proofs.laws.counts_what_is_sent.Goals as goal

pub returns : goal.returns
returns c = sent

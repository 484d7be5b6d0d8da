use Rattle.section_feed.proofs.Fewer.{fits-agree, front-agrees, plans-agree}
use Rattle.section_feed.proofs.laws.fewer_lines_plan_alike.Goals as goal

pub returns : goal.returns
returns c = record { plans = plans-agree; fits = fits-agree; front = front-agrees }

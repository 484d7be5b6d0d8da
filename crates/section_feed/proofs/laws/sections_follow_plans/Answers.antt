use Rattle.section_feed.proofs.Following.{section-follows, section-on, section-sent}
use Rattle.section_feed.proofs.laws.sections_follow_plans.Goals as goal

pub returns : goal.returns
returns c = record { front = section-follows; sent = section-sent; whole = section-on }

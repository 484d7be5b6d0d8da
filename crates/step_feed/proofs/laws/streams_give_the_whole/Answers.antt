use Rattle.step_feed.proofs.Wholes.{as-whole}
use Rattle.step_feed.proofs.laws.streams_give_the_whole.Goals as goal

pub returns : goal.returns
returns c = λ s clocks pushed more released all fed later paced e. as-whole clocks s.slots s.next s.rings.items s.waiting.items s.first pushed more released all fed later paced e

use Rattle.step_feed.proofs.Wholes.{fed-kept}
use Rattle.step_feed.proofs.laws.lines_may_be_added.Goals as goal

pub returns : goal.returns
returns c = λ s old new pushed released are will ext fed. fed-kept old new s.slots s.next s.rings.items s.waiting.items s.first pushed released are will ext fed

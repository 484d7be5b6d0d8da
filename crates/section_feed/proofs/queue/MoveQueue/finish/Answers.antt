use Rattle.std.proofs.Common.{◌∙◌}
use Rattle.section_feed.proofs.queue.MoveQueue.finish.Goals as goal

pub returns-clause-on : goal.returns-clause-on
returns-clause-on c = λ scv moves parts h. c.in_ok-settle.ensures.on scv moves parts (record { made = h.made; moves_are = c.finish.ensures.ended scv moves h.made h.moves_are; split = h.split; ends = c.finish.ensures.time ∙ h.ends })

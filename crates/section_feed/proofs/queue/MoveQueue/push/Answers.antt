use Rattle.std.proofs.Common.{◌∙◌, ◌++◌, ◌∷◌, []}
use Rattle.section_feed.proofs.queue.MoveQueue.push.Goals as goal

pub returns-clause-on : goal.returns-clause-on
returns-clause-on c = λ scv moves parts h. c.in_ok-settle.ensures.on scv (moves ++ c.args.one ∷ []) parts (record { made = h.made; moves_are = c.in_ok-push.ensures.ok scv moves h.made h.moves_are; split = h.split; ends = c.push.ensures.time ∙ h.ends })

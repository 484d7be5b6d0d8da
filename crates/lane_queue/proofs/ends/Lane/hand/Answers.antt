use Rattle.std.proofs.Common.{ap, ◌∙◌}
use Rattle.lane_queue.specs.declared.rule.Log.{Log}
use Rattle.lane_queue.specs.Ends.{IsSendOf, IsTakeOf}
use Rattle.lane_queue.proofs.Rules.{parts, joins}
use Rattle.lane_queue.proofs.ends.Lane.hand.Goals as goal

pub another-taking-requires-clause-rule : goal.another-taking-requires-clause-rule
unfolding IsTakeOf
another-taking-requires-clause-rule g c = parts g.T.Numbered.number _ _ c.requires.take.1

pub absorb-requires-clause-rule : goal.absorb-requires-clause-rule
unfolding IsSendOf IsTakeOf
absorb-requires-clause-rule g c = joins g.T.Numbered.number _ _ _ _ c.requires.send.1 (ap (λ (y : Log g.row.T.Denot). y.taken.may) c.another-taking.ensures.rule.1 ∙ c.requires.take.1)

use Rattle.std.proofs.Common.{true, [], subst, sym}
use Rattle.crossbeam_channel.specs.Fifo.{Forks}
use Rattle.lane_queue.specs.Rule.{side, log, nothing, IsLaned}
use Rattle.lane_queue.proofs.Rules.{cuts}
use Rattle.lane_queue.proofs.calls.cut.Goals as goal

pub another-taking-requires-clause-rule : goal.another-taking-requires-clause-rule
another-taking-requires-clause-rule g c = subst (λ y. Forks (IsLaned g.T.Numbered.number) c.args.pass.id y (log g.K.Start.room (side true g.K.Start.first []) nothing) (log 0 nothing (side true g.K.Start.first []))) (sym c.requires.pass.1) (cuts g.T.Numbered.number _ _ _)

use Rattle.std.proofs.Common.{Option, subst, sym}
use Rattle.crossbeam_channel.specs.Claims.{view}
use Rattle.crossbeam_channel.specs.Fifo.{Forks}
use Rattle.lane_queue.specs.Rule.{log, nothing, grown_by, IsLaned}
use Rattle.lane_queue.proofs.Rules.{passes}
use Rattle.lane_queue.proofs.calls.pass_on.Goals as goal

pub another-requires-clause-rule : goal.another-requires-clause-rule
another-requires-clause-rule g c =
    let v = view c.args.pass.now in
    subst (λ (o : Option g.row.T.Denot). Forks (IsLaned g.T.Numbered.number) c.args.pass.now.id v (log v.room (grown_by v.put o) nothing) (log 0 nothing (grown_by v.taken o))) (sym c.requires.item)
    (passes g.T.Numbered.number c.args.pass.now.id v c.args.msg.now c.requires.may.0 c.requires.may.1 c.requires.number c.requires.empty)

use Rattle.std.proofs.Common.{rules}
use Rattle.session_run.proofs.Reading.{next-piece}
use Rattle.session_run.proofs.read.read_piece.Goals as goal

pub returns-clause-next : goal.returns-clause-next
returns-clause-next g c =
    next-piece g.F.Files c.args.name.now c.args.files.now _ _ _ c.loop-more.bytes.items (search rules) (search rules) (search rules) c.loop-more.invariant.size c.loop-more.invariant.front (λ few text told. c.loop-more.invariant.ended (search rules) text told)

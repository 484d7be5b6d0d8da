use Rattle.std.proofs.Common.{rules}
use Rattle.session_run.proofs.Reading.{piece-more}
use Rattle.session_run.proofs.read.fill.Goals as goal

pub returns-clause-more : goal.returns-clause-more
returns-clause-more g c = λ text told front.
    piece-more text c.args.bytes.now.items c.read.new.into c.extend_from_slice.new.self.items c.args.at c.len.result c.in-Ok.found c.min-count.result (search rules) front (c.in-Ok.ensures.bytes text told) (search rules) (search rules) (search rules)

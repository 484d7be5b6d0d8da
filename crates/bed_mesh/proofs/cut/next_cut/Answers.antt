use Rattle.std.proofs.Common.{sym, arith}
use Rattle.bed_mesh.proofs.Cutting.{first_gone, rising}
use Rattle.bed_mesh.proofs.cut.next_cut.Goals as goal

pub returns-clause-first : goal.returns-clause-first
returns-clause-first c =
    first_gone _ _ _ _ _ _ _ _ (rising _ _ _ _ _ c.requires.x.some_parts c.requires.x.apart c.requires.x.ahead) (rising _ _ _ _ _ c.requires.y.some_parts c.requires.y.apart c.requires.y.ahead) c.next_number-x.ensures.first c.next_number-y.ensures.first c.least.ensures c.in_ok-number.was c.pass.ensures.numbers c.pass-2.ensures.numbers

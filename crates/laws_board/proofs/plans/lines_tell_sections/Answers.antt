use Rattle.std.proofs.Common.{arith}
use Rattle.laws_board.proofs.plans.Spreading.{plans_spread}
use Rattle.laws_board.proofs.plans.Telling.{all_tell}
use Rattle.laws_board.proofs.plans.lines_tell_sections.Goals as goal

pub returns : goal.returns
returns c = λ m n ts p switches rs took lines. all_tell m switches p.seen.text p.seen.begun 260 p.made rs (plans_spread m n ts p) (omega arith) p.put took lines

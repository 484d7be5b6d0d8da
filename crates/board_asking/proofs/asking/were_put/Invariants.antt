use Rattle.std.proofs.Common.{◌≡◌, length}
use Rattle.board_asking.specs.Asking.{were_put}
use Rattle.board_asking.specs.Kept.{IsEarly}
use Rattle.board_asking.proofs.asking.were_put.Given as goal

abbrev pub invariant-loop-rest : goal.invariant-loop-rest
invariant-loop-rest l = record { value : were_put l.turn l.rest l.asking ≡ were_put l.turn l.fn.numbers l.fn.a; early : IsEarly l.asking }

abbrev pub decreases-loop-rest : goal.decreases-loop-rest
decreases-loop-rest l = length l.rest

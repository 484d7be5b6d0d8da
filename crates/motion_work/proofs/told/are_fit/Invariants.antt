use Rattle.std.proofs.Common.{◌≡◌, drop}
use Rattle.motion_work.specs.Told.{are_fit}
use Rattle.motion_work.proofs.told.are_fit.Given as goal

abbrev pub invariant-loop-b : goal.invariant-loop-b
invariant-loop-b l = are_fit (drop l.b l.boards) l.turn (drop l.b l.lines) ≡ are_fit l.boards l.turn l.lines

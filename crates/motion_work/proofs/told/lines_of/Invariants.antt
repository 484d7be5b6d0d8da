use Rattle.std.proofs.Common.{◌≡◌, map, take}
use Rattle.plan_types.specs.Lines.{one_line}
use Rattle.motion_work.proofs.told.lines_of.Given as goal

abbrev pub invariant-loop-line : goal.invariant-loop-line
invariant-loop-line l = l.made.items ≡ map one_line (take l.line-index l.lines)

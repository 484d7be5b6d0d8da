use Rattle.std.proofs.Common.{◌≡◌, [], take, drop}
use Rattle.cfg_text.specs.Wiring.{first_twice}
use Rattle.cfg_text.proofs.wiring.twice_line.Given as goal

abbrev pub invariant-loop-place : goal.invariant-loop-place
invariant-loop-place l = first_twice (take l.place l.uses) (drop l.place l.uses) ≡ first_twice [] l.uses

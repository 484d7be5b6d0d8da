use Rattle.std.proofs.Common.{◌≡◌, drop}
use Rattle.motion_work.specs.Told.{told_in}
use Rattle.motion_work.proofs.told.told_in.Given as goal

abbrev pub invariant-loop-one : goal.invariant-loop-one
invariant-loop-one l = told_in l.machine l.turn (drop l.one-index l.news) ≡ told_in l.machine l.turn l.news

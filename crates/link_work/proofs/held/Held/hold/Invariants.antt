use Rattle.std.proofs.Common.{◌≡◌, take}
use Rattle.link_work.specs.Held.{hold}
use Rattle.link_work.proofs.held.Held.hold.Given as goal

abbrev pub invariant-loop-unit : goal.invariant-loop-unit
invariant-loop-unit l = l.self-inside.units.items ≡ hold l.initial.self-inside.units.items l.turn (take l.unit-index l.units)

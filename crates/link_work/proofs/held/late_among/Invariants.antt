use Rattle.std.proofs.Common.{◌≡◌, drop}
use Rattle.link_work.specs.Held.{late_by}
use Rattle.link_work.proofs.held.late_among.Given as goal

abbrev pub invariant-loop-unit : goal.invariant-loop-unit
invariant-loop-unit l = late_by l.lead l.stretch l.first (drop l.unit-index l.units) ≡ late_by l.lead l.stretch l.first l.units

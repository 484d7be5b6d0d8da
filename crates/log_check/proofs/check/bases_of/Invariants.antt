use Rattle.std.proofs.Common.{◌≡◌, map}
use Rattle.std.specs.List.{range_with_len}
use Rattle.plan_types.specs.Sections.{base_tick}
use Rattle.log_check.proofs.check.bases_of.Given as goal

abbrev pub invariant-loop-s : goal.invariant-loop-s
invariant-loop-s l = l.bases.items ≡ map (base_tick l.machine l.clocks l.turn) (range_with_len 0 l.s)

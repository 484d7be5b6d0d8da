use Rattle.std.proofs.Common.{◌≡◌, map, take}
use Rattle.msg_code.specs.declared.Param.TheVariants as param
use Rattle.msg_code.proofs.made.numbers.Given as goal

abbrev pub invariant-loop-value : goal.invariant-loop-value
invariant-loop-value l = l.params.items ≡ map (λ n. param.Number n) (take l.value-index l.values)

use Rattle.std.proofs.Common.{◌≡◌, length, option_map}
use Rattle.cfg_text.specs.Holding.{last_set, or_earlier}
use Rattle.cfg_text.proofs.holding.last_set.Given as goal

abbrev pub invariant-loop-rest : goal.invariant-loop-rest
invariant-loop-rest l = or_earlier (last_set l.section l.key l.rest) (option_map (λ entry. entry.now) l.found) ≡ last_set l.fn.section l.fn.key l.fn.entries

abbrev pub decreases-loop-rest : goal.decreases-loop-rest
decreases-loop-rest l = length l.rest

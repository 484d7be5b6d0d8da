use Rattle.std.proofs.Common.{◌≡◌, map, take}
use Rattle.digital_out.specs.Wants.{want_at}
use Rattle.digital_out.proofs.plan.wants_of.Given as goal

abbrev pub invariant-loop-word : goal.invariant-loop-word
invariant-loop-word l = l.wants.items ≡ map (want_at l.line l.times) (take l.word-index l.words)

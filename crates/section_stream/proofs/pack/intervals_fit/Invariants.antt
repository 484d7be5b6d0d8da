use Rattle.std.proofs.Common.{◌<◌, ◌^◌, All, take}
use Rattle.section_stream.proofs.pack.intervals_fit.Given as goal

abbrev pub invariant-loop-one : goal.invariant-loop-one
invariant-loop-one l = All (λ p. p.triple.interval < 2 ^ 32) (take l.one-index l.placed)

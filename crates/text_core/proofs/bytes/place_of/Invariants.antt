use Rattle.std.proofs.Common.{◌≡◌, ◌+◌, length}
use Rattle.text_core.specs.Bytes.{before}
use Rattle.text_core.proofs.bytes.place_of.Given as goal

abbrev pub invariant-loop-rest : goal.invariant-loop-rest
invariant-loop-rest l = record {
  place : l.place + length (before l.end l.rest) ≡ length (before l.end l.fn.text);
  room : l.place + length l.rest ≡ length l.fn.text;
}

abbrev pub decreases-loop-rest : goal.decreases-loop-rest
decreases-loop-rest l = length l.rest

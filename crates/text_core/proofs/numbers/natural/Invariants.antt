use Rattle.std.proofs.Common.{◌≡◌, ◌<◌, ◌^◌, length}
use Rattle.text_core.specs.Bytes.{behind, is_digit}
use Rattle.text_core.specs.Numbers.{digits_behind}
use Rattle.text_core.proofs.numbers.natural.Given as goal

abbrev pub invariant-loop-rest : goal.invariant-loop-rest
invariant-loop-rest l = record {
  behind : behind is_digit l.rest ≡ behind is_digit l.fn.text;
  value : digits_behind l.value l.rest ≡ digits_behind 0 l.fn.text;
  fits : l.value < 2 ^ 64;
}

abbrev pub decreases-loop-rest : goal.decreases-loop-rest
decreases-loop-rest l = length l.rest

use Rattle.std.proofs.Common.{◌≡◌, ◌+◌, ◌*◌, ◌≤◌, ◌<◌, length}
use Rattle.text_core.specs.Bytes.{front, behind, is_digit}
use Rattle.text_core.specs.Numbers.{worth}
use Rattle.text_core.proofs.numbers.decimals.Given as goal

abbrev pub invariant-loop-rest : goal.invariant-loop-rest
invariant-loop-rest l = record {
  behind : behind is_digit l.rest ≡ behind is_digit l.fn.text;
  count : l.count + length (front is_digit l.rest) ≡ length (front is_digit l.fn.text);
  value : l.value + worth l.unit (front is_digit l.rest) ≡ worth 100000 (front is_digit l.fn.text);
  small : l.value + 10 * l.unit ≤ 1000000;
  below : l.value < 1000000;
  room : l.count + length l.rest ≡ length l.fn.text;
}

abbrev pub decreases-loop-rest : goal.decreases-loop-rest
decreases-loop-rest l = length l.rest

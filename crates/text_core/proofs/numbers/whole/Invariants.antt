use Rattle.std.proofs.Common.{◌≡◌, ◌+◌, ◌≤◌, min, length}
use Rattle.text_core.specs.Bytes.{front, behind, is_digit}
use Rattle.text_core.specs.Numbers.{digits_behind}
use Rattle.text_core.proofs.numbers.whole.Given as goal

abbrev pub invariant-loop-rest : goal.invariant-loop-rest
invariant-loop-rest l = record {
  behind : behind is_digit l.rest ≡ behind is_digit l.fn.text;
  count : l.count + length (front is_digit l.rest) ≡ length (front is_digit l.fn.text);
  value : min (digits_behind l.value (front is_digit l.rest)) 1000000000000000000 ≡ min (digits_behind 0 (front is_digit l.fn.text)) 1000000000000000000;
  small : l.value ≤ 1000000000000000000;
  room : l.count + length l.rest ≡ length l.fn.text;
}

abbrev pub decreases-loop-rest : goal.decreases-loop-rest
decreases-loop-rest l = length l.rest

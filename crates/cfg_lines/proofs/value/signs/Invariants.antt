use Rattle.std.proofs.Common.{◌≡◌, ◌||◌, length}
use Rattle.text_core.specs.Bytes.{front, behind}
use Rattle.cfg_lines.specs.Values.{inverts, is_pin_sign}
use Rattle.cfg_lines.proofs.value.signs.Given as goal

abbrev pub invariant-loop-rest : goal.invariant-loop-rest
invariant-loop-rest l = record {
  inverted : (l.inverted || inverts (front is_pin_sign l.rest)) ≡ inverts (front is_pin_sign l.fn.text);
  behind : behind is_pin_sign l.rest ≡ behind is_pin_sign l.fn.text;
}

abbrev pub decreases-loop-rest : goal.decreases-loop-rest
decreases-loop-rest l = length l.rest

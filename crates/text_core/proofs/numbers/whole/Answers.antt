use Rattle.std.proofs.Common.{arith}
use Rattle.std.proofs.lemmas.Grind.{common_steps}
use Rattle.text_core.proofs.Spelled.{capped}
use Rattle.text_core.proofs.numbers.whole.Goals as goal

pub loop-rest-preserved : goal.loop-rest-preserved
loop-rest-preserved c = record {
  behind = grind (arith, common_steps);
  count = grind (arith, common_steps);
  value = rw (c.min-value.ensures, capped) (grind (arith, common_steps));
  small = grind (arith, common_steps);
  room = grind (arith, common_steps);
}

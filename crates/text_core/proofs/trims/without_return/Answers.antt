use Rattle.std.proofs.Common.{arith, rules}
use Rattle.std.proofs.lemmas.Bool.Decides.{nat_tests}
use Rattle.text_core.proofs.Ends.{drop_return, keep_return}
use Rattle.text_core.proofs.trims.without_return.Goals as goal

pub returns-then-last-eq13 : goal.returns-then-last-eq13
returns-then-last-eq13 c = drop_return c.args.text.now c.in-len1-up.len_at_least c.if-last-eq13.true

pub returns-else-last-eq13 : goal.returns-else-last-eq13
returns-else-last-eq13 c = keep_return c.args.text.now c.in-len1-up.len_at_least (grind (arith, nat_tests))

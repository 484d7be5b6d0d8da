use Rattle.std.proofs.Common.{arith}
use Rattle.std.proofs.lemmas.Bool.Decides.{nat_tests}
use Rattle.cfg_lines.proofs.Closing.{closed-bracket, closed-other}
use Rattle.cfg_lines.proofs.line.closed.Goals as goal

pub returns-then-last-eq93 : goal.returns-then-last-eq93
returns-then-last-eq93 c = closed-bracket c.args.text.now c.in-len1-up.len_at_least c.if-last-eq93.true

pub returns-else-last-eq93 : goal.returns-else-last-eq93
returns-else-last-eq93 c = closed-other c.args.text.now c.in-len1-up.len_at_least (grind (arith, nat_tests))

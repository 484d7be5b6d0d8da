use Rattle.std.proofs.Common.{rules}
use Rattle.text_core.proofs.FirstLine.{lines_are}
use Rattle.text_core.proofs.lines.first_line.Goals as goal

pub returns-clause-lines : goal.returns-clause-lines
returns-clause-lines c = lines_are c.args.text.now c.cut-line.result.now c.min-next.result c.requires c.cut-line.ensures (search rules)

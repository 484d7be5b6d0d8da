use Rattle.std.proofs.Common.{◌∙◌, ap, Option, Some, ℕ}
use Rattle.bed_mesh.proofs.Cutting.{gone_past}
use Rattle.bed_mesh.proofs.cut.pass.Goals as goal

pub returns-then-first-number-clause-numbers : goal.returns-then-first-number-clause-numbers
returns-then-first-number-clause-numbers c =
    (gone_past c.args.lines.now.parts c.args.lines.now.span c.args.lines.now.step c.args.lines.now.left c.args.lines.now.next c.args.number c.args.next c.requires.ahead.ahead c.requires.next (c.in-Some.is ∙ ap (λ (n : ℕ). Some n) c.if-first-number.true)).0

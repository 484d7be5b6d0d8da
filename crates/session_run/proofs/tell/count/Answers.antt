use Rattle.std.proofs.Common.{◌∙◌, ◌+◌, ap, rules}
use Rattle.std.proofs.lemmas.List.{get_or_default}
use Rattle.session_run.specs.Counts.{counted, one_more}
use Rattle.session_run.proofs.Counted.{one-past, one-set}
use Rattle.session_run.proofs.tell.count.Goals as goal

pub returns-then-s-len : goal.returns-then-s-len
returns-then-s-len c = one-set c.from-s.result c.args.counts.now.items c.saturating_add.result (search rules) (c.saturating_add.ensures ∙ ap (λ n. counted (n + 1)) (c.index.ensures ∙ get_or_default c.args.counts.now.items c.from-s.result c.index.result.now 0 (search rules))) ∙ ap (λ k. one_more k c.args.counts.now.items) (search rules)

pub returns-else-s-len : goal.returns-else-s-len
returns-else-s-len c = one-past c.args.stepper c.args.counts.now.items (search rules)

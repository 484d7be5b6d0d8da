use Rattle.std.proofs.Common.{sym, ◌∙◌}
use Rattle.text_core.proofs.Ends.{drop_last, keep_last}
use Rattle.text_core.proofs.trims.trim_end.Goals as goal

pub loop-rest-preserved : goal.loop-rest-preserved
loop-rest-preserved c = drop_last c.loop-rest.rest.now c.in-len1-up.len_at_least (sym c.is_blank.ensures ∙ c.if-not-is_blank.false) ∙ c.loop-rest.invariant

pub returns-then-not-is_blank : goal.returns-then-not-is_blank
returns-then-not-is_blank c = sym (keep_last c.loop-rest.rest.now c.in-len1-up.len_at_least (sym c.is_blank.ensures ∙ c.if-not-is_blank.true)) ∙ c.loop-rest.invariant

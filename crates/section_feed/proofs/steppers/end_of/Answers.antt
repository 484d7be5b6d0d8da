use Rattle.std.proofs.Common.{ℕ, Option, Some, None, IfSome, inl}
use Rattle.section_feed.proofs.steppers.end_of.Goals as goal

if-some : {P : Type 0} (r : Option ℕ) → P → IfSome r (λ t. P)
if-some None p = tt
if-some (Some t) p = p

pub returns-then-not-is_whole-clause-left : goal.returns-then-not-is_whole-clause-left
returns-then-not-is_whole-clause-left c = inl (c.is_whole.ensures.left c.if-not-is_whole.true)

pub returns-in-Some-clause-whole : goal.returns-in-Some-clause-whole
returns-in-Some-clause-whole c = if-some c.turn_of.result (c.is_whole.ensures.whole c.if-not-is_whole.false)

pub returns-in-None-clause-whole : goal.returns-in-None-clause-whole
returns-in-None-clause-whole c = c.is_whole.ensures.whole c.if-not-is_whole.false

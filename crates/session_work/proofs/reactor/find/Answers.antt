use Rattle.std.proofs.Common.{◌≡◌, ◌+◌, ◌<◌, [], length, ap, rules, arith, subst}
use Rattle.session_work.specs.Rows.{CanTake}
use Rattle.session_work.proofs.Columns.{row_none}
use Rattle.session_work.proofs.reactor.find.Goals as goal

pub returns-then-k-eq0-clause-states : goal.returns-then-k-eq0-clause-states
returns-then-k-eq0-clause-states g c =
    let e : c.new.result.items ≡ [] = c.new.ensures.items in
    ((λ j x low. let none = ap length e in absurd (omega (arith, none, low))), row_none _ _ _ c.requires.takes e)

pub take_each-found-requires-clause-passes : goal.take_each-found-requires-clause-passes
take_each-found-requires-clause-passes g c = let some : 0 < c.args.k = search rules in c.requires.states some _ (omega arith)

use Rattle.std.proofs.Common.{◌<◌, All}
use Rattle.plan_types.specs.Clock.{tick_limit}
use Rattle.step_feed.specs.Pacing.{turn_limit}
use Rattle.link_rows.proofs.pacing.many.Given as goal

abbrev pub invariant-loop-i : goal.invariant-loop-i
invariant-loop-i l = All (λ u. u.last < tick_limit) l.units.items × All (λ u. u.due < turn_limit) l.units.items

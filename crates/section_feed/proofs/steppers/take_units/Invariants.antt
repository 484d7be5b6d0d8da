use Rattle.std.proofs.Common.{ℕ, ◌<◌, [], All, length}
use Rattle.section_feed.specs.Changes.{GoOn}
use Rattle.section_feed.specs.Dues.{AllStartBehind, AreDueFrom, IsTaken}
use Rattle.section_feed.specs.Ordering.{AreInOrderFrom, last_order}
use Rattle.section_feed.proofs.steppers.take_units.Given as goal

abbrev pub invariant-loop : goal.invariant-loop
invariant-loop l = record {
  on : ∥ GoOn l.lines l.goes l.time l.turn [] l.units.items l.initial.steppers.items l.steppers.items ∥₁;
  own : All (λ u. u.stepper < length l.initial.steppers.items) l.units.items;
  in_order : (order : ℕ) → AllStartBehind order l.initial.steppers.items → AreInOrderFrom order l.units.items × AllStartBehind (last_order order l.units.items) l.steppers.items;
  taken : (low : ℕ) → ∥ AreDueFrom low l.initial.steppers.items ∥₁ → All (IsTaken l.lines low l.due) l.units.items;
}

-- Units of a stepper, one behind the other.
use Rattle.std.specs.Prelude.{◌≡◌, ℕ, ◌<◌, ◌≤◌, List, [], ◌∷◌}
use Rattle.plan_types.specs.Clock.{tick_limit}
use Rattle.plan_types.specs.Lines.{Clocks, lines_turn}
use Rattle.msg_code.specs.declared.unit.Unit.{Unit as StepUnit}

-- a unit behind a tick: it ends before the limit of ticks, and is due in the turn in which it begins
pub record IsBehind (clocks : Clocks) (before : ℕ) (u : StepUnit) : Type 0 where
  pub after : before < u.first
  pub ends : u.first ≤ u.last
  pub small : u.last < tick_limit
  pub due : u.due ≡ lines_turn clocks u.first

-- units from one tick up to another, each behind the one before it
abbrev pub AreInRow : Clocks → ℕ → ℕ → List StepUnit → Type 0
AreInRow clocks before end [] = before ≤ end
AreInRow clocks before end (u ∷ us) = IsBehind clocks before u × AreInRow clocks u.last end us

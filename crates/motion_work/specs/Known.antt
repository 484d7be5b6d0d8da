-- The clock lines of boards that hold by a turn.
use Rattle.std.specs.Prelude.{ℕ, ◌*◌, ◌≤◌, List, [], ◌∷◌, nat_lt, if◌then◌else◌}
use Rattle.plan_types.specs.declared.plan.Held.{Held}
use Rattle.plan_types.specs.Clock.{turn_ns}
use Rattle.plan_types.specs.Lines.{Clocks}

-- of some further clock lines of a board those that hold by the beginning of a turn
abbrev pub held_by : ℕ → List Held → List Held
held_by turn [] = []
held_by turn (h ∷ held) = if nat_lt (turn * turn_ns) h.from then held_by turn held else h ∷ held_by turn held

-- the clock lines of a board that hold by then
abbrev pub lines_by : ℕ → Clocks → Clocks
lines_by turn clocks = record { first = clocks.first; held = held_by turn clocks.held }

-- all of some further clock lines hold by then
abbrev pub AreHeldBy : ℕ → List Held → Type 0
AreHeldBy turn [] = Unit {0}
AreHeldBy turn (h ∷ held) = (h.from ≤ turn * turn_ns) × AreHeldBy turn held

-- How the units of a board's steppers stand in one list.
use Rattle.std.specs.Prelude.{ℕ, ◌+◌, ◌*◌, ◌<◌, List, [], ◌∷◌}
use Rattle.step_feed.specs.Units.{StepUnit}

-- where a unit stands: by its first tick, and then by the number of its stepper, which is below 256
abbrev pub order_of : StepUnit → ℕ
order_of u = u.first * 256 + u.stepper

-- units stand in this order, behind a place in it
abbrev pub AreInOrderFrom : ℕ → List StepUnit → Type 0
AreInOrderFrom before [] = Unit {0}
AreInOrderFrom before (u ∷ us) = before < order_of u × AreInOrderFrom (order_of u) us

-- where the last of some units stands
abbrev pub last_order : ℕ → List StepUnit → ℕ
last_order before [] = before
last_order before (u ∷ us) = last_order (order_of u) us

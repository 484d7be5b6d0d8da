-- Sections that home.
use Rattle.std.specs.Prelude.{ℕ, ◌+◌, ◌*◌, ◌^◌, ◌||◌, Bool, List, [], ◌∷◌, int_lt, map, max, nat_lt, slice_index_or, if◌then◌else◌}
use Rattle.plan_types.specs.declared.machine.Machine.{Machine}
use Rattle.plan_types.specs.declared.machine.StepperDef.{StepperDef}
use Rattle.plan_types.specs.declared.plan.Move.{Move}
use Rattle.plan_types.specs.Lines.{Clocks}
use Rattle.plan_types.specs.Machines.{no_move}
use Rattle.plan_types.specs.Moves.{coordinate}
use Rattle.plan_types.specs.Sections.{for_each_stepper, latest, stepper_end}
use Rattle.step_feed.specs.Pacing.{Release}

-- the turn in which a homing section ends that has no answer yet: no turn of a run is as late
abbrev pub no_end : ℕ
no_end = 2 ^ 62

-- the latest turn of a planned step, and the start where there is none
abbrev pub last_step : Machine → List Clocks → List Move → ℕ → ℕ
last_step m clocks moves start = max start (latest (for_each_stepper m (stepper_end m clocks moves start)))

-- 1 where a move changes the coordinate of a drive
abbrev pub one_moving : Bool → Move → ℕ → ℕ
one_moving corexy one drive =
    let from = coordinate corexy drive one.from in
    let to = coordinate corexy drive one.to in
    if int_lt from to || int_lt to from then 1 else 0

-- the steppers that a move moves: of these, from the first on, a bit for each
abbrev pub moving_among : Bool → Move → List StepperDef → ℕ
moving_among corexy one [] = 0
moving_among corexy one (s ∷ steppers) = one_moving corexy one s.drive + 2 * moving_among corexy one steppers

-- the steppers that a homing section moves
abbrev pub moving_in : Machine → List Move → ℕ
moving_in m moves = moving_among m.corexy (slice_index_or moves 0 no_move) m.steppers

-- releases before a turn
abbrev pub before_turn : ℕ → List Release → List Release
before_turn turn [] = []
before_turn turn (r ∷ rs) = if nat_lt r.turn turn then r ∷ before_turn turn rs else before_turn turn rs

-- and on all boards
abbrev pub all_before : ℕ → List (List Release) → List (List Release)
all_before turn boards = map (before_turn turn) boards

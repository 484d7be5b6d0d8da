-- How actions are cut into sections: at each dwell, home, wait and stop, and at the end.
use Rattle.std.specs.Prelude.{ℕ, ℤ, ◌+◌, Bool, false, List, [], ◌∷◌, ◌++◌, if◌then◌else◌, slice_index_or}
use Rattle.plan_types.specs.declared.machine.Machine.{Machine}
use Rattle.plan_types.specs.declared.plan.Move.{Move}
use Rattle.plan_types.specs.declared.plan.Section.{Section}
use Rattle.plan_types.specs.declared.plan.SectionKind.{SectionKind}
use Rattle.plan_types.specs.declared.plan.SectionKind.TheVariants.{Moves, Home}
use Rattle.gcode_state.specs.declared.state.Action.{Action}
use Rattle.gcode_state.specs.declared.state.Action.TheVariants as actions
use Rattle.gcode_state.specs.declared.state.State.{State}
use Rattle.gcode_state.specs.States.{coordinates_of}
use Rattle.gcode_program.specs.Homes.{homing_move, stood}
use Rattle.gcode_program.specs.Readings.{Deed}

-- a piece without a move is no section
abbrev pub closed : ℕ → List Move → List Section
closed dwell [] = []
closed dwell (m ∷ ms) = record { kind = Moves; moves = m ∷ ms; dwell = dwell } ∷ []

-- the dwells that are left for the next section
abbrev pub dwell_left : ℕ → List Move → ℕ
dwell_left dwell [] = dwell
dwell_left dwell (m ∷ ms) = 0

-- each homed axis is a section of its own, with one move
abbrev pub home_of : Machine → List ℤ → ℕ → ℕ → ℕ → Bool → List Section
home_of m at acceleration dwell axis named =
    if named then record { kind = Home axis; moves = homing_move m at acceleration axis ∷ []; dwell = dwell } ∷ []
    else []

-- the dwells that are left behind a home of some axes
abbrev pub dwell_behind_home : ℕ → Bool → ℕ
dwell_behind_home dwell named = if named then 0 else dwell

-- a home names this axis
abbrev pub is_named : List Bool → ℕ → Bool
is_named axes k = slice_index_or axes k false

-- the sections of a home, one for each axis, in the order x, y, z
abbrev pub homes : Machine → List ℤ → ℕ → ℕ → List Bool → List Section
homes m at acceleration dwell axes =
    let x = is_named axes 0 in
    let y = is_named axes 1 in
    let z = is_named axes 2 in
    home_of m at acceleration dwell 0 x ++ home_of m (stood m at 0 x) acceleration (dwell_behind_home dwell x) 1 y
    ++ home_of m (stood m (stood m at 0 x) 1 y) acceleration (dwell_behind_home (dwell_behind_home dwell x) y) 2 z

-- how many milliseconds of dwells are left behind the homing of these axes: they go with the first one
abbrev pub left_by_homes : ℕ → List Bool → ℕ
left_by_homes dwell axes =
    dwell_behind_home (dwell_behind_home (dwell_behind_home dwell (is_named axes 0)) (is_named axes 1))
    (is_named axes 2)

-- the sections of these deeds, behind so many milliseconds of dwells and the moves of a section that is open,
-- by what one of them does
abbrev pub sections_by : Machine → ℕ → List Move → State → Action → (ℕ → List Move → List Section) → List Section
sections_by m dwell moves s actions.None rest = rest dwell moves
sections_by m dwell moves s (actions.Move one) rest = rest dwell (moves ++ one ∷ [])
sections_by m dwell moves s (actions.Dwell ms) rest = closed dwell moves ++ rest (dwell_left dwell moves + ms) []
sections_by m dwell moves s actions.Wait rest = closed dwell moves ++ rest (dwell_left dwell moves) []
sections_by m dwell moves s actions.Stop rest = closed dwell moves ++ rest (dwell_left dwell moves) []
sections_by m dwell moves s (actions.Home axes) rest =
    closed dwell moves
    ++ (homes m (coordinates_of s) s.acceleration (dwell_left dwell moves) axes
    ++ rest (left_by_homes (dwell_left dwell moves) axes) [])

-- the sections of these deeds, behind so many milliseconds of dwells and the moves of a section that is open
abbrev pub sections_of : Machine → ℕ → List Move → List Deed → List Section
sections_of m dwell moves [] = closed dwell moves
sections_of m dwell moves (d ∷ rest) =
    sections_by m dwell moves d.before d.action (λ left_dwell left_moves. sections_of m left_dwell left_moves rest)

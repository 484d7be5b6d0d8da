-- The sections of a text, one thing behind the other.
use Rattle.std.specs.Prelude.{◌≡◌, ℕ, ◌+◌, Bool, true, false, List, [], ◌∷◌, ◌++◌, if◌then◌else◌}
use Rattle.plan_types.specs.declared.machine.Machine.{Machine}
use Rattle.plan_types.specs.declared.plan.Move.{Move}
use Rattle.plan_types.specs.declared.plan.Section.{Section}
use Rattle.plan_types.specs.declared.plan.SectionKind.TheVariants.{Moves}
use Rattle.plan_types.specs.Valid.{IsValidMove}
use Rattle.gcode_state.specs.declared.state.Action.{Action}
use Rattle.gcode_state.specs.declared.state.Action.TheVariants as actions
use Rattle.gcode_state.specs.declared.state.State.{State}
use Rattle.gcode_state.specs.States.{coordinates_of}
use Rattle.gcode_program.specs.declared.items.Item.{Item}
use Rattle.gcode_program.specs.declared.items.Item.TheVariants as items
use Rattle.gcode_program.specs.declared.items.Opening.{Opening}
use Rattle.gcode_program.specs.Cuts.{homes, left_by_homes}
use Rattle.gcode_program.specs.Held.{IsShortOrNear}

-- moves one behind the other
abbrev pub moves_in : List Move → List Item
moves_in [] = []
moves_in (m ∷ ms) = items.Move m ∷ moves_in ms

-- a section: it begins, has its moves, and ends
abbrev pub items_in : Section → List Item
items_in s = items.Begin s.kind s.dwell ∷ (moves_in s.moves ++ items.End ∷ [])

-- sections one behind the other
abbrev pub items_of : List Section → List Item
items_of [] = []
items_of (s ∷ ss) = items_in s ++ items_of ss

-- a move that can be planned
abbrev pub IsGood : Item → Type 0
IsGood (items.Move one) = IsValidMove one × IsShortOrNear one
IsGood other = Unit {0}

-- the section of moves that goes on ends
abbrev pub ending : Bool → List Item
ending true = items.End ∷ []
ending false = []

-- a section of moves begins with a move, where none goes on
abbrev pub beginning : Opening → List Item
beginning o = if o.goes then [] else items.Begin Moves o.dwell ∷ []

-- what an action tells, before which the lines left a state
abbrev pub items_by : Machine → Opening → State → Action → List Item
items_by m o s actions.None = []
items_by m o s (actions.Move one) = beginning o ++ items.Move one ∷ []
items_by m o s (actions.Dwell ms) = ending o.goes
items_by m o s actions.Wait = ending o.goes
items_by m o s actions.Stop = ending o.goes
items_by m o s (actions.Home axes) = ending o.goes ++ items_of (homes m (coordinates_of s) s.acceleration o.dwell axes)

-- whether a section of moves goes on behind it, and else the dwells before the next section
abbrev pub opening_by : Opening → Action → Opening
opening_by o actions.None = o
opening_by o (actions.Move one) = record { goes = true; dwell = if o.goes then o.dwell else 0 }
opening_by o (actions.Dwell ms) = record { goes = false; dwell = o.dwell + ms }
opening_by o actions.Wait = record { goes = false; dwell = o.dwell }
opening_by o actions.Stop = record { goes = false; dwell = o.dwell }
opening_by o (actions.Home axes) = record { goes = false; dwell = left_by_homes o.dwell axes }

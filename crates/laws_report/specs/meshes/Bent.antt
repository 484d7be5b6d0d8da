-- Sections whose moves follow a bed.
use Rattle.std.specs.Prelude.{ℕ, ◌+◌, ℤ, pos, Bool, ◌||◌, List, [], ◌∷◌, ◌++◌, if◌then◌else◌}
use Rattle.plan_types.specs.declared.machine.Machine.{Machine}
use Rattle.plan_types.specs.declared.plan.Move.{Move}
use Rattle.plan_types.specs.declared.plan.Section.{Section}
use Rattle.plan_types.specs.declared.plan.SectionKind.{SectionKind}
use Rattle.plan_types.specs.declared.plan.SectionKind.TheVariants.{Moves, Home}
use Rattle.plan_types.specs.Machines.{axis_at}
use Rattle.plan_types.specs.Moves.{move_length}
use Rattle.gcode_state.specs.States.{differs}
use Rattle.gcode_program.specs.Cuts.{closed, dwell_left}
use Rattle.gcode_program.specs.Homes.{homing_move, placed_on}
use Rattle.bed_mesh.specs.declared.mesh.Mesh.{Mesh}
use Rattle.bed_mesh.specs.Cuts.{cut_ends}
use Rattle.bed_mesh.specs.BentLines.{at, raised}

-- a place with the bed's height there added to its z
abbrev pub raised_place : Mesh → List ℤ → List ℤ
raised_place t place = at place 0 ∷ at place 1 ∷ raised t place ∷ at place 3 ∷ []

-- two places are not the same
abbrev pub differ : List ℤ → List ℤ → Bool
differ from to =
    differs (at from 0) (at to 0)
    || (differs (at from 1) (at to 1) || (differs (at from 2) (at to 2) || differs (at from 3) (at to 3)))

-- a move with its length
abbrev pub measured : Move → Move
measured m = record m { d = move_length m }

-- a move's part from one place to another, at the move's speed and acceleration
abbrev pub part_of : Move → List ℤ → List ℤ → Move
part_of m from to = measured (record { from = from; to = to; d = 0; v = m.v; a = m.a })

-- that part; none, where the two places are one
abbrev pub part_if : Move → List ℤ → List ℤ → List Move
part_if m from to = if differ from to then part_of m from to ∷ [] else []

-- a move's parts, one behind the other, from a place to each of these ends with the bed's height there
abbrev pub parts_to : Mesh → Move → List ℤ → List (List ℤ) → List Move
parts_to t m from [] = []
parts_to t m from (place ∷ places) = part_if m from (raised_place t place) ++ parts_to t m (raised_place t place) places

-- the parts of moves that stand in their place over a bed, from a place on: of each move those to its ends
abbrev pub bent_moves : Mesh → List ℤ → List Move → List Move
bent_moves t from [] = []
bent_moves t from (m ∷ ms) = parts_to t m from (cut_ends t m) ++ bent_moves t (raised_place t m.to) ms

-- the place to which they lead
abbrev pub led_to : Mesh → List ℤ → List Move → List ℤ
led_to t from [] = from
led_to t from (m ∷ ms) = led_to t (raised_place t m.to) ms

-- the acceleration of the last of some moves; where there are none, the one before them
abbrev pub last_acceleration : ℕ → List Move → ℕ
last_acceleration a [] = a
last_acceleration a (m ∷ ms) = last_acceleration m.a ms

-- A section over a bed, and those behind it. In a section of moves each move is replaced by its parts to its
-- ends; where none is left, there is no section, and its dwells stand before the next one. In a section that
-- homes the same axis does; the others stand where the moves over the bed led them, and the acceleration is
-- that of the last move before.
abbrev pub bent_by : Machine → Mesh → List ℤ → ℕ → ℕ → SectionKind → List Move → (List ℤ → ℕ → ℕ → List Section) →
    List Section
bent_by m t place a dwell Moves moves rest =
    closed dwell (bent_moves t place moves)
    ++ rest (led_to t place moves) (last_acceleration a moves) (dwell_left dwell (bent_moves t place moves))
bent_by m t place a dwell (Home axis) moves rest =
    record { kind = Home axis; moves = homing_move m place a axis ∷ []; dwell = dwell }
    ∷ rest (placed_on place axis (axis_at m axis).endstop) a 0

-- sections over a bed, from a place on, with this acceleration before their first move, behind so many
-- milliseconds of dwells
abbrev pub bent_sections : Machine → Mesh → List ℤ → ℕ → ℕ → List Section → List Section
bent_sections m t place a dwell [] = []
bent_sections m t place a dwell (s ∷ ss) =
    bent_by m t place a (dwell + s.dwell) s.kind s.moves (λ q b d. bent_sections m t q b d ss)

-- where everything stands before the first line
abbrev pub origin : List ℤ
origin = pos 0 ∷ pos 0 ∷ pos 0 ∷ pos 0 ∷ []

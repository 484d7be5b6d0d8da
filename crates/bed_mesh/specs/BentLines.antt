-- The lines that are written for what a line of G-code does.
use Rattle.std.specs.Prelude.{ℕ, ◌*◌, ◌+◌, ◌==◌, ℤ, pos, ◌+ℤ◌, ◌-ℤ◌, Bool, true, false, List, [], ◌∷◌, ◌++◌, codes, decimal, if◌then◌else◌, slice_index_or}
use Rattle.report_text.specs.Pieces.{joined}
use Rattle.plan_types.specs.declared.plan.Move.{Move}
use Rattle.gcode_state.specs.declared.state.Action.{Action}
use Rattle.gcode_state.specs.declared.state.Action.TheVariants as actions
use Rattle.bed_mesh.specs.declared.mesh.Mesh.{Mesh}
use Rattle.bed_mesh.specs.Grids.{height}
use Rattle.bed_mesh.specs.Cuts.{cut_ends}
use Rattle.bed_mesh.specs.Numbers.{word}

-- a coordinate of a place
abbrev pub at : List ℤ → ℕ → ℤ
at place k = slice_index_or place k (pos 0)

-- the height of a place over a bed, with the bed's height there
abbrev pub raised : Mesh → List ℤ → ℤ
raised t place = at place 2 +ℤ height t (at place 0) (at place 1)

-- The line of a move at a speed in nm/s, from one place to another over a bed: x and y of the place, its z
-- with the bed's height there, the change of E, and the speed in mm per minute.
unfoldable pub move_line : Mesh → ℕ → List ℤ → List ℤ → List ℕ
move_line t speed from place =
    word (codes "G1 X") (at place 0) ++ (word (codes " Y") (at place 1) ++ (word (codes " Z") (raised t place)
    ++ (word (codes " E") (at place 3 -ℤ at from 3) ++ word (codes " F") (pos (60 * speed)))))

-- the lines of moves to several places, one behind the other
abbrev pub move_lines : Mesh → ℕ → List ℤ → List (List ℤ) → List (List ℕ)
move_lines t speed from [] = []
move_lines t speed from (place ∷ places) = move_line t speed from place ∷ move_lines t speed place places

-- the line of an acceleration in nm/s²
abbrev pub acceleration_line : ℕ → List ℕ
acceleration_line a = word (codes "M204 S") (pos a)

-- the line of a new acceleration, where it isn't the one that was written last
abbrev pub new_acceleration : ℕ → ℕ → List (List ℕ)
new_acceleration last a = if a == last then [] else acceleration_line a ∷ []

-- the lines of a move that is cut at the lines of a bed's mesh
abbrev pub all_lines : Mesh → ℕ → Move → List (List ℕ)
all_lines t last m = new_acceleration last m.a ++ move_lines t m.v m.from (cut_ends t m)

-- the letter of an axis behind a blank, where it is homed
abbrev pub letter_if : Bool → List ℕ → List ℕ
letter_if true letter = letter
letter_if false letter = []

-- the line that homes these axes
abbrev pub home_line : List Bool → List ℕ
home_line axes =
    joined (codes "G28" ∷ letter_if (slice_index_or axes 0 false) (codes " X")
    ∷ letter_if (slice_index_or axes 1 false) (codes " Y") ∷ letter_if (slice_index_or axes 2 false) (codes " Z") ∷ [])

-- the lines of what a line of G-code does, over a bed, where this acceleration was written last
abbrev pub lines_by : Mesh → ℕ → Action → List (List ℕ)
lines_by t last actions.None = []
lines_by t last (actions.Move m) = all_lines t last m
lines_by t last (actions.Dwell ms) = joined (codes "G4 P" ∷ decimal ms ∷ []) ∷ []
lines_by t last (actions.Home axes) = home_line axes ∷ []
lines_by t last actions.Wait = codes "M400" ∷ []
lines_by t last actions.Stop = codes "M112" ∷ []

-- the acceleration that is written last then
abbrev pub last_by : ℕ → Action → ℕ
last_by last (actions.Move m) = m.a
last_by last other = last

-- lines as a text: each with its LF
abbrev pub joined_lines : List (List ℕ) → List ℕ
joined_lines [] = []
joined_lines (line ∷ lines) = line ++ 10 ∷ joined_lines lines

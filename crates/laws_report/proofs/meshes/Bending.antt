-- Sections over a bed, one thing behind the other.
use Rattle.std.proofs.Common.{◌≡◌, ◌∙◌, ℕ, ◌+◌, Bool, true, false, List, [], ◌∷◌, ◌++◌, refl, ap, sym, arith, append_assoc, append-nil, rules}
use Rattle.std.specs.Prelude.{ℤ}
use Rattle.laws_board.proofs.Names.{Machine, Move, Section}
use Rattle.gcode_program.specs.Cuts.{closed, home_of, homes, is_named, dwell_left, dwell_behind_home, left_by_homes}
use Rattle.gcode_program.specs.Homes.{stood}
use Rattle.bed_mesh.specs.declared.mesh.Mesh.{Mesh}
use Rattle.bed_mesh.specs.Cuts.{cut_ends}
use Rattle.laws_report.specs.meshes.Bent.{bent_moves, bent_sections, last_acceleration, parts_to, led_to, raised_place}

-- one move more
pub bent_more : (t : Mesh) (from : List ℤ) (ms : List Move) (m : Move) → bent_moves t from (ms ++ m ∷ []) ≡ bent_moves t from ms ++ parts_to t m (led_to t from ms) (cut_ends t m)
bent_more t from [] m = append-nil (parts_to t m from (cut_ends t m))
bent_more t from (n ∷ ms) m = ap (λ (l : List Move). parts_to t n from (cut_ends t n) ++ l) (bent_more t (raised_place t n.to) ms m) ∙ sym (append_assoc (parts_to t n from (cut_ends t n)) (bent_moves t (raised_place t n.to) ms) (parts_to t m (led_to t (raised_place t n.to) ms) (cut_ends t m)))

pub place_more : (t : Mesh) (from : List ℤ) (ms : List Move) (m : Move) → led_to t from (ms ++ m ∷ []) ≡ raised_place t m.to
place_more t from [] m = refl
place_more t from (n ∷ ms) m = place_more t (raised_place t n.to) ms m

pub last_more : (a : ℕ) (ms : List Move) (m : Move) → last_acceleration a (ms ++ m ∷ []) ≡ m.a
last_more a [] m = refl
last_more a (n ∷ ms) m = last_more n.a ms m

-- the dwells before the next section of which the input's sections do not know
abbrev pub carried : Mesh → List ℤ → ℕ → ℕ → List Move → ℕ
carried t place carry dwell [] = carry
carried t place carry dwell (m ∷ ms) = dwell_left (carry + dwell) (bent_moves t place (m ∷ ms))

pub carried_left : (t : Mesh) (place : List ℤ) (carry dwell : ℕ) (ms : List Move) → carried t place carry dwell ms + dwell_left dwell ms ≡ dwell_left (carry + dwell) (bent_moves t place ms)
carried_left t place carry dwell [] = refl
carried_left t place carry dwell (m ∷ ms) = omega arith

-- the open section ends
pub closed_bent : (m : Machine) (t : Mesh) (place : List ℤ) (a carry dwell : ℕ) (ms : List Move) (rest : List Section)
    → bent_sections m t place a carry (closed dwell ms ++ rest) ≡ closed (carry + dwell) (bent_moves t place ms) ++ bent_sections m t (led_to t place ms) (last_acceleration a ms) (carried t place carry dwell ms) rest
closed_bent m t place a carry dwell [] rest = refl
closed_bent m t place a carry dwell (one ∷ ms) rest = refl

-- an axis homes
home_bent : (m : Machine) (t : Mesh) (place at : List ℤ) (a acceleration carry dwell axis : ℕ) (named : Bool) (rest : List Section)
    → bent_sections m t place a carry (home_of m at acceleration dwell axis named ++ rest) ≡ home_of m place a (carry + dwell) axis named ++ bent_sections m t (stood m place axis named) a (dwell_behind_home carry named) rest
home_bent m t place at a acceleration carry dwell axis true rest = refl
home_bent m t place at a acceleration carry dwell axis false rest = refl

left_sum : (carry dwell : ℕ) (named : Bool) → dwell_behind_home carry named + dwell_behind_home dwell named ≡ dwell_behind_home (carry + dwell) named
left_sum carry dwell true = refl
left_sum carry dwell false = refl

pub left_homes : (carry dwell : ℕ) (axes : List Bool) → left_by_homes carry axes + left_by_homes dwell axes ≡ left_by_homes (carry + dwell) axes
left_homes carry dwell axes = search (rules, left_sum)

-- where everything stands behind a home
abbrev pub stood_all : Machine → List ℤ → List Bool → List ℤ
stood_all m place axes = stood m (stood m (stood m place 0 (is_named axes 0)) 1 (is_named axes 1)) 2 (is_named axes 2)

-- some axes home
pub homes_bent : (m : Machine) (t : Mesh) (place at : List ℤ) (a acceleration carry dwell : ℕ) (axes : List Bool) (rest : List Section)
    → bent_sections m t place a carry (homes m at acceleration dwell axes ++ rest) ≡ homes m place a (carry + dwell) axes ++ bent_sections m t (stood_all m place axes) a (left_by_homes carry axes) rest
homes_bent m t place at a acceleration carry dwell axes rest = search (rules, left_sum, home_bent, append_assoc)

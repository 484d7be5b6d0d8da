-- A section that homes has one move.
use Rattle.std.proofs.Common.{◌≡◌, ℕ, ℤ, ◌+◌, Bool, true, false, List, [], ◌∷◌, ◌++◌, map, refl, subst, rules}
use Rattle.laws_board.proofs.Names.{Machine, Move, Section, Home, Moves, Started}
use Rattle.gcode_state.specs.declared.state.Action.{Action}
use Rattle.gcode_state.specs.declared.state.Action.TheVariants as actions
use Rattle.gcode_state.specs.declared.state.State.{State}
use Rattle.gcode_state.specs.States.{coordinates_of}
use Rattle.gcode_program.specs.Cuts.{closed, home_of, homes, is_named, dwell_left, dwell_behind_home, left_by_homes, sections_by, sections_of}
use Rattle.gcode_program.specs.Homes.{homing_move, stood}
use Rattle.gcode_program.specs.Programs.{outcome_of, program_sections}
use Rattle.gcode_program.specs.Readings.{Deed}

moves_home : (axis : ℕ) → Moves ≡ Home axis → ⊥
moves_home axis e = cc

abbrev HasOne : Section → Type 0
HasOne s = (axis : ℕ) → s.kind ≡ Home axis → (one : Move) × (s.moves ≡ one ∷ [])

abbrev AllOne : List Section → Type 0
AllOne [] = Unit {0}
AllOne (s ∷ ss) = HasOne s × AllOne ss

ones_both : (xs ys : List Section) → AllOne xs → AllOne ys → AllOne (xs ++ ys)
ones_both [] ys a b = b
ones_both (x ∷ xs) ys a b = (a.0, ones_both xs ys a.1 b)

ones_front : (xs ys : List Section) → AllOne (xs ++ ys) → AllOne xs
ones_front [] ys a = tt
ones_front (x ∷ xs) ys a = (a.0, ones_front xs ys a.1)

closed_one : (dwell : ℕ) (moves : List Move) → AllOne (closed dwell moves)
closed_one dwell [] = tt
closed_one dwell (one ∷ moves) = (λ axis e. absurd (moves_home axis e), tt)

home_one : (m : Machine) (at : List ℤ) (acceleration dwell axis : ℕ) (named : Bool) → AllOne (home_of m at acceleration dwell axis named)
home_one m at acceleration dwell axis true = (λ other e. (homing_move m at acceleration axis, refl), tt)
home_one m at acceleration dwell axis false = tt

homes_one : (m : Machine) (at : List ℤ) (acceleration dwell : ℕ) (axes : List Bool) → AllOne (homes m at acceleration dwell axes)
homes_one m at acceleration dwell axes = search (rules, ones_both, home_one)

by_one : (m : Machine) (dwell : ℕ) (moves : List Move) (s : State) (a : Action) (rest : ℕ → List Move → List Section) → ((d : ℕ) (ms : List Move) → AllOne (rest d ms)) → AllOne (sections_by m dwell moves s a rest)
by_one m dwell moves s a rest p6 = search (rules, ones_both, closed_one, homes_one)

sections_one : (m : Machine) (dwell : ℕ) (moves : List Move) (deeds : List Deed) → AllOne (sections_of m dwell moves deeds)
sections_one m dwell moves [] = closed_one dwell moves
sections_one m dwell moves (d ∷ rest) = by_one m dwell moves d.before d.action (λ left_dwell left_moves. sections_of m left_dwell left_moves rest) (λ e ms. sections_one m e ms rest)

ones_at : (past : List Started) (s : Started) (later : List Started) → AllOne (map (λ x. x.section) (past ++ s ∷ later)) → HasOne s.section
ones_at [] s later a = a.0
ones_at (x ∷ past) s later a = ones_at past s later a.1

pub one_move : (m : Machine) (text : List ℕ) (begun past : List Started) (s : Started) (later : List Started) (others : List Section) (axis : ℕ) → program_sections m text ≡ map (λ x. x.section) begun ++ others → begun ≡ past ++ s ∷ later
    → s.section.kind ≡ Home axis → (one : Move) × (s.section.moves ≡ one ∷ [])
one_move m text begun past s later others axis split cut home =
    let all : AllOne (program_sections m text) = sections_one m 0 [] (outcome_of m text).deeds in
    let front = ones_front (map (λ (x : Started). x.section) begun) others (subst AllOne split all) in
    let Of : List Started → Type 0 = λ ss. AllOne (map (λ (x : Started). x.section) ss) in
    ones_at past s later (subst Of cut front) axis home

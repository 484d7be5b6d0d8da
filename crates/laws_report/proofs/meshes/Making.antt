-- What the deeds of a file make over a bed.
use Rattle.std.proofs.Common.{◌≡◌, ◌∙◌, ℕ, ◌+◌, Bool, List, [], ◌∷◌, ◌++◌, refl, sym, ap, arith, append-nil, rules}
use Rattle.std.specs.Prelude.{ℤ}
use Rattle.laws_board.proofs.Names.{Machine, Move, Section}
use Rattle.gcode_state.specs.declared.state.State.{State}
use Rattle.gcode_state.specs.declared.state.Action.{Action}
use Rattle.gcode_state.specs.declared.state.Action.TheVariants as actions
use Rattle.gcode_state.specs.States.{coordinates_of}
use Rattle.gcode_program.specs.Cuts.{closed, homes, dwell_left, left_by_homes, sections_of}
use Rattle.gcode_program.specs.Readings.{Deed, deed_of}
use Rattle.bed_mesh.specs.declared.mesh.Mesh.{Mesh}
use Rattle.bed_mesh.specs.Cuts.{cut_ends}
use Rattle.bed_mesh.specs.BentLines.{at}
use Rattle.laws_report.specs.meshes.Bent.{bent_moves, bent_sections, last_acceleration, parts_to, led_to}
use Rattle.laws_report.proofs.meshes.Bending.{bent_more, carried, carried_left, closed_bent, homes_bent, last_more, left_homes, place_more, stood_all}
use Rattle.laws_report.proofs.meshes.Moving.{AreMoved, move_place}

-- deeds that do nothing
abbrev pub AreIdle : List Deed → Type 0
AreIdle [] = Unit {0}
AreIdle (d ∷ ds) = (d.action ≡ actions.None) × AreIdle ds

pub idle_closed : (m : Machine) (dwell : ℕ) (moves : List Move) (idle : List Deed) → AreIdle idle → sections_of m dwell moves idle ≡ closed dwell moves
idle_closed m dwell moves [] h = refl
idle_closed m dwell moves (d ∷ idle) h = ap (λ (a : Action). sections_of m dwell moves (deed_of d.before a ∷ idle)) h.0 ∙ idle_closed m dwell moves idle h.1

pub closed_last : (m : Machine) (t : Mesh) (place : List ℤ) (a carry dwell : ℕ) (moves : List Move) → closed (carry + dwell) (bent_moves t place moves) ≡ bent_sections m t place a carry (closed dwell moves)
closed_last m t place a carry dwell [] = refl
closed_last m t place a carry dwell (one ∷ moves) = sym (append-nil (closed (carry + dwell) (bent_moves t place (one ∷ moves))))

-- What deeds of a file make of it, behind modes in which moves led to a place: the sections over the bed of what other deeds make.
abbrev pub AreBent : Machine → Mesh → List ℤ → ℕ → List Deed → List Deed → Type 0
AreBent m t at last deeds done = (place : List ℤ) (a carry dwell : ℕ) (moves : List Move) → at ≡ led_to t place moves → last ≡ last_acceleration a moves
    → sections_of m (carry + dwell) (bent_moves t place moves) deeds ≡ bent_sections m t place a carry (sections_of m dwell moves done)

-- what each action makes
none_bent : (m : Machine) (t : Mesh) (s w : State) (last : ℕ) (others rest : List Deed) → AreBent m t (coordinates_of w) last others rest → AreBent m t (coordinates_of w) last others (deed_of s actions.None ∷ rest)
none_bent m t s w last others rest h = h

pub move_bent : (m : Machine) (t : Mesh) (s w u : State) (mv : Move) (last : ℕ) (lines : List (List ℕ)) (r : AreMoved m t mv w lines (cut_ends t mv) u) (others rest : List Deed) → AreBent m t (coordinates_of u) mv.a others rest
    → AreBent m t (coordinates_of w) last (r.deeds ++ others) (deed_of s (actions.Move mv) ∷ rest)
move_bent m t s w u mv last lines r others rest h place a carry dwell moves is slow =
    r.sections (carry + dwell) (bent_moves t place moves) others
    ∙ ap (λ (l : List Move). sections_of m (carry + dwell) l others) (ap (λ (p : List ℤ). bent_moves t place moves ++ parts_to t mv p (cut_ends t mv)) is ∙ sym (bent_more t place moves mv))
    ∙ h place a carry dwell (moves ++ mv ∷ []) (r.place ∙ move_place t mv (coordinates_of w) ∙ sym (place_more t place moves mv)) (sym (last_more a moves mv))

-- the open section ends, and others follow behind more milliseconds of dwells
closing : (m : Machine) (t : Mesh) (at : List ℤ) (last more carry dwell a : ℕ) (place : List ℤ) (moves : List Move) (others rest : List Deed) → AreBent m t at last others rest → at ≡ led_to t place moves → last ≡ last_acceleration a moves
    → closed (carry + dwell) (bent_moves t place moves) ++ sections_of m (dwell_left (carry + dwell) (bent_moves t place moves) + more) [] others
    ≡ bent_sections m t place a carry (closed dwell moves ++ sections_of m (dwell_left dwell moves + more) [] rest)
closing m t at last more carry dwell a place moves others rest h is slow = search (rules, carried_left, closed_bent)

pub dwell_bent : (m : Machine) (t : Mesh) (s w : State) (ms last : ℕ) (others rest : List Deed) → AreBent m t (coordinates_of w) last others rest → AreBent m t (coordinates_of w) last (deed_of w (actions.Dwell ms) ∷ others) (deed_of s (actions.Dwell ms) ∷ rest)
dwell_bent m t s w ms last others rest h place a carry dwell moves is slow = closing m t (coordinates_of w) last ms carry dwell a place moves others rest h is slow

none_more : (n : ℕ) → n + 0 ≡ n
none_more n = omega arith

pub wait_bent : (m : Machine) (t : Mesh) (s w : State) (last : ℕ) (others rest : List Deed) → AreBent m t (coordinates_of w) last others rest → AreBent m t (coordinates_of w) last (deed_of w actions.Wait ∷ others) (deed_of s actions.Wait ∷ rest)
wait_bent m t s w last others rest h place a carry dwell moves is slow =
    ap (λ (k : ℕ). closed (carry + dwell) (bent_moves t place moves) ++ sections_of m k [] others) (sym (none_more (dwell_left (carry + dwell) (bent_moves t place moves))))
    ∙ closing m t (coordinates_of w) last 0 carry dwell a place moves others rest h is slow
    ∙ ap (λ (k : ℕ). bent_sections m t place a carry (closed dwell moves ++ sections_of m k [] rest)) (none_more (dwell_left dwell moves))

pub home_bent : (m : Machine) (t : Mesh) (s w : State) (axes : List Bool) (last : ℕ) (to : List ℤ) (others rest : List Deed) → w.acceleration ≡ last → to ≡ stood_all m (coordinates_of w) axes → AreBent m t to last others rest
    → AreBent m t (coordinates_of w) last (deed_of w (actions.Home axes) ∷ others) (deed_of s (actions.Home axes) ∷ rest)
home_bent m t s w axes last to others rest same to_is h place a carry dwell moves is slow =
    let end = closed (carry + dwell) (bent_moves t place moves) in
    let b = dwell_left (carry + dwell) (bent_moves t place moves) in
    let c = carried t place carry dwell moves in
    let d = dwell_left dwell moves in
    let sum : c + d ≡ b = carried_left t place carry dwell moves in
    let kept = sections_of m (left_by_homes d axes) [] rest in
    let n : left_by_homes b axes ≡ left_by_homes c axes + left_by_homes d axes = ap (λ (k : ℕ). left_by_homes k axes) (sym sum) ∙ sym (left_homes c d axes) in
    let behind : sections_of m (left_by_homes b axes) [] others ≡ bent_sections m t (stood_all m (coordinates_of w) axes) last (left_by_homes c axes) kept =
    ap (λ (k : ℕ). sections_of m k [] others) n ∙ h to last (left_by_homes c axes) (left_by_homes d axes) [] refl refl ∙ ap (λ (p : List ℤ). bent_sections m t p last (left_by_homes c axes) kept) to_is in
    let home : homes m (coordinates_of w) w.acceleration b axes ≡ homes m (coordinates_of w) last (c + d) axes = ap (λ (k : ℕ). homes m (coordinates_of w) k b axes) same ∙ ap (λ (k : ℕ). homes m (coordinates_of w) last k axes) (sym sum) in
    let tail = sections_of m (left_by_homes b axes) [] others in
    ap (λ (l : List Section). end ++ (l ++ tail)) home
    ∙ ap (λ (l : List Section). end ++ (homes m (coordinates_of w) last (c + d) axes ++ l)) behind
    ∙ ap (λ (l : List Section). end ++ l) (sym (homes_bent m t (coordinates_of w) (coordinates_of s) last s.acceleration c d axes kept))
    ∙ ap (λ (p : List ℤ). end ++ bent_sections m t p last c (homes m (coordinates_of s) s.acceleration d axes ++ kept)) is
    ∙ ap (λ (k : ℕ). end ++ bent_sections m t (led_to t place moves) k c (homes m (coordinates_of s) s.acceleration d axes ++ kept)) slow
    ∙ sym (closed_bent m t place a carry dwell moves (homes m (coordinates_of s) s.acceleration d axes ++ kept))

-- E goes on through the sections of a text.
use Rattle.std.proofs.Common.{◌≡◌, ◌∙◌, ℕ, zero, suc, ◌+◌, Bool, true, false, List, [], ◌∷◌, ◌++◌, length, append_assoc, append-nil, take, refl, sym, subst}
use Rattle.std.specs.Prelude.{Result, Ok, Err, ℤ, pos}
use Rattle.text_core.specs.Lines.{lines_of}
use Rattle.plan_types.specs.declared.cause.LineKind.{LineKind}
use Rattle.laws_board.proofs.Names.{Machine, Move, Section}
use Rattle.gcode_state.specs.declared.state.State.{State}
use Rattle.gcode_state.specs.declared.state.Action.{Action}
use Rattle.gcode_state.specs.declared.state.Action.TheVariants as actions
use Rattle.gcode_state.specs.Starts.{initial}
use Rattle.gcode_state.specs.States.{coordinates_of}
use Rattle.gcode_program.specs.Cuts.{closed, home_of, homes, is_named, dwell_left, dwell_behind_home, left_by_homes, sections_of}
use Rattle.gcode_program.specs.Homes.{homing_move, stood}
use Rattle.gcode_program.specs.Programs.{outcome_of}
use Rattle.gcode_program.specs.Readings.{Deed, Outcome, behind_action, behind_line, deed_of, is_passed, line_result, outcome}
use Rattle.bed_mesh.specs.BentLines.{at}
use Rattle.laws_report.specs.meshes.Joined.{Extrude, ExtrudeThrough}
use Rattle.laws_report.specs.meshes.Written.{first_sections}
use Rattle.laws_report.proofs.meshes.Deeds.{IsDeed, line_does}
use Rattle.laws_report.proofs.meshes.Filing.{line_applied}

goes_more : (from mid to : ℤ) (ms : List Move) (m : Move) → Extrude from ms mid → at m.from 3 ≡ mid → at m.to 3 ≡ to → Extrude from (ms ++ m ∷ []) to
goes_more from mid to [] m h e f = (e ∙ sym h, f)
goes_more from mid to (n ∷ ms) m h e f = (h.0, goes_more (at n.to 3) mid to ms m h.1 e f)

-- the open section ends
goes_closed : (from mid : ℤ) (dwell : ℕ) (ms : List Move) (rest : List Section) → Extrude from ms mid → ExtrudeThrough mid rest → ExtrudeThrough from (closed dwell ms ++ rest)
goes_closed from mid dwell [] rest h k = subst (λ (e : ℤ). ExtrudeThrough e rest) (sym h) k
goes_closed from mid dwell (m ∷ ms) rest h k = (mid, h, k)

-- homes keep E
home_goes : (m : Machine) (place : List ℤ) (a dwell axis : ℕ) (named : Bool) (rest : List Section) → ExtrudeThrough (at place 3) rest → ExtrudeThrough (at place 3) (home_of m place a dwell axis named ++ rest)
unfolding homing_move
home_goes m place a dwell axis true rest h = (at place 3, (refl, refl), h)
home_goes m place a dwell axis false rest h = h

stood_same : (m : Machine) (place : List ℤ) (axis : ℕ) (named : Bool) → at (stood m place axis named) 3 ≡ at place 3
stood_same m place axis true = refl
stood_same m place axis false = refl

homes_go : (m : Machine) (place : List ℤ) (a dwell : ℕ) (axes : List Bool) (rest : List Section) → ExtrudeThrough (at place 3) rest → ExtrudeThrough (at place 3) (homes m place a dwell axes ++ rest)
homes_go m place a dwell axes rest h =
    let x = is_named axes 0 in
    let y = is_named axes 1 in
    let z = is_named axes 2 in
    let p1 = stood m place 0 x in
    let p2 = stood m p1 1 y in
    let h1 = home_of m place a dwell 0 x in
    let h2 = home_of m p1 a (dwell_behind_home dwell x) 1 y in
    let h3 = home_of m p2 a (dwell_behind_home (dwell_behind_home dwell x) y) 2 z in
    let e1 = stood_same m place 0 x in
    let e2 : at p2 3 ≡ at place 3 = stood_same m p1 1 y ∙ e1 in
    let third : ExtrudeThrough (at p2 3) (h3 ++ rest) = home_goes m p2 a (dwell_behind_home (dwell_behind_home dwell x) y) 2 z rest (subst (λ (e : ℤ). ExtrudeThrough e rest) (sym e2) h) in
    let second : ExtrudeThrough (at p1 3) (h2 ++ (h3 ++ rest)) = home_goes m p1 a (dwell_behind_home dwell x) 1 y (h3 ++ rest) (subst (λ (e : ℤ). ExtrudeThrough e (h3 ++ rest)) (stood_same m p1 1 y) third) in
    let first : ExtrudeThrough (at place 3) (h1 ++ (h2 ++ (h3 ++ rest))) = home_goes m place a dwell 0 x (h2 ++ (h3 ++ rest)) (subst (λ (e : ℤ). ExtrudeThrough e (h2 ++ (h3 ++ rest))) e1 second) in
    subst (λ (l : List Section). ExtrudeThrough (at place 3) l) (sym (append_assoc (h1 ++ h2) h3 rest ∙ append_assoc h1 h2 (h3 ++ rest))) first

-- the sections of deeds, behind modes and the moves of an open section
abbrev pub AreOn : Machine → ℤ → List Deed → Type 0
AreOn m e deeds = (from : ℤ) (dwell : ℕ) (moves : List Move) → Extrude from moves e → ExtrudeThrough from (sections_of m dwell moves deeds)

none_on : (m : Machine) (e : ℤ) → AreOn m e []
none_on m e from dwell moves h = subst (λ (l : List Section). ExtrudeThrough from l) (append-nil (closed dwell moves)) (goes_closed from e dwell moves [] h tt)

deed_on : (m : Machine) (s t : State) (action : Action) (rest : List Deed) → IsDeed s t action → AreOn m t.e_at rest → AreOn m s.e_at (deed_of s action ∷ rest)
deed_on m s t actions.None rest does h from dwell moves g = h from dwell moves (subst (λ (e : ℤ). Extrude from moves e) (sym does.done) g)
deed_on m s t (actions.Move mv) rest does h from dwell moves g = h from dwell (moves ++ mv ∷ []) (goes_more from s.e_at t.e_at moves mv g does.done.from does.done.to)
deed_on m s t (actions.Dwell ms) rest does h from dwell moves g = goes_closed from s.e_at dwell moves _ g (subst (λ (e : ℤ). ExtrudeThrough e (sections_of m (dwell_left dwell moves + ms) [] rest)) does.done (h t.e_at (dwell_left dwell moves + ms) [] refl))
deed_on m s t (actions.Home axes) rest does h from dwell moves g =
    let behind = left_by_homes (dwell_left dwell moves) axes in
    goes_closed from s.e_at dwell moves _ g (homes_go m (coordinates_of s) s.acceleration (dwell_left dwell moves) axes (sections_of m behind [] rest) (subst (λ (e : ℤ). ExtrudeThrough e (sections_of m behind [] rest)) does.done.1 (h t.e_at behind [] refl)))
deed_on m s t c rest does h from dwell moves g = goes_closed from s.e_at dwell moves _ g (subst (λ (e : ℤ). ExtrudeThrough e (sections_of m (dwell_left dwell moves) [] rest)) does.done (h t.e_at (dwell_left dwell moves) [] refl))

-- the first deeds of an action and what follows
action_on : (m : Machine) (number count : ℕ) (passed : Bool) (s t : State) (action : Action) (o : Outcome) → IsDeed s t action → ((n : ℕ) → AreOn m t.e_at (take n o.deeds)) → AreOn m s.e_at (take (suc count) (behind_action number passed s action o).deeds)
action_on m number count passed s t actions.Stop o does h = deed_on m s t actions.Stop (take count []) does (nothing count) where
  nothing : (n : ℕ) → AreOn m t.e_at (take n [])
  nothing zero = none_on m t.e_at
  nothing (suc n) = none_on m t.e_at
action_on m number count passed s t c o does h = deed_on m s t c (take count o.deeds) does (h count)

outcome_on : (m : Machine) (size : ℕ) (s : State) (number start : ℕ) (lines : List (List ℕ)) (count : ℕ) → AreOn m s.e_at (take count (outcome size s number start lines).deeds)
outcome_on m size s number start lines zero = none_on m s.e_at
outcome_on m size s number start [] (suc count) = none_on m s.e_at
outcome_on m size s number start (line ∷ lines) (suc count) = by (line_result size start s line) refl (λ t n. outcome_on m size t (number + 1) (start + (length line + 1)) lines n) where
  by : (r : Result (State × Action) LineKind) → line_result size start s line ≡ r → ((t : State) (n : ℕ) → AreOn m t.e_at (take n (outcome size t (number + 1) (start + (length line + 1)) lines).deeds))
      → AreOn m s.e_at (take (suc count) (behind_line number (is_passed line) s r (λ t. outcome size t (number + 1) (start + (length line + 1)) lines)).deeds)
  by (Err kind) is more = none_on m s.e_at
  by (Ok next) is more = action_on m number count (is_passed line) s next.0 next.1 (outcome size next.0 (number + 1) (start + (length line + 1)) lines) (line_does s next.0 line next.1 (line_applied size start s line next is)) (more next.0)

initial_e : (m : Machine) → (initial m).e_at ≡ pos 0
unfolding initial
initial_e m = refl

pub text_goes_on : (m : Machine) (text : List ℕ) (count : ℕ) → ExtrudeThrough (pos 0) (first_sections count m text)
unfolding outcome_of
text_goes_on m text count = outcome_on m (length text) (initial m) 1 0 (lines_of text) count (pos 0) 0 [] (sym (initial_e m))

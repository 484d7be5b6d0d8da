-- What is written for an action, as it is read.
use Rattle.std.proofs.Common.{◌≡◌, ◌∙◌, ℕ, ◌≤◌, Bool, true, false, codes, List, [], ◌∷◌, ◌++◌, refl, sym, subst, ap, arith, rules}
use Rattle.std.specs.Prelude.{Ok, ℤ, ◌||◌}
use Rattle.laws_board.proofs.Names.{Machine, Move}
use Rattle.gcode_state.specs.declared.state.State.{State}
use Rattle.gcode_state.specs.declared.state.Action.{Action}
use Rattle.gcode_state.specs.declared.state.Action.TheVariants as actions
use Rattle.gcode_state.specs.States.{axes_in, coordinates_of, homed_by}
use Rattle.gcode_program.specs.Readings.{Deed, applied_line, deed_of, is_passed, is_stop}
use Rattle.bed_mesh.specs.declared.mesh.Mesh.{Mesh}
use Rattle.bed_mesh.specs.Files.{accepted_state}
use Rattle.bed_mesh.specs.BentLines.{at, last_by, lines_by}
use Rattle.laws_report.proofs.meshes.Deeds.{IsDeed}
use Rattle.laws_report.proofs.meshes.Making.{AreBent, dwell_bent, home_bent, move_bent, wait_bent}
use Rattle.laws_report.proofs.meshes.Moving.{move_place, move_read}
use Rattle.laws_report.proofs.meshes.Reading.{dwell_text, home_text, plain_dwell, plain_home}
use Rattle.laws_report.proofs.meshes.Telling.{AllPlain, AreRead, first_of, none_read, one_read}
use Rattle.laws_report.proofs.meshes.Writing.{IsWriting, dwell_done, home_done, place_homed, stop_done, wait_done, with_more, writing_homed, writing_more}

-- the modes behind what is written so far, and those of the text
pub record IsTied (m : Machine) (s w : State) (last : ℕ) : Type 0 where
  pub writing : IsWriting m w last
  pub top : w.top ≡ s.top
  pub e : w.e_at ≡ s.e_at

-- the lines for an action that is no stop are read, and make over the bed what it makes
pub record IsWritten (m : Machine) (t : Mesh) (s v w u : State) (last : ℕ) (action : Action) : Type 0 where
  pub deeds : List Deed
  pub read : AreRead w (lines_by t last action) u deeds
  pub plain : AllPlain (lines_by t last action)
  pub tied : IsTied m v u (last_by last action)
  pub bent : (others rest : List Deed) → AreBent m t (coordinates_of u) (last_by last action) others rest → AreBent m t (coordinates_of w) last (deeds ++ others) (deed_of s action ∷ rest)

only_line : (start : ℕ) (w u : State) (line : List ℕ) → accepted_state start w (line ∷ []) ≡ Ok u → (act : Action) × (applied_line w line ≡ Ok (u, act))
only_line start w u line h = let f = first_of start w u line [] h in let e : f.0 ≡ u = (let k = f.3 in cc) in (f.1, subst (λ (x : State). applied_line w line ≡ Ok (x, f.1)) e f.2)

-- a line that leaves these modes
settled : (w u v : State) (line : List ℕ) (act kind : Action) → applied_line w line ≡ Ok (u, act) → u ≡ v → act ≡ kind → applied_line w line ≡ Ok (v, kind)
settled w u v line act kind h e f = subst (λ (b : Action). applied_line w line ≡ Ok (v, b)) f (subst (λ (x : State). applied_line w line ≡ Ok (x, act)) e h)

none_written : (m : Machine) (t : Mesh) (s v w : State) (last : ℕ) → IsTied m s w last → IsDeed s v actions.None → IsWritten m t s v w w last actions.None
none_written m t s v w last tie does = search (rules, none_read)

move_written : (m : Machine) (t : Mesh) (s v w u : State) (start last : ℕ) (mv : Move) → IsTied m s w last → IsDeed s v (actions.Move mv) → accepted_state start w (lines_by t last (actions.Move mv)) ≡ Ok u → IsWritten m t s v w u last (actions.Move mv)
move_written m t s v w u start last mv tie does h =
    let drawn = does.done in
    let fast : mv.v ≤ w.top = (let a = drawn.speed in let b = tie.top in omega arith) in
    let r = move_read m t mv start last w u tie.writing fast (tie.e ∙ sym drawn.from) h in
    record {
      deeds = r.deeds;
      read = r.read;
      plain = r.plain;
      tied = record { writing = r.writing; top = r.top ∙ tie.top ∙ sym does.top; e = ap (λ (l : List ℤ). at l 3) (r.place ∙ move_place t mv (coordinates_of w)) ∙ drawn.to };
      bent = λ others rest k. move_bent m t s w u mv last (lines_by t last (actions.Move mv)) r others rest k;
    }

dwell_written : (m : Machine) (t : Mesh) (s v w u : State) (start last ms : ℕ) → IsTied m s w last → IsDeed s v (actions.Dwell ms) → accepted_state start w (dwell_text ms ∷ []) ≡ Ok u → IsWritten m t s v w u last (actions.Dwell ms)
dwell_written m t s v w u start last ms tie does h = search (rules, only_line, dwell_done, settled, one_read, plain_dwell, writing_more, dwell_bent)

wait_written : (m : Machine) (t : Mesh) (s v w u : State) (start last : ℕ) → IsTied m s w last → IsDeed s v actions.Wait → accepted_state start w (codes "M400" ∷ []) ≡ Ok u → IsWritten m t s v w u last actions.Wait
wait_written m t s v w u start last tie does h = search (rules, only_line, wait_done, settled, one_read, wait_bent)

home_written : (m : Machine) (t : Mesh) (s v w u : State) (start last : ℕ) (x y z : Bool) → (x || (y || z)) ≡ true → v.top ≡ s.top → v.e_at ≡ s.e_at → IsTied m s w last → accepted_state start w (home_text x y z ∷ []) ≡ Ok u
    → IsWritten m t s v w u last (actions.Home (x ∷ y ∷ z ∷ []))
home_written m t s v w u start last x y z some top stays tie h =
    let axes = x ∷ y ∷ z ∷ [] in
    let one = only_line start w u (home_text x y z) h in
    let d = home_done w u x y z one.0 some one.1 in
    let w' = with_more w (axes_in axes) in
    let to = homed_by w' axes in
    let k = settled w u to (home_text x y z) one.0 (actions.Home axes) one.1 d.0.0 d.0.1 in
    let counted = writing_more m w last (axes_in axes) tie.writing in
    let acceleration = tie.writing.acceleration in
    subst (λ (q : State). IsWritten m t s v w q last (actions.Home axes)) (sym d.0.0) (record {
      deeds = deed_of w (actions.Home axes) ∷ [];
      read = one_read w to (home_text x y z) (actions.Home axes) k d.1 refl;
      plain = (plain_home x y z, tt);
      tied = record { writing = writing_homed m w' last x y z counted; top = tie.top ∙ sym top; e = tie.e ∙ sym stays };
      bent = λ others rest b. home_bent m t s w axes last (coordinates_of to) others rest acceleration (place_homed m w' last x y z counted) b;
    })

-- what is written for any action that is no stop
pub action_written : (m : Machine) (t : Mesh) (s v w u : State) (start last : ℕ) (action : Action) → is_stop action ≡ false → IsTied m s w last → IsDeed s v action → accepted_state start w (lines_by t last action) ≡ Ok u → IsWritten m t s v w u last action
action_written m t s v w u start last action p9 p10 p11 p12 = search (rules, none_written, move_written, dwell_written, wait_written, home_written)

-- the line of a stop
pub stop_written : (w u : State) (start : ℕ) → accepted_state start w (codes "M112" ∷ []) ≡ Ok u → (applied_line w (codes "M112") ≡ Ok (w, actions.Stop)) × (is_passed (codes "M112") ≡ false)
stop_written w u start h = search (rules, only_line, stop_done, settled)

-- The lines of a move, read one behind the other.
use Rattle.std.proofs.Common.{◌≡◌, ◌∙◌, ℕ, ◌+◌, ◌*◌, ◌≤◌, ◌==◌, map, Bool, true, false, List, [], ◌∷◌, ◌++◌, length, refl, sym, subst, ap, arith, append_assoc, append-nil, if◌then◌else◌, rules}
use Rattle.std.specs.Prelude.{Ok, ℤ, pos, ◌-ℤ◌}
use Rattle.laws_board.proofs.Names.{nat_tests, Machine, Move}
use Rattle.gcode_state.specs.declared.state.State.{State}
use Rattle.gcode_state.specs.declared.state.Action.{Action}
use Rattle.gcode_state.specs.declared.state.Action.TheVariants as actions
use Rattle.gcode_state.specs.States.{coordinates_of}
use Rattle.gcode_program.specs.Cuts.{sections_of}
use Rattle.gcode_program.specs.Readings.{Deed, applied_line, deed_of, is_stop}
use Rattle.bed_mesh.specs.declared.mesh.Mesh.{Mesh}
use Rattle.bed_mesh.specs.Cuts.{cut_parts, cut_ends, place_behind}
use Rattle.bed_mesh.specs.Files.{accepted_state}
use Rattle.bed_mesh.specs.BentLines.{acceleration_line, all_lines, at, move_line, move_lines, raised}
use Rattle.laws_report.specs.meshes.Bent.{differ, part_of, parts_to, raised_place}
use Rattle.laws_report.proofs.meshes.Reading.{plain_acceleration, plain_move}
use Rattle.laws_report.proofs.meshes.Spelling.{ArePlain}
use Rattle.laws_report.proofs.meshes.Telling.{AllPlain, AreRead, both_read, first_of, none_read, one_read}
use Rattle.laws_report.proofs.meshes.Writing.{IsWriting, acceleration_done, move_done, with_acceleration, writing_faster}
use Rattle.laws_report.proofs.loads.Texts.{goes}

-- where moves to some places lead
abbrev pub led : Mesh → List ℤ → List (List ℤ) → List ℤ
led t from [] = from
led t from (p ∷ ps) = led t (raised_place t p) ps

pub led_last : (t : Mesh) (from : List ℤ) (ps : List (List ℤ)) (p : List ℤ) → led t from (ps ++ p ∷ []) ≡ raised_place t p
led_last t from [] p = refl
led_last t from (q ∷ ps) p = led_last t (raised_place t q) ps p

-- the lines of a move were read, and its parts made
pub record AreMoved (m : Machine) (t : Mesh) (mv : Move) (w : State) (lines : List (List ℕ)) (places : List (List ℤ)) (u : State) : Type 0 where
  pub deeds : List Deed
  pub read : AreRead w lines u deeds
  pub plain : AllPlain lines
  pub writing : IsWriting m u mv.a
  pub place : coordinates_of u ≡ led t (coordinates_of w) places
  pub top : u.top ≡ w.top
  pub sections : (dwell : ℕ) (moves : List Move) (rest : List Deed) → sections_of m dwell moves (deeds ++ rest) ≡ sections_of m dwell (moves ++ parts_to t mv (coordinates_of w) places) rest

plain_line : (t : Mesh) (v : ℕ) (from place : List ℤ) → ArePlain (move_line t v from place)
unfolding move_line
plain_line t v from place = plain_move (at place 0) (at place 1) (raised t place) (at place 3 -ℤ at from 3) (pos (60 * v))

-- one part more, where there is one
part_taken : (m : Machine) (w : State) (b : Bool) (q : Move) (act : Action) (dwell : ℕ) (moves parts : List Move) (deeds rest : List Deed) → act ≡ (if b then actions.Move q else actions.None)
    → ((some : List Move) → sections_of m dwell some (deeds ++ rest) ≡ sections_of m dwell (some ++ parts) rest)
    → sections_of m dwell moves (deed_of w act ∷ (deeds ++ rest)) ≡ sections_of m dwell (moves ++ ((if b then q ∷ [] else []) ++ parts)) rest
part_taken m w b q act dwell moves parts deeds rest p10 p11 = search (rules, append_assoc)

none_moved : (m : Machine) (t : Mesh) (mv : Move) (w : State) → IsWriting m w mv.a → AreMoved m t mv w [] [] w
none_moved m t mv w i = search (rules, none_read, append-nil)

pub moves_read : (m : Machine) (t : Mesh) (mv : Move) (start : ℕ) (w u : State) (from : List ℤ) (places : List (List ℤ)) → IsWriting m w mv.a → mv.v ≤ w.top → w.e_at ≡ at from 3 → accepted_state start w (move_lines t mv.v from places) ≡ Ok u
    → AreMoved m t mv w (move_lines t mv.v from places) places u
moves_read m t mv start w u from [] i fast e h = (let f : w ≡ u = cc in subst (λ (v : State). AreMoved m t mv w [] [] v) f (none_moved m t mv w i))
moves_read m t mv start w u from (p ∷ ps) i fast e h =
    let line = move_line t mv.v from p in
    let f = first_of start w u line (move_lines t mv.v p ps) h in
    let v = f.0 in
    let act = f.1 in
    let d = move_done m t w v mv from p act i fast e f.2 in
    let top = d.0.top in
    let place = d.0.place in
    let rest = moves_read m t mv (start + (length line + 1)) v u p ps d.0.writing (omega arith) (ap (λ (l : List ℤ). at l 3) place) f.3 in
    let stays : is_stop act ≡ false = ap is_stop d.0.act_is ∙ goes (differ (coordinates_of w) (raised_place t p)) (part_of mv (coordinates_of w) (raised_place t p)) in
    record {
      deeds = deed_of w act ∷ rest.deeds;
      read = both_read w v u (line ∷ []) (move_lines t mv.v p ps) (deed_of w act ∷ []) rest.deeds (one_read w v line act f.2 d.1 stays) rest.read;
      plain = (plain_line t mv.v from p, rest.plain);
      writing = rest.writing;
      place = rest.place ∙ ap (λ (l : List ℤ). led t l ps) place;
      top = rest.top ∙ top;
      sections = λ dwell moves others. part_taken m w (differ (coordinates_of w) (raised_place t p)) (part_of mv (coordinates_of w) (raised_place t p)) act dwell moves (parts_to t mv (raised_place t p) ps) rest.deeds others d.0.act_is
          (λ some. rest.sections dwell some others ∙ ap (λ (l : List ℤ). sections_of m dwell (some ++ parts_to t mv l ps) others) place);
    }

-- all lines of a move
pub move_read : (m : Machine) (t : Mesh) (mv : Move) (start last : ℕ) (w u : State) → IsWriting m w last → mv.v ≤ w.top → w.e_at ≡ at mv.from 3 → accepted_state start w (all_lines t last mv) ≡ Ok u
    → AreMoved m t mv w (all_lines t last mv) (cut_ends t mv) u
move_read m t mv start last w u i fast e h = go (mv.a == last) refl h where
  slower : w.acceleration ≡ last → mv.a ≡ last → IsWriting m w mv.a
  slower is same = subst (λ (a : ℕ). IsWriting m w a) (sym same) i

  go : (b : Bool) → (mv.a == last) ≡ b → accepted_state start w ((if b then [] else acceleration_line mv.a ∷ []) ++ move_lines t mv.v mv.from (cut_ends t mv)) ≡ Ok u
      → AreMoved m t mv w ((if b then [] else acceleration_line mv.a ∷ []) ++ move_lines t mv.v mv.from (cut_ends t mv)) (cut_ends t mv) u
  go true same k = moves_read m t mv start w u mv.from (cut_ends t mv) (slower i.acceleration (grind (arith, nat_tests))) fast e k
  go false other k =
      let line = acceleration_line mv.a in
      let f = first_of start w u line (move_lines t mv.v mv.from (cut_ends t mv)) k in
      let d = acceleration_done w f.0 mv.a f.1 f.2 in
      let v = with_acceleration w mv.a in
      let step : accepted_state (start + (length line + 1)) v (move_lines t mv.v mv.from (cut_ends t mv)) ≡ Ok u = subst (λ (x : State). accepted_state (start + (length line + 1)) x (move_lines t mv.v mv.from (cut_ends t mv)) ≡ Ok u) d.0.0 f.3 in
      let rest = moves_read m t mv (start + (length line + 1)) v u mv.from (cut_ends t mv) (writing_faster m w last mv.a i) fast e step in
      let first = subst (λ (b : Action). applied_line w line ≡ Ok (v, b)) d.0.1 (subst (λ (x : State). applied_line w line ≡ Ok (x, f.1)) d.0.0 f.2) in
      record {
        deeds = deed_of w actions.None ∷ rest.deeds;
        read = both_read w v u (line ∷ []) (move_lines t mv.v mv.from (cut_ends t mv)) (deed_of w actions.None ∷ []) rest.deeds (one_read w v line actions.None first d.1 refl) rest.read;
        plain = (plain_acceleration (pos mv.a), rest.plain);
        writing = rest.writing;
        place = rest.place;
        top = rest.top;
        sections = rest.sections;
      }

-- where a move leads
pub move_place : (t : Mesh) (mv : Move) (from : List ℤ) → led t from (cut_ends t mv) ≡ raised_place t mv.to
unfolding cut_ends
move_place t mv from = led_last t from (map (place_behind mv) (cut_parts t mv)) mv.to

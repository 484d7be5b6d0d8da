-- What the written lines do.
use Rattle.std.proofs.Common.{◌≡◌, ◌∙◌, ℕ, suc, ◌+◌, ◌-◌, ◌*◌, ◌/◌, ◌≤◌, Bool, true, false, codes, List, [], ◌∷◌, refl, sym, subst, ap, arith, if◌then◌else◌, nat_lt, rules}
use Rattle.std.specs.Prelude.{Result, Ok, Err, ℤ, pos, negsuc, ◌+ℤ◌, ◌-ℤ◌, neg_ℤ, Option, Some, None, min, nat_le, ◌&&◌, ◌||◌, int_div}
use Rattle.std.proofs.lemmas.Int.{ints}
use Rattle.gcode_text.specs.declared.fault.FaultKind.{FaultKind}
use Rattle.gcode_text.specs.declared.word.Given.{Given}
use Rattle.gcode_text.specs.declared.word.Command.{Command}
use Rattle.gcode_text.specs.declared.word.Command.TheVariants as names
use Rattle.gcode_text.specs.declared.word.Word.{Word}
use Rattle.gcode_text.specs.declared.word.Word.TheVariants as words
use Rattle.gcode_text.specs.Lines.{no_words, reading}
use Rattle.plan_types.specs.declared.cause.LineKind.{LineKind}
use Rattle.laws_board.proofs.Names.{Machine, Move, axis_at}
use Rattle.gcode_state.specs.declared.state.Axis.{Axis}
use Rattle.gcode_state.specs.declared.state.State.{State}
use Rattle.gcode_state.specs.declared.state.Action.{Action}
use Rattle.gcode_state.specs.declared.state.Action.TheVariants as actions
use Rattle.gcode_state.specs.declared.state.StateFault.{StateFault}
use Rattle.gcode_state.specs.declared.state.StateFault.TheVariants.{OutOfRange, TooMany}
use Rattle.gcode_state.specs.States.{aim_of, axes_in, axes_of, coordinates_of, has_relative_e, homed_by, homed_if, moves, moved, move_fault, move_of, reading_after, stretched, unless, unmeasured, linear, ◌>>=◌, dwell, home, acceleration, applied}
use Rattle.gcode_program.specs.Readings.{applied_line, applied_reading, as_kind, is_passed}
use Rattle.bed_mesh.specs.declared.mesh.Mesh.{Mesh}
use Rattle.bed_mesh.specs.BentLines.{acceleration_line, at, move_line, raised}
use Rattle.laws_report.specs.meshes.Bent.{differ, measured, part_of, raised_place}
use Rattle.laws_report.proofs.meshes.Bending.{stood_all}
use Rattle.laws_report.proofs.meshes.Reading.{acceleration_read, acceleration_text, dwell_read, dwell_text, home_read, home_text, home_words, move_read, move_text, move_words, one_word, stop_read, wait_read}

-- the modes as the written lines keep them
pub record IsWriting (m : Machine) (w : State) (last : ℕ) : Type 0 where
  pub relative : w.relative ≡ false
  pub relative_e : w.relative_e ≡ true
  pub e_factor : w.e_factor ≡ 100000000
  pub speed_factor : w.speed_factor ≡ 100000000
  pub x : w.x.reads ≡ w.x.at
  pub y : w.y.reads ≡ w.y.at
  pub z : w.z.reads ≡ w.z.at
  pub x_end : w.x.endstop ≡ (axis_at m 0).endstop
  pub y_end : w.y.endstop ≡ (axis_at m 1).endstop
  pub z_end : w.z.endstop ≡ (axis_at m 2).endstop
  pub acceleration : w.acceleration ≡ last

-- what a line of a command that is read does
abbrev pub IsRead : State → List ℕ → State → Action → Type 0
IsRead w line u act = (word : Word) × (reading line ≡ Ok word) × (as_kind (applied w word) ≡ Ok (u, act))

pub read_of : (w u : State) (line : List ℕ) (act : Action) → applied_line w line ≡ Ok (u, act) → IsRead w line u act
unfolding applied_line
read_of w u line act h = go (reading line) refl h where
  go : (r : Result Word FaultKind) → reading line ≡ r → applied_reading w r ≡ Ok (u, act) → IsRead w line u act
  go (Ok word) is e = (word, is, e)
  go (Err kind) is e = absurd cc

-- the word that it is read as
pub as_word : (w u : State) (line : List ℕ) (act : Action) (word : Word) → ((other : Word) → reading line ≡ Ok other → other ≡ word) → applied_line w line ≡ Ok (u, act) → (reading line ≡ Ok word) × (as_kind (applied w word) ≡ Ok (u, act))
as_word w u line act word only h =
    let r = read_of w u line act h in
    let e = only r.0 r.1 in
    (r.1 ∙ ap (λ (x : Word). Ok x) e, subst (λ (x : Word). as_kind (applied w x) ≡ Ok (u, act)) e r.2)

-- a coordinate that is given
place_given : (axis : Axis) (relative : Bool) (n : ℤ) → relative ≡ false → axis.reads ≡ axis.at → axis.at +ℤ (reading_after relative axis.reads (Some n) -ℤ axis.reads) ≡ n
place_given axis relative n r h = let e : axis.at +ℤ (n -ℤ axis.at) ≡ n = omega (arith, ints) in rw (r, h) e

reads_given : (axis : Axis) (relative : Bool) (n : ℤ) → relative ≡ false → axis.reads ≡ axis.at → reading_after relative axis.reads (Some n) ≡ axis.at +ℤ (reading_after relative axis.reads (Some n) -ℤ axis.reads)
reads_given axis relative n r h = let e : n ≡ axis.at +ℤ (n -ℤ axis.at) = omega (arith, ints) in rw (r, h) e

quotient : (n : ℕ) → n * 100000000 / 100000000 ≡ n
quotient n = omega arith

stretched_same : (e : ℤ) → stretched e 100000000 ≡ e
unfolding stretched
stretched_same (pos a) = ap (λ (n : ℕ). pos n) (quotient a)
stretched_same (negsuc a) = go (suc a * 100000000) (suc a * 100000000 - 1) (omega arith) refl where
  go : (n k : ℕ) → n ≡ suc k → n ≡ suc a * 100000000 → int_div (neg_ℤ (pos n)) (pos 100000000) ≡ negsuc a
  go n k e f = rw e (let q : suc k / 100000000 ≡ suc a = omega arith in rw q refl)

e_given : (w : State) (relative : Bool) (e to : ℤ) (factor : ℕ) → relative ≡ true → factor ≡ 100000000 → w.e_at +ℤ e ≡ to → w.e_at +ℤ stretched (reading_after relative w.e_reads (Some e) -ℤ w.e_reads) factor ≡ to
e_given w relative e to factor r h is = let d : (w.e_reads +ℤ e) -ℤ w.e_reads ≡ e = omega (arith, ints) in rw (r, h, d, stretched_same e) is

either_relative : (a b : Bool) → a ≡ false → b ≡ true → (a || b) ≡ true
either_relative a b h k = rw (h, k) refl

four_same : (a b c d a' b' c' d' : ℤ) → a ≡ a' → b ≡ b' → c ≡ c' → d ≡ d' → a ∷ b ∷ c ∷ d ∷ [] ≡ a' ∷ b' ∷ c' ∷ d' ∷ []
four_same a b c d a' b' c' d' e f g h = rw (e, f, g, h) refl

-- what a written move does
abbrev pub act_if : Move → List ℤ → List ℤ → Action
act_if mv from to = if differ from to then actions.Move (part_of mv from to) else actions.None

pub record IsMoved (m : Machine) (mv : Move) (w u : State) (to : List ℤ) (act : Action) : Type 0 where
  pub writing : IsWriting m u mv.a
  pub place : coordinates_of u ≡ to
  pub top : u.top ≡ w.top
  pub act_is : act ≡ act_if mv (coordinates_of w) to

abbrev pub done_is : State → Action → Result (State × Action) LineKind
done_is u act = Ok (u, act)

pub same_done : (u v : State) (act b : Action) → done_is v b ≡ done_is u act → (u ≡ v) × (act ≡ b)
same_done u v act b h = let p : (u, act) ≡ (v, b) = cc in (ap (λ (r : State × Action). r.0) p, ap (λ (r : State × Action). r.1) p)

pub all_right : (u v : State) (act b : Action) (fault : Option StateFault) → as_kind (unless fault (v, b)) ≡ Ok (u, act) → (u ≡ v) × (act ≡ b)
all_right u v act b None h = same_done u v act b h
all_right u v act b (Some fault) h = absurd cc

part_same : (mv : Move) (from to to' : List ℤ) (v a : ℕ) → to ≡ to' → v ≡ mv.v → a ≡ mv.a → measured (record { from = from; to = to; d = 0; v = v; a = a }) ≡ part_of mv from to'
part_same mv from to to' v a e f g = rw (e, f, g) refl

act_same : (b c : Bool) (p q : Move) → b ≡ c → p ≡ q → (if b then actions.Move p else actions.None) ≡ (if c then actions.Move q else actions.None)
act_same b c p q e f = rw (e, f) refl

speed_same : (v top : ℕ) → v ≤ top → min (60 * v * 100000000 / 6000000000) top ≡ v
speed_same v top h = let e : 60 * v * 100000000 / 6000000000 ≡ v = omega arith in rw e (omega arith)

moved_drawn : (m : Machine) (w : State) (mv : Move) (x y z e e_to : ℤ) → IsWriting m w mv.a → mv.v ≤ w.top → w.e_at +ℤ e ≡ e_to
    → (let aim = aim_of w (move_words x y z e (pos (60 * mv.v))) in IsMoved m mv w (moved w aim) (x ∷ y ∷ z ∷ e_to ∷ []) (if moves w aim then actions.Move (move_of w (moved w aim)) else actions.None))
unfolding aim_of has_relative_e moved moves unmeasured
moved_drawn m w mv x y z e e_to i fast e_is =
    let to = four_same _ _ _ _ _ _ _ _ (place_given w.x w.relative x i.relative i.x) (place_given w.y w.relative y i.relative i.y) (place_given w.z w.relative z i.relative i.z)
    (e_given w (w.relative || w.relative_e) e e_to w.e_factor (either_relative w.relative w.relative_e i.relative i.relative_e) i.e_factor e_is) in
    record {
      writing = record {
        relative = i.relative;
        relative_e = i.relative_e;
        e_factor = i.e_factor;
        speed_factor = i.speed_factor;
        x = reads_given w.x w.relative x i.relative i.x;
        y = reads_given w.y w.relative y i.relative i.y;
        z = reads_given w.z w.relative z i.relative i.z;
        x_end = i.x_end;
        y_end = i.y_end;
        z_end = i.z_end;
        acceleration = i.acceleration;
      };
      place = to;
      top = refl;
      act_is = act_same _ _ _ _ (ap (λ (l : List ℤ). differ (coordinates_of w) l) to) (part_same mv (coordinates_of w) _ _ _ _ to (rw (i.speed_factor) (speed_same mv.v w.top fast)) i.acceleration);
    }

linear_drawn : (m : Machine) (w u : State) (mv : Move) (x y z e e_to : ℤ) (act : Action) → IsWriting m w mv.a → mv.v ≤ w.top → w.e_at +ℤ e ≡ e_to
    → as_kind (linear w (move_words x y z e (pos (60 * mv.v)))) ≡ Ok (u, act) → IsMoved m mv w u (x ∷ y ∷ z ∷ e_to ∷ []) act
unfolding linear
linear_drawn m w u mv x y z e e_to act i fast e_is h =
    let aim = aim_of w (move_words x y z e (pos (60 * mv.v))) in
    let r = all_right u (moved w aim) act (if moves w aim then actions.Move (move_of w (moved w aim)) else actions.None) (move_fault w aim true) h in
    subst (λ (t : State). IsMoved m mv w t (x ∷ y ∷ z ∷ e_to ∷ []) act) (sym r.0) (subst (λ (b : Action). IsMoved m mv w (moved w aim) (x ∷ y ∷ z ∷ e_to ∷ []) b) (sym r.1) (moved_drawn m w mv x y z e e_to i fast e_is))

-- a line that is read is passed over only where it says so
pub not_passed : (line : List ℕ) (name : Command) (letters : List (Option Given)) → reading line ≡ Ok (words.Command name letters) → is_passed line ≡ false
unfolding is_passed
not_passed line name letters h = rw h refl

-- the line of a move
pub move_done : (m : Machine) (t : Mesh) (w u : State) (mv : Move) (from place : List ℤ) (act : Action) → IsWriting m w mv.a → mv.v ≤ w.top → w.e_at ≡ at from 3 → applied_line w (move_line t mv.v from place) ≡ Ok (u, act)
    → IsMoved m mv w u (raised_place t place) act × (is_passed (move_line t mv.v from place) ≡ false)
unfolding move_line
move_done m t w u mv from place act i fast e h =
    let x = at place 0 in
    let y = at place 1 in
    let z = raised t place in
    let d = at place 3 -ℤ at from 3 in
    let r = as_word w u (move_text x y z d (pos (60 * mv.v))) act (words.Command names.G1 (move_words x y z d (pos (60 * mv.v)))) (λ other is. move_read x y z d (pos (60 * mv.v)) other is) h in
    let f : w.e_at +ℤ d ≡ at place 3 = rw e (omega (arith, ints)) in
    (linear_drawn m w u mv x y z d (at place 3) act i fast f r.1, not_passed (move_text x y z d (pos (60 * mv.v))) names.G1 (move_words x y z d (pos (60 * mv.v))) r.0)

-- the line of an acceleration
abbrev pub with_acceleration : State → ℕ → State
with_acceleration w a = record w { acceleration = a }

acceleration_by : (w u : State) (a : ℕ) (act : Action) (b : Bool) → as_kind ((if b then Ok a else Err OutOfRange) >>= λ n. Ok (with_acceleration w n, actions.None)) ≡ Ok (u, act) → (u ≡ with_acceleration w a) × (act ≡ actions.None)
acceleration_by w u a act true h = same_done u (with_acceleration w a) act actions.None h
acceleration_by w u a act false h = absurd cc

pub acceleration_done : (w u : State) (a : ℕ) (act : Action) → applied_line w (acceleration_line a) ≡ Ok (u, act) → ((u ≡ with_acceleration w a) × (act ≡ actions.None)) × (is_passed (acceleration_line a) ≡ false)
unfolding acceleration
acceleration_done w u a act h =
    let r = as_word w u (acceleration_text (pos a)) act (words.Command names.M204 (one_word 18 (pos a))) (λ other is. acceleration_read (pos a) other is) h in
    (acceleration_by w u a act (nat_le 100000000 a && nat_le a 100000000000) r.1, not_passed (acceleration_text (pos a)) names.M204 (one_word 18 (pos a)) r.0)

-- the line of a dwell
abbrev pub with_more : State → ℕ → State
with_more w more = record w { count = w.count + more }

dwell_by : (w u : State) (p : ℕ) (act : Action) (b c : Bool)
    → as_kind ((if b then Ok p else Err OutOfRange) >>= λ n. ((if c then Err TooMany else Ok (with_more w 1)) >>= λ t. Ok (t, actions.Dwell ((n + 999999) / 1000000)))) ≡ Ok (u, act)
    → (u ≡ with_more w 1) × (act ≡ actions.Dwell ((p + 999999) / 1000000))
dwell_by w u p act b c p6 = search (rules, same_done)

rounded : (ms : ℕ) → (ms * 1000000 + 999999) / 1000000 ≡ ms
rounded ms = omega arith

pub dwell_done : (w u : State) (ms : ℕ) (act : Action) → applied_line w (dwell_text ms) ≡ Ok (u, act) → ((u ≡ with_more w 1) × (act ≡ actions.Dwell ms)) × (is_passed (dwell_text ms) ≡ false)
unfolding dwell
dwell_done w u ms act h =
    let r = as_word w u (dwell_text ms) act (words.Command names.G4 (one_word 15 (pos (ms * 1000000)))) (λ other is. dwell_read ms other is) h in
    let d = dwell_by w u (ms * 1000000) act (nat_le 0 (ms * 1000000) && nat_le (ms * 1000000) 3600000000000) (nat_lt 2000000 (w.count + 1)) r.1 in
    ((d.0, d.1 ∙ ap (λ (n : ℕ). actions.Dwell n) (rounded ms)), not_passed (dwell_text ms) names.G4 (one_word 15 (pos (ms * 1000000))) r.0)

-- the line of a home
axes_read : (x y z : Bool) → (x || (y || z)) ≡ true → axes_of (home_words x y z) ≡ x ∷ y ∷ z ∷ []
unfolding axes_of
axes_read true true true h = refl
axes_read true true false h = refl
axes_read true false true h = refl
axes_read true false false h = refl
axes_read false true true h = refl
axes_read false true false h = refl
axes_read false false true h = refl
axes_read false false false h = absurd cc

home_by : (w u : State) (axes : List Bool) (act : Action) (c : Bool) → as_kind ((if c then Err TooMany else Ok (with_more w (axes_in axes))) >>= λ t. Ok (homed_by t axes, actions.Home axes)) ≡ Ok (u, act)
    → (u ≡ homed_by (with_more w (axes_in axes)) axes) × (act ≡ actions.Home axes)
home_by w u axes act true h = absurd cc
home_by w u axes act false h = same_done u (homed_by (with_more w (axes_in axes)) axes) act (actions.Home axes) h

pub home_done : (w u : State) (x y z : Bool) (act : Action) → (x || (y || z)) ≡ true → applied_line w (home_text x y z) ≡ Ok (u, act)
    → (let axes = x ∷ y ∷ z ∷ [] in ((u ≡ homed_by (with_more w (axes_in axes)) axes) × (act ≡ actions.Home axes)) × (is_passed (home_text x y z) ≡ false))
unfolding home
home_done w u x y z act some h =
    let word = words.Command names.G28 (home_words x y z) in
    let same : (other : Word) → reading (home_text x y z) ≡ Ok other → other ≡ word = λ other is. (let e = sym is ∙ home_read x y z in cc) in
    let r = as_word w u (home_text x y z) act word same h in
    let k = rw (axes_read x y z some) at r.1 in
    (home_by w u (x ∷ y ∷ z ∷ []) act (nat_lt 2000000 (w.count + axes_in (x ∷ y ∷ z ∷ []))) k, not_passed (home_text x y z) names.G28 (home_words x y z) r.0)

-- lines that leave the modes as they are
abbrev pub ends_by : List ℕ → Action → Type 0
ends_by line kind = (w u : State) (act : Action) → applied_line w line ≡ Ok (u, act) → ((u ≡ w) × (act ≡ kind)) × (is_passed line ≡ false)

pub wait_done : ends_by (codes "M400") actions.Wait
wait_done w u act h =
    let r = as_word w u (codes "M400") act (words.Command names.M400 no_words) (λ other is. (let e = sym is ∙ wait_read in cc)) h in
    (same_done u w act actions.Wait r.1, not_passed (codes "M400") names.M400 no_words r.0)

pub stop_done : ends_by (codes "M112") actions.Stop
stop_done w u act h =
    let r = as_word w u (codes "M112") act (words.Command names.M112 no_words) (λ other is. (let e = sym is ∙ stop_read in cc)) h in
    (same_done u w act actions.Stop r.1, not_passed (codes "M112") names.M112 no_words r.0)

-- what the modes keep
pub writing_more : (m : Machine) (w : State) (last more : ℕ) → IsWriting m w last → IsWriting m (with_more w more) last
writing_more m w last more i = record { relative = i.relative; relative_e = i.relative_e; e_factor = i.e_factor; speed_factor = i.speed_factor; x = i.x; y = i.y; z = i.z; x_end = i.x_end; y_end = i.y_end; z_end = i.z_end; acceleration = i.acceleration }

pub writing_faster : (m : Machine) (w : State) (last a : ℕ) → IsWriting m w last → IsWriting m (with_acceleration w a) a
writing_faster m w last a i = record { relative = i.relative; relative_e = i.relative_e; e_factor = i.e_factor; speed_factor = i.speed_factor; x = i.x; y = i.y; z = i.z; x_end = i.x_end; y_end = i.y_end; z_end = i.z_end; acceleration = refl }

home_reads : (b : Bool) (axis : Axis) → axis.reads ≡ axis.at → (homed_if b axis).reads ≡ (homed_if b axis).at
home_reads true axis h = refl
home_reads false axis h = h

home_ends : (b : Bool) (axis : Axis) (end : ℤ) → axis.endstop ≡ end → (homed_if b axis).endstop ≡ end
home_ends true axis end h = h
home_ends false axis end h = h

pub writing_homed : (m : Machine) (w : State) (last : ℕ) (x y z : Bool) → IsWriting m w last → IsWriting m (homed_by w (x ∷ y ∷ z ∷ [])) last
writing_homed m w last x y z i = search (rules, home_reads, home_ends)

pub place_homed : (m : Machine) (w : State) (last : ℕ) (x y z : Bool) → IsWriting m w last → coordinates_of (homed_by w (x ∷ y ∷ z ∷ [])) ≡ stood_all m (coordinates_of w) (x ∷ y ∷ z ∷ [])
place_homed m w last x y z i = go x y z where
  go : (x y z : Bool) → coordinates_of (homed_by w (x ∷ y ∷ z ∷ [])) ≡ stood_all m (coordinates_of w) (x ∷ y ∷ z ∷ [])
  go true true true = rw (i.x_end, i.y_end, i.z_end) refl
  go true true false = rw (i.x_end, i.y_end) refl
  go true false true = rw (i.x_end, i.z_end) refl
  go true false false = rw (i.x_end) refl
  go false true true = rw (i.y_end, i.z_end) refl
  go false true false = rw (i.y_end) refl
  go false false true = rw (i.z_end) refl
  go false false false = refl

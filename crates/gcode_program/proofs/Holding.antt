-- The sections that are cut can be planned.
use Rattle.std.proofs.Common.{◌≡◌, ℕ, ℤ, suc, ◌+◌, ◌*◌, ◌≤◌, ◌<◌, Bool, true, false, List, [], ◌∷◌, ◌++◌, length, sym, subst, arith, append-nil, length-append, inl, inr}
use Rattle.std.specs.Prelude.{Result, Ok, Err, IfOk}
use Rattle.std.proofs.lemmas.List.Elements.{All-nil, All-cons, All-append}
use Rattle.plan_types.specs.declared.machine.Machine.{Machine}
use Rattle.plan_types.specs.declared.plan.Move.{Move}
use Rattle.plan_types.specs.declared.plan.Section.{Section}
use Rattle.plan_types.specs.declared.plan.SectionKind.TheVariants.{Moves, Home}
use Rattle.plan_types.specs.Machines.{IsValidMachine}
use Rattle.plan_types.specs.Sections.{IsReachable, turns_of_move, turns_needed}
use Rattle.plan_types.specs.Valid.{IsValidMove}
use Rattle.gcode_state.specs.declared.state.Action.{Action}
use Rattle.gcode_state.specs.declared.state.Action.TheVariants as actions
use Rattle.gcode_state.specs.declared.state.State.{State}
use Rattle.gcode_state.specs.Sound.{IsSound}
use Rattle.gcode_state.specs.States.{IsValidAction, coordinates_of, one_if, weight}
use Rattle.gcode_program.specs.declared.cut.Cut.{Cut}
use Rattle.gcode_program.specs.declared.program.Program.{Program}
use Rattle.gcode_program.specs.Homes.{IsRoom, homing_move, stood}
use Rattle.gcode_program.specs.Cuts.{closed, is_named, dwell_left}
use Rattle.gcode_program.specs.Taken.{closed_cut, homed_one, taken}
use Rattle.gcode_program.specs.Held.{ArePlannable, AreSectionsHeld, IsShortOrNear, IsRunnable, turns_of}
use Rattle.gcode_program.proofs.Homing.{homing_good, state_room, stood_room}

pub nothing_held : AreSectionsHeld [] [] 0 0
nothing_held = record {
  ended = All-nil IsRunnable;
  valid = All-nil IsValidMove;
  reachable = All-nil IsReachable;
  soon = omega arith;
  few = omega arith;
}

needed_joined : (xs ys : List Section) → turns_needed (xs ++ ys) ≡ turns_needed xs + turns_needed ys
needed_joined [] ys = omega arith
needed_joined (x ∷ xs) ys = omega (arith, needed_joined xs ys)

one_more : (sections : List Section) (m : Move) (moves : List Move) (dwell count : ℕ) → AreSectionsHeld sections moves dwell count → IsValidAction (actions.Move m) → count + 1 ≤ 2_000_000
    → AreSectionsHeld sections (moves ++ m ∷ []) dwell (count + 1)
one_more sections m moves dwell count held valid few = record {
  ended = held.ended;
  valid = All-append IsValidMove moves (m ∷ []) held.valid (All-cons IsValidMove m [] valid.0 (All-nil IsValidMove));
  reachable = All-append IsReachable moves (m ∷ []) held.reachable (All-cons IsReachable m [] valid.1 (All-nil IsReachable));
  soon = omega (arith, length-append moves (m ∷ []), held.soon);
  few = few;
}

few_moves : (a n count : ℕ) → a + turns_of n ≤ turns_of count → count ≤ 2_000_000 → n ≤ 2_000_000
few_moves a n count h few = omega arith

-- a section that is ended costs no more than its moves
ended : (a b dwell n count : ℕ) → a + dwell + turns_of (suc n) ≤ turns_of count → b ≡ a + (dwell + suc n * turns_of_move + 260 + 0) → b + 0 + turns_of 0 ≤ turns_of count
ended a b dwell n count h is = omega arith

pub closed_held : (sections : List Section) (moves : List Move) (dwell count : ℕ) → AreSectionsHeld sections moves dwell count → AreSectionsHeld (sections ++ closed dwell moves) [] (dwell_left dwell moves) count
closed_held sections [] dwell count held = rw append-nil held
closed_held sections (m ∷ ms) dwell count held =
    let section : Section = record { kind = Moves; moves = m ∷ ms; dwell = dwell } in
    record {
      ended = All-append IsRunnable sections (section ∷ []) held.ended (All-cons IsRunnable section [] (record {
        some = omega arith;
        valid = held.valid;
        near = λ k d lt. inl (held.reachable k d lt);
        few = few_moves (turns_needed sections + dwell) (length (m ∷ ms)) count held.soon held.few;
      }) (All-nil IsRunnable));
      valid = All-nil IsValidMove;
      reachable = All-nil IsReachable;
      soon = ended (turns_needed sections) (turns_needed (sections ++ section ∷ [])) dwell (length ms) count held.soon (needed_joined sections (section ∷ []));
      few = held.few;
    }

rested : (sections : List Section) (dwell ms count : ℕ) → AreSectionsHeld sections [] dwell count → ms ≤ 3600000 → count + 1 ≤ 2_000_000 → AreSectionsHeld sections [] (dwell + ms) (count + 1)
rested sections dwell ms count held short few = record {
  ended = held.ended;
  valid = held.valid;
  reachable = held.reachable;
  soon = omega (arith, held.soon);
  few = few;
}

same_count : (sections : List Section) (moves : List Move) (dwell count : ℕ) → AreSectionsHeld sections moves dwell count → AreSectionsHeld sections moves dwell (count + 0)
same_count sections moves dwell count held = let e : count + 0 ≡ count = omega arith in rw e held

-- a section that homes an axis
homed_held : (m : Machine) (at : List ℤ) (a : ℕ) (c : Cut) (axis : ℕ) (named : Bool) (count : ℕ) → IsValidMachine m → axis < 3 → IsRoom at a → AreSectionsHeld c.sections [] c.dwell count → count + one_if named ≤ 2_000_000
    → AreSectionsHeld (homed_one m at a c axis named).sections [] (homed_one m at a c axis named).dwell (count + one_if named)
homed_held m at a c axis false count valid lt room held few = let e : count + 0 ≡ count = omega arith in rw (append-nil, e) held
homed_held m at a c axis true count valid lt room held few =
    let move = homing_move m at a axis in
    let section : Section = record { kind = Home axis; moves = move ∷ []; dwell = c.dwell } in
    let good = homing_good m at a axis valid lt room in
    let needed = needed_joined c.sections (section ∷ []) in
    let soon = held.soon in
    record {
      ended = All-append IsRunnable c.sections (section ∷ []) held.ended (All-cons IsRunnable section [] (record {
        some = omega arith;
        valid = All-cons IsValidMove move [] good.0 (All-nil IsValidMove);
        near = All-cons IsShortOrNear move [] (inr good.1) (All-nil IsShortOrNear);
        few = omega arith;
      }) (All-nil IsRunnable));
      valid = All-nil IsValidMove;
      reachable = All-nil IsReachable;
      soon = omega (arith, needed, soon);
      few = few;
    }

homes_held : (m : Machine) (at : List ℤ) (a : ℕ) (c : Cut) (x y z : Bool) (count : ℕ) → IsValidMachine m → IsRoom at a → AreSectionsHeld c.sections [] c.dwell count → count + (one_if x + one_if y + one_if z) ≤ 2_000_000
    → (let d = homed_one m (stood m (stood m at 0 x) 1 y) a (homed_one m (stood m at 0 x) a (homed_one m at a c 0 x) 1 y) 2 z in AreSectionsHeld d.sections [] d.dwell (count + (one_if x + one_if y + one_if z)))
homes_held m at a c x y z count valid room held few =
    let one = homed_held m at a c 0 x count valid (omega arith) room held (omega (arith, few)) in
    let room1 = stood_room m at a 0 x valid (omega arith) room in
    let cx = homed_one m at a c 0 x in
    let two = homed_held m (stood m at 0 x) a cx 1 y (count + one_if x) valid (omega arith) room1 one (omega (arith, few)) in
    let cy = homed_one m (stood m at 0 x) a cx 1 y in
    let room2 = stood_room m (stood m at 0 x) a 1 y valid (omega arith) room1 in
    let three = homed_held m (stood m (stood m at 0 x) 1 y) a cy 2 z (count + one_if x + one_if y) valid (omega arith) room2 two (omega (arith, few)) in
    let e : count + (one_if x + one_if y + one_if z) ≡ count + one_if x + one_if y + one_if z = omega arith in
    let d = homed_one m (stood m (stood m at 0 x) 1 y) a cy 2 z in
    subst (AreSectionsHeld d.sections [] d.dwell) (sym e) three

-- an action that is taken
pub taken_held : (m : Machine) (c : Cut) (s : State) (a : Action) (count : ℕ) → IsValidMachine m → IsRoom (coordinates_of s) s.acceleration → AreSectionsHeld c.sections c.moves c.dwell count → IsValidAction a → count + weight a ≤ 2_000_000
    → AreSectionsHeld (taken m c s a).sections (taken m c s a).moves (taken m c s a).dwell (count + weight a)
taken_held m c s actions.None count machine room held valid few = same_count c.sections c.moves c.dwell count held
taken_held m c s (actions.Move one) count machine room held valid few = one_more c.sections one c.moves c.dwell count held valid few
taken_held m c s (actions.Dwell ms) count machine room held valid few = rested (c.sections ++ closed c.dwell c.moves) (dwell_left c.dwell c.moves) ms count (closed_held c.sections c.moves c.dwell count held) valid few
taken_held m c s actions.Wait count machine room held valid few = same_count (c.sections ++ closed c.dwell c.moves) [] (dwell_left c.dwell c.moves) count (closed_held c.sections c.moves c.dwell count held)
taken_held m c s actions.Stop count machine room held valid few = same_count (c.sections ++ closed c.dwell c.moves) [] (dwell_left c.dwell c.moves) count (closed_held c.sections c.moves c.dwell count held)
taken_held m c s (actions.Home axes) count machine room held valid few =
    homes_held m (coordinates_of s) s.acceleration (closed_cut c) (is_named axes 0) (is_named axes 1) (is_named axes 2) count machine room (closed_held c.sections c.moves c.dwell count held) few

pub step_held : (m : Machine) (c d : Cut) (s : State) (a : Action) (count more : ℕ) → IsValidMachine m → IsSound s → d ≡ taken m c s a → more ≡ count + weight a → more ≤ 2_000_000 → IsValidAction a
    → AreSectionsHeld c.sections c.moves c.dwell count → AreSectionsHeld d.sections d.moves d.dwell more
step_held m c d s a count more machine sound is counted few valid held =
    rw (is, counted) (taken_held m c s a count machine (state_room s sound) held valid (rw counted at few))

pub plannable : (sections : List Section) (dwell count : ℕ) → AreSectionsHeld sections [] dwell count → ArePlannable sections
plannable sections dwell count held = record {
  some = λ k s h. (held.ended k s h).some;
  valid = λ k s h. (held.ended k s h).valid;
  near = λ k s h. (held.ended k s h).near;
  few = λ k s h. (held.ended k s h).few;
  soon = omega (arith, held.soon, held.few);
}

-- the sections of a cut whose open section is ended
pub finished_plannable : {E : Type 0} (r : Result Program E) (c : Cut) (count : ℕ) → IfOk r (λ program. program.sections ≡ c.sections ++ closed c.dwell c.moves) → AreSectionsHeld c.sections c.moves c.dwell count
    → IfOk r (λ program. ArePlannable program.sections)
finished_plannable (Ok program) c count is held = rw is (plannable (c.sections ++ closed c.dwell c.moves) (dwell_left c.dwell c.moves) count (closed_held c.sections c.moves c.dwell count held))
finished_plannable (Err e) c count is held = tt

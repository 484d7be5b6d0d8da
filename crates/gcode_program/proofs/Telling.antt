-- What actions tell of sections, one behind the other, is what the sections are.
use Rattle.std.proofs.Common.{◌≡◌, ℕ, ℤ, suc, ◌+◌, ◌*◌, ◌≤◌, ◌<◌, Bool, true, false, List, [], ◌∷◌, ◌++◌, All, length, refl, ap, sym, ◌∙◌, arith, append_assoc, append-nil, subst, inr, inl}
use Rattle.std.proofs.lemmas.List.Elements.{All-nil, All-cons, All-append}
use Rattle.plan_types.specs.declared.machine.Machine.{Machine}
use Rattle.plan_types.specs.declared.plan.Move.{Move}
use Rattle.plan_types.specs.declared.plan.ReadEnd.{ReadEnd}
use Rattle.plan_types.specs.declared.plan.ReadStop.{ReadStop}
use Rattle.plan_types.specs.declared.plan.Section.{Section}
use Rattle.plan_types.specs.declared.plan.SectionKind.TheVariants.{Moves, Home}
use Rattle.plan_types.specs.Machines.{IsValidMachine}
use Rattle.gcode_state.specs.declared.state.Action.{Action}
use Rattle.gcode_state.specs.declared.state.Action.TheVariants as actions
use Rattle.gcode_state.specs.declared.state.State.{State}
use Rattle.gcode_state.specs.Sound.{IsSound}
use Rattle.gcode_state.specs.States.{IsValidAction, coordinates_of}
use Rattle.gcode_program.specs.declared.items.Item.{Item}
use Rattle.gcode_program.specs.declared.items.Item.TheVariants as items
use Rattle.gcode_program.specs.declared.items.Opening.{Opening}
use Rattle.gcode_program.specs.Cuts.{closed, home_of, homes, is_named, dwell_left, dwell_behind_home, left_by_homes, sections_by, sections_of}
use Rattle.gcode_program.specs.Homes.{IsRoom, homing_move, stood}
use Rattle.gcode_program.specs.Items.{IsGood, beginning, ending, items_by, items_in, items_of, moves_in, opening_by}
use Rattle.gcode_program.specs.Reader.{items_from}
use Rattle.gcode_program.specs.Readings.{Deed}
use Rattle.gcode_program.proofs.Homing.{homing_good, state_room, stood_room}

pub items_append : (ss ts : List Section) → items_of (ss ++ ts) ≡ items_of ss ++ items_of ts
items_append [] ts = refl
items_append (s ∷ ss) ts = ap (λ is. items_in s ++ is) (items_append ss ts) ∙ sym (append_assoc (items_in s) (items_of ss) (items_of ts))

moves_append : (ms : List Move) (one : Move) → moves_in (ms ++ one ∷ []) ≡ moves_in ms ++ items.Move one ∷ []
moves_append [] one = refl
moves_append (m ∷ ms) one = ap (λ is. items.Move m ∷ is) (moves_append ms one)

-- what the open section of a cut has told
abbrev head_items : ℕ → List Move → List Item
head_items dwell [] = []
head_items dwell (m ∷ ms) = items.Begin Moves dwell ∷ moves_in (m ∷ ms)

abbrev is_some : List Move → Bool
is_some [] = false
is_some (m ∷ ms) = true

abbrev opening_of : ℕ → List Move → Opening
opening_of dwell moves = record { goes = is_some moves; dwell = dwell_left dwell moves }

closed_items : (dwell : ℕ) (moves : List Move) → items_of (closed dwell moves) ≡ head_items dwell moves ++ ending (is_some moves)
closed_items dwell [] = refl
closed_items dwell (m ∷ ms) = append-nil (items.Begin Moves dwell ∷ (moves_in (m ∷ ms) ++ items.End ∷ []))

closing : (dwell : ℕ) (moves : List Move) (ss : List Section) (is : List Item) → items_of ss ≡ is → items_of (closed dwell moves ++ ss) ≡ head_items dwell moves ++ (ending (is_some moves) ++ is)
closing dwell moves ss is e =
    items_append (closed dwell moves) ss ∙ ap (λ xs. xs ++ items_of ss) (closed_items dwell moves) ∙ append_assoc (head_items dwell moves) (ending (is_some moves)) (items_of ss)
    ∙ ap (λ xs. head_items dwell moves ++ (ending (is_some moves) ++ xs)) e

by_action : (m : Machine) (dwell : ℕ) (moves : List Move) (s : State) (a : Action) (rest : List Deed) → ((d : ℕ) (ms : List Move) → items_of (sections_of m d ms rest) ≡ head_items d ms ++ items_from m (opening_of d ms) rest)
    → items_of (sections_by m dwell moves s a (λ d ms. sections_of m d ms rest)) ≡ head_items dwell moves ++ (items_by m (opening_of dwell moves) s a ++ items_from m (opening_by (opening_of dwell moves) a) rest)
by_action m dwell moves s actions.None rest ih = ih dwell moves
by_action m dwell [] s (actions.Move one) rest ih = ih dwell (one ∷ [])
by_action m dwell (x ∷ xs) s (actions.Move one) rest ih =
    let more = items_from m (record { goes = true; dwell = 0 }) rest in
    ih dwell ((x ∷ xs) ++ one ∷ []) ∙ ap (λ (ms : List Item). (items.Begin Moves dwell ∷ items.Move x ∷ ms) ++ more) (moves_append xs one)
    ∙ append_assoc (items.Begin Moves dwell ∷ moves_in (x ∷ xs)) (items.Move one ∷ []) more
by_action m dwell moves s (actions.Dwell ms) rest ih = closing dwell moves (sections_of m (dwell_left dwell moves + ms) [] rest) (items_from m (opening_of (dwell_left dwell moves + ms) []) rest) (ih (dwell_left dwell moves + ms) [])
by_action m dwell moves s actions.Wait rest ih = closing dwell moves (sections_of m (dwell_left dwell moves) [] rest) (items_from m (opening_of (dwell_left dwell moves) []) rest) (ih (dwell_left dwell moves) [])
by_action m dwell moves s actions.Stop rest ih = closing dwell moves (sections_of m (dwell_left dwell moves) [] rest) (items_from m (opening_of (dwell_left dwell moves) []) rest) (ih (dwell_left dwell moves) [])
by_action m dwell moves s (actions.Home axes) rest ih =
    let d = dwell_left dwell moves in
    let own = homes m (coordinates_of s) s.acceleration d axes in
    let later = sections_of m (left_by_homes d axes) [] rest in
    let more = items_from m (opening_of (left_by_homes d axes) []) rest in
    closing dwell moves (own ++ later) (items_of own ++ more) (items_append own later ∙ ap (λ is. items_of own ++ is) (ih (left_by_homes d axes) []))
    ∙ ap (λ is. head_items dwell moves ++ is) (sym (append_assoc (ending (is_some moves)) (items_of own) more))

told_from : (m : Machine) (deeds : List Deed) (dwell : ℕ) (moves : List Move) → items_of (sections_of m dwell moves deeds) ≡ head_items dwell moves ++ items_from m (opening_of dwell moves) deeds
told_from m [] dwell moves = closed_items dwell moves
told_from m (d ∷ rest) dwell moves = by_action m dwell moves d.before d.action rest (told_from m rest)

-- all that deeds tell are their sections
pub told_all : (m : Machine) (deeds : List Deed) → items_of (sections_of m 0 [] deeds) ≡ items_from m (record { goes = false; dwell = 0 }) deeds
told_all m deeds = told_from m deeds 0 []

-- moves that are told can be planned
ending_good : (goes : Bool) → All IsGood (ending goes)
ending_good true = All-cons IsGood items.End [] tt (All-nil IsGood)
ending_good false = All-nil IsGood

beginning_good : (o : Opening) (goes : Bool) → o.goes ≡ goes → All IsGood (beginning o)
beginning_good o true is = rw is (All-nil IsGood)
beginning_good o false is = rw is (All-cons IsGood (items.Begin Moves o.dwell) [] tt (All-nil IsGood))

home_good : (m : Machine) (at : List ℤ) (a dwell axis : ℕ) (named : Bool) → IsValidMachine m → axis < 3 → IsRoom at a → All IsGood (items_of (home_of m at a dwell axis named))
home_good m at a dwell axis false valid lt room = All-nil IsGood
home_good m at a dwell axis true valid lt room =
    let good = homing_good m at a axis valid lt room in
    All-cons IsGood (items.Begin (Home axis) dwell) (items.Move (homing_move m at a axis) ∷ items.End ∷ []) tt
    (All-cons IsGood (items.Move (homing_move m at a axis)) (items.End ∷ []) (good.0, inr good.1) (All-cons IsGood items.End [] tt (All-nil IsGood)))

homes_good : (m : Machine) (at : List ℤ) (a dwell : ℕ) (axes : List Bool) → IsValidMachine m → IsRoom at a → All IsGood (items_of (homes m at a dwell axes))
homes_good m at a dwell axes valid room =
    let x = is_named axes 0 in
    let y = is_named axes 1 in
    let z = is_named axes 2 in
    let at1 = stood m at 0 x in
    let at2 = stood m at1 1 y in
    let room1 = stood_room m at a 0 x valid (omega arith) room in
    let room2 = stood_room m at1 a 1 y valid (omega arith) room1 in
    let one = home_of m at a dwell 0 x in
    let two = home_of m at1 a (dwell_behind_home dwell x) 1 y in
    let three = home_of m at2 a (dwell_behind_home (dwell_behind_home dwell x) y) 2 z in
    let e : items_of (homes m at a dwell axes) ≡ (items_of one ++ items_of two) ++ items_of three = items_append (one ++ two) three ∙ ap (λ is. is ++ items_of three) (items_append one two) in
    subst (λ (is : List Item). All IsGood is) (sym e)
    (All-append IsGood (items_of one ++ items_of two) (items_of three)
    (All-append IsGood (items_of one) (items_of two) (home_good m at a dwell 0 x valid (omega arith) room) (home_good m at1 a (dwell_behind_home dwell x) 1 y valid (omega arith) room1))
    (home_good m at2 a (dwell_behind_home (dwell_behind_home dwell x) y) 2 z valid (omega arith) room2))

pub items_good : (m : Machine) (o : Opening) (s : State) (a : Action) → IsValidMachine m → IsSound s → IsValidAction a → All IsGood (items_by m o s a)
items_good m o s actions.None machine sound valid = All-nil IsGood
items_good m o s (actions.Move one) machine sound valid = All-append IsGood (beginning o) (items.Move one ∷ []) (beginning_good o o.goes refl) (All-cons IsGood (items.Move one) [] (valid.0, inl valid.1) (All-nil IsGood))
items_good m o s (actions.Dwell ms) machine sound valid = ending_good o.goes
items_good m o s actions.Wait machine sound valid = ending_good o.goes
items_good m o s actions.Stop machine sound valid = ending_good o.goes
items_good m o s (actions.Home axes) machine sound valid = All-append IsGood (ending o.goes) (items_of (homes m (coordinates_of s) s.acceleration o.dwell axes)) (ending_good o.goes) (homes_good m (coordinates_of s) s.acceleration o.dwell axes machine (state_room s sound))

pub end_good : (goes : Bool) → All IsGood (ending goes)
end_good goes = ending_good goes

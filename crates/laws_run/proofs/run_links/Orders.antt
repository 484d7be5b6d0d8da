-- What a reactor orders for a board in a run, and which of its states it takes.
use Rattle.std.proofs.Common.{◌≡◌, ℕ, List, [], ◌∷◌, ◌++◌, length, ap, sym, ◌∙◌, inl, inr, arith, append_assoc, append-nil}
use Rattle.laws_board.proofs.Names.{State, Control, Machine, Switch, Came, last_reacted, ReactorTurn, gather, item}
use Rattle.host_reactor.specs.Runs.{HaveStates}
use Rattle.laws_board.specs.turns.Turns.{control_at}
use Rattle.session_work.specs.Heads.{IsRow}
use Rattle.session_run.specs.Boards.{AreReactorTurns, came_from, came_in}
use Rattle.laws_run.proofs.lanes.Items.{item_control}
use Rattle.laws_run.specs.run_links.Links.{ordered_for, states_from}
use Rattle.laws_homing.proofs.missed_groups.Told.{same_state}

-- the controls of a board in some turns
pub controls_are : (m : Machine) (switches : List Switch) (b : ℕ) (before : List Came) (rs : List ReactorTurn) → AreReactorTurns m switches before rs
    → ordered_for m switches b before ++ gather (λ t. item b t.controls) rs ≡ ordered_for m switches b (came_from before rs)
controls_are m switches b before [] h = append-nil (ordered_for m switches b before)
controls_are m switches b before (t ∷ rs) h =
    let past = ordered_for m switches b before in
    let rest = gather (λ (z : ReactorTurn). item b z.controls) rs in
    let own : item b t.controls ≡ control_at b (last_reacted m switches (came_in t) before).ordered.controls = sym (item_control b t.controls) ∙ ap (control_at b) h.0.controls_are in
    sym (append_assoc past (item b t.controls) rest) ∙ ap (λ (z : List Control). (past ++ z) ++ rest) own ∙ controls_are m switches b (came_in t ∷ before) rs h.1

-- and the states of it that came in them
pub states_are : (b : ℕ) (before : List Came) (rs : List ReactorTurn) → states_from b before ++ gather (λ t. item b t.states) rs ≡ states_from b (came_from before rs)
states_are b before [] = append-nil (states_from b before)
states_are b before (t ∷ rs) =
    let past = states_from b before in
    let rest = gather (λ (z : ReactorTurn). item b z.states) rs in
    sym (append_assoc past (item b t.states) rest) ∙ ap (λ (z : List State). (past ++ z) ++ rest) (sym (same_state b t.states)) ∙ states_are b (came_in t ∷ before) rs

-- a state of each board came, but in the first turn
pub have_next : (m : Machine) (before : List Came) (t : ReactorTurn) → IsRow (length m.boards) (length before) t.states t.note → HaveStates m before → HaveStates m (came_in t ∷ before)
have_next m [] t (inl row) h = row.1
have_next m [] t (inr row) h = let e = row.0 in absurd (omega (arith, e))
have_next m (d ∷ before) t (inl row) h = let e = row.0 in absurd (omega (arith, e))
have_next m (d ∷ before) t (inr row) h = (row.1, h)

pub have_states : (m : Machine) (switches : List Switch) (before : List Came) (rs : List ReactorTurn) → AreReactorTurns m switches before rs → HaveStates m before → HaveStates m (came_from before rs)
have_states m switches before [] turns h = h
have_states m switches before (t ∷ rs) turns h = have_states m switches (came_in t ∷ before) rs turns.1 (have_next m before t turns.0.row h)

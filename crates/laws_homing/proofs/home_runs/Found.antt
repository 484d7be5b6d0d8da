-- What steps that find a stepper halted make of it: it is halted behind them, or they take no step of it.
use Rattle.std.proofs.Common.{◌≡◌, ℕ, ◌⊎◌, inl, inr, List, [], ◌∷◌, ◌++◌, length, refl, ap, sym, ◌∙◌, subst}
use Rattle.laws_board.proofs.Names.{eqb_tells, append_cancel_left, BoardClock, Running, Cmd, Meant, commands_of, Rig, takes, takes_all, Event, Core, Step, Do, Turn, does, after_event, in_turn, run_world, takes_in, orders, LinkState, run_append, turns_are_steps}
use Rattle.msg_code.specs.declared.cmd.Cmd.TheVariants as cmd
use Rattle.board_sim.specs.Board.{stepper_at}
use Rattle.board_sim.specs.RigRuns.{IsHalted}
use Rattle.board_sim.proofs.RigPlaces.{halted_is, is_halted}
use Rattle.board_world.specs.declared.event.Event.TheVariants as event
use Rattle.laws_board.specs.turns.Turns.{AreBoardTurns, BoardTurn, stands_after}
use Rattle.laws_board.specs.sections.Finds.{AllFindHalted, AllSetNot, FindsHalted, StepsFindHalted}
use Rattle.laws_homing.specs.fired_runs.Waiting.{AllStepNot, StepsNot}
use Rattle.laws_homing.proofs.home_runs.Staging.{ran_steps}
use Rattle.laws_homing.proofs.home_runs.Staying.{all_stay, not_parts, steps_stay}
use Rattle.laws_homing.proofs.clear_boards.Turned.{ran}
use Rattle.laws_board.proofs.sections.Naming.{taken_more}

-- a command that finds it so
one_none : (i : ℕ) (r : Rig) (c : Cmd) → FindsHalted i r c → r.controller.state ≡ Running → IsHalted (stepper_at r.controller i) ⊎ StepsNot i c
one_none i r (cmd.QueueStep oid interval count add) f runs = elim (eqb_tells oid i) [ inl p ↦ inl (f runs p.1) | inr p ↦ inr p.1 ]
one_none i r c f runs = inr tt

all_none : (i : ℕ) (r : Rig) (ms : List Meant) → AllFindHalted i r ms → AllSetNot i ms → (takes_all r (commands_of ms)).rig.controller.state ≡ Running
    → IsHalted (stepper_at (takes_all r (commands_of ms)).rig.controller i) ⊎ AllStepNot i ms
all_none i r [] f n runs = inr tt
all_none i r (m ∷ ms) f n runs =
    let next = (takes r m.command).rig in
    elim (one_none i r m.command f.0 (ran r (commands_of (m ∷ ms)) runs)) [
      | inl h ↦ inl (is_halted (stepper_at (takes_all r (commands_of (m ∷ ms))).rig.controller i) (all_stay i r (m ∷ ms) n (halted_is (stepper_at r.controller i) h)))
      | inr one ↦ elim (all_none i next ms (f.1 n.0) n.1 runs) [ inl h ↦ inl h | inr rest ↦ inr (one, rest) ]
    ]

event_none : (i : ℕ) (h : Core) (e : Event) → AllFindHalted i h.board (takes_in h e) → AllSetNot i (takes_in h e) → (does h e).board.controller.state ≡ Running
    → IsHalted (stepper_at (does h e).board.controller i) ⊎ AllStepNot i (takes_in h e)
event_none i h event.Arrive f n runs = all_none i h.board (takes_in h event.Arrive) f n runs
event_none i h event.Repeat f n runs = all_none i h.board (takes_in h event.Repeat) f n runs
event_none i h e f n runs = inr tt

step_both : (i : ℕ) (xs ys : List Meant) → AllStepNot i xs → AllStepNot i ys → AllStepNot i (xs ++ ys)
step_both i [] ys a b = b
step_both i (x ∷ xs) ys a b = (a.0, step_both i xs ys a.1 b)

steps_none : (i : ℕ) (steps : List Step) (h : Core) → StepsFindHalted i h steps → AllSetNot i (taken_more steps h).0 → (run_world steps h).board.controller.state ≡ Running
    → IsHalted (stepper_at (run_world steps h).board.controller i) ⊎ AllStepNot i (taken_more steps h).0
unfolding taken_more
steps_none i [] h f n runs = inr tt
steps_none i (Do e ∷ steps) h f n runs =
    let next = after_event h e in
    let rest = (taken_more steps next).0 in
    let both = not_parts i (takes_in h e) rest n in
    elim (event_none i h e f.0 both.0 (ran_steps steps next runs)) [
      | inl is ↦ inl (is_halted (stepper_at (run_world steps next).board.controller i) (steps_stay i steps next both.1 (halted_is (stepper_at next.board.controller i) is)))
      | inr one ↦ elim (steps_none i steps next (f.1 both.0) both.1 runs) [ inl is ↦ inl is | inr more ↦ inr (step_both i (takes_in h e) rest one more) ]
    ]
steps_none i (Turn turn ∷ steps) h f n runs = steps_none i steps (in_turn h turn) f n runs

-- where these commands are taken in the steps
pub found_none : (i : ℕ) (steps : List Step) (h : Core) (ms : List Meant) → (run_world steps h).taken ≡ h.taken ++ ms → AllSetNot i ms → StepsFindHalted i h steps → (run_world steps h).board.controller.state ≡ Running
    → IsHalted (stepper_at (run_world steps h).board.controller i) ⊎ AllStepNot i ms
found_none i steps h ms e n f runs =
    let took = taken_more steps h in
    let same : took.0 ≡ ms = append_cancel_left h.taken took.0 ms (sym took.1 ∙ e) in
    subst (λ (x : List Meant). IsHalted (stepper_at (run_world steps h).board.controller i) ⊎ AllStepNot i x) same (steps_none i steps h f (subst (λ (x : List Meant). AllSetNot i x) (sym same) n) runs)

-- steps in two parts
pub find_front : (i : ℕ) (xs ys : List Step) (h : Core) → StepsFindHalted i h (xs ++ ys) → StepsFindHalted i h xs
find_front i [] ys h f = tt
find_front i (Do e ∷ xs) ys h f = (f.0, λ n. find_front i xs ys (after_event h e) (f.1 n))
find_front i (Turn turn ∷ xs) ys h f = find_front i xs ys (in_turn h turn) f

take_behind : (i : ℕ) (xs ys : List Step) (h : Core) → AllSetNot i (taken_more xs h).0 → StepsFindHalted i h (xs ++ ys) → StepsFindHalted i (run_world xs h) ys
unfolding taken_more
take_behind i [] ys h n f = f
take_behind i (Do e ∷ xs) ys h n f = let both = not_parts i (takes_in h e) (taken_more xs (after_event h e)).0 n in take_behind i xs ys (after_event h e) both.1 (f.1 both.0)
take_behind i (Turn turn ∷ xs) ys h n f = take_behind i xs ys (in_turn h turn) n f

pub find_behind : (i : ℕ) (xs ys : List Step) (h : Core) (ms : List Meant) → (run_world xs h).taken ≡ h.taken ++ ms → AllSetNot i ms → StepsFindHalted i h (xs ++ ys) → StepsFindHalted i (run_world xs h) ys
find_behind i xs ys h ms e n f =
    let took = taken_more xs h in
    let same : took.0 ≡ ms = append_cancel_left h.taken took.0 ms (sym took.1 ∙ e) in
    take_behind i xs ys h (subst (λ (x : List Meant). AllSetNot i x) (sym same) n) f

-- the steps of some turns
pub later_steps : (clock : BoardClock) (first : LinkState) (later past : List BoardTurn) → AreBoardTurns clock first (later ++ past) → (steps : List Step) × ((stands_after first (later ++ past)).core ≡ run_world steps (stands_after first past).core)
later_steps clock first [] past are = ([], refl)
later_steps clock first (t ∷ later) past are =
    let before = later ++ past in
    let l = stands_after first before in
    let now = turns_are_steps clock (length before) (orders t.control t.batch ∷ []) l t.after (t.after, are.0.0, refl) in
    let old = later_steps clock first later past are.1 in
    (old.0 ++ now.0, now.1 ∙ ap (λ (h : Core). run_world now.0 h) old.1 ∙ sym (run_append old.0 now.0 (stands_after first past).core))

-- A stepper that is halted stays so until its clock is set.
use Rattle.std.proofs.Common.{◌≡◌, ℕ, suc, true, List, [], ◌∷◌, ◌++◌, length, refl, ap, sym, ◌∙◌, subst, arith, append-nil, append_assoc, rules}
use Rattle.laws_board.proofs.Names.{append_cancel_left, BoardClock, Cmd, Meant, commands_of, Rig, takes, takes_all, Event, Core, Step, Do, Turn, does, after_event, in_turn, run_world, takes_in, orders, LinkState, turns_are_steps}
use Rattle.msg_code.specs.declared.cmd.Cmd.TheVariants as cmd
use Rattle.board_sim.specs.Board.{stepper_at}
use Rattle.board_sim.specs.RigRuns.{IsHalted}
use Rattle.board_sim.proofs.RigCommands.{IsIn}
use Rattle.board_sim.proofs.RigPlaces.{halted_is, is_halted}
use Rattle.board_world.specs.declared.event.Event.TheVariants as event
use Rattle.laws_board.specs.turns.Turns.{AreBoardTurns, BoardTurn, stands_after}
use Rattle.laws_homing.specs.home_runs.Guards.{IsCalm}
use Rattle.laws_board.specs.sections.Finds.{AllSetNot, SetsNot}
use Rattle.laws_homing.proofs.home_runs.Guarding.{passes_next, takes_next}
use Rattle.laws_board.proofs.sections.Naming.{taken_more}

pub not_parts : (i : ℕ) (xs ys : List Meant) → AllSetNot i (xs ++ ys) → AllSetNot i xs × AllSetNot i ys
not_parts i [] ys a = (tt, a)
not_parts i (x ∷ xs) ys a = let p = not_parts i xs ys a.1 in ((a.0, p.0), p.1)

calm_for : (i : ℕ) (c : Cmd) → SetsNot i c → (j : ℕ) × IsCalm i j c
calm_for i (cmd.TrsyncStart oid clock every reason) n = (suc oid, λ e. omega (arith, e))
calm_for i (cmd.ResetStepClock oid clock) n = (0, n)
calm_for i (cmd.ConfigTrsync oid) n = (oid, refl)
calm_for i c n = (0, tt)

pub takes_stay : (i : ℕ) (r : Rig) (c : Cmd) → SetsNot i c → IsIn true i r.controller → IsIn true i (takes r c).rig.controller
takes_stay i r c n is = let x = calm_for i c n in (takes_next i x.0 r c x.1).keep true is

pub all_stay : (i : ℕ) (r : Rig) (ms : List Meant) → AllSetNot i ms → IsIn true i r.controller → IsIn true i (takes_all r (commands_of ms)).rig.controller
all_stay i r [] n is = is
all_stay i r (m ∷ ms) n is = all_stay i (takes r m.command).rig ms n.1 (takes_stay i r m.command n.0 is)

stay_by : (i : ℕ) (h : Core) (e : Event) → AllSetNot i (takes_in h e) → IsIn true i h.board.controller → IsIn true i (does h e).board.controller
stay_by i h (event.Pass t) n is = (passes_next i 0 h.board t).keep true is
stay_by i h event.Arrive n is = all_stay i h.board (takes_in h event.Arrive) n is
stay_by i h event.Repeat n is = all_stay i h.board (takes_in h event.Repeat) n is
stay_by i h c n is = is

pub steps_stay : (i : ℕ) (steps : List Step) (h : Core) → AllSetNot i (taken_more steps h).0 → IsIn true i h.board.controller → IsIn true i (run_world steps h).board.controller
unfolding taken_more
steps_stay i [] h n is = is
steps_stay i (Do e ∷ steps) h n is = let both = not_parts i (takes_in h e) (taken_more steps (after_event h e)).0 n in steps_stay i steps (after_event h e) both.1 (stay_by i h e both.0 is)
steps_stay i (Turn turn ∷ steps) h n is = steps_stay i steps (in_turn h turn) n is

-- over some steps, as far as what they take doesn't set the clock
pub halted_stays : (i : ℕ) (steps : List Step) (h : Core) (ms : List Meant) → (run_world steps h).taken ≡ h.taken ++ ms → AllSetNot i ms → IsHalted (stepper_at h.board.controller i) → IsHalted (stepper_at (run_world steps h).board.controller i)
halted_stays i steps h ms e n is = search (rules, append_cancel_left, is_halted, run_world, steps_stay, halted_is)

-- what a board takes over some turns
pub taken_later : (clock : BoardClock) (first : LinkState) (later past : List BoardTurn) → AreBoardTurns clock first (later ++ past) → (ms : List Meant) × ((stands_after first (later ++ past)).core.taken ≡ (stands_after first past).core.taken ++ ms)
taken_later clock first [] past are = ([], sym (append-nil (stands_after first past).core.taken))
taken_later clock first (t ∷ later) past are =
    let before = later ++ past in
    let l = stands_after first before in
    let steps = turns_are_steps clock (length before) (orders t.control t.batch ∷ []) l t.after (t.after, are.0.0, refl) in
    let took = taken_more steps.0 l.core in
    let rest = taken_later clock first later past are.1 in (
      rest.0 ++ took.0,
      ap (λ (h : Core). h.taken) steps.1 ∙ took.1 ∙ ap (λ (x : List Meant). x ++ took.0) rest.1 ∙ append_assoc (stands_after first past).core.taken rest.0 took.0,
    )

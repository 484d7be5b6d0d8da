-- What a turn makes of a board: it takes commands, each as the turn begins, and then time passes.
use Rattle.std.proofs.Common.{◌≡◌, ◌+◌, List, [], ◌∷◌, ◌++◌, length, refl, ap, sym, ◌∙◌, append-nil}
use Rattle.laws_board.proofs.Names.{BoardClock, board_tick, Down, Up, Cmd, Meant, commands_of, Rig, passes, takes_all, Event, Core, Step, Do, Turn, does, after_event, in_turn, run_world, takes_in, orders, LinkState, after_board, after_host, come, run_append}
use Rattle.wire_scene.specs.declared.wire.Fate.{Fate}
use Rattle.wire_scene.specs.declared.wire.Fate.TheVariants.{Lost, Last, Stays, Garbled}
use Rattle.board_world.specs.declared.event.Event.TheVariants as event
use Rattle.link_work.specs.Turn.{comes, host_steps}
use Rattle.link_work.proofs.Steps.{AllHold, AllOf, Holds, IsHeld, all_append, all_come, come_holds, host_holds}
use Rattle.laws_board.specs.turns.Turns.{AreBoardTurns, BoardTurn, stands_after}
use Rattle.laws_homing.proofs.home_runs.Staging.{commands_both}
use Rattle.board_sim.proofs.Heeding.{all_append as takes_both}
use Rattle.laws_board.proofs.sections.Naming.{taken_more}

-- while no time passes a board is as the commands that it takes make it
held_one : (h : Core) (e : Event) → IsHeld e → (does h e).board ≡ (takes_all h.board (commands_of (takes_in h e))).rig
held_one h (event.Pass t) k = absurd k
held_one h c k = refl

held_board : (steps : List Step) (h : Core) → AllHold steps → (run_world steps h).board ≡ (takes_all h.board (commands_of (taken_more steps h).0)).rig
unfolding taken_more
held_board [] h k = refl
held_board (Do e ∷ steps) h k =
    let first = takes_in h e in
    let rest = (taken_more steps (after_event h e)).0 in
    held_board steps (after_event h e) k.1 ∙ ap (λ (r : Rig). (takes_all r (commands_of rest)).rig) (held_one h e k.0)
    ∙ sym (takes_both h.board (commands_of first) (commands_of rest)) ∙ ap (λ (cs : List Cmd). (takes_all h.board cs).rig) (sym (commands_both first rest))
held_board (Turn turn ∷ steps) h k = held_board steps (in_turn h turn) k.1

-- the replies leave it as it is
abbrev Replies : Step → Type 0
Replies (Do event.Reply) = Unit {0}
Replies (Do event.LoseReply) = Unit {0}
Replies step = ⊥

up_replies : (fate : Fate) → AllOf Replies (comes Up fate)
up_replies Last = (tt, (tt, tt))
up_replies Stays = (tt, (tt, (tt, tt)))
up_replies c = (tt, tt)

replied : (steps : List Step) (h : Core) → AllOf Replies steps → ((run_world steps h).board ≡ h.board) × ((run_world steps h).taken ≡ h.taken)
replied [] h k = (refl, refl)
replied (Do event.Reply ∷ steps) h k = let rest = replied steps (after_event h event.Reply) k.1 in (rest.0, rest.1 ∙ append-nil h.taken)
replied (Do event.LoseReply ∷ steps) h k = let rest = replied steps (after_event h event.LoseReply) k.1 in (rest.0, rest.1 ∙ append-nil h.taken)
replied (s ∷ steps) h k = absurd k.0

-- a turn
pub record Turned (clock : BoardClock) (first : LinkState) (t : BoardTurn) (before : List BoardTurn) : Type 0 where
  pub took : List Meant
  pub taken : t.after.core.taken ≡ (stands_after first before).core.taken ++ took
  pub board : t.after.core.board ≡ (passes (takes_all (stands_after first before).core.board (commands_of took)).rig (board_tick clock (length before + 1))).rig

pub turned : (clock : BoardClock) (first : LinkState) (t : BoardTurn) (before : List BoardTurn) → AreBoardTurns clock first (t ∷ before) → Turned clock first t before
turned clock first t before are =
    let l = stands_after first before in
    let turn = length before in
    let is = are.0.0 in
    let o = orders t.control t.batch in
    let l1 = after_host turn o is.resent l in
    let l2 = after_board clock turn l1 in
    let host = host_steps turn o is.resent in
    let down = come Down turn l1.down.copies in
    let pass : List Step = Do (event.Pass (board_tick clock (turn + 1))) ∷ [] in
    let up = come Up turn l2.up.copies in
    let front = host ++ down in
    let mid = run_world front l.core in
    let core : t.after.core ≡ run_world up (run_world pass mid) =
    ap (λ (x : LinkState). x.core) is.becomes ∙ ap (λ (h : Core). run_world up h) (run_append down pass l1.core) ∙ ap (λ (h : Core). run_world up (run_world pass h)) (sym (run_append host down l.core)) in
    let took = taken_more front l.core in
    let replies = replied up (run_world pass mid) (all_come Replies Up up_replies turn l2.up.copies) in
    let held = held_board front l.core (all_append Holds host down (host_holds turn o is.resent) (come_holds Down turn l1.down.copies)) in
    record {
      took = took.0;
      taken = ap (λ (h : Core). h.taken) core ∙ replies.1 ∙ append-nil mid.taken ∙ took.1;
      board = ap (λ (h : Core). h.board) core ∙ replies.0 ∙ ap (λ (r : Rig). (passes r (board_tick clock (turn + 1))).rig) held;
    }

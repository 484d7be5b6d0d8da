-- A board in a run in which axes home that was never told to stop does not shut down for that.
use Rattle.std.proofs.Common.{◌≡◌, ℕ, List, ◌++◌, length, drop, Option, Some, refl, ap, ◌∙◌, subst, inl, inr}
use Rattle.laws_board.proofs.Names.{take-append-drop, flat_map, Level, BoardDef, BoardState, Running, Shut, ShutNews, Meant, IsOrdered, Step, run_world, new_world, Orders, queued_in}
use Rattle.board_sim.specs.Board.{new_controller}
use Rattle.board_world.proofs.Causes.{was_shut}
use Rattle.link_work.specs.Told.{IsShutNews}
use Rattle.laws_board.specs.sections.Ends.{MayBe}
use Rattle.laws_board.specs.sections.Stops.{NeverStop}
use Rattle.laws_board.proofs.sections.Seeking.{Among, among_first, among_of}
use Rattle.laws_board.proofs.sections.Stopping.{no_turns, stop_taken}

pub never_shut : (b : BoardDef) (pins : List (List Level)) (os : List Orders) (steps : List Step) (tick first : ℕ) → IsOrdered (run_world steps (new_world b pins)) → (run_world steps (new_world b pins)).queued ≡ flat_map queued_in os → NeverStop os
    → (run_world steps (new_world b pins)).board.controller.state ≡ Shut 5 tick first → ⊥
unfolding new_controller
never_shut b pins os steps tick first ordered queue never shut =
    let h = run_world steps (new_world b pins) in
    let n = stop_taken steps (new_world b pins) tick first (was_shut steps (new_world b pins) 5 tick first refl shut) in
    let m = n.0 in
    let long = length h.link.taken in
    let queued : h.taken ++ drop long h.queued ≡ flat_map queued_in os = ap (λ x. x ++ drop long h.queued) ordered.first ∙ take-append-drop long h.queued ∙ queue in
    let At : List Meant → Type 0 = λ x. Among m x in
    no_turns m os never (subst At queued (among_first m h.taken (drop long h.queued) (among_of m h.taken n.1))) n.2

-- a board runs that tells no shutdown that it may have
pub runs_so : (o : BoardState) (news : Option ShutNews) → MayBe o → IsShutNews o news → ((t : ShutNews) → news ≡ Some t → t.reason ≡ 1 → ⊥) → ((tick first : ℕ) → o ≡ Shut 5 tick first → ⊥) → o ≡ Running
runs_so Running news may is late stop = refl
runs_so (Shut reason tick first) news may is late stop = elim may [
  | inl e ↦ absurd (late is.0 is.1 (is.2 ∙ e))
  | inr e ↦ absurd (stop tick first (ap (λ r. Shut r tick first) e))
]

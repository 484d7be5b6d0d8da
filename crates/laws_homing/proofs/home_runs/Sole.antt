-- A board in a run has one trigger.
use Rattle.std.proofs.Common.{◌≡◌, ℕ, ◌<◌, ◌≤◌, List, ◌++◌, length, drop, refl, ap, sym, ◌∙◌, subst, arith}
use Rattle.laws_board.proofs.Names.{take-append-drop, Level, Machine, Running, IsValidMachine, board_at, Cmd, Entry, Switch, commands_of, first_state, trigger_of, Came}
use Rattle.laws_board.specs.turns.Turns.{BoardTurn, stands_after}
use Rattle.laws_board.specs.clocks.Runs.{IsInRun}
use Rattle.laws_homing.specs.home_runs.Guards.{IsSole}
use Rattle.laws_homing.specs.home_runs.Sections.{queued_in_turns}
use Rattle.laws_homing.specs.home_runs.Stages.{no_stage}
use Rattle.laws_homing.proofs.home_runs.Joining.{all_queued}
use Rattle.laws_homing.proofs.home_runs.Staging.{commands_both, staged_after}
use Rattle.laws_homing.proofs.home_runs.Whole.{Only, grown, only_parts, queue_only, run_only}
use Rattle.laws_homing.proofs.home_runs.Windows.{ordered_after}
use Rattle.axis_homing.proofs.Room.{on-few}

-- no other trigger stands on a board that runs
pub sole_after : (m : Machine) (switches : List Switch) (pins : List (List Level)) (entries : List Entry) (b : ℕ) (came : List Came) (turns : List BoardTurn) → IsValidMachine m → IsInRun m switches pins entries b came turns
    → (stands_after (first_state (board_at m b) pins b entries) turns).core.board.controller.state ≡ Running
    → IsSole (trigger_of m b) (stands_after (first_state (board_at m b) pins b entries) turns).core.board × (length (stands_after (first_state (board_at m b) pins b entries) turns).core.board.triggers ≤ 256)
sole_after m switches pins entries b came turns v r runs =
    let j = trigger_of m b in
    let d = board_at m b in
    let first = first_state d pins b entries in
    let h = (stands_after first turns).core in
    let few : j < 256 = let q = v.steppers_few in omega (arith, on-few b m.steppers, q) in
    let staged = staged_after d pins b entries turns 0 j (omega arith) few r.turns_are in
    let o = ordered_after d pins b entries turns r.turns_are in
    let left = drop (length h.link.taken) h.queued in
    let rest : h.taken ++ left ≡ h.queued = ap (λ x. x ++ left) o.first ∙ take-append-drop (length h.link.taken) h.queued in
    let all : Only j (commands_of (queued_in_turns turns)) = queue_only j turns (run_only m switches pins entries b came turns v r) in
    let queue : commands_of (queued_in_turns turns) ≡ commands_of h.taken ++ commands_of left = ap commands_of (sym (rest ∙ all_queued d pins b entries turns r.turns_are)) ∙ commands_both h.taken left in
    let taken = (only_parts j (commands_of h.taken) (commands_of left) (subst (λ (l : List Cmd). Only j l) queue all)).0 in
    let many = staged.triggers in
    ((staged.staged runs).sole (grown 0 j no_stage (commands_of h.taken) taken refl).0, omega (arith, many))

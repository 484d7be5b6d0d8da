-- A member's board that goes on in any scene is prepared 251 turns before a homing section's start, where its link rests then.
use Rattle.std.proofs.Common.{◌≡◌, ℕ, ◌+◌, ◌≤◌, false, List, [], ◌∷◌, length, Some, refl, subst, arith}
use Rattle.laws_board.proofs.Names.{Level, Machine, Running, IsValidMachine, board_at, Entry, Switch, Rig, slot_at, trigger_of, first_state, Homing, Connecting, noted, Came, known_by}
use Rattle.board_sim.specs.Board.{new_controller}
use Rattle.laws_board.specs.turns.Turns.{BoardTurn, stands_after}
use Rattle.laws_board.proofs.sections.Boarding.{runs_on}
use Rattle.laws_homing.specs.clear_boards.Rests.{RestsBehind}
use Rattle.laws_homing.specs.clear_groups.Quiet.{ReadsNoSwitch}
use Rattle.laws_homing.specs.clear_groups.SetUp.{HoldsOf, IsPrepared}
use Rattle.laws_homing.specs.fired_runs.Since.{BeginsApart}
use Rattle.laws_homing.specs.hindered.Hindered.{IsGoingOn}
use Rattle.laws_homing.proofs.clear_boards.Standing.{sound_at}
use Rattle.laws_homing.proofs.clear_groups.Owning.{one_rested}
use Rattle.laws_homing.proofs.clear_groups.Runs.{prepared_by}
use Rattle.laws_homing.proofs.fired_runs.Rested.{rest_before}
use Rattle.laws_homing.proofs.fired_runs.Seeing.{unread_before}

module _ (m : Machine) (v : IsValidMachine m) (switches : List Switch) (pins : List (List Level)) (entries : List Entry) (b : ℕ) where
  abbrev Board : List BoardTurn → Rig
  Board turns = (stands_after (first_state (board_at m b) pins b entries) turns).core.board

  going_runs : (before : List Came) (turns : List BoardTurn) → IsGoingOn m switches pins entries b before turns → (Board turns).controller.state ≡ Running
  unfolding new_controller
  going_runs before [] p = refl
  going_runs before (t ∷ turns) p = runs_on t.after.core.board.controller.state t.state.shut p.run.turns_are.0.1.shut p.none_shut.0

  pub prepared_in : (c : Came) (before : List Came) (t : BoardTurn) (turns : List BoardTurn) (h : Homing) (base : ℕ) → IsGoingOn m switches pins entries b before (t ∷ turns) → RestsBehind (t ∷ turns) → BeginsApart m switches (c ∷ before)
      → ((known_by m switches before).phase ≡ Connecting → ⊥) → (noted m c.note (known_by m switches before)).homing ≡ Some h → length before + 251 ≤ h.start → HoldsOf (trigger_of m b) (λ ps s. IsPrepared base ps s) (Board (t ∷ turns))
  prepared_in c before t turns h base p rest apart open_it is far =
      let r = Board (t ∷ turns) in
      let own = one_rested m switches pins entries b before (t ∷ turns) v p.run rest open_it (going_runs before (t ∷ turns) p) in
      let off = (rest_before m v switches pins entries b c before (t ∷ turns) h p.run apart p.reads p.behind is far).off in
      let none = (unread_before m v switches pins entries b c before (t ∷ turns) h p.run apart p.reads_switch p.behind is (omega (arith, far))).0 in
      let holds : HoldsOf (trigger_of m b) (λ ps s. s.trigger.can ≡ false) r = record { sole = own.0; slot = own.1.slot; is = own.1.is; so = off own.1.slot own.1.is } in
      let quiet : ReadsNoSwitch r = (λ oid s at fell. none s (subst (λ (n : ℕ). slot_at r n ≡ Some s) (own.0 oid s at) at)) in
      prepared_by (trigger_of m b) base r holds quiet (sound_at (board_at m b) pins b entries (t ∷ turns) p.run.turns_are)

-- In a scene without entries the endstop of an axis stands on its board past connecting, with its pin.
use Rattle.std.proofs.Common.{◌≡◌, ℕ, ◌+◌, ◌<◌, List, [], length, Some, None, ap, sym, ◌∙◌, subst, inl, inr}
use Rattle.std.specs.Prelude.{slice_index_or}
use Rattle.laws_board.proofs.Names.{Level, Machine, Running, IsValidMachine, axis_at, board_at, Entry, Switch, Meant, commands_of, AllKeepLimits, first_state, trigger_of, Connecting, Came, known_by}
use Rattle.board_asking.specs.Machine.{endstop_pins}
use Rattle.laws_board.specs.turns.Turns.{BoardTurn, stands_after}
use Rattle.laws_board.specs.clocks.Runs.{IsInRun, orders_in}
use Rattle.laws_homing.specs.switch_runs.Made.{MakesEndstop}
use Rattle.laws_homing.specs.switch_runs.Runs.{IsEndstop}
use Rattle.laws_homing.proofs.home_runs.Whole.{Only, queue_only, run_only}
use Rattle.laws_homing.proofs.switch_runs.Homes.{endstop_of, endstop_small, run_makes}
use Rattle.laws_homing.proofs.switch_runs.Ordering.{bring_fit, pin_of}
use Rattle.laws_homing.proofs.switch_runs.Made.{AnyTick, whole_after}
use Rattle.laws_homing.proofs.clear_groups.Owning.{taken_all}

pub endstop_stands : (m : Machine) (switches : List Switch) (pins : List (List Level)) (entries : List Entry) (b axis : ℕ) (came : List Came) (turns : List BoardTurn) → IsValidMachine m → entries ≡ [] → IsInRun m switches pins entries b came turns → AllKeepLimits (orders_in turns)
    → ((known_by m switches came).phase ≡ Connecting → ⊥) → (stands_after (first_state (board_at m b) pins b entries) turns).core.board.controller.state ≡ Running → axis < length m.axes → (axis_at m axis).board ≡ b
    → (slice_index_or (stands_after (first_state (board_at m b) pins b entries) turns).core.board.endstops (endstop_of m b (axis_at m axis)) None ≡ Some (axis_at m axis).pin)
    × ((stands_after (first_state (board_at m b) pins b entries) turns).core.board.pins ≡ pins)
endstop_stands m switches pins entries b axis came turns v none r limits open_it runs low on =
    let e = endstop_of m b (axis_at m axis) in
    let j = trigger_of m b in
    let d = board_at m b in
    let core = (stands_after (first_state d pins b entries) turns).core in
    let E = IsEndstop m b in
    let fit = bring_fit m switches pins entries b (λ now. AnyTick) came turns r (λ tick k. tt) in
    let whole = whole_after E d pins b entries turns e j r.turns_are (endstop_small m b (axis_at m axis) v) fit in
    let taken = taken_all d pins b entries turns none r.turns_are limits in
    let only : Only j (commands_of core.taken) = subst (λ (ms : List Meant). Only j (commands_of ms)) (sym taken) (queue_only j turns (run_only m switches pins entries b came turns v r)) in
    let makes : MakesEndstop e (commands_of core.taken) = subst (λ (ms : List Meant). MakesEndstop e (commands_of ms)) (sym taken) (run_makes m switches pins entries b axis came turns v r open_it low on) in
    elim ((whole.1 runs only).made makes) [
      | inl h ↦
          let pin : h.0 ≡ (axis_at m axis).pin = pin_of (j + 1) (axis_at m axis).pin h.0 (endstop_pins m b) (whole.0.board.ends e h.0 h.1) in
          (h.1 ∙ ap (λ (n : ℕ). Some n) pin, whole.0.board.pins_are)
      | inr bad ↦ absurd bad
    ]

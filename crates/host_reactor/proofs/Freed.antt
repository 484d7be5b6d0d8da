-- A reactor rests for as many turns as it says that it is free.
use Rattle.std.proofs.Common.{◌≡◌, ◌≤◌, ◌<◌, ℕ, zero, suc, ◌+◌, Bool, true, false, not, cond, List, [], ◌∷◌, Option, Some, None, refl, ap, arith}
use Rattle.std.specs.Prelude.{◌-◌, ◌%◌, ◌==◌, ◌&&◌, ◌||◌, slice_index_or}
use Rattle.std.proofs.lemmas.Bool.Decides.{nat_tests}
use Rattle.plan_types.specs.declared.machine.Machine.{Machine}
use Rattle.plan_types.specs.declared.machine.BoardDef.{BoardDef}
use Rattle.plan_types.specs.Machines.{board_at, no_board}
use Rattle.board_asking.specs.declared.asking.Asking.{Asking}
use Rattle.axis_homing.specs.declared.homing.Homing.{Homing}
use Rattle.host_reactor.specs.declared.ordered.Known.{Known}
use Rattle.host_reactor.specs.declared.ordered.Phase.{Phase}
use Rattle.host_reactor.specs.declared.ordered.Phase.TheVariants.{Connecting, Running, Stopping}
use Rattle.board_asking.specs.Asking.{is_out}
use Rattle.board_asking.specs.Drift.{drifts}
use Rattle.host_reactor.specs.Running.{all_ended}
use Rattle.host_reactor.specs.Free.{is_running, rests, all_rest, any_drifts, is_quiet, before_homing, before_asking, clear_turns, free_turns, Resting, HomesFrom, AsksNone, IsAtRest}
use Rattle.axis_homing.specs.Homing.{StartsTogether}
use Rattle.plan_types.proofs.Facts.{first_of_both, second_of_both, not_true, second_of_neither}
use Rattle.std.proofs.lemmas.Bool.{and_right}

pub first-false : (a b : Bool) → (a || b) ≡ false → a ≡ false
first-false true b h = h
first-false false b h = refl

none-out : (o : Option ℕ) → not (is_out o) ≡ true → o ≡ None
none-out None h = refl
none-out (Some turn) h = cc

pub all-resting : (askings : List Asking) → all_rest askings ≡ true → Resting askings
all-resting [] h = tt
all-resting (a ∷ askings) h =
    let one = first_of_both (rests a) (all_rest askings) h in
    (none-out a.since (first_of_both (not (is_out a.since)) (not a.waits) one), not_true a.waits (second_of_both (not (is_out a.since)) (not a.waits) one), all-resting askings (second_of_both (rests a) (all_rest askings) h))

pub running-is : (p : Phase) → is_running p ≡ true → p ≡ Running
running-is Connecting h = cc
running-is Running h = refl
running-is (Stopping line) h = cc

pub none-drifts : (boards : List BoardDef) (b : ℕ) → any_drifts boards ≡ false → drifts (slice_index_or boards b no_board).drift ≡ false
none-drifts [] b h = refl
none-drifts (d ∷ boards) zero h = first-false (drifts d.drift) (any_drifts boards) h
none-drifts (d ∷ boards) (suc b) h = none-drifts boards b (second_of_neither (drifts d.drift) (any_drifts boards) h)

-- some turns are left of those that two counts allow
left-asking : (d : Bool) (turn count n : ℕ) → n + 1 ≤ before_asking d turn count → n + 1 ≤ count
left-asking true turn count n h = omega arith
left-asking false turn count n h = h

left-homing : (o : Option Homing) (turn count n : ℕ) → StartsTogether o → n + 1 ≤ before_homing o turn count → HomesFrom o (turn + (n + 1))
left-homing None turn count n s h = tt
left-homing (Some g) turn count n s h = (omega arith, s)

not-zero : (turn i count : ℕ) → i < count → count ≤ (1_000 - turn % 1_000) % 1_000 → ((turn + i) % 1_000 == 0) ≡ false
not-zero turn i count l h = grind (arith, nat_tests)

none-asked : (d : Bool) (m : Machine) (turn count n : ℕ) → any_drifts m.boards ≡ d → n + 1 ≤ before_asking d turn count → (i : ℕ) → i < n + 1 → AsksNone m (turn + i)
none-asked false m turn count n e h i l b = ap (λ (x : Bool). x && ((turn + i) % 1_000 == 0)) (none-drifts m.boards b e)
none-asked true m turn count n e h i l b = and_right (drifts (board_at m b).drift) ((turn + i) % 1_000 == 0) (not-zero turn i (n + 1) l (omega arith))

free-quiet : (b : Bool) (x n : ℕ) → n + 1 ≤ cond b x 0 → (b ≡ true) × (n + 1 ≤ x)
free-quiet true x n h = (refl, h)
free-quiet false x n h = absurd (omega arith)

pub freed : (m : Machine) (r : Known) (turn n : ℕ) → StartsTogether r.homing → n + 1 ≤ free_turns m r turn → IsAtRest m r turn (n + 1)
freed m r turn n s h =
    let d = any_drifts m.boards in
    let count = before_homing r.homing turn (clear_turns r.clear turn) in
    let both = free-quiet (is_quiet r) (before_asking d turn count) n h in
    let others = second_of_both (is_running r.phase) (all_rest r.askings.items && not (all_ended r.done r.reading)) both.0 in
    record {
      phase = running-is r.phase (first_of_both (is_running r.phase) (all_rest r.askings.items && not (all_ended r.done r.reading)) both.0);
      resting = all-resting r.askings.items (first_of_both (all_rest r.askings.items) (not (all_ended r.done r.reading)) others);
      going = not_true (all_ended r.done r.reading) (second_of_both (all_rest r.askings.items) (not (all_ended r.done r.reading)) others);
      homing = left-homing r.homing turn (clear_turns r.clear turn) n s (left-asking d turn count n both.1);
      asking = none-asked d m turn count n refl both.1;
    }

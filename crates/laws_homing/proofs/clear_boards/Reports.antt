-- While time passes, a trigger that can trigger tells so at each of its reports.
use Rattle.std.proofs.Common.{◌≡◌, ◌≢◌, ℕ, zero, suc, ◌+◌, ◌/◌, ◌%◌, ◌^◌, ◌<◌, ◌≤◌, Bool, true, List, [], ◌∷◌, ◌++◌, get_or, Option, Some, None, refl, ap, sym, ◌∙◌, subst, arith, ◌⊎◌, inl, inr}
use Rattle.std.specs.Prelude.{if◌then◌else◌}
use Rattle.laws_board.proofs.Names.{get_or-set_same, Level, Happening, Expires, Nothing, Reports, Switches, Trigger, Cmd, Passed, Rig, Slot, all_left, at_of, earliest_moment, goes_on, happens_to, pass, passes_by, rests_to, runs_to, slot_at, one_slot, slot_range}
use Rattle.std.proofs.lemmas.List.{get_or-set_other}
use Rattle.board_trig.specs.Nexts.{IsNextOf, ReportsAt}
use Rattle.board_trig.specs.Trigger as trig
use Rattle.board_trig.proofs.Nexts.{is_next}
use Rattle.msg_code.specs.Units.{bit}
use Rattle.board_sim.specs.Rig.{happens_at, levels_of, moment_in, moment_of, rested, trigger_answers}
use Rattle.board_sim.specs.RigRuns.{AreRegular, IsRegular}
use Rattle.board_sim.proofs.Bound.{map_at, same_or_not}
use Rattle.board_sim.proofs.Chosen.{chosen_is}
use Rattle.board_sim.proofs.Moments.{all_in}
use Rattle.board_sim.proofs.Passing.{Left, happens_left, in_time}
use Rattle.board_sim.proofs.Ticks.{timed}
use Rattle.laws_homing.specs.clear_boards.Reports.{IsReported, TellCan}
use Rattle.laws_homing.proofs.clear_boards.Slots.{none_next}
use Rattle.plan_types.proofs.Facts.{same_when}

tell_front : (oid clock : ℕ) (xs ys : List Cmd) → TellCan oid clock xs → TellCan oid clock (xs ++ ys)
tell_front oid clock [] ys t = absurd t
tell_front oid clock (x ∷ xs) ys (inl t) = inl t
tell_front oid clock (x ∷ xs) ys (inr t) = inr (tell_front oid clock xs ys t)

tell_behind : (oid clock : ℕ) (xs ys : List Cmd) → TellCan oid clock ys → TellCan oid clock (xs ++ ys)
tell_behind oid clock [] ys t = t
tell_behind oid clock (x ∷ xs) ys t = inr (tell_behind oid clock xs ys t)

-- what happens to the trigger
record Stepped (oid until report : ℕ) (s : Slot) (a : trig.Advanced) : Type 0 where
  every : a.trigger.every ≡ s.trigger.every
  next : ℕ
  report_is : a.trigger.report ≡ Some next
  stays : a.trigger.can ≡ true → s.trigger.can ≡ true
  tells : (next ≡ report) ⊎ ((at : ℕ) × (report ≤ at) × (at < until) × (at + s.trigger.every ≡ next) × (a.trigger.can ≡ true → TellCan oid (at % 2 ^ 32) (trigger_answers oid a.event)))

happened_step : (oid until report : ℕ) (levels : List Level) (e : Happening) (s : Slot) → IsNextOf levels until s.trigger e → s.trigger.report ≡ Some report → Stepped oid until report s (trig.happened levels until e s.trigger)
happened_step oid until report levels Nothing s next is = record { every = refl; next = report; report_is = is; stays = λ e. e; tells = inl refl }
happened_step oid until report levels (Reports at) s next is = record {
  every = refl;
  next = at + s.trigger.every;
  report_is = refl;
  stays = λ e. e;
  tells = inr (at, (let same : report ≡ at = same_when s.trigger.report report at is next.0 in omega (arith, same)), next.1, refl, λ e. inl (refl, ap bit e, ap (λ (b : Bool). (if b then at else s.trigger.tick) % 2 ^ 32) e));
}
happened_step oid until report levels c s next is = record { every = refl; next = report; report_is = is; stays = λ e. absurd (cc); tells = inl refl }

tells_step : (o : Option ℕ) (oid until report : ℕ) (levels : List Level) (s : Slot) → s.trigger.untold ≡ o → IsRegular (Some s) → s.trigger.report ≡ Some report → Stepped oid until report s (trig.tells o levels until s.trigger)
tells_step None oid until report levels s e h is = happened_step oid until report levels (trig.next_happening levels until s.trigger) s (is_next levels until s.trigger h.1) is
tells_step (Some n) oid until report levels s e h is = absurd (let bad : None ≡ Some n = sym h.0 ∙ e in cc)

-- what happens on the board
happens_here : (oid k until report : ℕ) (r : Rig) (s u : Slot) → (oid ≡ k) ⊎ (oid ≢ k) → slot_at r k ≡ Some u → slot_at r oid ≡ Some s → IsRegular (Some s) → s.trigger.report ≡ Some report
    → IsReported oid until report s.trigger.every s.trigger.can (happens_to r until k (Some u)).rig (happens_to r until k (Some u)).answers
happens_here oid k until report r s u (inl same) there here h is =
    let alike : s ≡ u = one_slot (slot_at r k) s u (subst (λ (n : ℕ). slot_at r n ≡ Some s) same here) there in
    let Of : Slot → Type 0 = λ x. IsReported oid until report s.trigger.every s.trigger.can (happens_to r until k (Some x)).rig (happens_to r until k (Some x)).answers in
    let At : ℕ → Type 0 = λ n. IsReported oid until report s.trigger.every s.trigger.can (happens_to r until n (Some s)).rig (happens_to r until n (Some s)).answers in
    let a = trig.advanced (levels_of r s.pin) until s.trigger in
    let step = tells_step s.trigger.untold oid until report (levels_of r s.pin) s refl h is in
    let one : At oid = record {
      slot = record s { trigger = a.trigger };
      is = get_or-set_same r.triggers oid (Some (record s { trigger = a.trigger })) None (slot_range r.triggers oid s here);
      every_is = step.every;
      next = step.next;
      report_is = step.report_is;
      stays = step.stays;
      told = step.tells;
    } in
    subst Of alike (subst At same one)
happens_here oid k until report r s u (inr other) there here h is =
    let a = trig.advanced (levels_of r u.pin) until u.trigger in
    record { slot = s; is = get_or-set_other r.triggers k oid (Some (record u { trigger = a.trigger })) None other ∙ here; every_is = refl; next = report; report_is = is; stays = λ e. e; told = inl refl }

happens_so : (oid k until report : ℕ) (r : Rig) (s : Slot) (o : Option Slot) → slot_at r k ≡ o → slot_at r oid ≡ Some s → IsRegular (Some s) → s.trigger.report ≡ Some report
    → IsReported oid until report s.trigger.every s.trigger.can (happens_to r until k o).rig (happens_to r until k o).answers
happens_so oid k until report r s None there here h is = record { slot = s; is = here; every_is = refl; next = report; report_is = is; stays = λ e. e; told = inl refl }
happens_so oid k until report r s (Some u) there here h is = happens_here oid k until report r s u (same_or_not oid k) there here h is

-- where nothing happens any more, no report is left
pub none_in : (r : Rig) (until p oid : ℕ) (xs : List (Option Slot)) (s : Slot) → earliest_moment r until p xs ≡ None → get_or xs oid None ≡ Some s → moment_in r until (Some s) ≡ None
none_in r until p oid xs s e at = none_next r until p oid xs s at e

pub none_left : (levels : List Level) (until report : ℕ) (t : Trigger) (e : Happening) → moment_of e ≡ None → IsNextOf levels until t e → ReportsAt t report → until ≤ report
none_left levels until report t Nothing m next is = next.2 report is
none_left levels until report t c m next is = absurd (cc)

pub regular_at : (i : ℕ) (xs : List (Option Slot)) → AreRegular xs → IsRegular (get_or xs i None)
regular_at i [] h = tt
regular_at zero (x ∷ xs) h = h.0
regular_at (suc i) (x ∷ xs) h = regular_at i xs h.1

Late : (oid until report every : ℕ) (can : Bool) → Passed → Type 0
Late oid until report every can p = (x : IsReported oid until report every can p.rig p.answers) × (until ≤ x.next)

rests_late : (oid until report : ℕ) (r : Rig) (s : Slot) → earliest_moment r until 0 r.triggers ≡ None → slot_at r oid ≡ Some s → IsRegular (Some s) → s.trigger.report ≡ Some report → Late oid until report s.trigger.every s.trigger.can (rests_to r until)
unfolding Late
rests_late oid until report r s e here h is =
    let levels = levels_of r s.pin in
    let late = none_left levels until report s.trigger (trig.next_happening levels until s.trigger) (none_in r until 0 oid r.triggers s e here) (is_next levels until s.trigger h.1) is in (
      record {
        slot = record s { trigger = (trig.happened levels until Nothing s.trigger).trigger };
        is = map_at (rested r.pins until) r.triggers oid refl ∙ ap (rested r.pins until) here;
        every_is = refl;
        next = report;
        report_is = is;
        stays = λ f. f;
        told = inl refl;
      },
      late,
    )

-- one behind the other
then_late : (oid until report every : ℕ) (can : Bool) (first rest : Passed) → (x : IsReported oid until report every can first.rig first.answers) → Late oid until x.next x.slot.trigger.every x.slot.trigger.can rest
    → Late oid until report every can (passes_by first rest)
unfolding Late
then_late oid until report every can first rest x l =
    let y = l.0 in
    let both = first.answers ++ rest.answers in
    let Told : Type 0 = (y.next ≡ report) ⊎ ((at : ℕ) × (report ≤ at) × (at < until) × (at + every ≡ y.next) × (y.slot.trigger.can ≡ true → TellCan oid (at % 2 ^ 32) both)) in
    let told_so : Told = elim y.told [
      | inr z ↦ inr (z.0, (let low = z.1 in let up = later x.told in omega (arith, low, up)), z.2, ap (λ (n : ℕ). z.0 + n) (sym x.every_is) ∙ z.3, λ e. tell_behind oid (z.0 % 2 ^ 32) first.answers rest.answers (z.4 e))
      | inl same ↦ elim x.told [
        | inl old ↦ inl (same ∙ old)
        | inr z ↦ inr (z.0, z.1, z.2, z.3 ∙ sym same, λ e. tell_front oid (z.0 % 2 ^ 32) first.answers rest.answers (z.4 (y.stays e)))
      ]
    ] in
    (record { slot = y.slot; is = y.is; every_is = y.every_is ∙ x.every_is; next = y.next; report_is = y.report_is; stays = λ e. x.stays (y.stays e); told = told_so }, l.1)
  where
    later : {More : ℕ → Type 0} → (x.next ≡ report) ⊎ ((at : ℕ) × (report ≤ at) × (at < until) × (at + every ≡ x.next) × More at) → report ≤ x.next
    later (inl e) = omega (arith, e)
    later (inr z) = let low = z.1 in let e = z.3 in omega (arith, low, e)

goes_late : (o : Option (ℕ × ℕ)) (oid until report : ℕ) (r : Rig) (s : Slot) (rest : Passed) → earliest_moment r until 0 r.triggers ≡ o → slot_at r oid ≡ Some s → AreRegular r.triggers → r.controller.tick ≤ until → s.trigger.report ≡ Some report
    → ((x : IsReported oid until report s.trigger.every s.trigger.can (happens_at r until (at_of o)).rig (happens_at r until (at_of o)).answers) → Left until r (happens_at r until (at_of o)).rig → Late oid until x.next x.slot.trigger.every x.slot.trigger.can rest)
    → Late oid until report s.trigger.every s.trigger.can (goes_on o (rests_to r until) (passes_by (happens_at r until (at_of o)) rest))
goes_late None oid until report r s rest e here regular tick is more =
    rests_late oid until report r s e here (subst (λ (x : Option Slot). IsRegular x) here (regular_at oid r.triggers regular)) is
goes_late (Some at) oid until report r s rest e here regular tick is more =
    let ran = (runs_to r (at.0 / 3)).rig in
    let far : at.0 / 3 ≤ until = in_time (earliest_moment r until 0 r.triggers) at until e (all_in r until 0 r.triggers) in
    let early : ran.controller.tick ≤ until = (timed 0 (at.0 / 3) r.controller).stays until tick far in
    let moment : moment_in r until (slot_at r at.1) ≡ Some at.0 = chosen_is r until at e in
    let left = happens_left ran until at.0 at.1 (slot_at ran at.1) refl moment regular early in
    let x = happens_so oid at.1 until report ran s (slot_at ran at.1) refl here (subst (λ (y : Option Slot). IsRegular y) here (regular_at oid r.triggers regular)) is in
    then_late oid until report s.trigger.every s.trigger.can (happens_at r until at) rest x (more x (record { regular = left.regular; less = left.less; tick = left.tick }))

pass_late : (n oid until report : ℕ) (r : Rig) (s : Slot) → slot_at r oid ≡ Some s → AreRegular r.triggers → r.controller.tick ≤ until → all_left until r.triggers < n → s.trigger.report ≡ Some report
    → Late oid until report s.trigger.every s.trigger.can (pass n r until)
pass_late zero oid until report r s here regular tick less is = absurd (omega (arith, less))
pass_late (suc n) oid until report r s here regular tick less is =
    let first = happens_at r until (at_of (earliest_moment r until 0 r.triggers)) in
    goes_late (earliest_moment r until 0 r.triggers) oid until report r s (pass n first.rig until) refl here regular tick is
    (λ x left. pass_late n oid until x.next first.rig x.slot x.is left.regular left.tick (let l = left.less in omega (arith, l, less)) x.report_is)

pub reports_told : (n oid until report : ℕ) (r : Rig) (s : Slot) → slot_at r oid ≡ Some s → AreRegular r.triggers → r.controller.tick ≤ until → all_left until r.triggers < n → s.trigger.report ≡ Some report
    → (x : IsReported oid until report s.trigger.every s.trigger.can (pass n r until).rig (pass n r until).answers) × (until ≤ x.next)
unfolding Late
reports_told n oid until report r s here regular tick less is = pass_late n oid until report r s here regular tick less is

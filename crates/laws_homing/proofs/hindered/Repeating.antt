-- While time passes, a trigger that has triggered tells so at each of its reports.
use Rattle.std.proofs.Common.{◌≡◌, ◌≢◌, ◌⊎◌, ℕ, zero, suc, ◌+◌, ◌/◌, ◌%◌, ◌^◌, ◌<◌, ◌≤◌, inl, inr, Bool, true, false, List, [], ◌++◌, Option, Some, None, refl, ap, sym, ◌∙◌, subst, arith}
use Rattle.std.specs.Prelude.{if◌then◌else◌}
use Rattle.laws_board.proofs.Names.{leb_tells, get_or-set_same, Level, Happening, Expires, Nothing, Reports, Switches, Cmd, Passed, Rig, Slot, all_left, at_of, earliest_moment, goes_on, happens_to, pass, passes, passes_by, rests_to, runs_to, slot_at, one_slot, slot_range, no_both}
use Rattle.std.proofs.lemmas.List.{get_or-set_other}
use Rattle.board_trig.specs.Nexts.{IsNextOf}
use Rattle.board_trig.specs.Trigger as trig
use Rattle.board_trig.proofs.Nexts.{is_next}
use Rattle.msg_code.specs.Units.{bit}
use Rattle.board_sim.specs.Rig.{happens_at, levels_of, moment_in, rested, trigger_answers}
use Rattle.board_sim.specs.RigRuns.{AreRegular, IsRegular}
use Rattle.board_sim.proofs.Bound.{map_at, same_or_not}
use Rattle.board_sim.proofs.Chosen.{chosen_is}
use Rattle.board_sim.proofs.Moments.{all_in}
use Rattle.board_sim.proofs.Passing.{Left, happens_left, in_time}
use Rattle.board_sim.proofs.Ticks.{timed}
use Rattle.laws_homing.specs.clear_boards.Firing.{TellOff}
use Rattle.laws_homing.proofs.clear_boards.Firing.{off_behind, off_front}
use Rattle.laws_homing.proofs.clear_boards.Reports.{none_in, none_left, regular_at}
use Rattle.plan_types.proofs.Facts.{none_or_some, same_when}

-- a trigger that has triggered, with a next report
pub record IsSilenced (report every tick : ℕ) (s : Slot) : Type 0 where
  pub off : s.trigger.can ≡ false
  pub idle : s.trigger.timeout ≡ None
  pub same : s.trigger.tick ≡ tick
  pub every_is : s.trigger.every ≡ every
  pub report_is : s.trigger.report ≡ Some report

-- Behind a stretch of time up to a tick, of which the next report was at this one: its next report is the same, or it stands behind one that was told before the tick, no earlier.
pub record IsRepeated (oid until report every tick : ℕ) (r : Rig) (answers : List Cmd) : Type 0 where
  pub slot : Slot
  pub is : slot_at r oid ≡ Some slot
  pub next : ℕ
  pub silenced : IsSilenced next every tick slot
  pub told : (next ≡ report) ⊎ ((at : ℕ) × (report ≤ at) × (at < until) × (at + every ≡ next) × TellOff oid (tick % 2 ^ 32) answers)

-- what happens to the trigger
record Stepped (oid until report every tick : ℕ) (s : Slot) (a : trig.Advanced) : Type 0 where
  next : ℕ
  silenced : IsSilenced next every tick (record s { trigger = a.trigger })
  tells : (next ≡ report) ⊎ ((at : ℕ) × (report ≤ at) × (at < until) × (at + every ≡ next) × TellOff oid (tick % 2 ^ 32) (trigger_answers oid a.event))

happened_step : (oid until report every tick : ℕ) (levels : List Level) (e : Happening) (s : Slot) → IsNextOf levels until s.trigger e → IsSilenced report every tick s → Stepped oid until report every tick s (trig.happened levels until e s.trigger)
happened_step oid until report every tick levels Nothing s next k = record { next = report; silenced = record { off = k.off; idle = k.idle; same = k.same; every_is = k.every_is; report_is = k.report_is }; tells = inl refl }
happened_step oid until report every tick levels (Expires at) s next k = absurd (none_or_some s.trigger.timeout at k.idle next.0)
happened_step oid until report every tick levels (Switches at) s next k = absurd (no_both s.trigger.can next.0.1 k.off)
happened_step oid until report every tick levels (Reports at) s next k =
    let same : report ≡ at = same_when s.trigger.report report at k.report_is next.0 in
    let clock : (if s.trigger.can then at else s.trigger.tick) % 2 ^ 32 ≡ tick % 2 ^ 32 = ap (λ (b : Bool). (if b then at else s.trigger.tick) % 2 ^ 32) k.off ∙ ap (λ (n : ℕ). n % 2 ^ 32) k.same in
    record {
      next = at + s.trigger.every;
      silenced = record { off = k.off; idle = k.idle; same = k.same; every_is = k.every_is; report_is = refl };
      tells = inr (at, omega (arith, same), next.1, ap (λ (n : ℕ). at + n) (sym k.every_is), inl (refl, ap bit k.off, clock));
    }

tells_step : (o : Option ℕ) (oid until report every tick : ℕ) (levels : List Level) (s : Slot) → s.trigger.untold ≡ o → IsRegular (Some s) → IsSilenced report every tick s → Stepped oid until report every tick s (trig.tells o levels until s.trigger)
tells_step None oid until report every tick levels s e h k = happened_step oid until report every tick levels (trig.next_happening levels until s.trigger) s (is_next levels until s.trigger h.1) k
tells_step (Some n) oid until report every tick levels s e h k = absurd (none_or_some s.trigger.untold n h.0 e)

-- what happens on the board
happens_here : (oid i until report every tick : ℕ) (r : Rig) (s u : Slot) → (oid ≡ i) ⊎ (oid ≢ i) → slot_at r i ≡ Some u → slot_at r oid ≡ Some s → IsRegular (Some s) → IsSilenced report every tick s
    → IsRepeated oid until report every tick (happens_to r until i (Some u)).rig (happens_to r until i (Some u)).answers
happens_here oid i until report every tick r s u (inl same) there here h k =
    let alike : s ≡ u = one_slot (slot_at r i) s u (subst (λ (n : ℕ). slot_at r n ≡ Some s) same here) there in
    let Of : Slot → Type 0 = λ x. IsRepeated oid until report every tick (happens_to r until i (Some x)).rig (happens_to r until i (Some x)).answers in
    let At : ℕ → Type 0 = λ n. IsRepeated oid until report every tick (happens_to r until n (Some s)).rig (happens_to r until n (Some s)).answers in
    let a = trig.advanced (levels_of r s.pin) until s.trigger in
    let step = tells_step s.trigger.untold oid until report every tick (levels_of r s.pin) s refl h k in
    let one : At oid = record {
      slot = record s { trigger = a.trigger };
      is = get_or-set_same r.triggers oid (Some (record s { trigger = a.trigger })) None (slot_range r.triggers oid s here);
      next = step.next;
      silenced = step.silenced;
      told = step.tells;
    } in
    subst Of alike (subst At same one)
happens_here oid i until report every tick r s u (inr other) there here h k =
    let a = trig.advanced (levels_of r u.pin) until u.trigger in
    record { slot = s; is = get_or-set_other r.triggers i oid (Some (record u { trigger = a.trigger })) None other ∙ here; next = report; silenced = k; told = inl refl }

happens_so : (oid i until report every tick : ℕ) (r : Rig) (s : Slot) (o : Option Slot) → slot_at r i ≡ o → slot_at r oid ≡ Some s → IsRegular (Some s) → IsSilenced report every tick s
    → IsRepeated oid until report every tick (happens_to r until i o).rig (happens_to r until i o).answers
happens_so oid i until report every tick r s None there here h k = record { slot = s; is = here; next = report; silenced = k; told = inl refl }
happens_so oid i until report every tick r s (Some u) there here h k = happens_here oid i until report every tick r s u (same_or_not oid i) there here h k

abbrev Late : (oid until report every tick : ℕ) → Passed → Type 0
Late oid until report every tick p = (x : IsRepeated oid until report every tick p.rig p.answers) × (until ≤ x.next)

rests_late : (oid until report every tick : ℕ) (r : Rig) (s : Slot) → earliest_moment r until 0 r.triggers ≡ None → slot_at r oid ≡ Some s → IsRegular (Some s) → IsSilenced report every tick s → Late oid until report every tick (rests_to r until)
rests_late oid until report every tick r s e here h k =
    let levels = levels_of r s.pin in
    let late = none_left levels until report s.trigger (trig.next_happening levels until s.trigger) (none_in r until 0 oid r.triggers s e here) (is_next levels until s.trigger h.1) k.report_is in (
      record {
        slot = record s { trigger = (trig.happened levels until Nothing s.trigger).trigger };
        is = map_at (rested r.pins until) r.triggers oid refl ∙ ap (rested r.pins until) here;
        next = report;
        silenced = record { off = k.off; idle = k.idle; same = k.same; every_is = k.every_is; report_is = k.report_is };
        told = inl refl;
      },
      late,
    )

-- one behind the other
then_late : (oid until report every tick : ℕ) (front rest : Passed) → (x : IsRepeated oid until report every tick front.rig front.answers) → Late oid until x.next every tick rest → Late oid until report every tick (passes_by front rest)
then_late oid until report every tick front rest x l =
    let y = l.0 in
    let both = front.answers ++ rest.answers in
    let up : report ≤ x.next = elim x.told [ inl e ↦ omega (arith, e) | inr z ↦ (let least = z.1 in let sum = z.3 in omega (arith, least, sum)) ] in
    let Told : Type 0 = (y.next ≡ report) ⊎ ((at : ℕ) × (report ≤ at) × (at < until) × (at + every ≡ y.next) × TellOff oid (tick % 2 ^ 32) both) in
    let told_so : Told = elim y.told [
      | inr z ↦ inr (z.0, (let least = z.1 in omega (arith, least, up)), z.2, z.3, off_behind oid (tick % 2 ^ 32) front.answers rest.answers z.4)
      | inl same ↦ elim x.told [
        | inl old ↦ inl (same ∙ old)
        | inr z ↦ inr (z.0, z.1, z.2, z.3 ∙ sym same, off_front oid (tick % 2 ^ 32) front.answers rest.answers z.4)
      ]
    ] in
    (record { slot = y.slot; is = y.is; next = y.next; silenced = y.silenced; told = told_so }, l.1)

goes_late : (o : Option (ℕ × ℕ)) (oid until report every tick : ℕ) (r : Rig) (s : Slot) (rest : Passed) → earliest_moment r until 0 r.triggers ≡ o → slot_at r oid ≡ Some s → AreRegular r.triggers → r.controller.tick ≤ until → IsSilenced report every tick s
    → ((x : IsRepeated oid until report every tick (happens_at r until (at_of o)).rig (happens_at r until (at_of o)).answers) → Left until r (happens_at r until (at_of o)).rig → Late oid until x.next every tick rest)
    → Late oid until report every tick (goes_on o (rests_to r until) (passes_by (happens_at r until (at_of o)) rest))
goes_late None oid until report every tick r s rest e here regular low_so k more =
    rests_late oid until report every tick r s e here (subst (λ (x : Option Slot). IsRegular x) here (regular_at oid r.triggers regular)) k
goes_late (Some at) oid until report every tick r s rest e here regular low_so k more =
    let ran = (runs_to r ((at_of (Some at)).0 / 3)).rig in
    let far : at.0 / 3 ≤ until = in_time (earliest_moment r until 0 r.triggers) at until e (all_in r until 0 r.triggers) in
    let early : ran.controller.tick ≤ until = (timed 0 (at.0 / 3) r.controller).stays until low_so far in
    let moment : moment_in r until (slot_at r at.1) ≡ Some at.0 = chosen_is r until at e in
    let left = happens_left ran until at.0 at.1 (slot_at ran at.1) refl moment regular early in
    let x = happens_so oid at.1 until report every tick ran s (slot_at ran at.1) refl here (subst (λ (y : Option Slot). IsRegular y) here (regular_at oid r.triggers regular)) k in
    then_late oid until report every tick (happens_at r until at) rest x (more x (record { regular = left.regular; less = left.less; tick = left.tick }))

pass_late : (n oid until report every tick : ℕ) (r : Rig) (s : Slot) → slot_at r oid ≡ Some s → AreRegular r.triggers → r.controller.tick ≤ until → all_left until r.triggers < n → IsSilenced report every tick s
    → Late oid until report every tick (pass n r until)
pass_late zero oid until report every tick r s here regular low_so less k = absurd (omega (arith, less))
pass_late (suc n) oid until report every tick r s here regular low_so less k =
    let front = happens_at r until (at_of (earliest_moment r until 0 r.triggers)) in
    goes_late (earliest_moment r until 0 r.triggers) oid until report every tick r s (pass n front.rig until) refl here regular low_so k
    (λ x left. pass_late n oid until x.next every tick front.rig x.slot x.is left.regular left.tick (let l = left.less in omega (arith, l, less)) x.silenced)

-- over a stretch of time
pub repeats : (oid until report every tick : ℕ) (r : Rig) (s : Slot) → slot_at r oid ≡ Some s → AreRegular r.triggers → r.controller.tick ≤ until → IsSilenced report every tick s
    → (x : IsRepeated oid until report every tick (passes r until).rig (passes r until).answers) × (until ≤ x.next)
repeats oid until report every tick r s here regular low_so k = elim (leb_tells r.controller.tick until) [
  | inl p ↦
      let At : Bool → Type 0 = λ b.
      let p : Passed = if b then pass (all_left until r.triggers + 1) r until else record { rig = r; pulses = []; answers = [] } in
      (x : IsRepeated oid until report every tick p.rig p.answers) × (until ≤ x.next) in
      subst At (sym p.0) (pass_late (all_left until r.triggers + 1) oid until report every tick r s here regular low_so (omega arith) k)
  | inr p ↦ absurd (omega (arith, p.1, low_so))
]

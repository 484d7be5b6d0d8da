-- A trigger that a switch triggers tells so.
use Rattle.std.proofs.Common.{◌≡◌, ◌≢◌, ℕ, zero, suc, ◌+◌, ◌/◌, ◌%◌, ◌^◌, ◌<◌, ◌≤◌, Bool, true, false, List, [], ◌∷◌, ◌++◌, get_or, set, Option, Some, None, refl, ap, sym, ◌∙◌, subst, arith, ◌⊎◌, inl, inr}
use Rattle.std.specs.Prelude.{if◌then◌else◌, slice_index_or, nat_le}
use Rattle.laws_board.proofs.Names.{get_or-set_same, Level, Sampling, Trigger, Happening, Nothing, Expires, Switches, Reports, Cmd, Passed, Rig, Slot, all_left, at_of, becomes, earliest_moment, goes_on, happens_to, pass, passes, passes_by, rests_to, runs_to, slot_at, one_slot, slot_range, no_both}
use Rattle.std.proofs.lemmas.List.{get_or-set_other}
use Rattle.board_trig.specs.Trigger as trig
use Rattle.board_trig.specs.Sampling.{completes, sampled_to}
use Rattle.board_trig.specs.Nexts.{IsNextOf}
use Rattle.board_trig.proofs.Nexts.{is_next}
use Rattle.board_sim.specs.Rig.{happens_at, rested, trigger_answers}
use Rattle.board_sim.proofs.Bound.{map_at, same_or_not}
use Rattle.board_sim.proofs.Halting.{quiet_moves, quiet_switch}
use Rattle.laws_homing.specs.clear_boards.Firing.{AllKeen, AreSpoken, IsKeen, IsOff, TellOff}
use Rattle.laws_homing.specs.clear_boards.Limited.{limit_of}
use Rattle.laws_homing.proofs.clear_boards.Held.{at_set, ended_reason, rested_is, sampled_reason, switch_reason}
use Rattle.laws_homing.proofs.home_runs.Saying.{bit_none}
use Rattle.laws_homing.proofs.clear_boards.Slots.{clock_small}

pub off_front : (oid clock : ℕ) (xs ys : List Cmd) → TellOff oid clock xs → TellOff oid clock (xs ++ ys)
off_front oid clock [] ys t = absurd t
off_front oid clock (x ∷ xs) ys (inl t) = inl t
off_front oid clock (x ∷ xs) ys (inr t) = inr (off_front oid clock xs ys t)

pub off_behind : (oid clock : ℕ) (xs ys : List Cmd) → TellOff oid clock ys → TellOff oid clock (xs ++ ys)
off_behind oid clock [] ys t = t
off_behind oid clock (x ∷ xs) ys t = inr (off_behind oid clock xs ys t)

pub small_both : (base limit until : ℕ) (xs ys : List Cmd) → AreSpoken base limit until xs → AreSpoken base limit until ys → AreSpoken base limit until (xs ++ ys)
small_both base limit until [] ys k l = l
small_both base limit until (x ∷ xs) ys k l = (k.0, small_both base limit until xs ys k.1 l)

-- readings are for the reason that they were
pub read_reason : (o : Option Sampling) (levels : List Level) (until : ℕ) (y : Sampling) → trig.read_to levels until o ≡ Some y → (s : Sampling) × (o ≡ Some s) × (y.reason ≡ s.reason)
read_reason None levels until y e = cc
read_reason (Some s) levels until y e = (s, refl, ended_reason (completes levels until s) (sampled_to levels until s) y e ∙ sampled_reason until levels until s)

quiet_keen : (base limit until : ℕ) (pins : List (List Level)) (s : Slot) → IsKeen base limit until pins s → IsKeen base limit until pins (record s { trigger = (trig.happened (slice_index_or pins s.pin []) until Nothing s.trigger).trigger })
quiet_keen base limit until pins s k =
    let levels = slice_index_or pins s.pin [] in
    record {
      told = k.told;
      moves = quiet_moves s.trigger.sampling levels until k.moves;
      timed = k.timed;
      reason = k.reason;
      expire = k.expire;
      stopped = k.stopped;
      sampled = λ y is. (
          let x = read_reason s.trigger.sampling levels until y is in
          let small = (k.sampled x.0 x.1).0 in
          let same = x.2 in
          (omega (arith, small, same), λ t at. (let old = quiet_switch s.trigger.sampling levels until y t is at in (k.sampled old.0 old.1).1 t old.2)));
    }

-- what happens to a trigger
record Went (oid base until limit : ℕ) (pins : List (List Level)) (s : Slot) (a : trig.Advanced) : Type 0 where
  keen : IsKeen base limit until pins (record s { trigger = a.trigger })
  small : AreSpoken base limit until (trigger_answers oid a.event)
  off : s.trigger.can ≡ true → a.trigger.can ≡ false → (at : ℕ) × (base ≤ at) × (at < until) × (at < limit) × TellOff oid (at % 2 ^ 32) (trigger_answers oid a.event)

expired_not : (can : Bool) (limit at until : ℕ) (o : Option ℕ) → o ≡ limit_of can limit → o ≡ Some at → at < until → until ≤ limit → ⊥
expired_not true limit at until o e f less far = let same : Some limit ≡ Some at = sym e ∙ f in let is : limit ≡ at = cc in absurd (omega (arith, is, less, far))
expired_not false limit at until o e f less far = let bad : None ≡ Some at = sym e ∙ f in cc

happened_went : (oid base until limit : ℕ) (pins : List (List Level)) (e : Happening) (s : Slot) → until ≤ limit → IsNextOf (slice_index_or pins s.pin []) until s.trigger e → IsKeen base limit until pins s
    → Went oid base until limit pins s (trig.happened (slice_index_or pins s.pin []) until e s.trigger)
happened_went oid base until limit pins Nothing s far next k = record { keen = quiet_keen base limit until pins s k; small = tt; off = λ can not. absurd (no_both s.trigger.can can not) }
happened_went oid base until limit pins (Expires at) s far next k = absurd (expired_not s.trigger.can limit at until s.trigger.timeout k.timed next.0 next.1 far)
happened_went oid base until limit pins (Switches at) s far next k =
    let y = next.0.0 in
    let can = next.0.1 in
    let is = next.0.2 in
    let from = k.sampled y is in
    let small = from.0 in
    let why : trig.reason_of s.trigger.sampling ≡ y.reason = switch_reason s.trigger.sampling y is in
    let timed : s.trigger.timeout ≡ Some limit = k.timed ∙ ap (λ (b : Bool). limit_of b limit) can in
    record {
      keen = record { told = k.told; moves = tt; timed = refl; reason = omega (arith, small, why); expire = k.expire; stopped = λ e. (from.1 at next.0.3, next.2 limit timed, next.1); sampled = λ z none. absurd (cc) };
      small = ((omega (arith, small, why), clock_small at, λ e. (at, from.1 at next.0.3, next.2 limit timed, next.1, refl)), tt);
      off = λ e f. (at, from.1 at next.0.3, next.1, next.2 limit timed, inl (refl, refl, refl));
    }
happened_went oid base until limit pins (Reports at) s far next k = record {
  keen = record { told = k.told; moves = k.moves; timed = k.timed; reason = k.reason; expire = k.expire; stopped = k.stopped; sampled = k.sampled };
  small = (
    (
      k.reason,
      clock_small (if s.trigger.can then at else s.trigger.tick),
      λ e. (
          let none = bit_none s.trigger.can e in
          let x = k.stopped none in
          (s.trigger.tick, x.0, x.1, x.2, ap (λ (b : Bool). (if b then at else s.trigger.tick) % 2 ^ 32) none)),
    ),
    tt,
  );
  off = λ can not. absurd (no_both s.trigger.can can not);
}

tells_went : (o : Option ℕ) (oid base until limit : ℕ) (pins : List (List Level)) (s : Slot) → s.trigger.untold ≡ o → until ≤ limit → IsKeen base limit until pins s → Went oid base until limit pins s (trig.tells o (slice_index_or pins s.pin []) until s.trigger)
tells_went None oid base until limit pins s e far k =
    let levels = slice_index_or pins s.pin [] in
    happened_went oid base until limit pins (trig.next_happening levels until s.trigger) s far (is_next levels until s.trigger k.moves) k
tells_went (Some n) oid base until limit pins s e far k = absurd (let bad : None ≡ Some n = sym k.told ∙ e in cc)

-- and to all of a board
one_keen : (base limit until : ℕ) (pins : List (List Level)) (u s : Slot) (before : Option Slot) → IsKeen base limit until pins u → (before ≡ Some s → IsKeen base limit until pins s) → (s ≡ u) ⊎ (before ≡ Some s) → IsKeen base limit until pins s
one_keen base limit until pins u s before here others (inl e) = subst (λ (x : Slot). IsKeen base limit until pins x) (sym e) here
one_keen base limit until pins u s before here others (inr e) = others e

set_keen : (base limit until : ℕ) (r : Rig) (k : ℕ) (u v : Slot) (t : Trigger) → u ≡ record v { trigger = t } → AllKeen base limit until r → IsKeen base limit until r.pins u → AllKeen base limit until (becomes r k v t)
set_keen base limit until r k u v t e all here oid s at =
    let there : get_or (set r.triggers k (Some u)) oid None ≡ Some s = subst (λ (x : Slot). get_or (set r.triggers k (Some x)) oid None ≡ Some s) (sym e) at in
    one_keen base limit until r.pins u s (get_or r.triggers oid None) here (all oid s) (at_set r.triggers k oid u s there (same_or_not oid k))

record Gone (oid base until limit : ℕ) (s : Slot) (r : Rig) (answers : List Cmd) : Type 0 where
  off : IsOff oid base until limit s.trigger.can r answers
  keen : AllKeen base limit until r
  small : AreSpoken base limit until answers

same_off : (oid base until limit : ℕ) (s : Slot) (r : Rig) (answers : List Cmd) → slot_at r oid ≡ Some s → IsOff oid base until limit s.trigger.can r answers
same_off oid base until limit s r answers there = record { slot = s; is = there; told = λ can not. absurd (no_both s.trigger.can can not) }

happens_off : (oid k base until limit : ℕ) (r : Rig) (s u : Slot) → (oid ≡ k) ⊎ (oid ≢ k) → slot_at r k ≡ Some u → slot_at r oid ≡ Some s → (w : Went k base until limit r.pins u (trig.advanced (slice_index_or r.pins u.pin []) until u.trigger))
    → IsOff oid base until limit s.trigger.can (happens_to r until k (Some u)).rig (happens_to r until k (Some u)).answers
happens_off oid k base until limit r s u (inl same) there here w =
    let a = trig.advanced (slice_index_or r.pins u.pin []) until u.trigger in
    let alike : s ≡ u = one_slot (slot_at r k) s u (subst (λ (n : ℕ). slot_at r n ≡ Some s) same here) there in
    let At : ℕ → Type 0 = λ n. IsOff n base until limit s.trigger.can (happens_to r until k (Some u)).rig (happens_to r until k (Some u)).answers in
    let one : At k = record {
      slot = record u { trigger = a.trigger };
      is = get_or-set_same r.triggers k (Some (record u { trigger = a.trigger })) None (slot_range r.triggers k u there);
      told = λ can not. w.off (ap (λ (x : Slot). x.trigger.can) (sym alike) ∙ can) not;
    } in
    subst At (sym same) one
happens_off oid k base until limit r s u (inr other) there here w =
    let a = trig.advanced (slice_index_or r.pins u.pin []) until u.trigger in
    same_off oid base until limit s (happens_to r until k (Some u)).rig (happens_to r until k (Some u)).answers (get_or-set_other r.triggers k oid (Some (record u { trigger = a.trigger })) None other ∙ here)

happens_gone : (oid k base until limit : ℕ) (r : Rig) (s : Slot) (o : Option Slot) → until ≤ limit → slot_at r k ≡ o → slot_at r oid ≡ Some s → AllKeen base limit until r
    → Gone oid base until limit s (happens_to r until k o).rig (happens_to r until k o).answers
happens_gone oid k base until limit r s None far there here all = record { off = same_off oid base until limit s r [] here; keen = all; small = tt }
happens_gone oid k base until limit r s (Some u) far there here all =
    let a = trig.advanced (slice_index_or r.pins u.pin []) until u.trigger in
    let w = tells_went u.trigger.untold k base until limit r.pins u refl far (all k u there) in
    record {
      off = happens_off oid k base until limit r s u (same_or_not oid k) there here w;
      keen = set_keen base limit until r k (record u { trigger = a.trigger }) u a.trigger refl all w.keen;
      small = w.small;
    }

rests_gone : (oid base until limit : ℕ) (r : Rig) (s : Slot) → slot_at r oid ≡ Some s → AllKeen base limit until r → Gone oid base until limit s (rests_to r until).rig []
rests_gone oid base until limit r s here all = record {
  off = record {
    slot = record s { trigger = (trig.happened (slice_index_or r.pins s.pin []) until Nothing s.trigger).trigger };
    is = map_at (rested r.pins until) r.triggers oid refl ∙ ap (rested r.pins until) here;
    told = λ can not. absurd (no_both s.trigger.can can not);
  };
  keen = λ i u at. (
      let x = rested_is r.pins until (slot_at r i) u (sym (map_at (rested r.pins until) r.triggers i refl) ∙ at) in
      subst (λ (v : Slot). IsKeen base limit until r.pins v) (sym x.2) (quiet_keen base limit until r.pins x.0 (all i x.0 x.1)));
  small = tt;
}

-- one behind the other
both_off : (oid base until limit : ℕ) (can : Bool) (first rest : Passed) (x : IsOff oid base until limit can first.rig first.answers) → IsOff oid base until limit x.slot.trigger.can rest.rig rest.answers
    → IsOff oid base until limit can rest.rig (first.answers ++ rest.answers)
both_off oid base until limit can first rest x y = record { slot = y.slot; is = y.is; told = λ could not. by x.slot.trigger.can refl could not }
  where
    by : (b : Bool) → x.slot.trigger.can ≡ b → can ≡ true → y.slot.trigger.can ≡ false → (at : ℕ) × (base ≤ at) × (at < until) × (at < limit) × TellOff oid (at % 2 ^ 32) (first.answers ++ rest.answers)
    by true e could not = let z = y.told e not in (z.0, z.1, z.2, z.3, off_behind oid (z.0 % 2 ^ 32) first.answers rest.answers z.4)
    by false e could not = let z = x.told could e in (z.0, z.1, z.2, z.3, off_front oid (z.0 % 2 ^ 32) first.answers rest.answers z.4)

goes_gone : (o : Option (ℕ × ℕ)) (oid base until limit : ℕ) (s : Slot) (x y : Passed) → Gone oid base until limit s x.rig x.answers → Gone oid base until limit s y.rig y.answers → Gone oid base until limit s (goes_on o x y).rig (goes_on o x y).answers
goes_gone None oid base until limit s x y k l = k
goes_gone (Some at) oid base until limit s x y k l = l

pass_gone : (n oid base until limit : ℕ) (r : Rig) (s : Slot) → until ≤ limit → slot_at r oid ≡ Some s → AllKeen base limit until r → Gone oid base until limit s (pass n r until).rig (pass n r until).answers
pass_gone zero oid base until limit r s far here all = record { off = same_off oid base until limit s r [] here; keen = all; small = tt }
pass_gone (suc n) oid base until limit r s far here all =
    let next = earliest_moment r until 0 r.triggers in
    let ran = (runs_to r ((at_of next).0 / 3)).rig in
    let first = happens_at r until (at_of next) in
    let rest = pass n first.rig until in
    let one = happens_gone oid (at_of next).1 base until limit ran s (slot_at ran (at_of next).1) far refl here (λ i u at. all i u at) in
    let more = pass_gone n oid base until limit first.rig one.off.slot far one.off.is one.keen in
    goes_gone next oid base until limit s (rests_to r until) (passes_by first rest) (rests_gone oid base until limit r s here all)
    (record { off = both_off oid base until limit s.trigger.can first rest one.off more.off; keen = more.keen; small = small_both base limit until first.answers rest.answers one.small more.small })

pub passes_gone : (oid base until limit : ℕ) (r : Rig) (s : Slot) → until ≤ limit → slot_at r oid ≡ Some s → AllKeen base limit until r
    → IsOff oid base until limit s.trigger.can (passes r until).rig (passes r until).answers × AllKeen base limit until (passes r until).rig × AreSpoken base limit until (passes r until).answers
passes_gone oid base until limit r s far here all = by (nat_le r.controller.tick until)
  where
    by : (b : Bool) → let p : Passed = if b then pass (all_left until r.triggers + 1) r until else record { rig = r; pulses = []; answers = [] } in
        IsOff oid base until limit s.trigger.can p.rig p.answers × AllKeen base limit until p.rig × AreSpoken base limit until p.answers
    by true = let g = pass_gone (all_left until r.triggers + 1) oid base until limit r s far here all in (g.off, g.keen, g.small)
    by false = (same_off oid base until limit s r [] here, all, tt)

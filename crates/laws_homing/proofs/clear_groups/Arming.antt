-- A board whose trigger is armed, while time passes up to the section's first tick.
use Rattle.std.proofs.Common.{◌≡◌, ℕ, ◌<◌, ◌≤◌, ◌⊎◌, inl, inr, Bool, true, false, [], Some, refl, ap, sym, ◌∙◌, subst, arith}
use Rattle.laws_board.proofs.Names.{Running, nearest, Passed, Rig, Slot, passes, slot_at, AllSound, one_slot}
use Rattle.board_sim.proofs.Sound.{sound_regular}
use Rattle.laws_homing.specs.clear_boards.Alive.{IsAlive, IsSwitched, StaysAlive}
use Rattle.laws_homing.specs.clear_boards.Firing.{AllSmall, HasSmall}
use Rattle.laws_homing.specs.clear_boards.Held.{IsTriggerHeld}
use Rattle.laws_homing.specs.clear_boards.Limited.{IsLimited, limit_of}
use Rattle.laws_homing.proofs.clear_boards.Alive.{turn_alive}
use Rattle.laws_homing.proofs.clear_boards.Turned.{turn_ahead}
use Rattle.laws_homing.specs.clear_groups.SetUp.{HoldsOf, IsArmed}

module _ (oid base every limit : ℕ) where
  abbrev pub Armed : Rig → Type 0
  Armed r = HoldsOf oid (λ pins s. IsArmed base every (Some limit) pins s) r

  same_slot : (r : Rig) (h : Armed r) (i : ℕ) (s : Slot) → slot_at r i ≡ Some s → h.slot ≡ s
  same_slot r h i s at = one_slot (slot_at r oid) h.slot s h.is (subst (λ (n : ℕ). slot_at r n ≡ Some s) (h.sole i s at) at)

  pub armed_limited : (r : Rig) → Armed r → (tick : ℕ) → IsLimited oid tick limit r
  armed_limited r h tick =
      let k = h.so in
      let p = k.prepared in
      let held : IsTriggerHeld tick h.slot =
      record { told = p.told; moves = p.moves; other = λ y is. (p.sampled y is).1; expiry = λ none two. absurd (let bad : true ≡ false = sym k.can ∙ none in cc) } in
      let timed : h.slot.trigger.timeout ≡ limit_of h.slot.trigger.can limit = k.timed ∙ ap (λ (b : Bool). limit_of b limit) (sym k.can) in
      record {
        sole = h.sole;
        held = λ i s at. subst (IsTriggerHeld tick) (same_slot r h i s at) held;
        limited = λ i s at. subst (λ (x : Slot). x.trigger.timeout ≡ limit_of x.trigger.can limit) (same_slot r h i s at) timed;
      }

  pub armed_small : (r : Rig) → Armed r → AllSmall r
  armed_small r h i s at =
      let k = h.so in
      let small : HasSmall h.slot = record { reason = k.reason; expire = k.expire; sampled = λ y is. (k.prepared.sampled y is).0 } in
      subst HasSmall (same_slot r h i s at) small

  pub armed_alive : (r : Rig) (now : ℕ) → Armed r → now ≤ base → (a : IsAlive oid base every now r) × (a.next ≡ base)
  armed_alive r now h low_so =
      let k = h.so in
      let a : IsAlive oid base every now r = record {
        slot = h.slot;
        is = h.is;
        can = k.can;
        every_is = k.every_is;
        next = base;
        report = k.report;
        due = low_so;
        begun = omega arith;
        reason = k.reason;
        expire = k.expire;
        sampled = λ y is. ((k.prepared.sampled y is).0, (k.prepared.sampled y is).2);
      } in
      (a, refl)

  pub armed_passes : (r : Rig) (now until clock : ℕ) → Armed r → AllSound r → r.controller.state ≡ Running → r.controller.tick ≡ now → nearest now clock ≡ limit → now < limit → now ≤ until → until ≤ base → until ≤ limit → Armed (passes r until).rig
  unfolding armed_alive
  armed_passes r now until clock h sound runs at is later order low_base low_limit =
      let told = h.so.prepared.told in
      let alive = turn_alive oid base every 0 limit now until clock r [] (armed_alive r now h (omega (arith, order, low_base))).0 told at (omega (arith, is, later)) runs tt tt (armed_limited r h 0) sound (sound_regular r sound) at order low_limit in
      let limited : (tick : ℕ) → IsLimited oid tick limit (passes r until).rig = (λ tick. (turn_ahead oid tick limit limit clock now until r [] at is later runs tt (inl refl) (inl low_limit) (armed_limited r h tick)).limited) in
      by (passes r until) limited alive.0
    where
      by : (p : Passed) → ((tick : ℕ) → IsLimited oid tick limit p.rig) → (StaysAlive oid base every now until base p.rig p.answers ⊎ IsSwitched oid base now until limit p.rig p.answers) → Armed p.rig
      by p limited (inr off) = absurd (let from = off.begun in let end = off.early in omega (arith, from, end, low_base))
      by p limited (inl stays) =
          let a = stays.alive in
          let held = (limited 0).held oid a.slot a.is in
          let timed = (limited 0).limited oid a.slot a.is in
          let next : a.next ≡ base = elim stays.told [ inl same ↦ same | inr z ↦ absurd (let from = z.1 in let end = z.3 in omega (arith, from, end, low_base)) ] in
          record {
            sole = (limited 0).sole;
            slot = a.slot;
            is = a.is;
            so = record {
              prepared = record { told = held.told; moves = held.moves; sampled = λ y is. ((a.sampled y is).0, held.other y is, (a.sampled y is).1) };
              can = a.can;
              every_is = a.every_is;
              report = a.report ∙ ap (λ (n : ℕ). Some n) next;
              timed = timed ∙ ap (λ (b : Bool). limit_of b limit) a.can;
              reason = a.reason;
              expire = a.expire;
            };
          }

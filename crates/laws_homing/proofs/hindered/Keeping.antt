-- A trigger that can trigger keeps a timeout, and its readings their reason; so its board's timeout is at one tick.
use Rattle.std.proofs.Common.{◌≡◌, ℕ, Bool, true, false, List, [], ◌∷◌, Some, None, refl, sym, ◌∙◌, subst}
use Rattle.laws_board.proofs.Names.{Level, nearest, Sampling, Trigger, Happening, Nothing, Expires, Switches, Reports, Cmd, Rig, Slot, passes, slot_at, takes_all, AllSound, one_slot, no_both}
use Rattle.board_trig.specs.Trigger as trig
use Rattle.laws_homing.specs.home_runs.Guards.{IsSole}
use Rattle.laws_homing.specs.clear_boards.Held.{IsTriggerHeld}
use Rattle.laws_homing.specs.clear_boards.Limited.{IsLimited, limit_of}
use Rattle.laws_homing.specs.clear_boards.Turned.{AreSentBehind, IsSentBehind}
use Rattle.laws_homing.proofs.switch_runs.Firing.{read_true}
use Rattle.laws_board.proofs.clocks.Answers.{Each}
use Rattle.laws_homing.proofs.clear_boards.Slots.{Follows, levels_at, passes_each, takes_each}
use Rattle.plan_types.proofs.Facts.{false_true}

abbrev pub Timed : Trigger → Type 0
Timed t = (t.can ≡ true → (x : ℕ) × (t.timeout ≡ Some x)) × ((y : Sampling) → t.sampling ≡ Some y → y.reason ≡ 2 → ⊥)

none_read : (y : Sampling) → None ≡ Some y → ⊥
none_read y e = cc

comes_it : (levels : List Level) (until : ℕ) (t : Trigger) (e : Happening) → Timed t → Timed (trig.happened levels until e t).trigger
comes_it levels until t Nothing k = (k.0, λ y is two. (let x = read_true t.sampling levels until y is in k.1 x.0 x.1 (sym x.2 ∙ two)))
comes_it levels until t (Reports at) k = (k.0, k.1)
comes_it levels until t c k = (λ can. absurd (false_true can), λ y is. absurd (none_read y is))

-- of the trigger with this object id
abbrev pub AllTimed : ℕ → Rig → Type 0
AllTimed j r = (oid : ℕ) (s : Slot) → oid ≡ j → slot_at r oid ≡ Some s → Timed s.trigger

-- the same of each trigger, of which only this one counts
abbrev Own : ℕ → (List (List Level) → ℕ → Slot → Type 0)
Own j pins oid s = oid ≡ j → Timed s.trigger

follows_it : (j clock : ℕ) → Follows (Own j) (λ now c. IsSentBehind j clock c)
follows_it j clock = record {
  made = λ pins now oid fit. absurd fit;
  starts = λ pins now oid s at every reason fit k. absurd fit;
  limits = λ pins now oid s at fit can ahead k own. (λ on. (nearest now at, refl), (k own).1);
  expires = λ pins now oid s at fit can past k own. (λ on. absurd (false_true on), λ y is. absurd (none_read y is));
  says = λ pins oid s n e k own. ((k own).0, (k own).1);
  fires = λ pins now oid s reason fit can k own. (λ on. absurd (false_true on), λ y is. absurd (none_read y is));
  binds = λ pins now oid s i fit k. absurd fit;
  homes = λ pins now oid s i pin g fit k. absurd fit;
}

behind_each : (j clock : ℕ) (cs : List Cmd) → AreSentBehind j clock cs → Each (λ (c : Cmd). IsSentBehind j clock c) cs
behind_each j clock [] k = tt
behind_each j clock (c ∷ cs) k = (k.0, behind_each j clock cs k.1)

pub turn_timed : (j clock until : ℕ) (r : Rig) (cs : List Cmd) → AreSentBehind j clock cs → AllTimed j r → AllTimed j (passes (takes_all r cs).rig until).rig
turn_timed j clock until r cs behind k =
    let took = takes_each (Own j) (λ now c. IsSentBehind j clock c) (follows_it j clock) r cs (behind_each j clock cs behind) (λ oid s at own. k oid s own at) in
    let passed = passes_each (Own j) until (record {
      comes = λ pins oid s e next k own. comes_it (levels_at pins s) until s.trigger e (k own);
      says = λ pins oid s n e k own. ((k own).0, (k own).1);
    }) (takes_all r cs).rig took in
    λ oid s own at. passed oid s at own

-- the board's one trigger, where it can trigger
pub limited_now : (j tick : ℕ) (r : Rig) (s : Slot) → IsSole j r → AllSound r → AllTimed j r → slot_at r j ≡ Some s → s.trigger.can ≡ true → (limit : ℕ) × IsLimited j tick limit r
limited_now j tick r s sole sound timed is can =
    let own = timed j s refl is in
    let x = own.0 can in
    let so = sound j s is in
    let same : (oid : ℕ) (u : Slot) → slot_at r oid ≡ Some u → s ≡ u = (λ oid u at. one_slot (slot_at r j) s u is (subst (λ (n : ℕ). slot_at r n ≡ Some u) (sole oid u at) at)) in
    let held : IsTriggerHeld tick s = record { told = so.told; moves = so.moves; other = own.1; expiry = λ off why. absurd (no_both s.trigger.can can off) } in
    let limited : s.trigger.timeout ≡ limit_of s.trigger.can x.0 = subst (λ (b : Bool). s.trigger.timeout ≡ limit_of b x.0) (sym can) x.1 in (
      x.0,
      record {
        sole = sole;
        held = λ oid u at. subst (IsTriggerHeld tick) (same oid u at) held;
        limited = λ oid u at. subst (λ (z : Slot). z.trigger.timeout ≡ limit_of z.trigger.can x.0) (same oid u at) limited;
      },
    )

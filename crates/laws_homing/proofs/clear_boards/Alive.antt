-- A board whose trigger can trigger, over a turn.
use Rattle.std.proofs.Common.{◌≡◌, ℕ, ◌+◌, ◌<◌, ◌≤◌, ◌^◌, Bool, true, false, List, [], ◌∷◌, Option, Some, None, max, refl, ap, sym, ◌∙◌, subst, arith, ◌⊎◌, inl, inr}
use Rattle.std.specs.Prelude.{if◌then◌else◌, nat_lt, slice_index_or}
use Rattle.laws_board.proofs.Names.{leb_tells, Level, Running, nearest, Sampling, Trigger, Cmd, Passed, Rig, Slot, all_left, pass, passes, slot_at, takes, takes_all, AllSound, one_slot}
use Rattle.board_trig.specs.Trigger as trig
use Rattle.board_trig.specs.Sampling.{IsTriggerTick}
use Rattle.board_sim.specs.RigRuns.{AreRegular}
use Rattle.board_sim.proofs.RigTicks.{takes_rig_tick}
use Rattle.laws_homing.specs.home_runs.Guards.{IsSole}
use Rattle.laws_homing.specs.clear_boards.Alive.{IsAlive, IsSwitched, RelayNone, StaysAlive}
use Rattle.laws_homing.specs.clear_boards.Firing.{AllKeen, AreSpoken, IsKeen, IsOff}
use Rattle.laws_homing.specs.clear_boards.Limited.{IsLimited}
use Rattle.laws_homing.specs.clear_boards.Reports.{IsReported}
use Rattle.laws_homing.specs.clear_boards.Turned.{AreSentBehind, IsSentBehind, Relays}
use Rattle.laws_homing.proofs.clear_boards.Firing.{passes_gone}
use Rattle.laws_homing.proofs.clear_boards.Reports.{reports_told}
use Rattle.laws_homing.proofs.clear_boards.Slots.{Follows, OfEach, running_beside, running_each, with_trigger}
use Rattle.laws_homing.proofs.clear_boards.Turned.{ran}
use Rattle.plan_types.proofs.Facts.{is_less}

-- a slot whose timeout alone is another
abbrev pub with_timeout : Slot → Option ℕ → Slot
with_timeout s o = record s { trigger = record s.trigger { timeout = o } }

-- what a command leaves of it
abbrev pub Left : ℕ → Slot → Rig → Type 0
Left oid s r = (o : Option ℕ) × (slot_at r oid ≡ Some (with_timeout s o))

pub timed_is : (can early : Bool) (now at : ℕ) (t : Trigger) → early ≡ true
    → (o : Option ℕ) × ((if can then (if early then record t { timeout = Some at } else record (trig.fired now t.expire t) { untold = Some now }) else t) ≡ record t { timeout = o })
timed_is true true now at t e = (Some at, refl)
timed_is true false now at t e = absurd (cc)
timed_is false early now at t e = (t.timeout, refl)

-- a command that is not to trigger it, taken where its timeout is ahead
abbrev LeftOf : ℕ → Slot → (List (List Level) → ℕ → Slot → Type 0)
LeftOf oid s pins i u = i ≡ oid → (o : Option ℕ) × (u ≡ with_timeout s o)

abbrev Ahead : ℕ → ℕ → (ℕ → Cmd → Type 0)
Ahead oid clock now c = IsSentBehind oid clock c × (Relays c → ⊥) × (now < nearest now clock)

follows_left : (oid clock : ℕ) (s : Slot) → s.trigger.untold ≡ None → Follows (LeftOf oid s) (Ahead oid clock)
follows_left oid clock s told = record {
  made = λ pins now i fit. absurd fit.0;
  starts = λ pins now i u at every reason fit k. absurd fit.0;
  limits = λ pins now i u at fit can ahead k own. (Some (nearest now at), ap (λ (z : Slot). with_trigger z (record z.trigger { timeout = Some (nearest now at) })) (k own).1);
  expires = λ pins now i u at fit can past k. absurd (let ahead : now < nearest now at = subst (λ (n : ℕ). now < nearest now n) (sym fit.0.1) fit.2 in omega (arith, ahead, past));
  says = λ pins i u n e k own. absurd (let bad : None ≡ Some n = sym told ∙ ap (λ (z : Slot). z.trigger.untold) (sym (k own).1) ∙ e in cc);
  fires = λ pins now i u reason fit can k. absurd (fit.1 tt);
  binds = λ pins now i u stepper fit k. absurd fit.0;
  homes = λ pins now i u endstop pin g fit k. absurd fit.0;
}

pub one_left : (oid clock : ℕ) (r : Rig) (c : Cmd) (s : Slot) → r.controller.state ≡ Running → slot_at r oid ≡ Some s → s.trigger.untold ≡ None → r.controller.tick < nearest r.controller.tick clock → IsSentBehind oid clock c → (Relays c → ⊥)
    → Left oid s (takes r c).rig × ((takes r c).rig.pins ≡ r.pins)
one_left oid clock r c s runs there told ahead k none =
    let state = r.controller.state in
    let beside = running_beside state r c in
    let u = beside.3 oid s there in
    let old : OfEach (LeftOf oid s) r = λ i v at own. (s.trigger.timeout, one_slot (slot_at r oid) v s (subst (λ (n : ℕ). slot_at r n ≡ Some v) own at) there) in
    let new = running_each (LeftOf oid s) (Ahead oid clock) (follows_left oid clock s told) state r c (k, none, ahead) old oid u.0 u.1 refl in
    ((new.0, u.1 ∙ ap (λ (z : Slot). Some z) new.1), beside.0)

pub all_left_of : (oid clock now : ℕ) (r : Rig) (cs : List Cmd) (s : Slot) → (takes_all r cs).rig.controller.state ≡ Running → slot_at r oid ≡ Some s → s.trigger.untold ≡ None → r.controller.tick ≡ now → now < nearest now clock → AreSentBehind oid clock cs → RelayNone cs
    → Left oid s (takes_all r cs).rig × ((takes_all r cs).rig.pins ≡ r.pins)
all_left_of oid clock now r [] s runs there told at ahead k none = ((s.trigger.timeout, there), refl)
all_left_of oid clock now r (c ∷ cs) s runs there told at ahead k none =
    let later : r.controller.tick < nearest r.controller.tick clock = subst (λ (n : ℕ). n < nearest n clock) (sym at) ahead in
    let one = one_left oid clock r c s (ran r (c ∷ cs) runs) there told later k.0 none.0 in
    let rest = all_left_of oid clock now (takes r c).rig cs (with_timeout s one.0.0) runs one.0.1 told (takes_rig_tick r c ∙ at) ahead k.1 none.1 in
    (rest.0, rest.1 ∙ one.1)

-- the trigger is keen, and all are, as it is the only one
keen_at : (oid base now tick limit until : ℕ) (q : Rig) (s u : Slot) (o : Option ℕ) → u ≡ with_timeout s o → slot_at q oid ≡ Some u → IsLimited oid tick limit q → AllSound q → now ≤ q.controller.tick → s.trigger.reason < 2 ^ 8 → s.trigger.expire < 2 ^ 8
    → ((y : Sampling) → s.trigger.sampling ≡ Some y → (y.reason < 2 ^ 8) × ((x : ℕ) → IsTriggerTick (slice_index_or q.pins s.pin []) y x → base ≤ x)) → u.trigger.can ≡ true → IsKeen (max base now) limit until q.pins u
keen_at oid base now tick limit until q s u o e there limited sound at reason expire sampled can =
    let held = limited.held oid u there in
    let so = sound oid u there in
    let timed = limited.limited oid u there in
    record {
      told = held.told;
      moves = held.moves;
      timed = timed;
      reason = subst (λ (v : Slot). v.trigger.reason < 2 ^ 8) (sym e) reason;
      expire = subst (λ (v : Slot). v.trigger.expire < 2 ^ 8) (sym e) expire;
      stopped = λ none. absurd (let bad : false ≡ true = sym none ∙ can in cc);
      sampled = λ y is. (
          let was : s.trigger.sampling ≡ Some y = ap (λ (v : Slot). v.trigger.sampling) (sym e) ∙ is in
          let x = sampled y was in (
            x.0,
            λ t hits. (
                let low = so.switch y t is hits in
                let same : u.pin ≡ s.pin = ap (λ (v : Slot). v.pin) e in
                let first = x.1 t (subst (λ (p : ℕ). IsTriggerTick (slice_index_or q.pins p []) y t) same hits) in
                omega (arith, low, first, at)),
          ));
    }

all_keen : (oid base limit until : ℕ) (q : Rig) (u : Slot) → IsSole oid q → slot_at q oid ≡ Some u → IsKeen base limit until q.pins u → AllKeen base limit until q
all_keen oid base limit until q u sole there k i s at =
    let here : slot_at q oid ≡ Some s = subst (λ (n : ℕ). slot_at q n ≡ Some s) (sole i s at) at in
    subst (λ (v : Slot). IsKeen base limit until q.pins v) (one_slot (slot_at q oid) u s there here) k

pub late_passes : (oid until report : ℕ) (q : Rig) (u : Slot) → slot_at q oid ≡ Some u → AreRegular q.triggers → q.controller.tick ≤ until → u.trigger.report ≡ Some report
    → (x : IsReported oid until report u.trigger.every u.trigger.can (passes q until).rig (passes q until).answers) × (until ≤ x.next)
late_passes oid until report q u there regular tick is = elim (leb_tells q.controller.tick until) [
  | inl p ↦
      let At : Bool → Type 0 = λ b.
      let p : Passed = if b then pass (all_left until q.triggers + 1) q until else record { rig = q; pulses = []; answers = [] } in
      (x : IsReported oid until report u.trigger.every u.trigger.can p.rig p.answers) × (until ≤ x.next) in
      subst At (sym p.0) (reports_told (all_left until q.triggers + 1) oid until report q u there regular tick (omega arith) is)
  | inr p ↦ absurd (omega (arith, p.1, tick))
]

-- a turn
pub turn_alive : (oid base every tick next now until clock : ℕ) (r : Rig) (cs : List Cmd) (a : IsAlive oid base every now r) → a.slot.trigger.untold ≡ None → r.controller.tick ≡ now → now < nearest now clock → (takes_all r cs).rig.controller.state ≡ Running
    → AreSentBehind oid clock cs → RelayNone cs → IsLimited oid tick next (takes_all r cs).rig → AllSound (takes_all r cs).rig → AreRegular (takes_all r cs).rig.triggers → (takes_all r cs).rig.controller.tick ≡ now → now ≤ until → until ≤ next
    → (StaysAlive oid base every now until a.next (passes (takes_all r cs).rig until).rig (passes (takes_all r cs).rig until).answers
    ⊎ IsSwitched oid base now until next (passes (takes_all r cs).rig until).rig (passes (takes_all r cs).rig until).answers) × AreSpoken (max base now) next until (passes (takes_all r cs).rig until).answers
turn_alive oid base every tick next now until clock r cs a told at ahead runs k none limited sound regular still order far =
    let q = (takes_all r cs).rig in
    let left = all_left_of oid clock now r cs a.slot runs a.is told at ahead k none in
    let u = with_timeout a.slot left.0.0 in
    let there : slot_at q oid ≡ Some u = left.0.1 in
    let sampled : (y : Sampling) → a.slot.trigger.sampling ≡ Some y → (y.reason < 2 ^ 8) × ((x : ℕ) → IsTriggerTick (slice_index_or q.pins a.slot.pin []) y x → base ≤ x) =
    (λ y is. ((a.sampled y is).0, λ x hits. (a.sampled y is).1 x (subst (λ (pins : List (List Level)). IsTriggerTick (slice_index_or pins a.slot.pin []) y x) left.1 hits))) in
    let keen = all_keen oid (max base now) next until q u limited.sole there (keen_at oid base now tick next until q a.slot u left.0.0 refl there limited sound (omega (arith, still)) a.reason a.expire sampled a.can) in
    let gone = passes_gone oid (max base now) until next q u far there keen in
    let late = late_passes oid until a.next q u there regular (omega (arith, still, order)) a.report in
    let x = late.0 in
    let off = gone.0 in
    let p = passes q until in
    (by p.rig p.answers x off late.1 gone.1 off.slot.trigger.can refl, gone.2)
  where
    by : (p : Rig) (answers : List Cmd) (x : IsReported oid until a.next a.slot.trigger.every a.slot.trigger.can p answers) (off : IsOff oid (max base now) until next a.slot.trigger.can p answers) → until ≤ x.next → AllKeen (max base now) next until p → (b : Bool) → off.slot.trigger.can ≡ b
        → StaysAlive oid base every now until a.next p answers ⊎ IsSwitched oid base now until next p answers
    by p answers x off due keen false e =
        let z = off.told a.can e in
        let low = z.1 in
        inr (record { fired = record { slot = off.slot; is = off.is; fired = e }; at = z.0; begun = omega (arith, low); late = omega (arith, low); early = z.2; before = z.3; told = z.4 })
    by p answers x off due keen true e =
        let same : off.slot ≡ x.slot = one_slot (slot_at p oid) off.slot x.slot off.is x.is in
        let can : x.slot.trigger.can ≡ true = ap (λ (s : Slot). s.trigger.can) (sym same) ∙ e in
        let k = keen oid x.slot x.is in
        let due_begun = a.begun in
        let due_now = a.due in
        let begun : base ≤ x.next = elim x.told [ inl s ↦ omega (arith, s, due_begun) | inr z ↦ (let low = z.1 in let sum = z.3 in omega (arith, low, sum, due_begun)) ] in
        inl (record {
          alive = record {
            slot = x.slot;
            is = x.is;
            can = can;
            every_is = x.every_is ∙ a.every_is;
            next = x.next;
            report = x.report_is;
            due = due;
            begun = begun;
            reason = k.reason;
            expire = k.expire;
            sampled = λ y is. ((k.sampled y is).0, λ t hits. (let l = (k.sampled y is).1 t hits in omega (arith, l)));
          };
          told = elim x.told [
            | inl s ↦ inl s
            | inr z ↦ inr (z.0, (let low = z.1 in omega (arith, low, due_begun)), (let low = z.1 in omega (arith, low, due_now)), z.2, ap (λ (n : ℕ). z.0 + n) (sym a.every_is) ∙ z.3, z.4 can)
          ];
        })

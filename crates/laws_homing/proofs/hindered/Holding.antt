-- A board's trigger over commands that start none: it stays there, and keeps what no such command takes from it.
use Rattle.std.proofs.Common.{◌≡◌, ◌⊎◌, inl, inr, ℕ, ◌+◌, ◌<◌, ◌≤◌, Bool, true, false, List, [], ◌∷◌, get_or, set, Option, Some, None, refl, ap, sym, ◌∙◌, subst, arith}
use Rattle.std.specs.Prelude.{nat_lt, ◌==◌, if◌then◌else◌}
use Rattle.laws_board.proofs.Names.{get_or-set_same, Level, BoardState, Running, Shut, nearest, Trigger, Happening, Cmd, Rig, Slot, acts_running, becomes, expires_at_once, passes, set_timeout, slot_at, takes, takes_all, AllSound, one_slot, slot_range}
use Rattle.board_trig.specs.declared.trigger.Happening.TheVariants as happening
use Rattle.board_trig.specs.Trigger as trig
use Rattle.msg_code.specs.declared.cmd.Cmd.TheVariants as cmd
use Rattle.board_sim.specs.Rig.{make_trigger, start_trigger}
use Rattle.board_sim.proofs.RigTicks.{takes_rig_tick}
use Rattle.board_sim.proofs.Sound.{sound_regular}
use Rattle.laws_homing.specs.clear_groups.Resting.{EachTame, IsTame}
use Rattle.laws_homing.proofs.home_runs.Staging.{HasSlot}
use Rattle.laws_homing.proofs.clear_boards.Alive.{late_passes}
use Rattle.laws_homing.proofs.clear_groups.SetUp.{report_at}
use Rattle.laws_homing.proofs.clear_boards.Slots.{Beside, Follows, Lasts, MakesNone, OfEach, levels_at, passes_beside, passes_each, running_beside, running_each}
use Rattle.laws_homing.proofs.clear_groups.Plain.{none_some}

-- the trigger with an object id stands here, and this holds of it
pub record Holds (j : ℕ) (M : Trigger → Type 0) (r : Rig) : Type 0 where
  pub slot : Slot
  pub is : slot_at r j ≡ Some slot
  pub so : M slot.trigger

pub put_holds : (j : ℕ) (M : Trigger → Type 0) (r q : Rig) (u s : Slot) → q.triggers ≡ set r.triggers j (Some u) → slot_at r j ≡ Some s → M u.trigger → Holds j M q
put_holds j M r q u s e is so =
    record { slot = u; is = ap (λ (xs : List (Option Slot)). get_or xs j None) e ∙ get_or-set_same r.triggers j (Some u) None (slot_range r.triggers j s is); so = so }

-- at a tick each of some commands is of a kind
abbrev pub AllFit : (ℕ → Cmd → Type 0) → ℕ → List Cmd → Type 0
AllFit Fits now [] = Unit {0}
AllFit Fits now (c ∷ cs) = Fits now c × AllFit Fits now cs

-- of each trigger, of which only the one with this object id counts
abbrev pub Own : ℕ → (Trigger → Type 0) → (List (List Level) → ℕ → Slot → Type 0)
Own j M pins oid s = oid ≡ j → M s.trigger

own_each : (j : ℕ) (M : Trigger → Type 0) (r : Rig) → Holds j M r → OfEach (Own j M) r
own_each j M r h oid s at own = subst (λ (z : Slot). M z.trigger) (one_slot (slot_at r j) h.slot s h.is (subst (λ (n : ℕ). slot_at r n ≡ Some s) own at)) h.so

holds_each : (j : ℕ) (M : Trigger → Type 0) (L : Type 0) (r q : Rig) → Beside L r q → Holds j M r → OfEach (Own j M) q → Holds j M q
holds_each j M L r q beside h all = let u = beside.3 j h.slot h.is in record { slot = u.0; is = u.1; so = all j u.0 u.1 refl }

-- a command that starts none, is of a kind, and makes none where one stands
abbrev pub Others : ℕ → (ℕ → Cmd → Type 0) → (ℕ → Cmd → Type 0)
Others j Fits now (cmd.ConfigTrsync oid) = oid ≡ j → ⊥
Others j Fits now c = IsTame c × Fits now c

-- something that no such command takes from it
module _ (j : ℕ) (M : Trigger → Type 0) (Fits : ℕ → Cmd → Type 0) (f : Follows (Own j M) (Others j Fits)) where
  other_holds : (o : BoardState) (r : Rig) (c : Cmd) → Others j Fits r.controller.tick c → Holds j M r → Holds j M (acts_running o r c).rig
  other_holds o r c fit h = holds_each j M (MakesNone c) r (acts_running o r c).rig (running_beside o r c) h (running_each (Own j M) (Others j Fits) f o r c fit (own_each j M r h))

  make_holds : (r : Rig) (oid : ℕ) (o : Option Slot) → slot_at r oid ≡ o → Holds j M r → Holds j M (make_trigger r oid (slot_at r oid))
  make_holds r oid None e h = other_holds Running r (cmd.ConfigTrsync oid) (λ same. none_some (slot_at r j) h.slot (subst (λ (n : ℕ). slot_at r n ≡ None) same e) h.is) h
  make_holds r oid (Some s) e h = subst (λ (o : Option Slot). Holds j M (make_trigger r oid o)) (sym e) h

  running_holds : (o : BoardState) (r : Rig) (c : Cmd) → IsTame c → Fits r.controller.tick c → Holds j M r → Holds j M (acts_running o r c).rig
  running_holds (Shut reason at first) r c tame fit h = record { slot = h.slot; is = h.is; so = h.so }
  running_holds Running r (cmd.ConfigTrsync oid) tame fit h = make_holds r oid (slot_at r oid) refl h
  running_holds Running r c tame fit h = other_holds Running r c (tame, fit) h

  -- so over commands
  pub tame_holds : (r : Rig) (cs : List Cmd) → EachTame cs → AllFit Fits r.controller.tick cs → Holds j M r → Holds j M (takes_all r cs).rig
  tame_holds r [] tame fit h = h
  tame_holds r (c ∷ cs) tame fit h =
      tame_holds (takes r c).rig cs tame.1 (subst (λ (n : ℕ). AllFit Fits n cs) (sym (takes_rig_tick r c)) fit.1) (running_holds r.controller.state r c tame.0 fit.0 h)

-- of any kind
abbrev Any : ℕ → Cmd → Type 0
Any now c = Unit {0}

fit_any : (now : ℕ) (cs : List Cmd) → AllFit Any now cs
fit_any now [] = tt
fit_any now (c ∷ cs) = (tt, fit_any now cs)

-- its next report, and how often it reports
abbrev pub Due : ℕ → ℕ → Trigger → Type 0
Due every next t = (t.every ≡ every) × (t.report ≡ Some next)

follows_due : (j every next : ℕ) → Follows (Own j (Due every next)) (Others j Any)
follows_due j every next = record {
  made = λ pins now oid fit own. absurd (fit own);
  starts = λ pins now oid s clock often reason fit k. absurd fit.0;
  limits = λ pins now oid s clock fit can ahead k own. ((k own).0, (k own).1);
  expires = λ pins now oid s clock fit can past k own. ((k own).0, (k own).1);
  says = λ pins oid s n e k own. ((k own).0, (k own).1);
  fires = λ pins now oid s reason fit can k own. ((k own).0, (k own).1);
  binds = λ pins now oid s i fit k own. k own;
  homes = λ pins now oid s i pin g fit k own. ((k own).0, (k own).1);
}

-- where it can trigger, it has a timeout
abbrev pub Limits : Trigger → Type 0
Limits t = t.can ≡ true → (x : ℕ) × (t.timeout ≡ Some x)

pub not_can : (b : Bool) → b ≡ false → b ≡ true → ⊥
not_can true e f = cc
not_can false e f = cc

sets_limits : (can early : Bool) (now at : ℕ) (t : Trigger) → t.can ≡ can → Limits (if can then (if early then record t { timeout = Some at } else record (trig.fired now t.expire t) { untold = Some now }) else t)
sets_limits true true now at t e = λ can. (at, refl)
sets_limits true false now at t e = λ can. absurd (not_can false refl can)
sets_limits false early now at t e = λ can. absurd (not_can t.can e can)

follows_limits : (j : ℕ) → Follows (Own j Limits) (Others j Any)
follows_limits j = record {
  made = λ pins now oid fit own. absurd (fit own);
  starts = λ pins now oid s clock every reason fit k. absurd fit.0;
  limits = λ pins now oid s clock fit can ahead k own on. (nearest now clock, refl);
  expires = λ pins now oid s clock fit can past k own on. absurd (not_can false refl on);
  says = λ pins oid s n e k own on. k own on;
  fires = λ pins now oid s reason fit can k own on. absurd (not_can false refl on);
  binds = λ pins now oid s i fit k own. k own;
  homes = λ pins now oid s i pin g fit k own on. k own on;
}

comes_limits : (levels : List Level) (until : ℕ) (t : Trigger) (e : Happening) → Limits t → Limits (trig.happened levels until e t).trigger
comes_limits levels until t (happening.Expires at) k = λ can. absurd (not_can false refl can)
comes_limits levels until t (happening.Switches at) k = λ can. absurd (not_can false refl can)
comes_limits levels until t c k = λ can. k can

module _ (j : ℕ) where
  pub takes_due : (every next : ℕ) (r : Rig) (cs : List Cmd) → EachTame cs → Holds j (Due every next) r → Holds j (Due every next) (takes_all r cs).rig
  takes_due every next r cs tame h = tame_holds j (Due every next) Any (follows_due j every next) r cs tame (fit_any r.controller.tick cs) h

  pub takes_limits : (r : Rig) (cs : List Cmd) → EachTame cs → Holds j Limits r → Holds j Limits (takes_all r cs).rig
  takes_limits r cs tame h = tame_holds j Limits Any (follows_limits j) r cs tame (fit_any r.controller.tick cs) h

  -- over a stretch of time
  pub passes_holds : (M : Trigger → Type 0) (until : ℕ) → Lasts (Own j M) until → (r : Rig) → Holds j M r → Holds j M (passes r until).rig
  passes_holds M until l r h = holds_each j M (Unit {0}) r (passes r until).rig (passes_beside until r) h (passes_each (Own j M) until l r (own_each j M r h))

  pub passes_limits : (r : Rig) (until : ℕ) → Holds j Limits r → Holds j Limits (passes r until).rig
  passes_limits r until h =
      passes_holds Limits until (record { comes = λ pins oid s e next k own. comes_limits (levels_at pins s) until s.trigger e (k own); says = λ pins oid s n e k own on. k own on }) r h

  -- It reports every so many ticks, the next time from a tick on, and no later than a tick or so many ticks behind the first one.
  pub record Reports (base every now : ℕ) (r : Rig) : Type 0 where
    pub slot : Slot
    pub is : slot_at r j ≡ Some slot
    pub every_is : slot.trigger.every ≡ every
    pub next : ℕ
    pub report : slot.trigger.report ≡ Some next
    pub due : now ≤ next
    pub soon : (next ≤ base) ⊎ (next ≤ now + every)

  pub passes_reports : (base every next until : ℕ) (r : Rig) → Holds j (Due every next) r → AllSound r → r.controller.tick ≤ until → (next ≤ base) ⊎ (next ≤ until + every) → Reports base every until (passes r until).rig
  passes_reports base every next until r h sound order soon =
      let x = late_passes j until next r h.slot h.is (sound_regular r sound) order h.so.1 in
      let same = h.so.0 in
      record {
        slot = x.0.slot;
        is = x.0.is;
        every_is = x.0.every_is ∙ h.so.0;
        next = x.0.next;
        report = x.0.report_is;
        due = x.1;
        soon = elim x.0.told [
          | inl old ↦ elim soon [ inl l ↦ inl (omega (arith, old, l)) | inr l ↦ inr (omega (arith, old, l)) ]
          | inr z ↦ (let low = z.2 in let sum = z.3 in inr (omega (arith, low, sum, same)))
        ];
      }

  -- as it is started, before its first report
  pub start_holds : (base clock every reason : ℕ) (r : Rig) → r.controller.state ≡ Running → HasSlot j r → nearest r.controller.tick clock ≡ base → r.controller.tick ≤ base → 0 < every
      → Holds j (Due every base) (takes r (cmd.TrsyncStart j clock every reason)).rig
  start_holds base clock every reason r runs h near order some =
      subst (λ (o : BoardState). Holds j (Due every base) (acts_running o r (cmd.TrsyncStart j clock every reason)).rig) (sym runs)
      (subst (λ (o : Option Slot). Holds j (Due every base) (start_trigger r j o clock every reason)) (sym h.is)
      (let t = trig.started r.controller.tick clock every reason h.slot.trigger in
      put_holds j (Due every base) r (becomes r j h.slot t) (record h.slot { trigger = t }) h.slot refl h.is (refl, report_at (every == 0) r.controller.tick (nearest r.controller.tick clock) base every refl near order some)))

  -- and as its timeout is set
  pub set_holds_limits : (oid clock : ℕ) (r : Rig) → oid ≡ j → r.controller.state ≡ Running → HasSlot j r → Holds j Limits (takes r (cmd.TrsyncSetTimeout oid clock)).rig
  set_holds_limits oid clock r same runs h =
      subst (λ (n : ℕ). Holds j Limits (takes r (cmd.TrsyncSetTimeout n clock)).rig) (sym same)
      (subst (λ (o : BoardState). Holds j Limits (acts_running o r (cmd.TrsyncSetTimeout j clock)).rig) (sym runs)
      (subst (λ (o : Option Slot). Holds j Limits (set_timeout r j o clock).rig) (sym h.is)
      (let t = trig.with_timeout r.controller.tick clock h.slot.trigger in
      by t.untold t (sets_limits h.slot.trigger.can (nat_lt r.controller.tick (nearest r.controller.tick clock)) r.controller.tick (nearest r.controller.tick clock) h.slot.trigger refl))))
    where
      by : (o : Option ℕ) (t : Trigger) → Limits t → Holds j Limits (expires_at_once r j h.slot t o).rig
      by None t d = put_holds j Limits r (becomes r j h.slot t) (record h.slot { trigger = t }) h.slot refl h.is d
      by (Some at) t d = put_holds j Limits r (becomes r j h.slot (record t { untold = None })) (record h.slot { trigger = record t { untold = None } }) h.slot refl h.is (λ can. d can)

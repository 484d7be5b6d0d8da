-- A trigger that triggers at no tick before one: neither by its timeout, nor by its readings, nor as it is told to.
use Rattle.std.proofs.Common.{◌≡◌, ◌⊎◌, inl, inr, ℕ, zero, suc, ◌-◌, ◌<◌, ◌≤◌, Bool, true, false, List, [], ◌∷◌, Option, Some, None, refl, sym, subst, arith}
use Rattle.std.specs.Prelude.{◌==◌, if◌then◌else◌}
use Rattle.laws_board.proofs.Names.{Level, BoardState, Running, nearest, Sampling, Trigger, Happening, Nothing, Expires, Switches, Reports, Cmd, Rig, Slot, acts_running, becomes, passes, slot_at, takes, takes_all}
use Rattle.board_trig.specs.declared.sampling.Homing.{Homing as Reading}
use Rattle.board_trig.specs.Sampling.{IsTriggerTick, completes, group, group_behind, has_failed, pressed, reading_tick, sampled, sampled_to}
use Rattle.board_trig.specs.Trigger as trig
use Rattle.msg_code.specs.declared.cmd.Cmd.TheVariants as cmd
use Rattle.board_sim.specs.Rig.{start_trigger}
use Rattle.laws_homing.specs.clear_groups.Resting.{EachTame}
use Rattle.laws_homing.proofs.clear_boards.Slots.{Follows, Next, levels_at}
use Rattle.laws_homing.proofs.home_runs.Moments.{report_from}
use Rattle.laws_homing.proofs.home_runs.Staging.{HasSlot}
use Rattle.laws_homing.proofs.hindered.Holding.{AllFit, Holds, Others, Own, passes_holds, put_holds, tame_holds}

-- at a tick a command sets a timeout and begins readings for a tick from one on, and tells a trigger to trigger from that tick on
abbrev pub Fits : (base now : ℕ) → Cmd → Type 0
Fits base now (cmd.TrsyncSetTimeout oid clock) = (base ≤ now) ⊎ (base ≤ nearest now clock)
Fits base now (cmd.TrsyncTrigger oid reason) = base ≤ now
Fits base now (cmd.EndstopHome oid clock sample count rest value other reason) = (base ≤ now) ⊎ (base ≤ nearest now clock)
Fits base now c = Unit {0}

-- from that tick on all commands do
late_fits : (base now : ℕ) → base ≤ now → (c : Cmd) → Fits base now c
late_fits base now late (cmd.TrsyncSetTimeout oid clock) = inl late
late_fits base now late (cmd.TrsyncTrigger oid reason) = late
late_fits base now late (cmd.EndstopHome oid clock sample count rest value other reason) = inl late
late_fits base now late c = tt

pub all_late : (base now : ℕ) → base ≤ now → (cs : List Cmd) → AllFit (Fits base) now cs
all_late base now late [] = tt
all_late base now late (c ∷ cs) = (late_fits base now late c, all_late base now late cs)

-- groups of readings come one behind the other
behind_at : (s : Sampling) (k : ℕ) → s.at ≤ (group_behind s k).at
behind_at s k = omega arith

group_at : (n : ℕ) (levels : List Level) (s : Sampling) → s.at ≤ (group levels s n).at
group_at zero levels s = omega arith
group_at (suc n) levels s = let next = behind_at s (pressed levels s) in let rest = group_at n levels (group_behind s (pressed levels s)) in omega (arith, next, rest)

sampled_at : (n : ℕ) (levels : List Level) (until : ℕ) (s : Sampling) → s.at ≤ (sampled n levels until s).at
sampled_at zero levels until s = omega arith
sampled_at (suc n) levels until s = by (has_failed levels until s) (let next = behind_at s (pressed levels s) in let rest = sampled_at n levels until (group_behind s (pressed levels s)) in omega (arith, next, rest))
  where
    by : (b : Bool) → s.at ≤ (sampled n levels until (group_behind s (pressed levels s))).at → s.at ≤ (if b then sampled n levels until (group_behind s (pressed levels s)) else s).at
    by true l = l
    by false l = omega arith

trigger_at : (levels : List Level) (s : Sampling) (tick : ℕ) → IsTriggerTick levels s tick → s.at ≤ tick
trigger_at levels s tick is =
    let at = group_at is.number levels s in
    let last = is.last in
    let on : (group levels s is.number).at ≤ reading_tick (group levels s is.number) (s.count - 1) = omega arith in
    omega (arith, at, last, on)

-- they begin no sooner than now, and than the tick that is asked for
some_rest : (b : Bool) (g : Reading) → (g.rest_ticks == 0) ≡ b → ((if b then 1 else g.rest_ticks) == 0) ≡ false
some_rest true g e = refl
some_rest false g e = e

-- it can't trigger since a tick from this one on, and its timeout and its readings are at such ticks
pub record Since (base : ℕ) (t : Trigger) : Type 0 where
  pub fired : t.can ≡ false → base ≤ t.tick
  pub timed : (x : ℕ) → t.timeout ≡ Some x → base ≤ x
  pub reads : (y : Sampling) → t.sampling ≡ Some y → base ≤ y.at

module _ (base : ℕ) where
  abbrev M : Trigger → Type 0
  M t = Since base t

  fired_since : (now reason : ℕ) (t : Trigger) → base ≤ now → M (trig.fired now reason t)
  fired_since now reason t late = record { fired = λ off. late; timed = λ x is. absurd (cc); reads = λ y is. absurd (cc) }

  -- as time passes
  ended_at : (o : Option ℕ) (s y : Sampling) → trig.ended o s ≡ Some y → base ≤ s.at → base ≤ y.at
  ended_at None s y e l = let same : s ≡ y = cc in subst (λ (z : Sampling). base ≤ z.at) same l
  ended_at (Some tick) s y e l = absurd (cc)

  read_at : (o : Option Sampling) (levels : List Level) (until : ℕ) → ((y : Sampling) → o ≡ Some y → base ≤ y.at) → (y : Sampling) → trig.read_to levels until o ≡ Some y → base ≤ y.at
  read_at None levels until k y e = absurd (cc)
  read_at (Some s) levels until k y e =
      let low = k s refl in
      let up = sampled_at until levels until s in
      ended_at (completes levels until s) (sampled_to levels until s) y e (omega (arith, low, up))

  comes_since : (levels : List Level) (until : ℕ) (t : Trigger) (e : Happening) → Next levels until t e → M t → M (trig.happened levels until e t).trigger
  comes_since levels until t Nothing next k = record { fired = k.fired; timed = k.timed; reads = read_at t.sampling levels until k.reads }
  comes_since levels until t (Expires at) next k = fired_since at t.expire t (k.timed at next.comes.0)
  comes_since levels until t (Switches at) next k =
      let is = next.comes.0 in
      let low = k.reads is.0 is.2 in
      let up = trigger_at levels is.0 at is.3 in
      fired_since at (trig.reason_of t.sampling) t (omega (arith, low, up))
  comes_since levels until t (Reports at) next k = record { fired = k.fired; timed = k.timed; reads = k.reads }

  told_since : (t : Trigger) → M t → M (record t { untold = None })
  told_since t k = record { fired = k.fired; timed = k.timed; reads = k.reads }

  pub passes_since : (j : ℕ) (r : Rig) (until : ℕ) → Holds j M r → Holds j M (passes r until).rig
  passes_since j r until h =
      passes_holds j M until (record { comes = λ pins oid s e next k own. comes_since (levels_at pins s) until s.trigger e next (k own); says = λ pins oid s n e k own. told_since s.trigger (k own) }) r h

  -- as a command is taken
  limits_since : (now at : ℕ) (t : Trigger) → (base ≤ now) ⊎ (base ≤ at) → now < at → M t → M (record t { timeout = Some at })
  limits_since now at t fit ahead k =
      let far : base ≤ at = elim fit [ inl l ↦ omega (arith, l, ahead) | inr l ↦ l ] in
      record { fired = k.fired; timed = λ x is. (let same : at ≡ x = cc in omega (arith, same, far)); reads = k.reads }

  expires_since : (now at : ℕ) (t : Trigger) → (base ≤ now) ⊎ (base ≤ at) → at ≤ now → M (record (trig.fired now t.expire t) { untold = None })
  expires_since now at t fit past =
      let late : base ≤ now = elim fit [ inl l ↦ l | inr l ↦ omega (arith, l, past) ] in
      record { fired = λ off. late; timed = λ x is. absurd (cc); reads = λ y is. absurd (cc) }

  begun_at : (b : Bool) (now : ℕ) (g : Reading) (y : Sampling) → (base ≤ now) ⊎ (base ≤ nearest now g.clock)
      → (if b then None else Some (record { at = trig.first_from now (nearest now g.clock) (trig.least_rest g); sample = g.sample_ticks; count = g.sample_count; rest = trig.least_rest g; value = g.pin_value == 1; reason = g.reason })) ≡ Some y → base ≤ y.at
  begun_at true now g y fit e = absurd (cc)
  begun_at false now g y fit e =
      let at = trig.first_from now (nearest now g.clock) (trig.least_rest g) in
      let z : Sampling = record { at = at; sample = g.sample_ticks; count = g.sample_count; rest = trig.least_rest g; value = g.pin_value == 1; reason = g.reason } in
      let same : z ≡ y = cc in
      let late : now ≤ at = report_from false now g.clock (trig.least_rest g) at (some_rest (g.rest_ticks == 0) g refl) refl in
      let far : nearest now g.clock ≤ at = first_on now (nearest now g.clock) (trig.least_rest g) in
      let low : base ≤ at = elim fit [ inl l ↦ omega (arith, l, late) | inr l ↦ omega (arith, l, far) ] in
      subst (λ (s : Sampling). base ≤ s.at) same low
    where
      first_on : (now tick step : ℕ) → tick ≤ trig.first_from now tick step
      first_on now tick step = omega arith

  follows_since : (j : ℕ) → Follows (Own j M) (Others j (Fits base))
  follows_since j = record {
    made = λ pins now oid fit own. absurd (fit own);
    starts = λ pins now oid s clock every reason fit k. absurd fit.0;
    limits = λ pins now oid s clock fit can ahead k own. limits_since now (nearest now clock) s.trigger fit.1 ahead (k own);
    expires = λ pins now oid s clock fit can past k own. expires_since now (nearest now clock) s.trigger fit.1 past;
    says = λ pins oid s n e k own. told_since s.trigger (k own);
    fires = λ pins now oid s reason fit can k own. fired_since now reason s.trigger fit.1;
    binds = λ pins now oid s i fit k own. k own;
    homes = λ pins now oid s i pin g fit k own. (let x = k own in record { fired = x.fired; timed = x.timed; reads = λ y is. begun_at (g.sample_count == 0) now g y fit.1 is });
  }

  pub takes_since : (j : ℕ) (r : Rig) (cs : List Cmd) → EachTame cs → AllFit (Fits base) r.controller.tick cs → Holds j M r → Holds j M (takes_all r cs).rig
  takes_since j r cs tame fit h = tame_holds j M (Fits base) (follows_since j) r cs tame fit h

  -- and as it is started, where nothing is read for it
  pub start_since : (j clock every reason : ℕ) (r : Rig) → r.controller.state ≡ Running → HasSlot j r → ((s : Slot) → slot_at r j ≡ Some s → (y : Sampling) → s.trigger.sampling ≡ Some y → ⊥) → Holds j M (takes r (cmd.TrsyncStart j clock every reason)).rig
  start_since j clock every reason r runs h none =
      subst (λ (o : BoardState). Holds j M (acts_running o r (cmd.TrsyncStart j clock every reason)).rig) (sym runs)
      (subst (λ (o : Option Slot). Holds j M (start_trigger r j o clock every reason)) (sym h.is)
      (let t = trig.started r.controller.tick clock every reason h.slot.trigger in
      put_holds j M r (becomes r j h.slot t) (record h.slot { trigger = t }) h.slot refl h.is (record { fired = λ off. absurd (cc); timed = λ x is. absurd (cc); reads = λ y is. absurd (none h.slot h.is y is) })))

-- A trigger triggers at the first tick at which its readings are complete, or not after it, as time passes and commands come.
use Rattle.std.proofs.Common.{◌≡◌, ℕ, ◌≤◌, Bool, true, false, List, [], ◌∷◌, Option, Some, None, refl, ap, sym, ◌∙◌, subst, arith, ◌⊎◌, inl, inr}
use Rattle.std.specs.Prelude.{slice_index_or}
use Rattle.laws_board.proofs.Names.{Level, Running, Sampling, Trigger, Happening, Nothing, Expires, Switches, Reports, Cmd, Rig, Slot, acts, passes, slot_at, takes_all, one_slot, no_both}
use Rattle.board_trig.specs.Trigger as trig
use Rattle.board_trig.specs.Sampling.{IsTriggerTick, completes, sampled_to}
use Rattle.board_trig.specs.Nexts.{IsNextOf, SwitchesAt}
use Rattle.board_trig.proofs.TriggerTicks.{read_back, read_on, triggers}
use Rattle.msg_code.specs.declared.cmd.Cmd.TheVariants as cmd
use Rattle.board_sim.proofs.Halting.{quiet_moves}
use Rattle.laws_homing.specs.clear_boards.Turned.{AreSentBehind, IsSentBehind, Relays, RelaysOne}
use Rattle.laws_board.proofs.clocks.Answers.{Each}
use Rattle.laws_homing.proofs.clear_boards.Slots.{Beside, Follows, Lasts, MakesNone, OfEach, all_beside, passes_beside, passes_each, running_beside, running_each, takes_each, with_trigger}
use Rattle.laws_homing.specs.missed_groups.Minds.{Hits, Minds}
use Rattle.laws_homing.proofs.clear_boards.Firing.{read_reason}

-- nothing happens next
abbrev NoHit : List Level → ℕ → Trigger → Type 0
NoHit levels until t = (x : ℕ) → SwitchesAt levels t x → until ≤ x

-- what is read up to a tick at which nothing is complete
pub read_hits : (levels : List Level) (until : ℕ) (o : Option Sampling) → ((y : Sampling) → o ≡ Some y → (x : ℕ) → IsTriggerTick levels y x → until ≤ x) → (x : ℕ)
    → (Hits levels (trig.read_to levels until o) x → Hits levels o x) × (Hits levels o x → Hits levels (trig.read_to levels until o) x)
read_hits levels until None far x = ((λ h. h), λ h. h)
read_hits levels until (Some y) far x = by (completes levels until y) refl
  where
    by : (o : Option ℕ) → completes levels until y ≡ o → (Hits levels (trig.ended o (sampled_to levels until y)) x → Hits levels (Some y) x) × (Hits levels (Some y) x → Hits levels (trig.ended o (sampled_to levels until y)) x)
    by (Some t) e = let at = triggers levels until y t e in let late = far y refl t at.0 in absurd (omega (arith, late, at.1))
    by None e = (
      λ h. (let same : sampled_to levels until y ≡ h.0 = some_is (sampled_to levels until y) h.0 h.1 in (y, refl, read_on until levels until y x (subst (λ (z : Sampling). IsTriggerTick levels z x) (sym same) h.2))),
      λ h. (let same : y ≡ h.0 = some_is y h.0 h.1 in (sampled_to levels until y, refl, read_back until levels until y x (subst (λ (z : Sampling). IsTriggerTick levels z x) (sym same) h.2))),
    )
      where
        some_is : (a b : Sampling) → Some a ≡ Some b → a ≡ b
        some_is a b e = cc

module _ (T : ℕ → Type 0) (Q : Type 0) (pins : List (List Level)) where
  abbrev M : Slot → Type 0
  M s = Minds T Q pins s

  abbrev Levels : Slot → List Level
  Levels s = slice_index_or pins s.pin []

  -- readings up to a tick
  quiet_minds : (until : ℕ) (s : Slot) → NoHit (Levels s) until s.trigger → M s → M (record s { trigger = (trig.happened (Levels s) until Nothing s.trigger).trigger })
  quiet_minds until s none k =
      let hits : s.trigger.can ≡ true → (x : ℕ) → (Hits (Levels s) (trig.read_to (Levels s) until s.trigger.sampling) x → Hits (Levels s) s.trigger.sampling x) × (Hits (Levels s) s.trigger.sampling x → Hits (Levels s) (trig.read_to (Levels s) until s.trigger.sampling) x) =
      (λ can x. read_hits (Levels s) until s.trigger.sampling (λ y is z at. none z (y, can, is, at)) x) in
      record {
        told = k.told;
        moves = quiet_moves s.trigger.sampling (Levels s) until k.moves;
        idle = k.idle;
        blind = λ not. ap (trig.read_to (Levels s) until) (k.blind not);
        expire = k.expire;
        reads = λ y is. (let o = read_reason s.trigger.sampling (Levels s) until y is in o.2 ∙ k.reads o.0 o.1);
        to = λ can x h. k.to can x ((hits can x).0 h);
        of = λ can x h. (hits can x).1 (k.of can x h);
        fired = k.fired;
      }

  -- what happens to it
  happened_minds : (e : Happening) (until : ℕ) (s : Slot) → IsNextOf (Levels s) until s.trigger e → M s → M (record s { trigger = (trig.happened (Levels s) until e s.trigger).trigger })
  happened_minds Nothing until s next k = quiet_minds until s next.1 k
  happened_minds (Expires at) until s next k = record {
    told = k.told;
    moves = tt;
    idle = λ e. refl;
    blind = λ e. refl;
    expire = k.expire;
    reads = λ y is. absurd (cc);
    to = λ can. absurd (cc);
    of = λ can. absurd (cc);
    fired = λ e. inr (inl k.expire, λ x t. by s.trigger.can refl x t);
  }
    where
      by : (b : Bool) → s.trigger.can ≡ b → (x : ℕ) → T x → at ≤ x
      by true can x t = (let h = k.of can x t in next.2 x (h.0, can, h.1, h.2))
      by false can x t = absurd (let bad : None ≡ Some at = sym (k.idle can) ∙ next.0 in cc)
  happened_minds (Switches at) until s next k =
      let y = next.0.0 in
      let why : trig.reason_of s.trigger.sampling ≡ 1 = ap trig.reason_of next.0.2 ∙ k.reads y next.0.2 in
      record {
        told = k.told;
        moves = tt;
        idle = λ e. refl;
        blind = λ e. refl;
        expire = k.expire;
        reads = λ z is. absurd (cc);
        to = λ can. absurd (cc);
        of = λ can. absurd (cc);
        fired = λ e. inl (why, k.to next.0.1 at (y, next.0.2, next.0.3));
      }
  happened_minds (Reports at) until s next k = record { told = k.told; moves = k.moves; idle = k.idle; blind = k.blind; expire = k.expire; reads = k.reads; to = k.to; of = k.of; fired = k.fired }

-- a trigger of a board
pub record Minded (oid : ℕ) (T : ℕ → Type 0) (Q : Type 0) (r : Rig) : Type 0 where
  pub slot : Slot
  pub is : slot_at r oid ≡ Some slot
  pub minds : Minds T Q r.pins slot

module _ (oid : ℕ) (T : ℕ → Type 0) (Q : Type 0) where
  abbrev D : Rig → Type 0
  D r = Minded oid T Q r

  abbrev Own : List (List Level) → ℕ → Slot → Type 0
  Own pins i s = i ≡ oid → Minds T Q pins s

  here : (r : Rig) (d : D r) (i : ℕ) (s : Slot) → slot_at r i ≡ Some s → i ≡ oid → d.slot ≡ s
  here r d i s at own = one_slot (slot_at r oid) d.slot s d.is (subst (λ (n : ℕ). slot_at r n ≡ Some s) own at)

  each_minded : (M : Type 0) (r q : Rig) → Beside M r q → D r → OfEach Own q → D q
  each_minded M r q beside d all = let x = beside.3 oid d.slot d.is in record { slot = x.0; is = x.1; minds = all oid x.0 x.1 refl }

  says_minded : (pins : List (List Level)) (s u : Slot) (n : ℕ) → s.trigger.untold ≡ Some n → Minds T Q pins s → Minds T Q pins u
  says_minded pins s u n e k = absurd (let bad : None ≡ Some n = sym k.told ∙ e in cc)

  lasts_minded : (until : ℕ) → Lasts Own until
  lasts_minded until = record {
    comes = λ pins i s e next k own. happened_minds T Q pins e until s (next.whole (k own).moves) (k own);
    says = λ pins i s n e k own. says_minded pins s _ n e (k own);
  }

  pub passes_minded : (until : ℕ) (r : Rig) → D r → D (passes r until).rig
  passes_minded until r d =
      each_minded (Unit {0}) r (passes r until).rig (passes_beside until r) d
      (passes_each Own until (lasts_minded until) r (λ i s at own. subst (λ (u : Slot). Minds T Q r.pins u) (here r d i s at own) d.minds))

  -- commands behind the set-up
  abbrev pub From : List Cmd → Rig → Type 0
  From cs r = (s : Slot) → slot_at r oid ≡ Some s → s.trigger.can ≡ true → ((x : ℕ) → T x → r.controller.tick ≤ x) × (RelaysOne cs → Q)

  fires : (pins : List (List Level)) (now : ℕ) (s : Slot) (reason : ℕ) → ((reason ≡ 2) ⊎ ((reason ≡ 3) × Q)) → Minds T Q pins s → ((x : ℕ) → T x → now ≤ x) → Minds T Q pins (with_trigger s (trig.fired now reason s.trigger))
  fires pins now s reason why k from = record {
    told = k.told;
    moves = tt;
    idle = λ e. refl;
    blind = λ e. refl;
    expire = k.expire;
    reads = λ y is. absurd (cc);
    to = λ can. absurd (cc);
    of = λ can. absurd (cc);
    fired = λ e. inr (why, from);
  }

  -- some of these commands are taken at a tick
  module _ (clock tick : ℕ) (cs : List Cmd) where
    abbrev Fit : ℕ → Cmd → Type 0
    Fit now c = IsSentBehind oid clock c × (Relays c → RelaysOne cs) × (now ≡ tick)

    abbrev Soon : List (List Level) → ℕ → Slot → Type 0
    Soon pins i s = i ≡ oid → Minds T Q pins s × (s.trigger.can ≡ true → ((x : ℕ) → T x → tick ≤ x) × (RelaysOne cs → Q))

    from_at : (now : ℕ) → now ≡ tick → ((x : ℕ) → T x → tick ≤ x) → (x : ℕ) → T x → now ≤ x
    from_at now e from x t = subst (λ (n : ℕ). n ≤ x) (sym e) (from x t)

    follows_minded : Follows Soon Fit
    follows_minded = record {
      made = λ pins now i fit. absurd fit.0;
      starts = λ pins now i s at every reason fit k. absurd fit.0;
      limits = λ pins now i s at fit can ahead k own. (
          let m = (k own).0 in
          (record { told = m.told; moves = m.moves; idle = λ not. absurd (no_both s.trigger.can can not); blind = m.blind; expire = m.expire; reads = m.reads; to = m.to; of = m.of; fired = m.fired }, (k own).1));
      expires = λ pins now i s at fit can past k own. (
          let m = fires pins now s s.trigger.expire (inl (k own).0.expire) (k own).0 (from_at now fit.2 ((k own).1 can).0) in
          (record { told = refl; moves = m.moves; idle = m.idle; blind = m.blind; expire = m.expire; reads = m.reads; to = m.to; of = m.of; fired = m.fired }, λ f. absurd (cc)));
      says = λ pins i s n e k own. (says_minded pins s _ n e (k own).0, (k own).1);
      fires = λ pins now i s reason fit can k own. (fires pins now s reason (inr (fit.0.1, ((k own).1 can).1 (fit.1 tt))) (k own).0 (from_at now fit.2 ((k own).1 can).0), λ f. absurd (cc));
      binds = λ pins now i s stepper fit k. absurd fit.0;
      homes = λ pins now i s endstop pin g fit k. absurd fit.0;
    }

    fit_each : (ds : List Cmd) → (RelaysOne ds → RelaysOne cs) → AreSentBehind oid clock ds → Each (Fit tick) ds
    fit_each [] of k = tt
    fit_each (d ∷ ds) of k = ((k.0, (λ z. of (inl z)), refl), fit_each ds (λ z. of (inr z)) k.1)

  soon_each : (clock : ℕ) (r : Rig) (cs : List Cmd) (d : D r) → (d.slot.trigger.can ≡ true → ((x : ℕ) → T x → r.controller.tick ≤ x) × (RelaysOne cs → Q)) → OfEach (Soon clock r.controller.tick cs) r
  soon_each clock r cs d from i s at own =
      let tick = r.controller.tick in
      subst (λ (u : Slot). Minds T Q r.pins u × (u.trigger.can ≡ true → ((x : ℕ) → T x → tick ≤ x) × (RelaysOne cs → Q))) (here r d i s at own) (d.minds, from)

  pub times_minded : (r : Rig) (clock : ℕ) (d : D r) → (d.slot.trigger.can ≡ true → (x : ℕ) → T x → r.controller.tick ≤ x) → D (acts r (cmd.TrsyncSetTimeout oid clock)).rig
  times_minded r clock d from =
      let c = cmd.TrsyncSetTimeout oid clock in
      let cs = c ∷ [] in
      let tick = r.controller.tick in
      let soon = soon_each clock r cs d (λ can. (from can, λ z. absurd (elim z [ inl e ↦ e | inr e ↦ e ]))) in
      let all = running_each (Soon clock tick cs) (Fit clock tick cs) (follows_minded clock tick cs) Running r c ((refl, refl), (λ z. absurd z), refl) soon in
      each_minded (Unit {0}) r (acts r c).rig (running_beside Running r c) d (λ i s at own. (all i s at own).0)

  all_minded : (clock : ℕ) (r : Rig) (cs : List Cmd) → AreSentBehind oid clock cs → From cs r → D r → D (takes_all r cs).rig
  all_minded clock r cs k from d =
      let tick = r.controller.tick in
      let all = takes_each (Soon clock tick cs) (Fit clock tick cs) (follows_minded clock tick cs) r cs (fit_each clock tick cs cs (λ z. z) k) (soon_each clock r cs d (from d.slot d.is)) in
      each_minded (Each MakesNone cs) r (takes_all r cs).rig (all_beside r cs) d (λ i s at own. (all i s at own).0)

  pub turn_minded : (clock until : ℕ) (r : Rig) (cs : List Cmd) → AreSentBehind oid clock cs → From cs r → D r → D (passes (takes_all r cs).rig until).rig
  turn_minded clock until r cs k from d = passes_minded until (takes_all r cs).rig (all_minded clock r cs k from d)

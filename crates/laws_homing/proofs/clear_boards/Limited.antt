-- A trigger whose timeout is renewed before it passes tells of no expiry.
use Rattle.std.proofs.Common.{◌≡◌, ℕ, suc, ◌<◌, ◌≤◌, Bool, true, false, List, [], ◌∷◌, Option, Some, None, refl, sym, ◌∙◌, subst, arith, ◌⊎◌, inl, inr, ap}
use Rattle.std.specs.Prelude.{if◌then◌else◌, nat_lt}
use Rattle.laws_board.proofs.Names.{leb_tells, Level, BoardState, Running, nearest, Trigger, Happening, Nothing, Expires, Switches, Reports, Cmd, Rig, Slot, acts, acts_running, becomes, expires_at_once, pass, set_timeout, slot_at, takes}
use Rattle.board_trig.specs.Trigger as trig
use Rattle.msg_code.specs.declared.cmd.Cmd.TheVariants as cmd
use Rattle.board_sim.specs.Rig.{trigger}
use Rattle.board_sim.specs.RigRuns.{RigStep, Takes, Passes, rig_after_all}
use Rattle.laws_homing.specs.home_runs.Guards.{IsSole}
use Rattle.laws_homing.specs.clear_boards.Held.{AllFar, AllHeld, AllTellOnly, all_answers}
use Rattle.laws_homing.specs.clear_boards.Limited.{AllFired, AllLimited, AreRenewing, IsLimited, IsRenewing, limit_after, limit_by, limit_of}
use Rattle.laws_homing.proofs.clear_boards.Held.{all_both, limit_held, pass_held, takes_held}
use Rattle.laws_homing.proofs.clear_boards.Slots.{Follows, Lasts, OfEach, pass_each, running_each, set_over}
use Rattle.plan_types.proofs.Facts.{is_less}

-- the triggers of a board, but for what else is on it
abbrev Limits : ℕ → ℕ → Rig → Type 0
Limits oid limit r = IsSole oid r × AllLimited limit r

abbrev Limit : ℕ → ℕ → (List (List Level) → ℕ → Slot → Type 0)
Limit oid limit pins i s = (i ≡ oid) × (s.trigger.timeout ≡ limit_of s.trigger.can limit)

limit_each : (oid limit : ℕ) (r : Rig) → Limits oid limit r → OfEach (Limit oid limit) r
limit_each oid limit r k i s at = (k.0 i s at, k.1 i s at)

each_limit : (oid limit : ℕ) (r : Rig) → OfEach (Limit oid limit) r → Limits oid limit r
each_limit oid limit r all = (λ i s at. (all i s at).0, λ i s at. (all i s at).1)

-- a timeout is set
timed_so : (can early : Bool) (now at limit : ℕ) (s : Slot) → s.trigger.can ≡ can → (can ≡ true → early ≡ true) → s.trigger.timeout ≡ limit_of s.trigger.can limit
    → let t : Trigger = if can then (if early then record s.trigger { timeout = Some at } else record (trig.fired now s.trigger.expire s.trigger) { untold = Some now }) else s.trigger in
    t.timeout ≡ limit_of t.can at
timed_so true true now at limit s e f k = ap (λ (b : Bool). limit_of b at) (sym e)
timed_so true false now at limit s e f k = absurd (let g : false ≡ true = f refl in cc)
timed_so false early now at limit s e f k = k ∙ ap (λ (b : Bool). limit_of b limit) e ∙ ap (λ (b : Bool). limit_of b at) (sym e)

at_once_same : (o : Option ℕ) (r : Rig) (oid : ℕ) (s : Slot) (t : Trigger) → o ≡ None → (expires_at_once r oid s t o).rig ≡ becomes r oid s t
at_once_same None r oid s t e = refl
at_once_same (Some n) r oid s t e = absurd (cc)

untold_so : (can early : Bool) (now at : ℕ) (t : Trigger) → (can ≡ true → early ≡ true) → t.untold ≡ None
    → (if can then (if early then record t { timeout = Some at } else record (trig.fired now t.expire t) { untold = Some now }) else t).untold ≡ None
untold_so true true now at t e k = k
untold_so true false now at t e k = absurd (let g : false ≡ true = e refl in cc)
untold_so false early now at t e k = k

limit_set : (oid limit tick : ℕ) (r : Rig) (o : Option Slot) (clock : ℕ) → slot_at r oid ≡ o → ((s : Slot) → o ≡ Some s → s.trigger.can ≡ true → r.controller.tick < nearest r.controller.tick clock) → AllHeld tick r → Limits oid limit r → Limits oid (nearest r.controller.tick clock) (set_timeout r oid o clock).rig
limit_set oid limit tick r None clock e less all k = none_limits oid limit (nearest r.controller.tick clock) r e k
  where
    none_limits : (oid old limit : ℕ) (r : Rig) → slot_at r oid ≡ None → Limits oid old r → Limits oid limit r
    none_limits oid old limit r e k =
        (k.0, λ i s at. absurd (let At : ℕ → Type 0 = λ n. slot_at r n ≡ Some s in let here : slot_at r oid ≡ Some s = subst At (k.0 i s at) at in let bad : None ≡ Some s = sym e ∙ here in cc))
limit_set oid limit tick r (Some s) clock e less all k =
    let now = r.controller.tick in
    let at = nearest now clock in
    let t = trig.with_timeout now clock s.trigger in
    let early : s.trigger.can ≡ true → nat_lt now at ≡ true = λ can. is_less now at (less s refl can) in
    let q = (expires_at_once r oid s t t.untold).rig in
    let is : q ≡ becomes r oid s t = at_once_same t.untold r oid s t (untold_so s.trigger.can (nat_lt now at) now at s.trigger early (all oid s e).told) in
    each_limit oid at q (set_over (Limit oid at) r q oid s (record s { trigger = t }) e (ap (λ (x : Rig). x.triggers) is) (ap (λ (x : Rig). x.pins) is) (λ i v d there. absurd (d (k.0 i v there))) (refl, timed_so s.trigger.can (nat_lt now at) now at limit s refl early (k.1 oid s e)))

-- other commands, and time
abbrev Keeps : Cmd → Type 0
Keeps (cmd.TrsyncSetTimeout other clock) = ⊥
Keeps (cmd.ConfigTrsync other) = ⊥
Keeps (cmd.TrsyncStart other clock every reason) = ⊥
Keeps c = Unit {0}

follows_limit : (oid limit : ℕ) → Follows (Limit oid limit) (λ now c. Keeps c)
follows_limit oid limit = record {
  made = λ pins now i fit. absurd fit;
  starts = λ pins now i s clock every reason fit k. absurd fit;
  limits = λ pins now i s clock fit can ahead k. absurd fit;
  expires = λ pins now i s clock fit can past k. absurd fit;
  says = λ pins i s n e k. k;
  fires = λ pins now i s reason fit can k. (k.0, refl);
  binds = λ pins now i s stepper fit k. k;
  homes = λ pins now i s endstop pin g fit k. k;
}

happened_limit : (levels : List Level) (until limit : ℕ) (e : Happening) (t : Trigger) → t.timeout ≡ limit_of t.can limit
    → (trig.happened levels until e t).trigger.timeout ≡ limit_of (trig.happened levels until e t).trigger.can limit
happened_limit levels until limit (Expires at) t k = refl
happened_limit levels until limit (Switches at) t k = refl
happened_limit levels until limit c t k = k

lasts_limit : (oid limit until : ℕ) → Lasts (Limit oid limit) until
lasts_limit oid limit until = record { comes = λ pins i s e next k. (k.0, happened_limit _ until limit e s.trigger k.1); says = λ pins i s n e k. k }

kept_limits : (oid limit : ℕ) (r : Rig) (c : Cmd) → Keeps c → Limits oid limit r → Limits oid limit (acts r c).rig
kept_limits oid limit r c keeps k = each_limit oid limit (acts r c).rig (running_each (Limit oid limit) (λ now a. Keeps a) (follows_limit oid limit) Running r c keeps (limit_each oid limit r k))

pass_limits : (n oid limit : ℕ) (r : Rig) (t : ℕ) → Limits oid limit r → Limits oid limit (pass n r t).rig
pass_limits n oid limit r t k = each_limit oid limit (pass n r t).rig (pass_each (Limit oid limit) t (lasts_limit oid limit t) n r (limit_each oid limit r k))

-- a timeout is later, where a trigger can trigger
later_so : (oid now at : ℕ) (r : Rig) → ((now < at) ⊎ AllFired r) → (s : Slot) → slot_at r oid ≡ Some s → s.trigger.can ≡ true → now < at
later_so oid now at r (inl l) s there can = l
later_so oid now at r (inr f) s there can = absurd (let g : false ≡ true = sym (f oid s there) ∙ can in cc)

-- a command
acts_limits : (oid limit tick : ℕ) (r : Rig) (c : Cmd) → IsRenewing oid r c → AllHeld tick r → Limits oid limit r → Limits oid (limit_by r.controller.tick limit c) (acts r c).rig
acts_limits oid limit tick r (cmd.ConfigTrsync other) n all k = absurd n
acts_limits oid limit tick r (cmd.TrsyncStart other clock every reason) n all k = absurd n
acts_limits oid limit tick r (cmd.TrsyncSetTimeout other clock) n all k =
    let At : ℕ → Type 0 = λ i. Limits oid (nearest r.controller.tick clock) (set_timeout r i (slot_at r i) clock).rig in
    subst At (sym n.0) (limit_set oid limit tick r (slot_at r oid) clock refl (later_so oid r.controller.tick (nearest r.controller.tick clock) r n.1) all k)
acts_limits oid limit tick r (cmd.StepperStopOnTrigger stepper other) n all k = absurd n
acts_limits oid limit tick r (cmd.ConfigEndstop other pin pull) n all k = absurd n
acts_limits oid limit tick r (cmd.EndstopHome other clock sample count rest value trigger reason) n all k = absurd n
acts_limits oid limit tick r c n all k = kept_limits oid limit r c tt k

held_by : (oid tick : ℕ) (r : Rig) (c : Cmd) → r.controller.state ≡ Running → IsRenewing oid r c → AllHeld tick r → AllHeld tick (takes r c).rig × AllTellOnly tick (takes r c).answers
held_by oid tick r (cmd.ConfigTrsync other) runs n all = absurd n
held_by oid tick r (cmd.TrsyncStart other clock every reason) runs n all = absurd n
held_by oid tick r (cmd.TrsyncSetTimeout other clock) runs n all =
    elim n.1 [ inl later ↦ takes_held tick r (cmd.TrsyncSetTimeout other clock) later all | inr fired ↦ limit_held tick r other clock fired all ]
held_by oid tick r (cmd.TrsyncTrigger other reason) runs n all = takes_held tick r (cmd.TrsyncTrigger other reason) n all
held_by oid tick r (cmd.StepperStopOnTrigger stepper other) runs n all = absurd n
held_by oid tick r (cmd.ConfigEndstop other pin pull) runs n all = absurd n
held_by oid tick r (cmd.EndstopHome other clock sample count rest value trigger reason) runs n all = absurd n
held_by oid tick r c runs n all = takes_held tick r c tt all

takes_limits : (oid limit tick : ℕ) (r : Rig) (c : Cmd) → r.controller.state ≡ Running → IsRenewing oid r c → AllHeld tick r → Limits oid limit r → Limits oid (limit_by r.controller.tick limit c) (takes r c).rig
takes_limits oid limit tick r c runs n all k =
    let At : BoardState → Type 0 = λ s. Limits oid (limit_by r.controller.tick limit c) (acts_running s r c).rig in
    subst At (sym runs) (acts_limits oid limit tick r c n all k)

-- no timeout passes
limited_far : (oid tick limit until : ℕ) (r : Rig) → ((until ≤ limit) ⊎ ((limit ≡ tick) ⊎ AllFired r)) → AllLimited limit r → AllFar until tick r
limited_far oid tick limit until r far k i s at x e = by s.trigger.can refl (sym (k i s at) ∙ e)
  where
    by : (b : Bool) → s.trigger.can ≡ b → limit_of b limit ≡ Some x → (until ≤ x) ⊎ (x ≡ tick)
    by true can f = let same : limit ≡ x = cc in elim far [
      | inl l ↦ inl (omega (arith, l, same))
      | inr other ↦ elim other [ inl l ↦ inr (sym same ∙ l) | inr fired ↦ absurd (let g : false ≡ true = sym (fired i s at) ∙ can in cc) ]
    ]
    by false can f = absurd (cc)

pub limits_of : (oid tick limit : ℕ) (r : Rig) → IsLimited oid tick limit r → Limits oid limit r
limits_of oid tick limit r k = (k.sole, k.limited)

pub limited_by : (oid tick limit : ℕ) (r : Rig) → AllHeld tick r → Limits oid limit r → IsLimited oid tick limit r
limited_by oid tick limit r all k = record { sole = k.0; held = all; limited = k.1 }

pub takes_limited : (oid tick limit : ℕ) (r : Rig) (c : Cmd) → r.controller.state ≡ Running → IsRenewing oid r c → IsLimited oid tick limit r
    → IsLimited oid tick (limit_by r.controller.tick limit c) (takes r c).rig × AllTellOnly tick (takes r c).answers
takes_limited oid tick limit r c runs n k =
    let held = held_by oid tick r c runs n k.held in
    (limited_by oid tick (limit_by r.controller.tick limit c) (takes r c).rig held.0 (takes_limits oid limit tick r c runs n k.held (limits_of oid tick limit r k)), held.1)

pub pass_limited : (n oid tick limit : ℕ) (r : Rig) (t : ℕ) → ((t ≤ limit) ⊎ ((limit ≡ tick) ⊎ AllFired r)) → IsLimited oid tick limit r → IsLimited oid tick limit (pass n r t).rig × AllTellOnly tick (pass n r t).answers
pass_limited n oid tick limit r t far k =
    let held = pass_held n tick r t k.held (limited_far oid tick limit t r far k.limited) in
    (limited_by oid tick limit (pass n r t).rig held.0 (pass_limits n oid limit r t (limits_of oid tick limit r k)), held.1)

pub stays_limited : (oid tick limit : ℕ) (steps : List RigStep) (r : Rig) → IsLimited oid tick limit r → AreRenewing oid tick limit r steps
    → IsLimited oid tick (limit_after limit r steps) (rig_after_all steps r) × AllTellOnly tick (all_answers steps r)
stays_limited oid tick limit [] r k n = (k, tt)
stays_limited oid tick limit (Takes c ∷ ss) r k n =
    let one = takes_limited oid tick limit r c n.0 n.1 k in
    let rest = stays_limited oid tick (limit_by r.controller.tick limit c) ss (takes r c).rig one.0 n.2 in
    (rest.0, all_both tick (takes r c).answers (all_answers ss (takes r c).rig) one.1 rest.1)
stays_limited oid tick limit (Passes p t ∷ ss) r k n =
    let one = pass_limited p oid tick limit r t n.0 k in
    let rest = stays_limited oid tick limit ss (pass p r t).rig one.0 n.1 in
    (rest.0, all_both tick (pass p r t).answers (all_answers ss (pass p r t).rig) one.1 rest.1)

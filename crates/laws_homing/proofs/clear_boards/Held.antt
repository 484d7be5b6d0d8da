-- Triggers that expire at one tick only.
use Rattle.std.proofs.Common.{◌≡◌, ℕ, zero, suc, ◌≤◌, ◌==◌, Bool, true, false, List, [], ◌∷◌, length, Option, Some, None, refl, sym, ◌∙◌, arith, ◌⊎◌, inl, inr, ◌^◌, ap, ◌%◌, ◌++◌, rules}
use Rattle.std.specs.Prelude.{if◌then◌else◌}
use Rattle.laws_board.proofs.Names.{Level, nearest, Sampling, Trigger, Happening, Nothing, Expires, Switches, Reports, Cmd, Rig, Slot, takes, pass}
use Rattle.board_trig.specs.declared.sampling.Homing.{Homing}
use Rattle.board_trig.specs.Sampling.{sampled_to, completes, group_behind, has_failed, pressed, sampled}
use Rattle.board_trig.specs.Trigger as trig
use Rattle.board_trig.specs.Nexts.{ExpiresAt}
use Rattle.msg_code.specs.declared.cmd.Cmd.TheVariants as cmd
use Rattle.board_sim.specs.Rig.{tell}
use Rattle.board_sim.specs.RigRuns.{RigStep, Takes, Passes}
use Rattle.board_sim.proofs.Halting.{sampling_moves, quiet_moves}
use Rattle.laws_board.proofs.clocks.Answers.{Each}
use Rattle.laws_homing.specs.clear_boards.Held.{AllFar, AllHeld, AllTellOnly, AreFit, IsFitCommand, IsTriggerHeld, TellsOnly, all_answers}
use Rattle.laws_homing.specs.clear_boards.Limited.{AllFired}
use Rattle.laws_homing.specs.clear_boards.Turned.{SetsTimeout}
use Rattle.laws_homing.proofs.clear_boards.Slots.{Follows, Lasts, Next, Tells, levels_at, pass_both, takes_both, with_trigger}
use Rattle.laws_homing.proofs.home_runs.Saying.{IsOther, bit_none}
pub use Rattle.board_sim.proofs.Sound.{at_set, rested_is}

-- answers
pub all_both : (tick : ℕ) (xs ys : List Cmd) → AllTellOnly tick xs → AllTellOnly tick ys → AllTellOnly tick (xs ++ ys)
all_both tick [] ys k l = l
all_both tick (x ∷ xs) ys k l = (k.0, all_both tick xs ys k.1 l)

other_tells : (tick : ℕ) (c : Cmd) → IsOther c → TellsOnly tick c
other_tells tick (cmd.TrsyncState oid can reason clock) o = absurd o
other_tells tick c o = tt

each_tells : (tick : ℕ) (cs : List Cmd) → Each (TellsOnly tick) cs → AllTellOnly tick cs
each_tells tick [] k = tt
each_tells tick (c ∷ cs) k = (k.0, each_tells tick cs k.1)

pub others_tell : (tick : ℕ) (cs : List Cmd) → Each IsOther cs → AllTellOnly tick cs
others_tell tick [] o = tt
others_tell tick (c ∷ cs) o = (other_tells tick c o.0, others_tell tick cs o.1)

state_tells : (tick now oid : ℕ) (t : Trigger) → (t.can ≡ false → t.reason ≡ 2 → t.tick ≡ tick) → TellsOnly tick (tell oid (trig.state_at now t))
state_tells tick now oid t k = λ none two.
    (let stopped = bit_none t.can none in
    ap (λ (b : Bool). (if b then now else t.tick) % 2 ^ 32) stopped ∙ ap (λ (n : ℕ). n % 2 ^ 32) (k stopped two))

-- what a command makes of a trigger
sampling_other : (b : Bool) (now : ℕ) (g : Homing) (y : Sampling) → (g.reason ≡ 2 → ⊥)
    → (if b then None else Some (record { at = trig.first_from now (nearest now g.clock) (trig.least_rest g); sample = g.sample_ticks; count = g.sample_count; rest = trig.least_rest g; value = g.pin_value == 1; reason = g.reason })) ≡ Some y → y.reason ≡ 2 → ⊥
sampling_other true now g y n e two = cc
sampling_other false now g y n e two = let same : g.reason ≡ y.reason = cc in n (same ∙ two)

abbrev Held : ℕ → (List (List Level) → ℕ → Slot → Type 0)
Held tick pins oid s = IsTriggerHeld tick s

says_held : (tick : ℕ) (s u : Slot) (n : ℕ) → s.trigger.untold ≡ Some n → IsTriggerHeld tick s → IsTriggerHeld tick u
says_held tick s u n e h = absurd (let bad : None ≡ Some n = sym h.told ∙ e in cc)

follows_held : (tick : ℕ) → Follows (Held tick) IsFitCommand
follows_held tick = search (rules, says_held, sampling_moves, sampling_other)

tells_held : (P : List (List Level) → ℕ → Slot → Type 0) (tick room : ℕ) → ((pins : List (List Level)) (oid : ℕ) (s : Slot) → P pins oid s → IsTriggerHeld tick s) → Tells P room (TellsOnly tick)
tells_held P tick room held = record { own = λ pins oid n s l k. state_tells tick n oid s.trigger (held pins oid s k).expiry; other = other_tells tick }

pub takes_held : (tick : ℕ) (r : Rig) (c : Cmd) → IsFitCommand r.controller.tick c → AllHeld tick r → AllHeld tick (takes r c).rig × AllTellOnly tick (takes r c).answers
takes_held tick r c fit all =
    let both = takes_both (Held tick) (length r.triggers) (TellsOnly tick) (tells_held (Held tick) tick _ (λ pins oid s h. h)) IsFitCommand (follows_held tick) r c (omega arith) fit all in
    (both.0, each_tells tick (takes r c).answers both.2)

-- a timeout is set where no trigger can trigger
abbrev Fell : ℕ → (List (List Level) → ℕ → Slot → Type 0)
Fell tick pins oid s = IsTriggerHeld tick s × (s.trigger.can ≡ false)

sets_held : (tick : ℕ) → Follows (Fell tick) (λ now c. SetsTimeout c)
sets_held tick = search (rules, says_held)

pub limit_held : (tick : ℕ) (r : Rig) (oid clock : ℕ) → AllFired r → AllHeld tick r → let d = takes r (cmd.TrsyncSetTimeout oid clock) in AllHeld tick d.rig × AllTellOnly tick d.answers
limit_held tick r oid clock fired all =
    let c = cmd.TrsyncSetTimeout oid clock in
    let tells = tells_held (Fell tick) tick (length r.triggers) (λ pins i s h. h.0) in
    let both = takes_both (Fell tick) (length r.triggers) (TellsOnly tick) tells (λ now a. SetsTimeout a) (sets_held tick) r c (omega arith) tt (λ i s at. (all i s at, fired i s at)) in
    ((λ i s at. (both.0 i s at).0), each_tells tick (takes r c).answers both.2)

-- readings are for the reason that they were
pub sampled_reason : (n : ℕ) (levels : List Level) (until : ℕ) (s : Sampling) → (sampled n levels until s).reason ≡ s.reason
sampled_reason zero levels until s = refl
sampled_reason (suc n) levels until s = by (has_failed levels until s) (sampled_reason n levels until (group_behind s (pressed levels s)))
  where
    by : (b : Bool) → (sampled n levels until (group_behind s (pressed levels s))).reason ≡ s.reason → (if b then sampled n levels until (group_behind s (pressed levels s)) else s).reason ≡ s.reason
    by true e = e
    by false e = refl

pub ended_reason : (o : Option ℕ) (s y : Sampling) → trig.ended o s ≡ Some y → y.reason ≡ s.reason
ended_reason None s y e = let same : s ≡ y = cc in ap (λ (x : Sampling). x.reason) (sym same)
ended_reason (Some tick) s y e = cc

read_other : (o : Option Sampling) (levels : List Level) (until : ℕ) → ((y : Sampling) → o ≡ Some y → y.reason ≡ 2 → ⊥) → (y : Sampling) → trig.read_to levels until o ≡ Some y → y.reason ≡ 2 → ⊥
read_other None levels until n y e two = cc
read_other (Some s) levels until n y e two =
    n s refl (sym (ended_reason (completes levels until s) (sampled_to levels until s) y e ∙ sampled_reason until levels until s) ∙ two)

-- what happens to a trigger while time passes
abbrev Far : ℕ → ℕ → Trigger → Type 0
Far until tick t = (x : ℕ) → ExpiresAt t x → (until ≤ x) ⊎ (x ≡ tick)

quiet_held : (tick : ℕ) (levels : List Level) (until : ℕ) (s : Slot) → IsTriggerHeld tick s → IsTriggerHeld tick (record s { trigger = (trig.happened levels until Nothing s.trigger).trigger })
quiet_held tick levels until s h = search (rules, quiet_moves, read_other)

pub switch_reason : (o : Option Sampling) (y : Sampling) → o ≡ Some y → trig.reason_of o ≡ y.reason
switch_reason None y e = cc
switch_reason (Some s) y e = let same : s ≡ y = cc in ap (λ (x : Sampling). x.reason) same

-- it is held on, and its timeout is as far
abbrev Kept : ℕ → ℕ → (List (List Level) → ℕ → Slot → Type 0)
Kept tick until pins oid s = IsTriggerHeld tick s × Far until tick s.trigger

happened_held : (tick until : ℕ) (levels : List Level) (e : Happening) (s : Slot) → Next levels until s.trigger e → IsTriggerHeld tick s × Far until tick s.trigger
    → let u = with_trigger s (trig.happened levels until e s.trigger).trigger in IsTriggerHeld tick u × Far until tick u.trigger
happened_held tick until levels Nothing s next k = (quiet_held tick levels until s k.0, k.1)
happened_held tick until levels (Expires at) s next k =
    let low = next.comes.1 in
    let same : at ≡ tick = elim (k.1 at next.comes.0) [ inl late ↦ absurd (omega (arith, late, low)) | inr e ↦ e ] in
    (record { told = k.0.told; moves = tt; other = λ y e. absurd (cc); expiry = λ e two. same }, λ x e. absurd (cc))
happened_held tick until levels (Switches at) s next k =
    let is = next.comes.0 in
    let other : trig.reason_of s.trigger.sampling ≡ 2 → ⊥ = λ two. k.0.other is.0 is.2 (sym (switch_reason s.trigger.sampling is.0 is.2) ∙ two) in
    (record { told = k.0.told; moves = tt; other = λ y e. absurd (cc); expiry = λ e two. absurd (other two) }, λ x e. absurd (cc))
happened_held tick until levels (Reports at) s next k = (record { told = k.0.told; moves = k.0.moves; other = k.0.other; expiry = k.0.expiry }, k.1)

lasts_held : (tick until : ℕ) → Lasts (Kept tick until) until
lasts_held tick until = record { comes = λ pins oid s e next k. happened_held tick until (levels_at pins s) e s next k; says = λ pins oid s n e k. (says_held tick s _ n e k.0, k.1) }

pub pass_held : (n tick : ℕ) (r : Rig) (t : ℕ) → AllHeld tick r → AllFar t tick r → AllHeld tick (pass n r t).rig × AllTellOnly tick (pass n r t).answers
pass_held n tick r t all far =
    let tells = tells_held (Kept tick t) tick (length r.triggers) (λ pins oid s k. k.0) in
    let both = pass_both (Kept tick t) (length r.triggers) (TellsOnly tick) tells t (lasts_held tick t) n r (omega arith) (λ oid s at. (all oid s at, far oid s at)) in
    ((λ oid s at. (both.0 oid s at).0), each_tells tick (pass n r t).answers both.2)

pub all_told : (tick : ℕ) (steps : List RigStep) (r : Rig) → AllHeld tick r → AreFit tick r steps → AllTellOnly tick (all_answers steps r)
all_told tick [] r all fit = tt
all_told tick (Takes c ∷ ss) r all fit =
    let one = takes_held tick r c fit.0 all in
    all_both tick (takes r c).answers (all_answers ss (takes r c).rig) one.1 (all_told tick ss (takes r c).rig one.0 fit.1)
all_told tick (Passes n t ∷ ss) r all fit =
    let one = pass_held n tick r t all fit.0 in
    all_both tick (pass n r t).answers (all_answers ss (pass n r t).rig) one.1 (all_told tick ss (pass n r t).rig one.0 fit.1)

-- Time in which nothing happens to a board's triggers.
use Rattle.std.proofs.Common.{◌≡◌, ℕ, zero, suc, ◌+◌, ◌-◌, ◌<◌, ◌≤◌, ◌++◌, Bool, true, false, List, [], ◌∷◌, map, take, drop, Option, Some, None, refl, ap, sym, ◌∙◌, arith}
use Rattle.std.specs.Prelude.{if◌then◌else◌}
use Rattle.std.proofs.lemmas.List.{take-append-drop}
use Rattle.plan_types.specs.declared.levels.Level.{Level}
use Rattle.board_trig.specs.declared.sampling.Sampling.{Sampling}
use Rattle.board_trig.specs.declared.trigger.Trigger.{Trigger}
use Rattle.board_trig.specs.declared.trigger.Happening.TheVariants.{Nothing}
use Rattle.board_trig.specs.Trigger as trig
use Rattle.board_sim.specs.Board as board
use Rattle.board_sim.specs.Asleep.{AllSleep, Sleeps}
use Rattle.board_sim.specs.Places.{NoneBehind}
use Rattle.board_sim.specs.Rig.{Rig, Slot, Passed, no_objects, moment_in, moment_of, earliest_moment, rested, rests_to, goes_on, at_of, passes_by, happens_at, pass, passes, all_left}
use Rattle.plan_types.proofs.Facts.{is_le}

no_switch : (levels : List Level) (until : ℕ) (can : Bool) (s : Option Sampling) → s ≡ None → trig.switch_before levels until can s ≡ None
no_switch levels until false s e = refl
no_switch levels until true None e = refl
no_switch levels until true (Some s) e = absurd (cc)

next_by : (e s r : Option ℕ) → e ≡ None → s ≡ None → r ≡ None → trig.earliest_happening e s r ≡ Nothing
next_by None None None a b c = refl
next_by (Some e) s r a b c = absurd (cc)
next_by None (Some s) r a b c = absurd (cc)
next_by None None (Some r) a b c = absurd (cc)

asleep_next : (levels : List Level) (until : ℕ) (t : Trigger) → trig.IsAsleep until t → trig.next_happening levels until t ≡ Nothing
asleep_next levels until t h =
    let no = no_switch levels until t.can t.sampling h.sampling in
    let first : trig.or_until until (trig.expiry_of until t) ≡ until = rw h.timeout refl in
    let switch : trig.switch_of levels until t ≡ None = rw first no in
    next_by (trig.expiry_of until t) (trig.switch_of levels until t) (trig.report_of levels until t) h.timeout switch (rw switch (rw first h.report))

asleep_moment : (r : Rig) (until : ℕ) (o : Option Slot) → Sleeps until o → moment_in r until o ≡ None
asleep_moment r until None h = refl
asleep_moment r until (Some s) h = ap (λ h. moment_of h) (asleep_next _ until s.trigger h)

asleep_earliest : (r : Rig) (until oid : ℕ) (ss : List (Option Slot)) → AllSleep until ss → earliest_moment r until oid ss ≡ None
asleep_earliest r until oid [] h = refl
asleep_earliest r until oid (s ∷ ss) h = rw (asleep_moment r until s h.0) (asleep_earliest r until (oid + 1) ss h.1)

unread : (levels : List Level) (until : ℕ) (s : Option Sampling) → s ≡ None → trig.read_to levels until s ≡ s
unread levels until None e = refl
unread levels until (Some s) e = absurd (cc)

asleep_rested : (pins : List (List Level)) (until : ℕ) (o : Option Slot) → Sleeps until o → rested pins until o ≡ o
asleep_rested pins until None h = refl
asleep_rested pins until (Some s) h = ap (λ (y : Option Sampling). Some (record s { trigger = record s.trigger { sampling = y } })) (unread _ until s.trigger.sampling h.sampling)

asleep_rest : (pins : List (List Level)) (until : ℕ) (ss : List (Option Slot)) → AllSleep until ss → map (rested pins until) ss ≡ ss
asleep_rest pins until [] h = refl
asleep_rest pins until (s ∷ ss) h = rw (asleep_rested pins until s h.0) (ap (λ xs. s ∷ xs) (asleep_rest pins until ss h.1))

-- the steppers' board runs on alone
abbrev pub alone : Rig → ℕ → Passed
alone r t = let p = board.passes r.controller t in record { rig = record r { controller = p.board }; pulses = p.pulses; answers = [] }

asleep_pass : (n : ℕ) (r : Rig) (t : ℕ) → 0 < n → AllSleep t r.triggers → pass n r t ≡ alone r t
asleep_pass zero r t some h = absurd (omega (arith, some))
asleep_pass (suc n) r t some h =
    rw (asleep_earliest r t 0 r.triggers h)
    (ap (λ (ss : List (Option Slot)). let p = board.passes r.controller t in record { rig = record r { controller = p.board; triggers = ss }; pulses = p.pulses; answers = [] }) (asleep_rest r.pins t r.triggers h))

pub asleep_passes : (r : Rig) (t : ℕ) → r.controller.tick ≤ t → AllSleep t r.triggers → passes r t ≡ alone r t
asleep_passes r t later h =
    ap (λ (b : Bool). if b then pass (all_left t r.triggers + 1) r t else record { rig = r; pulses = []; answers = [] }) (is_le r.controller.tick t later) ∙ asleep_pass (all_left t r.triggers + 1) r t (omega arith) h

asleep_objects : (n until : ℕ) → AllSleep until (no_objects n)
asleep_objects zero until = tt
asleep_objects (suc n) until = (tt, asleep_objects n until)

both : (xs ys : List (Option Slot)) (until : ℕ) → AllSleep until xs → AllSleep until ys → AllSleep until (xs ++ ys)
both [] ys until h g = g
both (x ∷ xs) ys until h g = (h.0, both xs ys until h.1 g)

-- all sleep where those do that stand among the first ones
pub all_asleep : (used until : ℕ) (xs : List (Option Slot)) → NoneBehind used xs → AllSleep until (take used xs) → AllSleep until xs
all_asleep used until xs u h =
    let rest : AllSleep until (drop used xs) = rw u.rest (asleep_objects (256 - used) until) in
    rw (sym (take-append-drop used xs)) (both (take used xs) (drop used xs) until h rest)

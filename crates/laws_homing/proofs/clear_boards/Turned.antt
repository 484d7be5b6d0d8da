-- A board's turn behind the set-up of a homing section.
use Rattle.std.proofs.Common.{◌≡◌, ℕ, suc, ◌+◌, ◌<◌, ◌≤◌, Bool, true, false, List, [], ◌∷◌, Option, Some, None, refl, ap, sym, ◌∙◌, subst, arith, ◌⊎◌, inl, inr, rules}
use Rattle.std.specs.Prelude.{if◌then◌else◌, nat_le}
use Rattle.laws_board.proofs.Names.{get_or-set_same, BoardState, Running, Shut, nearest, Cmd, Trigger, Controller, is_shut, Passed, Rig, Slot, acts_running, all_left, pass, passes, slot_at, takes, takes_all, one_slot, slot_range, says}
use Rattle.msg_code.specs.declared.cmd.Cmd.TheVariants as cmd
use Rattle.board_trig.specs.Trigger as trig
use Rattle.board_sim.specs.Rig.{trigger}
use Rattle.board_sim.specs.Turn.{says_shut}
use Rattle.board_sim.proofs.RigShut.{all_left_by}
use Rattle.board_sim.proofs.RigTicks.{takes_rig_tick}
use Rattle.board_world.specs.World.{shut_before}
use Rattle.laws_homing.specs.home_runs.Guards.{HasFired, IsCalm, IsSole}
use Rattle.laws_homing.proofs.home_runs.Guarding.{Next, fired_next, passes_next, takes_next}
use Rattle.laws_homing.proofs.home_runs.Saying.{EachCalm, all_next}
use Rattle.laws_homing.specs.clear_boards.Held.{AllTellOnly}
use Rattle.laws_homing.specs.clear_boards.Limited.{AllFired, IsLimited, IsRenewing, limit_by, limit_of}
use Rattle.laws_homing.specs.clear_boards.Turned.{AreSentBehind, IsSentBehind, IsTurnedTo, Relays, RelaysOne, SetsTimeout, SetsNone, SetsOne}
use Rattle.laws_homing.proofs.clear_boards.Held.{all_both, others_tell}
use Rattle.laws_homing.proofs.home_runs.Saying.{shut_other}
use Rattle.laws_homing.proofs.clear_boards.Limited.{pass_limited, takes_limited}

-- a board that runs behind some commands ran before them
ran_by : (s : BoardState) (r : Rig) (cs : List Cmd) → r.controller.state ≡ s → (takes_all r cs).rig.controller.state ≡ Running → r.controller.state ≡ Running
ran_by s r cs p3 p4 = search (rules, takes_all, all_left_by, is_shut)

pub ran : (r : Rig) (cs : List Cmd) → (takes_all r cs).rig.controller.state ≡ Running → r.controller.state ≡ Running
ran r cs runs = ran_by r.controller.state r cs refl runs

-- such a command renews the timeout
renews : (oid clock : ℕ) (r : Rig) (c : Cmd) → ((r.controller.tick < nearest r.controller.tick clock) ⊎ AllFired r) → IsSentBehind oid clock c → IsRenewing oid r c
renews oid clock r c p4 p5 = search (rules, nearest)

-- the timeout behind it
limit_step : (oid clock now limit next : ℕ) (c : Cmd) (cs : List Cmd) → IsSentBehind oid clock c → nearest now clock ≡ next → (limit ≡ next) ⊎ SetsOne (c ∷ cs) → (limit_by now limit c ≡ next) ⊎ SetsOne cs
limit_step oid clock now limit next c cs p7 p8 p9 = search (rules, nearest)

-- where no trigger can trigger, any timeout is as good
any_limit : (oid tick old limit : ℕ) (r : Rig) → AllFired r → IsLimited oid tick old r → IsLimited oid tick limit r
any_limit oid tick old limit r fired k = record {
  sole = k.sole;
  held = k.held;
  limited = λ i s at. (let none = fired i s at in k.limited i s at ∙ ap (λ (b : Bool). limit_of b old) none ∙ ap (λ (b : Bool). limit_of b limit) (sym none));
}

-- a trigger that can't trigger is the only one
pub all_fired : (oid : ℕ) (r : Rig) → IsSole oid r → HasFired oid r → AllFired r
all_fired oid r sole h i s at =
    let here : slot_at r oid ≡ Some s = subst (λ (n : ℕ). slot_at r n ≡ Some s) (sole i s at) at in
    let same : h.slot ≡ s = one_slot (slot_at r oid) h.slot s h.is here in
    subst (λ (x : Slot). x.trigger.can ≡ false) same h.fired

-- the stepper of no command
abbrev pub above_one : Cmd → ℕ
above_one (cmd.ResetStepClock oid clock) = oid
above_one c = 0

abbrev pub above : List Cmd → ℕ
above [] = 0
above (c ∷ cs) = suc (above_one c) + above cs

pub calm_one : (i oid clock : ℕ) (c : Cmd) → above_one c < i → IsSentBehind oid clock c → IsCalm i oid c
calm_one i oid clock (cmd.ResetStepClock other at) less k = λ e. omega (arith, e, less)
calm_one i oid clock (cmd.ConfigTrsync other) less k = absurd k
calm_one i oid clock (cmd.TrsyncStart other at every reason) less k = absurd k
calm_one i oid clock c less k = tt

pub calm_all : (i oid clock : ℕ) (cs : List Cmd) → above cs ≤ i → AreSentBehind oid clock cs → EachCalm i oid cs
calm_all i oid clock [] less k = tt
calm_all i oid clock (c ∷ cs) less k = (calm_one i oid clock c (omega (arith, less)) k.0, calm_all i oid clock cs (omega (arith, less)) k.1)

pub next_all : (oid clock : ℕ) (r : Rig) (cs : List Cmd) → AreSentBehind oid clock cs → Next (above cs) oid r (takes_all r cs).rig
next_all oid clock r cs k = all_next (above cs) oid r cs (calm_all (above cs) oid clock cs (omega arith) k)

-- what a board takes in a turn
pub takes_turned : (oid tick limit next clock now : ℕ) (r : Rig) (cs : List Cmd) → r.controller.tick ≡ now → nearest now clock ≡ next → now < next → (takes_all r cs).rig.controller.state ≡ Running → AreSentBehind oid clock cs → (limit ≡ next) ⊎ SetsOne cs
    → IsLimited oid tick limit r → IsLimited oid tick next (takes_all r cs).rig × AllTellOnly tick (takes_all r cs).answers
takes_turned oid tick limit next clock now r [] at is ahead runs k (inl same) limited = (subst (λ (n : ℕ). IsLimited oid tick n r) same limited, tt)
takes_turned oid tick limit next clock now r [] at is ahead runs k (inr none) limited = absurd none
takes_turned oid tick limit next clock now r (c ∷ cs) at is ahead runs k some limited =
    let later : r.controller.tick < nearest r.controller.tick clock = subst (λ (n : ℕ). n < nearest n clock) (sym at) (omega (arith, is, ahead)) in
    let one = takes_limited oid tick limit r c (ran r (c ∷ cs) runs) (renews oid clock r c (inl later) k.0) limited in
    let behind = limit_step oid clock r.controller.tick limit next c cs k.0 (ap (λ (n : ℕ). nearest n clock) at ∙ is) some in
    let rest = takes_turned oid tick (limit_by r.controller.tick limit c) next clock now (takes r c).rig cs (takes_rig_tick r c ∙ at) is ahead runs k.1 behind one.0 in
    (rest.0, all_both tick (takes r c).answers (takes_all (takes r c).rig cs).answers one.1 rest.1)

takes_fired : (oid tick limit next clock : ℕ) (r : Rig) (cs : List Cmd) → (takes_all r cs).rig.controller.state ≡ Running → AreSentBehind oid clock cs → HasFired oid r → IsLimited oid tick limit r
    → IsLimited oid tick next (takes_all r cs).rig × AllTellOnly tick (takes_all r cs).answers
takes_fired oid tick limit next clock r [] runs k fired limited = (any_limit oid tick limit next r (all_fired oid r limited.sole fired) limited, tt)
takes_fired oid tick limit next clock r (c ∷ cs) runs k fired limited =
    let one = takes_limited oid tick limit r c (ran r (c ∷ cs) runs) (renews oid clock r c (inr (all_fired oid r limited.sole fired)) k.0) limited in
    let i = suc (above_one c) in
    let still = fired_next i oid r (takes r c).rig (takes_next i oid r c (calm_one i oid clock c (omega arith) k.0)) fired in
    let rest = takes_fired oid tick (limit_by r.controller.tick limit c) next clock (takes r c).rig cs runs k.1 still one.0 in
    (rest.0, all_both tick (takes r c).answers (takes_all (takes r c).rig cs).answers one.1 rest.1)

-- and as it runs on
pub passes_limited : (oid tick limit until : ℕ) (r : Rig) → ((until ≤ limit) ⊎ ((limit ≡ tick) ⊎ AllFired r)) → IsLimited oid tick limit r → IsLimited oid tick limit (passes r until).rig × AllTellOnly tick (passes r until).answers
passes_limited oid tick limit until r far k = by (nat_le r.controller.tick until)
  where
    by : (b : Bool) → let p : Passed = if b then pass (all_left until r.triggers + 1) r until else record { rig = r; pulses = []; answers = [] } in IsLimited oid tick limit p.rig × AllTellOnly tick p.answers
    by true = pass_limited (all_left until r.triggers + 1) oid tick limit r until far k
    by false = (k, tt)

runs_on : (oid tick limit until : ℕ) (r : Rig) (cs : List Cmd) → ((until ≤ limit) ⊎ ((limit ≡ tick) ⊎ AllFired (takes_all r cs).rig)) → IsLimited oid tick limit (takes_all r cs).rig × AllTellOnly tick (takes_all r cs).answers
    → IsTurnedTo oid tick limit until r cs
runs_on oid tick limit until r cs far k =
    let q = (takes_all r cs).rig in
    let p = passes_limited oid tick limit until q far k.0 in
    let shut = says_shut (shut_before q.controller.state q.controller.tick) q.controller.tick until in
    record {
      limited = p.0;
      tells = all_both tick (takes_all r cs).answers (says q until) k.1 (all_both tick (passes q until).answers shut p.1 (others_tell tick shut (shut_other (shut_before q.controller.state q.controller.tick) q.controller.tick until)));
    }

-- a turn of a board whose timeout is ahead, or that can't trigger
pub turn_ahead : (oid tick limit next clock now until : ℕ) (r : Rig) (cs : List Cmd) → r.controller.tick ≡ now → nearest now clock ≡ next → now < next → (takes_all r cs).rig.controller.state ≡ Running → AreSentBehind oid clock cs → (limit ≡ next) ⊎ SetsOne cs
    → ((until ≤ next) ⊎ (next ≡ tick)) → IsLimited oid tick limit r → IsTurnedTo oid tick next until r cs
turn_ahead oid tick limit next clock now until r cs at is ahead runs k some far limited =
    runs_on oid tick next until r cs (elim far [ inl l ↦ inl l | inr l ↦ inr (inl l) ]) (takes_turned oid tick limit next clock now r cs at is ahead runs k some limited)

pub turn_fired : (oid tick limit next clock until : ℕ) (r : Rig) (cs : List Cmd) → (takes_all r cs).rig.controller.state ≡ Running → AreSentBehind oid clock cs → HasFired oid r → IsLimited oid tick limit r
    → IsTurnedTo oid tick next until r cs
turn_fired oid tick limit next clock until r cs runs k fired limited =
    let taken = takes_fired oid tick limit next clock r cs runs k fired limited in
    let still = fired_next (above cs) oid r (takes_all r cs).rig (next_all oid clock r cs k) fired in
    runs_on oid tick next until r cs (inr (inr (all_fired oid (takes_all r cs).rig taken.0.sole still))) taken

-- a board that can't trigger stays so, and a relay makes it so
pub stays_fired : (oid clock until : ℕ) (r : Rig) (cs : List Cmd) → AreSentBehind oid clock cs → HasFired oid r → HasFired oid (passes (takes_all r cs).rig until).rig
stays_fired oid clock until r cs k fired =
    let q = (takes_all r cs).rig in
    fired_next (above cs) oid q (passes q until).rig (passes_next (above cs) oid q until) (fired_next (above cs) oid r q (next_all oid clock r cs k) fired)

pub triggered_off : (can : Bool) (now reason : ℕ) (t : Trigger) → t.can ≡ can → (if can then trig.fired now reason t else t).can ≡ false
triggered_off true now reason t e = refl
triggered_off false now reason t e = e

relay_now : (oid reason : ℕ) (r : Rig) (s : Slot) → slot_at r oid ≡ Some s → r.controller.state ≡ Running → HasFired oid (takes r (cmd.TrsyncTrigger oid reason)).rig
relay_now oid reason r s there runs =
    let t = trig.triggered r.controller.tick reason s.trigger in
    let u : Slot = record s { trigger = t } in
    let fires : HasFired oid (trigger r oid (Some s) reason).rig =
    record { slot = u; is = get_or-set_same r.triggers oid (Some u) None (slot_range r.triggers oid s there); fired = triggered_off s.trigger.can r.controller.tick reason s.trigger refl } in
    let At : Option Slot → Type 0 = λ o. HasFired oid (trigger r oid o reason).rig in
    let Runs : BoardState → Type 0 = λ o. HasFired oid (acts_running o r (cmd.TrsyncTrigger oid reason)).rig in
    subst Runs (sym runs) (subst At (sym there) fires)

relay_takes : (oid clock : ℕ) (r : Rig) (cs : List Cmd) (s : Slot) → slot_at r oid ≡ Some s → (takes_all r cs).rig.controller.state ≡ Running → AreSentBehind oid clock cs → RelaysOne cs → HasFired oid (takes_all r cs).rig
relay_takes oid clock r [] s there runs k none = absurd none
relay_takes oid clock r (c ∷ cs) s there runs k (inl now) =
    let q = (takes r c).rig in
    fired_next (above cs) oid q (takes_all q cs).rig (next_all oid clock q cs k.1) (by c k.0 now)
  where
    by : (c : Cmd) → IsSentBehind oid clock c → Relays c → HasFired oid (takes r c).rig
    by (cmd.TrsyncTrigger other reason) b n =
        let At : ℕ → Type 0 = λ i. HasFired oid (takes r (cmd.TrsyncTrigger i reason)).rig in
        subst At (sym b.0) (relay_now oid reason r s there (ran r (c ∷ cs) runs))
    by c b n = absurd n
relay_takes oid clock r (c ∷ cs) s there runs k (inr later) =
    let i = suc (above_one c) in
    let x = (takes_next i oid r c (calm_one i oid clock c (omega arith) k.0)).slots s there in
    relay_takes oid clock (takes r c).rig cs x.slot x.is runs k.1 later

pub relay_fires : (oid clock until : ℕ) (r : Rig) (cs : List Cmd) (s : Slot) → slot_at r oid ≡ Some s → (takes_all r cs).rig.controller.state ≡ Running → AreSentBehind oid clock cs → RelaysOne cs → HasFired oid (passes (takes_all r cs).rig until).rig
relay_fires oid clock until r cs s there runs k relays =
    let q = (takes_all r cs).rig in
    fired_next (above cs) oid q (passes q until).rig (passes_next (above cs) oid q until) (relay_takes oid clock r cs s there runs k relays)

-- a turn of a board that is sent no timeout
renews_none : (oid clock : ℕ) (r : Rig) (c : Cmd) → IsSentBehind oid clock c → (SetsTimeout c → ⊥) → IsRenewing oid r c
renews_none oid clock r (cmd.TrsyncSetTimeout other at) k none = absurd (none tt)
renews_none oid clock r (cmd.TrsyncTrigger other reason) k none = λ two. (let three = k.1 in absurd (omega (arith, two, three)))
renews_none oid clock r (cmd.ConfigTrsync other) k none = absurd k
renews_none oid clock r (cmd.TrsyncStart other at every reason) k none = absurd k
renews_none oid clock r (cmd.StepperStopOnTrigger stepper other) k none = absurd k
renews_none oid clock r (cmd.ConfigEndstop other pin pull) k none = absurd k
renews_none oid clock r (cmd.EndstopHome other at sample count rest value trigger reason) k none = absurd k
renews_none oid clock r c k none = tt

same_limit : (now limit : ℕ) (c : Cmd) → (SetsTimeout c → ⊥) → limit_by now limit c ≡ limit
same_limit now limit (cmd.TrsyncSetTimeout other at) none = absurd (none tt)
same_limit now limit c none = refl

takes_none : (oid tick limit clock : ℕ) (r : Rig) (cs : List Cmd) → (takes_all r cs).rig.controller.state ≡ Running → AreSentBehind oid clock cs → SetsNone cs → IsLimited oid tick limit r
    → IsLimited oid tick limit (takes_all r cs).rig × AllTellOnly tick (takes_all r cs).answers
takes_none oid tick limit clock r [] runs k none limited = (limited, tt)
takes_none oid tick limit clock r (c ∷ cs) runs k none limited =
    let one = takes_limited oid tick limit r c (ran r (c ∷ cs) runs) (renews_none oid clock r c k.0 none.0) limited in
    let same = subst (λ (n : ℕ). IsLimited oid tick n (takes r c).rig) (same_limit r.controller.tick limit c none.0) one.0 in
    let rest = takes_none oid tick limit clock (takes r c).rig cs runs k.1 none.1 same in
    (rest.0, all_both tick (takes r c).answers (takes_all (takes r c).rig cs).answers one.1 rest.1)

pub turn_far : (oid tick limit clock until : ℕ) (r : Rig) (cs : List Cmd) → (takes_all r cs).rig.controller.state ≡ Running → AreSentBehind oid clock cs → SetsNone cs → ((until ≤ limit) ⊎ (limit ≡ tick)) → IsLimited oid tick limit r
    → IsTurnedTo oid tick limit until r cs
turn_far oid tick limit clock until r cs runs k none far limited = runs_on oid tick limit until r cs (elim far [ inl l ↦ inl l | inr l ↦ inr (inl l) ]) (takes_none oid tick limit clock r cs runs k none limited)

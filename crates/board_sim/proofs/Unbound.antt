-- A stepper that no trigger has bound isn't halted as time passes.
use Rattle.std.proofs.Common.{◌≡◌, ◌≢◌, ℕ, zero, suc, ◌+◌, ◌/◌, ◌&&◌, not, Bool, true, false, List, [], ◌∷◌, length, map, get_or, set, Option, Some, None, refl, ap, sym, ◌∙◌, subst, ◌⊎◌, inl, inr}
use Rattle.std.specs.Prelude.{if◌then◌else◌, ◌==◌, ◌||◌}
use Rattle.std.proofs.lemmas.Bool.Decides.{eqb_tells, leb_tells}
use Rattle.std.proofs.lemmas.List.{get_or-set_same, get_or-set_other}
use Rattle.plan_types.specs.declared.levels.Level.{Level}
use Rattle.plan_types.specs.declared.plan.BoardState.{BoardState}
use Rattle.plan_types.specs.declared.plan.BoardState.TheVariants.{Running, Shut}
use Rattle.board_step.specs.Steps.{Pending}
use Rattle.board_trig.specs.declared.trigger.Trigger.{Trigger}
use Rattle.board_trig.specs.declared.trigger.Happening.TheVariants.{Nothing}
use Rattle.board_trig.specs.Trigger as trig
use Rattle.plan_types.specs.declared.plan.Triple.{Triple}
use Rattle.board_trig.specs.declared.sampling.Homing.{Homing}
use Rattle.msg_code.specs.declared.cmd.Cmd.{Cmd}
use Rattle.msg_code.specs.declared.cmd.Cmd.TheVariants as cmd
use Rattle.board_sim.specs.Board.{Controller, stepper_at, with_stepper, stop, is_none_pending, refusal, takes_triple, queue_step, emptied}
use Rattle.board_sim.specs.Board as board
use Rattle.board_sim.specs.Rig.{Rig, Slot, Passed, slot_at, levels_of, halt, halts, becomes, make_trigger, make_endstop, start_trigger, expires_at_once, set_timeout, trigger, bind, home, by_board, acts, acts_running, takes, earliest_moment, rested, runs_to, rests_to, happens_to, happens_at, goes_on, at_of, passes_by, pass, passes, all_left}
use Rattle.board_sim.specs.RigRuns.{has, IsUnbound, IsNoBind}
use Rattle.board_sim.specs.Halted.{is_halted}
use Rattle.board_sim.proofs.Bound.{map_at, one_slot, same_or_not, set_other, slot_range}
use Rattle.board_sim.proofs.Halted.{not_first}
use Rattle.board_sim.proofs.HaltedTime.{same_halt}
use Rattle.board_sim.proofs.Keeps.{slot_set, slots_at}

abbrev Same : ℕ → Controller → Controller → Type 0
Same i b c = is_halted (stepper_at c i) ≡ is_halted (stepper_at b i)

halt_other : (is : List ℕ) (xs : List (Option Pending)) (i : ℕ) → has i is ≡ false → get_or (halt is xs) i None ≡ get_or xs i None
halt_other [] xs i e = refl
halt_other (j ∷ is) xs i e =
    let d = not_first j i is e in
    halt_other is (set xs j (emptied (get_or xs j None))) i d.1 ∙ get_or-set_other xs j i (emptied (get_or xs j None)) None (λ same. d.0 (sym same))

halts_same : (x : Bool) (bound : List ℕ) (b : Controller) (i : ℕ) → has i bound ≡ false → Same i b (halts x bound b)
halts_same false bound b i e = refl
halts_same true bound b i e = ap is_halted (halt_other bound b.steppers i e)

on_same : (o : BoardState) (b : Controller) (t i : ℕ) → Same i b (board.passes_on o b t).board
on_same Running b t i = ap is_halted (slots_at t i b.steppers) ∙ same_halt t (stepper_at b i)
on_same (Shut reason tick first) b t i = refl

runs_same : (b : Controller) (t i : ℕ) → Same i b (board.passes b t).board
runs_same b t i = elim (leb_tells b.tick t) [ inl p ↦ rw p.0 (on_same b.state b t i) | inr p ↦ rw p.0 refl ]

-- a trigger becomes another one
own_by : (r : Rig) (i oid j : ℕ) (s u : Slot) (t : Trigger) → IsUnbound i r → slot_at r oid ≡ Some s → slot_at (becomes r oid s t) j ≡ Some u → (oid ≡ j) ⊎ (oid ≢ j) → has i u.bound ≡ false
own_by r i oid j s u t free at is (inl e) =
    let here : slot_at (becomes r oid s t) oid ≡ Some (record s { trigger = t }) = get_or-set_same r.triggers oid (Some (record s { trigger = t })) None (slot_range r.triggers oid s at) in
    let same : record s { trigger = t } ≡ u = one_slot (slot_at (becomes r oid s t) j) (record s { trigger = t }) u (subst (λ (n : ℕ). slot_at (becomes r oid s t) n ≡ Some (record s { trigger = t })) e here) is in
    subst (λ (x : Slot). has i x.bound ≡ false) same (free oid s at)
own_by r i oid j s u t free at is (inr d) = free j u (sym (set_other r (becomes r oid s t) j oid (Some (record s { trigger = t })) refl d) ∙ is)

abbrev Free : ℕ → Rig → Rig → Type 0
Free i r q = IsUnbound i q × Same i r.controller q.controller

happens_free : (r : Rig) (t oid i : ℕ) (o : Option Slot) → slot_at r oid ≡ o → IsUnbound i r → Free i r (happens_to r t oid o).rig
happens_free r t oid i None e free = (free, refl)
happens_free r t oid i (Some s) e free =
    let u = (trig.advanced (levels_of r s.pin) t s.trigger).trigger in (
      λ j v is. own_by r i oid j s v (trig.advanced (levels_of r s.pin) t s.trigger).trigger free e is (same_or_not oid j),
      halts_same (s.trigger.can && not (trig.advanced (levels_of r s.pin) t s.trigger).trigger.can) s.bound r.controller i (free oid s e),
    )

-- readings are done
rested_by : (o : Option Slot) (pins : List (List Level)) (t i : ℕ) (u : Slot) → rested pins t o ≡ Some u → ((s : Slot) → o ≡ Some s → has i s.bound ≡ false) → has i u.bound ≡ false
rested_by None pins t i u e free = absurd (cc)
rested_by (Some s) pins t i u e free =
    let same : record s { trigger = (trig.happened (get_or pins s.pin []) t Nothing s.trigger).trigger } ≡ u = cc in
    subst (λ (x : Slot). has i x.bound ≡ false) same (free s refl)

rests_free : (r : Rig) (t i : ℕ) → IsUnbound i r → Free i r (rests_to r t).rig
rests_free r t i free = (
  λ j u is. rested_by (slot_at r j) r.pins t i u (sym (map_at (rested r.pins t) r.triggers j refl) ∙ is) (λ s e. free j s e),
  runs_same r.controller t i,
)

goes_free : (o : Option (ℕ × ℕ)) (r : Rig) (t i : ℕ) (rest : Passed) → IsUnbound i r → (IsUnbound i (happens_at r t (at_of o)).rig → Free i (happens_at r t (at_of o)).rig rest.rig)
    → Free i r (goes_on o (rests_to r t) (passes_by (happens_at r t (at_of o)) rest)).rig
goes_free None r t i rest free more = rests_free r t i free
goes_free (Some at) r t i rest free more =
    let ran = (runs_to r (at.0 / 3)).rig in
    let done = happens_free (runs_to r (at.0 / 3)).rig t at.1 i (slot_at (runs_to r (at.0 / 3)).rig at.1) refl free in
    let last = more done.0 in
    (last.0, last.1 ∙ done.1 ∙ runs_same r.controller (at.0 / 3) i)

steps_free : (n : ℕ) (r : Rig) (t i : ℕ) → IsUnbound i r → Free i r (pass n r t).rig
steps_free zero r t i free = (free, refl)
steps_free (suc n) r t i free =
    goes_free (earliest_moment r t 0 r.triggers) r t i (pass n (happens_at r t (at_of (earliest_moment r t 0 r.triggers))).rig t) free (λ now. steps_free n (happens_at r t (at_of (earliest_moment r t 0 r.triggers))).rig t i now)

pub passes_free : (r : Rig) (t i : ℕ) → IsUnbound i r → IsUnbound i (passes r t).rig × (is_halted (stepper_at (passes r t).rig.controller i) ≡ is_halted (stepper_at r.controller i))
passes_free r t i free = elim (leb_tells r.controller.tick t) [ inl p ↦ rw p.0 (steps_free (all_left t r.triggers + 1) r t i free) | inr p ↦ rw p.0 (free, refl) ]

-- a command
abbrev Less : ℕ → Controller → Controller → Type 0
Less i b c = c.state ≡ Running → is_halted (stepper_at c i) ≡ true → is_halted (stepper_at b i) ≡ true

same_less : (i : ℕ) (b c : Controller) → Same i b c → Less i b c
same_less i b c e = λ runs h. sym e ∙ h

set_less : (b : Controller) (oid i : ℕ) (q : Pending) → (q.halted ≡ true → is_halted (stepper_at b oid) ≡ true) → Less i b (with_stepper b oid q)
set_less b oid i q same = λ runs h. elim (slot_set b.steppers oid i (Some q)) [
  | inl p ↦ ap (λ (n : ℕ). is_halted (stepper_at b n)) p.0 ∙ same (sym (ap is_halted p.1) ∙ h)
  | inr p ↦ sym (ap is_halted p.0) ∙ h
]

stop_less : (b : Controller) (reason first i : ℕ) → Less i b (stop b reason first).board
stop_less b reason first i = λ runs h. absurd (cc)

if_less : (x : Bool) (i : ℕ) (b : Controller) (d f : board.Done) → Less i b d.board → Less i b f.board → Less i b (if x then d else f).board
if_less true i b d f p q = p
if_less false i b d f p q = q

same_as : (b : Controller) (i : ℕ) → Less i b b
same_as b i = λ runs h. h

taken_less : (r : Option (ℕ × ℕ)) (b : Controller) (oid i : ℕ) (q : Pending) (ticks : List ℕ) → stepper_at b oid ≡ Some q → Less i b (takes_triple r b oid q ticks).board
taken_less None b oid i q ticks at = set_less b oid i _ (λ h. ap is_halted at ∙ h)
taken_less (Some r) b oid i q ticks at = stop_less b r.0 r.1 i

push_less : (b : Controller) (oid i : ℕ) (o : Option Pending) (t : Triple) → stepper_at b oid ≡ o → Less i b (queue_step b oid o t).board
push_less b oid i None t at = same_as b i
push_less b oid i (Some q) t at = if_less q.halted i b (board.quiet b) (takes_triple (refusal b.tick q t) b oid q _) (same_as b i) (taken_less (refusal b.tick q t) b oid i q _ at)

dir_less : (b : Controller) (oid i : ℕ) (o : Option Pending) (dir : ℕ) → stepper_at b oid ≡ o → Less i b (board.set_dir b oid o dir).board
dir_less b oid i None dir at = same_as b i
dir_less b oid i (Some q) dir at = set_less b oid i (record q { up = dir == 1 }) (λ h. ap is_halted at ∙ h)

reset_less : (b : Controller) (oid i : ℕ) (o : Option Pending) (clock : ℕ) → Less i b (board.reset b oid o clock).board
reset_less b oid i None clock = same_as b i
reset_less b oid i (Some q) clock =
    if_less (is_none_pending q.groups) i b (board.quiet (with_stepper b oid (record q { last = clock; halted = false }))) (stop b board.stepper_active 0)
    (set_less b oid i (record q { last = clock; halted = false }) (λ h. absurd (cc))) (stop_less b board.stepper_active 0 i)

make_less : (b : Controller) (oid i : ℕ) (o : Option Pending) → Less i b (board.make_stepper b oid o).board
make_less b oid i None = set_less b oid i _ (λ h. absurd (cc))
make_less b oid i (Some q) = same_as b i

acts_less : (b : Controller) (c : Cmd) (i : ℕ) → Less i b (board.acts b c).board
acts_less b (cmd.AllocateOids count) i = λ runs h. h
acts_less b (cmd.FinalizeConfig crc) i = λ runs h. h
acts_less b cmd.EmergencyStop i = stop_less b board.command_request 0 i
acts_less b (cmd.ConfigStepper oid step dir invert width) i = make_less b oid i (stepper_at b oid)
acts_less b (cmd.QueueStep oid interval count add) i = push_less b oid i (stepper_at b oid) (record { interval = interval; count = count; add = add }) refl
acts_less b (cmd.SetNextStepDir oid dir) i = dir_less b oid i (stepper_at b oid) dir refl
acts_less b (cmd.ResetStepClock oid clock) i = reset_less b oid i (stepper_at b oid) clock
acts_less b _ i = same_as b i

on_less : (o : BoardState) (b : Controller) (c : Cmd) (i : ℕ) → Less i b (board.acts_running o b c).board
on_less Running b c i = acts_less b c i
on_less (Shut reason tick first) b c i = same_as b i

board_less : (b : Controller) (c : Cmd) (i : ℕ) → Less i b (board.takes b c).board
board_less b (cmd.Identify offset count) i = same_as b i
board_less b cmd.GetConfig i = same_as b i
board_less b cmd.GetUptime i = same_as b i
board_less b c i = on_less b.state b c i

-- the commands of triggers
abbrev Kept : ℕ → Rig → Rig → Type 0
Kept i r q = IsUnbound i q × Less i r.controller q.controller

as_it_is : (r : Rig) (i : ℕ) → IsUnbound i r → Kept i r r
as_it_is r i free = (free, same_as r.controller i)

pub set_any : (xs : List (Option Slot)) (oid j : ℕ) (v u : Slot) → get_or (set xs oid (Some v)) j None ≡ Some u → (v ≡ u) ⊎ (get_or xs j None ≡ Some u)
set_any [] oid j v u e = inr e
set_any (x ∷ xs) zero zero v u e = inl (cc)
set_any (x ∷ xs) zero (suc j) v u e = inr e
set_any (x ∷ xs) (suc oid) zero v u e = inr e
set_any (x ∷ xs) (suc oid) (suc j) v u e = set_any xs oid j v u e

put_free : (r q : Rig) (i oid : ℕ) (v : Slot) → IsUnbound i r → q.triggers ≡ set r.triggers oid (Some v) → has i v.bound ≡ false → IsUnbound i q
put_free r q i oid v free e none = λ j u is. elim (set_any r.triggers oid j v u (sym (ap (λ (xs : List (Option Slot)). get_or xs j None) e) ∙ is)) [
  | inl same ↦ subst (λ (x : Slot). has i x.bound ≡ false) same none
  | inr there ↦ free j u there
]

becomes_kept : (r : Rig) (i oid : ℕ) (s : Slot) (t : Trigger) → IsUnbound i r → slot_at r oid ≡ Some s → Kept i r (becomes r oid s t)
becomes_kept r i oid s t free at = (
  put_free r (becomes r oid s t) i oid (record s { trigger = t }) free refl (free oid s at),
  same_less i r.controller (halts (s.trigger.can && not t.can) s.bound r.controller) (halts_same (s.trigger.can && not t.can) s.bound r.controller i (free oid s at)),
)

made_kept : (r : Rig) (i oid : ℕ) (o : Option Slot) → IsUnbound i r → Kept i r (make_trigger r oid o)
made_kept r i oid None free = (put_free r (make_trigger r oid None) i oid _ free refl refl, same_as r.controller i)
made_kept r i oid (Some s) free = as_it_is r i free

endstop_kept : (r : Rig) (i oid pin : ℕ) (o : Option ℕ) → IsUnbound i r → Kept i r (make_endstop r oid pin o)
endstop_kept r i oid pin None free = (free, same_as r.controller i)
endstop_kept r i oid pin (Some p) free = as_it_is r i free

start_kept : (r : Rig) (i oid : ℕ) (o : Option Slot) (clock every reason : ℕ) → slot_at r oid ≡ o → IsUnbound i r → Kept i r (start_trigger r oid o clock every reason)
start_kept r i oid None clock every reason e free = as_it_is r i free
start_kept r i oid (Some s) clock every reason e free = becomes_kept r i oid s _ free e

expires_kept : (o : Option ℕ) (r : Rig) (i oid : ℕ) (s : Slot) (t : Trigger) → slot_at r oid ≡ Some s → IsUnbound i r → Kept i r (expires_at_once r oid s t o).rig
expires_kept None r i oid s t e free = becomes_kept r i oid s t free e
expires_kept (Some n) r i oid s t e free = becomes_kept r i oid s (record t { untold = None }) free e

timeout_kept : (r : Rig) (i oid : ℕ) (o : Option Slot) (clock : ℕ) → slot_at r oid ≡ o → IsUnbound i r → Kept i r (set_timeout r oid o clock).rig
timeout_kept r i oid None clock e free = as_it_is r i free
timeout_kept r i oid (Some s) clock e free = expires_kept (trig.with_timeout r.controller.tick clock s.trigger).untold r i oid s (trig.with_timeout r.controller.tick clock s.trigger) e free

trigger_kept : (r : Rig) (i oid : ℕ) (o : Option Slot) (reason : ℕ) → slot_at r oid ≡ o → IsUnbound i r → Kept i r (trigger r oid o reason).rig
trigger_kept r i oid None reason e free = as_it_is r i free
trigger_kept r i oid (Some s) reason e free = becomes_kept r i oid s (trig.triggered r.controller.tick reason s.trigger) free e

not_it : (i oid : ℕ) (js : List ℕ) → (oid ≡ i → ⊥) → has i js ≡ false → has i (oid ∷ js) ≡ false
not_it i oid js d e = elim (eqb_tells i oid) [ inl k ↦ absurd (d (sym k.1)) | inr k ↦ rw k.0 e ]

bind_kept : (r : Rig) (i oid other : ℕ) (q : Option Pending) (o : Option Slot) → slot_at r other ≡ o → (oid ≡ i → ⊥) → IsUnbound i r → Kept i r (bind r oid q other o)
bind_kept r i oid other None o e d free = as_it_is r i free
bind_kept r i oid other (Some q) None e d free = as_it_is r i free
bind_kept r i oid other (Some q) (Some s) e d free = (
  put_free r (bind r oid (Some q) other (Some s)) i other (record s { bound = oid ∷ s.bound }) free refl (not_it i oid s.bound d (free other s e)),
  same_less i r.controller (halts (not s.trigger.can) (oid ∷ []) r.controller) (halts_same (not s.trigger.can) (oid ∷ []) r.controller i (not_it i oid [] d refl)),
)

home_kept : (r : Rig) (i other : ℕ) (p : Option ℕ) (o : Option Slot) (h : Homing) → slot_at r other ≡ o → IsUnbound i r → Kept i r (home r p other o h)
home_kept r i other None o h e free = as_it_is r i free
home_kept r i other (Some p) None h e free = as_it_is r i free
home_kept r i other (Some p) (Some s) h e free = (put_free r (home r (Some p) other (Some s) h) i other _ free refl (free other s e), same_as r.controller i)

board_kept : (r : Rig) (c : Cmd) (i : ℕ) → IsUnbound i r → Kept i r (by_board r c).rig
board_kept r c i free = (free, board_less r.controller c i)

acts_kept : (r : Rig) (c : Cmd) (i : ℕ) → IsUnbound i r → IsNoBind i c → Kept i r (acts r c).rig
acts_kept r (cmd.ConfigTrsync oid) i free n = made_kept r i oid (slot_at r oid) free
acts_kept r (cmd.TrsyncStart oid clock every reason) i free n = start_kept r i oid (slot_at r oid) clock every reason refl free
acts_kept r (cmd.TrsyncSetTimeout oid clock) i free n = timeout_kept r i oid (slot_at r oid) clock refl free
acts_kept r (cmd.TrsyncTrigger oid reason) i free n = trigger_kept r i oid (slot_at r oid) reason refl free
acts_kept r (cmd.StepperStopOnTrigger oid other) i free n = bind_kept r i oid other (stepper_at r.controller oid) (slot_at r other) refl n free
acts_kept r (cmd.ConfigEndstop oid pin pull) i free n = endstop_kept r i oid pin (get_or r.endstops oid None) free
acts_kept r (cmd.EndstopHome oid clock every count rest value other reason) i free n = home_kept r i other (get_or r.endstops oid None) (slot_at r other) _ refl free
acts_kept r c i free n = board_kept r c i free

running_kept : (o : BoardState) (r : Rig) (c : Cmd) (i : ℕ) → IsUnbound i r → IsNoBind i c → Kept i r (acts_running o r c).rig
running_kept Running r c i free n = acts_kept r c i free n
running_kept (Shut reason tick first) r c i free n = board_kept r c i free

pub takes_free : (r : Rig) (c : Cmd) (i : ℕ) → IsUnbound i r → IsNoBind i c
    → IsUnbound i (takes r c).rig × ((takes r c).rig.controller.state ≡ Running → is_halted (stepper_at (takes r c).rig.controller i) ≡ true → is_halted (stepper_at r.controller i) ≡ true)
takes_free r c i free n = running_kept r.controller.state r c i free n

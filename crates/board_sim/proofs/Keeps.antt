-- What a board does keeps its pulses a prefix of the steps that are meant.
use Rattle.std.proofs.Common.{◌≡◌, ◌≢◌, ℕ, zero, suc, Bool, true, false, ◌+◌, ◌^◌, ◌<◌, ◌≤◌, ◌⊎◌, ◌&&◌, List, [], ◌∷◌, ◌++◌, length, map, set, get_or, Option, Some, None, refl, ap, sym, ◌∙◌, subst, arith, inl, inr, append_assoc, append-nil}
use Rattle.std.proofs.lemmas.List.{get_or-set_same, get_or-set_other, get_or_past, length-set, map-append}
use Rattle.std.proofs.lemmas.Bool.Decides.{leb_tells, eqb_tells}
use Rattle.std.specs.Prelude.{slice_index, nat_lt, nat_le, ◌==◌, if◌then◌else◌}
use Rattle.plan_types.specs.Numbers.{UpFrom}
use Rattle.plan_types.specs.Plan.{pulse_of}
use Rattle.plan_types.specs.declared.machine.BoardDef.{BoardDef}
use Rattle.plan_types.specs.declared.plan.BoardState.{BoardState}
use Rattle.plan_types.specs.declared.plan.BoardState.TheVariants.{Running, Shut}
use Rattle.plan_types.specs.declared.plan.Pulse.{Pulse}
use Rattle.plan_types.specs.declared.plan.Triple.{Triple}
use Rattle.plan_types.specs.Board.{Group, end_of, steps_of, pending_steps, steps_before, groups_from, TicksRise}
use Rattle.board_step.specs.Steps.{Pending, IsFair, Follows, ticks_at, with_ticks}
use Rattle.board_step.proofs.Whole.{whole}
use Rattle.msg_code.specs.declared.cmd.Cmd.{Cmd}
use Rattle.msg_code.specs.declared.cmd.Cmd.TheVariants as cmd
use Rattle.board_sim.specs.Board.{Controller, Done, Passed, new_controller, places, stepper_at, with_stepper, quiet, stop, is_none_pending, first_of, refusal, takes_triple, queue_step, set_dir, reset, make_stepper, acts, acts_running, takes, takes_all, slot_to, slot_before, all_before, by_tick, passes_on, passes, zero_count, queue_overflow, timer_too_close, stepper_active, command_request}
use Rattle.board_sim.specs.Turn.{Station, Heard, hears_all, accepted_commands, turn}
use Rattle.board_sim.specs.Fair.{Meant, commands_of, IsFairOn, IsFairCommand, IsFairRunning, steps_taken, meant_on, meant_by, meant_running, only, pending_at, GroupsRiseFrom, SlotRises, MakesMeant, IsCut, IsKeptIn, IsFairSofar}
use Rattle.board_sim.proofs.Sorted.{Up}
use Rattle.board_sim.proofs.Steps.{only-append, only_same, only_other, pending_push, split_groups, rise_from, end_any, rise_push, rise_up, before_up, only_by_tick}
use Rattle.board_sim.proofs.Heeding.{heeds_all}
use Rattle.plan_types.proofs.Facts.{true_and_false}

-- what a command keeps, where these steps are meant by it
abbrev pub Keeps : List Pulse → List Pulse → Done → List Pulse → Type 0
Keeps made meant d more = IsFairSofar d.board made (meant ++ more)

pub cut_of : (b : Controller) (made meant : List Pulse) → MakesMeant b made meant → IsCut made meant
cut_of b made meant w oid = (pending_at oid (stepper_at b oid), w.same oid)

pub kept_cut : (o : BoardState) (b : Controller) (made meant : List Pulse) → IsKeptIn o b made meant → IsCut made meant
kept_cut Running b made meant k = cut_of b made meant k
kept_cut (Shut reason tick first) b made meant k = k

pub quiet_keeps : (b : Controller) (made meant : List Pulse) → IsFairSofar b made meant → IsFairSofar b made (meant ++ [])
quiet_keeps b made meant k = rw (append-nil meant) k

pub whole_kept : (b : Controller) (made meant : List Pulse) → b.state ≡ Running → MakesMeant b made meant → IsFairSofar b made meant
whole_kept b made meant e w = let At : BoardState → Type 0 = λ o. IsKeptIn o b made meant in subst At (sym e) w

pub stop_keeps : (b : Controller) (reason first : ℕ) (made meant : List Pulse) → MakesMeant b made meant → Keeps made meant (stop b reason first) []
stop_keeps b reason first made meant w = rw (append-nil meant) (cut_of b made meant w)

slot_past : (xs : List (Option Pending)) (i j : ℕ) (v : Option Pending) → length xs ≤ j → get_or (set xs i v) j None ≡ get_or xs j None
slot_past xs i j v h = get_or_past (set xs i v) j None (rw (length-set xs i v) h) ∙ sym (get_or_past xs j None h)

-- a place after a stepper was set at one
pub slot_set : (xs : List (Option Pending)) (i j : ℕ) (v : Option Pending)
    → ((j ≡ i) × (get_or (set xs i v) j None ≡ v)) ⊎ ((get_or (set xs i v) j None ≡ get_or xs j None) × ((j ≢ i) ⊎ (get_or xs j None ≡ None)))
slot_set xs i j v =
    elim (eqb_tells j i) [
      | inl p ↦ elim (leb_tells (suc i) (length xs)) [
        | inl q ↦ let lt : i < length xs = omega (arith, q.1) in inl (p.1, ap (λ k. get_or (set xs i v) k None) p.1 ∙ get_or-set_same xs i v None lt)
        | inr q ↦ let gt : length xs ≤ j = omega (arith, q.1, p.1) in
            inr (slot_past xs i j v gt, inr (get_or_past xs j None gt))
      ]
      | inr p ↦ inr (get_or-set_other xs i j v None p.1, inl p.1)
    ]

-- a stepper is replaced by one at which more steps pend, which are those that are meant besides
changed : (b : Controller) (oid : ℕ) (q : Pending) (made meant new : List Pulse) → MakesMeant b made meant
    → pending_at oid (stepper_at b oid) ++ new ≡ pending_at oid (Some q) → (stepper_at b oid ≡ None → new ≡ [])
    → only oid new ≡ new → ((other : ℕ) → oid ≢ other → only other new ≡ []) → GroupsRiseFrom b.tick q.groups
    → MakesMeant (with_stepper b oid q) made (meant ++ new)
changed b oid q made meant new w more none same other rises = record {
  same = λ o. elim (slot_set b.steppers oid o (Some q)) [
    | inl p ↦ rw (p.1, only-append o meant new)
        (let at_o : o ≡ oid = p.0 in
        let At : ℕ → Type 0 = λ k. only k made ++ pending_at k (Some q) ≡ only k meant ++ only k new in
        subst At (sym at_o) (ap (λ x. only oid made ++ x) (sym more) ∙ sym (append_assoc (only oid made) (pending_at oid (stepper_at b oid)) new) ∙ ap (λ x. x ++ new) (w.same oid) ∙ ap (λ x. only oid meant ++ x) (sym same)))
    | inr p ↦ rw (p.0, only-append o meant new)
        (w.same o ∙ sym (append-nil (only o meant)) ∙ ap (λ x. only o meant ++ x) (sym (elim p.1 [
          | inl ne ↦ other o (λ e. ne (sym e))
          | inr gone ↦ elim (eqb_tells oid o) [
            | inl e ↦ ap (only o) (none (ap (λ k. stepper_at b k) e.1 ∙ gone))
            | inr e ↦ other o e.1
          ]
        ])))
  ];
  rises = λ o. elim (slot_set b.steppers oid o (Some q)) [
    | inl p ↦ rw p.1 rises
    | inr p ↦ rw p.0 (w.rises o)
  ];
}

-- nothing more is meant
pub renewed : (b : Controller) (oid : ℕ) (q : Pending) (made meant : List Pulse) → b.state ≡ Running → MakesMeant b made meant
    → pending_at oid (stepper_at b oid) ≡ pending_at oid (Some q) → GroupsRiseFrom b.tick q.groups → Keeps made meant (quiet (with_stepper b oid q)) []
renewed b oid q made meant e w more rises =
    whole_kept (with_stepper b oid q) made (meant ++ []) e
    (changed b oid q made meant [] w (append-nil (pending_at oid (stepper_at b oid)) ∙ more) (λ none. refl) refl (λ other ne. refl) rises)

pub rises_at : (b : Controller) (oid : ℕ) (q : Pending) (made meant : List Pulse) → MakesMeant b made meant → stepper_at b oid ≡ Some q → GroupsRiseFrom b.tick q.groups
rises_at b oid q made meant w e = let At : Option Pending → Type 0 = λ o. SlotRises b.tick o in subst At e (w.rises oid)

-- the ticks of a fair triple go on from those that pend
goes_on : (now last : ℕ) (gs : List Group) (ticks : List ℕ) → GroupsRiseFrom now gs → Follows now last gs (slice_index ticks 0) → TicksRise ticks
    → (gs ≡ [] → now ≤ slice_index ticks 0) → 0 < length ticks → UpFrom (end_of now gs) ticks
goes_on now last gs [] r h rise at some = absurd (omega arith)
goes_on now last [] (t ∷ ts) r h rise at some = rise_up now t ts rise (at refl)
goes_on now last (g ∷ gs) (t ∷ ts) r h rise at some =
    let e = end_any last now g gs r.0 in
    let behind : end_of last (g ∷ gs) < t = h.1 in
    rise_up (end_of now (g ∷ gs)) t ts rise (omega (arith, behind, e))

not_none : (o : Option Pending) (q : Pending) (new : List Pulse) → o ≡ Some q → o ≡ None → new ≡ []
not_none o q new e f = cc

-- a triple that isn't refused
push_whole : (b : Controller) (oid : ℕ) (q : Pending) (made meant : List Pulse) (t : Triple) (ticks : List ℕ) → MakesMeant b made meant
    → stepper_at b oid ≡ Some q → t.interval < 2 ^ 32 → IsFair b.tick q t ticks → (q.groups ≡ [] → b.tick ≤ first_of b.tick q t)
    → MakesMeant (with_stepper b oid (with_ticks q (ticks_at (first_of b.tick q t) t))) made (meant ++ map (pulse_of oid) (steps_of q.up ticks))
push_whole b oid q made meant t ticks w at small fair late =
    let r = rises_at b oid q made meant w at in
    let same : ticks_at (first_of b.tick q t) t ≡ ticks = whole b.tick q t ticks small fair in
    let some : 0 < length ticks = omega (arith, fair.ticks_of.number, fair.ticks_of.some) in
    let first : slice_index ticks 0 ≡ first_of b.tick q t = ap (λ ts. slice_index ts 0) (sym same) in
    let after : Pending = with_ticks q ticks in
    let steps = steps_of q.up ticks in
    let new = map (pulse_of oid) steps in
    let slot : pending_at oid (stepper_at b oid) ≡ pending_at oid (Some q) = ap (λ o. pending_at oid o) at in
    let more : pending_at oid (Some q) ++ new ≡ pending_at oid (Some after) =
    sym (map-append (pulse_of oid) (pending_steps q.groups) steps) ∙ ap (λ x. map (pulse_of oid) x) (sym (pending_push q.groups (record { up = q.up; ticks = ticks }))) in
    rw same
    (changed b oid after made meant new w (ap (λ x. x ++ new) slot ∙ more) (λ none. not_none (stepper_at b oid) q new at none)
    (only_same oid steps) (λ other ne. only_other other oid steps ne)
    (rise_push b.tick q.groups (record { up = q.up; ticks = ticks }) r some
    (goes_on b.tick q.last q.groups ticks r fair.follows fair.rise (λ none. rw first (late none)) some)))

some_none : (r : ℕ × ℕ) → Some r ≡ None → ⊥
some_none r e = cc

pub no_nil : (g : Group) (gs : List Group) → g ∷ gs ≡ [] → ⊥
no_nil g gs e = cc

last_test : (a b c : Bool) (x y z : ℕ × ℕ) → (if a then Some x else (if b then Some y else (if c then Some z else None))) ≡ None → c ≡ false
last_test true b c x y z e = absurd (some_none x e)
last_test false true c x y z e = absurd (some_none y e)
last_test false false true x y z e = absurd (some_none z e)
last_test false false false x y z e = refl

not_before : (now : ℕ) (gs : List Group) (first : ℕ) → (is_none_pending gs && nat_lt first now) ≡ false → gs ≡ [] → now ≤ first
not_before now [] first h e = elim (leb_tells (suc first) now) [ inl p ↦ absurd (true_and_false p.0 h) | inr p ↦ omega (arith, p.1) ]
not_before now (g ∷ gs) first h e = absurd (no_nil g gs e)

-- where no step pends, the first one of a triple that isn't refused is not before now
on_time : (now : ℕ) (q : Pending) (t : Triple) → refusal now q t ≡ None → q.groups ≡ [] → now ≤ first_of now q t
on_time now q t e none =
    not_before now q.groups (first_of now q t)
    (last_test (t.count == 0) (nat_le q.slots (length q.groups)) (is_none_pending q.groups && nat_lt (first_of now q t) now) (zero_count, 0) (queue_overflow, 0) (timer_too_close, first_of now q t) e)
    none

taken_keeps : (r : Option (ℕ × ℕ)) (b : Controller) (oid : ℕ) (q : Pending) (made meant : List Pulse) (own ticks : List ℕ) → b.state ≡ Running → MakesMeant b made meant
    → (r ≡ None → MakesMeant (with_stepper b oid (with_ticks q own)) made (meant ++ map (pulse_of oid) (steps_of q.up ticks)))
    → Keeps made meant (takes_triple r b oid q own) (steps_taken r oid q.up ticks)
taken_keeps None b oid q made meant own ticks e w h = whole_kept (with_stepper b oid (with_ticks q own)) made (meant ++ map (pulse_of oid) (steps_of q.up ticks)) e (h refl)
taken_keeps (Some r) b oid q made meant own ticks e w h = stop_keeps b r.0 r.1 made meant w

halted_or : (h : Bool) (b : Controller) (d : Done) (made meant more : List Pulse) → Keeps made meant (quiet b) [] → (h ≡ false → Keeps made meant d more)
    → Keeps made meant (if h then quiet b else d) (if h then [] else more)
halted_or true b d made meant more k l = k
halted_or false b d made meant more k l = l refl

queue_step_keeps : (b : Controller) (oid : ℕ) (o : Option Pending) (made meant : List Pulse) (t : Triple) (ticks : List ℕ) → b.state ≡ Running → MakesMeant b made meant
    → stepper_at b oid ≡ o → IsFairOn b.tick o t ticks → Keeps made meant (queue_step b oid o t) (meant_on b.tick oid o t ticks)
queue_step_keeps b oid None made meant t ticks e w at fair = quiet_keeps b made meant (whole_kept b made meant e w)
queue_step_keeps b oid (Some q) made meant t ticks e w at fair =
    let own = ticks_at (first_of b.tick q t) t in
    halted_or q.halted b (takes_triple (refusal b.tick q t) b oid q own) made meant (steps_taken (refusal b.tick q t) oid q.up ticks)
    (quiet_keeps b made meant (whole_kept b made meant e w))
    (λ runs. taken_keeps (refusal b.tick q t) b oid q made meant own ticks e w
    (λ none. push_whole b oid q made meant t ticks w at (fair runs).0 (fair runs).1 (λ empty. on_time b.tick q t none empty)))

pub slot_is : (b : Controller) (oid : ℕ) (o : Option Pending) → stepper_at b oid ≡ o → pending_at oid (stepper_at b oid) ≡ pending_at oid o
slot_is b oid o e = ap (λ x. pending_at oid x) e

set_dir_keeps : (b : Controller) (oid : ℕ) (o : Option Pending) (dir : ℕ) (made meant : List Pulse) → b.state ≡ Running → MakesMeant b made meant → stepper_at b oid ≡ o
    → Keeps made meant (set_dir b oid o dir) []
set_dir_keeps b oid None dir made meant e w at = quiet_keeps b made meant (whole_kept b made meant e w)
set_dir_keeps b oid (Some q) dir made meant e w at =
    renewed b oid (record q { up = dir == 1 }) made meant e w (slot_is b oid (Some q) at) (rises_at b oid q made meant w at)

reset_or : (h : Bool) (d f : Done) (made meant : List Pulse) → Keeps made meant d [] → Keeps made meant f [] → Keeps made meant (if h then d else f) []
reset_or true d f made meant k l = k
reset_or false d f made meant k l = l

reset_keeps : (b : Controller) (oid : ℕ) (o : Option Pending) (clock : ℕ) (made meant : List Pulse) → b.state ≡ Running → MakesMeant b made meant → stepper_at b oid ≡ o
    → Keeps made meant (reset b oid o clock) []
reset_keeps b oid None clock made meant e w at = quiet_keeps b made meant (whole_kept b made meant e w)
reset_keeps b oid (Some q) clock made meant e w at =
    reset_or (is_none_pending q.groups) (quiet (with_stepper b oid (record q { last = clock; halted = false }))) (stop b stepper_active 0) made meant
    (renewed b oid (record q { last = clock; halted = false }) made meant e w (slot_is b oid (Some q) at) (rises_at b oid q made meant w at))
    (stop_keeps b stepper_active 0 made meant w)

make_keeps : (b : Controller) (oid : ℕ) (o : Option Pending) (made meant : List Pulse) → b.state ≡ Running → MakesMeant b made meant → stepper_at b oid ≡ o
    → Keeps made meant (make_stepper b oid o) []
make_keeps b oid None made meant e w at =
    renewed b oid (record { halted = false; up = false; last = 0; groups = []; slots = b.slots }) made meant e w (slot_is b oid None at) tt
make_keeps b oid (Some q) made meant e w at = quiet_keeps b made meant (whole_kept b made meant e w)

-- only the steppers, the tick and the state count
noted_keeps : (b c : Controller) (made meant : List Pulse) → b.state ≡ Running → c.state ≡ b.state → c.steppers ≡ b.steppers → c.tick ≡ b.tick → MakesMeant b made meant → Keeps made meant (quiet c) []
noted_keeps b c made meant e state steppers tick w =
    quiet_keeps c made meant
    (whole_kept c made meant (state ∙ e) (record { same = rw steppers w.same; rises = rw (steppers, tick) w.rises }))

acts_keeps : (b : Controller) (c : Cmd) (ticks : List ℕ) (made meant : List Pulse) → b.state ≡ Running → MakesMeant b made meant → IsFairCommand b c ticks → Keeps made meant (acts b c) (meant_by b c ticks)
acts_keeps b (cmd.AllocateOids count) ticks made meant e w fair = noted_keeps b (record b { oids = count }) made meant e refl refl refl w
acts_keeps b (cmd.FinalizeConfig crc) ticks made meant e w fair = noted_keeps b (record b { complete = true; crc = crc }) made meant e refl refl refl w
acts_keeps b cmd.EmergencyStop ticks made meant e w fair = stop_keeps b command_request 0 made meant w
acts_keeps b (cmd.ConfigStepper oid step dir invert width) ticks made meant e w fair = make_keeps b oid (stepper_at b oid) made meant e w refl
acts_keeps b (cmd.QueueStep oid interval count add) ticks made meant e w fair =
    queue_step_keeps b oid (stepper_at b oid) made meant (record { interval = interval; count = count; add = add }) ticks e w refl fair
acts_keeps b (cmd.SetNextStepDir oid dir) ticks made meant e w fair = set_dir_keeps b oid (stepper_at b oid) dir made meant e w refl
acts_keeps b (cmd.ResetStepClock oid clock) ticks made meant e w fair = reset_keeps b oid (stepper_at b oid) clock made meant e w refl
acts_keeps b _ ticks made meant e w fair = quiet_keeps b made meant (whole_kept b made meant e w)

running_keeps : (o : BoardState) (b : Controller) (c : Cmd) (ticks : List ℕ) (made meant : List Pulse) → b.state ≡ o → IsFairSofar b made meant → IsFairRunning o b c ticks
    → Keeps made meant (acts_running o b c) (meant_running o b c ticks)
running_keeps Running b c ticks made meant e k fair =
    let At : BoardState → Type 0 = λ o. IsKeptIn o b made meant in
    acts_keeps b c ticks made meant e (subst At e k) fair
running_keeps (Shut reason tick first) b c ticks made meant e k fair = quiet_keeps b made meant k

pub none_meant : (o : BoardState) (b : Controller) (c : Cmd) (ticks : List ℕ) → meant_by b c ticks ≡ [] → meant_running o b c ticks ≡ []
none_meant Running b c ticks e = e
none_meant (Shut reason tick first) b c ticks e = refl

question_keeps : (b : Controller) (c : Cmd) (ticks : List ℕ) (made meant : List Pulse) → meant_by b c ticks ≡ [] → IsFairSofar b made meant → IsFairSofar b made (meant ++ meant_running b.state b c ticks)
question_keeps b c ticks made meant e k = rw (none_meant b.state b c ticks e) (quiet_keeps b made meant k)

pub command_keeps : (b : Controller) (c : Cmd) (ticks : List ℕ) (made meant : List Pulse) → IsFairSofar b made meant → IsFairRunning b.state b c ticks → Keeps made meant (takes b c) (meant_running b.state b c ticks)
command_keeps b (cmd.IdentifyResponse offset bytes) ticks made meant k fair = running_keeps b.state b (cmd.IdentifyResponse offset bytes) ticks made meant refl k fair
command_keeps b (cmd.Identify offset count) ticks made meant k fair = question_keeps b (cmd.Identify offset count) ticks made meant refl k
command_keeps b (cmd.AllocateOids count) ticks made meant k fair = running_keeps b.state b (cmd.AllocateOids count) ticks made meant refl k fair
command_keeps b cmd.GetConfig ticks made meant k fair = question_keeps b cmd.GetConfig ticks made meant refl k
command_keeps b (cmd.FinalizeConfig crc) ticks made meant k fair = running_keeps b.state b (cmd.FinalizeConfig crc) ticks made meant refl k fair
command_keeps b cmd.GetUptime ticks made meant k fair = question_keeps b cmd.GetUptime ticks made meant refl k
command_keeps b cmd.EmergencyStop ticks made meant k fair = running_keeps b.state b cmd.EmergencyStop ticks made meant refl k fair
command_keeps b (cmd.ConfigStepper oid step dir invert width) ticks made meant k fair = running_keeps b.state b (cmd.ConfigStepper oid step dir invert width) ticks made meant refl k fair
command_keeps b (cmd.QueueStep oid interval count add) ticks made meant k fair = running_keeps b.state b (cmd.QueueStep oid interval count add) ticks made meant refl k fair
command_keeps b (cmd.SetNextStepDir oid dir) ticks made meant k fair = running_keeps b.state b (cmd.SetNextStepDir oid dir) ticks made meant refl k fair
command_keeps b (cmd.ResetStepClock oid clock) ticks made meant k fair = running_keeps b.state b (cmd.ResetStepClock oid clock) ticks made meant refl k fair
command_keeps b (cmd.ConfigTrsync oid) ticks made meant k fair = running_keeps b.state b (cmd.ConfigTrsync oid) ticks made meant refl k fair
command_keeps b (cmd.TrsyncStart oid clock every reason) ticks made meant k fair = running_keeps b.state b (cmd.TrsyncStart oid clock every reason) ticks made meant refl k fair
command_keeps b (cmd.TrsyncSetTimeout oid clock) ticks made meant k fair = running_keeps b.state b (cmd.TrsyncSetTimeout oid clock) ticks made meant refl k fair
command_keeps b (cmd.TrsyncTrigger oid reason) ticks made meant k fair = running_keeps b.state b (cmd.TrsyncTrigger oid reason) ticks made meant refl k fair
command_keeps b (cmd.StepperStopOnTrigger oid other) ticks made meant k fair = running_keeps b.state b (cmd.StepperStopOnTrigger oid other) ticks made meant refl k fair
command_keeps b (cmd.ConfigEndstop oid pin pull) ticks made meant k fair = running_keeps b.state b (cmd.ConfigEndstop oid pin pull) ticks made meant refl k fair
command_keeps b (cmd.EndstopHome oid clock every count rest value other reason) ticks made meant k fair = running_keeps b.state b (cmd.EndstopHome oid clock every count rest value other reason) ticks made meant refl k fair
command_keeps b (cmd.Config is crc shut count) ticks made meant k fair = running_keeps b.state b (cmd.Config is crc shut count) ticks made meant refl k fair
command_keeps b (cmd.Uptime high clock) ticks made meant k fair = running_keeps b.state b (cmd.Uptime high clock) ticks made meant refl k fair
command_keeps b (cmd.TrsyncState oid can reason clock) ticks made meant k fair = running_keeps b.state b (cmd.TrsyncState oid can reason clock) ticks made meant refl k fair
command_keeps b (cmd.Shutdown clock reason) ticks made meant k fair = running_keeps b.state b (cmd.Shutdown clock reason) ticks made meant refl k fair
command_keeps b (cmd.IsShutdown reason) ticks made meant k fair = running_keeps b.state b (cmd.IsShutdown reason) ticks made meant refl k fair

-- what a place makes is its own
slot_only : (oid t : ℕ) (o : Option Pending) → only oid (slot_before oid t o) ≡ slot_before oid t o
slot_only oid t None = refl
slot_only oid t (Some q) = only_same oid (steps_before t q.groups)

slot_none : (oid other t : ℕ) (o : Option Pending) → oid ≢ other → only other (slot_before oid t o) ≡ []
slot_none oid other t None ne = refl
slot_none oid other t (Some q) ne = only_other other oid (steps_before t q.groups) ne

all_below : (k oid t : ℕ) (os : List (Option Pending)) → oid < k → only oid (all_before k t os) ≡ []
all_below k oid t [] h = refl
all_below k oid t (o ∷ os) h =
    let ne : k ≢ oid = omega (arith, h) in
    only-append oid (slot_before k t o) (all_before (k + 1) t os) ∙ ap (λ x. x ++ only oid (all_before (k + 1) t os)) (slot_none k oid t o ne) ∙ all_below (k + 1) oid t os (omega (arith, h))

all_at : (k i t : ℕ) (os : List (Option Pending)) → only (k + i) (all_before k t os) ≡ slot_before (k + i) t (get_or os i None)
all_at k i t [] = refl
all_at k zero t (o ∷ os) =
    let e : k + zero ≡ k = omega arith in
    rw e (only-append k (slot_before k t o) (all_before (k + 1) t os)
    ∙ ap (λ x. x ++ only k (all_before (k + 1) t os)) (slot_only k t o)
    ∙ ap (λ x. slot_before k t o ++ x) (all_below (k + 1) k t os (omega arith)) ∙ append-nil (slot_before k t o))
all_at k (suc i) t (o ∷ os) =
    let ne : k ≢ k + suc i = omega arith in
    let e : k + suc i ≡ k + 1 + i = omega arith in
    only-append (k + suc i) (slot_before k t o) (all_before (k + 1) t os)
    ∙ ap (λ x. x ++ only (k + suc i) (all_before (k + 1) t os)) (slot_none k (k + suc i) t o ne)
    ∙ rw e (all_at (k + 1) i t os)

pub slots_at : (t i : ℕ) (os : List (Option Pending)) → get_or (map (slot_to t) os) i None ≡ slot_to t (get_or os i None)
slots_at t i [] = refl
slots_at t zero (o ∷ os) = refl
slots_at t (suc i) (o ∷ os) = slots_at t i os

pub slot_split : (oid t : ℕ) (o : Option Pending) → slot_before oid t o ++ pending_at oid (slot_to t o) ≡ pending_at oid o
slot_split oid t None = refl
slot_split oid t (Some q) =
    sym (map-append (pulse_of oid) (steps_before t q.groups) (pending_steps (groups_from t q.groups))) ∙ ap (λ x. map (pulse_of oid) x) (split_groups t q.groups)

slot_rises : (now t : ℕ) (o : Option Pending) → SlotRises now o → SlotRises t (slot_to t o)
slot_rises now t None h = tt
slot_rises now t (Some q) h = rise_from now t q.groups h

slot_up : (oid now t : ℕ) (o : Option Pending) → SlotRises now o → Up now (slot_before oid t o)
slot_up oid now t None h = tt
slot_up oid now t (Some q) h = before_up oid now t q.groups h

-- the pulses of one stepper among all that are made
made_at : (b : Controller) (t oid : ℕ) → SlotRises b.tick (stepper_at b oid) → only oid (by_tick (all_before 0 t b.steppers)) ≡ slot_before oid t (stepper_at b oid)
made_at b t oid h =
    let zero_oid : 0 + oid ≡ oid = omega arith in
    let here : only oid (all_before 0 t b.steppers) ≡ slot_before oid t (stepper_at b oid) = rw zero_oid at (all_at 0 oid t b.steppers) in
    only_by_tick oid b.tick (all_before 0 t b.steppers) (rw here (slot_up oid b.tick t (stepper_at b oid) h)) ∙ here

passes_whole : (b : Controller) (t : ℕ) (made meant : List Pulse) → MakesMeant b made meant
    → MakesMeant (record b { tick = t; steppers = map (slot_to t) b.steppers }) (made ++ by_tick (all_before 0 t b.steppers)) meant
passes_whole b t made meant w = record {
  same = λ oid.
      let slot = stepper_at b oid in
      rw (slots_at t oid b.steppers, only-append oid made (by_tick (all_before 0 t b.steppers)), made_at b t oid (w.rises oid))
      (append_assoc (only oid made) (slot_before oid t slot) (pending_at oid (slot_to t slot)) ∙ ap (λ x. only oid made ++ x) (slot_split oid t slot) ∙ w.same oid);
  rises = λ oid. rw (slots_at t oid b.steppers) (slot_rises b.tick t (stepper_at b oid) (w.rises oid));
}

abbrev pub KeepsTime : List Pulse → List Pulse → Passed → Type 0
KeepsTime made meant p = IsFairSofar p.board (made ++ p.pulses) meant

on_keeps : (o : BoardState) (b : Controller) (t : ℕ) (made meant : List Pulse) → b.state ≡ o → IsFairSofar b made meant → KeepsTime made meant (passes_on o b t)
on_keeps Running b t made meant e k =
    let At : BoardState → Type 0 = λ o. IsKeptIn o b made meant in
    whole_kept (record b { tick = t; steppers = map (slot_to t) b.steppers }) (made ++ by_tick (all_before 0 t b.steppers)) meant e (passes_whole b t made meant (subst At e k))
on_keeps (Shut reason tick first) b t made meant e k =
    let At : BoardState → Type 0 = λ o. IsKeptIn o b made meant in
    let On : BoardState → Type 0 = λ o. IsKeptIn o (record b { tick = t }) (made ++ []) meant in
    let cut : IsCut made meant = subst At e k in
    subst On (sym e) (rw (append-nil made) cut)

pub pass_keeps : (b : Controller) (t : ℕ) (made meant : List Pulse) → IsFairSofar b made meant → KeepsTime made meant (passes b t)
pass_keeps b t made meant k =
    elim (leb_tells b.tick t) [ inl p ↦ rw p.0 (on_keeps b.state b t made meant refl k) | inr p ↦ rw p.0 (rw (append-nil made) k) ]

pub none_at : (n oid : ℕ) → get_or (places n) oid None ≡ None
none_at zero oid = refl
none_at (suc n) zero = refl
none_at (suc n) (suc oid) = none_at n oid

pub first_kept : (b : BoardDef) → IsFairSofar (new_controller b) [] []
unfolding new_controller
first_kept b = record {
  same = λ oid. ap (λ o. pending_at oid o) (none_at 256 oid);
  rises = λ oid. rw (none_at 256 oid) tt;
}

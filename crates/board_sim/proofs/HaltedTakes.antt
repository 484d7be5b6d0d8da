-- A command of triggers cuts the steps of the steppers that it halts; the others are the steppers' board's.
use Rattle.std.proofs.Common.{◌≡◌, ◌≢◌, ℕ, ◌&&◌, not, Bool, true, false, List, [], ◌∷◌, ◌++◌, map, get_or, set, Option, Some, None, refl, ap, sym, ◌∙◌, subst, append_assoc, append-nil, ◌⊎◌, inl, inr}
use Rattle.std.specs.Prelude.{slice_index_or, if◌then◌else◌, ◌==◌}
use Rattle.std.proofs.lemmas.List.{get_or-set_other}
use Rattle.plan_types.specs.Plan.{pulse_of}
use Rattle.plan_types.specs.declared.plan.BoardState.{BoardState}
use Rattle.plan_types.specs.declared.plan.BoardState.TheVariants.{Running, Shut}
use Rattle.plan_types.specs.declared.plan.Pulse.{Pulse}
use Rattle.board_step.specs.Steps.{Pending}
use Rattle.board_trig.specs.declared.sampling.Homing.{Homing}
use Rattle.board_trig.specs.declared.trigger.Trigger.{Trigger}
use Rattle.board_trig.specs.Trigger as trig
use Rattle.msg_code.specs.declared.cmd.Cmd.{Cmd}
use Rattle.msg_code.specs.declared.cmd.Cmd.TheVariants as cmd
use Rattle.plan_types.specs.declared.plan.Triple.{Triple}
use Rattle.plan_types.specs.Board.{Group, steps_of}
use Rattle.board_sim.specs.Board.{Controller, stepper_at, with_stepper, stop, is_none_pending, refusal, takes_triple, queue_step}
use Rattle.board_sim.specs.Board as board
use Rattle.board_sim.specs.Rig.{Rig, Slot, slot_at, becomes, make_trigger, make_endstop, start_trigger, expires_at_once, set_timeout, trigger, bind, home, acts, acts_running, takes, takes_all}
use Rattle.board_sim.specs.Fair.{Meant, commands_of, only, pending_at, MakesMeant, IsCut, IsKeptIn, IsFairSofar, IsFairRunning, AreFair, steps_taken, meant_on, meant_by, meant_running}
use Rattle.board_sim.specs.Halted.{cut_at, is_halted, meant_left, left_running, meant_next, meant_behind, KeptPart}
use Rattle.board_sim.proofs.Bound.{same_or_not}
use Rattle.board_sim.proofs.Steps.{only-append, only_other}
use Rattle.board_sim.proofs.Halted.{cut_same, cut_other}
use Rattle.board_sim.proofs.HaltedTime.{Goes, goes_same, all_kept, part_of, part_cut, whole_part, halts_keep, halts_go}
use Rattle.board_sim.proofs.Keeps.{slot_set, renewed, rises_at, slot_is, none_meant}
use Rattle.board_sim.proofs.Keeps as one

abbrev Keeps : Rig → List Pulse → List Pulse → Rig → Type 0
Keeps r made meant q = IsFairSofar r.controller made meant → KeptPart q.controller made meant × Goes r.controller q.controller

as_it_is : (r : Rig) (made meant : List Pulse) → Keeps r made meant r
as_it_is r made meant k = (whole_part r.controller made meant k, goes_same r.controller)

becomes_keep : (r : Rig) (oid : ℕ) (s : Slot) (t : Trigger) (made meant : List Pulse) → Keeps r made meant (becomes r oid s t)
becomes_keep r oid s t made meant k = (halts_keep (s.trigger.can && not t.can) s.bound r.controller made meant k, halts_go (s.trigger.can && not t.can) s.bound r.controller)

made_keep : (r : Rig) (oid : ℕ) (o : Option Slot) (made meant : List Pulse) → Keeps r made meant (make_trigger r oid o)
made_keep r oid None made meant k = as_it_is r made meant k
made_keep r oid (Some s) made meant k = as_it_is r made meant k

endstop_keep : (r : Rig) (oid pin : ℕ) (o : Option ℕ) (made meant : List Pulse) → Keeps r made meant (make_endstop r oid pin o)
endstop_keep r oid pin None made meant k = as_it_is r made meant k
endstop_keep r oid pin (Some p) made meant k = as_it_is r made meant k

start_keep : (r : Rig) (oid : ℕ) (o : Option Slot) (clock every reason : ℕ) (made meant : List Pulse) → Keeps r made meant (start_trigger r oid o clock every reason)
start_keep r oid None clock every reason made meant k = as_it_is r made meant k
start_keep r oid (Some s) clock every reason made meant k = becomes_keep r oid s (trig.started r.controller.tick clock every reason s.trigger) made meant k

expires_keep : (o : Option ℕ) (r : Rig) (oid : ℕ) (s : Slot) (t : Trigger) (made meant : List Pulse) → Keeps r made meant (expires_at_once r oid s t o).rig
expires_keep None r oid s t made meant k = becomes_keep r oid s t made meant k
expires_keep (Some n) r oid s t made meant k = becomes_keep r oid s (record t { untold = None }) made meant k

timeout_keep : (r : Rig) (oid : ℕ) (o : Option Slot) (clock : ℕ) (made meant : List Pulse) → Keeps r made meant (set_timeout r oid o clock).rig
timeout_keep r oid None clock made meant k = as_it_is r made meant k
timeout_keep r oid (Some s) clock made meant k = expires_keep (trig.with_timeout r.controller.tick clock s.trigger).untold r oid s (trig.with_timeout r.controller.tick clock s.trigger) made meant k

trigger_keep : (r : Rig) (oid : ℕ) (o : Option Slot) (reason : ℕ) (made meant : List Pulse) → Keeps r made meant (trigger r oid o reason).rig
trigger_keep r oid None reason made meant k = as_it_is r made meant k
trigger_keep r oid (Some s) reason made meant k = becomes_keep r oid s (trig.triggered r.controller.tick reason s.trigger) made meant k

bind_keep : (r : Rig) (oid other : ℕ) (q : Option Pending) (o : Option Slot) (made meant : List Pulse) → Keeps r made meant (bind r oid q other o)
bind_keep r oid other None o made meant k = as_it_is r made meant k
bind_keep r oid other (Some q) None made meant k = as_it_is r made meant k
bind_keep r oid other (Some q) (Some s) made meant k = (halts_keep (not s.trigger.can) (oid ∷ []) r.controller made meant k, halts_go (not s.trigger.can) (oid ∷ []) r.controller)

home_keep : (r : Rig) (p : Option ℕ) (other : ℕ) (o : Option Slot) (h : Homing) (made meant : List Pulse) → Keeps r made meant (home r p other o h)
home_keep r None other o h made meant k = as_it_is r made meant k
home_keep r (Some p) other None h made meant k = as_it_is r made meant k
home_keep r (Some p) other (Some s) h made meant k = as_it_is r made meant k

-- the steppers' board alone
abbrev IsNoReset : Cmd → Type 0
IsNoReset (cmd.ResetStepClock oid clock) = ⊥
IsNoReset _ = Unit {0}

set_go : (b : Controller) (oid : ℕ) (q : Pending) → (q.halted ≡ false → is_halted (stepper_at b oid) ≡ false) → Goes b (with_stepper b oid q)
set_go b oid q same = record {
  ran = λ e. e;
  free = λ e j h. elim (slot_set b.steppers oid j (Some q)) [
    | inl p ↦ ap (λ (n : ℕ). is_halted (stepper_at b n)) p.0 ∙ same (sym (ap is_halted p.1) ∙ h)
    | inr p ↦ sym (ap is_halted p.0) ∙ h
  ];
}

stop_goes : (b : Controller) (reason first : ℕ) → Goes b (stop b reason first).board
stop_goes b reason first = record { ran = λ e. absurd (cc); free = λ e oid h. absurd (cc) }

taken_go : (r : Option (ℕ × ℕ)) (b : Controller) (oid : ℕ) (q : Pending) (ticks : List ℕ) → stepper_at b oid ≡ Some q → Goes b (takes_triple r b oid q ticks).board
taken_go None b oid q ticks at = set_go b oid _ (λ h. ap is_halted at ∙ h)
taken_go (Some r) b oid q ticks at = stop_goes b r.0 r.1

if_goes : (x : Bool) (b : Controller) (d f : board.Done) → Goes b d.board → Goes b f.board → Goes b (if x then d else f).board
if_goes true b d f p q = p
if_goes false b d f p q = q

push_goes : (b : Controller) (oid : ℕ) (o : Option Pending) (t : Triple) → stepper_at b oid ≡ o → Goes b (queue_step b oid o t).board
push_goes b oid None t at = goes_same b
push_goes b oid (Some q) t at = if_goes q.halted b (board.quiet b) (takes_triple (refusal b.tick q t) b oid q (_)) (goes_same b) (taken_go (refusal b.tick q t) b oid q _ at)

dir_goes : (b : Controller) (oid : ℕ) (o : Option Pending) (dir : ℕ) → stepper_at b oid ≡ o → Goes b (board.set_dir b oid o dir).board
dir_goes b oid None dir at = goes_same b
dir_goes b oid (Some q) dir at = set_go b oid (record q { up = dir == 1 }) (λ h. ap is_halted at ∙ h)

make_goes : (b : Controller) (oid : ℕ) (o : Option Pending) → stepper_at b oid ≡ o → Goes b (board.make_stepper b oid o).board
make_goes b oid None at = set_go b oid _ (λ h. ap is_halted at)
make_goes b oid (Some q) at = goes_same b

noted_goes : (b c : Controller) → c.state ≡ b.state → c.steppers ≡ b.steppers → Goes b c
noted_goes b c state steppers = record {
  ran = λ e. sym state ∙ e;
  free = λ e oid h. ap (λ (xs : List (Option Pending)). is_halted (get_or xs oid None)) (sym steppers) ∙ h;
}

acts_go : (b : Controller) (c : Cmd) → IsNoReset c → Goes b (board.acts b c).board
acts_go b (cmd.AllocateOids count) n = noted_goes b (record b { oids = count }) refl refl
acts_go b (cmd.FinalizeConfig crc) n = noted_goes b (record b { complete = true; crc = crc }) refl refl
acts_go b cmd.EmergencyStop n = stop_goes b board.command_request 0
acts_go b (cmd.ConfigStepper oid step dir invert width) n = make_goes b oid (stepper_at b oid) refl
acts_go b (cmd.QueueStep oid interval count add) n = push_goes b oid (stepper_at b oid) (record { interval = interval; count = count; add = add }) refl
acts_go b (cmd.SetNextStepDir oid dir) n = dir_goes b oid (stepper_at b oid) dir refl
acts_go b (cmd.ResetStepClock oid clock) n = absurd n
acts_go b _ n = goes_same b

running_go : (o : BoardState) (b : Controller) (c : Cmd) → IsNoReset c → Goes b (board.acts_running o b c).board
running_go Running b c n = acts_go b c n
running_go (Shut reason tick first) b c n = goes_same b

takes_go : (b : Controller) (c : Cmd) → IsNoReset c → Goes b (board.takes b c).board
takes_go b (cmd.Identify offset count) n = goes_same b
takes_go b cmd.GetConfig n = goes_same b
takes_go b cmd.GetUptime n = goes_same b
takes_go b c n = running_go b.state b c n

taken_means : (r : Option (ℕ × ℕ)) (oid j : ℕ) (up : Bool) (ticks : List ℕ) → oid ≢ j → only j (steps_taken r oid up ticks) ≡ []
taken_means None oid j up ticks d = only_other j oid (steps_of up ticks) d
taken_means (Some r) oid j up ticks d = refl

-- what a command means for a halted stepper is nothing
halted_means : (b : Controller) (oid j : ℕ) (o : Option Pending) (t : Triple) (ticks : List ℕ) → stepper_at b oid ≡ o → is_halted (stepper_at b j) ≡ true → (oid ≡ j) ⊎ (oid ≢ j) → (x : Bool) → is_halted o ≡ x → only j (meant_on b.tick oid o t ticks) ≡ []
halted_means b oid j None t ticks at h same x e = refl
halted_means b oid j (Some q) t ticks at h same true e = rw e refl
halted_means b oid j (Some q) t ticks at h (inl same) false e = let here : true ≡ false = sym h ∙ ap (λ (n : ℕ). is_halted (stepper_at b n)) (sym same) ∙ ap is_halted at ∙ e in absurd (cc)
halted_means b oid j (Some q) t ticks at h (inr d) false e = rw e (taken_means (refusal b.tick q t) oid j q.up ticks d)

none_means : (b : Controller) (c : Cmd) (ticks : List ℕ) (j : ℕ) → is_halted (stepper_at b j) ≡ true → only j (meant_by b c ticks) ≡ []
none_means b (cmd.QueueStep oid interval count add) ticks j h =
    halted_means b oid j (stepper_at b oid) (record { interval = interval; count = count; add = add }) ticks refl h (same_or_not oid j) (is_halted (stepper_at b oid)) refl
none_means b _ ticks j h = refl

-- steps that come to those that are meant
more_by : (x : Bool) (b : Controller) (made meant new : List Pulse) (k : KeptPart b made meant) (j : ℕ) → b.state ≡ Running → is_halted (stepper_at b j) ≡ x → (x ≡ true → only j new ≡ []) → (rest : List Pulse) × (only j (k.kept ++ new) ++ rest ≡ only j (meant ++ new))
more_by true b made meant new k j e h none = (
  (k.cut j).0,
  ap (λ (xs : List Pulse). xs ++ (k.cut j).0) (only-append j k.kept new ∙ ap (λ (xs : List Pulse). only j k.kept ++ xs) (none refl) ∙ append-nil (only j k.kept))
      ∙ (k.cut j).1 ∙ sym (append-nil (only j meant)) ∙ ap (λ (xs : List Pulse). only j meant ++ xs) (sym (none refl)) ∙ sym (only-append j meant new),
)
more_by false b made meant new k j e h none = (
  [],
  append-nil (only j (k.kept ++ new)) ∙ only-append j k.kept new ∙ ap (λ (xs : List Pulse). xs ++ only j new) (k.free e j h) ∙ sym (only-append j meant new),
)

more_cut : (o : BoardState) (b : Controller) (c : Cmd) (ticks : List ℕ) (made meant : List Pulse) (k : KeptPart b made meant) → b.state ≡ o → IsCut (k.kept ++ meant_running o b c ticks) (meant ++ meant_running o b c ticks)
more_cut Running b c ticks made meant k e = λ j. more_by (is_halted (stepper_at b j)) b made meant (meant_by b c ticks) k j e refl (λ h. none_means b c ticks j h)
more_cut (Shut reason tick first) b c ticks made meant k e = rw (append-nil k.kept, append-nil meant) k.cut

none_left : (b : Controller) (made meant : List Pulse) (c : Cmd) → IsNoReset c → meant_left b made meant c ≡ meant
none_left b made meant (cmd.ResetStepClock oid clock) n = absurd n
none_left b made meant _ n = refl

no_left : (o : BoardState) (b : Controller) (made meant : List Pulse) (c : Cmd) → IsNoReset c → left_running o b made meant c ≡ meant
no_left (Shut reason tick first) b made meant c n = refl
no_left Running b made meant c n = none_left b made meant c n

-- a command that sets no clock
board_keep : (b : Controller) (c : Cmd) (ticks : List ℕ) (made meant : List Pulse) → IsNoReset c → KeptPart b made meant → IsFairRunning b.state b c ticks → KeptPart (board.takes b c).board made (meant_next b made meant (record { command = c; ticks = ticks }))
board_keep b c ticks made meant n k fair =
    let new = meant_running b.state b c ticks in
    let goes = takes_go b c n in
    let part : KeptPart (board.takes b c).board made (meant ++ new) = record {
      kept = k.kept ++ new;
      is = one.command_keeps b c ticks made k.kept k.is fair;
      cut = more_cut b.state b c ticks made meant k refl;
      free = λ e j h. only-append j k.kept new ∙ ap (λ (xs : List Pulse). xs ++ only j new) (k.free (goes.ran e) j (goes.free e j h)) ∙ sym (only-append j meant new);
    } in
    subst (λ (ms : List Pulse). KeptPart (board.takes b c).board made (ms ++ new)) (sym (no_left b.state b made meant c n)) part

-- the clock of a stepper is set
no_groups : (gs : List Group) → is_none_pending gs ≡ true → gs ≡ []
no_groups [] e = refl
no_groups (g ∷ gs) e = absurd (cc)

abbrev left_at : Bool → ℕ → List Pulse → List Pulse → List Pulse
left_at x oid made meant = if x then cut_at oid made meant else meant

cut_left : (x : Bool) (oid : ℕ) (made meant : List Pulse) → IsCut made meant → IsCut made (left_at x oid made meant)
cut_left false oid made meant c = c
cut_left true oid made meant c = λ j.
    elim (same_or_not oid j) [
      | inl e ↦ ([], append-nil (only j made) ∙ subst (λ (n : ℕ). only n made ≡ only n (cut_at oid made meant)) e (sym (cut_same oid made meant)))
      | inr d ↦ ((c j).0, (c j).1 ∙ sym (cut_other oid j made meant d))
    ]

abbrev clocked : Pending → ℕ → Pending
clocked q clock = record q { last = clock; halted = false }

-- one that had no steps
same_made : (b : Controller) (oid : ℕ) (q : Pending) (made kept : List Pulse) → MakesMeant b made kept → stepper_at b oid ≡ Some q → q.groups ≡ [] → only oid kept ≡ only oid made
same_made b oid q made kept w at none =
    sym (w.same oid) ∙ ap (λ (o : Option Pending). only oid made ++ pending_at oid o) at ∙ ap (λ (gs : List Group). only oid made ++ pending_at oid (Some (record q { groups = gs }))) none ∙ append-nil (only oid made)

free_other : (b : Controller) (oid j : ℕ) (q : Pending) → oid ≢ j → is_halted (stepper_at (with_stepper b oid q) j) ≡ false → is_halted (stepper_at b j) ≡ false
free_other b oid j q d h = ap is_halted (sym (get_or-set_other b.steppers oid j (Some q) None (λ e. d (sym e)))) ∙ h

clocked_part : (x : Bool) (b : Controller) (oid clock : ℕ) (q : Pending) (made meant : List Pulse) (k : KeptPart b made meant) → b.state ≡ Running → MakesMeant b made k.kept → stepper_at b oid ≡ Some q → q.groups ≡ [] → q.halted ≡ x
    → IsFairSofar (with_stepper b oid (clocked q clock)) made k.kept → KeptPart (with_stepper b oid (clocked q clock)) made (left_at x oid made meant)
clocked_part false b oid clock q made meant k e w at none h is =
    let goes : Goes b (with_stepper b oid (clocked q clock)) = set_go b oid (clocked q clock) (λ f. ap is_halted at ∙ h) in
    record { kept = k.kept; is = is; cut = k.cut; free = λ f j n. k.free (goes.ran f) j (goes.free f j n) }
clocked_part true b oid clock q made meant k e w at none h is =
    let own : only oid k.kept ≡ only oid (cut_at oid made meant) = same_made b oid q made k.kept w at none ∙ sym (cut_same oid made meant) in
    record {
      kept = k.kept;
      is = is;
      cut = λ j. elim (same_or_not oid j) [
        | inl f ↦ ([], append-nil (only j k.kept) ∙ subst (λ (n : ℕ). only n k.kept ≡ only n (cut_at oid made meant)) f own)
        | inr d ↦ ((k.cut j).0, (k.cut j).1 ∙ sym (cut_other oid j made meant d))
      ];
      free = λ f j n. elim (same_or_not oid j) [
        | inl g ↦ subst (λ (n : ℕ). only n k.kept ≡ only n (cut_at oid made meant)) g own
        | inr d ↦ k.free e j (free_other b oid j (clocked q clock) d n) ∙ sym (cut_other oid j made meant d)
      ];
    }

reset_by : (x : Bool) (b : Controller) (oid clock : ℕ) (q : Pending) (made meant : List Pulse) → KeptPart b made meant → b.state ≡ Running → stepper_at b oid ≡ Some q → is_none_pending q.groups ≡ x
    → KeptPart (if x then board.quiet (with_stepper b oid (clocked q clock)) else stop b board.stepper_active 0).board made (left_at q.halted oid made meant)
reset_by true b oid clock q made meant k e at none =
    let w : MakesMeant b made k.kept = subst (λ (o : BoardState). IsKeptIn o b made k.kept) e k.is in
    let is : IsFairSofar (with_stepper b oid (clocked q clock)) made (k.kept ++ []) = renewed b oid (clocked q clock) made k.kept e w (slot_is b oid (Some q) at) (rises_at b oid q made k.kept w at) in
    clocked_part q.halted b oid clock q made meant k e w at (no_groups q.groups none) refl (rw (append-nil k.kept) at is)
reset_by false b oid clock q made meant k e at none = record {
  kept = made;
  is = all_kept made;
  cut = cut_left q.halted oid made meant (part_cut b made meant k);
  free = λ f j h. absurd (cc);
}

reset_part : (b : Controller) (oid clock : ℕ) (o : Option Pending) (made meant : List Pulse) → KeptPart b made meant → b.state ≡ Running → stepper_at b oid ≡ o → KeptPart (board.reset b oid o clock).board made (left_at (is_halted o) oid made meant)
reset_part b oid clock None made meant k e at = k
reset_part b oid clock (Some q) made meant k e at = reset_by (is_none_pending q.groups) b oid clock q made meant k e at refl

reset_running : (o : BoardState) (b : Controller) (oid clock : ℕ) (ticks : List ℕ) (made meant : List Pulse) → b.state ≡ o → KeptPart b made meant
    → KeptPart (board.acts_running o b (cmd.ResetStepClock oid clock)).board made (left_running o b made meant (cmd.ResetStepClock oid clock) ++ meant_running o b (cmd.ResetStepClock oid clock) ticks)
reset_running Running b oid clock ticks made meant e k = rw (append-nil (left_at (is_halted (stepper_at b oid)) oid made meant)) (reset_part b oid clock (stepper_at b oid) made meant k e refl)
reset_running (Shut reason tick first) b oid clock ticks made meant e k = rw (append-nil meant) k

-- a command of triggers
abbrev Result : Rig → Cmd → List ℕ → List Pulse → List Pulse → Controller → Type 0
Result r c ticks made meant q = KeptPart q made (meant_next r.controller made meant (record { command = c; ticks = ticks }))

by_trigger : (r q : Rig) (c : Cmd) (ticks : List ℕ) (made meant : List Pulse) → IsNoReset c → meant_by r.controller c ticks ≡ [] → ((ms : List Pulse) → Keeps r made ms q) → KeptPart r.controller made meant → Result r c ticks made meant q.controller
by_trigger r q c ticks made meant n none keeps k =
    let p = keeps k.kept k.is in
    let same : meant_next r.controller made meant (record { command = c; ticks = ticks }) ≡ meant =
    ap (λ (ms : List Pulse). left_running r.controller.state r.controller made meant c ++ ms) (none_meant r.controller.state r.controller c ticks none) ∙ append-nil (left_running r.controller.state r.controller made meant c) ∙ no_left r.controller.state r.controller made meant c n in
    subst (λ (ms : List Pulse). KeptPart q.controller made ms) (sym same) (part_of r.controller q.controller made made meant k p.1 p.0)

acts_keep : (r : Rig) (c : Cmd) (ticks : List ℕ) (made meant : List Pulse) → KeptPart r.controller made meant → IsFairRunning r.controller.state r.controller c ticks → Result r c ticks made meant (acts r c).rig.controller
acts_keep r (cmd.ResetStepClock oid clock) ticks made meant k fair = reset_running r.controller.state r.controller oid clock ticks made meant refl k
acts_keep r (cmd.ConfigTrsync oid) ticks made meant k fair = by_trigger r (make_trigger r oid (slot_at r oid)) (cmd.ConfigTrsync oid) ticks made meant tt refl (λ ms h. made_keep r oid (slot_at r oid) made ms h) k
acts_keep r (cmd.TrsyncStart oid clock every reason) ticks made meant k fair =
    by_trigger r (start_trigger r oid (slot_at r oid) clock every reason) (cmd.TrsyncStart oid clock every reason) ticks made meant tt refl (λ ms h. start_keep r oid (slot_at r oid) clock every reason made ms h) k
acts_keep r (cmd.TrsyncSetTimeout oid clock) ticks made meant k fair =
    by_trigger r (set_timeout r oid (slot_at r oid) clock).rig (cmd.TrsyncSetTimeout oid clock) ticks made meant tt refl (λ ms h. timeout_keep r oid (slot_at r oid) clock made ms h) k
acts_keep r (cmd.TrsyncTrigger oid reason) ticks made meant k fair =
    by_trigger r (trigger r oid (slot_at r oid) reason).rig (cmd.TrsyncTrigger oid reason) ticks made meant tt refl (λ ms h. trigger_keep r oid (slot_at r oid) reason made ms h) k
acts_keep r (cmd.StepperStopOnTrigger oid other) ticks made meant k fair =
    by_trigger r (bind r oid (stepper_at r.controller oid) other (slot_at r other)) (cmd.StepperStopOnTrigger oid other) ticks made meant tt refl (λ ms h. bind_keep r oid other (stepper_at r.controller oid) (slot_at r other) made ms h) k
acts_keep r (cmd.ConfigEndstop oid pin pull) ticks made meant k fair =
    by_trigger r (make_endstop r oid pin (slice_index_or r.endstops oid None)) (cmd.ConfigEndstop oid pin pull) ticks made meant tt refl (λ ms h. endstop_keep r oid pin (slice_index_or r.endstops oid None) made ms h) k
acts_keep r (cmd.EndstopHome oid clock every count rest value other reason) ticks made meant k fair =
    let h : Homing = record { clock = clock; sample_ticks = every; sample_count = count; rest_ticks = rest; pin_value = value; reason = reason } in
    by_trigger r (home r (slice_index_or r.endstops oid None) other (slot_at r other) h) (cmd.EndstopHome oid clock every count rest value other reason) ticks made meant tt refl
    (λ ms p. home_keep r (slice_index_or r.endstops oid None) other (slot_at r other) h made ms p) k
acts_keep r (cmd.Identify offset count) ticks made meant k fair = board_keep r.controller (cmd.Identify offset count) ticks made meant tt k fair
acts_keep r cmd.GetConfig ticks made meant k fair = board_keep r.controller cmd.GetConfig ticks made meant tt k fair
acts_keep r cmd.GetUptime ticks made meant k fair = board_keep r.controller cmd.GetUptime ticks made meant tt k fair
acts_keep r (cmd.IdentifyResponse offset bytes) ticks made meant k fair = board_keep r.controller (cmd.IdentifyResponse offset bytes) ticks made meant tt k fair
acts_keep r (cmd.AllocateOids count) ticks made meant k fair = board_keep r.controller (cmd.AllocateOids count) ticks made meant tt k fair
acts_keep r (cmd.FinalizeConfig crc) ticks made meant k fair = board_keep r.controller (cmd.FinalizeConfig crc) ticks made meant tt k fair
acts_keep r cmd.EmergencyStop ticks made meant k fair = board_keep r.controller cmd.EmergencyStop ticks made meant tt k fair
acts_keep r (cmd.ConfigStepper oid step dir invert width) ticks made meant k fair = board_keep r.controller (cmd.ConfigStepper oid step dir invert width) ticks made meant tt k fair
acts_keep r (cmd.QueueStep oid interval count add) ticks made meant k fair = board_keep r.controller (cmd.QueueStep oid interval count add) ticks made meant tt k fair
acts_keep r (cmd.SetNextStepDir oid dir) ticks made meant k fair = board_keep r.controller (cmd.SetNextStepDir oid dir) ticks made meant tt k fair
acts_keep r (cmd.Config is crc shut count) ticks made meant k fair = board_keep r.controller (cmd.Config is crc shut count) ticks made meant tt k fair
acts_keep r (cmd.Uptime high clock) ticks made meant k fair = board_keep r.controller (cmd.Uptime high clock) ticks made meant tt k fair
acts_keep r (cmd.TrsyncState oid can reason clock) ticks made meant k fair = board_keep r.controller (cmd.TrsyncState oid can reason clock) ticks made meant tt k fair
acts_keep r (cmd.Shutdown clock reason) ticks made meant k fair = board_keep r.controller (cmd.Shutdown clock reason) ticks made meant tt k fair
acts_keep r (cmd.IsShutdown reason) ticks made meant k fair = board_keep r.controller (cmd.IsShutdown reason) ticks made meant tt k fair

-- a board that is shut down does what its steppers' board does
reset_or : (c : Cmd) → (IsNoReset c) ⊎ ((oid : ℕ) × (clock : ℕ) × (c ≡ cmd.ResetStepClock oid clock))
reset_or (cmd.ResetStepClock oid clock) = inr (oid, clock, refl)
reset_or _ = inl tt

by_board_keep : (r : Rig) (c : Cmd) (ticks : List ℕ) (made meant : List Pulse) → KeptPart r.controller made meant → IsFairRunning r.controller.state r.controller c ticks → Result r c ticks made meant (board.takes r.controller c).board
by_board_keep r c ticks made meant k fair =
    elim (reset_or c) [
      | inl n ↦ board_keep r.controller c ticks made meant n k fair
      | inr p ↦ subst (λ (d : Cmd). Result r d ticks made meant (board.takes r.controller d).board) (sym p.2) (reset_running r.controller.state r.controller p.0 p.1 ticks made meant refl k)
    ]

running_keep : (o : BoardState) (r : Rig) (c : Cmd) (ticks : List ℕ) (made meant : List Pulse) → KeptPart r.controller made meant → IsFairRunning r.controller.state r.controller c ticks → Result r c ticks made meant (acts_running o r c).rig.controller
running_keep Running r c ticks made meant k fair = acts_keep r c ticks made meant k fair
running_keep (Shut reason tick first) r c ticks made meant k fair = by_board_keep r c ticks made meant k fair

pub command_keeps : (r : Rig) (m : Meant) (made meant : List Pulse) → KeptPart r.controller made meant → IsFairRunning r.controller.state r.controller m.command m.ticks → KeptPart (takes r m.command).rig.controller made (meant_next r.controller made meant m)
command_keeps r m made meant k fair = running_keep r.controller.state r m.command m.ticks made meant k fair

pub commands_keep : (r : Rig) (ms : List Meant) (made meant : List Pulse) → KeptPart r.controller made meant → AreFair r ms → KeptPart (takes_all r (commands_of ms)).rig.controller made (meant_behind r made meant ms)
commands_keep r [] made meant k fair = k
commands_keep r (m ∷ ms) made meant k fair = commands_keep (takes r m.command).rig ms made (meant_next r.controller made meant m) (command_keeps r m made meant k fair.0) fair.1

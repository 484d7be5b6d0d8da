-- While time passes, triggers cut the steps of the steppers that they halt.
use Rattle.std.proofs.Common.{◌≡◌, ℕ, zero, suc, ◌+◌, ◌/◌, ◌&&◌, not, Bool, true, false, List, [], ◌∷◌, ◌++◌, map, get_or, Option, Some, None, refl, ap, sym, ◌∙◌, subst, append_assoc, append-nil, inl, inr}
use Rattle.std.proofs.lemmas.Bool.Decides.{leb_tells}
use Rattle.plan_types.specs.declared.plan.BoardState.{BoardState}
use Rattle.plan_types.specs.declared.plan.BoardState.TheVariants.{Running, Shut}
use Rattle.plan_types.specs.declared.plan.Pulse.{Pulse}
use Rattle.board_step.specs.Steps.{Pending}
use Rattle.board_trig.specs.Trigger as trig
use Rattle.board_sim.specs.Board.{Controller, stepper_at, slot_to}
use Rattle.board_sim.specs.Board as board
use Rattle.board_sim.specs.Rig.{Rig, Slot, Passed, slot_at, levels_of, halt, halts, with_steppers, earliest_moment, runs_to, rests_to, happens_to, happens_at, goes_on, at_of, passes_by, pass, passes, all_left}
use Rattle.board_sim.specs.Fair.{only, pending_at, MakesMeant, IsCut, IsKeptIn, IsFairSofar}
use Rattle.board_sim.specs.Halted.{cut_all, is_halted, KeptPart}
use Rattle.board_sim.proofs.Halted.{halt_whole, halt_cuts, halt_free, halt_loses}
use Rattle.board_sim.proofs.Keeps.{pass_keeps, slots_at, kept_cut}

pub all_kept : (meant : List Pulse) → IsCut meant meant
all_kept meant oid = ([], append-nil (only oid meant))

pub cut_of : (a b c : List Pulse) → IsCut a b → IsCut b c → IsCut a c
cut_of a b c p q oid = ((p oid).0 ++ (q oid).0, sym (append_assoc (only oid a) (p oid).0 (q oid).0) ∙ ap (λ (xs : List Pulse). xs ++ (q oid).0) (p oid).1 ∙ (q oid).1)

-- a board that runs behind something ran before, and a stepper that isn't halted then wasn't before
pub record Goes (b c : Controller) : Type 0 where
  pub ran : c.state ≡ Running → b.state ≡ Running
  pub free : c.state ≡ Running → (oid : ℕ) → is_halted (stepper_at c oid) ≡ false → is_halted (stepper_at b oid) ≡ false

pub goes_same : (b : Controller) → Goes b b
goes_same b = record { ran = λ e. e; free = λ e oid h. h }

pub goes_both : (a b c : Controller) → Goes a b → Goes b c → Goes a c
goes_both a b c p q = record { ran = λ e. p.ran (q.ran e); free = λ e oid h. p.free (q.ran e) oid (q.free e oid h) }

-- what is kept of a part is a part
pub part_of : (b c : Controller) (made new meant : List Pulse) (k : KeptPart b made meant) → Goes b c → KeptPart c new k.kept → KeptPart c new meant
part_of b c made new meant k goes p = record {
  kept = p.kept;
  is = p.is;
  cut = cut_of p.kept k.kept meant p.cut k.cut;
  free = λ e oid h. p.free e oid h ∙ k.free (goes.ran e) oid (goes.free e oid h);
}

pub whole_part : (b : Controller) (made meant : List Pulse) → IsFairSofar b made meant → KeptPart b made meant
whole_part b made meant k = record { kept = meant; is = k; cut = all_kept meant; free = λ e oid h. refl }

-- halts
halted_in : (o : BoardState) (bound : List ℕ) (b : Controller) (made meant : List Pulse) → b.state ≡ o → IsKeptIn o b made meant → KeptPart (with_steppers b (halt bound b.steppers)) made meant
halted_in Running bound b made meant e w =
    let k : IsKeptIn Running (with_steppers b (halt bound b.steppers)) made (cut_all bound made meant) = halt_whole bound b made meant w in
    record {
      kept = cut_all bound made meant;
      is = subst (λ (o : BoardState). IsKeptIn o (with_steppers b (halt bound b.steppers)) made (cut_all bound made meant)) (sym e) k;
      cut = halt_cuts bound b made meant w;
      free = λ runs oid h. halt_loses bound b made meant w oid h;
    }
halted_in (Shut reason tick first) bound b made meant e c =
    whole_part (with_steppers b (halt bound b.steppers)) made meant (subst (λ (o : BoardState). IsKeptIn o (with_steppers b (halt bound b.steppers)) made meant) (sym e) c)

pub halts_keep : (x : Bool) (bound : List ℕ) (b : Controller) (made meant : List Pulse) → IsFairSofar b made meant → KeptPart (halts x bound b) made meant
halts_keep false bound b made meant k = whole_part b made meant k
halts_keep true bound b made meant k = halted_in b.state bound b made meant refl k

pub halts_go : (x : Bool) (bound : List ℕ) (b : Controller) → Goes b (halts x bound b)
halts_go false bound b = goes_same b
halts_go true bound b = record { ran = λ e. e; free = λ e oid h. halt_free bound b.steppers oid h }

happens_keep : (r : Rig) (t oid : ℕ) (o : Option Slot) (made meant : List Pulse) → IsFairSofar r.controller made meant → KeptPart (happens_to r t oid o).rig.controller made meant
happens_keep r t oid None made meant k = whole_part r.controller made meant k
happens_keep r t oid (Some s) made meant k = halts_keep (s.trigger.can && not (trig.advanced (levels_of r s.pin) t s.trigger).trigger.can) s.bound r.controller made meant k

happens_go : (r : Rig) (t oid : ℕ) (o : Option Slot) → Goes r.controller (happens_to r t oid o).rig.controller
happens_go r t oid None = goes_same r.controller
happens_go r t oid (Some s) = halts_go (s.trigger.can && not (trig.advanced (levels_of r s.pin) t s.trigger).trigger.can) s.bound r.controller

-- steps
pub same_halt : (t : ℕ) (o : Option Pending) → is_halted (slot_to t o) ≡ is_halted o
same_halt t None = refl
same_halt t (Some q) = refl

on_goes : (o : BoardState) (b : Controller) (t : ℕ) → Goes b (board.passes_on o b t).board
on_goes Running b t = record { ran = λ e. e; free = λ e oid h. sym (same_halt t (stepper_at b oid)) ∙ ap is_halted (sym (slots_at t oid b.steppers)) ∙ h }
on_goes (Shut reason tick first) b t = record { ran = λ e. e; free = λ e oid h. h }

pub passes_go : (b : Controller) (t : ℕ) → Goes b (board.passes b t).board
passes_go b t = elim (leb_tells b.tick t) [ inl p ↦ rw p.0 (on_goes b.state b t) | inr p ↦ rw p.0 (goes_same b) ]

abbrev KeepsOn : List Pulse → List Pulse → Rig → Passed → Type 0
KeepsOn made meant r p = KeptPart p.rig.controller (made ++ p.pulses) meant × Goes r.controller p.rig.controller

runs_keep : (r : Rig) (t : ℕ) (made meant : List Pulse) → IsFairSofar r.controller made meant → KeptPart (board.passes r.controller t).board (made ++ (board.passes r.controller t).pulses) meant
runs_keep r t made meant k = whole_part (board.passes r.controller t).board (made ++ (board.passes r.controller t).pulses) meant (pass_keeps r.controller t made meant k)

goes_keep : (o : Option (ℕ × ℕ)) (r : Rig) (t : ℕ) (rest : Passed) (made meant : List Pulse) → IsFairSofar r.controller made meant
    → ((made' meant' : List Pulse) → IsFairSofar (happens_at r t (at_of o)).rig.controller made' meant' → KeepsOn made' meant' (happens_at r t (at_of o)).rig rest) → KeepsOn made meant r (goes_on o (rests_to r t) (passes_by (happens_at r t (at_of o)) rest))
goes_keep None r t rest made meant k more = (runs_keep r t made meant k, passes_go r.controller t)
goes_keep (Some at) r t rest made meant k more =
    let ran = runs_to r (at.0 / 3) in
    let done = happens_to (runs_to r (at.0 / 3)).rig t at.1 (slot_at (runs_to r (at.0 / 3)).rig at.1) in
    let first : KeptPart done.rig.controller (made ++ ran.pulses) meant = happens_keep ran.rig t at.1 (slot_at ran.rig at.1) (made ++ ran.pulses) meant (pass_keeps r.controller (at.0 / 3) made meant k) in
    let last = more (made ++ ran.pulses) first.kept first.is in
    let part : KeptPart rest.rig.controller (made ++ ran.pulses ++ rest.pulses) meant = part_of done.rig.controller rest.rig.controller (made ++ ran.pulses) (made ++ ran.pulses ++ rest.pulses) meant first last.1 last.0 in (
      subst (λ (ps : List Pulse). KeptPart rest.rig.controller ps meant) (append_assoc made ran.pulses rest.pulses) part,
      goes_both r.controller done.rig.controller rest.rig.controller (goes_both r.controller ran.rig.controller done.rig.controller (passes_go r.controller (at.0 / 3)) (happens_go ran.rig t at.1 (slot_at ran.rig at.1))) last.1,
    )

steps_keep : (n : ℕ) (r : Rig) (t : ℕ) (made meant : List Pulse) → IsFairSofar r.controller made meant → KeepsOn made meant r (pass n r t)
steps_keep zero r t made meant k = (subst (λ (ps : List Pulse). KeptPart r.controller ps meant) (sym (append-nil made)) (whole_part r.controller made meant k), goes_same r.controller)
steps_keep (suc n) r t made meant k =
    goes_keep (earliest_moment r t 0 r.triggers) r t (pass n (happens_at r t (at_of (earliest_moment r t 0 r.triggers))).rig t) made meant k (λ ps ms h. steps_keep n (happens_at r t (at_of (earliest_moment r t 0 r.triggers))).rig t ps ms h)

kept_keeps : (r : Rig) (t : ℕ) (made meant : List Pulse) → IsFairSofar r.controller made meant → KeepsOn made meant r (passes r t)
kept_keeps r t made meant k =
    elim (leb_tells r.controller.tick t) [ inl p ↦ rw p.0 (steps_keep (all_left t r.triggers + 1) r t made meant k) | inr p ↦ rw p.0 (steps_keep 0 r t made meant k) ]

pub time_keeps : (r : Rig) (t : ℕ) (made meant : List Pulse) → KeptPart r.controller made meant → KeptPart (passes r t).rig.controller (made ++ (passes r t).pulses) meant
time_keeps r t made meant k =
    let p = kept_keeps r t made k.kept k.is in
    part_of r.controller (passes r t).rig.controller made (made ++ (passes r t).pulses) meant k p.1 p.0

-- what is kept, read off
pub part_cut : (b : Controller) (made meant : List Pulse) → KeptPart b made meant → IsCut made meant
part_cut b made meant k = cut_of made k.kept meant (kept_cut b.state b made k.kept k.is) k.cut

pub part_whole : (b : Controller) (made meant : List Pulse) → KeptPart b made meant → b.state ≡ Running → (oid : ℕ) → is_halted (stepper_at b oid) ≡ false → only oid made ++ pending_at oid (stepper_at b oid) ≡ only oid meant
part_whole b made meant k e oid h =
    let w : MakesMeant b made k.kept = subst (λ (o : BoardState). IsKeptIn o b made k.kept) e k.is in
    w.same oid ∙ k.free e oid h

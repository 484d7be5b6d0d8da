-- What time and halts make of a board's steppers: of the steps that pend some are made, and where a stepper is halted the
-- others are dropped.
use Rattle.std.proofs.Common.{◌≡◌, ◌≢◌, ℕ, zero, suc, Bool, true, false, ◌≤◌, ◌⊎◌, List, [], ◌∷◌, ◌++◌, length, map, get_or, set, Option, Some, None, refl, ap, sym, ◌∙◌, subst, arith, inl, inr, append_assoc, append-nil, rules}
use Rattle.laws_board.proofs.Names.{length-map, leb_tells, Running, Pulse, Pending, Controller, only}
use Rattle.std.proofs.lemmas.List.{length-set, get_or-set_other}
use Rattle.plan_types.specs.Plan.{pulse_of}
use Rattle.plan_types.specs.Board.{Group, end_of, pending_steps, groups_from}
use Rattle.board_sim.specs.Board.{Passed, stepper_at, slot_to, slot_before, emptied, passes_on}
use Rattle.board_sim.specs.Board as board
use Rattle.board_sim.specs.Rig.{halt, halts, with_steppers}
use Rattle.board_sim.specs.Fair.{IsFairSofar, GroupsRiseFrom}
use Rattle.board_sim.proofs.Bound.{same_or_not}
use Rattle.board_sim.proofs.Keeps.{slots_at, slot_split}
use Rattle.board_sim.proofs.Steps.{only-append, rise_from}
use Rattle.laws_board.proofs.sections.Counts.{ends_from, ends_fall, end_kept}
use Rattle.laws_board.proofs.sections.Passes.{AreBetween, between_append, between_wide, slot_between, passes_is, made_is}
use Rattle.plan_types.proofs.Facts.{true_false}
use Rattle.board_sim.proofs.RigShut.{both_none}
use Rattle.board_sim.proofs.Halted.{at_halted}

-- a stepper of an object id at a tick, and at a later one: it made these pulses
pub record QueueMoves (oid now later : ℕ) (q r : Pending) (ps : List Pulse) : Type 0 where
  pub slots : r.slots ≡ q.slots
  pub up : r.up ≡ q.up
  pub dropped : List Pulse
  pub made : (ps ++ map (pulse_of oid) (pending_steps r.groups)) ++ dropped ≡ map (pulse_of oid) (pending_steps q.groups)
  pub free : r.halted ≡ false → (q.halted ≡ false) × (dropped ≡ []) × (end_of r.last r.groups ≡ end_of q.last q.groups)
  pub stays : q.halted ≡ true → r.halted ≡ true
  pub empty : (q.halted ≡ true → q.groups ≡ []) → r.halted ≡ true → r.groups ≡ []
  pub rises : GroupsRiseFrom now q.groups → GroupsRiseFrom later r.groups
  pub few : (x : ℕ) → ends_from x r.groups ≤ ends_from x q.groups
  pub between : GroupsRiseFrom now q.groups → AreBetween now later ps

-- and what stands at its place, where there may be none
abbrev pub SlotMoves : ℕ → ℕ → ℕ → Option Pending → Option Pending → List Pulse → Type 0
SlotMoves oid now later None None ps = ps ≡ []
SlotMoves oid now later None (Some r) ps = ⊥
SlotMoves oid now later (Some q) None ps = ⊥
SlotMoves oid now later (Some q) (Some r) ps = QueueMoves oid now later q r ps

queue_stays : (oid now : ℕ) (q : Pending) → QueueMoves oid now now q q []
queue_stays oid now q = record {
  slots = refl;
  up = refl;
  dropped = [];
  made = append-nil (map (pulse_of oid) (pending_steps q.groups));
  free = λ e. (e, refl, refl);
  stays = λ e. e;
  empty = λ h e. h e;
  rises = λ r. r;
  few = λ x. omega arith;
  between = λ r. tt;
}

pub slot_stays : (oid now : ℕ) (o : Option Pending) → SlotMoves oid now now o o []
slot_stays oid now None = refl
slot_stays oid now (Some q) = queue_stays oid now q

-- it is halted
pub slot_empties : (oid now : ℕ) (o : Option Pending) → SlotMoves oid now now o (emptied o) []
slot_empties oid now None = refl
slot_empties oid now (Some q) = record {
  slots = refl;
  up = refl;
  dropped = map (pulse_of oid) (pending_steps q.groups);
  made = refl;
  free = λ e. absurd (true_false e);
  stays = λ e. refl;
  empty = λ h e. refl;
  rises = λ r. tt;
  few = λ x. omega arith;
  between = λ r. tt;
}

no_groups_from : (t : ℕ) (gs : List Group) → gs ≡ [] → groups_from t gs ≡ []
no_groups_from t gs e = ap (groups_from t) e

-- time passes
pub slot_runs : (oid now t : ℕ) (o : Option Pending) → SlotMoves oid now t o (slot_to t o) (slot_before oid t o)
slot_runs oid now t None = refl
slot_runs oid now t (Some q) = record {
  slots = refl;
  up = refl;
  dropped = [];
  made = append-nil (slot_before oid t (Some q) ++ map (pulse_of oid) (pending_steps (groups_from t q.groups))) ∙ slot_split oid t (Some q);
  free = λ e. (e, refl, end_kept q.last t q.groups);
  stays = λ e. e;
  empty = λ h e. no_groups_from t q.groups (h e);
  rises = λ r. rise_from now t q.groups r;
  few = λ x. ends_fall x t q.groups;
  between = λ r. slot_between oid now t (Some q) r;
}

-- one behind the other
queue_both : (oid now mid later : ℕ) (q r s : Pending) (ps qs : List Pulse) → now ≤ mid → mid ≤ later → QueueMoves oid now mid q r ps → QueueMoves oid mid later r s qs → QueueMoves oid now later q s (ps ++ qs)
queue_both oid now mid later q r s ps qs h k a b = record {
  slots = b.slots ∙ a.slots;
  up = b.up ∙ a.up;
  dropped = b.dropped ++ a.dropped;
  made =
      let last = map (pulse_of oid) (pending_steps s.groups) in
      ap (λ x. x ++ (b.dropped ++ a.dropped)) (append_assoc ps qs last) ∙ sym (append_assoc (ps ++ (qs ++ last)) b.dropped a.dropped)
      ∙ ap (λ x. x ++ a.dropped) (append_assoc ps (qs ++ last) b.dropped ∙ ap (λ x. ps ++ x) b.made) ∙ a.made;
  free = λ e.
      let (runs, none, same) = b.free e in
      let (ran, nothing, was) = a.free runs in
      (ran, ap (λ x. x ++ a.dropped) none ∙ nothing, same ∙ was);
  stays = λ e. b.stays (a.stays e);
  empty = λ given e. b.empty (a.empty given) e;
  rises = λ r. b.rises (a.rises r);
  few = λ x. omega (arith, a.few x, b.few x);
  between = λ rise. between_append now later ps qs (between_wide now mid now later ps (omega arith) k (a.between rise)) (between_wide mid later now later qs h (omega arith) (b.between (a.rises rise)));
}

pub slot_both : (oid now mid later : ℕ) (a b c : Option Pending) (ps qs : List Pulse) → now ≤ mid → mid ≤ later → SlotMoves oid now mid a b ps → SlotMoves oid mid later b c qs → SlotMoves oid now later a c (ps ++ qs)
slot_both oid now mid later a b c ps qs p9 p10 p11 p12 = search (rules, both_none, queue_both)

-- a board that stays in its state, and each of its steppers
pub record BoardMoves (b c : Controller) (ps : List Pulse) : Type 0 where
  pub state : c.state ≡ b.state
  pub slots : c.slots ≡ b.slots
  pub places : length c.steppers ≡ length b.steppers
  pub later : b.tick ≤ c.tick
  pub each : (oid : ℕ) → SlotMoves oid b.tick c.tick (stepper_at b oid) (stepper_at c oid) (only oid ps)

pub board_stays : (b : Controller) → BoardMoves b b []
board_stays b = record { state = refl; slots = refl; places = refl; later = omega arith; each = λ oid. slot_stays oid b.tick (stepper_at b oid) }

pub board_both : (a b c : Controller) (ps qs : List Pulse) → BoardMoves a b ps → BoardMoves b c qs → BoardMoves a c (ps ++ qs)
board_both a b c ps qs x y = search (rules, only-append, slot_both, only)

one_halt : (b : Controller) (i oid : ℕ) → (i ≡ oid) ⊎ (i ≢ oid) → SlotMoves oid b.tick b.tick (stepper_at b oid) (get_or (set b.steppers i (emptied (get_or b.steppers i None))) oid None) []
one_halt b i oid p3 = search (rules, at_halted, slot_empties, get_or-set_other, slot_stays)

halt_moves : (is : List ℕ) (b : Controller) → BoardMoves b (with_steppers b (halt is b.steppers)) []
halt_moves [] b = board_stays b
halt_moves (i ∷ is) b =
    let c = with_steppers b (set b.steppers i (emptied (get_or b.steppers i None))) in
    let first : BoardMoves b c [] = record {
      state = refl;
      slots = refl;
      places = length-set b.steppers i (emptied (get_or b.steppers i None));
      later = omega arith;
      each = λ oid. one_halt b i oid (same_or_not i oid);
    } in
    board_both b c (with_steppers c (halt is c.steppers)) [] [] first (halt_moves is c)

pub halts_move : (x : Bool) (bound : List ℕ) (b : Controller) → BoardMoves b (halts x bound b) []
halts_move false bound b = board_stays b
halts_move true bound b = halt_moves bound b

-- a board runs on
on_moves : (b : Controller) (t : ℕ) (made meant : List Pulse) → b.state ≡ Running → b.tick ≤ t → IsFairSofar b made meant → BoardMoves b (passes_on Running b t).board (passes_on Running b t).pulses
on_moves b t made meant running h k = record {
  state = refl;
  slots = refl;
  places = length-map b.steppers (slot_to t);
  later = h;
  each = λ oid.
      let same = passes_is b t running h in
      let is : only oid (passes_on Running b t).pulses ≡ slot_before oid t (stepper_at b oid) =
      ap (λ (x : Passed). only oid x.pulses) (sym same) ∙ made_is b t oid made meant running h k in
      rw (slots_at t oid b.steppers, is) (slot_runs oid b.tick t (stepper_at b oid));
}

pub board_runs_on : (b : Controller) (t : ℕ) (made meant : List Pulse) → b.state ≡ Running → IsFairSofar b made meant → BoardMoves b (board.passes b t).board (board.passes b t).pulses
board_runs_on b t made meant running k =
    elim (leb_tells b.tick t) [
      | inl p ↦
          let At : Passed → Type 0 = λ x. BoardMoves b x.board x.pulses in
          subst At (sym (passes_is b t running p.1)) (on_moves b t made meant running p.1 k)
      | inr p ↦ rw p.0 (board_stays b)
    ]

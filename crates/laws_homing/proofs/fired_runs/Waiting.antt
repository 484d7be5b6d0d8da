-- A stepper that waits to be bound to a trigger that can't trigger is halted before the board takes a step of it.
use Rattle.std.proofs.Common.{◌≡◌, ℕ, ◌⊎◌, inl, inr, false, true, List, [], ◌∷◌, ◌++◌, refl, ap, sym, ◌∙◌, subst, append_assoc}
use Rattle.laws_board.proofs.Names.{BoardState, Running, Shut, Cmd, Meant, commands_of, Rig, acts_running, passes, slot_at, takes, takes_all, Event, IsOrdered, Core, Step, Do, Turn, does, after_event, in_turn, takes_in, cons_same}
use Rattle.msg_code.specs.declared.cmd.Cmd.TheVariants as cmd
use Rattle.board_sim.specs.Board.{stepper_at}
use Rattle.board_sim.specs.RigRuns.{IsHalted, IsThere}
use Rattle.board_sim.proofs.RigPlaces.{halted_is, is_halted, is_there, there_is}
use Rattle.board_sim.proofs.RigStates.{passes_state}
use Rattle.board_world.specs.declared.event.Event.TheVariants as event
use Rattle.board_world.specs.World.{orders_of}
use Rattle.board_world.proofs.Runs.{ordered_by, ordered_turn}
use Rattle.laws_homing.specs.home_runs.Guards.{AreCalm, HasFired}
use Rattle.laws_homing.proofs.home_runs.Firing.{left_by}
use Rattle.laws_homing.proofs.home_runs.Guarding.{Next, fired_next, guard_halts, passes_next, takes_next}
use Rattle.laws_homing.proofs.home_runs.Staging.{bound_is}
use Rattle.laws_homing.proofs.home_runs.Staying.{takes_stay}
use Rattle.laws_homing.proofs.clear_boards.Turned.{ran}
use Rattle.laws_board.specs.sections.Finds.{AllFindHalted, AllSetNot, FindsHalted, SetsNot, StepsFindHalted}
use Rattle.laws_homing.specs.fired_runs.Waiting.{AllStepNot, StepsNot}

-- A trigger that can't trigger stands, and of the commands that are left one binds the stepper to it; those before it start it not, and hold no step of the
-- stepper.
pub record Waits (i j : ℕ) (left : List Meant) (r : Rig) : Type 0 where
  pub fired : HasFired j r
  pub there : IsThere (stepper_at r.controller i)
  pub front : List Meant
  pub bind : Meant
  pub back : List Meant
  pub are : left ≡ front ++ bind ∷ back
  pub binds : bind.command ≡ cmd.StepperStopOnTrigger i j
  pub calm : AreCalm i j front
  pub none : AllStepNot i front

-- so a stepper, or it is halted, or its board doesn't run
abbrev pub Settles : ℕ → ℕ → List Meant → Rig → Type 0
Settles i j left r = (r.controller.state ≡ Running → ⊥) ⊎ (IsHalted (stepper_at r.controller i) ⊎ Waits i j left r)

waits_next : (i j : ℕ) (r q : Rig) (left : List Meant) (w : Waits i j left r) (front more : List Meant) → Next i j r q → more ≡ front ++ w.bind ∷ w.back → AreCalm i j front → AllStepNot i front → Waits i j more q
waits_next i j r q left w front more x are calm none = record {
  fired = fired_next i j r q x w.fired;
  there = is_there false (stepper_at q.controller i) (x.keep false (there_is (stepper_at r.controller i) w.there));
  front = front;
  bind = w.bind;
  back = w.back;
  are = are;
  binds = w.binds;
  calm = calm;
  none = none;
}

-- more commands are queued
waits_more : (i j : ℕ) (left more : List Meant) (r : Rig) → Settles i j left r → Settles i j (left ++ more) r
waits_more i j left more r (inl n) = inl n
waits_more i j left more r (inr (inl h)) = inr (inl h)
waits_more i j left more r (inr (inr w)) =
    inr (inr (record {
      fired = w.fired;
      there = w.there;
      front = w.front;
      bind = w.bind;
      back = w.back ++ more;
      are = ap (λ (l : List Meant). l ++ more) w.are ∙ append_assoc w.front (w.bind ∷ w.back) more;
      binds = w.binds;
      calm = w.calm;
      none = w.none;
    }))

-- a command
running_or : (o : BoardState) → (o ≡ Running) ⊎ (o ≡ Running → ⊥)
running_or Running = inl refl
running_or (Shut reason tick first) = inr (λ e. cc)

finds_halted : (i : ℕ) (r : Rig) (c : Cmd) → IsHalted (stepper_at r.controller i) → FindsHalted i r c
finds_halted i r (cmd.QueueStep oid interval count add) h = λ runs same. h
finds_halted i r c h = tt

finds_none : (i : ℕ) (r : Rig) (c : Cmd) → (r.controller.state ≡ Running → ⊥) → FindsHalted i r c
finds_none i r (cmd.QueueStep oid interval count add) n = λ runs same. absurd (n runs)
finds_none i r c n = tt

finds_not : (i : ℕ) (r : Rig) (c : Cmd) → StepsNot i c → FindsHalted i r c
finds_not i r (cmd.QueueStep oid interval count add) n = λ runs same. absurd (n same)
finds_not i r c n = tt

bound_halts : (i j : ℕ) (r : Rig) → r.controller.state ≡ Running → HasFired j r → IsThere (stepper_at r.controller i) → IsHalted (stepper_at (takes r (cmd.StepperStopOnTrigger i j)).rig.controller i)
bound_halts i j r runs f there =
    let c = cmd.StepperStopOnTrigger i j in
    let At : BoardState → Type 0 = λ o. HasFired j (acts_running o r c).rig → IsHalted (stepper_at (acts_running o r c).rig.controller i) in
    let bound = bound_is i j r (stepper_at r.controller i) (slot_at r j) refl refl there (record { slot = f.slot; is = f.is }) in
    let here : At Running = λ fired. guard_halts (acts_running Running r c).rig i j bound fired in
    subst At (sym runs) here (fired_next i j r (takes r c).rig (takes_next i j r c tt) f)

one_waits : (i j : ℕ) (r : Rig) (m : Meant) (left : List Meant) (w : Waits i j (m ∷ left) r) → (front : List Meant) → m ∷ left ≡ front ++ w.bind ∷ w.back → AreCalm i j front → AllStepNot i front
    → FindsHalted i r m.command × (SetsNot i m.command → Settles i j left (takes r m.command).rig)
one_waits i j r m left w [] are calm none =
    let same = (cons_same m w.bind left w.back are).0 in
    let is : cmd.StepperStopOnTrigger i j ≡ m.command = sym (ap (λ (x : Meant). x.command) same ∙ w.binds) in
    let Finds : Cmd → Type 0 = λ c. FindsHalted i r c in
    let Next_is : Cmd → Type 0 = λ c. Settles i j left (takes r c).rig in
    let stop = cmd.StepperStopOnTrigger i j in (
      subst Finds is tt,
      λ sets. subst Next_is is (elim (running_or r.controller.state) [ inl runs ↦ inr (inl (bound_halts i j r runs w.fired w.there)) | inr n ↦ inl (λ runs. n (ran r (stop ∷ []) runs)) ]),
    )
one_waits i j r m left w (y ∷ front) are calm none =
    let same = cons_same m y left (front ++ w.bind ∷ w.back) are in
    let Finds : Meant → Type 0 = λ x. FindsHalted i r x.command in
    let After : Meant → Type 0 = λ x. Settles i j left (takes r x.command).rig in (
      subst Finds (sym same.0) (finds_not i r y.command none.0),
      λ sets. subst After (sym same.0) (inr (inr (waits_next i j r (takes r y.command).rig (m ∷ left) w front left (takes_next i j r y.command calm.0) same.1 calm.1 none.1))),
    )

one_settles : (i j : ℕ) (r : Rig) (m : Meant) (left : List Meant) → Settles i j (m ∷ left) r → FindsHalted i r m.command × (SetsNot i m.command → Settles i j left (takes r m.command).rig)
one_settles i j r m left (inl n) = (finds_none i r m.command n, λ sets. inl (λ runs. n (ran r (m.command ∷ []) runs)))
one_settles i j r m left (inr (inl h)) =
    (finds_halted i r m.command h, λ sets. inr (inl (is_halted (stepper_at (takes r m.command).rig.controller i) (takes_stay i r m.command sets (halted_is (stepper_at r.controller i) h)))))
one_settles i j r m left (inr (inr w)) = one_waits i j r m left w w.front w.are w.calm w.none

all_settle : (i j : ℕ) (r : Rig) (ms left : List Meant) → Settles i j (ms ++ left) r → AllFindHalted i r ms × (AllSetNot i ms → Settles i j left (takes_all r (commands_of ms)).rig)
all_settle i j r [] left s = (tt, λ sets. s)
all_settle i j r (m ∷ ms) left s =
    let one = one_settles i j r m (ms ++ left) s in
    ((one.0, λ sets. (all_settle i j (takes r m.command).rig ms left (one.1 sets)).0), λ sets. (all_settle i j (takes r m.command).rig ms left (one.1 sets.0)).1 sets.1)

-- time
time_settles : (i j : ℕ) (r : Rig) (t : ℕ) (left : List Meant) → Settles i j left r → Settles i j left (passes r t).rig
time_settles i j r t left (inl n) = inl (λ runs. n (sym (passes_state r t) ∙ runs))
time_settles i j r t left (inr (inl h)) = inr (inl (is_halted (stepper_at (passes r t).rig.controller i) ((passes_next i j r t).keep true (halted_is (stepper_at r.controller i) h))))
time_settles i j r t left (inr (inr w)) = inr (inr (waits_next i j r (passes r t).rig left w w.front left (passes_next i j r t) w.are w.calm w.none))

-- an event
event_settles : (i j : ℕ) (h : Core) (e : Event) (left : List Meant) → Settles i j (takes_in h e ++ left) h.board → AllFindHalted i h.board (takes_in h e) × (AllSetNot i (takes_in h e) → Settles i j left (does h e).board)
event_settles i j h (event.Pass t) left s = (tt, λ sets. time_settles i j h.board t left s)
event_settles i j h event.Arrive left s = all_settle i j h.board (takes_in h event.Arrive) left s
event_settles i j h event.Repeat left s = all_settle i j h.board (takes_in h event.Repeat) left s
event_settles i j h c left s = (tt, λ sets. s)

-- and some steps
pub steps_settle : (i j : ℕ) (steps : List Step) (h : Core) (left : List Meant) → IsOrdered h → h.taken ++ left ≡ h.queued → Settles i j left h.board → StepsFindHalted i h steps
steps_settle i j [] h left o rest s = tt
steps_settle i j (Do e ∷ steps) h left o rest s =
    let next = ordered_by h e o in
    let l = left_by h e left next rest in
    let more = subst (λ (x : List Meant). Settles i j x h.board) (sym l.1) (waits_more i j left (orders_of e) h.board s) in
    let done = event_settles i j h e l.0 more in
    (done.0, λ sets. steps_settle i j steps (after_event h e) l.0 next l.2 (done.1 sets))
steps_settle i j (Turn turn ∷ steps) h left o rest s = steps_settle i j steps (in_turn h turn) left (ordered_turn h turn o) rest s

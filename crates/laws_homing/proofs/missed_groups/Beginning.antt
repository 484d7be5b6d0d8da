-- A member's board takes the set-up of a homing section: its trigger minds the readings of the section.
use Rattle.std.proofs.Common.{◌≡◌, ℕ, ◌*◌, ◌/◌, ◌==◌, ◌⊎◌, inl, inr, Bool, true, false, List, [], ◌∷◌, ◌++◌, get_or, set, map, take, Option, Some, None, refl, ap, sym, ◌∙◌, subst, arith}
use Rattle.std.specs.Prelude.{if◌then◌else◌, slice_index_or}
use Rattle.laws_board.proofs.Names.{get_or-set_same, Level, AxisDef, Machine, BoardState, Running, Shut, nearest, Clocks, board_at, turn_tick, Cmd, trigger_of, Pending, Sampling, Trigger, Rig, Slot, acts, acts_running, becomes, expires_at_once, set_timeout, slot_at, takes, takes_all, slot_range, Ctl, Order, Starts, Seen, round_of, steppers, commands_to, low, order_command}
use Rattle.plan_types.specs.Machines as machine
use Rattle.msg_code.specs.declared.cmd.Cmd.TheVariants as cmd
use Rattle.board_trig.specs.Kept.{MovesOn}
use Rattle.board_trig.specs.Trigger as trig
use Rattle.board_sim.specs.Board.{stepper_at}
use Rattle.board_sim.specs.Rig.{bind, start_trigger}
use Rattle.trigger_group.specs.declared.order.Order.TheVariants as order
use Rattle.trigger_group.specs.Group.{orders_to, stop}
use Rattle.laws_homing.specs.clear_boards.Alive.{RelayNone}
use Rattle.laws_homing.specs.clear_boards.Turned.{AreSentBehind, IsSentBehind, Relays}
use Rattle.laws_homing.specs.missed_groups.Minds.{Hits, Minds}
use Rattle.laws_homing.proofs.missed_groups.Minding.{Minded, times_minded}

-- readings are complete at no tick
abbrev pub Never : ℕ → Type 0
Never x = ⊥

-- a trigger rests: it can't trigger, all is told of it, it has no timeout and reads nothing
pub record IsOff (s : Slot) : Type 0 where
  pub can : s.trigger.can ≡ false
  pub told : s.trigger.untold ≡ None
  pub idle : s.trigger.timeout ≡ None
  pub none : s.trigger.sampling ≡ None

pub record RestsOf (oid : ℕ) (r : Rig) : Type 0 where
  pub slot : Slot
  pub is : slot_at r oid ≡ Some slot
  pub off : IsOff slot

no_hits : (levels : List Level) (o : Option Sampling) (x : ℕ) → o ≡ None → Hits levels o x → ⊥
no_hits levels o x none h = let bad : None ≡ Some h.0 = sym none ∙ h.1 in cc

module _ (oid : ℕ) (Q : Type 0) where
  -- a trigger that rests, or reads nothing
  abbrev pub Blank : Rig → Type 0
  Blank r = RestsOf oid r ⊎ Minded oid Never Q r

  minded_set : (T : ℕ → Type 0) (r q : Rig) (s u : Slot) → slot_at r oid ≡ Some s → q.triggers ≡ set r.triggers oid (Some u) → q.pins ≡ r.pins → Minds T Q r.pins u → Minded oid T Q q
  minded_set T r q s u there e pins k = record {
    slot = u;
    is = ap (λ (xs : List (Option Slot)). get_or xs oid None) e ∙ get_or-set_same r.triggers oid (Some u) None (slot_range r.triggers oid s there);
    minds = subst (λ (ps : List (List Level)). Minds T Q ps u) (sym pins) k;
  }

  rests_set : (r q : Rig) (s u : Slot) → slot_at r oid ≡ Some s → q.triggers ≡ set r.triggers oid (Some u) → IsOff u → RestsOf oid q
  rests_set r q s u there e k = record { slot = u; is = ap (λ (xs : List (Option Slot)). get_or xs oid None) e ∙ get_or-set_same r.triggers oid (Some u) None (slot_range r.triggers oid s there); off = k }

  -- the start
  starts_slot : (r : Rig) (clock every : ℕ) (s : Slot) → slot_at r oid ≡ Some s → s.trigger.untold ≡ None → ((x : ℕ) → Hits (slice_index_or r.pins s.pin []) s.trigger.sampling x → ⊥) → MovesOn s.trigger.sampling
      → ((y : Sampling) → s.trigger.sampling ≡ Some y → y.reason ≡ 1) → Blank (acts r (cmd.TrsyncStart oid clock every 2)).rig
  starts_slot r clock every s there told none moves reads =
      let t = trig.started r.controller.tick clock every 2 s.trigger in
      let By : Option Slot → Type 0 = λ o. Blank (start_trigger r oid o clock every 2) in
      subst By (sym there)
      (inr (minded_set Never r (becomes r oid s t) s (record s { trigger = t }) there refl refl
      (record { told = told; moves = moves; idle = λ e. absurd (cc); blind = λ e. absurd (cc); expire = refl; reads = reads; to = λ can x h. none x h; of = λ can x h. absurd h; fired = λ e. absurd (cc) })))

  starts : (r : Rig) (clock every : ℕ) → Blank r → Blank (acts r (cmd.TrsyncStart oid clock every 2)).rig
  starts r clock every (inl k) =
      let off = k.off in
      starts_slot r clock every k.slot k.is off.told (λ x h. no_hits (slice_index_or r.pins k.slot.pin []) k.slot.trigger.sampling x off.none h) (subst MovesOn (sym off.none) tt) (λ y is. absurd (let bad : None ≡ Some y = sym off.none ∙ is in cc))
  starts r clock every (inr k) = starts_slot r clock every k.slot k.is k.minds.told (λ x h. by k.slot.trigger.can refl x h) k.minds.moves k.minds.reads
    where
      by : (b : Bool) → k.slot.trigger.can ≡ b → (x : ℕ) → Hits (slice_index_or r.pins k.slot.pin []) k.slot.trigger.sampling x → ⊥
      by true can x h = k.minds.to can x h
      by false can x h = no_hits (slice_index_or r.pins k.slot.pin []) k.slot.trigger.sampling x (k.minds.blind can) h

  -- a timeout
  rests_at_once : (r : Rig) (s : Slot) (t : Trigger) (o : Option ℕ) → slot_at r oid ≡ Some s → o ≡ None → IsOff (record s { trigger = t }) → RestsOf oid (expires_at_once r oid s t o).rig
  rests_at_once r s t None there e k = rests_set r (becomes r oid s t) s (record s { trigger = t }) there refl k
  rests_at_once r s t (Some n) there e k = absurd (cc)

  times : (r : Rig) (clock : ℕ) → Blank r → Blank (acts r (cmd.TrsyncSetTimeout oid clock)).rig
  times r clock (inl k) =
      let By : Option Slot → Type 0 = λ o. RestsOf oid (set_timeout r oid o clock).rig in
      let same : (b : Bool) → k.slot.trigger.can ≡ b → b ≡ false → (if b then trig.limited r.controller.tick (nearest r.controller.tick clock) k.slot.trigger else k.slot.trigger) ≡ k.slot.trigger = if_off in
      let t_is = same k.slot.trigger.can refl k.off.can in
      let Off : Trigger → Type 0 = λ t. RestsOf oid (expires_at_once r oid k.slot t t.untold).rig in
      inl (subst By (sym k.is) (subst Off (sym t_is) (rests_at_once r k.slot k.slot.trigger k.slot.trigger.untold k.is k.off.told k.off)))
    where
      if_off : (b : Bool) → k.slot.trigger.can ≡ b → b ≡ false → (if b then trig.limited r.controller.tick (nearest r.controller.tick clock) k.slot.trigger else k.slot.trigger) ≡ k.slot.trigger
      if_off true e f = absurd (cc)
      if_off false e f = refl
  times r clock (inr k) = inr (times_minded oid Never Q r clock k (λ can x h. absurd h))

  -- a stepper that is bound
  bound_minds : (T : ℕ → Type 0) (i : ℕ) (pins : List (List Level)) (s : Slot) → Minds T Q pins s → Minds T Q pins (record s { bound = i ∷ s.bound })
  bound_minds T i pins s k = record { told = k.told; moves = k.moves; idle = k.idle; blind = k.blind; expire = k.expire; reads = k.reads; to = k.to; of = k.of; fired = k.fired }

  binds_minded : (T : ℕ → Type 0) (r : Rig) (i : ℕ) → Minded oid T Q r → Minded oid T Q (acts r (cmd.StepperStopOnTrigger i oid)).rig
  binds_minded T r i k = by (stepper_at r.controller i)
    where
      by : (p : Option Pending) → Minded oid T Q (bind r i p oid (slot_at r oid))
      by None = k
      by (Some p) =
          let By : Option Slot → Type 0 = λ o. Minded oid T Q (bind r i (Some p) oid o) in
          subst By (sym k.is) (minded_set T r (bind r i (Some p) oid (Some k.slot)) k.slot (record k.slot { bound = i ∷ k.slot.bound }) k.is refl refl (bound_minds T i r.pins k.slot k.minds))

  binds_rests : (r : Rig) (i : ℕ) → RestsOf oid r → RestsOf oid (acts r (cmd.StepperStopOnTrigger i oid)).rig
  binds_rests r i k = by (stepper_at r.controller i)
    where
      by : (p : Option Pending) → RestsOf oid (bind r i p oid (slot_at r oid))
      by None = k
      by (Some p) =
          let By : Option Slot → Type 0 = λ o. RestsOf oid (bind r i (Some p) oid o) in
          let off = k.off in
          subst By (sym k.is) (rests_set r (bind r i (Some p) oid (Some k.slot)) k.slot (record k.slot { bound = i ∷ k.slot.bound }) k.is refl (record { can = off.can; told = off.told; idle = off.idle; none = off.none }))

  -- by a board that runs, or not
  taken : (P : Rig → Type 0) (r : Rig) (c : Cmd) → P (acts r c).rig → ((reason tick first : ℕ) → P (acts_running (Shut reason tick first) r c).rig) → P (takes r c).rig
  taken P r c k other = by r.controller.state
    where
      by : (o : BoardState) → P (acts_running o r c).rig
      by Running = k
      by (Shut reason tick first) = other reason tick first

  same_blank : (r : Rig) (c : Cmd) (reason tick first : ℕ) → Blank r → Blank (acts_running (Shut reason tick first) r c).rig
  same_blank r c reason tick first (inl k) = inl (record { slot = k.slot; is = k.is; off = k.off })
  same_blank r c reason tick first (inr k) = inr (record { slot = k.slot; is = k.is; minds = k.minds })

  -- what else a board is sent
  other_minded : (T : ℕ → Type 0) (r : Rig) (c : Cmd) → ((clock : ℕ) → IsSentBehind oid clock c) → (Relays c → ⊥) → Minded oid T Q r → Minded oid T Q (acts r c).rig
  other_minded T r (cmd.TrsyncSetTimeout o at) k none h = absurd (let zero_is = (k 0).1 in let one = (k 1).1 in omega (arith, zero_is, one))
  other_minded T r (cmd.TrsyncTrigger o reason) k none h = absurd (none tt)
  other_minded T r (cmd.ConfigTrsync o) k none h = absurd (k 0)
  other_minded T r (cmd.TrsyncStart o at every_so reason) k none h = absurd (k 0)
  other_minded T r (cmd.StepperStopOnTrigger i o) k none h = absurd (k 0)
  other_minded T r (cmd.ConfigEndstop o pin pull) k none h = absurd (k 0)
  other_minded T r (cmd.EndstopHome o at sample count rest value t reason) k none h = absurd (k 0)
  other_minded T r c k none h = record { slot = h.slot; is = h.is; minds = h.minds }

  pub others_minded : (T : ℕ → Type 0) (r : Rig) (cs : List Cmd) → ((clock : ℕ) → AreSentBehind oid clock cs) → RelayNone cs → Minded oid T Q r → Minded oid T Q (takes_all r cs).rig
  others_minded T r [] k none h = h
  others_minded T r (c ∷ cs) k none h =
      others_minded T (takes r c).rig cs (λ clock. (k clock).1) none.1
      (taken (Minded oid T Q) r c (other_minded T r c (λ clock. (k clock).0) none.0 h) (λ reason tick first. record { slot = h.slot; is = h.is; minds = h.minds }))

  other_rests : (r : Rig) (c : Cmd) → ((clock : ℕ) → IsSentBehind oid clock c) → (Relays c → ⊥) → RestsOf oid r → RestsOf oid (acts r c).rig
  other_rests r (cmd.TrsyncSetTimeout o at) k none h = absurd (let zero_is = (k 0).1 in let one = (k 1).1 in omega (arith, zero_is, one))
  other_rests r (cmd.TrsyncTrigger o reason) k none h = absurd (none tt)
  other_rests r (cmd.ConfigTrsync o) k none h = absurd (k 0)
  other_rests r (cmd.TrsyncStart o at every_so reason) k none h = absurd (k 0)
  other_rests r (cmd.StepperStopOnTrigger i o) k none h = absurd (k 0)
  other_rests r (cmd.ConfigEndstop o pin pull) k none h = absurd (k 0)
  other_rests r (cmd.EndstopHome o at sample count rest value t reason) k none h = absurd (k 0)
  other_rests r c k none h = record { slot = h.slot; is = h.is; off = h.off }

  pub others_blank : (r : Rig) (cs : List Cmd) → ((clock : ℕ) → AreSentBehind oid clock cs) → RelayNone cs → Blank r → Blank (takes_all r cs).rig
  others_blank r [] k none h = h
  others_blank r (c ∷ cs) k none h =
      others_blank (takes r c).rig cs (λ clock. (k clock).1) none.1
      (taken Blank r c (elim h [ inl x ↦ inl (other_rests r c (λ clock. (k clock).0) none.0 x) | inr x ↦ inr (other_minded Never r c (λ clock. (k clock).0) none.0 x) ]) (λ reason tick first. same_blank r c reason tick first h))

-- the orders of the turn in which a section starts a board's trigger
module _ (m : Machine) (clocks : Clocks) (b start : ℕ) (axis : AxisDef) (Q : Type 0) where
  abbrev Commands : List Ctl → List Cmd
  Commands ctls = commands_to m clocks b start axis ctls

  abbrev BlankAt : Rig → Type 0
  BlankAt r = Blank (trigger_of m b) Q r

  -- orders that neither trigger nor read a switch
  abbrev IsFirst : Order → Type 0
  IsFirst order.Home = ⊥
  IsFirst order.Trigger = ⊥
  IsFirst (order.Reset i) = ⊥
  IsFirst o = Unit {0}

  abbrev AllFirst : List Ctl → Type 0
  AllFirst [] = Unit {0}
  AllFirst (c ∷ cs) = IsFirst c.what × AllFirst cs

  first_both : (xs ys : List Ctl) → AllFirst xs → AllFirst ys → AllFirst (xs ++ ys)
  first_both [] ys k l = l
  first_both (x ∷ xs) ys k l = (k.0, first_both xs ys k.1 l)

  stops_first : (x : Seen) (is : List ℕ) → AllFirst (map (stop x) is)
  stops_first x [] = tt
  stops_first x (i ∷ is) = (tt, stops_first x is)

  starts_first : (timeout : ℕ) (xs : List Seen) → AllFirst (round_of (Starts timeout) xs)
  starts_first timeout [] = tt
  starts_first timeout (x ∷ xs) = first_both (orders_to (Starts timeout) x) (round_of (Starts timeout) xs) (tt, (tt, stops_first x (take 8 (steppers x)))) (starts_first timeout xs)

  first_one : (what : Order) (r : Rig) → IsFirst what → BlankAt r → BlankAt (acts r (order_command m clocks b start axis what)).rig
  first_one (order.Stop i) r k (inl h) = inl (binds_rests (trigger_of m b) Q r (machine.stepper_at m i).oid h)
  first_one (order.Stop i) r k (inr h) = inr (binds_minded (trigger_of m b) Q Never r (machine.stepper_at m i).oid h)
  first_one order.Start r k h = starts (trigger_of m b) Q r (low (turn_tick clocks start)) ((board_at m b).freq * 5 / 1_000) h
  first_one (order.Timeout turn) r k h = times (trigger_of m b) Q r (low (turn_tick clocks turn)) h
  first_one c r k h = absurd k

  first_to : (here : Bool) (what : Order) (rest : List Cmd) (r : Rig) → IsFirst what → ((q : Rig) → BlankAt q → BlankAt (takes_all q rest).rig) → BlankAt r → BlankAt (takes_all r ((if here then order_command m clocks b start axis what ∷ [] else []) ++ rest)).rig
  first_to true what rest r k more h =
      let c = order_command m clocks b start axis what in
      more (takes r c).rig (taken (trigger_of m b) Q BlankAt r c (first_one what r k h) (λ reason tick first. same_blank (trigger_of m b) Q r c reason tick first h))
  first_to false what rest r k more h = more r h

  firsts : (ctls : List Ctl) (r : Rig) → AllFirst ctls → BlankAt r → BlankAt (takes_all r (Commands ctls)).rig
  firsts [] r k h = h
  firsts (c ∷ ctls) r k h = first_to (c.board == b) c.what (Commands ctls) r k.0 (λ q x. firsts ctls q k.1 x) h

  pub begun_blank : (timeout : ℕ) (xs : List Seen) (r : Rig) → BlankAt r → BlankAt (takes_all r (Commands (round_of (Starts timeout) xs))).rig
  begun_blank timeout xs r h = firsts (round_of (Starts timeout) xs) r (starts_first timeout xs) h

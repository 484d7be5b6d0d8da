-- In the turn in which a member's board is told to read its switch, its trigger minds these readings from the section's start on.
use Rattle.std.proofs.Common.{◌≡◌, ℕ, ◌*◌, ◌/◌, ◌<◌, ◌≤◌, ◌==◌, ◌⊎◌, inl, inr, Bool, true, false, List, [], ◌∷◌, ◌++◌, get_or, set, map, drop, Option, Some, None, refl, ap, sym, ◌∙◌, subst, arith}
use Rattle.std.specs.Prelude.{if◌then◌else◌, slice_index_or}
use Rattle.laws_board.proofs.Names.{eqb_tells, get_or-set_same, Level, AxisDef, Machine, Running, nearest, Clocks, board_at, turn_tick, Cmd, trigger_of, Pending, Sampling, Rig, Slot, acts, slot_at, takes, takes_all, slot_range, Ctl, Member, Order, Homes, Seen, round_of, steppers, commands_to, low, order_command}
use Rattle.msg_code.specs.Units.{bit}
use Rattle.plan_types.specs.Machines as machine
use Rattle.msg_code.specs.declared.cmd.Cmd.TheVariants as cmd
use Rattle.board_trig.specs.declared.sampling.Homing.{Homing as Reading}
use Rattle.board_trig.specs.Sampling.{IsTriggerTick}
use Rattle.board_trig.specs.Trigger as trig
use Rattle.board_sim.specs.Board.{stepper_at}
use Rattle.board_sim.specs.Rig.{bind, home}
use Rattle.board_sim.proofs.Halting.{sampling_moves}
use Rattle.board_sim.proofs.RigTicks.{acts_rig_tick}
use Rattle.laws_homing.specs.switch_runs.Runs.{readings}
use Rattle.trigger_group.specs.declared.order.Order.TheVariants as order
use Rattle.trigger_group.specs.Group.{orders_to, stop, to_board}
use Rattle.laws_homing.specs.missed_groups.Minds.{Hits, Minds}
use Rattle.laws_homing.specs.missed_groups.Ticks.{IsReader, IsSwitchTick, readings_from}
use Rattle.laws_homing.proofs.clear_groups.SetUp.{AllSetting, IsSetting, first_at, homes_setting, running}
use Rattle.laws_homing.proofs.clear_boards.Turned.{ran}
use Rattle.laws_homing.proofs.switch_runs.Made.{acts_ends}
use Rattle.laws_homing.proofs.switch_runs.Homes.{endstop_of}
use Rattle.laws_homing.proofs.missed_groups.Beginning.{Never}
use Rattle.laws_board.proofs.sections.Units.{dir_is}

-- what it minds may be said otherwise
pub minds_map : (T U : ℕ → Type 0) (Q R : Type 0) (pins : List (List Level)) (s : Slot) → ((x : ℕ) → T x → U x) → ((x : ℕ) → U x → T x) → (Q → R) → Minds T Q pins s → Minds U R pins s
minds_map T U Q R pins s to of q k = record {
  told = k.told;
  moves = k.moves;
  idle = k.idle;
  blind = k.blind;
  expire = k.expire;
  reads = k.reads;
  to = λ can x h. to x (k.to can x h);
  of = λ can x h. k.of can x (of x h);
  fired = λ e. elim (k.fired e) [
    | inl a ↦ inl (a.0, to s.trigger.tick a.1)
    | inr a ↦ inr (elim a.0 [ inl two ↦ inl two | inr three ↦ inr (three.0, q three.1) ], λ x h. a.1 x (of x h))
  ];
}

-- a trigger that minds readings while it can trigger
pub record Able (oid : ℕ) (T : ℕ → Type 0) (Q : Type 0) (r : Rig) : Type 0 where
  pub slot : Slot
  pub is : slot_at r oid ≡ Some slot
  pub minds : slot.trigger.can ≡ true → Minds T Q r.pins slot

rest_is : (n : ℕ) → 0 < n → (if n == 0 then 1 else n) ≡ n
rest_is n some = elim (eqb_tells n 0) [ inl p ↦ absurd (let e = p.1 in omega (arith, e, some)) | inr p ↦ rw p.0 refl ]

module _ (m : Machine) (clocks : Clocks) (b start : ℕ) (axis : AxisDef) (Q : Type 0) (pins : List (List Level)) (base now : ℕ) (at_base : nearest now (low (turn_tick clocks start)) ≡ base) (low_base : now ≤ base) (some : 0 < (board_at m b).freq / 10_000) where
  abbrev Oid : ℕ
  Oid = trigger_of m b

  abbrev T : ℕ → Type 0
  T = IsSwitchTick m pins b axis base

  abbrev G : Reading
  G = readings m b axis (low (turn_tick clocks start))

  abbrev pub Sampled : Sampling
  Sampled = record {
    at = trig.first_from now (nearest now (low (turn_tick clocks start))) (trig.least_rest G);
    sample = G.sample_ticks;
    count = 4;
    rest = trig.least_rest G;
    value = G.pin_value == 1;
    reason = 1;
  }

  pub sampled_is : Sampled ≡ readings_from m b axis base
  sampled_is =
      let rest : trig.least_rest G ≡ (board_at m b).freq / 10_000 = rest_is ((board_at m b).freq / 10_000) some in
      let at : trig.first_from now (nearest now (low (turn_tick clocks start))) (trig.least_rest G) ≡ base =
      ap (λ (n : ℕ). trig.first_from now n (trig.least_rest G)) at_base ∙ first_at now base (trig.least_rest G) low_base (omega (arith, rest, some)) in
      let Made : ℕ → ℕ → Bool → Sampling = λ a r v. (record { at = a; sample = (board_at m b).freq * 15 / 1_000_000; count = 4; rest = r; value = v; reason = 1 }) in
      ap (λ (a : ℕ). Made a (trig.least_rest G) (G.pin_value == 1)) at ∙ ap (λ (r : ℕ). Made base r (G.pin_value == 1)) rest ∙ ap (λ (v : Bool). Made base ((board_at m b).freq / 10_000) v) (dir_is axis.pressed)

  -- an endstop that stands
  abbrev Stands : Rig → Type 0
  Stands r = (slice_index_or r.endstops (endstop_of m b axis) None ≡ Some axis.pin) × (r.pins ≡ pins) × (r.controller.tick ≡ now)

  abbrev AbleOf : (ℕ → Type 0) → Rig → Type 0
  AbleOf U r = Able Oid U Q r

  able_set : (U V : ℕ → Type 0) (r q : Rig) (s u : Slot) → slot_at r Oid ≡ Some s → q.triggers ≡ set r.triggers Oid (Some u) → q.pins ≡ r.pins → (u.trigger.can ≡ true → Minds V Q r.pins u) → AbleOf V q
  able_set U V r q s u there e same k = record {
    slot = u;
    is = ap (λ (xs : List (Option Slot)). get_or xs Oid None) e ∙ get_or-set_same r.triggers Oid (Some u) None (slot_range r.triggers Oid s there);
    minds = λ can. subst (λ (ps : List (List Level)). Minds V Q ps u) (sym same) (k can);
  }

  -- the reading of the switch
  reads : (U : ℕ → Type 0) (r : Rig) → Stands r → AbleOf U r → AbleOf T (acts r (order_command m clocks b start axis order.Home)).rig
  reads U r stands h =
      let s = h.slot in
      let u : Slot = record s { trigger = trig.sampling r.controller.tick G s.trigger; pin = axis.pin } in
      let levels = slice_index_or r.pins axis.pin [] in
      let At : ℕ → Type 0 = λ n. (x : ℕ) → (Hits levels (trig.first_sampling n G) x → T x) × (T x → Hits levels (trig.first_sampling n G) x) in
      let Levels : List (List Level) → Type 0 = λ ps. (x : ℕ) → (Hits (slice_index_or ps axis.pin []) (Some Sampled) x → T x) × (T x → Hits (slice_index_or ps axis.pin []) (Some Sampled) x) in
      let here : Levels pins = (λ x. (
        λ y. (let e : Sampled ≡ y.0 = some_is Sampled y.0 y.1 in subst (λ (z : Sampling). IsTriggerTick (slice_index_or pins axis.pin []) z x) (sym e ∙ sampled_is) y.2),
        λ t. (Sampled, refl, subst (λ (z : Sampling). IsTriggerTick (slice_index_or pins axis.pin []) z x) (sym sampled_is) t),
      )) in
      let hits : At r.controller.tick = subst At (sym stands.2) (subst Levels (sym stands.1) here) in
      let minds : u.trigger.can ≡ true → Minds T Q r.pins u = (λ can. (
      let k = h.minds can in
      record {
        told = k.told;
        moves = sampling_moves false r.controller.tick G;
        idle = k.idle;
        blind = λ not. absurd (no_both u.trigger.can can not);
        expire = k.expire;
        reads = λ y is. reason_of r.controller.tick y is;
        to = λ c x y. (hits x).0 y;
        of = λ c x y. (hits x).1 y;
        fired = λ not. absurd (no_both u.trigger.can can not);
      })) in
      let ByEnd : Option ℕ → Type 0 = λ o. AbleOf T (home r o Oid (slot_at r Oid) G) in
      let BySlot : Option Slot → Type 0 = λ o. AbleOf T (home r (Some axis.pin) Oid o G) in
      subst ByEnd (sym stands.0) (subst BySlot (sym h.is) (able_set U T r (home r (Some axis.pin) Oid (Some s) G) s u h.is refl refl minds))
    where
      some_is : (x y : Sampling) → Some x ≡ Some y → x ≡ y
      some_is x y e = cc

      no_both : (c : Bool) → c ≡ true → c ≡ false → ⊥
      no_both true e f = cc
      no_both false e f = cc

      reason_of : (n : ℕ) (y : Sampling) → trig.first_sampling n G ≡ Some y → y.reason ≡ 1
      reason_of n y e = ap (λ (z : Sampling). z.reason) (sym (some_is (record { at = trig.first_from n (nearest n G.clock) (trig.least_rest G); sample = G.sample_ticks; count = 4; rest = trig.least_rest G; value = G.pin_value == 1; reason = 1 }) y e))

  -- a stepper that is bound
  binds : (U : ℕ → Type 0) (r : Rig) (i : ℕ) → AbleOf U r → AbleOf U (acts r (cmd.StepperStopOnTrigger i Oid)).rig
  binds U r i h = by (stepper_at r.controller i)
    where
      by : (p : Option Pending) → AbleOf U (bind r i p Oid (slot_at r Oid))
      by None = h
      by (Some p) =
          let s = h.slot in
          let u : Slot = record s { bound = i ∷ s.bound } in
          let minds : u.trigger.can ≡ true → Minds U Q r.pins u = (λ can. (let k = h.minds can in record { told = k.told; moves = k.moves; idle = k.idle; blind = k.blind; expire = k.expire; reads = k.reads; to = k.to; of = k.of; fired = k.fired })) in
          let By : Option Slot → Type 0 = λ o. AbleOf U (bind r i (Some p) Oid o) in
          subst By (sym h.is) (able_set U U r (bind r i (Some p) Oid (Some s)) s u h.is refl refl minds)

  bind_pins : (r : Rig) (i : ℕ) (p : Option Pending) (o : Option Slot) → (bind r i p Oid o).pins ≡ r.pins
  bind_pins r i None o = refl
  bind_pins r i (Some p) None = refl
  bind_pins r i (Some p) (Some s) = refl

  home_pins : (r : Rig) (p : Option ℕ) (o : Option Slot) (g : Reading) → (home r p Oid o g).pins ≡ r.pins
  home_pins r None o g = refl
  home_pins r (Some pin) None g = refl
  home_pins r (Some pin) (Some s) g = refl

  setting_stands : (what : Order) (r : Rig) → IsSetting what → Stands r → Stands (acts r (order_command m clocks b start axis what)).rig
  setting_stands (order.Stop i) r k st =
      let c = order_command m clocks b start axis (order.Stop i) in
      let oid = (machine.stepper_at m i).oid in
      (ap (λ (xs : List (Option ℕ)). slice_index_or xs (endstop_of m b axis) None) (acts_ends r c tt) ∙ st.0, bind_pins r oid (stepper_at r.controller oid) (slot_at r Oid) ∙ st.1, acts_rig_tick r c ∙ st.2)
  setting_stands order.Home r k st =
      let c = order_command m clocks b start axis order.Home in
      (ap (λ (xs : List (Option ℕ)). slice_index_or xs (endstop_of m b axis) None) (acts_ends r c tt) ∙ st.0, home_pins r (slice_index_or r.endstops (endstop_of m b axis) None) (slot_at r Oid) G ∙ st.1, acts_rig_tick r c ∙ st.2)
  setting_stands c r k st = absurd k

  -- the reading is among some orders to the board
  abbrev HasReading : List Ctl → Type 0
  HasReading [] = ⊥
  HasReading (c ∷ cs) = ((c.board ≡ b) × (c.what ≡ order.Home)) ⊎ HasReading cs

  abbrev HasNoReading : List Ctl → Type 0
  HasNoReading [] = Unit {0}
  HasNoReading (c ∷ cs) = (c.board ≡ b → c.what ≡ order.Home → ⊥) × HasNoReading cs

  abbrev Commands : List Ctl → List Cmd
  Commands ctls = commands_to m clocks b start axis ctls

  is_home : (what : Order) → IsSetting what → (what ≡ order.Home) ⊎ ((what ≡ order.Home → ⊥) × ((U : ℕ → Type 0) (r : Rig) → AbleOf U r → AbleOf U (acts r (order_command m clocks b start axis what)).rig))
  is_home (order.Stop i) k = inr ((λ e. cc), λ U r h. binds U r (machine.stepper_at m i).oid h)
  is_home order.Home k = inl refl
  is_home c k = absurd k

  setting_runs : (P : Rig → Type 0) (r : Rig) (what : Order) (rest : List Cmd) → (takes_all r (order_command m clocks b start axis what ∷ rest)).rig.controller.state ≡ Running → P (acts r (order_command m clocks b start axis what)).rig
      → P (takes r (order_command m clocks b start axis what)).rig
  setting_runs P r what rest runs k = running P r (order_command m clocks b start axis what) (ran r (order_command m clocks b start axis what ∷ rest) runs) k

  abbrev Waits : List Ctl → Rig → Type 0
  Waits ctls r = (AbleOf T r) ⊎ (AbleOf Never r × HasReading ctls)

  home_able : (what : Order) (r : Rig) → what ≡ order.Home → Stands r → (AbleOf T r) ⊎ (AbleOf Never r) → AbleOf T (acts r (order_command m clocks b start axis what)).rig
  home_able what r e st h =
      let By : Order → Type 0 = λ o. AbleOf T (acts r (order_command m clocks b start axis o)).rig in
      subst By (sym e) (elim h [ inl x ↦ reads T r st x | inr x ↦ reads Never r st x ])

  able_to : (here : Bool) (c : Ctl) (ctls : List Ctl) (r : Rig) → (here ≡ false → c.board ≡ b → ⊥) → IsSetting c.what → Stands r
      → (takes_all r ((if here then order_command m clocks b start axis c.what ∷ [] else []) ++ Commands ctls)).rig.controller.state ≡ Running
      → ((q : Rig) → Stands q → (takes_all q (Commands ctls)).rig.controller.state ≡ Running → Waits ctls q → AbleOf T (takes_all q (Commands ctls)).rig) → Waits (c ∷ ctls) r
      → AbleOf T (takes_all r ((if here then order_command m clocks b start axis c.what ∷ [] else []) ++ Commands ctls)).rig
  able_to true c ctls r differs k st runs more h =
      let cm = order_command m clocks b start axis c.what in
      let rest = Commands ctls in
      let q = (takes r cm).rig in
      let stands = setting_runs Stands r c.what rest runs (setting_stands c.what r k st) in
      let next : Waits ctls q = elim (is_home c.what k) [
        | inl e ↦ inl (setting_runs (AbleOf T) r c.what rest runs (home_able c.what r e st (elim h [ inl x ↦ inl x | inr x ↦ inr x.0 ])))
        | inr other ↦ elim h [
          | inl x ↦ inl (setting_runs (AbleOf T) r c.what rest runs (other.1 T r x))
          | inr x ↦ elim x.1 [ inl here ↦ absurd (other.0 here.1) | inr later ↦ inr (setting_runs (AbleOf Never) r c.what rest runs (other.1 Never r x.0), later) ]
        ]
      ] in
      more q stands runs next
  able_to false c ctls r differs k st runs more h = more r st runs (elim h [ inl x ↦ inl x | inr x ↦ elim x.1 [ inl here ↦ absurd (differs refl here.0) | inr later ↦ inr (x.0, later) ] ])

  not_here : (c : Ctl) → (c.board == b) ≡ false → c.board ≡ b → ⊥
  not_here c f e = elim (eqb_tells c.board b) [ inl p ↦ (let bad : true ≡ false = sym p.0 ∙ f in cc) | inr p ↦ p.1 e ]

  pub settings_able : (ctls : List Ctl) (r : Rig) → AllSetting ctls → Stands r → (takes_all r (Commands ctls)).rig.controller.state ≡ Running → Waits ctls r → AbleOf T (takes_all r (Commands ctls)).rig
  settings_able [] r k st runs (inl h) = h
  settings_able [] r k st runs (inr h) = absurd h.1
  settings_able (c ∷ ctls) r k st runs h = able_to (c.board == b) c ctls r (not_here c) k.0 st runs (λ q st_q runs_q h_q. settings_able ctls q k.1 st_q runs_q h_q) h

  never_to : (here : Bool) (c : Ctl) (ctls : List Ctl) (r : Rig) → (here ≡ true → c.board ≡ b) → IsSetting c.what → (c.board ≡ b → c.what ≡ order.Home → ⊥)
      → (takes_all r ((if here then order_command m clocks b start axis c.what ∷ [] else []) ++ Commands ctls)).rig.controller.state ≡ Running
      → ((q : Rig) → (takes_all q (Commands ctls)).rig.controller.state ≡ Running → AbleOf Never q → AbleOf Never (takes_all q (Commands ctls)).rig) → AbleOf Never r
      → AbleOf Never (takes_all r ((if here then order_command m clocks b start axis c.what ∷ [] else []) ++ Commands ctls)).rig
  never_to true c ctls r agrees k none runs more h =
      elim (is_home c.what k) [
        | inl e ↦ absurd (none (agrees refl) e)
        | inr other ↦ more (takes r (order_command m clocks b start axis c.what)).rig runs (setting_runs (AbleOf Never) r c.what (Commands ctls) runs (other.1 Never r h))
      ]
  never_to false c ctls r agrees k none runs more h = more r runs h

  is_here : (c : Ctl) → (c.board == b) ≡ true → c.board ≡ b
  is_here c e = elim (eqb_tells c.board b) [ inl p ↦ p.1 | inr p ↦ absurd (let bad : false ≡ true = sym p.0 ∙ e in cc) ]

  pub settings_never : (ctls : List Ctl) (r : Rig) → AllSetting ctls → HasNoReading ctls → (takes_all r (Commands ctls)).rig.controller.state ≡ Running → AbleOf Never r → AbleOf Never (takes_all r (Commands ctls)).rig
  settings_never [] r k none runs h = h
  settings_never (c ∷ ctls) r k none runs h = never_to (c.board == b) c ctls r (is_here c) k.0 none.0 runs (λ q runs_q h_q. settings_never ctls q k.1 none.1 runs_q h_q) h

  -- the members' orders
  has_front : (xs ys : List Ctl) → HasReading xs → HasReading (xs ++ ys)
  has_front [] ys h = absurd h
  has_front (x ∷ xs) ys (inl h) = inl h
  has_front (x ∷ xs) ys (inr h) = inr (has_front xs ys h)

  has_behind : (xs ys : List Ctl) → HasReading ys → HasReading (xs ++ ys)
  has_behind [] ys h = h
  has_behind (x ∷ xs) ys h = inr (has_behind xs ys h)

  none_both : (xs ys : List Ctl) → HasNoReading xs → HasNoReading ys → HasNoReading (xs ++ ys)
  none_both [] ys k l = l
  none_both (x ∷ xs) ys k l = (k.0, none_both xs ys k.1 l)

  stops_none : (x : Seen) (is : List ℕ) → HasNoReading (map (stop x) is)
  stops_none x [] = tt
  stops_none x (i ∷ is) = ((λ e f. cc), stops_none x is)

  abbrev MembersOf : List Seen → List Member
  MembersOf xs = map (λ (s : Seen). s.member) xs

  reader_has : (xs : List Seen) → IsReader b (MembersOf xs) → HasReading (round_of Homes xs)
  reader_has [] k = absurd k
  reader_has (x ∷ xs) (inl k) =
      let Home_of : Bool → Type 0 = λ e. HasReading (if e then to_board x order.Home ∷ [] else []) in
      has_front (orders_to Homes x) (round_of Homes xs) (has_behind (map (stop x) (drop 8 (steppers x))) (if x.member.endstop then to_board x order.Home ∷ [] else []) (subst Home_of (sym k.1) (inl (k.0, refl))))
  reader_has (x ∷ xs) (inr k) = has_behind (orders_to Homes x) (round_of Homes xs) (reader_has xs k)

  other_none : (xs : List Seen) → (IsReader b (MembersOf xs) → ⊥) → HasNoReading (round_of Homes xs)
  other_none [] k = tt
  other_none (x ∷ xs) k =
      none_both (orders_to Homes x) (round_of Homes xs)
      (none_both (map (stop x) (drop 8 (steppers x))) (if x.member.endstop then to_board x order.Home ∷ [] else []) (stops_none x (drop 8 (steppers x))) (by x.member.endstop refl)) (other_none xs (λ z. k (inr z)))
    where
      by : (e : Bool) → x.member.endstop ≡ e → HasNoReading (if e then to_board x order.Home ∷ [] else [])
      by true e = ((λ at f. k (inl (at, e))), tt)
      by false e = tt

  -- so a member's board
  pub homes_able : (xs : List Seen) (r : Rig) → Stands r → (takes_all r (Commands (round_of Homes xs))).rig.controller.state ≡ Running → IsReader b (MembersOf xs) → AbleOf Never r → AbleOf T (takes_all r (Commands (round_of Homes xs))).rig
  homes_able xs r st runs k h = settings_able (round_of Homes xs) r (homes_setting xs) st runs (inr (h, reader_has xs k))

  pub homes_never : (xs : List Seen) (r : Rig) → (takes_all r (Commands (round_of Homes xs))).rig.controller.state ≡ Running → (IsReader b (MembersOf xs) → ⊥) → AbleOf Never r → AbleOf Never (takes_all r (Commands (round_of Homes xs))).rig
  homes_never xs r runs k h = settings_never (round_of Homes xs) r (homes_setting xs) (other_none xs k) runs h

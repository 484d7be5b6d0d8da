-- A member's board takes the set-up of a homing section.
use Rattle.std.proofs.Common.{◌≡◌, ℕ, ◌+◌, ◌-◌, ◌*◌, ◌/◌, ◌<◌, ◌≤◌, ◌==◌, ◌⊎◌, inl, inr, Bool, true, false, List, [], ◌∷◌, ◌++◌, get_or, set, map, take, drop, Option, Some, None, refl, ap, sym, ◌∙◌, subst, arith}
use Rattle.std.specs.Prelude.{if◌then◌else◌, slice_index_or, nat_lt}
use Rattle.std.proofs.Math.Nat.{div-eq_of_lt}
use Rattle.laws_board.proofs.Names.{eqb-true, eqb_tells, nat_tests, get_or-set_same, Level, AxisDef, Machine, BoardState, Running, nearest, Clocks, board_at, turn_tick, Cmd, trigger_of, Pending, Sampling, Trigger, Rig, Slot, acts, acts_running, becomes, expires_at_once, set_timeout, slot_at, takes, takes_all, slot_range, Ctl, Order, Homes, Starts, Seen, round_of, steppers, commands_to, low, order_command}
use Rattle.std.proofs.lemmas.List.{get_or-set_other}
use Rattle.plan_types.specs.Machines as machine
use Rattle.msg_code.specs.declared.cmd.Cmd.TheVariants as cmd
use Rattle.board_trig.specs.declared.sampling.Homing.{Homing as Reading}
use Rattle.board_trig.specs.Sampling.{IsTriggerTick, group, reading_tick}
use Rattle.board_trig.specs.Trigger as trig
use Rattle.board_trig.proofs.TriggerTicks.{groups_rise}
use Rattle.board_sim.specs.Board.{stepper_at}
use Rattle.board_sim.specs.Rig.{bind, home, start_trigger}
use Rattle.board_sim.proofs.Bound.{same_or_not}
use Rattle.board_sim.proofs.Halting.{sampling_moves}
use Rattle.board_sim.proofs.RigStates.{all_tick}
use Rattle.board_sim.proofs.RigTicks.{takes_rig_tick}
use Rattle.laws_homing.specs.home_runs.Guards.{IsSole}
use Rattle.laws_homing.specs.home_runs.Told.{IsMember}
use Rattle.laws_homing.proofs.home_runs.Setting.{commands_both}
use Rattle.trigger_group.specs.declared.order.Order.TheVariants as order
use Rattle.trigger_group.specs.Group.{orders_to, stop, to_board}
use Rattle.laws_homing.specs.clear_boards.Alive.{RelayNone}
use Rattle.laws_homing.specs.clear_boards.Turned.{AreSentBehind, IsSentBehind, Relays}
use Rattle.laws_homing.proofs.clear_boards.Turned.{ran}
use Rattle.laws_homing.specs.clear_groups.SetUp.{HoldsOf, IsArmed, IsPrepared}
use Rattle.board_sim.proofs.Heeding.{all_append}
use Rattle.plan_types.proofs.Facts.{is_less}

-- the one trigger of a board becomes another
set_sole : (oid k : ℕ) (r q : Rig) (u s : Slot) → slot_at r k ≡ Some s → q.triggers ≡ set r.triggers k (Some u) → IsSole oid r → IsSole oid q
set_sole oid k r q u s there e sole i x at =
    let here : get_or (set r.triggers k (Some u)) i None ≡ Some x = subst (λ (xs : List (Option Slot)). get_or xs i None ≡ Some x) e at in
    elim (same_or_not i k) [ inl is ↦ is ∙ sole k s there | inr other ↦ sole i x (sym (get_or-set_other r.triggers k i (Some u) None other) ∙ here) ]

holds_set : (oid : ℕ) (P Q : List (List Level) → Slot → Type 0) (r q : Rig) (u : Slot) (h : HoldsOf oid P r) → q.triggers ≡ set r.triggers oid (Some u) → q.pins ≡ r.pins → Q r.pins u → HoldsOf oid Q q
holds_set oid P Q r q u h e pins so = record {
  sole = set_sole oid oid r q u h.slot h.is e h.sole;
  slot = u;
  is = ap (λ (xs : List (Option Slot)). get_or xs oid None) e ∙ get_or-set_same r.triggers oid (Some u) None (slot_range r.triggers oid h.slot h.is);
  so = subst (λ (ps : List (List Level)). Q ps u) (sym pins) so;
}

-- a command that is taken by a board that runs
pub running : (P : Rig → Type 0) (r : Rig) (c : Cmd) → r.controller.state ≡ Running → P (acts r c).rig → P (takes r c).rig
running P r c runs k = let At : BoardState → Type 0 = λ o. P (acts_running o r c).rig in subst At (sym runs) k

-- the start
pub first_at : (now tick step : ℕ) → now ≤ tick → 0 < step → trig.first_from now tick step ≡ tick
first_at now tick step early some =
    let all : (now - tick + (step - 1)) / step ≡ 0 = div-eq_of_lt (omega (arith, early, some)) in
    ap (λ (n : ℕ). tick + n * step) all ∙ omega arith

pub report_at : (b : Bool) (now at base step : ℕ) → (step == 0) ≡ b → at ≡ base → now ≤ base → 0 < step → (if b then None else Some (trig.first_from now at step)) ≡ Some base
report_at true now at base step e is early some = absurd (let zero_is : step ≡ 0 = eqb-true step 0 e in omega (arith, zero_is, some))
report_at false now at base step e is early some = ap (λ (n : ℕ). Some (trig.first_from now n step)) is ∙ ap (λ (n : ℕ). Some n) (first_at now base step early some)

module _ (oid base every : ℕ) where
  abbrev Prepared : Rig → Type 0
  Prepared r = HoldsOf oid (λ pins s. IsPrepared base pins s) r

  abbrev Armed : Option ℕ → Rig → Type 0
  Armed limit r = HoldsOf oid (λ pins s. IsArmed base every limit pins s) r

  pub prepared : (limit : Option ℕ) (r : Rig) → Armed limit r → Prepared r
  prepared limit r h = record { sole = h.sole; slot = h.slot; is = h.is; so = h.so.prepared }

  starts : (r : Rig) (clock : ℕ) → Prepared r → r.controller.tick ≤ base → nearest r.controller.tick clock ≡ base → 0 < every → Armed None (acts r (cmd.TrsyncStart oid clock every 2)).rig
  starts r clock h low_so at some =
      let s = h.slot in
      let now = r.controller.tick in
      let t = trig.started now clock every 2 s.trigger in
      let u : Slot = record s { trigger = t } in
      let k = h.so in
      let so : IsArmed base every None r.pins u = record {
        prepared = record { told = k.told; moves = k.moves; sampled = k.sampled };
        can = refl;
        every_is = refl;
        report = report_at (every == 0) now (nearest now clock) base every refl at low_so some;
        timed = refl;
        reason = omega arith;
        expire = omega arith;
      } in
      let By : Option Slot → Type 0 = λ o. Armed None (start_trigger r oid o clock every 2) in
      subst By (sym h.is) (holds_set oid (λ pins s. IsPrepared base pins s) (λ pins s. IsArmed base every None pins s) r (start_trigger r oid (Some s) clock every 2) u h refl refl so)

  limited_is : (b : Bool) (now at : ℕ) (t : Trigger) → b ≡ true → (if b then record t { timeout = Some at } else record (trig.fired now t.expire t) { untold = Some now }) ≡ record t { timeout = Some at }
  limited_is true now at t e = refl
  limited_is false now at t e = cc

  timed_is : (can : Bool) (now at : ℕ) (t : Trigger) → can ≡ true → nat_lt now at ≡ true → (if can then (if nat_lt now at then record t { timeout = Some at } else record (trig.fired now t.expire t) { untold = Some now }) else t) ≡ record t { timeout = Some at }
  timed_is true now at t e less = limited_is (nat_lt now at) now at t less
  timed_is false now at t e less = cc

  quiet_one : (P : Rig → Type 0) (o : Option ℕ) (r : Rig) (s : Slot) (t : Trigger) → o ≡ None → P (becomes r oid s t) → P (expires_at_once r oid s t o).rig
  quiet_one P None r s t e k = k
  quiet_one P (Some n) r s t e k = absurd (cc)

  times : (r : Rig) (clock limit : ℕ) (old : Option ℕ) → Armed old r → nearest r.controller.tick clock ≡ limit → r.controller.tick < limit → Armed (Some limit) (acts r (cmd.TrsyncSetTimeout oid clock)).rig
  times r clock limit old h at later =
      let s = h.slot in
      let now = r.controller.tick in
      let t = trig.with_timeout now clock s.trigger in
      let k = h.so in
      let is : t ≡ record s.trigger { timeout = Some (nearest now clock) } = timed_is s.trigger.can now (nearest now clock) s.trigger k.can (is_less now (nearest now clock) (omega (arith, at, later))) in
      let u : Slot = record s { trigger = t } in
      let p = k.prepared in
      let So : Trigger → Type 0 = λ y. IsArmed base every (Some limit) r.pins (record s { trigger = y }) in
      let so : So t = subst So (sym is)
      (record {
        prepared = record { told = p.told; moves = p.moves; sampled = p.sampled };
        can = k.can;
        every_is = k.every_is;
        report = k.report;
        timed = ap (λ (n : ℕ). Some n) at;
        reason = k.reason;
        expire = k.expire;
      }) in
      let told : t.untold ≡ None = ap (λ (y : Trigger). y.untold) is ∙ p.told in
      let done : Armed (Some limit) (becomes r oid s t) = holds_set oid (λ pins s. IsArmed base every old pins s) (λ pins s. IsArmed base every (Some limit) pins s) r (becomes r oid s t) u h refl refl so in
      let By : Option Slot → Type 0 = λ o. Armed (Some limit) (set_timeout r oid o clock).rig in
      subst By (sym h.is) (quiet_one (λ q. Armed (Some limit) q) t.untold r s t told done)

  -- a stepper that is bound
  binds : (r : Rig) (i : ℕ) (limit : Option ℕ) → Armed limit r → Armed limit (acts r (cmd.StepperStopOnTrigger i oid)).rig
  binds r i limit h = by (stepper_at r.controller i)
    where
      by : (p : Option Pending) → Armed limit (bind r i p oid (slot_at r oid))
      by None = h
      by (Some p) =
          let s = h.slot in
          let u : Slot = record s { bound = i ∷ s.bound } in
          let k = h.so in
          let x = k.prepared in
          let so : IsArmed base every limit r.pins u =
          record { prepared = record { told = x.told; moves = x.moves; sampled = x.sampled }; can = k.can; every_is = k.every_is; report = k.report; timed = k.timed; reason = k.reason; expire = k.expire } in
          let By : Option Slot → Type 0 = λ o. Armed limit (bind r i (Some p) oid o) in
          subst By (sym h.is) (holds_set oid (λ pins s. IsArmed base every limit pins s) (λ pins s. IsArmed base every limit pins s) r (bind r i (Some p) oid (Some s)) u h refl refl so)

  -- the reading of the switch
  sampled_from : (b : Bool) (now at : ℕ) (g : Reading) (levels : List Level) (y : Sampling) → at ≡ base → base ≤ at
      → (if b then None else Some (record { at = trig.first_from now at (trig.least_rest g); sample = g.sample_ticks; count = g.sample_count; rest = trig.least_rest g; value = g.pin_value == 1; reason = g.reason })) ≡ Some y
      → (y.reason ≡ g.reason) × ((x : ℕ) → IsTriggerTick levels y x → base ≤ x)
  sampled_from true now at g levels y is low_so e = absurd (cc)
  sampled_from false now at g levels y is low_so e =
      let z : Sampling = record { at = trig.first_from now at (trig.least_rest g); sample = g.sample_ticks; count = g.sample_count; rest = trig.least_rest g; value = g.pin_value == 1; reason = g.reason } in
      let same : z ≡ y = cc in
      let some : 0 < z.rest = rest_some (g.rest_ticks == 0) g refl in
      let begun : base ≤ z.at = omega (arith, low_so) in
      let From : Sampling → Type 0 = λ w. (w.reason ≡ g.reason) × ((x : ℕ) → IsTriggerTick levels w x → base ≤ x) in
      subst From same (
        refl,
        λ x hits. (
            let rise = groups_rise hits.number levels z some in
            let last = hits.last in
            let from : (group levels z hits.number).at ≤ reading_tick (group levels z hits.number) (z.count - 1) = omega arith in
            omega (arith, rise, last, from, begun)),
      )
    where
      not_zero : (n : ℕ) → (n == 0) ≡ false → 0 < n
      not_zero n h = grind (arith, nat_tests)

      rest_some : (b : Bool) (g : Reading) → (g.rest_ticks == 0) ≡ b → 0 < (if b then 1 else g.rest_ticks)
      rest_some true g e = omega arith
      rest_some false g e = not_zero g.rest_ticks e

  reads : (r : Rig) (e clock sample count rest value : ℕ) (limit : Option ℕ) → Armed limit r → nearest r.controller.tick clock ≡ base → Armed limit (acts r (cmd.EndstopHome e clock sample count rest value oid 1)).rig
  reads r e clock sample count rest value limit h at = by (slice_index_or r.endstops e None)
    where
      g : Reading
      g = record { clock = clock; sample_ticks = sample; sample_count = count; rest_ticks = rest; pin_value = value; reason = 1 }

      by : (p : Option ℕ) → Armed limit (home r p oid (slot_at r oid) g)
      by None = h
      by (Some pin) =
          let s = h.slot in
          let now = r.controller.tick in
          let u : Slot = record s { trigger = trig.sampling now g s.trigger; pin = pin } in
          let k = h.so in
          let x = k.prepared in
          let so : IsArmed base every limit r.pins u = record {
            prepared = record {
              told = x.told;
              moves = sampling_moves (count == 0) now g;
              sampled = λ y is. (
                  let z = sampled_from (count == 0) now (nearest now clock) g (slice_index_or r.pins pin []) y at (omega (arith, at)) is in
                  let one = z.0 in
                  (omega (arith, one), (λ two. omega (arith, one, two)), z.1));
            };
            can = k.can;
            every_is = k.every_is;
            report = k.report;
            timed = k.timed;
            reason = k.reason;
            expire = k.expire;
          } in
          let By : Option Slot → Type 0 = λ o. Armed limit (home r (Some pin) oid o g) in
          subst By (sym h.is) (holds_set oid (λ pins s. IsArmed base every limit pins s) (λ pins s. IsArmed base every limit pins s) r (home r (Some pin) oid (Some s) g) u h refl refl so)

  -- what else a board is sent
  other : (r : Rig) (c : Cmd) (limit : Option ℕ) → ((clock : ℕ) → IsSentBehind oid clock c) → (Relays c → ⊥) → Armed limit r → Armed limit (acts r c).rig
  other r (cmd.TrsyncSetTimeout o at) limit k none h = absurd (let zero_is = (k 0).1 in let one = (k 1).1 in omega (arith, zero_is, one))
  other r (cmd.TrsyncTrigger o reason) limit k none h = absurd (none tt)
  other r (cmd.ConfigTrsync o) limit k none h = absurd (k 0)
  other r (cmd.TrsyncStart o at every_so reason) limit k none h = absurd (k 0)
  other r (cmd.StepperStopOnTrigger i o) limit k none h = absurd (k 0)
  other r (cmd.ConfigEndstop o pin pull) limit k none h = absurd (k 0)
  other r (cmd.EndstopHome o at sample count rest value t reason) limit k none h = absurd (k 0)
  other r c limit k none h = record { sole = h.sole; slot = h.slot; is = h.is; so = h.so }

  pub others : (r : Rig) (cs : List Cmd) (limit : Option ℕ) → (takes_all r cs).rig.controller.state ≡ Running → ((clock : ℕ) → AreSentBehind oid clock cs) → RelayNone cs → Armed limit r → Armed limit (takes_all r cs).rig
  others r [] limit runs k none h = h
  others r (c ∷ cs) limit runs k none h =
      others (takes r c).rig cs limit runs (λ clock. (k clock).1) none.1 (running (Armed limit) r c (ran r (c ∷ cs) runs) (other r c limit (λ clock. (k clock).0) none.0 h))

-- an order that binds a stepper or reads the switch
abbrev pub IsSetting : Order → Type 0
IsSetting (order.Stop i) = Unit {0}
IsSetting order.Home = Unit {0}
IsSetting o = ⊥

abbrev pub AllSetting : List Ctl → Type 0
AllSetting [] = Unit {0}
AllSetting (c ∷ cs) = IsSetting c.what × AllSetting cs

pub setting_both : (xs ys : List Ctl) → AllSetting xs → AllSetting ys → AllSetting (xs ++ ys)
setting_both [] ys k l = l
setting_both (x ∷ xs) ys k l = (k.0, setting_both xs ys k.1 l)

pub stops_setting : (x : Seen) (is : List ℕ) → AllSetting (map (stop x) is)
stops_setting x [] = tt
stops_setting x (i ∷ is) = (tt, stops_setting x is)

home_setting : (b : Bool) (x : Seen) → AllSetting (if b then to_board x order.Home ∷ [] else [])
home_setting true x = (tt, tt)
home_setting false x = tt

pub homes_setting : (xs : List Seen) → AllSetting (round_of Homes xs)
homes_setting [] = tt
homes_setting (x ∷ xs) = setting_both (orders_to Homes x) (round_of Homes xs) (setting_both (map (stop x) (drop 8 (steppers x))) (if x.member.endstop then to_board x order.Home ∷ [] else []) (stops_setting x (drop 8 (steppers x))) (home_setting x.member.endstop x)) (homes_setting xs)

module _ (m : Machine) (clocks : Clocks) (b start : ℕ) (axis : AxisDef) (base every now limit timeout : ℕ) (at_base : nearest now (low (turn_tick clocks start)) ≡ base) (low_base : now ≤ base) (at_limit : nearest now (low (turn_tick clocks timeout)) ≡ limit) (low_limit : now < limit)
    (some : 0 < every) (every_is : (board_at m b).freq * 5 / 1_000 ≡ every) where
  abbrev Ready : Option ℕ → Rig → Type 0
  Ready l r = HoldsOf (trigger_of m b) (λ pins s. IsArmed base every l pins s) r

  abbrev Commands : List Ctl → List Cmd
  Commands ctls = commands_to m clocks b start axis ctls

  setting_one : (what : Order) (r : Rig) (l : Option ℕ) → IsSetting what → r.controller.tick ≡ now → Ready l r → Ready l (acts r (order_command m clocks b start axis what)).rig
  setting_one (order.Stop i) r l k at h = binds (trigger_of m b) base every r (machine.stepper_at m i).oid l h
  setting_one order.Home r l k at h = reads (trigger_of m b) base every r _ (low (turn_tick clocks start)) _ _ _ _ l h (ap (λ (n : ℕ). nearest n (low (turn_tick clocks start))) at ∙ at_base)
  setting_one c r l k at h = absurd k

  -- one order, to this board or another
  setting_to : (here : Bool) (what : Order) (rest : List Cmd) (r : Rig) (l : Option ℕ) → IsSetting what → r.controller.tick ≡ now → (takes_all r ((if here then order_command m clocks b start axis what ∷ [] else []) ++ rest)).rig.controller.state ≡ Running
      → ((q : Rig) → q.controller.tick ≡ now → (takes_all q rest).rig.controller.state ≡ Running → Ready l q → Ready l (takes_all q rest).rig) → Ready l r → Ready l (takes_all r ((if here then order_command m clocks b start axis what ∷ [] else []) ++ rest)).rig
  setting_to true what rest r l k at runs more h =
      let c = order_command m clocks b start axis what in
      more (takes r c).rig (takes_rig_tick r c ∙ at) runs (running (Ready l) r c (ran r (c ∷ rest) runs) (setting_one what r l k at h))
  setting_to false what rest r l k at runs more h = more r at runs h

  settings : (ctls : List Ctl) (r : Rig) (l : Option ℕ) → AllSetting ctls → r.controller.tick ≡ now → (takes_all r (Commands ctls)).rig.controller.state ≡ Running → Ready l r → Ready l (takes_all r (Commands ctls)).rig
  settings [] r l k at runs h = h
  settings (c ∷ ctls) r l k at runs h = setting_to (c.board == b) c.what (Commands ctls) r l k.0 at runs (λ q at_q runs_q h_q. settings ctls q l k.1 at_q runs_q h_q) h

  pub homed : (xs : List Seen) (r : Rig) (l : Option ℕ) → r.controller.tick ≡ now → (takes_all r (Commands (round_of Homes xs))).rig.controller.state ≡ Running → Ready l r → Ready l (takes_all r (Commands (round_of Homes xs))).rig
  homed xs r l at runs h = settings (round_of Homes xs) r l (homes_setting xs) at runs h

  -- a member's start, its first timeout, and its steppers that stop
  started_here : (x : Seen) (h : Bool) → (x.member.board == b) ≡ h → h ≡ true → (r : Rig) → r.controller.tick ≡ now → (takes_all r (Commands (orders_to (Starts timeout) x))).rig.controller.state ≡ Running → HoldsOf (trigger_of m b) (λ pins s. IsPrepared base pins s) r
      → Ready (Some limit) (takes_all r (Commands (orders_to (Starts timeout) x))).rig
  started_here x h is e r at runs prep =
      let rest = Commands (map (stop x) (take 8 (steppers x))) in
      let Cs : Bool → List Cmd = λ here. (if here then order_command m clocks b start axis order.Start ∷ [] else []) ++ ((if here then order_command m clocks b start axis (order.Timeout timeout) ∷ [] else []) ++ rest) in
      let Out : Bool → Type 0 = λ here. (takes_all r (Cs here)).rig.controller.state ≡ Running → Ready (Some limit) (takes_all r (Cs here)).rig in
      let first = order_command m clocks b start axis order.Start in
      let second = order_command m clocks b start axis (order.Timeout timeout) in
      let done : Out true =
      (λ runs_so. (
      let q = (takes r first).rig in
      let one : Ready None q = running (Ready None) r first (ran r (first ∷ second ∷ rest) runs_so)
      (starts_every r (starts (trigger_of m b) base every r (low (turn_tick clocks start)) prep (omega (arith, at, low_base)) (ap (λ (n : ℕ). nearest n (low (turn_tick clocks start))) at ∙ at_base) some)) in
      let at_q : q.controller.tick ≡ now = takes_rig_tick r first ∙ at in
      let p = (takes q second).rig in
      let two : Ready (Some limit) p = running (Ready (Some limit)) q second (ran q (second ∷ rest) runs_so)
      (times (trigger_of m b) base every q (low (turn_tick clocks timeout)) limit None one (ap (λ (n : ℕ). nearest n (low (turn_tick clocks timeout))) at_q ∙ at_limit) (omega (arith, at_q, low_limit))) in
      settings (map (stop x) (take 8 (steppers x))) p (Some limit) (stops_setting x (take 8 (steppers x))) (takes_rig_tick q second ∙ at_q) runs_so two)) in
      subst Out (sym (is ∙ e)) done runs
    where
      starts_every : (r : Rig) → Ready None (acts r (cmd.TrsyncStart (trigger_of m b) (low (turn_tick clocks start)) every 2)).rig → Ready None (acts r (order_command m clocks b start axis order.Start)).rig
      starts_every r k = subst (λ (n : ℕ). Ready None (acts r (cmd.TrsyncStart (trigger_of m b) (low (turn_tick clocks start)) n 2)).rig) (sym every_is) k

  abbrev AllElse : List Ctl → Type 0
  AllElse [] = Unit {0}
  AllElse (c ∷ cs) = ((c.board == b) ≡ false) × AllElse cs

  none_here : (ctls : List Ctl) → AllElse ctls → Commands ctls ≡ []
  none_here [] k = refl
  none_here (c ∷ ctls) k = ap (λ (h : Bool). (if h then order_command m clocks b start axis c.what ∷ [] else []) ++ Commands ctls) k.0 ∙ none_here ctls k.1

  stops_else : (x : Seen) (is : List ℕ) → (x.member.board == b) ≡ false → AllElse (map (stop x) is)
  stops_else x [] e = tt
  stops_else x (i ∷ is) e = (e, stops_else x is e)

  pub started : (xs : List Seen) (r : Rig) → r.controller.tick ≡ now → (takes_all r (Commands (round_of (Starts timeout) xs))).rig.controller.state ≡ Running → HoldsOf (trigger_of m b) (λ pins s. IsPrepared base pins s) r
      → (Ready (Some limit) r ⊎ IsMember b (map (λ (s : Seen). s.member) xs)) → Ready (Some limit) (takes_all r (Commands (round_of (Starts timeout) xs))).rig
  started [] r at runs prep (inl k) = k
  started [] r at runs prep (inr k) = absurd k
  started (x ∷ xs) r at runs prep k =
      let A = Commands (orders_to (Starts timeout) x) in
      let B = Commands (round_of (Starts timeout) xs) in
      let q = (takes_all r A).rig in
      let both : Commands (round_of (Starts timeout) (x ∷ xs)) ≡ A ++ B = commands_both m clocks b start axis (orders_to (Starts timeout) x) (round_of (Starts timeout) xs) in
      let rigs : (takes_all r (Commands (round_of (Starts timeout) (x ∷ xs)))).rig ≡ (takes_all q B).rig = ap (λ (cs : List Cmd). (takes_all r cs).rig) both ∙ all_append r A B in
      let runs_q : (takes_all q B).rig.controller.state ≡ Running = ap (λ (z : Rig). z.controller.state) (sym rigs) ∙ runs in
      subst (Ready (Some limit)) (sym rigs) (elim (eqb_tells x.member.board b) [
        | inl p ↦
            let armed = started_here x (x.member.board == b) refl p.0 r at (ran q B runs_q) prep in
            started xs q (all_tick r A ∙ at) runs_q (prepared (trigger_of m b) base every (Some limit) q armed) (inl armed)
        | inr p ↦
            let none : A ≡ [] = none_here (orders_to (Starts timeout) x) (p.0, (p.0, stops_else x (take 8 (steppers x)) p.0)) in
            let same : q ≡ r = ap (λ (cs : List Cmd). (takes_all r cs).rig) none in
            let runs_r : (takes_all r B).rig.controller.state ≡ Running = ap (λ (z : Rig). (takes_all z B).rig.controller.state) (sym same) ∙ runs_q in
            subst (λ (z : Rig). Ready (Some limit) (takes_all z B).rig) (sym same) (started xs r at runs_r prep (elim k [ inl a ↦ inl a | inr on ↦ elim on [ inl e ↦ absurd (p.1 e) | inr more ↦ inr more ] ]))
      ])

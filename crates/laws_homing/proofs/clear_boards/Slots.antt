-- What holds of each trigger of a board is carried over time, and over commands, by what these make of one trigger.
use Rattle.std.proofs.Common.{◌≡◌, ◌≢◌, ℕ, zero, suc, ◌+◌, ◌/◌, ◌%◌, ◌^◌, ◌<◌, ◌≤◌, Bool, true, false, List, [], ◌∷◌, length, get_or, set, Option, Some, None, refl, ap, sym, ◌∙◌, subst, arith, ◌⊎◌, inl, inr, rules}
use Rattle.std.specs.Prelude.{if◌then◌else◌, slice_index_or, nat_le, nat_lt}
use Rattle.laws_board.proofs.Names.{leb_tells, get_or-set_same, length-map, Level, BoardState, Running, Shut, nearest, Pending, Trigger, Happening, Nothing, Expires, Switches, Reports, Cmd, Passed, Rig, Slot, acts, acts_running, all_left, at_of, becomes, earliest_moment, expires_at_once, goes_on, happens_to, pass, passes, passes_by, rests_to, runs_to, set_timeout, slot_at, takes, takes_all, slot_range, says, no_both}
use Rattle.std.proofs.lemmas.List.{get_or-set_other, length-set}
use Rattle.plan_types.specs.Numbers.{tick_before}
use Rattle.board_trig.specs.declared.sampling.Homing.{Homing}
use Rattle.board_trig.specs.Kept.{MovesOn}
use Rattle.board_trig.specs.Nexts.{ExpiresAt, IsNextOf, SwitchesAt}
use Rattle.board_trig.specs.Trigger as trig
use Rattle.board_trig.proofs.Nexts.{is_next, was_before, was_switch}
use Rattle.msg_code.specs.declared.cmd.Cmd.TheVariants as cmd
use Rattle.board_sim.specs.Board.{stepper_at, takes as board_takes}
use Rattle.board_sim.specs.Rig.{bind, by_board, happens_at, home, make_endstop, make_trigger, moment_in, moment_of, rested, sooner, start_trigger, tell, trigger_answers, trigger}
use Rattle.board_sim.proofs.Bound.{map_at, same_or_not}
use Rattle.board_sim.proofs.RigTicks.{takes_rig_tick}
use Rattle.board_world.specs.World.{shut_before}
use Rattle.laws_board.proofs.clocks.Answers.{Each, each_both}
use Rattle.laws_homing.specs.home_runs.Guards.{IsSole}
use Rattle.laws_homing.proofs.home_runs.Saying.{IsOther, board_tells, shut_other}
use Rattle.plan_types.proofs.Facts.{some_same}
use Rattle.board_sim.proofs.Sound.{at_set, rested_is}

-- each of some answers is so, where all are
pub each_of : (Q : Cmd → Type 0) (cs : List Cmd) → ((c : Cmd) → Q c) → Each Q cs
each_of Q [] k = tt
each_of Q (c ∷ cs) k = (k c, each_of Q cs k)

-- a place of a list that is set
pub set_either : {A : Type 0} (xs : List (Option A)) (i j : ℕ) (v : Option A) → ((i ≡ j) × (get_or (set xs i v) j None ≡ v)) ⊎ (get_or (set xs i v) j None ≡ get_or xs j None)
set_either [] i j v = inr refl
set_either (x ∷ xs) zero zero v = inl (refl, refl)
set_either (x ∷ xs) zero (suc j) v = inr refl
set_either (x ∷ xs) (suc i) zero v = inr refl
set_either (x ∷ xs) (suc i) (suc j) v = elim (set_either xs i j v) [ inl p ↦ inl (ap (λ n. suc n) p.0, p.1) | inr e ↦ inr e ]

pub clock_small : (tick : ℕ) → tick % 2 ^ 32 < 2 ^ 32
clock_small tick = omega arith

-- where nothing happens before a tick, nothing happens to any trigger
pub moment_none : (e : Happening) → moment_of e ≡ None → e ≡ Nothing
moment_none Nothing m = refl
moment_none c m = absurd (cc)

sooner_none : (oid : ℕ) (m : Option ℕ) (rest : Option (ℕ × ℕ)) → sooner oid m rest ≡ None → (m ≡ None) × (rest ≡ None)
sooner_none oid m rest p3 = search (rules, nat_le)

pub none_next : (r : Rig) (until oid p : ℕ) (ss : List (Option Slot)) (s : Slot) → get_or ss p None ≡ Some s → earliest_moment r until oid ss ≡ None → moment_in r until (Some s) ≡ None
none_next r until oid p [] s at e = absurd (cc)
none_next r until oid zero (o ∷ os) s at e = ap (moment_in r until) (sym at) ∙ (sooner_none oid (moment_in r until o) (earliest_moment r until (oid + 1) os) e).0
none_next r until oid (suc p) (o ∷ os) s at e = none_next r until (oid + 1) p os s at (sooner_none oid (moment_in r until o) (earliest_moment r until (oid + 1) os) e).1

-- what happens next to a trigger: an expiry or a switch that is before the tick; and where its readings move on, the earliest of all
abbrev Comes : List Level → ℕ → Trigger → Happening → Type 0
Comes levels until t (Expires at) = ExpiresAt t at × (at < until)
Comes levels until t (Switches at) = SwitchesAt levels t at × (at < until)
Comes levels until t e = Unit {0}

pub record Next (levels : List Level) (until : ℕ) (t : Trigger) (e : Happening) : Type 0 where
  pub comes : Comes levels until t e
  pub whole : MovesOn t.sampling → IsNextOf levels until t e

expiry_under : (until : ℕ) (o e : Option ℕ) → tick_before until o ≡ e → trig.or_until until e ≤ until
expiry_under until o None at = omega arith
expiry_under until o (Some n) at = let x = (was_before until o n at).1 in omega (arith, x)

comes_by : (e s report : Option ℕ) (levels : List Level) (until : ℕ) (t : Trigger) → trig.expiry_of until t ≡ e → trig.switch_of levels until t ≡ s → Comes levels until t (trig.earliest_happening e s report)
comes_by e s (Some tick) levels until t at on = tt
comes_by e (Some tick) None levels until t at on =
    let is = was_switch levels (trig.or_until until (trig.expiry_of until t)) t.can t.sampling tick on in
    let early = is.1 in
    let low = expiry_under until t.timeout (trig.expiry_of until t) refl in
    (is.0, omega (arith, early, low))
comes_by (Some tick) None None levels until t at on = was_before until t.timeout tick at
comes_by None None None levels until t at on = tt

next_is : (levels : List Level) (until : ℕ) (t : Trigger) → Next levels until t (trig.next_happening levels until t)
next_is levels until t = record { comes = comes_by (trig.expiry_of until t) (trig.switch_of levels until t) (trig.report_of levels until t) levels until t refl refl; whole = is_next levels until t }

-- the same place with another trigger; and a place as it is made
abbrev pub with_trigger : Slot → Trigger → Slot
with_trigger s t = record s { trigger = t }

abbrev pub new_slot : Slot
new_slot = record { trigger = trig.new_trigger; pin = 0; bound = [] }

abbrev pub levels_at : List (List Level) → Slot → List Level
levels_at pins s = slice_index_or pins s.pin []

-- What a board keeps beside what its triggers are: the levels of its pins, how many places there are, where something is so its endstops, and
-- the places at which triggers stand.
abbrev pub Beside : Type 0 → Rig → Rig → Type 0
Beside M r q = (q.pins ≡ r.pins) × (length q.triggers ≡ length r.triggers) × (M → q.endstops ≡ r.endstops) × ((i : ℕ) (s : Slot) → slot_at r i ≡ Some s → (u : Slot) × (slot_at q i ≡ Some u))

abbrev pub MakesNone : Cmd → Type 0
MakesNone (cmd.ConfigEndstop oid pin pull) = ⊥
MakesNone c = Unit {0}

beside_then : (L M : Type 0) (r q p : Rig) → Beside L r q → Beside M q p → Beside (L × M) r p
beside_then L M r q p x y = (y.0 ∙ x.0, y.1 ∙ x.1, (λ m. y.2 m.1 ∙ x.2 m.0), λ i s at. let u = x.3 i s at in y.3 i u.0 u.1)

pub set_beside : (M : Type 0) (r q : Rig) (k : ℕ) (u : Slot) → q.triggers ≡ set r.triggers k (Some u) → q.pins ≡ r.pins → q.endstops ≡ r.endstops → Beside M r q
set_beside M r q k u e levels ends = (levels, ap length e ∙ length-set r.triggers k (Some u), (λ m. ends), stands)
  where
    stands : (i : ℕ) (s : Slot) → slot_at r i ≡ Some s → (u : Slot) × (slot_at q i ≡ Some u)
    stands i s at =
        let is = ap (λ (xs : List (Option Slot)). get_or xs i None) e in
        elim (set_either r.triggers k i (Some u)) [ inl p ↦ (u, is ∙ p.1) | inr p ↦ (s, is ∙ p ∙ at) ]

same_beside : (M : Type 0) (r q : Rig) → q.triggers ≡ r.triggers → q.pins ≡ r.pins → (M → q.endstops ≡ r.endstops) → Beside M r q
same_beside M r q e levels ends = (levels, ap length e, ends, λ i s at. (s, ap (λ (xs : List (Option Slot)). get_or xs i None) e ∙ at))

-- A property of a trigger: of the levels of the board's pins, its object id and its place.
module _ (P : List (List Level) → ℕ → Slot → Type 0) where
  -- so is each trigger of a board
  abbrev pub OfEach : Rig → Type 0
  OfEach r = (oid : ℕ) (s : Slot) → slot_at r oid ≡ Some s → P r.pins oid s

  pub set_each : (r q : Rig) (k : ℕ) (u : Slot) → q.triggers ≡ set r.triggers k (Some u) → q.pins ≡ r.pins → OfEach r → P r.pins k u → OfEach q
  set_each r q k u e levels all here oid s at =
      let there : get_or (set r.triggers k (Some u)) oid None ≡ Some s = subst (λ (xs : List (Option Slot)). get_or xs oid None ≡ Some s) e at in
      let one : P r.pins oid s = elim (set_either r.triggers k oid (Some u)) [
        | inl p ↦ subst (λ (z : Slot). P r.pins oid z) (some_same u s (sym p.1 ∙ there)) (subst (λ (n : ℕ). P r.pins n u) p.0 here)
        | inr p ↦ all oid s (sym p ∙ there)
      ] in
      subst (λ (ps : List (List Level)). P ps oid s) (sym levels) one

  -- so too where nothing is known of the place that is set
  pub set_over : (r q : Rig) (k : ℕ) (v u : Slot) → slot_at r k ≡ Some v → q.triggers ≡ set r.triggers k (Some u) → q.pins ≡ r.pins → ((oid : ℕ) (s : Slot) → oid ≢ k → slot_at r oid ≡ Some s → P r.pins oid s) → P r.pins k u → OfEach q
  set_over r q k v u there e levels all here oid s at = subst (λ (ps : List (List Level)). P ps oid s) (sym levels) (by (same_or_not oid k))
    where
      now : get_or (set r.triggers k (Some u)) oid None ≡ Some s
      now = subst (λ (xs : List (Option Slot)). get_or xs oid None ≡ Some s) e at

      by : (oid ≡ k) ⊎ (oid ≢ k) → P r.pins oid s
      by (inl same) =
          let is : Some u ≡ Some s = sym (get_or-set_same r.triggers k (Some u) None (slot_range r.triggers k v there)) ∙ subst (λ (n : ℕ). get_or (set r.triggers k (Some u)) n None ≡ Some s) same now in
          subst (λ (z : Slot). P r.pins oid z) (some_same u s is) (subst (λ (n : ℕ). P r.pins n u) (sym same) here)
      by (inr d) = all oid s d (sym (get_or-set_other r.triggers k oid (Some u) None d) ∙ now)

  pub same_each : (r q : Rig) → q.triggers ≡ r.triggers → q.pins ≡ r.pins → OfEach r → OfEach q
  same_each r q e levels all oid s at =
      subst (λ (ps : List (List Level)). P ps oid s) (sym levels) (all oid s (subst (λ (xs : List (Option Slot)). get_or xs oid None ≡ Some s) e at))

  abbrev Turned : Type 0 → Rig → Rig → Type 0
  Turned M r q = OfEach q × Beside M r q

  set_turned : (M : Type 0) (r q : Rig) (k : ℕ) (u : Slot) → q.triggers ≡ set r.triggers k (Some u) → q.pins ≡ r.pins → q.endstops ≡ r.endstops → OfEach r → P r.pins k u → Turned M r q
  set_turned M r q k u e levels ends all here = (set_each r q k u e levels all here, set_beside M r q k u e levels ends)

  same_turned : (M : Type 0) (r q : Rig) → q.triggers ≡ r.triggers → q.pins ≡ r.pins → q.endstops ≡ r.endstops → OfEach r → Turned M r q
  same_turned M r q e levels ends all = (same_each r q e levels all, same_beside M r q e levels (λ m. ends))

  -- What is shown of one trigger for time up to a tick: it is so behind what happens next, and once what was untold is told.
  pub record Lasts (until : ℕ) : Type 0 where
    pub comes : (pins : List (List Level)) (oid : ℕ) (s : Slot) (e : Happening) → Next (levels_at pins s) until s.trigger e → P pins oid s → P pins oid (with_trigger s (trig.happened (levels_at pins s) until e s.trigger).trigger)
    pub says : (pins : List (List Level)) (oid : ℕ) (s : Slot) (n : ℕ) → s.trigger.untold ≡ Some n → P pins oid s → P pins oid (with_trigger s (record s.trigger { untold = None }))

  -- What is shown of one trigger for commands that are fit at the board's tick: it is so as it is made, started, given a timeout that is ahead,
  -- triggered by one that isn't, told of, triggered by an order, bound to a stepper, and as its readings begin.
  pub record Follows (Fit : ℕ → Cmd → Type 0) : Type 0 where
    pub made : (pins : List (List Level)) (now oid : ℕ) → Fit now (cmd.ConfigTrsync oid) → P pins oid new_slot
    pub starts : (pins : List (List Level)) (now oid : ℕ) (s : Slot) (clock every reason : ℕ) → Fit now (cmd.TrsyncStart oid clock every reason) → P pins oid s → P pins oid (with_trigger s (trig.started now clock every reason s.trigger))
    pub limits : (pins : List (List Level)) (now oid : ℕ) (s : Slot) (clock : ℕ) → Fit now (cmd.TrsyncSetTimeout oid clock) → s.trigger.can ≡ true → now < nearest now clock → P pins oid s
        → P pins oid (with_trigger s (record s.trigger { timeout = Some (nearest now clock) }))
    pub expires : (pins : List (List Level)) (now oid : ℕ) (s : Slot) (clock : ℕ) → Fit now (cmd.TrsyncSetTimeout oid clock) → s.trigger.can ≡ true → nearest now clock ≤ now → P pins oid s
        → P pins oid (with_trigger s (record (trig.fired now s.trigger.expire s.trigger) { untold = None }))
    pub says : (pins : List (List Level)) (oid : ℕ) (s : Slot) (n : ℕ) → s.trigger.untold ≡ Some n → P pins oid s → P pins oid (with_trigger s (record s.trigger { untold = None }))
    pub fires : (pins : List (List Level)) (now oid : ℕ) (s : Slot) (reason : ℕ) → Fit now (cmd.TrsyncTrigger oid reason) → s.trigger.can ≡ true → P pins oid s → P pins oid (with_trigger s (trig.fired now reason s.trigger))
    pub binds : (pins : List (List Level)) (now oid : ℕ) (s : Slot) (i : ℕ) → Fit now (cmd.StepperStopOnTrigger i oid) → P pins oid s → P pins oid (record s { bound = i ∷ s.bound })
    pub homes : (pins : List (List Level)) (now oid : ℕ) (s : Slot) (i pin : ℕ) (g : Homing) → Fit now (cmd.EndstopHome i g.clock g.sample_ticks g.sample_count g.rest_ticks g.pin_value oid g.reason) → P pins oid s
        → P pins oid (record s { trigger = trig.sampling now g s.trigger; pin = pin })

  -- what is told of such a trigger is so, on a board with so many places, and what tells of none
  pub record Tells (room : ℕ) (Q : Cmd → Type 0) : Type 0 where
    pub own : (pins : List (List Level)) (oid n : ℕ) (s : Slot) → oid < room → P pins oid s → Q (tell oid (trig.state_at n s.trigger))
    pub other : (c : Cmd) → IsOther c → Q c

  tells_nothing : (room : ℕ) → Tells room (λ (c : Cmd). Unit {0})
  tells_nothing room = record { own = λ pins oid n s l k. tt; other = λ c o. tt }

  module _ (room : ℕ) (Q : Cmd → Type 0) (tells : Tells room Q) where
    -- a board behind another one, and what was told between them
    abbrev Both : Type 0 → Rig → Rig → List Cmd → Type 0
    Both M r q answers = OfEach q × Beside M r q × Each Q answers

    abbrev Few : Rig → Type 0
    Few r = length r.triggers ≤ room

    quietly : (M : Type 0) (r q : Rig) → Turned M r q → Both M r q []
    quietly M r q k = (k.0, k.1, tt)

    under : (r : Rig) (oid : ℕ) (s : Slot) → Few r → slot_at r oid ≡ Some s → oid < room
    under r oid s few e = let l = slot_range r.triggers oid s e in omega (arith, l, few)

    others_tell : (cs : List Cmd) → Each IsOther cs → Each Q cs
    others_tell [] o = tt
    others_tell (c ∷ cs) o = (tells.other c o.0, others_tell cs o.1)

    -- as time passes
    module _ (until : ℕ) (lasts : Lasts until) where
      abbrev One : List (List Level) → ℕ → Slot → trig.Advanced → Type 0
      One pins oid s a = P pins oid (with_trigger s a.trigger) × Each Q (trigger_answers oid a.event)

      comes_told : (pins : List (List Level)) (oid : ℕ) (s : Slot) (e : Happening) → oid < room → P pins oid (with_trigger s (trig.happened (levels_at pins s) until e s.trigger).trigger) → Each Q (trigger_answers oid (trig.happened (levels_at pins s) until e s.trigger).event)
      comes_told pins oid s Nothing l k = tt
      comes_told pins oid s (Expires at) l k = (tells.own pins oid at (with_trigger s (trig.happened (levels_at pins s) until (Expires at) s.trigger).trigger) l k, tt)
      comes_told pins oid s (Switches at) l k = (tells.own pins oid at (with_trigger s (trig.happened (levels_at pins s) until (Switches at) s.trigger).trigger) l k, tt)
      comes_told pins oid s (Reports at) l k = (tells.own pins oid at (with_trigger s (trig.happened (levels_at pins s) until (Reports at) s.trigger).trigger) l k, tt)

      tells_one : (o : Option ℕ) (pins : List (List Level)) (oid : ℕ) (s : Slot) → oid < room → s.trigger.untold ≡ o → P pins oid s → One pins oid s (trig.tells o (levels_at pins s) until s.trigger)
      tells_one o pins oid s p4 p5 p6 = search (rules, next_is, comes_told)

      happens_both : (oid : ℕ) (r : Rig) (o : Option Slot) → Few r → slot_at r oid ≡ o → OfEach r → Both (Unit {0}) r (happens_to r until oid o).rig (happens_to r until oid o).answers
      happens_both oid r None few e all = quietly (Unit {0}) r r (same_turned (Unit {0}) r r refl refl refl all)
      happens_both oid r (Some s) few e all =
          let a = trig.advanced (levels_at r.pins s) until s.trigger in
          let one = tells_one s.trigger.untold r.pins oid s (under r oid s few e) refl (all oid s e) in
          let new = set_turned (Unit {0}) r (becomes r oid s a.trigger) oid (with_trigger s a.trigger) refl refl refl all one.0 in
          (new.0, new.1, one.1)

      rests_each : (r : Rig) → earliest_moment r until 0 r.triggers ≡ None → OfEach r → OfEach (rests_to r until).rig
      rests_each r none all oid u at =
          let x = rested_is r.pins until (slot_at r oid) u (sym (map_at (rested r.pins until) r.triggers oid refl) ∙ at) in
          let s = x.0 in
          let levels = levels_at r.pins s in
          let nothing : trig.next_happening levels until s.trigger ≡ Nothing = moment_none (trig.next_happening levels until s.trigger) (none_next r until 0 oid r.triggers s x.1 none) in
          let next : Next levels until s.trigger Nothing = subst (λ (e : Happening). Next levels until s.trigger e) nothing (next_is levels until s.trigger) in
          subst (λ (z : Slot). P r.pins oid z) (sym x.2) (lasts.comes r.pins oid s Nothing next (all oid s x.1))

      goes_both : (o : Option (ℕ × ℕ)) (r : Rig) (rest : Passed) → Few r → earliest_moment r until 0 r.triggers ≡ o → OfEach r
          → (let q = (happens_at r until (at_of o)).rig in Few q → OfEach q → Both (Unit {0}) q rest.rig rest.answers)
          → let p = goes_on o (rests_to r until) (passes_by (happens_at r until (at_of o)) rest) in Both (Unit {0}) r p.rig p.answers
      goes_both None r rest few e all more = (rests_each r e all, (refl, length-map r.triggers (rested r.pins until), (λ m. refl), λ i s at. (_, map_at (rested r.pins until) r.triggers i refl ∙ ap (rested r.pins until) at)), tt)
      goes_both (Some at) r rest few e all more =
          let ran = (runs_to r (at.0 / 3)).rig in
          let q = (happens_at r until at).rig in
          let first = happens_both at.1 ran (slot_at ran at.1) few refl (same_each r ran refl refl all) in
          let places = first.1.1 in
          let behind = more (omega (arith, few, places)) first.0 in
          let beside = beside_then (Unit {0}) (Unit {0}) ran q rest.rig first.1 behind.1 in
          (behind.0, (beside.0, beside.1, (λ m. beside.2 (tt, tt)), beside.3), each_both Q (happens_at r until at).answers rest.answers first.2 behind.2)

      pub pass_both : (n : ℕ) (r : Rig) → Few r → OfEach r → Both (Unit {0}) r (pass n r until).rig (pass n r until).answers
      pass_both zero r few all = quietly (Unit {0}) r r (same_turned (Unit {0}) r r refl refl refl all)
      pass_both (suc n) r few all =
          let o = earliest_moment r until 0 r.triggers in
          goes_both o r (pass n (happens_at r until (at_of o)).rig until) few refl all (λ l k. pass_both n (happens_at r until (at_of o)).rig l k)

      pub passes_both : (r : Rig) → Few r → OfEach r → Both (Unit {0}) r (passes r until).rig (passes r until).answers
      passes_both r few all = by (nat_le r.controller.tick until)
        where
          by : (b : Bool) → let p : Passed = if b then pass (all_left until r.triggers + 1) r until else record { rig = r; pulses = []; answers = [] } in Both (Unit {0}) r p.rig p.answers
          by true = pass_both (all_left until r.triggers + 1) r few all
          by false = quietly (Unit {0}) r r (same_turned (Unit {0}) r r refl refl refl all)

      -- and what a board says as time passes, also of its shutdown
      pub says_both : (r : Rig) → Few r → OfEach r → Both (Unit {0}) r (passes r until).rig (says r until)
      says_both r few all =
          let one = passes_both r few all in
          let from = shut_before r.controller.state r.controller.tick in
          (one.0, one.1, each_both Q (passes r until).answers _ one.2 (others_tell _ (shut_other from r.controller.tick until)))

    -- commands
    module _ (Fit : ℕ → Cmd → Type 0) (f : Follows Fit) where
      turns : (M : Type 0) (r : Rig) (oid : ℕ) (s : Slot) (t : Trigger) → OfEach r → P r.pins oid (with_trigger s t) → Turned M r (becomes r oid s t)
      turns M r oid s t all k = set_turned M r (becomes r oid s t) oid (with_trigger s t) refl refl refl all k

      turns_both : (M : Type 0) (r : Rig) (oid now : ℕ) (s : Slot) (t : Trigger) → oid < room → OfEach r → P r.pins oid (with_trigger s t) → Both M r (becomes r oid s t) (tell oid (trig.state_at now t) ∷ [])
      turns_both M r oid now s t l all k = let new = turns M r oid s t all k in (new.0, new.1, (tells.own r.pins oid now (with_trigger s t) l k, tt))

      once_both : (M : Type 0) (o : Option ℕ) (r : Rig) (oid : ℕ) (s : Slot) (t : Trigger) → oid < room → t.untold ≡ o → OfEach r → P r.pins oid (with_trigger s t) → Both M r (expires_at_once r oid s t o).rig (expires_at_once r oid s t o).answers
      once_both M None r oid s t l e all k = quietly M r (becomes r oid s t) (turns M r oid s t all k)
      once_both M (Some n) r oid s t l e all k = turns_both M r oid n s (record t { untold = None }) l all (f.says r.pins oid (with_trigger s t) n e k)

      abbrev timed : Bool → Bool → ℕ → ℕ → Trigger → Trigger
      timed can early now at t = if can then (if early then record t { timeout = Some at } else record (trig.fired now t.expire t) { untold = Some now }) else t

      abbrev Timed : Type 0 → Bool → Bool → Rig → ℕ → Slot → ℕ → Type 0
      Timed M can early r oid s at = let t = timed can early r.controller.tick at s.trigger in Both M r (expires_at_once r oid s t t.untold).rig (expires_at_once r oid s t t.untold).answers

      timed_both : (M : Type 0) (can early : Bool) (r : Rig) (oid : ℕ) (s : Slot) (clock : ℕ) → oid < room → s.trigger.can ≡ can → nat_lt r.controller.tick (nearest r.controller.tick clock) ≡ early
          → Fit r.controller.tick (cmd.TrsyncSetTimeout oid clock) → OfEach r → P r.pins oid s → Timed M can early r oid s (nearest r.controller.tick clock)
      timed_both M true true r oid s clock l e less fit all k =
          let now = r.controller.tick in
          let t : Trigger = record s.trigger { timeout = Some (nearest now clock) } in
          let ahead : now < nearest now clock = elim (leb_tells (suc now) (nearest now clock)) [ inl p ↦ p.1 | inr p ↦ absurd (let bad : true ≡ false = sym less ∙ p.0 in cc) ] in
          once_both M t.untold r oid s t l refl all (f.limits r.pins now oid s clock fit e ahead k)
      timed_both M true false r oid s clock l e less fit all k =
          let now = r.controller.tick in
          let past : nearest now clock ≤ now = elim (leb_tells (suc now) (nearest now clock)) [ inl p ↦ absurd (let bad : true ≡ false = sym p.0 ∙ less in cc) | inr p ↦ let l = p.1 in omega (arith, l) ] in
          turns_both M r oid now s (record (trig.fired now s.trigger.expire s.trigger) { untold = None }) l all (f.expires r.pins now oid s clock fit e past k)
      timed_both M false early r oid s clock l e less fit all k = once_both M s.trigger.untold r oid s s.trigger l refl all k

      fired_one : (can : Bool) (pins : List (List Level)) (now oid : ℕ) (s : Slot) (reason : ℕ) → s.trigger.can ≡ can → Fit now (cmd.TrsyncTrigger oid reason) → P pins oid s → P pins oid (with_trigger s (if can then trig.fired now reason s.trigger else s.trigger))
      fired_one true pins now oid s reason e fit k = f.fires pins now oid s reason fit e k
      fired_one false pins now oid s reason e fit k = k

      -- a board behind a command, and what it answers
      abbrev Acts : Rig → Cmd → Rig → Type 0
      Acts r c q = Fit r.controller.tick c → OfEach r → Turned (MakesNone c) r q

      abbrev Answers : Rig → Cmd → (Rig → List Cmd → Type 0)
      Answers r c q answers = Few r → Fit r.controller.tick c → OfEach r → Both (MakesNone c) r q answers

      timeout_both : (r : Rig) (oid clock : ℕ) (o : Option Slot) → slot_at r oid ≡ o → Answers r (cmd.TrsyncSetTimeout oid clock) (set_timeout r oid o clock).rig (set_timeout r oid o clock).answers
      timeout_both r oid clock None e few fit all = quietly (Unit {0}) r r (same_turned (Unit {0}) r r refl refl refl all)
      timeout_both r oid clock (Some s) e few fit all =
          timed_both (Unit {0}) s.trigger.can (nat_lt r.controller.tick (nearest r.controller.tick clock)) r oid s clock (under r oid s few e) refl refl fit all (all oid s e)

      trigger_both : (r : Rig) (oid reason : ℕ) (o : Option Slot) → slot_at r oid ≡ o → Answers r (cmd.TrsyncTrigger oid reason) (trigger r oid o reason).rig (trigger r oid o reason).answers
      trigger_both r oid reason None e few fit all = quietly (Unit {0}) r r (same_turned (Unit {0}) r r refl refl refl all)
      trigger_both r oid reason (Some s) e few fit all =
          let now = r.controller.tick in
          turns_both (Unit {0}) r oid now s (trig.triggered now reason s.trigger) (under r oid s few e) all (fired_one s.trigger.can r.pins now oid s reason refl fit (all oid s e))

      made_turned : (r : Rig) (oid : ℕ) (o : Option Slot) → Acts r (cmd.ConfigTrsync oid) (make_trigger r oid o)
      made_turned r oid None fit all = set_turned (Unit {0}) r (make_trigger r oid None) oid new_slot refl refl refl all (f.made r.pins r.controller.tick oid fit)
      made_turned r oid (Some s) fit all = same_turned (Unit {0}) r r refl refl refl all

      start_turned : (r : Rig) (oid clock every reason : ℕ) (o : Option Slot) → slot_at r oid ≡ o → Acts r (cmd.TrsyncStart oid clock every reason) (start_trigger r oid o clock every reason)
      start_turned r oid clock every reason None e fit all = same_turned (Unit {0}) r r refl refl refl all
      start_turned r oid clock every reason (Some s) e fit all =
          let now = r.controller.tick in
          turns (Unit {0}) r oid s (trig.started now clock every reason s.trigger) all (f.starts r.pins now oid s clock every reason fit (all oid s e))

      bind_turned : (r : Rig) (i oid : ℕ) (q : Option Pending) (o : Option Slot) → slot_at r oid ≡ o → Acts r (cmd.StepperStopOnTrigger i oid) (bind r i q oid o)
      bind_turned r i oid None o e fit all = same_turned (Unit {0}) r r refl refl refl all
      bind_turned r i oid (Some q) None e fit all = same_turned (Unit {0}) r r refl refl refl all
      bind_turned r i oid (Some q) (Some s) e fit all =
          set_turned (Unit {0}) r (bind r i (Some q) oid (Some s)) oid (record s { bound = i ∷ s.bound }) refl refl refl all (f.binds r.pins r.controller.tick oid s i fit (all oid s e))

      home_turned : (r : Rig) (i oid : ℕ) (p : Option ℕ) (o : Option Slot) (g : Homing) → slot_at r oid ≡ o
          → Acts r (cmd.EndstopHome i g.clock g.sample_ticks g.sample_count g.rest_ticks g.pin_value oid g.reason) (home r p oid o g)
      home_turned r i oid None o g e fit all = same_turned (Unit {0}) r r refl refl refl all
      home_turned r i oid (Some pin) None g e fit all = same_turned (Unit {0}) r r refl refl refl all
      home_turned r i oid (Some pin) (Some s) g e fit all =
          let now = r.controller.tick in
          let u : Slot = record s { trigger = trig.sampling now g s.trigger; pin = pin } in
          set_turned (Unit {0}) r (home r (Some pin) oid (Some s) g) oid u refl refl refl all (f.homes r.pins now oid s i pin g fit (all oid s e))

      endstop_turned : (r : Rig) (oid pin : ℕ) (o : Option ℕ) → OfEach r → Turned ⊥ r (make_endstop r oid pin o)
      endstop_turned r oid pin None all = (same_each r (make_endstop r oid pin None) refl refl all, same_beside ⊥ r (make_endstop r oid pin None) refl refl (λ m. absurd m))
      endstop_turned r oid pin (Some p) all = same_turned ⊥ r r refl refl refl all

      board_both : (r : Rig) (c : Cmd) → OfEach r → Both (MakesNone c) r (by_board r c).rig (by_board r c).answers
      board_both r c all =
          let same = same_turned (MakesNone c) r (by_board r c).rig refl refl refl all in
          (same.0, same.1, others_tell (board_takes r.controller c).answers (board_tells r.controller c))

      acts_both : (r : Rig) (c : Cmd) → Answers r c (acts r c).rig (acts r c).answers
      acts_both r (cmd.ConfigTrsync oid) few fit all = quietly (Unit {0}) r (make_trigger r oid (slot_at r oid)) (made_turned r oid (slot_at r oid) fit all)
      acts_both r (cmd.TrsyncStart oid clock every reason) few fit all = quietly (Unit {0}) r (start_trigger r oid (slot_at r oid) clock every reason) (start_turned r oid clock every reason (slot_at r oid) refl fit all)
      acts_both r (cmd.TrsyncSetTimeout oid clock) few fit all = timeout_both r oid clock (slot_at r oid) refl few fit all
      acts_both r (cmd.TrsyncTrigger oid reason) few fit all = trigger_both r oid reason (slot_at r oid) refl few fit all
      acts_both r (cmd.StepperStopOnTrigger i oid) few fit all = quietly (Unit {0}) r (bind r i (stepper_at r.controller i) oid (slot_at r oid)) (bind_turned r i oid (stepper_at r.controller i) (slot_at r oid) refl fit all)
      acts_both r (cmd.ConfigEndstop oid pin pull) few fit all = quietly ⊥ r (make_endstop r oid pin (slice_index_or r.endstops oid None)) (endstop_turned r oid pin (slice_index_or r.endstops oid None) all)
      acts_both r (cmd.EndstopHome i clock sample count rest value oid reason) few fit all =
          let g : Homing = record { clock = clock; sample_ticks = sample; sample_count = count; rest_ticks = rest; pin_value = value; reason = reason } in
          let p = slice_index_or r.endstops i None in
          quietly (Unit {0}) r (home r p oid (slot_at r oid) g) (home_turned r i oid p (slot_at r oid) g refl fit all)
      acts_both r c few fit all = board_both r c all

      pub running_both : (o : BoardState) (r : Rig) (c : Cmd) → Answers r c (acts_running o r c).rig (acts_running o r c).answers
      running_both Running r c few fit all = acts_both r c few fit all
      running_both (Shut reason at first) r c few fit all = board_both r c all

      pub takes_both : (r : Rig) (c : Cmd) → Answers r c (takes r c).rig (takes r c).answers
      takes_both r c few fit all = running_both r.controller.state r c few fit all

      pub all_both : (r : Rig) (cs : List Cmd) → Few r → Each (Fit r.controller.tick) cs → OfEach r → Both (Each MakesNone cs) r (takes_all r cs).rig (takes_all r cs).answers
      all_both r [] few fit all = quietly (Unit {0}) r r (same_turned (Unit {0}) r r refl refl refl all)
      all_both r (c ∷ cs) few fit all =
          let one = takes_both r c few fit.0 all in
          let places = one.1.1 in
          let rest = all_both (takes r c).rig cs (omega (arith, few, places)) (subst (λ (n : ℕ). Each (Fit n) cs) (sym (takes_rig_tick r c)) fit.1) one.0 in
          (rest.0, beside_then (MakesNone c) (Each MakesNone cs) r (takes r c).rig (takes_all (takes r c).rig cs).rig one.1 rest.1, each_both Q (takes r c).answers (takes_all (takes r c).rig cs).answers one.2 rest.2)

  -- where nothing is said of answers
  pub pass_each : (until : ℕ) → Lasts until → (n : ℕ) (r : Rig) → OfEach r → OfEach (pass n r until).rig
  pass_each until l n r all = (pass_both (length r.triggers) (λ (c : Cmd). Unit {0}) (tells_nothing _) until l n r (omega arith) all).0

  pub happens_each : (until : ℕ) → Lasts until → (oid : ℕ) (r : Rig) (o : Option Slot) → slot_at r oid ≡ o → OfEach r → OfEach (happens_to r until oid o).rig
  happens_each until l oid r o e all = (happens_both (length r.triggers) (λ (c : Cmd). Unit {0}) (tells_nothing _) until l oid r o (omega arith) e all).0

  pub passes_each : (until : ℕ) → Lasts until → (r : Rig) → OfEach r → OfEach (passes r until).rig
  passes_each until l r all = (passes_both (length r.triggers) (λ (c : Cmd). Unit {0}) (tells_nothing _) until l r (omega arith) all).0

  pub running_each : (Fit : ℕ → Cmd → Type 0) → Follows Fit → (o : BoardState) (r : Rig) (c : Cmd) → Fit r.controller.tick c → OfEach r → OfEach (acts_running o r c).rig
  running_each Fit f o r c fit all = (running_both (length r.triggers) (λ (c : Cmd). Unit {0}) (tells_nothing _) Fit f o r c (omega arith) fit all).0

  pub takes_each : (Fit : ℕ → Cmd → Type 0) → Follows Fit → (r : Rig) (cs : List Cmd) → Each (Fit r.controller.tick) cs → OfEach r → OfEach (takes_all r cs).rig
  takes_each Fit f r cs fit all = (all_both (length r.triggers) (λ (c : Cmd). Unit {0}) (tells_nothing _) Fit f r cs (omega arith) fit all).0

-- what is so of all object ids of triggers, where it is of those at which commands make one
module _ (K : ℕ → Type 0) where
  abbrev Made : ℕ → Cmd → Type 0
  Made now (cmd.ConfigTrsync oid) = K oid
  Made now c = Unit {0}

  follows_fixed : Follows (λ pins oid s. K oid) Made
  follows_fixed = record {
    made = λ pins now oid fit. fit;
    starts = λ pins now oid s clock every reason fit k. k;
    limits = λ pins now oid s clock fit can ahead k. k;
    expires = λ pins now oid s clock fit can past k. k;
    says = λ pins oid s n e k. k;
    fires = λ pins now oid s reason fit can k. k;
    binds = λ pins now oid s i fit k. k;
    homes = λ pins now oid s i pin g fit k. k;
  }

-- no other trigger stands behind a command that makes none
abbrev pub MakesOnly : ℕ → Cmd → Type 0
MakesOnly j c = Made (λ oid. oid ≡ j) 0 c

pub running_sole : (o : BoardState) (r : Rig) (j : ℕ) (c : Cmd) → MakesOnly j c → IsSole j r → IsSole j (acts_running o r c).rig
running_sole o r j c only sole = running_each (λ pins oid s. oid ≡ j) (λ now a. MakesOnly j a) (follows_fixed (λ oid. oid ≡ j)) o r c only sole

-- and what stands beside any triggers
abbrev Any : List (List Level) → ℕ → Slot → Type 0
Any pins oid s = Unit {0}

abbrev Some_made : ℕ → Cmd → Type 0
Some_made now c = Made (λ oid. Unit {0}) 0 c

made_any : (c : Cmd) → Some_made 0 c
made_any (cmd.ConfigTrsync oid) = tt
made_any c = tt

pub passes_beside : (until : ℕ) (r : Rig) → Beside (Unit {0}) r (passes r until).rig
passes_beside until r = (passes_both Any (length r.triggers) (λ (c : Cmd). Unit {0}) (tells_nothing Any _) until (record { comes = λ pins oid s e next k. tt; says = λ pins oid s n e k. tt }) r (omega arith) (λ oid s at. tt)).1

pub running_beside : (o : BoardState) (r : Rig) (c : Cmd) → Beside (MakesNone c) r (acts_running o r c).rig
running_beside o r c = (running_both Any (length r.triggers) (λ (c : Cmd). Unit {0}) (tells_nothing Any _) Some_made (follows_fixed (λ oid. Unit {0})) o r c (omega arith) (made_any c) (λ oid s at. tt)).1

pub all_beside : (r : Rig) (cs : List Cmd) → Beside (Each MakesNone cs) r (takes_all r cs).rig
all_beside r cs = (all_both Any (length r.triggers) (λ (c : Cmd). Unit {0}) (tells_nothing Any _) Some_made (follows_fixed (λ oid. Unit {0})) r cs (omega arith) (each_of (Some_made 0) cs made_any) (λ oid s at. tt)).1

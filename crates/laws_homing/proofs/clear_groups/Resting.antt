-- Between its homing sections no trigger of a board of a clear scene can trigger.
use Rattle.std.proofs.Common.{◌≡◌, ℕ, ◌+◌, ◌<◌, ◌≤◌, ◌⊎◌, inl, inr, Bool, true, false, List, [], ◌∷◌, ◌++◌, length, map, Option, Some, None, refl, ap, sym, ◌∙◌, subst, arith}
use Rattle.laws_board.proofs.Names.{Level, Machine, Running, board_tick, clock_of, Clocks, IsValidMachine, board_at, clocks_at, turn_tick, Cmd, News, State, Unit as StepUnit, dir_commands, reset_commands, Entry, Switch, trigger_of, Meant, commands_of, Rig, Slot, passes, slot_at, takes_all, one_slot, plain, unit_orders, units_orders, queued_in, first_state, orders, End, Seen, GroupState, turned_group, Homing, answer_in, goes_on_homing, hears_all, homing_after, low, members_of, Connecting, Phase, news_of, noted, Reacted, Came, GoesOn, known_by, last_reacted, states-kept}
use Rattle.msg_code.specs.declared.cmd.Cmd.TheVariants as cmd
use Rattle.board_sim.specs.Board.{new_controller}
use Rattle.laws_board.specs.turns.Turns.{BoardTurn, stands_after}
use Rattle.laws_board.proofs.clocks.Controls.{states_start}
use Rattle.laws_board.proofs.clocks.Lines.{as_long, noted_phase}
use Rattle.laws_board.proofs.clocks.Turning.{goes}
use Rattle.laws_board.proofs.sections.Boarding.{runs_on}
use Rattle.laws_homing.specs.home_runs.Guards.{HasFired, IsSole}
use Rattle.laws_homing.specs.home_runs.Told.{IsMember, TellFiredFrom}
use Rattle.laws_homing.specs.home_runs.Windows.{IsFired, SayFired}
use Rattle.laws_homing.proofs.home_runs.Grouped.{answered_told}
use Rattle.laws_homing.proofs.home_runs.Guarding.{passes_next}
use Rattle.laws_homing.proofs.home_runs.Staging.{HasSlot, commands_both, staged_after}
use Rattle.trigger_group.proofs.Knows.{after_members, after_start}
use Rattle.host_reactor.specs.declared.ordered.Phase.TheVariants.{Running as RunsPhase}
use Rattle.laws_homing.specs.clear_boards.Hearing.{FiringNone}
use Rattle.laws_homing.specs.clear_boards.Turned.{AreSentBehind}
use Rattle.laws_homing.proofs.clear_boards.Rests.{clear_over}
use Rattle.laws_homing.proofs.clear_boards.Bridging.{none_firing}
use Rattle.laws_homing.proofs.clear_boards.Member.{turn_off}
use Rattle.laws_homing.proofs.clear_boards.Ordered.{plain_are, turn_ordered}
use Rattle.laws_homing.proofs.clear_boards.Taking.{takes_in_turn}
use Rattle.laws_homing.proofs.clear_boards.Turned.{above, next_all, stays_fired}
use Rattle.laws_homing.specs.clear_groups.Resting.{BeginsAlone, EachTame, IsUnderWay}
use Rattle.laws_homing.specs.clear_boards.Limited.{AllFired}
use Rattle.laws_homing.specs.clear_groups.Sections.{IsPlain}
use Rattle.laws_homing.proofs.clear_groups.Known.{behind_turn, open_group}
use Rattle.laws_homing.proofs.clear_groups.Noted.{IsNewly, noted_newly, some_or_none}
use Rattle.laws_homing.proofs.clear_groups.Off.{turn_off as turn_all_off}
use Rattle.laws_homing.proofs.clear_groups.Orders.{sent_from}
use Rattle.laws_homing.proofs.clear_groups.Owning.{one_trigger}
use Rattle.laws_homing.proofs.clear_groups.Plain.{none_at, none_some, turn_before}
use Rattle.laws_homing.proofs.clear_groups.Starting.{starts_either}
use Rattle.laws_homing.proofs.home_runs.Knowing.{noted_none, running_now}
use Rattle.host_reactor.proofs.Connects.{not-running, stop-phase}
use Rattle.plan_types.proofs.Facts.{true_or_false}
use Rattle.laws_homing.proofs.home_parts.Known.{answer_late}

-- what a board takes in a turn beside its controls starts no trigger
tame_both : (xs ys : List Cmd) → EachTame xs → EachTame ys → EachTame (xs ++ ys)
tame_both [] ys k l = l
tame_both (x ∷ xs) ys k l = (k.0, tame_both xs ys k.1 l)

meant_both : (xs ys : List Meant) → EachTame (commands_of xs) → EachTame (commands_of ys) → EachTame (commands_of (xs ++ ys))
meant_both xs ys k l = subst EachTame (sym (commands_both xs ys)) (tame_both (commands_of xs) (commands_of ys) k l)

reset_tame : (stepper : ℕ) (o : Option ℕ) → EachTame (commands_of (map plain (reset_commands stepper o)))
reset_tame stepper None = tt
reset_tame stepper (Some n) = (tt, tt)

dir_tame : (stepper : ℕ) (o : Option Bool) → EachTame (commands_of (map plain (dir_commands stepper o)))
dir_tame stepper None = tt
dir_tame stepper (Some up) = (tt, tt)

unit_tame : (u : StepUnit) → EachTame (commands_of (unit_orders u))
unit_tame u = meant_both (map plain (reset_commands u.stepper u.reset)) _ (reset_tame u.stepper u.reset) (meant_both (map plain (dir_commands u.stepper u.up)) _ (dir_tame u.stepper u.up) (tt, tt))

pub units_tame : (us : List StepUnit) → EachTame (commands_of (units_orders us))
units_tame [] = tt
units_tame (u ∷ us) = meant_both (unit_orders u) (units_orders us) (unit_tame u) (units_tame us)

pub taken_tame : (t : BoardTurn) → EachTame t.control.commands → EachTame (commands_of (queued_in (orders t.control t.batch)))
taken_tame t k = meant_both (map plain t.control.commands) (units_orders t.batch.units) (subst EachTame (sym (plain_are t.control.commands)) k) (units_tame t.batch.units)

-- what was told
one_clash : (c : Cmd) → IsFired c → (IsFired c → ⊥) → ⊥
one_clash (cmd.TrsyncState oid can reason clock) f n = n f
one_clash c f n = absurd f

news_clash : (ns : List News) → SayFired ns → FiringNone ns → ⊥
news_clash [] t n = t
news_clash (x ∷ ns) (inl f) n = one_clash x.answer f n.0
news_clash (x ∷ ns) (inr t) n = news_clash ns t n.1

told_late : (start : ℕ) (turns : List BoardTurn) → TellFiredFrom start turns → start ≤ length turns
told_late start [] t = absurd t
told_late start (x ∷ turns) (inl t) = (let l = t.0 in omega (arith, l))
told_late start (x ∷ turns) (inr t) = (let l = told_late start turns t in omega (arith, l))

-- a group and its section start together
abbrev pub Together : Option Homing → Type 0
Together None = Unit {0}
Together (Some h) = h.group.start ≡ h.start

pub newly_together : (m : Machine) (o : Option Homing) → IsNewly m o → Together o
newly_together m None k = tt
newly_together m (Some h) k = k.0

after_together : (k : ℕ) (h : Homing) (o : Option End) → h.group.start ≡ h.start → Together (goes_on_homing k h o)
after_together k h None e = after_start h.group k ∙ e
after_together k h (Some end) e = tt

pub heard_together : (clocks : List Clocks) (states : List State) (h : Homing) → h.group.start ≡ h.start → (hears_all clocks states h).group.start ≡ h.start
heard_together clocks states h e = states_start clocks 0 h.start states h.group ∙ e

homing_together : (clocks : List Clocks) (k : ℕ) (states : List State) (o : Option Homing) → Together o → Together (homing_after clocks k states o)
homing_together clocks k states None t = tt
homing_together clocks k states (Some h) t = let g = hears_all clocks states h in after_together k g (answer_in k g.start g.group) (heard_together clocks states h t)

pub some_same : (x y : Homing) → Some x ≡ Some y → x ≡ y
some_same x y e = cc

pub clash : (o : Option Homing) (h : Homing) → o ≡ None → o ≡ Some h → ⊥
clash None h e f = cc
clash (Some x) h e f = cc

-- a turn of the reactor
pub known_together : (m : Machine) (switches : List Switch) (came : List Came) → GoesOn m switches came → Together (known_by m switches came).homing
known_together m switches [] g = tt
known_together m switches (c ∷ before) g =
    let known = known_by m switches before in
    let n = noted m c.note known in
    let was : Together n.homing = elim (some_or_none (news_of c.note)) [
      | inl some ↦ newly_together m n.homing (noted_newly m c.note known some)
      | inr none ↦ subst Together (sym (noted_none m c.note known none)) (known_together m switches before g.1)
    ] in
    let So : Reacted → Type 0 = λ y. Together y.known.homing in
    elim (goes m switches known (length before) c.states c.note g.0) [
      | inl x ↦ subst So (sym x.is) was
      | inr later ↦ elim later [ inl x ↦ subst So (sym x.is) was | inr x ↦ subst So (sym x.is) (homing_together n.clocks (length before) c.states n.homing was) ]
    ]

pub record Next (m : Machine) (switches : List Switch) (d : Came) (past : List Came) : Type 0 where
  pub phase : (known_by m switches (d ∷ past)).phase ≡ Connecting → ⊥
  pub homing : (known_by m switches (d ∷ past)).homing ≡ homing_after (noted m d.note (known_by m switches past)).clocks (length past) d.states (noted m d.note (known_by m switches past)).homing

pub next_of : (m : Machine) (switches : List Switch) (d : Came) (past : List Came) → GoesOn m switches (d ∷ past) → ((noted m d.note (known_by m switches past)).phase ≡ Connecting → ⊥) → Next m switches d past
next_of m switches d past g open_it =
    let known = known_by m switches past in
    let x = last_reacted m switches d past in
    let r = running_now m (noted m d.note known) (length past) d.states x (goes m switches known (length past) d.states d.note g.0) open_it in
    record { phase = λ e. stop-phase r.stop (sym (ap (λ (y : Reacted). y.known.phase) r.is) ∙ e); homing = ap (λ (y : Reacted). y.known.homing) r.is }

module _ (m : Machine) (v : IsValidMachine m) (switches : List Switch) (pins : List (List Level)) (entries : List Entry) (none : entries ≡ []) (b : ℕ) where
  abbrev Board : List BoardTurn → Rig
  Board turns = (stands_after (first_state (board_at m b) pins b entries) turns).core.board

  abbrev Oid : ℕ
  Oid = trigger_of m b

  abbrev Way : List Came → List BoardTurn → Type 0
  Way before turns = AllFired (Board turns) ⊎ (((known_by m switches before).phase ≡ Connecting → ⊥) × IsUnderWay Oid b (length before) (known_by m switches before).homing turns (Board turns))

  pub board_runs : (before : List Came) (turns : List BoardTurn) → IsPlain m switches pins entries b before turns → (Board turns).controller.state ≡ Running
  unfolding new_controller
  board_runs before [] p = refl
  board_runs before (t ∷ turns) p = runs_on t.after.core.board.controller.state t.state.shut p.run.turns_are.0.1.shut p.none_shut.0

  owns : (before : List Came) (turns : List BoardTurn) → IsPlain m switches pins entries b before turns → ((known_by m switches before).phase ≡ Connecting → ⊥) → IsSole Oid (Board turns) × HasSlot Oid (Board turns)
  owns before turns p n = one_trigger m switches pins entries b before turns v none p.run p.limits n (board_runs before turns p)

  fired_off : (r : Rig) → IsSole Oid r → HasFired Oid r → AllFired r
  fired_off r sole f i s at =
      let here : slot_at r Oid ≡ Some s = subst (λ (n : ℕ). slot_at r n ≡ Some s) (sole i s at) at in
      subst (λ (x : Slot). x.trigger.can ≡ false) (one_slot (slot_at r Oid) f.slot s f.is here) f.fired

  module _ (d : Came) (past : List Came) (t : BoardTurn) (turns : List BoardTurn) (now : IsPlain m switches pins entries b (d ∷ past) (t ∷ turns)) (was : IsPlain m switches pins entries b past turns) where
    abbrev Commands : List Cmd
    Commands = commands_of (queued_in (orders t.control t.batch))

    abbrev Until : ℕ
    Until = board_tick (clock_of (board_at m b)) (length turns + 1)

    taken : Board (t ∷ turns) ≡ (passes (takes_all (Board turns) Commands).rig Until).rig
    taken = takes_in_turn (board_at m b) pins b entries t turns none now.run.turns_are now.limits

    tame_off : EachTame t.control.commands → AllFired (Board turns) → AllFired (Board (t ∷ turns))
    tame_off tame off = subst AllFired (sym taken) (turn_all_off Until (Board turns) Commands (taken_tame t tame) off)

    -- a trigger behind the set-up, of which it was told that it can't trigger
    fires_on : (clock : ℕ) → AreSentBehind Oid clock Commands → HasFired Oid (Board turns) → HasFired Oid (Board (t ∷ turns))
    fires_on clock behind f = subst (HasFired Oid) (sym taken) (stays_fired Oid clock Until (Board turns) Commands behind f)

    fires_now : (clock : ℕ) → AreSentBehind Oid clock Commands → IsSole Oid (Board turns) → HasSlot Oid (Board turns) → SayFired t.state.news → HasFired Oid (Board (t ∷ turns))
    fires_now clock behind sole has tells =
        let q = (takes_all (Board turns) Commands).rig in
        let next = next_all Oid clock (Board turns) Commands behind in
        let one = next.slots has.slot has.is in
        let two = (passes_next (above Commands) Oid q Until).slots one.slot one.is in
        let places = next.places in
        let few = (staged_after (board_at m b) pins b entries turns 0 0 (omega arith) (omega arith) was.run.turns_are).triggers in
        subst (HasFired Oid) (sym taken) (elim (true_or_false two.slot.trigger.can) [
          | inr off ↦ record { slot = two.slot; is = two.is; fired = off }
          | inl can ↦
              let each = turn_off Oid clock Until (Board turns) Commands (omega (arith, few)) (omega (arith, places, few)) sole (next.sole sole) behind in
              absurd (news_clash t.state.news tells (none_firing (board_at m b) pins b entries t turns (clear_over (board_at m b) pins b entries t turns none now.run.turns_are now.limits) now.run.turns_are (HasFired Oid (passes q Until).rig) each (λ f. alive_not (passes q Until).rig two.slot two.is can f)))
        ])
      where
        alive_not : (r : Rig) (s : Slot) → slot_at r Oid ≡ Some s → s.trigger.can ≡ true → HasFired Oid r → ⊥
        alive_not r s there can f =
            let same : s ≡ f.slot = one_slot (slot_at r Oid) s f.slot there f.is in
            let bad : true ≡ false = sym can ∙ ap (λ (x : Slot). x.trigger.can) same ∙ f.fired in
            cc

    abbrev Noted_homing : Option Homing
    Noted_homing = (noted m d.note (known_by m switches past)).homing

    -- a section that goes on
    goes_on_way : (h : Homing) → Noted_homing ≡ Some h → ((noted m d.note (known_by m switches past)).phase ≡ Connecting → ⊥) → h.group.start ≡ h.start → h.start ≤ length past + 251 → IsMember b (members_of h.group)
        → (TellFiredFrom h.start turns → HasFired Oid (Board turns)) → answer_in (length past) h.start (hears_all (noted m d.note (known_by m switches past)).clocks d.states h).group ≡ None → Way (d ∷ past) (t ∷ turns)
    goes_on_way h is open_it together since member fires goes_so =
        let n = noted m d.note (known_by m switches past) in
        let k = length past in
        let next = next_of m switches d past now.run.goes_on open_it in
        let heard = hears_all n.clocks d.states h in
        let to : (known_by m switches (d ∷ past)).homing ≡ Some (behind_turn heard k) = next.homing ∙ ap (λ (o : Option Homing). homing_after n.clocks k d.states o) is ∙ ap (λ (o : Option End). goes_on_homing k heard o) goes_so in
        let begins : heard.group.start ≡ h.start = heard_together n.clocks d.states h together in
        let members : members_of (turned_group heard.group k) ≡ members_of h.group = ap (λ (xs : List Seen). map (λ (x : Seen). x.member) xs) (after_members heard.group k) ∙ states-kept n.clocks 0 h.start d.states h.group in
        let long = as_long m switches b past turns was.run.both in
        let open_past : (known_by m switches past).phase ≡ Connecting → ⊥ = λ e. open_it (noted_phase m d.note (known_by m switches past) ∙ e) in
        let o = turn_ordered m switches pins entries b d past t turns h now.run is open_it goes_so in
        let behind : h.start ≤ k + 1 → AreSentBehind Oid (low (turn_tick (clocks_at n.clocks b) (turned_group heard.group k).sent)) Commands =
        (λ late. (sent_from m (clocks_at n.clocks b) b h k heard.group Commands o (omega (arith, begins, late)) (λ l. open_group k h.start heard.group goes_so (omega (arith, l, begins)))).behind) in
        let clock = low (turn_tick (clocks_at n.clocks b) (turned_group heard.group k).sent) in
        let own = owns past turns was open_past in
        inr (
          next.phase,
          record {
            homing = behind_turn heard k;
            known = to;
            together = after_start heard.group k ∙ begins;
            since = omega (arith, since);
            member = subst (IsMember b) (sym members) member;
            fires = λ told. elim told [
              | inl x ↦ (let late = x.0 in fires_now clock (behind (omega (arith, late, long))) own.0 own.1 x.1)
              | inr more ↦ (let late = told_late h.start turns more in fires_on clock (behind (omega (arith, late, long))) (fires more))
            ];
          },
        )

    none_told : (start : ℕ) → length turns < start → TellFiredFrom start turns → HasFired Oid (Board turns)
    none_told start early told = absurd (let late = told_late start turns told in omega (arith, late, early))

    step : BeginsAlone m switches (d ∷ past) → Way past turns → Way (d ∷ past) (t ∷ turns)
    step alone (inl off) = elim (starts_either m switches pins entries b d past t turns now.run) [
      | inl tame ↦ inl (tame_off tame off)
      | inr x ↦
          let n = noted m d.note (known_by m switches past) in
          let h = x.1.homing in
          let at = x.1.at in
          let long = as_long m switches b past turns was.run.both in
          let together : Together n.homing = elim (some_or_none (news_of d.note)) [
            | inl some ↦ newly_together m n.homing (noted_newly m d.note (known_by m switches past) some)
            | inr no_note ↦ subst Together (sym (noted_none m d.note (known_by m switches past) no_note)) (known_together m switches past was.run.goes_on)
          ] in
          let begins : h.group.start ≡ h.start = subst Together x.1.known together in
          goes_on_way h x.1.known (λ e. not-running n.phase x.0 e) begins (omega (arith, at, begins)) x.1.member (none_told h.start (omega (arith, at, begins, long))) (not_yet (length past) h.start (hears_all n.clocks d.states h).group (omega (arith, at, begins)))
    ]
      where
        not_yet : (k start : ℕ) (g : GroupState) → k < start → answer_in k start g ≡ None
        not_yet k start g l = by (answer_in k start g) refl
          where
            by : (o : Option End) → answer_in k start g ≡ o → answer_in k start g ≡ None
            by None e = e
            by (Some end) e = absurd (let late = answer_late k start g end e in omega (arith, late, l))
    step alone (inr (open_past, u)) =
        let known = known_by m switches past in
        let n = noted m d.note known in
        let h = u.homing in
        let still : n.homing ≡ Some h = elim alone.0 [ inl no_note ↦ noted_none m d.note known no_note ∙ u.known | inr begun ↦ absurd (clash known.homing h begun.0 u.known) ] in
        let open_it : n.phase ≡ Connecting → ⊥ = λ e. open_past (sym (noted_phase m d.note known) ∙ e) in
        let since = u.since in
        let together = u.together in
        let tame : EachTame t.control.commands = elim (starts_either m switches pins entries b d past t turns now.run) [
          | inl k ↦ k
          | inr x ↦
              absurd (
              let same = some_same x.1.homing h (sym x.1.known ∙ still) in
              let at : h.group.start ≡ length past + 251 = ap (λ (z : Homing). z.group.start) (sym same) ∙ x.1.at in
              omega (arith, at, since, together))
        ] in
        by tame still open_it (answer_in (length past) h.start (hears_all n.clocks d.states h).group) refl
      where
        by : EachTame t.control.commands → (noted m d.note (known_by m switches past)).homing ≡ Some u.homing → ((noted m d.note (known_by m switches past)).phase ≡ Connecting → ⊥) → (o : Option End)
            → answer_in (length past) u.homing.start (hears_all (noted m d.note (known_by m switches past)).clocks d.states u.homing).group ≡ o → Way (d ∷ past) (t ∷ turns)
        by tame still open_it None e = (let since = u.since in goes_on_way u.homing still open_it u.together (omega (arith, since)) u.member u.fires e)
        by tame still open_it (Some end) e =
            let told = answered_told m switches pins entries b d past turns u.homing end was.run now.run.both.0 still e u.member in
            inl (tame_off tame (fired_off (Board turns) (owns past turns was open_past).0 (u.fires told)))

  -- a whole run
  first_off : AllFired (Board [])
  first_off oid s at = absurd (none_some (slot_at (Board []) oid) s (none_at 256 oid) at)

  pub rests_all : ((k : ℕ) → board_tick (clock_of (board_at m b)) k ≤ board_tick (clock_of (board_at m b)) (k + 1)) → (before : List Came) (turns : List BoardTurn) → IsPlain m switches pins entries b before turns → BeginsAlone m switches before → Way before turns
  rests_all rise [] [] p alone = inl first_off
  rests_all rise [] (t ∷ turns) p alone = absurd p.run.both
  rests_all rise (d ∷ past) [] p alone = absurd p.run.both
  rests_all rise (d ∷ past) (t ∷ turns) p alone =
      let was = turn_before m switches pins entries b d past t turns rise p in
      step d past t turns p was alone (rests_all rise past turns was alone.1)

  -- as a section is started
  pub off_at : ((k : ℕ) → board_tick (clock_of (board_at m b)) k ≤ board_tick (clock_of (board_at m b)) (k + 1)) → (c : Came) (before : List Came) (turns : List BoardTurn) → IsPlain m switches pins entries b before turns → BeginsAlone m switches (c ∷ before)
      → (h : Homing) → (noted m c.note (known_by m switches before)).homing ≡ Some h → h.start ≡ length before + 251 → AllFired (Board turns)
  off_at rise c before turns p alone h is at = elim (rests_all rise before turns p alone.1) [
    | inl off ↦ off
    | inr x ↦
        let known = known_by m switches before in
        let u = x.1 in
        absurd (elim alone.0 [
          | inl no_note ↦
              let same = some_same u.homing h (sym u.known ∙ sym (noted_none m c.note known no_note) ∙ is) in
              let since = u.since in
              let e : u.homing.start ≡ length before + 251 = ap (λ (z : Homing). z.start) same ∙ at in
              omega (arith, e, since)
          | inr begun ↦ clash known.homing u.homing begun.0 u.known
        ])
  ]

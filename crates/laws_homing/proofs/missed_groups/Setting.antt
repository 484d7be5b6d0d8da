-- A homing section whose boards take its set-up: each trigger minds the readings of the section from then on.
use Rattle.std.proofs.Common.{◌≡◌, ℕ, ◌+◌, ◌*◌, ◌/◌, ◌<◌, ◌≤◌, ◌⊎◌, inl, inr, Bool, true, false, List, [], ◌∷◌, ◌++◌, length, map, Some, None, refl, ap, sym, ◌∙◌, subst, arith}
use Rattle.laws_board.proofs.Names.{eqb_tells, Level, AxisDef, Machine, Running, board_tick, clock_of, turn_ns, Clocks, lines_tick, IsValidMachine, axis_at, board_at, Entry, Switch, Cmd, trigger_of, commands_of, Rig, Slot, passes, slot_at, takes_all, one_slot, queued_in, orders as taken_orders, Ctl, Member, Homes, Starts, Fired, GroupState, first_timeout, round_of, unseen, Homing, commands_to, hears_all, members_of, Connecting, noted, Came, known_by, no_both}
use Rattle.plan_types.specs.Machines.{IsValidBoard}
use Rattle.laws_board.specs.turns.Turns.{BoardTurn}
use Rattle.trigger_group.specs.Group.{orders}
use Rattle.laws_homing.specs.home_runs.Guards.{HasFired}
use Rattle.laws_homing.specs.home_runs.Told.{IsMember}
use Rattle.laws_homing.proofs.home_runs.Guarding.{fired_next, passes_next}
use Rattle.laws_homing.specs.clear_boards.Alive.{RelayNone}
use Rattle.laws_homing.specs.clear_boards.Turned.{AreSentBehind}
use Rattle.laws_homing.proofs.clear_boards.Clocking.{timeout_ahead}
use Rattle.laws_homing.proofs.clear_boards.Standing.{runs_through, tick_is}
use Rattle.laws_homing.proofs.clear_boards.Taking.{takes_in_turn}
use Rattle.laws_homing.proofs.clear_boards.Turned.{above, next_all, ran}
use Rattle.laws_homing.specs.clear_groups.Sections.{AreOfTurn, IsClearSection, IsFollowed, IsPlain, IsRestingSection, report_ticks, rig_at, turns_of}
use Rattle.laws_homing.specs.clear_groups.SetUp.{HoldsOf, IsArmed, IsNew, IsPrepared}
use Rattle.laws_homing.proofs.clear_groups.Beginning as beginning
use Rattle.laws_homing.proofs.clear_groups.Plain.{turn_before}
use Rattle.laws_homing.proofs.clear_groups.Sections.{rests_section}
use Rattle.laws_homing.proofs.clear_groups.Resting.{board_runs}
use Rattle.laws_homing.specs.missed_groups.Ticks.{IsReader, IsSwitchTick}
use Rattle.laws_homing.proofs.missed_groups.Axes.{OfBoard}
use Rattle.laws_homing.proofs.missed_groups.Beginning.{Blank, Never, RestsOf, begun_blank, others_blank, others_minded}
use Rattle.laws_homing.proofs.missed_groups.Endstops.{endstop_stands}
use Rattle.laws_homing.proofs.missed_groups.Homing.{Able, homes_able, homes_never, minds_map}
use Rattle.laws_homing.proofs.missed_groups.Minding.{Minded, passes_minded}
use Rattle.laws_homing.proofs.missed_groups.Stepping.{IsMindful, Reads, Stood}
use Rattle.laws_homing.proofs.missed_groups.Told.{Each, KnownIn}
use Rattle.laws_homing.proofs.fired_runs.Sight.{reader_or_not}
use Rattle.board_sim.proofs.Heeding.{all_append}

true_or_not : (b : Bool) → (b ≡ true) ⊎ (b ≡ true → ⊥)
true_or_not true = inl refl
true_or_not false = inr (λ e. cc)

-- members of which nothing was heard
each_unseen : (W : ℕ → Fired → Type 0) (own : ℕ) (ms : List Member) → ((b : ℕ) → IsReader b ms → own ≡ b) → Each W own (map unseen ms)
each_unseen W own [] k = tt
each_unseen W own (x ∷ ms) k = (((λ f e. absurd (let bad : None ≡ Some f = e in cc)), λ e. sym (k x.board (inl (refl, e)))), each_unseen W own ms (λ b z. k b (inr z)))

-- a trigger that can trigger minds what it may
able_minded : (oid : ℕ) (T : ℕ → Type 0) (Q : Type 0) (r : Rig) → (HasFired oid r → ⊥) → Able oid T Q r → Minded oid T Q r
able_minded oid T Q r alive a = record { slot = a.slot; is = a.is; minds = a.minds (by a.slot.trigger.can refl) }
  where
    by : (b : Bool) → a.slot.trigger.can ≡ b → a.slot.trigger.can ≡ true
    by true e = e
    by false e = absurd (alive (record { slot = a.slot; is = a.is; fired = e }))

-- a board behind some orders and commands that are behind a set-up can trigger only where it could
alive_before : (oid until : ℕ) (r : Rig) (cs : List Cmd) → ((clock : ℕ) → AreSentBehind oid clock cs) → (HasFired oid (passes (takes_all r cs).rig until).rig → ⊥) → HasFired oid r → ⊥
alive_before oid until r cs behind alive off =
    let q = (takes_all r cs).rig in
    alive (fired_next (above cs) oid q (passes q until).rig (passes_next (above cs) oid q until) (fired_next (above cs) oid r q (next_all oid 0 r cs (behind 0)) off))

armed_alive : (oid base every limit : ℕ) (r : Rig) → HoldsOf oid (λ ps s. IsArmed base every (Some limit) ps s) r → HasFired oid r → ⊥
armed_alive oid base every limit r a off =
    let same : a.slot ≡ off.slot = one_slot (slot_at r oid) a.slot off.slot a.is off.is in
    no_both off.slot.trigger.can (ap (λ (s : Slot). s.trigger.can) (sym same) ∙ a.so.can) off.fired

module _ (m : Machine) (v : IsValidMachine m) (switches : List Switch) (pins : ℕ → List (List Level)) (entries : List Entry) (none : entries ≡ []) (lines : ℕ → Clocks) (ready from start last till : ℕ) (members : List Member)
    (followed : (b : ℕ) → IsMember b members → IsFollowed m b (lines b) ready start last till) (c d e : Came) (past : List Came) (i j : ℕ → BoardTurn) (js : List (ℕ → BoardTurn))
    (s : IsClearSection m switches pins entries lines from start members c (d ∷ e ∷ past) (i ∷ j ∷ js)) (early : from ≤ length past) (low_so : ready + 4 ≤ length past) (set_up : length past + 251 ≡ start) (order : start ≤ last) (reach : length past + 276 ≤ till)
    (first : AreOfTurn (length past + 1) d.states) (second : AreOfTurn (length past + 2) c.states) (h : Homing) (is : (noted m e.note (known_by m switches past)).homing ≡ Some h)
    (new : IsNew start last members (hears_all (noted m e.note (known_by m switches past)).clocks e.states h).group) (low_axis : h.axis < length m.axes) (of : OfBoard (axis_at m h.axis).board (length m.boards) members) where
  abbrev Rested : IsRestingSection m switches pins entries lines from start members c (d ∷ e ∷ past) (i ∷ j ∷ js)
  Rested = rests_section m switches pins entries lines from start members c (d ∷ e ∷ past) (i ∷ j ∷ js) none s

  abbrev Last_homing : Homing
  Last_homing = beginning.Last m switches pins entries lines ready from start last till members followed c d e past i j js Rested early low_so set_up order reach first second h is new

  abbrev Heard_homing : Homing
  Heard_homing = beginning.Heard m switches pins entries lines ready from start last till members followed c d e past i j js Rested early low_so set_up order reach first second h is new

  abbrev Q : Type 0
  Q = KnownIn last Last_homing.group.members

  module _ (b : ℕ) (on : IsMember b members) (prep : HoldsOf (trigger_of m b) (λ ps x. IsPrepared (lines_tick (lines b) (start * turn_ns)) ps x) (rig_at m pins entries js b)) (rests : RestsOf (trigger_of m b) (rig_at m pins entries js b)) where
    abbrev Oid : ℕ
    Oid = trigger_of m b

    abbrev Axis : AxisDef
    Axis = axis_at m h.axis

    abbrev Earliest : ℕ
    Earliest = first_timeout start last

    abbrev Own : ℕ → ℕ
    Own = λ k. board_tick (clock_of (board_at m b)) k

    plain_last : IsPlain m switches (pins b) entries b (d ∷ e ∷ past) (turns_of b (i ∷ j ∷ js))
    plain_last = s.plain b on

    plain_mid : IsPlain m switches (pins b) entries b (e ∷ past) (turns_of b (j ∷ js))
    plain_mid = turn_before m switches (pins b) entries b d (e ∷ past) (i b) (turns_of b (j ∷ js)) (followed b on).ticks.up plain_last

    plain_first : IsPlain m switches (pins b) entries b past (turns_of b js)
    plain_first = turn_before m switches (pins b) entries b e past (j b) (turns_of b js) (followed b on).ticks.up plain_mid

    long : length past ≡ length (turns_of b js)
    long = beginning.long_first m switches pins entries lines ready from start last till members followed c d e past i j js Rested early low_so set_up order reach first second h is new b on prep

    -- the turn of the start
    abbrev Cs_first : List Cmd
    Cs_first = commands_of (queued_in (taken_orders (j b).control (j b).batch))

    first_able : Minded Oid Never Q (rig_at m pins entries (j ∷ js) b)
    first_able =
        let r = rig_at m pins entries js b in
        let o = beginning.ordered_first m switches pins entries lines ready from start last till members followed c d e past i j js Rested early low_so set_up order reach first second h is new b on prep in
        let begins = beginning.begins_at m switches pins entries lines ready from start last till members followed c d e past i j js Rested early low_so set_up order reach first second h is new in
        let sends = beginning.sends_first m switches pins entries lines ready from start last till members followed c d e past i j js Rested early low_so set_up order reach first second h is new b on prep in
        let armed = beginning.armed_first m switches pins entries lines ready from start last till members followed c d e past i j js Rested early low_so set_up order reach first second h is new b on prep in
        let g = (hears_all (noted m e.note (known_by m switches past)).clocks e.states h).group in
        let A : List Cmd = commands_to m (lines b) b start Axis (round_of (Starts Earliest) g.members) in
        let cut : Cs_first ≡ A ++ o.tail = o.are ∙ ap (λ (n : ℕ). commands_to m (lines b) b n Axis (orders g (length past)) ++ o.tail) begins ∙ ap (λ (cs : List Ctl). commands_to m (lines b) b start Axis cs ++ o.tail) sends in
        let q = (takes_all r A).rig in
        let until = Own (length (turns_of b js) + 1) in
        let rigs : (takes_all r Cs_first).rig ≡ (takes_all q o.tail).rig = ap (λ (cs : List Cmd). (takes_all r cs).rig) cut ∙ all_append r A o.tail in
        let blank : Blank Oid Q (takes_all q o.tail).rig = others_blank Oid Q q o.tail (λ clock. o.behind Oid clock) o.none (begun_blank m (lines b) b start Axis Q Earliest g.members r (inl rests)) in
        let taken = takes_in_turn (board_at m b) (pins b) b entries (j b) (turns_of b js) none plain_mid.run.turns_are plain_mid.limits in
        let now : rig_at m pins entries (j ∷ js) b ≡ (passes (takes_all q o.tail).rig until).rig = taken ∙ ap (λ (z : Rig). (passes z until).rig) rigs in
        let alive : HasFired Oid (passes (takes_all q o.tail).rig until).rig → ⊥ =
        (λ off. armed_alive Oid (lines_tick (lines b) (start * turn_ns)) (report_ticks m b) (lines_tick (lines b) (Earliest * turn_ns)) (rig_at m pins entries (j ∷ js) b) armed (subst (HasFired Oid) (sym now) off)) in
        subst (Minded Oid Never Q) (sym now) (elim blank [
          | inl off ↦ absurd (alive (let z = (takes_all q o.tail).rig in fired_next 0 Oid z (passes z until).rig (passes_next 0 Oid z until) (record { slot = off.slot; is = off.is; fired = off.off.can })))
          | inr minded ↦ passes_minded Oid Never Q until (takes_all q o.tail).rig minded
        ])

    -- the turn of the reading
    abbrev Cs_second : List Cmd
    Cs_second = commands_of (queued_in (taken_orders (i b).control (i b).batch))

    abbrev Base : ℕ
    Base = lines_tick (lines b) (start * turn_ns)

    abbrev Switch_ticks : ℕ → Type 0
    Switch_ticks = IsSwitchTick m (pins b) b Axis Base

    abbrev Outcome : (ℕ → Type 0) → Type 0
    Outcome T = Minded Oid T Q (rig_at m pins entries (i ∷ j ∷ js) b)

    freq_some : 0 < (board_at m b).freq / 10_000
    freq_some = let valid : IsValidBoard (board_at m b) = v.boards b _ plain_last.run.board in let low_freq = valid.freq.low in omega (arith, low_freq)

    long_mid : length (turns_of b (j ∷ js)) ≡ length past + 1
    long_mid = let l = long in omega (arith, l)

    -- what it minds behind the orders, and behind the turn
    module _ (T : ℕ → Type 0) where
      finishes : (tail A : List Cmd) → Cs_second ≡ A ++ tail → ((clock : ℕ) → AreSentBehind Oid clock tail) → RelayNone tail
          → ((takes_all (rig_at m pins entries (j ∷ js) b) A).rig.controller.state ≡ Running → Able Oid T Q (takes_all (rig_at m pins entries (j ∷ js) b) A).rig) → Outcome T
      finishes tail A cut behind calm able =
          let r = rig_at m pins entries (j ∷ js) b in
          let q = (takes_all r A).rig in
          let until = Own (length (turns_of b (j ∷ js)) + 1) in
          let rigs : (takes_all r Cs_second).rig ≡ (takes_all q tail).rig = ap (λ (cs : List Cmd). (takes_all r cs).rig) cut ∙ all_append r A tail in
          let runs = runs_through (board_at m b) (pins b) b entries (i b) (turns_of b (j ∷ js)) none plain_last.run.turns_are plain_last.limits plain_last.none_shut.0 in
          let runs_tail : (takes_all q tail).rig.controller.state ≡ Running = ap (λ (z : Rig). z.controller.state) (sym rigs) ∙ runs in
          let taken = takes_in_turn (board_at m b) (pins b) b entries (i b) (turns_of b (j ∷ js)) none plain_last.run.turns_are plain_last.limits in
          let now : rig_at m pins entries (i ∷ j ∷ js) b ≡ (passes (takes_all q tail).rig until).rig = taken ∙ ap (λ (z : Rig). (passes z until).rig) rigs in
          let armed = beginning.armed_second m switches pins entries lines ready from start last till members followed c d e past i j js Rested early low_so set_up order reach first second h is new b on prep in
          let alive : HasFired Oid (passes (takes_all q tail).rig until).rig → ⊥ =
          (λ off. armed_alive Oid Base (report_ticks m b) (lines_tick (lines b) (Earliest * turn_ns)) (rig_at m pins entries (i ∷ j ∷ js) b) armed (subst (HasFired Oid) (sym now) off)) in
          let minded = able_minded Oid T Q q (alive_before Oid until q tail behind alive) (able (ran q tail runs_tail)) in
          subst (Minded Oid T Q) (sym now) (passes_minded Oid T Q until (takes_all q tail).rig (others_minded Oid Q T q tail behind calm minded))

    second_minded : Minded Oid (Reads m pins lines start last members h.axis (axis_at m h.axis).board b) Q (rig_at m pins entries (i ∷ j ∷ js) b)
    second_minded =
        let r = rig_at m pins entries (j ∷ js) b in
        let f = followed b on in
        let o = beginning.ordered_second m switches pins entries lines ready from start last till members followed c d e past i j js Rested early low_so set_up order reach first second h is new b on prep in
        let begins = beginning.begins_at m switches pins entries lines ready from start last till members followed c d e past i j js Rested early low_so set_up order reach first second h is new in
        let sends = beginning.sends_second m switches pins entries lines ready from start last till members followed c d e past i j js Rested early low_so set_up order reach first second h is new b on prep in
        let g = Heard_homing.group in
        let k = length (e ∷ past) in
        let A : List Cmd = commands_to m (lines b) b start Axis (round_of Homes g.members) in
        let cut : Cs_second ≡ A ++ o.tail = o.are ∙ ap (λ (n : ℕ). commands_to m (lines b) b n Axis (orders g k) ++ o.tail) begins ∙ ap (λ (cs : List Ctl). commands_to m (lines b) b start Axis cs ++ o.tail) sends in
        let x = first_able in
        let never : Able Oid Never Q r = record { slot = x.slot; is = x.is; minds = λ can. x.minds } in
        let members_so : members_of g ≡ members = ap (λ (y : GroupState). members_of y) (beginning.group_first m switches pins entries lines ready from start last till members followed c d e past i j js Rested early low_so set_up order reach first second h is new)
        ∙ beginning.members_are m switches pins entries lines ready from start last till members followed c d e past i j js Rested early low_so set_up order reach first second h is new b on prep in
        let T : ℕ → Type 0 = Reads m pins lines start last members h.axis (axis_at m h.axis).board b in
        let pins_now = (rig_at m pins entries (i ∷ j ∷ js) b).pins in
        let turn = length (turns_of b (j ∷ js)) in
        let size = long_mid in
        let ends = f.ends in
        let ahead = timeout_ahead Own (lines b) ready turn start f.ticks f.tracked (omega (arith, low_so, size)) (omega (arith, order, ends, set_up, reach)) (omega (arith, size, set_up)) (omega (arith, size, set_up)) (f.rises turn) plain_mid.in_range in
        let low_base = ahead.later in
        elim (reader_or_not b members) [
          | inl reads ↦
              let connected : (known_by m switches (e ∷ past)).phase ≡ Connecting → ⊥ = (s.homes.1.0 (omega (arith, early))).0 in
              let runs = board_runs m v switches (pins b) entries none b (e ∷ past) (turns_of b (j ∷ js)) plain_mid in
              let stands = endstop_stands m switches (pins b) entries b h.axis (e ∷ past) (turns_of b (j ∷ js)) v none plain_mid.run plain_mid.limits connected runs low_axis (of.0 b reads) in
              let tick = tick_is (board_at m b) (pins b) b entries (turns_of b (j ∷ js)) plain_mid.run.turns_are in
              let y = finishes Switch_ticks o.tail A cut (λ clock. o.behind Oid clock) o.none
              (λ runs_so. homes_able m (lines b) b start Axis Q (pins b) Base (Own turn) ahead.is (omega (arith, low_base)) freq_some g.members r (stands.0, stands.1, tick) runs_so (subst (IsReader b) (sym members_so) reads) never) in
              record { slot = y.slot; is = y.is; minds = minds_map Switch_ticks T Q Q pins_now y.slot (λ n t. (reads, t)) (λ n t. t.1) (λ z. z) y.minds }
          | inr other ↦
              let y = finishes Never o.tail A cut (λ clock. o.behind Oid clock) o.none
              (λ runs_so. homes_never m (lines b) b start Axis Q (pins b) Base (Own turn) ahead.is (omega (arith, low_base)) freq_some g.members r runs_so (λ z. other (subst (IsReader b) members_so z)) never) in
              record { slot = y.slot; is = y.is; minds = minds_map Never T Q Q pins_now y.slot (λ n t. absurd t) (λ n t. other t.0) (λ z. z) y.minds }
        ]

  -- the group and its boards
  pub begins_mindful : ((b : ℕ) → IsMember b members → HoldsOf (trigger_of m b) (λ ps x. IsPrepared (lines_tick (lines b) (start * turn_ns)) ps x) (rig_at m pins entries js b))
      → ((b : ℕ) → IsMember b members → RestsOf (trigger_of m b) (rig_at m pins entries js b))
      → IsMindful m pins lines start last members h.axis (axis_at m h.axis).board (length (d ∷ e ∷ past)) Last_homing.group (rig_at m pins entries (i ∷ j ∷ js))
  begins_mindful prep rests =
      let group = beginning.group_second m switches pins entries lines ready from start last till members followed c d e past i j js Rested early low_so set_up order reach first second h is new in
      let calm : Last_homing.group.relay ≡ None = ap (λ (g : GroupState). g.relay) group ∙ new.calm in
      let members_are : Last_homing.group.members ≡ map unseen members = ap (λ (g : GroupState). g.members) group ∙ new.unheard in
      let own = (axis_at m h.axis).board in
      let W = Stood m pins lines start last members h.axis own (rig_at m pins entries (i ∷ j ∷ js)) in
      record {
        minded = λ b on. second_minded b on (prep b on) (rests b on);
        relay = λ k is_some. absurd (let bad : None ≡ Some k = sym calm ∙ is_some in cc);
        told = subst (Each W own) (sym members_are) (each_unseen W own members of.0);
      }

  pub begins_known : (noted m c.note (known_by m switches (d ∷ e ∷ past))).homing ≡ Some (beginning.Second m switches pins entries lines ready from start last till members followed c d e past i j js Rested early low_so set_up order reach first second h is new)
  begins_known = (beginning.known_second m switches pins entries lines ready from start last till members followed c d e past i j js Rested early low_so set_up order reach first second h is new).0

-- A homing group and its members' boards over a turn of a section: each trigger minds its readings, and a relay has its cause.
use Rattle.std.proofs.Common.{◌≡◌, ℕ, ◌+◌, ◌*◌, ◌<◌, ◌≤◌, ◌⊎◌, inl, inr, Bool, true, false, cond, List, [], ◌∷◌, length, map, Option, Some, None, refl, ap, sym, ◌∙◌, subst, arith, append-nil}
use Rattle.std.specs.Prelude.{◌&&◌, ◌||◌, nat_le}
use Rattle.laws_board.proofs.Names.{leb_tells, Level, Machine, board_tick, clock_of, turn_ns, Clocks, lines_tick, IsValidMachine, axis_at, board_at, turn_tick, Entry, Switch, Cmd, State, trigger_of, Meant, commands_of, Rig, Slot, passes, slot_at, takes_all, AllSound, one_slot, queued_in, first_state, orders, clocks_at, Member, Goes, Rests, Sends, Fired, Seen, GroupState, turned_group, all_fired, phase, relay_in, Homing, answer_in, hears_all, low, members_of, Connecting, noted, Came, known_by, both_parts, no_both}
use Rattle.msg_code.specs.declared.cmd.Cmd.TheVariants as cmd
use Rattle.laws_board.specs.turns.Turns.{BoardTurn, stands_after}
use Rattle.laws_board.proofs.clocks.Lines.{as_long, noted_phase}
use Rattle.laws_board.proofs.sections.Clocks.{ticks_rise}
use Rattle.laws_homing.specs.home_runs.Guards.{AreCalm}
use Rattle.laws_homing.specs.home_runs.Told.{IsMember}
use Rattle.laws_homing.specs.home_runs.Windows.{HasAnswer, IsWatched}
use Rattle.laws_homing.proofs.home_runs.Guarding.{Next, passes_next}
use Rattle.laws_homing.proofs.home_runs.Joining.{all_queued}
use Rattle.laws_homing.proofs.home_runs.Resting.{rests_up}
use Rattle.laws_homing.proofs.home_runs.Told.{told_stands}
use Rattle.trigger_group.specs.declared.round.Phase.{Phase}
use Rattle.trigger_group.specs.Group.{after_in, any_fired_by, fired_by, relay_begins, relay_from}
use Rattle.trigger_group.proofs.Knows.{after_members}
use Rattle.laws_homing.specs.clear_boards.Alive.{RelayNone}
use Rattle.laws_homing.specs.clear_boards.Firing.{AllSmall}
use Rattle.laws_homing.specs.clear_boards.Limited.{limit_of}
use Rattle.laws_homing.specs.clear_boards.Modes.{Hears}
use Rattle.laws_homing.specs.clear_boards.Ordered.{IsOrdered}
use Rattle.laws_homing.specs.clear_boards.Turned.{AreSentBehind, RelaysOne}
use Rattle.laws_homing.proofs.clear_boards.Keeping.{hears_keep}
use Rattle.laws_homing.proofs.clear_boards.Ordered.{turn_ordered}
use Rattle.laws_homing.proofs.clear_boards.Standing.{sound_at, tick_is}
use Rattle.laws_homing.proofs.clear_boards.Taking.{clear_at, takes_in_turn}
use Rattle.laws_homing.proofs.clear_boards.Turned.{above, calm_one, next_all}
use Rattle.laws_homing.specs.clear_groups.Safe.{IsGroupHeld, IsSafe}
use Rattle.laws_homing.specs.clear_groups.Sections.{IsClearSection, IsFollowed, IsPlain, rig_at, turns_of}
use Rattle.laws_homing.proofs.clear_groups.Known.{behind_turn, homing_next, of_known, open_group}
use Rattle.laws_homing.proofs.clear_groups.Orders.{IsSent, sent_from}
use Rattle.laws_homing.proofs.clear_groups.Owning.{one_trigger, taken_all}
use Rattle.laws_homing.proofs.clear_groups.Plain.{turn_before}
use Rattle.laws_homing.proofs.clear_groups.Resting.{board_runs}
use Rattle.laws_homing.specs.missed_groups.Ticks.{IsReader, IsSwitchTick}
use Rattle.laws_homing.proofs.missed_groups.Homing.{minds_map}
use Rattle.laws_homing.proofs.missed_groups.Minding.{From, Minded, turn_minded}
use Rattle.laws_homing.proofs.missed_groups.Told.{Each, KnownIn, Telling, all_each, each_more, states_stay}
use Rattle.plan_types.proofs.Facts.{was_le}
use Rattle.laws_homing.proofs.clear_groups.Groups.{either_part}

-- a trigger of a board stands as one that can't trigger, for this reason
pub record FiredSo (oid reason : ℕ) (r : Rig) : Type 0 where
  pub slot : Slot
  pub is : slot_at r oid ≡ Some slot
  pub fired : slot.trigger.can ≡ false
  pub none : slot.trigger.timeout ≡ None
  pub reason_is : slot.trigger.reason ≡ reason

-- so it stands behind commands and time
pub still_fired : (could can : Bool) → (can ≡ true → could ≡ true) → could ≡ false → can ≡ false
still_fired could true f off = absurd (let e = f refl in let bad : true ≡ false = sym e ∙ off in cc)
still_fired could false f off = refl

fired_on : (i oid reason : ℕ) (r q : Rig) → Next i oid r q → FiredSo oid reason r → FiredSo oid reason q
fired_on i oid reason r q x z =
    let b = x.slots z.slot z.is in
    let fell = still_fired z.slot.trigger.can b.slot.trigger.can b.stays.can z.fired in
    record { slot = b.slot; is = b.is; fired = fell; none = b.stays.quiet (λ e. z.none) fell; reason_is = (b.stays.same z.fired z.none).0 ∙ z.reason_is }

pub none_relay : (cs : List Cmd) → RelayNone cs → RelaysOne cs → ⊥
none_relay [] n o = o
none_relay (c ∷ cs) n (inl now) = n.0 now
none_relay (c ∷ cs) n (inr more) = none_relay cs n.1 more

-- the relay behind a turn
relay_if : (o : Option ℕ) (b : Bool) (turn k : ℕ) → relay_from o b turn ≡ Some k → (o ≡ Some k) ⊎ ((k ≡ turn) × (b ≡ true))
relay_if (Some first) b turn k e = inl e
relay_if None true turn k e = let f : Some turn ≡ Some k = e in inr ((cc), refl)
relay_if None false turn k e = absurd (let f : None ≡ Some k = e in cc)

relay_goes : (b : Bool) (g : GroupState) (turn k : ℕ) → (cond b g.relay (relay_in g turn)) ≡ Some k → (g.relay ≡ Some k) ⊎ ((k ≡ turn) × (relay_begins g turn ≡ true))
relay_goes true g turn k e = inl e
relay_goes false g turn k e = relay_if g.relay (relay_begins g turn) turn k e

relay_of_if : (b : Bool) (g x : GroupState) → (cond b g x).relay ≡ cond b g.relay x.relay
relay_of_if true g x = refl
relay_of_if false g x = refl

pub relay_after : (p : Phase) (g : GroupState) (turn k : ℕ) → (after_in p g turn).relay ≡ Some k → (g.relay ≡ Some k) ⊎ ((k ≡ turn) × (relay_begins g turn ≡ true))
relay_after Goes g turn k e = relay_goes (all_fired g.members) g turn k (sym (relay_of_if (all_fired g.members) g _) ∙ e)
relay_after c g turn k e = inl e

pub calm_meant : (i oid clock : ℕ) (ms : List Meant) → above (commands_of ms) ≤ i → AreSentBehind oid clock (commands_of ms) → AreCalm i oid ms
calm_meant i oid clock [] less k = tt
calm_meant i oid clock (x ∷ ms) less k = (calm_one i oid clock x.command (omega (arith, less)) k.0, calm_meant i oid clock ms (omega (arith, less)) k.1)

-- what a board minds in a section, and what the group knows
module _ (m : Machine) (pins : ℕ → List (List Level)) (lines : ℕ → Clocks) (start last : ℕ) (members : List Member) (axis own : ℕ) where
  abbrev pub Reads : ℕ → ℕ → Type 0
  Reads b x = IsReader b members × IsSwitchTick m (pins b) b (axis_at m axis) (lines_tick (lines b) (start * turn_ns)) x

  abbrev pub Stood : (ℕ → Rig) → ℕ → Fired → Type 0
  Stood rigs b f = IsMember b members → FiredSo (trigger_of m b) f.reason (rigs b)

  pub record IsMindful (turn : ℕ) (g : GroupState) (rigs : ℕ → Rig) : Type 0 where
    pub minded : (b : ℕ) → IsMember b members → Minded (trigger_of m b) (Reads b) (KnownIn last g.members) (rigs b)
    pub relay : (k : ℕ) → g.relay ≡ Some k → (k ≤ turn) × ((last + 5 ≤ k) ⊎ KnownIn last g.members)
    pub told : Each (Stood rigs) own g.members

-- over a turn
module _ (m : Machine) (v : IsValidMachine m) (switches : List Switch) (pins : ℕ → List (List Level)) (entries : List Entry) (none : entries ≡ []) (lines : ℕ → Clocks) (ready from start last till : ℕ) (members : List Member)
    (followed : (b : ℕ) → IsMember b members → IsFollowed m b (lines b) ready start last till) (axis own : ℕ) (c d : Came) (past : List Came) (j : ℕ → BoardTurn) (js : List (ℕ → BoardTurn))
    (s : IsClearSection m switches pins entries lines from start members c (d ∷ past) (j ∷ js)) (early : from ≤ length past) (low_so : ready + 4 ≤ length past) (far : start ≤ length past + 249) (reach : length past + 276 ≤ till)
    (h : Homing) (is : (noted m d.note (known_by m switches past)).homing ≡ Some h) where
  abbrev K : ℕ
  K = length past

  abbrev Now : Homing
  Now = hears_all (noted m d.note (known_by m switches past)).clocks d.states h

  abbrev G : GroupState
  G = Now.group

  abbrev Behind : Homing
  Behind = behind_turn Now K

  abbrev All : List Clocks
  All = (noted m c.note (known_by m switches (d ∷ past))).clocks

  abbrev N : GroupState
  N = (hears_all All c.states Behind).group

  abbrev Rigs : ℕ → Rig
  Rigs = rig_at m pins entries js

  abbrev Later : ℕ → Rig
  Later = rig_at m pins entries (j ∷ js)

  abbrev Commands : ℕ → List Cmd
  Commands b = commands_of (queued_in (orders (j b).control (j b).batch))

  abbrev Own : ℕ → ℕ → ℕ
  Own b = λ k. board_tick (clock_of (board_at m b)) k

  abbrev Mindful : ℕ → GroupState → (ℕ → Rig) → Type 0
  Mindful = IsMindful m pins lines start last members axis own

  pub next_known : ((noted m c.note (known_by m switches (d ∷ past))).homing ≡ Some Behind) × (answer_in K h.start G ≡ None)
  next_known = homing_next m switches from start members c d past h s.homes s.begins.0 s.goes_on early is

  now_of : (h.start ≡ start) × (h.group.start ≡ start) × (members_of h.group ≡ members)
  now_of = of_known start members (noted m d.note (known_by m switches past)).homing h (s.homes.1.0 early).1 is

  pub next_of : (Behind.start ≡ start) × (Behind.group.start ≡ start) × (members_of Behind.group ≡ members)
  next_of = of_known start members (noted m c.note (known_by m switches (d ∷ past))).homing Behind (s.homes.0 (omega (arith, early))).1 next_known.0

  pub hears : Hears (turned_group G K) N
  hears = hears_keep All c.states Behind

  pub same_members : (turned_group G K).members ≡ G.members
  same_members = after_members G K

  pub are_members : members_of G ≡ members
  are_members = ap (λ (xs : List Seen). map (λ (x : Seen). x.member) xs) (sym same_members) ∙ next_of.2

  pub unended : G.start ≡ start → G.start ≤ K → all_fired G.members ≡ false
  unended e l = (let same = now_of.0 in open_group K h.start G next_known.1 (omega (arith, l, e, same)))

  connected : (known_by m switches past).phase ≡ Connecting → ⊥
  connected = (s.homes.1.0 early).0

  -- one of its boards
  module _ (b : ℕ) (on : IsMember b members) where
    pub plain : IsPlain m switches (pins b) entries b (d ∷ past) (turns_of b (j ∷ js))
    plain = s.plain b on

    pub before : IsPlain m switches (pins b) entries b past (turns_of b js)
    before = turn_before m switches (pins b) entries b d past (j b) (turns_of b js) (followed b on).ticks.up plain

    pub within : b < length m.boards
    within = plain.run.board

    pub long : K ≡ length (turns_of b js)
    long = as_long m switches b past (turns_of b js) plain.run.both.2

    -- the clock lines that are known
    abbrev pub Lines : Clocks
    Lines = clocks_at (noted m d.note (known_by m switches past)).clocks b

    pub ordered : IsOrdered m Lines b h K G (Commands b)
    ordered = turn_ordered m switches (pins b) entries b d past (j b) (turns_of b js) h plain.run is (λ e. connected (sym (noted_phase m d.note (known_by m switches past)) ∙ e)) next_known.1

    pub sent : G.start ≡ start → IsSent m Lines b K G (Commands b)
    sent e = sent_from m Lines b h K G (Commands b) ordered (omega (arith, e, far)) (unended e)

    abbrev pub Clock : ℕ
    Clock = low (turn_tick Lines (turned_group G K).sent)

    pub taken : Later b ≡ (passes (takes_all (Rigs b) (Commands b)).rig (Own b (length (turns_of b js) + 1))).rig
    taken = takes_in_turn (board_at m b) (pins b) b entries (j b) (turns_of b js) none plain.run.turns_are plain.limits

    pub sound : AllSound (Rigs b)
    sound = sound_at (board_at m b) (pins b) b entries (turns_of b js) before.run.turns_are

    pub at_tick : (Rigs b).controller.tick ≡ Own b (length (turns_of b js))
    at_tick = tick_is (board_at m b) (pins b) b entries (turns_of b js) before.run.turns_are

    -- what it says is heard
    pub watched : (i : ℕ) → IsWatched i (trigger_of m b) (stands_after (first_state (board_at m b) (pins b) b entries) (turns_of b js)).core
    watched i =
        let p = before in
        let d0 = board_at m b in
        let core = (stands_after (first_state d0 (pins b) b entries) (turns_of b js)).core in
        record {
          sole = (one_trigger m switches (pins b) entries b past (turns_of b js) v none p.run p.limits connected (board_runs m v switches (pins b) entries none b past (turns_of b js) p)).0;
          left = [];
          rest = append-nil core.taken ∙ taken_all d0 (pins b) b entries (turns_of b js) none p.run.turns_are p.limits ∙ sym (all_queued d0 (pins b) b entries (turns_of b js) p.run.turns_are);
          calm = tt;
          heard = rests_up d0 (pins b) b entries (turns_of b js) p.run.turns_are (clear_at d0 (pins b) b entries (turns_of b js) none p.run.turns_are p.limits).1.none;
        }

    -- five turns behind the section's last one it can't trigger
    over : (limit : ℕ) → limit ≡ lines_tick (lines b) ((last + 1) * turn_ns) → last + 5 ≤ K → (u : Slot) → slot_at (Rigs b) (trigger_of m b) ≡ Some u → u.trigger.timeout ≡ Some limit → ⊥
    over limit same late u there timed =
        let f = followed b on in
        let order = f.goes in
        let begins = f.begins in
        let soon = (sound (trigger_of m b) u there).timeout limit timed in
        let ends = f.ends in
        let ahead = f.tracked.ahead (last + 1) (omega (arith, begins, order)) (omega (arith, ends, late, reach)) in
        let size = long in
        let next : last + 1 + 4 ≡ last + 5 = omega arith in
        let ahead_so : lines_tick (lines b) ((last + 1) * turn_ns) < Own b (last + 5) = subst (λ (n : ℕ). lines_tick (lines b) ((last + 1) * turn_ns) < Own b n) next ahead in
        let rise = ticks_rise (Own b) f.ticks (last + 5) (length (turns_of b js)) (omega (arith, late, size)) in
        let here = at_tick in
        omega (arith, soon, same, ahead_so, rise, here)

    pub off_late : IsSafe m lines start last members K G Rigs → last + 5 ≤ K → (u : Slot) → slot_at (Rigs b) (trigger_of m b) ≡ Some u → u.trigger.can ≡ true → ⊥
    off_late safe late u there can = by safe.held
      where
        by : IsGroupHeld m lines start last members K G Rigs → ⊥
        by (inl k) =
            let limit = lines_tick (lines b) ((last + 1) * turn_ns) in
            let timed : u.trigger.timeout ≡ limit_of u.trigger.can limit → u.trigger.timeout ≡ Some limit = λ e. e ∙ ap (λ (z : Bool). limit_of z limit) can in
            elim (k.1 b on) [
              | inl renewed ↦ over limit refl late u there (timed ((renewed 0).limited (trigger_of m b) u there))
              | inr limited ↦ over limit refl late u there (timed (limited.0.limited (trigger_of m b) u there))
            ]
        by (inr (inl k)) =
            let off = (k b on).1 in
            let same : off.slot ≡ u = one_slot (slot_at (Rigs b) (trigger_of m b)) off.slot u off.is there in
            no_both u.trigger.can can (subst (λ (z : Slot). z.trigger.can ≡ false) same off.fired)
        by (inr (inr k)) =
            let order = (followed b on).goes in
            let begins = safe.begins in
            let ends = safe.ends in
            let most = safe.timed.most in
            elim k.1 [ inl pre ↦ (let low_start = pre.0 in omega (arith, low_start, begins, order, late)) | inr go ↦ (let ahead = go.1 in omega (arith, ahead, most, ends, late)) ]

  -- a member that is known to have triggered
  module _ (safe : IsSafe m lines start last members K G Rigs) (mind : IsMindful m pins lines start last members axis own K G Rigs) where
    know_on : KnownIn last G.members → KnownIn last N.members
    know_on k = states_stay last All 0 Behind.start c.states Behind.group (subst (KnownIn last) (sym same_members) k)

    cause_of : (b : ℕ) (on : IsMember b members) (f : Fired) → FiredSo (trigger_of m b) f.reason (Rigs b) → ((f.reason ≡ 1) ⊎ (f.reason ≡ 2)) ⊎ KnownIn last G.members
    cause_of b on f stood =
        let x = mind.minded b on in
        let y = stood in
        let same : x.slot ≡ y.slot = one_slot (slot_at (Rigs b) (trigger_of m b)) x.slot y.slot x.is y.is in
        let reason : x.slot.trigger.reason ≡ f.reason = ap (λ (z : Slot). z.trigger.reason) same ∙ y.reason_is in
        elim (x.minds.fired (ap (λ (z : Slot). z.trigger.can) same ∙ y.fired)) [
          | inl one ↦ inl (inl (sym reason ∙ one.0))
          | inr other ↦ elim other.0 [ inl two ↦ inl (inr (sym reason ∙ two)) | inr three ↦ inr three.1 ]
        ]

    any_known : (xs : List Seen) → any_fired_by last xs ≡ true → Each (Stood m pins lines start last members axis own Rigs) own xs → ((b : ℕ) → IsMember b (map (λ (x : Seen). x.member) xs) → IsMember b members) → KnownIn last xs ⊎ KnownIn last G.members
    any_known [] e each within = absurd (cc)
    any_known (x ∷ xs) e each within = elim (either_part (fired_by last x.fired) (any_fired_by last xs) e) [
      | inl here ↦ by x.fired refl here
      | inr more ↦ elim (any_known xs more each.1 (λ b k. within b (inr k))) [ inl k ↦ inl (inr k) | inr k ↦ inr k ]
    ]
      where
        by : (o : Option Fired) → x.fired ≡ o → fired_by last o ≡ true → KnownIn last (x ∷ xs) ⊎ KnownIn last G.members
        by None is here = absurd (cc)
        by (Some f) is here =
            let on = within x.member.board (inl refl) in
            elim (cause_of x.member.board on f (each.0.0 f is on)) [ inl k ↦ inl (inl (f, is, was_le f.turn last here, k)) | inr k ↦ inr k ]

    begun_known : relay_begins G K ≡ true → (last + 5 ≤ K) ⊎ KnownIn last G.members
    begun_known e =
        let ends = safe.ends in
        let both = both_parts (nat_le (G.start + 4) K) (any_fired_by G.last G.members || nat_le (G.last + 5) K) e in
        elim (either_part (any_fired_by G.last G.members) (nat_le (G.last + 5) K) both.1) [
          | inl some ↦
              let some_so : any_fired_by last G.members ≡ true = subst (λ (n : ℕ). any_fired_by n G.members ≡ true) ends some in
              inr (elim (any_known G.members some_so mind.told (λ b k. subst (IsMember b) are_members k)) [ inl k ↦ k | inr k ↦ k ])
          | inr late ↦ (let l = was_le (G.last + 5) K late in inl (omega (arith, l, ends)))
        ]

    relay_known : (o : Option ℕ) (z : Bool) → G.relay ≡ o → relay_begins G K ≡ z → (b : ℕ) (on : IsMember b members) → RelaysOne (Commands b) → (u : Slot) → slot_at (Rigs b) (trigger_of m b) ≡ Some u → u.trigger.can ≡ true → KnownIn last G.members
    relay_known (Some k) z e f b on relays u there can =
        let x = mind.relay k e in
        let before = x.0 in
        elim x.1 [ inl late ↦ absurd (off_late b on safe (omega (arith, late, before)) u there can) | inr known ↦ known ]
    relay_known None true e f b on relays u there can = elim (begun_known f) [ inl late ↦ absurd (off_late b on safe late u there can) | inr known ↦ known ]
    relay_known None false e f b on relays u there can = absurd (none_relay (Commands b) ((sent b on safe.begins).none e f) relays)

    minded_next : (b : ℕ) → IsMember b members → Minded (trigger_of m b) (Reads m pins lines start last members axis own b) (KnownIn last N.members) (Later b)
    minded_next b on =
        let oid = trigger_of m b in
        let T = Reads m pins lines start last members axis own b in
        let Q = KnownIn last N.members in
        let x = mind.minded b on in
        let now : Minded oid T Q (Rigs b) = record { slot = x.slot; is = x.is; minds = minds_map T T (KnownIn last G.members) Q (Rigs b).pins x.slot (λ n k. k) (λ n k. k) know_on x.minds } in
        let live : From oid T Q (Commands b) (Rigs b) = (λ u there can. (
        let same : x.slot ≡ u = one_slot (slot_at (Rigs b) oid) x.slot u x.is there in
        let could : x.slot.trigger.can ≡ true = ap (λ (z : Slot). z.trigger.can) same ∙ can in
        ((λ n t. (let hit = x.minds.of could n t in (sound b on oid x.slot x.is).switch hit.0 n hit.1 hit.2)), λ relays. know_on (relay_known G.relay (relay_begins G K) refl refl b on relays u there can)))) in
        subst (Minded oid T Q) (sym (taken b on)) (turn_minded oid T Q (Clock b on) (Own b (length (turns_of b js) + 1)) (Rigs b) (Commands b) (sent b on safe.begins).behind live now)

    relay_next : (k : ℕ) → N.relay ≡ Some k → (k ≤ K + 1) × ((last + 5 ≤ k) ⊎ KnownIn last N.members)
    relay_next k e = elim (relay_after (phase G.start G.last K) G K k (sym hears.relay ∙ e)) [
      | inl old ↦ (let x = mind.relay k old in let l = x.0 in (omega (arith, l), elim x.1 [ inl late ↦ inl late | inr known ↦ inr (know_on known) ]))
      | inr new ↦ (let same = new.0 in (omega (arith, same), elim (begun_known new.1) [ inl late ↦ inl (omega (arith, late, same)) | inr known ↦ inr (know_on known) ]))
    ]

    -- what was told of a trigger
    stays_stood : (b : ℕ) → IsMember b members → (reason : ℕ) → FiredSo (trigger_of m b) reason (Rigs b) → FiredSo (trigger_of m b) reason (Later b)
    stays_stood b on reason z =
        let oid = trigger_of m b in
        let r = Rigs b in
        let cs = Commands b in
        let q = (takes_all r cs).rig in
        let until = Own b (length (turns_of b js) + 1) in
        let one = fired_on (above cs) oid reason r q (next_all oid (Clock b on) r cs (sent b on safe.begins).behind) z in
        let two = fired_on (above cs) oid reason q (passes q until).rig (passes_next (above cs) oid q until) one in
        subst (FiredSo oid reason) (sym (taken b on)) two

    one_state : (x y : State) → x ∷ [] ≡ y ∷ [] → x ≡ y
    one_state x y e = cc

    module _ (small : (b : ℕ) → IsMember b members → AllSmall (Later b)) where
      new_told : (b : ℕ) (f : Fired) → Telling All c.states Behind.start b f → Stood m pins lines start last members axis own Later b f
      new_told b f t on =
          let oid = trigger_of m b in
          let cs = Commands b in
          let same : (j b).state ≡ t.state = one_state (j b).state t.state (sym (s.states b on) ∙ t.came) in
          let told = subst (λ (x : State). HasAnswer (cmd.TrsyncState t.oid 0 f.reason t.clock) x.news) (sym same) t.told in
          let calm = calm_meant (above cs) oid (Clock b on) (queued_in (orders (j b).control (j b).batch)) (omega arith) (sent b on safe.begins).behind in
          let stands = told_stands (board_at m b) (pins b) b entries (j b) [] (turns_of b js) (above cs) oid t.oid f.reason t.clock (plain b on).run.turns_are (watched b on (above cs)) (calm, tt) (λ u there. (small b on oid u there).reason) told in
          record { slot = stands.slot; is = stands.is; fired = stands.fired; none = stands.none; reason_is = stands.reason_is }

      told_next : Each (Stood m pins lines start last members axis own Later) own N.members
      told_next =
          let S = Stood m pins lines start last members axis own in
          let kept = each_more (S Rigs) (S Later) own G.members (λ b f w on. stays_stood b on f.reason (w on)) mind.told in
          all_each All c.states Behind.start own (S Later) new_told Behind.group (next_of.1 ∙ sym next_of.0) (subst (Each (S Later) own) (sym same_members) kept)

      pub step_mindful : IsMindful m pins lines start last members axis own (K + 1) N Later
      step_mindful = record { minded = minded_next; relay = relay_next; told = told_next }

      pub step_known : (noted m c.note (known_by m switches (d ∷ past))).homing ≡ Some Behind
      step_known = next_known.0

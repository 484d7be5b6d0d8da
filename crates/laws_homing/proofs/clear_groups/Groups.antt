-- A homing group and its members' boards over a turn of a section.
use Rattle.std.proofs.Common.{◌≡◌, ℕ, suc, ◌+◌, ◌*◌, ◌^◌, ◌<◌, ◌≤◌, ◌⊎◌, inl, inr, Bool, true, false, List, [], ◌∷◌, length, map, Some, None, refl, ap, sym, ◌∙◌, subst, arith}
use Rattle.std.specs.Prelude.{◌&&◌, ◌||◌, nat_le}
use Rattle.std.specs.List.{Contains}
use Rattle.laws_board.proofs.Names.{leb_tells, Level, Machine, board_tick, clock_of, turn_ns, Clocks, lines_tick, board_at, clocks_at, turn_tick, Entry, Switch, Cmd, trigger_of, commands_of, Rig, Slot, slot_at, queued_in, first_state, orders, Member, Seen, GroupState, turned_group, all_fired, Homing, answer_in, hears_all, low, members_of, Connecting, noted, Came, known_by, both_parts, states-kept}
use Rattle.laws_board.specs.turns.Turns.{BoardTurn, stands_after}
use Rattle.laws_board.proofs.clocks.Lines.{as_long, noted_phase}
use Rattle.laws_homing.specs.home_runs.Guards.{HasFired}
use Rattle.laws_homing.specs.home_runs.Told.{IsMember}
use Rattle.laws_homing.proofs.home_runs.Staging.{staged_after}
use Rattle.trigger_group.specs.Group.{any_fired_by, relay_begins}
use Rattle.trigger_group.proofs.Answering.{either, none_there}
use Rattle.trigger_group.proofs.Knows.{after_last, after_members, after_start}
use Rattle.laws_homing.specs.clear_boards.Expiry.{TellExpiry}
use Rattle.laws_homing.specs.clear_boards.Firing.{AllSmall}
use Rattle.laws_homing.specs.clear_boards.Hearing.{FiredOn, NoneOn}
use Rattle.laws_homing.specs.clear_boards.Lately.{NearOn}
use Rattle.laws_homing.specs.clear_boards.Member.{IsMember as IsMemberAt, fired_at}
use Rattle.laws_homing.specs.clear_boards.Modes.{AllOn, HeardLately, Hears, IsAheadIn, IsFiringKnown, IsLive, IsTimed}
use Rattle.laws_homing.specs.clear_boards.Ordered.{IsOrdered}
use Rattle.laws_homing.specs.clear_boards.Turned.{AreSentBehind, RelaysOne}
use Rattle.laws_homing.proofs.clear_boards.Keeping.{hears_keep}
use Rattle.laws_homing.proofs.clear_boards.Lately.{lately_all}
use Rattle.laws_homing.proofs.clear_boards.Leading.{fired_by_flag, leads_on}
use Rattle.laws_homing.proofs.clear_boards.Modes.{begins_ahead, begins_so, begins_not}
use Rattle.laws_homing.proofs.clear_boards.Ordered.{turn_ordered}
use Rattle.laws_homing.proofs.clear_boards.Sent.{sent_relays}
use Rattle.laws_homing.proofs.clear_boards.Taking.{takes_rested}
use Rattle.laws_homing.specs.clear_groups.Early.{HeardUntil}
use Rattle.laws_homing.specs.clear_groups.Safe.{IsGroupHeld, IsLast, IsRenewed, IsSafe, IsSafeIn, IsWatched}
use Rattle.laws_homing.specs.clear_boards.Rests.{RestsOver}
use Rattle.laws_homing.specs.clear_groups.Sections.{IsAlike, IsRestingSection, IsFollowed, IsOnward, report_ticks, rig_at, turns_of}
use Rattle.laws_homing.proofs.clear_groups.Alike.{turn_alike}
use Rattle.laws_homing.proofs.clear_groups.Boards.{After, ahead_step, fired_step, last_step, relay_step, watched_step}
use Rattle.laws_homing.proofs.clear_groups.Known.{behind_turn, homing_next, member_seen, group_waits, of_known, open_group, seen_member}
use Rattle.laws_homing.proofs.clear_groups.Orders.{IsSent, near_turn, sent_from, timed_turn}
use Rattle.plan_types.proofs.Facts.{is_le, was_le, is_above}
use Rattle.std.proofs.lemmas.Bool.{or_left}

all_at : (f : ℕ → Bool) (b : ℕ) (xs : List Seen) → AllOn f xs → IsMember b (map (λ (s : Seen). s.member) xs) → f b ≡ true
all_at f b [] a k = absurd k
all_at f b (x ∷ xs) a (inl e) = ap f (sym e) ∙ a.0
all_at f b (x ∷ xs) a (inr k) = all_at f b xs a.1 k

pub either_part : (a b : Bool) → (a || b) ≡ true → (a ≡ true) ⊎ (b ≡ true)
either_part true b e = inl refl
either_part false b e = inr e

relay_known : (g : GroupState) (turn : ℕ) → relay_begins g turn ≡ true → turn < g.last + 5 → (g.start + 4 ≤ turn) × (any_fired_by g.last g.members ≡ true)
relay_known g turn e low_so =
    let both = both_parts (nat_le (g.start + 4) turn) (any_fired_by g.last g.members || nat_le (g.last + 5) turn) e in
    (was_le (g.start + 4) turn both.0, elim (either_part (any_fired_by g.last g.members) (nat_le (g.last + 5) turn) both.1) [ inl some ↦ some | inr late ↦ absurd (let far = was_le (g.last + 5) turn late in omega (arith, far, low_so)) ])

relay_of : (turn : ℕ) (g : GroupState) → IsLive turn g ⊎ IsFiringKnown turn g → g.relay ≡ None
relay_of turn g (inl live) = live.relay
relay_of turn g (inr known) = known.relay

pub none_at : (b : ℕ) (x : Seen) (xs : List Seen) → Contains xs x → x.member.board ≡ b → NoneOn b xs → x.fired ≡ None
none_at b x [] c on k = absurd (none_there x c)
none_at b x (y ∷ ys) c on k = elim (either y x ys c) [
  | inl e ↦ ap (λ (s : Seen). s.fired) (sym e) ∙ k.0 (ap (λ (s : Seen). s.member.board) e ∙ on)
  | inr more ↦ none_at b x ys more on k.1
]

module _ (m : Machine) (switches : List Switch) (pins : ℕ → List (List Level)) (entries : List Entry) (lines : ℕ → Clocks) (ready from start last till : ℕ) (members : List Member)
    (followed : (b : ℕ) → IsMember b members → IsFollowed m b (lines b) ready start last till) (c d : Came) (past : List Came) (j : ℕ → BoardTurn) (js : List (ℕ → BoardTurn))
    (s : IsRestingSection m switches pins entries lines from start members c (d ∷ past) (j ∷ js)) (early : from ≤ length past) (low_so : ready + 4 ≤ length past) (far : start ≤ length past + 249) (reach : length past + 276 ≤ till)
    (h : Homing) (is : (noted m d.note (known_by m switches past)).homing ≡ Some h) where
  abbrev K : ℕ
  K = length past

  abbrev Now : Homing
  Now = hears_all (noted m d.note (known_by m switches past)).clocks d.states h

  abbrev G : GroupState
  G = Now.group

  abbrev Next : Homing
  Next = behind_turn Now K

  abbrev All : List Clocks
  All = (noted m c.note (known_by m switches (d ∷ past))).clocks

  abbrev N : GroupState
  N = (hears_all All c.states Next).group

  abbrev Rigs : ℕ → Rig
  Rigs = rig_at m pins entries js

  abbrev Later : ℕ → Rig
  Later = rig_at m pins entries (j ∷ js)

  abbrev Commands : ℕ → List Cmd
  Commands b = commands_of (queued_in (orders (j b).control (j b).batch))

  abbrev Own : ℕ → ℕ → ℕ
  Own b = λ k. board_tick (clock_of (board_at m b)) k

  -- what the board told of expiries in the turn
  abbrev TellsLate : ℕ → ℕ → Type 0
  TellsLate b n = (known : Clocks) → IsAlike (n + 277) known (lines b) → (when : ℕ) → TellExpiry known n when (j b).state.news → last < when

  pub next_known : ((noted m c.note (known_by m switches (d ∷ past))).homing ≡ Some Next) × (answer_in K h.start G ≡ None)
  next_known = homing_next m switches from start members c d past h s.homes s.begins.0 s.goes_on early is

  pub now_of : (h.start ≡ start) × (h.group.start ≡ start) × (members_of h.group ≡ members)
  now_of = of_known start members (noted m d.note (known_by m switches past)).homing h (s.homes.1.0 early).1 is

  pub next_of : (Next.start ≡ start) × (Next.group.start ≡ start) × (members_of Next.group ≡ members)
  next_of = of_known start members (noted m c.note (known_by m switches (d ∷ past))).homing Next (s.homes.0 (omega (arith, early))).1 next_known.0

  pub hears : Hears (turned_group G K) N
  hears = hears_keep All c.states Next

  pub same_members : (turned_group G K).members ≡ G.members
  same_members = after_members G K

  pub are_members : members_of G ≡ members
  are_members = ap (λ (xs : List Seen). map (λ (x : Seen). x.member) xs) (sym same_members) ∙ next_of.2

  pub later_members : members_of N ≡ members
  later_members = states-kept All 0 Next.start c.states Next.group ∙ next_of.2

  pub unended : G.start ≡ start → G.start ≤ K → all_fired G.members ≡ false
  unended e l = (let same = now_of.0 in open_group K h.start G next_known.1 (omega (arith, l, e, same)))

  -- one of its boards
  module _ (b : ℕ) (on : IsMember b members) where
    pub plain : IsOnward m switches (pins b) entries b from (d ∷ past) (turns_of b (j ∷ js))
    plain = s.plain b on

    pub within : b < length m.boards
    within = plain.run.board

    pub long : K ≡ length (turns_of b js)
    long = as_long m switches b past (turns_of b js) plain.run.both.2

    pub rests : RestsOver (j b) (turns_of b js)
    rests = plain.rests.0 (omega (arith, early, long))

    pub seen : (x : Seen) × Contains G.members x × (x.member.board ≡ b)
    seen = member_seen b G.members (subst (IsMember b) (sym are_members) on)

    pub few : length (stands_after (first_state (board_at m b) (pins b) b entries) (turns_of b js)).core.board.triggers ≤ 256
    few = (let many = (staged_after (board_at m b) (pins b) b entries (turns_of b js) 0 0 (omega arith) (omega arith) plain.run.turns_are.1).triggers in omega (arith, many))

    pub in_range : Own b (length (turns_of b js)) < 2 ^ 63
    in_range =
        let f = followed b on in
        let up = f.ticks.up (length (turns_of b js)) in
        let e : length (turns_of b js) + 1 ≡ suc (length (turns_of b js)) = omega arith in
        let same : Own b (length (turns_of b js) + 1) ≡ Own b (suc (length (turns_of b js))) = ap (Own b) e in
        let range = plain.in_range in
        omega (arith, up, same, range)

    pub past_it : (known_by m switches past).phase ≡ Connecting → ⊥
    past_it = (s.homes.1.0 early).0

    -- the clock lines that are known
    abbrev Lines : Clocks
    Lines = clocks_at (noted m d.note (known_by m switches past)).clocks b

    pub alike : IsAlike (K + 276) Lines (lines b)
    alike = (s.knows.1.0 past_it h is now_of.0 b within).1

    pub ordered : IsOrdered m Lines b h K G (Commands b)
    ordered = turn_ordered m switches (pins b) entries b d past (j b) (turns_of b js) h plain.run is (λ e. past_it (sym (noted_phase m d.note (known_by m switches past)) ∙ e)) next_known.1

    pub sent : G.start ≡ start → IsSent m Lines b K G (Commands b)
    sent e = sent_from m Lines b h K G (Commands b) ordered (omega (arith, e, far)) (unended e)

    abbrev Clock : ℕ
    Clock = low (turn_tick Lines (turned_group G K).sent)

    pub clock_is : (turned_group G K).sent ≤ K + 274 → Clock ≡ low (turn_tick (lines b) (turned_group G K).sent)
    clock_is soon = ap low (turn_alike Lines (lines b) (K + 276) (turned_group G K).sent alike (omega (arith, soon)))

    pub taken : Later b ≡ After m b (pins b) entries (j b) (turns_of b js) rests plain.run.turns_are plain.none_shut.0 few in_range
    taken = takes_rested (board_at m b) (pins b) b entries (j b) (turns_of b js) rests plain.run.turns_are

    -- results in the turns' numbers
    out : (P : ℕ → Rig → Type 0) → P (length (turns_of b js)) (After m b (pins b) entries (j b) (turns_of b js) rests plain.run.turns_are plain.none_shut.0 few in_range) → P K (Later b)
    out P x = subst (λ (r : Rig). P K r) (sym taken) (subst (λ (n : ℕ). P n (After m b (pins b) entries (j b) (turns_of b js) rests plain.run.turns_are plain.none_shut.0 few in_range)) (sym long) x)

    fired_on : G.start ≡ start → AllSmall (Rigs b) → (old next : ℕ) → IsRenewed (trigger_of m b) (lines b) old (Rigs b) → HasFired (trigger_of m b) (Rigs b)
        → AllSmall (Later b) × IsRenewed (trigger_of m b) (lines b) next (Later b) × HasFired (trigger_of m b) (Later b) × TellsLate b K
    fired_on e small old next renewed fired =
        let x = fired_step m b (pins b) entries (j b) (turns_of b js) rests plain.run.turns_are plain.none_shut.0 few in_range (lines b) Clock old next (sent e).behind small renewed fired in
        out (λ n r. AllSmall r × IsRenewed (trigger_of m b) (lines b) next r × HasFired (trigger_of m b) r × TellsLate b n) (x.0, x.1, x.2, λ known k when t. absurd (x.3 known when t))

    last_on : G.start ≡ start → G.sent ≡ G.last + 1 → AllSmall (Rigs b) → IsLast m (lines b) b K last (Rigs b) → AllSmall (Later b) × IsLast m (lines b) b (K + 1) last (Later b) × TellsLate b K
    last_on e ended small k =
        let o = sent e in
        let x = last_step m b (pins b) entries (j b) (turns_of b js) rests plain.run.turns_are plain.none_shut.0 few in_range (lines b) Clock ready start last till (followed b on) (omega (arith, low_so, long)) (omega (arith, reach, long)) o.behind (o.far ended) small
        (subst (λ (n : ℕ). IsLast m (lines b) b n last (Rigs b)) long k) in
        out (λ n r. AllSmall r × IsLast m (lines b) b (n + 1) last r × TellsLate b n) x

    ahead_on : G.start ≡ start → K + 2 ≤ (turned_group G K).sent → (turned_group G K).sent ≤ last + 1 → (turned_group G K).sent ≤ K + 274 → AllSmall (Rigs b) → IsRenewed (trigger_of m b) (lines b) G.sent (Rigs b)
        → AllSmall (Later b) × IsRenewed (trigger_of m b) (lines b) (turned_group G K).sent (Later b) × TellsLate b K
    ahead_on e next most near small renewed =
        let o = sent e in
        let x = ahead_step m b (pins b) entries (j b) (turns_of b js) rests plain.run.turns_are plain.none_shut.0 few in_range (lines b) ready start last till G.sent (turned_group G K).sent (followed b on) (omega (arith, low_so, long)) (omega (arith, reach, long)) (omega (arith, next, long)) most (omega (arith, near, long)) (subst (λ (n : ℕ). AreSentBehind (trigger_of m b) n (Commands b)) (clock_is near) o.behind)
        (o.sets seen.0 seen.1 seen.2) small renewed in
        out (λ n r. AllSmall r × IsRenewed (trigger_of m b) (lines b) (turned_group G K).sent r × TellsLate b n) (x.0, x.1, λ known k when t. absurd (x.2 known when t))

    pub relay_on : G.start ≡ start → (u : Slot) → slot_at (Rigs b) (trigger_of m b) ≡ Some u → RelaysOne (Commands b) → HasFired (trigger_of m b) (Later b)
    relay_on e u there relays =
        let x = relay_step m b (pins b) entries (j b) (turns_of b js) rests plain.run.turns_are plain.none_shut.0 few in_range Clock u there (sent e).behind relays in
        out (λ n r. HasFired (trigger_of m b) r) x

    pub near_on : G.start ≡ start → HeardUntil start b (K + 249) G.members → G.sent ≤ K + 274 → (turned_group G K).sent ≤ K + 274
    near_on e until soon = near_turn G b K seen.0 seen.1 seen.2 (omega (arith, e, far)) (unended e) (subst (λ (n : ℕ). HeardUntil n b (K + 249) G.members) (sym e) until) soon

    watched_on : G.start ≡ start → G.last ≡ last → G.relay ≡ None → relay_begins G K ≡ false → K + 2 ≤ (turned_group G K).sent → (turned_group G K).sent ≤ last + 1 → AllSmall (Rigs b) → IsRenewed (trigger_of m b) (lines b) G.sent (Rigs b)
        → IsWatched m (lines b) b K start last G.sent G.members (Rigs b)
        → AllSmall (Later b) × IsRenewed (trigger_of m b) (lines b) (turned_group G K).sent (Later b) × IsWatched m (lines b) b (K + 1) start last (turned_group G K).sent N.members (Later b) × TellsLate b K
    watched_on e f relay calm next most small renewed watched =
        let o = sent e in
        let turns = turns_of b js in
        let past_next : (known_by m switches (d ∷ past)).phase ≡ Connecting → ⊥ = (s.homes.0 (omega (arith, early))).0 in
        let knows = s.knows.0 past_next Next next_known.0 next_of.0 b within in
        let same : length (d ∷ past) + 276 ≡ length turns + 277 = omega (arith, long) in
        let ends : Next.group.last ≡ last = after_last G K ∙ f in
        let old : IsWatched m (lines b) b (length turns) start last G.sent (turned_group G K).members (Rigs b) =
        subst (λ (xs : List Seen). IsWatched m (lines b) b (length turns) start last G.sent xs (Rigs b)) (sym same_members) (subst (λ (n : ℕ). IsWatched m (lines b) b n start last G.sent G.members (Rigs b)) long watched) in
        let x = watched_step m b (pins b) entries (j b) turns rests plain.run.turns_are plain.none_shut.0 few in_range All c.states Next (lines b) Clock ready start last till G.sent (followed b on) (subst (λ (n : ℕ). IsAlike n (clocks_at All b) (lines b)) same knows.1) knows.0 (s.states b on)
        next_of.0 next_of.1 ends (omega (arith, low_so, long)) (omega (arith, reach, long)) (omega (arith, far, long)) (omega (arith, next, long)) most
        (λ until soon. (
        let heard : HeardUntil start b (K + 249) G.members = subst (λ (n : ℕ). HeardUntil start b (n + 249) G.members) (sym long) (subst (λ (xs : List Seen). HeardUntil start b (length turns + 249) xs) same_members until) in
        let near = near_on e heard (omega (arith, soon, long)) in
        omega (arith, near, long))) o.behind (λ soon. clock_is (omega (arith, soon, long))) (o.none relay calm) (o.sets seen.0 seen.1 seen.2) small renewed old in
        out (λ n r. AllSmall r × IsRenewed (trigger_of m b) (lines b) (turned_group G K).sent r × IsWatched m (lines b) b (n + 1) start last (turned_group G K).sent N.members r × TellsLate b n) (x.0, x.1, x.2, λ known k when t. absurd (x.3 known when t))

  -- the group behind the turn
  module _ (safe : IsSafe m lines start last members K G Rigs) where
    pub grown : IsTimed (turned_group G K) × (G.sent ≤ (turned_group G K).sent)
    grown = (let e = safe.begins in timed_turn G K (omega (arith, e, far)) (unended safe.begins) safe.timed)

    pub most : (turned_group G K).sent ≤ last + 1
    most = (let e = safe.ends in let f = after_last G K in let l = grown.0.most in omega (arith, e, f, l))

    begins_next : N.start ≡ start
    begins_next = hears.start ∙ after_start G K ∙ safe.begins

    ends_next : N.last ≡ last
    ends_next = hears.last ∙ after_last G K ∙ safe.ends

    timed_next : IsTimed N
    timed_next =
        let first = grown.0.first in
        let end = grown.0.most in
        let a = hears.start in
        let b = hears.last in
        let e = hears.sent in
        record { first = omega (arith, first, a, b, e); most = omega (arith, end, b, e) }

    sent_next : (b : ℕ) (r : Rig) → IsRenewed (trigger_of m b) (lines b) (turned_group G K).sent r → IsRenewed (trigger_of m b) (lines b) N.sent r
    sent_next b r k = subst (λ (n : ℕ). IsRenewed (trigger_of m b) (lines b) n r) (sym hears.sent) k

    watched_next : (b : ℕ) (r : Rig) → IsWatched m (lines b) b (K + 1) start last (turned_group G K).sent N.members r → IsWatched m (lines b) b (K + 1) start last N.sent N.members r
    watched_next b r k = subst (λ (n : ℕ). IsWatched m (lines b) b (K + 1) start last n N.members r) (sym hears.sent) k

    abbrev Stepped : Type 0
    Stepped = IsSafe m lines start last members (K + 1) N Later × ((b : ℕ) → IsMember b members → TellsLate b K)

    with_held : IsGroupHeld m lines start last members (K + 1) N Later → ((b : ℕ) → IsMember b members → AllSmall (Later b)) → IsSafe m lines start last members (K + 1) N Later
    with_held held small = record { begins = begins_next; ends = ends_next; timed = timed_next; small = small; held = held }

    -- by how far it is ahead
    by_ahead : IsAheadIn (fired_at (λ b. trigger_of m b) Later) (K + 1) N → start ≤ K + 1
        → ((b : ℕ) → IsMember b members → IsRenewed (trigger_of m b) (lines b) N.sent (Later b) × IsWatched m (lines b) b (K + 1) start last N.sent N.members (Later b)) → IsGroupHeld m lines start last members (K + 1) N Later
    by_ahead (inl end) begun boards =
        let e : N.sent ≡ last + 1 = end ∙ ap (λ (n : ℕ). n + 1) ends_next in
        inl (e, λ b on. inl (subst (λ (n : ℕ). IsRenewed (trigger_of m b) (lines b) n (Later b)) e (boards b on).0))
    by_ahead (inr (inl dead)) begun boards = inr (inl (λ b on. (
      (boards b on).0,
      fired_by_flag (trigger_of m b) (Later b) (slot_at (Later b) (trigger_of m b)) refl (all_at (fired_at (λ i. trigger_of m i) Later) b N.members dead (subst (IsMember b) (sym later_members) on)),
    )))
    by_ahead (inr (inr k)) begun boards = (let e = begins_next in inr (inr (relay_of (K + 1) N k.1, inr (omega (arith, e, begun), k.0, k.1), boards)))

    -- the boards that its group watches
    abbrev Watching : ℕ → Type 0
    Watching b = AllSmall (Later b) × IsRenewed (trigger_of m b) (lines b) (turned_group G K).sent (Later b) × IsWatched m (lines b) b (K + 1) start last (turned_group G K).sent N.members (Later b) × TellsLate b K

    still : G.relay ≡ None → relay_begins G K ≡ false → K + 2 ≤ (turned_group G K).sent
        → ((b : ℕ) → IsMember b members → IsRenewed (trigger_of m b) (lines b) G.sent (Rigs b) × IsWatched m (lines b) b K start last G.sent G.members (Rigs b)) → (b : ℕ) → IsMember b members → Watching b
    still relay calm next boards b on = watched_on b on safe.begins safe.ends relay calm next most (safe.small b on) (boards b on).0 (boards b on).1

    boards_next : ((b : ℕ) → IsMember b members → Watching b) → (b : ℕ) → IsMember b members → IsRenewed (trigger_of m b) (lines b) N.sent (Later b) × IsWatched m (lines b) b (K + 1) start last N.sent N.members (Later b)
    boards_next each b on = (sent_next b (Later b) (each b on).1, watched_next b (Later b) (each b on).2)

    on_board : (x : Seen) (xs : List Seen) → map (λ (y : Seen). y.member) xs ≡ members → Contains xs x → IsMember x.member.board members
    on_board x xs e k = subst (IsMember x.member.board) e (seen_member x xs k)

    -- before the start
    waits : G.relay ≡ None → (K < G.start) × (G.start + 1 ≤ G.sent) → ((b : ℕ) → IsMember b members → IsRenewed (trigger_of m b) (lines b) G.sent (Rigs b) × IsWatched m (lines b) b K start last G.sent G.members (Rigs b)) → Stepped
    waits relay pre boards =
        let low_start = pre.0 in
        let first = pre.1 in
        let e = safe.begins in
        let more = grown.1 in
        let each = still relay (begins_not G K (omega (arith, low_start))) (omega (arith, low_start, first, more)) boards in
        let next = boards_next each in
        let same = group_waits G K low_start (omega (arith, e, far)) in
        let relay_next : N.relay ≡ None = hears.relay ∙ ap (λ (y : GroupState). y.relay) same ∙ relay in
        let begun = begins_next in
        let sent_is = hears.sent in
        let held : IsGroupHeld m lines start last members (K + 1) N Later = elim (leb_tells (K + 2) start) [
          | inl p ↦ (let early_so = p.1 in inr (inr (relay_next, inl (omega (arith, early_so, begun), omega (arith, first, more, sent_is, begun, e)), next)))
          | inr p ↦
              let late_so = p.1 in
              let at : N.start ≡ K + 1 = omega (arith, begun, late_so, low_start, e) in
              let lately : HeardLately N.start N.last N.start N.members = lately_all N.start N.last N.start N.members (λ x k. near_or x.member.board (next x.member.board (on_board x N.members later_members k)).1 at) in
              let ahead = begins_ahead (fired_at (λ b. trigger_of m b) Later) N timed_next relay_next lately in
              by_ahead (subst (λ (n : ℕ). IsAheadIn (fired_at (λ b. trigger_of m b) Later) n N) at ahead) (omega (arith, late_so)) next
        ] in
        (with_held held (λ b on. (each b on).0), λ b on. (each b on).3)
      where
        near_or : (b : ℕ) → IsWatched m (lines b) b (K + 1) start last N.sent N.members (Later b) → N.start ≡ K + 1 → NearOn N.start b N.start N.members ⊎ FiredOn b N.last N.members
        near_or b (inr known) at = inr (subst (λ (n : ℕ). FiredOn b n N.members) (sym ends_next) known.1)
        near_or b (inl w) at = elim w.0 [
          | inr known ↦ inr (subst (λ (n : ℕ). FiredOn b n N.members) (sym ends_next) known.1)
          | inl alive ↦
              let Near : ℕ → ℕ → Type 0 = λ n k. NearOn n b k N.members in
              inl (subst (λ (n : ℕ). Near n N.start) (sym begins_next) (subst (λ (k : ℕ). Near start k) (sym at) alive.2))
        ]

    -- from the start on
    relays : G.start ≤ K → G.relay ≡ None → K + 3 ≤ G.sent → relay_begins G K ≡ true → ((b : ℕ) → IsMember b members → IsRenewed (trigger_of m b) (lines b) G.sent (Rigs b) × IsWatched m (lines b) b K start last G.sent G.members (Rigs b)) → Stepped
    relays begun relay ahead now boards =
        let more = grown.1 in
        let end = most in
        let e = safe.ends in
        let known = relay_known G K now (omega (arith, ahead, more, end, e)) in
        let each : (b : ℕ) → IsMember b members → AllSmall (Later b) × IsRenewed (trigger_of m b) (lines b) (turned_group G K).sent (Later b) × HasFired (trigger_of m b) (Later b) × TellsLate b K = (λ b on. by b on known (boards b on).0 (boards b on).1) in
        (with_held (inr (inl (λ b on. (sent_next b (Later b) (each b on).1, (each b on).2)))) (λ b on. (each b on).0), λ b on. (each b on).3)
      where
        off : (b : ℕ) (on : IsMember b members) → IsRenewed (trigger_of m b) (lines b) G.sent (Rigs b) → HasFired (trigger_of m b) (Rigs b) → AllSmall (Later b) × IsRenewed (trigger_of m b) (lines b) (turned_group G K).sent (Later b) × HasFired (trigger_of m b) (Later b) × TellsLate b K
        off b on renewed fired = fired_on b on safe.begins (safe.small b on) G.sent (turned_group G K).sent renewed fired

        by : (b : ℕ) (on : IsMember b members) → (G.start + 4 ≤ K) × (any_fired_by G.last G.members ≡ true) → IsRenewed (trigger_of m b) (lines b) G.sent (Rigs b) → IsWatched m (lines b) b K start last G.sent G.members (Rigs b)
            → AllSmall (Later b) × IsRenewed (trigger_of m b) (lines b) (turned_group G K).sent (Later b) × HasFired (trigger_of m b) (Later b) × TellsLate b K
        by b on known renewed (inr gone) = off b on renewed gone.0
        by b on known renewed (inl w) = elim w.0 [
          | inr gone ↦ off b on renewed gone.0
          | inl alive ↦
              let x = seen b on in
              let more = grown.1 in
              let near = near_on b on safe.begins w.1 w.2 in
              let told = none_at b x.0 G.members x.1 x.2 alive.3 in
              let relay_it = sent_relays m (Lines b on) b h K G (Commands b) (ordered b on) begun (unended safe.begins begun) x.0 x.1 x.2 told known.0 relay known.1 in
              let y = ahead_on b on safe.begins (omega (arith, ahead, more)) most near (safe.small b on) renewed in
              (y.0, y.1, relay_on b on safe.begins alive.0.slot alive.0.is relay_it, y.2)
        ]

    calms : G.start ≤ K → G.relay ≡ None → K + 3 ≤ G.sent → IsLive K G ⊎ IsFiringKnown K G → relay_begins G K ≡ false
        → ((b : ℕ) → IsMember b members → IsRenewed (trigger_of m b) (lines b) G.sent (Rigs b) × IsWatched m (lines b) b K start last G.sent G.members (Rigs b)) → Stepped
    calms begun relay ahead how calm boards =
        let more = grown.1 in
        let e = safe.begins in
        let each = still relay calm (omega (arith, ahead, more)) boards in
        let next = boards_next each in
        let on_ahead = leads_on Own (λ b. trigger_of m b) (λ b. lines_tick (lines b) (start * turn_ns)) (report_ticks m) Rigs Later K G N begun (unended e begun) safe.timed hears (later_members ∙ sym are_members)
        (λ x k fired. (let on = on_board x G.members are_members k in (fired_on x.member.board on e (safe.small x.member.board on) G.sent G.sent (boards x.member.board on).0 fired).2))
        (λ late some none. absurd (let bad : true ≡ false = sym (begins_so G K late some) ∙ calm in cc)) (λ none x k. member_at x.member.board (next x.member.board (on_board x N.members later_members k)).1) (inr (inr (ahead, how))) in
        (with_held (by_ahead on_ahead (omega (arith, begun, e)) next) (λ b on. (each b on).0), λ b on. (each b on).3)
      where
        member_at : (b : ℕ) → IsWatched m (lines b) b (K + 1) start last N.sent N.members (Later b)
            → IsMemberAt (Own b) (trigger_of m b) (lines_tick (lines b) (start * turn_ns)) (report_ticks m b) N.start N.last b (K + 1) (Later b) N.members
        member_at b w =
            let At : ℕ → ℕ → Type 0 = λ n l. IsMemberAt (Own b) (trigger_of m b) (lines_tick (lines b) (start * turn_ns)) (report_ticks m b) n l b (K + 1) (Later b) N.members in
            let here : At start last = elim w [ inl x ↦ x.0 | inr x ↦ inr x ] in
            subst (λ (n : ℕ). At n N.last) (sym begins_next) (subst (λ (l : ℕ). At start l) (sym ends_next) here)

    goes : G.start ≤ K → G.relay ≡ None → K + 3 ≤ G.sent → IsLive K G ⊎ IsFiringKnown K G
        → ((b : ℕ) → IsMember b members → IsRenewed (trigger_of m b) (lines b) G.sent (Rigs b) × IsWatched m (lines b) b K start last G.sent G.members (Rigs b)) → Stepped
    goes begun relay ahead how boards = by (relay_begins G K) refl
      where
        by : (b : Bool) → relay_begins G K ≡ b → Stepped
        by true e = relays begun relay ahead e boards
        by false e = calms begun relay ahead how e boards

    pub step : Stepped
    step = by safe.held
      where
        by : IsGroupHeld m lines start last members K G Rigs → Stepped
        by (inl k) =
            let e = safe.ends in
            let end = k.0 in
            let more = grown.1 in
            let top = most in
            let same = hears.sent in
            let each : (b : ℕ) → IsMember b members → AllSmall (Later b) × IsLast m (lines b) b (K + 1) last (Later b) × TellsLate b K = (λ b on. last_on b on safe.begins (omega (arith, end, e)) (safe.small b on) (k.1 b on)) in
            (with_held (inl (omega (arith, end, more, top, same), λ b on. (each b on).1)) (λ b on. (each b on).0), λ b on. (each b on).2)
        by (inr (inl k)) =
            let each : (b : ℕ) → IsMember b members → AllSmall (Later b) × IsRenewed (trigger_of m b) (lines b) N.sent (Later b) × HasFired (trigger_of m b) (Later b) × TellsLate b K =
            (λ b on. fired_on b on safe.begins (safe.small b on) G.sent N.sent (k b on).0 (k b on).1) in
            (with_held (inr (inl (λ b on. ((each b on).1, (each b on).2)))) (λ b on. (each b on).0), λ b on. (each b on).3)
        by (inr (inr k)) = elim k.1 [ inl pre ↦ waits k.0 pre k.2 | inr go ↦ goes go.0 k.0 go.1 go.2 k.2 ]

    pub step_in : IsSafeIn m switches pins entries lines start last members c (d ∷ past) (j ∷ js)
    step_in =
        let e : K + 1 ≡ length (d ∷ past) = omega arith in
        (Next, next_known.0, subst (λ (n : ℕ). IsSafe m lines start last members n N Later) e step.0)

    pub step_late : (b : ℕ) → IsMember b members → (known : Clocks) → IsAlike (length (turns_of b js) + 277) known (lines b) → (when : ℕ) → TellExpiry known (length (turns_of b js)) when (j b).state.news → last < when
    step_late b on = subst (λ (n : ℕ). TellsLate b n) (long b on) (step.1 b on)

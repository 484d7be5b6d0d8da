-- A homing section over turns over which the links of its members' boards rest, in any scene: what its boards report is heard, and so timeouts are renewed.
use Rattle.std.proofs.Common.{◌≡◌, ◌⊎◌, ℕ, ◌+◌, ◌-◌, ◌*◌, ◌<◌, ◌≤◌, inl, inr, zero, suc, true, false, List, [], ◌∷◌, length, Some, refl, ap, sym, ◌∙◌, subst, arith}
use Rattle.std.specs.List.{Contains}
use Rattle.laws_board.proofs.Names.{leb_tells, Level, Machine, Running, nearest, board_tick, clock_of, turn_ns, Clocks, lines_tick, IsValidMachine, board_at, clocks_at, Entry, Switch, Cmd, trigger_of, commands_of, Rig, Slot, passes, slot_at, takes_all, one_slot, queued_in, first_state, orders, Member, Seen, GroupState, turned_group, all_fired, Homing, hears_all, low, noted, Came, known_by, no_both}
use Rattle.laws_board.specs.turns.Turns.{AreBoardTurns, BoardTurn}
use Rattle.laws_board.specs.clocks.Runs.{IsInRun}
use Rattle.laws_board.proofs.clocks.Lines.{run_before}
use Rattle.laws_board.proofs.sections.Clocks.{ticks_rise}
use Rattle.trigger_group.specs.Group.{any_fired_by}
use Rattle.trigger_group.proofs.Answering.{first_there, there_more}
use Rattle.trigger_group.proofs.Knows.{after_last}
use Rattle.laws_homing.specs.home_runs.Guards.{HasFired, IsSole}
use Rattle.laws_homing.specs.home_runs.Told.{IsMember}
use Rattle.laws_homing.specs.clear_boards.Hearing.{FiredOn, KnownOn, NoneOn}
use Rattle.laws_homing.specs.clear_boards.Lately.{NearOn}
use Rattle.laws_homing.specs.clear_boards.Limited.{IsLimited}
use Rattle.laws_homing.specs.clear_boards.Renewed.{HeardFrom}
use Rattle.laws_homing.specs.clear_boards.Rests.{RestsOver}
use Rattle.laws_homing.specs.clear_boards.Turned.{SetsOne}
use Rattle.laws_homing.specs.clear_groups.Sections.{IsAlike, IsFollowed, IsRestingSection, report_ticks, rig_at, turns_of}
use Rattle.laws_homing.specs.fired_runs.Since.{ReadsTrue}
use Rattle.laws_homing.specs.hindered.Hindered.{HasRoundAhead}
use Rattle.laws_homing.proofs.clear_boards.Clocking.{line_ahead, timeout_ahead}
use Rattle.laws_homing.proofs.clear_boards.Lately.{any_on, near_so}
use Rattle.laws_homing.proofs.clear_boards.Renewed.{after_is, renewed}
use Rattle.laws_homing.proofs.clear_boards.Standing.{runs_rested, sound_at, tick_is}
use Rattle.laws_homing.proofs.clear_boards.Taking.{takes_rested}
use Rattle.laws_homing.proofs.clear_boards.Turned.{stays_fired, turn_ahead, turn_far, turn_fired}
use Rattle.laws_homing.proofs.clear_groups.Groups as groups
use Rattle.laws_homing.proofs.clear_groups.Known.{behind_turn, member_seen, seen_member}
use Rattle.laws_homing.proofs.clear_groups.Orders.{IsSent}
use Rattle.laws_homing.proofs.clear_groups.Owning.{one_rested}
use Rattle.laws_homing.proofs.hindered.Keeping.{AllTimed, limited_now, turn_timed}
use Rattle.laws_homing.proofs.hindered.Calling.{IsDue, due_now, due_on, due_soon}
use Rattle.laws_homing.proofs.hindered.Falling as falling
use Rattle.laws_homing.proofs.hindered.Falling.{IsPlainly, IsTelling}
use Rattle.laws_homing.proofs.hindered.Reporting.{IsUp, up_step}
use Rattle.laws_homing.proofs.hindered.Running.{runs_shut, small_at}

-- of some boards one is so, or each is otherwise
pub all_or : (P Q : ℕ → Type 0) (xs : List Member) → ((b : ℕ) → IsMember b xs → P b ⊎ Q b) → ((b : ℕ) × IsMember b xs × P b) ⊎ ((b : ℕ) → IsMember b xs → Q b)
all_or P Q [] f = inr (λ b on. absurd on)
all_or P Q (x ∷ xs) f = elim (f x.board (inl refl)) [
  | inl p ↦ inl (x.board, inl refl, p)
  | inr q ↦ elim (all_or P Q xs (λ b on. f b (inr on))) [
    | inl k ↦ inl (k.0, inr k.1, k.2)
    | inr rest ↦ inr (λ b on. elim on [ inl e ↦ subst Q e q | inr more ↦ rest b more ])
  ]
]

-- all members were heard of lately
heard_all : (start turn : ℕ) (xs : List Seen) → ((x : Seen) → Contains xs x → NearOn start x.member.board turn xs) → HeardFrom start (turn - 10) xs
heard_all start turn [] f = tt
heard_all start turn (x ∷ xs) f = ((let near = (f x (first_there x xs)).0 refl in omega (arith, near)), heard_all start turn xs (λ y c. (f y (there_more x y xs c)).1))

module _ (m : Machine) (v : IsValidMachine m) (switches : List Switch) (pins : ℕ → List (List Level)) (entries : List Entry) (lines : ℕ → Clocks) (ready at start last till : ℕ) (members : List Member)
    (followed : (b : ℕ) → IsMember b members → IsFollowed m b (lines b) ready start last till) (low_so : ready + 5 ≤ start) (begun : start + 5 ≤ at) (ends : at + 32 ≤ last) (y : ℕ) (on_y : IsMember y members) where
  abbrev pub Own : ℕ → ℕ → ℕ
  Own b = λ k. board_tick (clock_of (board_at m b)) k

  abbrev pub Limit : ℕ → ℕ
  Limit b = Own b at + report_ticks m b

  -- the tick of the turn behind the section's last one
  abbrev pub End : ℕ
  End = lines_tick (lines y) ((last + 1) * turn_ns)

  abbrev Timeout : ℕ → ℕ
  Timeout sent = lines_tick (lines y) (sent * turn_ns)

  abbrev Heard : Came → List Came → Homing → GroupState
  Heard c before h = (hears_all (noted m c.note (known_by m switches before)).clocks c.states h).group

  -- the timeout that a board has is the group's last one, and that is ahead
  pub record IsExact (c : Came) (before : List Came) (all : List (ℕ → BoardTurn)) : Type 0 where
    pub homing : Homing
    pub known : (noted m c.note (known_by m switches before)).homing ≡ Some homing
    pub exact : IsLimited (trigger_of m y) End (Timeout (Heard c before homing).sent) (rig_at m pins entries all y)
    pub far : (at + 38 ≤ (Heard c before homing).sent) ⊎ ((Heard c before homing).sent ≡ last + 1)

  -- each member's board can trigger and reports, and the board's timeout is the group's last one, or that is not far ahead of the first of these turns
  pub record IsAwake (c : Came) (before : List Came) (all : List (ℕ → BoardTurn)) : Type 0 where
    pub homing : Homing
    pub known : (noted m c.note (known_by m switches before)).homing ≡ Some homing
    pub begins : (Heard c before homing).start ≡ start
    pub up : (b : ℕ) → IsMember b members → IsUp m b (Limit b) (Own b (length before)) start (Heard c before homing).members (rig_at m pins entries all b)
    pub timed : AllTimed (trigger_of m y) (rig_at m pins entries all y)
    pub exact : ((Heard c before homing).sent ≤ at + 32) ⊎ IsLimited (trigger_of m y) End (Timeout (Heard c before homing).sent) (rig_at m pins entries all y)
    pub far : at + 8 ≤ length before → (length before + 14 ≤ (Heard c before homing).sent) ⊎ (last + 1 ≤ (Heard c before homing).sent)

  -- the group knows of no member that it has triggered
  abbrev pub NoneKnown : (c : Came) (before : List Came) → Homing → Type 0
  NoneKnown c before h = (b : ℕ) → IsMember b members → NoneOn b (Heard c before h).members

  -- the group knows of a member that has triggered, and calls the others in so many turns; by then the board's timeout has not passed, or that is so early that it is none of these turns
  pub record IsCalled (c : Came) (before : List Came) (all : List (ℕ → BoardTurn)) : Type 0 where
    pub homing : Homing
    pub known : (noted m c.note (known_by m switches before)).homing ≡ Some homing
    pub some : any_fired_by (Heard c before homing).last (Heard c before homing).members ≡ true
    pub left : ℕ
    pub due : IsDue left (Heard c before homing) (length before)
    pub own : IsPlainly m y (Heard c before homing).members (rig_at m pins entries all y)
    pub soon : length before + left ≤ at + 27
    pub limited : (length before + left + 1 ≤ at + 24) ⊎ (IsLimited (trigger_of m y) End (Timeout (Heard c before homing).sent) (rig_at m pins entries all y) × (length before + left + 2 ≤ (Heard c before homing).sent))

  -- a member has triggered and reports, and if its group knows of that, it does by the section's last turn
  pub record IsAsked (c : Came) (before : List Came) (all : List (ℕ → BoardTurn)) : Type 0 where
    pub homing : Homing
    pub known : (noted m c.note (known_by m switches before)).homing ≡ Some homing
    pub b : ℕ
    pub on : IsMember b members
    pub telling : IsTelling m b (Limit b) start (lines b) (Own b (length before)) (rig_at m pins entries all b)
    pub knows : KnownOn b last (Heard c before homing).members
    pub own : IsPlainly m y (Heard c before homing).members (rig_at m pins entries all y)

  -- the board's trigger has triggered, and for no timeout but that behind the section's last turn, or that early
  pub record IsDone (before : List Came) (all : List (ℕ → BoardTurn)) : Type 0 where
    pub fired : HasFired (trigger_of m y) (rig_at m pins entries all y)
    pub limited : (length before ≤ at + 24) ⊎ ((n : ℕ) × IsLimited (trigger_of m y) End n (rig_at m pins entries all y))

  -- a turn
  module _ (c d : Came) (past : List Came) (j : ℕ → BoardTurn) (js : List (ℕ → BoardTurn)) (s : IsRestingSection m switches pins entries lines at start members c (d ∷ past) (j ∷ js)) (early : at ≤ length past) (reach : length past + 276 ≤ till) (h : Homing)
      (is : (noted m d.note (known_by m switches past)).homing ≡ Some h) (begins : (Heard d past h).start ≡ start) (lasts : (Heard d past h).last ≡ last) where
    abbrev K : ℕ
    K = length past

    abbrev G : GroupState
    G = Heard d past h

    abbrev Next : Homing
    Next = behind_turn (hears_all (noted m d.note (known_by m switches past)).clocks d.states h) K

    abbrev N : GroupState
    N = Heard c (d ∷ past) Next

    low_here : ready + 4 ≤ K
    low_here = omega (arith, early, low_so, begun)

    far_here : start ≤ K + 249
    far_here = omega (arith, early, begun)

    pub next_known : ((noted m c.note (known_by m switches (d ∷ past))).homing ≡ Some Next)
    next_known = (groups.next_known m switches pins entries lines ready at start last till members followed c d past j js s early low_here far_here reach h is).0

    now_of : (h.start ≡ start) × (h.group.start ≡ start)
    now_of = (let of = groups.now_of m switches pins entries lines ready at start last till members followed c d past j js s early low_here far_here reach h is in (of.0, of.1))

    next_of : (Next.start ≡ start) × (Next.group.start ≡ start)
    next_of = (let of = groups.next_of m switches pins entries lines ready at start last till members followed c d past j js s early low_here far_here reach h is in (of.0, of.1))

    sent_next : N.sent ≡ (turned_group G K).sent
    sent_next = (groups.hears m switches pins entries lines ready at start last till members followed c d past j js s early low_here far_here reach h is).sent

    begins_next : N.start ≡ start
    begins_next = (groups.hears m switches pins entries lines ready at start last till members followed c d past j js s early low_here far_here reach h is).start ∙ next_of.1

    late_start : G.start ≤ K
    late_start = omega (arith, begins, early, begun)

    -- one of its boards
    module _ (b : ℕ) (on : IsMember b members) where
      abbrev Turns : List BoardTurn
      Turns = turns_of b js

      abbrev Commands : List Cmd
      Commands = commands_of (queued_in (orders (j b).control (j b).batch))

      abbrev Before : Rig
      Before = rig_at m pins entries js b

      abbrev Later : Rig
      Later = rig_at m pins entries (j ∷ js) b

      are : AreBoardTurns (clock_of (board_at m b)) (first_state (board_at m b) (pins b) b entries) (j b ∷ Turns)
      are = (groups.plain m switches pins entries lines ready at start last till members followed c d past j js s early low_here far_here reach h is b on).run.turns_are

      rests : RestsOver (j b) Turns
      rests = groups.rests m switches pins entries lines ready at start last till members followed c d past j js s early low_here far_here reach h is b on

      long : K ≡ length Turns
      long = groups.long m switches pins entries lines ready at start last till members followed c d past j js s early low_here far_here reach h is b on

      run_js : IsInRun m switches (pins b) entries b past Turns
      run_js = run_before m switches (pins b) entries b d past (j b) Turns (groups.plain m switches pins entries lines ready at start last till members followed c d past j js s early low_here far_here reach h is b on).run

      sent : IsSent m (clocks_at (noted m d.note (known_by m switches past)).clocks b) b K G Commands
      sent = groups.sent m switches pins entries lines ready at start last till members followed c d past j js s early low_here far_here reach h is b on begins

      taken : Later ≡ (passes (takes_all Before Commands).rig (Own b (length Turns + 1))).rig
      taken = takes_rested (board_at m b) (pins b) b entries (j b) Turns rests are

      -- results in the turns' numbers
      out : (P : ℕ → Rig → Type 0) → P (length Turns) (passes (takes_all Before Commands).rig (Own b (length Turns + 1))).rig → P K Later
      out P x = subst (λ (r : Rig). P K r) (sym taken) (subst (λ (n : ℕ). P n (passes (takes_all Before Commands).rig (Own b (length Turns + 1))).rig) (sym long) x)

      fired_on : HasFired (trigger_of m b) Before → HasFired (trigger_of m b) Later
      fired_on f = out (λ n r. HasFired (trigger_of m b) r) (stays_fired (trigger_of m b) _ (Own b (length Turns + 1)) Before Commands sent.behind f)

      pub up_on : K ≤ last → IsUp m b (Limit b) (Own b K) start G.members Before → HasFired (trigger_of m b) Later ⊎ IsUp m b (Limit b) (Own b (K + 1)) start N.members Later
      up_on soon up =
          let past_next = (s.homes.0 (omega (arith, early))).0 in
          let knows = s.knows.0 past_next Next next_known next_of.0 b (groups.within m switches pins entries lines ready at start last till members followed c d past j js s early low_here far_here reach h is b on) in
          let same : length (d ∷ past) + 276 ≡ length Turns + 277 = (let l = long in omega (arith, l)) in
          let Up : ℕ → ℕ → List Seen → Type 0 = λ now begin xs. IsUp m b (Limit b) now begin xs Before in
          let was : Up (Own b (length Turns)) Next.group.start Next.group.members =
          subst (λ (n : ℕ). Up (Own b n) Next.group.start Next.group.members) long (subst (λ (n : ℕ). Up (Own b K) n Next.group.members) (sym next_of.1) (subst (λ (xs : List Seen). Up (Own b K) start xs) (sym (groups.same_members m switches pins entries lines ready at start last till members followed c d past j js s early low_here far_here reach h is)) up)) in
          let l = long in
          let x = up_step m b (pins b) entries (j b) Turns rests are (noted m c.note (known_by m switches (d ∷ past))).clocks c.states Next (lines b) _ ready start last till (Limit b) (followed b on) (subst (λ (n : ℕ). IsAlike n (clocks_at (noted m c.note (known_by m switches (d ∷ past))).clocks b) (lines b)) same knows.1) knows.0 (s.states b on)
          next_of.0 next_of.1 (let low = low_here in omega (arith, low, l)) (omega (arith, reach, l)) (omega (arith, early, begun, l)) (omega (arith, soon, l)) (groups.in_range m switches pins entries lines ready at start last till members followed c d past j js s early low_here far_here reach h is b on) sent.behind (small_at m (pins b) entries b switches past Turns run_js) was in
          out (λ n r. HasFired (trigger_of m b) r ⊎ IsUp m b (Limit b) (Own b (n + 1)) start N.members r)
          (elim x [
            | inl f ↦ inl f
            | inr u ↦ inr (subst (λ (n : ℕ). IsUp m b (Limit b) (Own b (length Turns + 1)) n N.members (passes (takes_all Before Commands).rig (Own b (length Turns + 1))).rig) next_of.1 u)
          ])

      pub timed_on : AllTimed (trigger_of m b) Before → AllTimed (trigger_of m b) Later
      timed_on k = out (λ n r. AllTimed (trigger_of m b) r) (turn_timed (trigger_of m b) _ (Own b (length Turns + 1)) Before Commands sent.behind k)

      pub sole_on : IsSole (trigger_of m b) Before
      sole_on = (one_rested m switches (pins b) entries b past Turns v run_js rests.0 (groups.past_it m switches pins entries lines ready at start last till members followed c d past j js s early low_here far_here reach h is b on) (runs_shut m (pins b) entries b Turns are.1 (groups.plain m switches pins entries lines ready at start last till members followed c d past j js s early low_here far_here reach h is b on).none_shut.1)).0

      runs : (takes_all Before Commands).rig.controller.state ≡ Running
      runs = runs_rested (board_at m b) (pins b) b entries (j b) Turns rests are (groups.plain m switches pins entries lines ready at start last till members followed c d past j js s early low_here far_here reach h is b on).none_shut.0

      -- one that is sent a timeout in time
      pub ahead_on : (tick limit : ℕ) → IsLimited (trigger_of m b) tick limit Before → (limit ≡ lines_tick (lines b) ((turned_group G K).sent * turn_ns)) ⊎ SetsOne Commands → K + 2 ≤ (turned_group G K).sent → (turned_group G K).sent ≤ last + 1 → (turned_group G K).sent ≤ K + 274 → IsLimited (trigger_of m b) tick (lines_tick (lines b) (N.sent * turn_ns)) Later
      ahead_on tick limit limited sets far most near =
          let f = followed b on in
          let next = (turned_group G K).sent in
          let l = long in
          let to = f.ends in
          let low = low_here in
          let ahead = timeout_ahead (Own b) (lines b) ready (length Turns) next f.ticks f.tracked (omega (arith, low, l)) (omega (arith, most, near, reach, to)) (omega (arith, far, l)) (omega (arith, near, l)) (f.rises (length Turns)) (groups.in_range m switches pins entries lines ready at start last till members followed c d past j js s early low_here far_here reach h is b on) in
          let until = line_ahead (Own b) (lines b) ready (length Turns + 1) next f.tracked (omega (arith, low, l)) (omega (arith, far, most, reach, to, l)) (omega (arith, far, l)) in
          let clock = groups.clock_is m switches pins entries lines ready at start last till members followed c d past j js s early low_here far_here reach h is b on near in
          let is : nearest (Own b (length Turns)) _ ≡ lines_tick (lines b) (next * turn_ns) = ap (nearest (Own b (length Turns))) clock ∙ ahead.is in
          let x = turn_ahead (trigger_of m b) tick limit (lines_tick (lines b) (next * turn_ns)) _ (Own b (length Turns)) (Own b (length Turns + 1)) Before Commands (tick_is (board_at m b) (pins b) b entries Turns are.1) is ahead.later runs sent.behind sets (inl until) limited in
          out (λ n r. IsLimited (trigger_of m b) tick (lines_tick (lines b) (N.sent * turn_ns)) r) (subst (λ (n : ℕ). IsLimited (trigger_of m b) tick (lines_tick (lines b) (n * turn_ns)) (passes (takes_all Before Commands).rig (Own b (length Turns + 1))).rig) (sym sent_next) x.limited)

      -- one whose timeout is that behind the section's last turn
      pub far_on : (tick : ℕ) → G.sent ≡ G.last + 1 → IsLimited (trigger_of m b) tick tick Before → IsLimited (trigger_of m b) tick tick Later
      far_on tick end limited = out (λ n r. IsLimited (trigger_of m b) tick tick r) (turn_far (trigger_of m b) tick tick _ (Own b (length Turns + 1)) Before Commands runs sent.behind (sent.far end) (inr refl) limited).limited

      -- one that has triggered
      gone_on : (tick limit : ℕ) → HasFired (trigger_of m b) Before → IsLimited (trigger_of m b) tick limit Before → IsLimited (trigger_of m b) tick limit Later
      gone_on tick limit fired limited = out (λ n r. IsLimited (trigger_of m b) tick limit r) (turn_fired (trigger_of m b) tick limit limit _ (Own b (length Turns + 1)) Before Commands runs sent.behind fired limited).limited

      plainly_on : K + 1 ≤ last → IsPlainly m b G.members Before → IsPlainly m b N.members Later
      plainly_on = falling.plainly_on m v switches pins entries lines ready at start last till members followed low_so begun c d past j js s early reach h is begins b on

      -- it triggers, which the group hears at once, or it reports on
      falls_on : K + 1 ≤ last → NoneOn b G.members → IsUp m b (Limit b) (Own b K) start G.members Before → FiredOn b last N.members ⊎ (IsUp m b (Limit b) (Own b (K + 1)) start N.members Later × NoneOn b N.members)
      falls_on soon none up = elim (falling.falls m v switches pins entries lines ready at start last till members followed low_so begun c d past j js s early reach h is begins b on soon up.slot up.is up.can none) [
        | inl f ↦ inl f.1
        | inr z ↦ elim (up_on (omega (arith, soon)) up) [
          | inl f ↦ absurd (no_both z.0.trigger.can z.2 (ap (λ (u : Slot). u.trigger.can) (one_slot (slot_at Later (trigger_of m b)) z.0 f.slot z.1 f.is) ∙ f.fired))
          | inr u ↦ inr (u, z.3)
        ]
      ]

    -- all of its boards
    members_up : K + 1 ≤ last → ((b : ℕ) → IsMember b members → NoneOn b G.members) → ((b : ℕ) → IsMember b members → IsUp m b (Limit b) (Own b K) start G.members (rig_at m pins entries js b))
        → ((b : ℕ) × IsMember b members × FiredOn b last N.members) ⊎ ((b : ℕ) → IsMember b members → IsUp m b (Limit b) (Own b (K + 1)) start N.members (rig_at m pins entries (j ∷ js) b) × NoneOn b N.members)
    members_up soon none up =
        all_or (λ b. FiredOn b last N.members) (λ b. IsUp m b (Limit b) (Own b (K + 1)) start N.members (rig_at m pins entries (j ∷ js) b) × NoneOn b N.members) members (λ b on. falls_on b on soon (none b on) (up b on))

    ends_next : N.last ≡ last
    ends_next = (groups.hears m switches pins entries lines ready at start last till members followed c d past j js s early low_here far_here reach h is).last ∙ after_last G K ∙ lasts

    -- where the group knows of one of them that it has triggered
    some_next : (b : ℕ) → IsMember b members → FiredOn b last N.members → any_fired_by N.last N.members ≡ true
    some_next b on fired =
        let x = member_seen b N.members (subst (IsMember b) (sym (groups.later_members m switches pins entries lines ready at start last till members followed c d past j js s early low_here far_here reach h is)) on) in
        subst (λ (n : ℕ). any_fired_by n N.members ≡ true) (sym ends_next) (any_on b last x.0 N.members x.1 x.2 fired)

    open_it : all_fired G.members ≡ false
    open_it = groups.unended m switches pins entries lines ready at start last till members followed c d past j js s early low_here far_here reach h is begins late_start

    grows : G.sent ≤ (turned_group G K).sent
    grows = (let e = after_is G K late_start open_it in omega (arith, e))

    -- the group renews its timeout
    near_at : at + 7 ≤ K → (b : ℕ) → IsMember b members → IsUp m b (Limit b) (Own b K) start G.members (rig_at m pins entries js b) → NearOn start b K G.members
    near_at late b on u =
        let f = followed b on in
        let begin = f.begins in
        let to = f.ends in
        let ahead = f.tracked.ahead start (omega (arith, begin)) (omega (arith, to, reach, early, begun, ends)) in
        let due = u.due in
        elim u.heard [
          | inl low ↦ absurd (let every = f.reports at in let up = ticks_rise (Own b) f.ticks (at + 6) K (omega (arith, late)) in omega (arith, low, every, up, due))
          | inr z ↦ near_so (Own b) (lines_tick (lines b) (start * turn_ns)) (report_ticks m b) start b K u.next G.members f.ticks f.reports ahead due (inr z)
        ]

    renews : at + 7 ≤ K → ((b : ℕ) → IsMember b members → IsUp m b (Limit b) (Own b K) start G.members (rig_at m pins entries js b)) → (K + 15 ≤ (turned_group G K).sent) ⊎ (last + 1 ≤ (turned_group G K).sent)
    renews late up =
        let near : (x : Seen) → Contains G.members x → NearOn G.start x.member.board K G.members = (λ x k. (
        let on = subst (IsMember x.member.board) (groups.are_members m switches pins entries lines ready at start last till members followed c d past j js s early low_here far_here reach h is) (seen_member x G.members k) in
        subst (λ (n : ℕ). NearOn n x.member.board K G.members) (sym begins) (near_at late x.member.board on (up x.member.board on)))) in
        elim (renewed G K (K - 10) late_start (heard_all G.start K G.members near) open_it) [ inl far ↦ inl (omega (arith, far, late)) | inr far ↦ inr (omega (arith, far, lasts)) ]

    sets_on : (G.sent ≡ (turned_group G K).sent) ⊎ SetsOne (Commands y on_y)
    sets_on = (let seen = groups.seen m switches pins entries lines ready at start last till members followed c d past j js s early low_here far_here reach h is y on_y in (sent y on_y).sets seen.0 seen.1 seen.2)

    -- a timeout that the board has is renewed
    ahead_next : IsLimited (trigger_of m y) End (Timeout G.sent) (rig_at m pins entries js y) → K + 2 ≤ (turned_group G K).sent → N.sent ≤ K + 26 → N.sent ≤ last + 1 → IsLimited (trigger_of m y) End (Timeout N.sent) (rig_at m pins entries (j ∷ js) y)
    ahead_next limited far near_next most_next =
        let same_sent = sent_next in
        ahead_on y on_y End (Timeout G.sent) limited (elim sets_on [ inl still ↦ inl (ap Timeout still) | inr one ↦ inr one ]) far (omega (arith, most_next, same_sent)) (omega (arith, near_next, same_sent))

    -- where all were so, and its timeouts are in their bounds
    pub awake_on : (w : IsAwake d past js) → w.homing ≡ h → NoneKnown d past w.homing → N.sent ≤ K + 26 → N.sent ≤ last + 1 → K < at + 24 → IsCalled c (d ∷ past) (j ∷ js) ⊎ ((x : IsAwake c (d ∷ past) (j ∷ js)) × NoneKnown c (d ∷ past) x.homing)
    awake_on w same unknown near_next most_next low_so_far = by (subst (λ (g : Homing). (b : ℕ) → IsMember b members → IsUp m b (Limit b) (Own b K) start (Heard d past g).members (rig_at m pins entries js b)) same w.up)
        (subst (λ (g : Homing). ((Heard d past g).sent ≤ at + 32) ⊎ IsLimited (trigger_of m y) End (Timeout (Heard d past g).sent) (rig_at m pins entries js y)) same w.exact)
        (subst (λ (g : Homing). NoneKnown d past g) same unknown) (subst (λ (g : Homing). at + 8 ≤ K → (K + 14 ≤ (Heard d past g).sent) ⊎ (last + 1 ≤ (Heard d past g).sent)) same w.far)
      where
        by : ((b : ℕ) → IsMember b members → IsUp m b (Limit b) (Own b K) start G.members (rig_at m pins entries js b)) → (G.sent ≤ at + 32) ⊎ IsLimited (trigger_of m y) End (Timeout G.sent) (rig_at m pins entries js y) → NoneKnown d past h
            → (at + 8 ≤ K → (K + 14 ≤ G.sent) ⊎ (last + 1 ≤ G.sent)) → IsCalled c (d ∷ past) (j ∷ js) ⊎ ((x : IsAwake c (d ∷ past) (j ∷ js)) × NoneKnown c (d ∷ past) x.homing)
        by up exact none far_now = elim (members_up (omega (arith, low_so_far, ends)) none up) [
          | inl f ↦ inl (called_next f.0 f.1 f.2)
          | inr later ↦
              let e : K + 1 ≡ length (d ∷ past) = omega arith in
              let same_sent = sent_next in
              inr (
                record {
                  homing = Next;
                  known = next_known;
                  begins = begins_next;
                  up = λ b on. subst (λ (n : ℕ). IsUp m b (Limit b) (Own b n) start N.members (rig_at m pins entries (j ∷ js) b)) e (later b on).0;
                  timed = timed_on y on_y w.timed;
                  exact = elim (leb_tells (at + 7) K) [ inl p ↦ exact_next p.1 | inr p ↦ (let soon = p.1 in inl (omega (arith, near_next, soon))) ];
                  far = λ late. elim (renews (omega (arith, late)) up) [ inl far ↦ inl (omega (arith, far, same_sent)) | inr far ↦ inr (omega (arith, far, same_sent)) ];
                },
                λ b on. (later b on).1,
              )
        ]
          where
            exact_next : at + 7 ≤ K → (N.sent ≤ at + 32) ⊎ IsLimited (trigger_of m y) End (Timeout N.sent) (rig_at m pins entries (j ∷ js) y)
            exact_next late =
                let same_sent = sent_next in
                let lower = renews late up in
                let far : K + 2 ≤ (turned_group G K).sent = elim lower [ inl l ↦ omega (arith, l) | inr l ↦ omega (arith, l, ends, low_so_far) ] in
                let most : (turned_group G K).sent ≤ last + 1 = omega (arith, most_next, same_sent) in
                let near : (turned_group G K).sent ≤ K + 274 = omega (arith, near_next, same_sent) in
                elim exact [
                  | inr limited ↦ inr (ahead_next limited far near_next most_next)
                  | inl few ↦ elim sets_on [
                    | inl still ↦ inl (omega (arith, few, still, same_sent))
                    | inr one ↦
                        let u = up y on_y in
                        let x = limited_now (trigger_of m y) End (rig_at m pins entries js y) u.slot (sole_on y on_y) (sound_at (board_at m y) (pins y) y entries (turns_of y js) (are y on_y).1) w.timed u.is u.can in
                        inr (ahead_on y on_y End x.0 x.1 (inr one) far most near)
                  ]
                ]

            -- a member triggered in the turn
            called_next : (b : ℕ) → IsMember b members → FiredOn b last N.members → IsCalled c (d ∷ past) (j ∷ js)
            called_next b on fired =
                let some = some_next b on fired in
                let start_is = begins_next in
                let due = due_soon N (length (d ∷ past)) (omega (arith, start_is, early, begun)) some in
                let few = due.1 in
                let u = up y on_y in
                record {
                  homing = Next;
                  known = next_known;
                  some = some;
                  left = due.0;
                  due = due.2;
                  own = plainly_on y on_y (omega (arith, low_so_far, ends)) (inr (u.slot, u.is, u.can, none y on_y));
                  soon = omega (arith, few, low_so_far);
                  limited = elim (leb_tells (length (d ∷ past) + due.0 + 1) (at + 24)) [
                    | inl p ↦ inl p.1
                    | inr p ↦
                        let late = p.1 in
                        let same_sent = sent_next in
                        let more = grows in
                        let lower = far_now (omega (arith, late, few)) in
                        let limited : IsLimited (trigger_of m y) End (Timeout G.sent) (rig_at m pins entries js y) = elim exact [
                          | inr l ↦ l
                          | inl low_sent ↦ absurd (elim lower [ inl l ↦ omega (arith, l, low_sent, late, few) | inr l ↦ omega (arith, l, low_sent, ends) ])
                        ] in
                        let far : K + 8 ≤ (turned_group G K).sent = elim lower [ inl l ↦ omega (arith, l, more) | inr l ↦ omega (arith, l, more, ends, low_so_far) ] in
                        inr (ahead_next limited (omega (arith, far)) near_next most_next, omega (arith, far, few, same_sent))
                  ];
                }

    -- where a member that has triggered reports, and what it tells is read true
    pub asked_on : (x : IsAsked d past js) → x.homing ≡ h → (K ≤ at + 5 → (b : ℕ) → IsMember b members → ReadsTrue m switches b c (d ∷ past) (turns_of b (j ∷ js)) × HasRoundAhead m switches b c (d ∷ past)) → IsCalled c (d ∷ past) (j ∷ js) ⊎ IsAsked c (d ∷ past) (j ∷ js)
    asked_on x same told =
        let f = followed x.b x.on in
        let few = x.telling.soon in
        let due = x.telling.due in
        let soon : K ≤ at + 5 = elim (leb_tells (at + 6) K) [
          | inl p ↦ absurd (let up = ticks_rise (Own x.b) f.ticks (at + 6) K p.1 in let every = f.reports at in omega (arith, up, every, few, due))
          | inr p ↦ (let l = p.1 in omega (arith, l))
        ] in
        let reads = told soon x.b x.on in
        let own = plainly_on y on_y (omega (arith, soon, ends)) (subst (λ (g : Homing). IsPlainly m y (Heard d past g).members (rig_at m pins entries js y)) same x.own) in
        let e : K + 1 ≡ length (d ∷ past) = omega arith in
        elim (falling.telling_on m v switches pins entries lines ready at start last till members followed low_so begun c d past j js s early reach h is begins x.b x.on reads.0 reads.1 (omega (arith, soon, ends)) (Limit x.b) x.telling
        (subst (λ (g : Homing). KnownOn x.b last (Heard d past g).members) same x.knows)) [
          | inr z ↦ inr (record {
            homing = Next;
            known = next_known;
            b = x.b;
            on = x.on;
            telling = subst (λ (n : ℕ). IsTelling m x.b (Limit x.b) start (lines x.b) (Own x.b n) (rig_at m pins entries (j ∷ js) x.b)) e z.0;
            knows = z.1;
            own = own;
          })
          | inl fired ↦
              let some = some_next x.b x.on fired in
              let start_is = begins_next in
              let due_in = due_soon N (length (d ∷ past)) (omega (arith, start_is, early, begun)) some in
              let left = due_in.1 in
              inl (record {
                homing = Next;
                known = next_known;
                some = some;
                left = due_in.0;
                due = due_in.2;
                own = own;
                soon = omega (arith, left, soon);
                limited = inl (omega (arith, left, soon));
              })
        ]

    -- where the group calls
    abbrev Limits : Homing → ℕ → Type 0
    Limits g n = (K + n + 1 ≤ at + 24) ⊎ (IsLimited (trigger_of m y) End (Timeout (Heard d past g).sent) (rig_at m pins entries js y) × (K + n + 2 ≤ (Heard d past g).sent))

    pub called_on : (x : IsCalled d past js) → x.homing ≡ h → N.sent ≤ K + 26 → N.sent ≤ last + 1 → IsCalled c (d ∷ past) (j ∷ js) ⊎ IsDone (d ∷ past) (j ∷ js)
    called_on x same near_next most_next = by x.left (subst (λ (g : Homing). IsDue x.left (Heard d past g) K) same x.due) x.soon x.limited (subst (λ (g : Homing). any_fired_by (Heard d past g).last (Heard d past g).members ≡ true) same x.some)
        (subst (λ (g : Homing). IsPlainly m y (Heard d past g).members (rig_at m pins entries js y)) same x.own)
      where
        next_limited : (n : ℕ) → Limits x.homing n → (K + n + 1 ≤ at + 24) ⊎ (IsLimited (trigger_of m y) End (Timeout N.sent) (rig_at m pins entries (j ∷ js) y) × (K + n + 2 ≤ N.sent))
        next_limited n (inl l) = inl l
        next_limited n (inr k) =
            let k_now = subst (λ (g : Homing). IsLimited (trigger_of m y) End (Timeout (Heard d past g).sent) (rig_at m pins entries js y) × (K + n + 2 ≤ (Heard d past g).sent)) same k in
            let far = k_now.1 in
            let more = grows in
            let same_sent = sent_next in
            inr (ahead_next k_now.0 (omega (arith, far, more)) near_next most_next, omega (arith, far, more, same_sent))

        by : (n : ℕ) → IsDue n G K → K + n ≤ at + 27 → Limits x.homing n → any_fired_by G.last G.members ≡ true → IsPlainly m y G.members (rig_at m pins entries js y) → IsCalled c (d ∷ past) (j ∷ js) ⊎ IsDone (d ∷ past) (j ∷ js)
        by zero due soon limits some own =
            inr (record {
              fired = falling.called m v switches pins entries lines ready at start last till members followed low_so begun c d past j js s early reach h is begins y on_y (due_now G K due) own;
              limited = elim (next_limited 0 limits) [ inl l ↦ inl (omega (arith, l)) | inr k ↦ inr (Timeout N.sent, k.0) ];
            })
        by (suc n) due soon limits some own =
            let hears = groups.hears m switches pins entries lines ready at start last till members followed c d past j js s early low_here far_here reach h is in
            let members_same = groups.same_members m switches pins entries lines ready at start last till members followed c d past j js s early low_here far_here reach h is in
            let same_last = after_last G K in
            let e : K + 1 ≡ length (d ∷ past) = omega arith in
            inl (record {
              homing = Next;
              known = next_known;
              some = hears.fired (subst (λ (l : ℕ). any_fired_by l (turned_group G K).members ≡ true) (sym same_last) (subst (λ (xs : List Seen). any_fired_by G.last xs ≡ true) (sym members_same) some));
              left = n;
              due = subst (λ (k : ℕ). IsDue n N k) e (due_on n G N K late_start open_it hears.relay due);
              own = plainly_on y on_y (omega (arith, soon, ends)) own;
              soon = omega (arith, soon);
              limited = elim (next_limited (suc n) limits) [ inl l ↦ inl (omega (arith, l)) | inr k ↦ inr (k.0, (let far = k.1 in omega (arith, far))) ];
            })

    -- and where the board's trigger has triggered
    pub done_on : (x : IsDone past js) → (K ≡ at + 24 → HasFired (trigger_of m y) (rig_at m pins entries js y) → ⊥) → IsDone (d ∷ past) (j ∷ js)
    done_on x could = record {
      fired = fired_on y on_y x.fired;
      limited = elim x.limited [
        | inr k ↦ inr (k.0, gone_on y on_y End k.0 x.fired k.1)
        | inl l ↦ elim (leb_tells (K + 1) (at + 24)) [ inl p ↦ (let soon = p.1 in inl (omega (arith, soon))) | inr p ↦ (let late = p.1 in absurd (could (omega (arith, l, late)) x.fired)) ]
      ];
    }

    -- and behind that
    pub exact_on : (e : IsExact d past js) → e.homing ≡ h → N.sent ≤ K + 26 → N.sent ≤ last + 1 → K ≤ at + 36 → IsExact c (d ∷ past) (j ∷ js)
    exact_on x same near_next most_next soon = by (subst (λ (g : Homing). IsLimited (trigger_of m y) End (Timeout (Heard d past g).sent) (rig_at m pins entries js y)) same x.exact)
        (subst (λ (g : Homing). (at + 38 ≤ (Heard d past g).sent) ⊎ ((Heard d past g).sent ≡ last + 1)) same x.far)
      where
        by : IsLimited (trigger_of m y) End (Timeout G.sent) (rig_at m pins entries js y) → (at + 38 ≤ G.sent) ⊎ (G.sent ≡ last + 1) → IsExact c (d ∷ past) (j ∷ js)
        by limited (inl far) =
            let same_sent = sent_next in
            let more = grows in
            record {
              homing = Next;
              known = next_known;
              exact = ahead_next limited (omega (arith, far, more, soon)) near_next most_next;
              far = inl (omega (arith, far, more, same_sent));
            }
        by limited (inr end) =
            let same_sent = sent_next in
            let more = grows in
            let last_sent : N.sent ≡ last + 1 = omega (arith, end, more, same_sent, most_next) in
            let at_end : IsLimited (trigger_of m y) End End (rig_at m pins entries js y) = subst (λ (n : ℕ). IsLimited (trigger_of m y) End (Timeout n) (rig_at m pins entries js y)) end limited in
            let on = far_on y on_y End (omega (arith, end, lasts)) at_end in
            record { homing = Next; known = next_known; exact = subst (λ (n : ℕ). IsLimited (trigger_of m y) End (Timeout n) (rig_at m pins entries (j ∷ js) y)) (sym last_sent) on; far = inr last_sent }

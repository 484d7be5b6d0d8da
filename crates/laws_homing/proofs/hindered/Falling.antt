-- A member's board over a turn over which its link rests, in any scene: where its trigger triggers, the group hears of that at once; and an order to trigger triggers it.
use Rattle.std.proofs.Common.{◌≡◌, ◌⊎◌, ℕ, ◌+◌, ◌*◌, ◌%◌, ◌^◌, ◌<◌, ◌≤◌, inl, inr, Bool, true, false, List, [], ◌∷◌, ◌++◌, length, Some, refl, ap, sym, ◌∙◌, subst, arith, append-nil}
use Rattle.laws_board.proofs.Names.{Level, Machine, nearest, board_tick, clock_of, turn_ns, Clocks, lines_tick, IsValidMachine, board_at, clocks_at, turn_in_run, turn_tick, Entry, Switch, Cmd, State, trigger_of, commands_of, Rig, Slot, passes, slot_at, takes_all, one_slot, says, queued_in, first_state, orders, Member, Fired, Seen, GroupState, turned_group, relay_in, relays_in, Homing, hears_all, low, Connecting, noted, Came, known_by, no_both}
use Rattle.plan_types.specs.Clock.{run_turns}
use Rattle.plan_types.specs.Lines.{lines_turn}
use Rattle.msg_code.specs.declared.cmd.Cmd.TheVariants as cmd
use Rattle.board_sim.specs.Turn.{says_shut}
use Rattle.board_sim.proofs.RigStates.{all_tick}
use Rattle.board_sim.proofs.Sound.{sound_regular}
use Rattle.board_world.specs.World.{shut_before}
use Rattle.laws_board.specs.turns.Turns.{AreBoardTurns, BoardTurn, stands_after}
use Rattle.laws_board.specs.clocks.Runs.{IsInRun}
use Rattle.laws_board.proofs.clocks.Lines.{run_before}
use Rattle.laws_board.proofs.sections.Clocks.{ticks_rise}
use Rattle.laws_board.specs.sections.Parts.{AreTracked}
use Rattle.laws_homing.specs.home_runs.Guards.{HasFired, StandsFired}
use Rattle.laws_homing.specs.home_runs.Told.{IsMember}
use Rattle.laws_homing.specs.home_runs.Windows.{HasAnswer, IsWatched, SayFired}
use Rattle.laws_homing.proofs.home_runs.Joining.{all_queued}
use Rattle.laws_homing.proofs.home_runs.Resting.{rests_took, rests_up}
use Rattle.laws_homing.proofs.home_runs.Spelled.{own_state}
use Rattle.laws_homing.proofs.home_runs.Told.{told_stands}
use Rattle.laws_homing.specs.clear_boards.Firing.{TellOff}
use Rattle.laws_homing.specs.clear_boards.Hearing.{AllFiredIn, FiredOn, FiringNone, KnownOn, NoneOn}
use Rattle.laws_homing.specs.clear_boards.Rests.{RestsOver}
use Rattle.laws_homing.specs.clear_groups.Sections.{IsAlike, IsFollowed, IsOnward, IsRestingSection, report_ticks, rig_at, turns_of}
use Rattle.laws_homing.proofs.clear_boards.Answering.{told_to_commands}
use Rattle.laws_homing.proofs.clear_boards.Bridging.{among_front, firing_among, off_found}
use Rattle.laws_homing.proofs.clear_boards.Clocking.{lines_up, read_counts, report_counts}
use Rattle.laws_homing.proofs.clear_boards.Ending.{small_among}
use Rattle.laws_homing.proofs.clear_boards.Knowing.{hears_fired, hears_known, hears_none, none_known}
use Rattle.laws_homing.proofs.clear_boards.Member.{all_sound}
use Rattle.laws_homing.proofs.clear_boards.Rests.{rests_idle, rests_none}
use Rattle.laws_homing.proofs.clear_boards.Sent.{sent_relays_in}
use Rattle.laws_homing.proofs.clear_boards.Small.{turn_small}
use Rattle.laws_homing.proofs.clear_boards.Standing.{sound_at, tick_is}
use Rattle.laws_homing.proofs.clear_boards.Taking.{takes_rested}
use Rattle.laws_homing.proofs.clear_boards.Telling.{told_at_once}
use Rattle.laws_homing.proofs.clear_boards.Triggering.{Gone, Keen, turn_so}
use Rattle.laws_homing.proofs.clear_boards.Turned.{above, next_all, stays_fired}
use Rattle.laws_homing.proofs.clear_groups.Alike.{tracked_alike}
use Rattle.laws_homing.proofs.clear_groups.Groups as groups
use Rattle.laws_homing.proofs.clear_groups.Groups.{none_at}
use Rattle.laws_homing.proofs.clear_groups.Known.{behind_turn}
use Rattle.laws_homing.proofs.clear_groups.Orders.{IsSent}
use Rattle.laws_homing.proofs.clear_groups.Owning.{one_rested}
use Rattle.laws_homing.proofs.missed_groups.Fresh.{firing_in, none_firing, off_parts, small_parts}
use Rattle.laws_homing.proofs.missed_groups.Stepping.{calm_meant, still_fired}
use Rattle.laws_homing.specs.fired_runs.Since.{ReadsTrue}
use Rattle.laws_homing.specs.hindered.Hindered.{HasRoundAhead}
use Rattle.laws_homing.specs.switch_runs.Reports.{IsReport}
use Rattle.laws_homing.proofs.hindered.Repeating.{IsSilenced, repeats}
use Rattle.laws_homing.proofs.hindered.Reporting.{takes_due}
use Rattle.laws_homing.proofs.hindered.Running.{runs_shut, small_at}
use Rattle.laws_homing.proofs.hindered.Told.{report_early}
use Rattle.laws_homing.proofs.fired_runs.Reported.{sole_state}

-- a board's trigger has triggered, or it can trigger, and its group knows of nothing else
abbrev pub IsPlainly : Machine → ℕ → List Seen → Rig → Type 0
IsPlainly m b xs r = HasFired (trigger_of m b) r ⊎ ((u : Slot) × (slot_at r (trigger_of m b) ≡ Some u) × (u.trigger.can ≡ true) × NoneOn b xs)

-- A board's trigger at a tick: it has triggered, from a section's start on and by then; and it reports so often, the next time at the tick or later, and that is no later than a limit.
pub record IsTelling (m : Machine) (b limit start : ℕ) (lines : Clocks) (now : ℕ) (r : Rig) : Type 0 where
  pub slot : Slot
  pub is : slot_at r (trigger_of m b) ≡ Some slot
  pub next : ℕ
  pub tick : ℕ
  pub silenced : IsSilenced next (report_ticks m b) tick slot
  pub due : now ≤ next
  pub soon : next ≤ limit
  pub base : lines_tick lines (start * turn_ns) ≤ tick
  pub early : tick ≤ now

module _ (m : Machine) (v : IsValidMachine m) (switches : List Switch) (pins : ℕ → List (List Level)) (entries : List Entry) (lines : ℕ → Clocks) (ready at start last till : ℕ) (members : List Member)
    (followed : (b : ℕ) → IsMember b members → IsFollowed m b (lines b) ready start last till) (low_so : ready + 5 ≤ start) (begun : start + 5 ≤ at) (c d : Came) (past : List Came) (j : ℕ → BoardTurn) (js : List (ℕ → BoardTurn))
    (s : IsRestingSection m switches pins entries lines at start members c (d ∷ past) (j ∷ js)) (early : at ≤ length past) (reach : length past + 276 ≤ till) (h : Homing) (is : (noted m d.note (known_by m switches past)).homing ≡ Some h)
    (begins : (hears_all (noted m d.note (known_by m switches past)).clocks d.states h).group.start ≡ start) (b : ℕ) (on : IsMember b members) where
  abbrev K : ℕ
  K = length past

  abbrev G : GroupState
  G = (hears_all (noted m d.note (known_by m switches past)).clocks d.states h).group

  abbrev Next : Homing
  Next = behind_turn (hears_all (noted m d.note (known_by m switches past)).clocks d.states h) K

  abbrev All : List Clocks
  All = (noted m c.note (known_by m switches (d ∷ past))).clocks

  abbrev N : GroupState
  N = (hears_all All c.states Next).group

  low_here : ready + 4 ≤ K
  low_here = omega (arith, early, low_so, begun)

  far_here : start ≤ K + 249
  far_here = omega (arith, early, begun)

  abbrev Oid : ℕ
  Oid = trigger_of m b

  abbrev Own : ℕ → ℕ
  Own = λ k. board_tick (clock_of (board_at m b)) k

  abbrev Turns : List BoardTurn
  Turns = turns_of b js

  abbrev Turn : ℕ
  Turn = length (turns_of b js)

  abbrev Now : ℕ
  Now = Own (length (turns_of b js))

  abbrev Until : ℕ
  Until = Own (length (turns_of b js) + 1)

  abbrev Commands : List Cmd
  Commands = commands_of (queued_in (orders (j b).control (j b).batch))

  abbrev Before : Rig
  Before = rig_at m pins entries js b

  abbrev Later : Rig
  Later = rig_at m pins entries (j ∷ js) b

  abbrev Clock : ℕ
  Clock = low (turn_tick (clocks_at (noted m d.note (known_by m switches past)).clocks b) (turned_group G K).sent)

  plain : IsOnward m switches (pins b) entries b at (d ∷ past) (turns_of b (j ∷ js))
  plain = groups.plain m switches pins entries lines ready at start last till members followed c d past j js s early low_here far_here reach h is b on

  are : AreBoardTurns (clock_of (board_at m b)) (first_state (board_at m b) (pins b) b entries) (j b ∷ Turns)
  are = plain.run.turns_are

  rests : RestsOver (j b) Turns
  rests = groups.rests m switches pins entries lines ready at start last till members followed c d past j js s early low_here far_here reach h is b on

  long : K ≡ Turn
  long = groups.long m switches pins entries lines ready at start last till members followed c d past j js s early low_here far_here reach h is b on

  sent : IsSent m (clocks_at (noted m d.note (known_by m switches past)).clocks b) b K G Commands
  sent = groups.sent m switches pins entries lines ready at start last till members followed c d past j js s early low_here far_here reach h is b on begins

  taken : Later ≡ (passes (takes_all Before Commands).rig Until).rig
  taken = takes_rested (board_at m b) (pins b) b entries (j b) Turns rests are

  run_js : IsInRun m switches (pins b) entries b past Turns
  run_js = run_before m switches (pins b) entries b d past (j b) Turns plain.run

  same_members : (turned_group G K).members ≡ G.members
  same_members = groups.same_members m switches pins entries lines ready at start last till members followed c d past j js s early low_here far_here reach h is

  next_of : (Next.start ≡ start) × (Next.group.start ≡ start)
  next_of = (let of = groups.next_of m switches pins entries lines ready at start last till members followed c d past j js s early low_here far_here reach h is in (of.0, of.1))

  -- what it says is heard
  watched : (i : ℕ) → IsWatched i Oid (stands_after (first_state (board_at m b) (pins b) b entries) Turns).core
  watched i =
      let d0 = board_at m b in
      let core = (stands_after (first_state d0 (pins b) b entries) Turns).core in
      let past_it = groups.past_it m switches pins entries lines ready at start last till members followed c d past j js s early low_here far_here reach h is b on in
      record {
        sole = (one_rested m switches (pins b) entries b past Turns v run_js rests.0 past_it (runs_shut m (pins b) entries b Turns are.1 plain.none_shut.1)).0;
        left = [];
        rest = append-nil core.taken ∙ rests_took d0 (pins b) b entries Turns are.1 (rests_idle d0 (pins b) b entries Turns are.1 rests.0) ∙ sym (all_queued d0 (pins b) b entries Turns are.1);
        calm = tt;
        heard = rests_up d0 (pins b) b entries Turns are.1 (rests_none d0 (pins b) b entries Turns rests.0);
      }

  told_so : (oid reason clock : ℕ) → HasAnswer (cmd.TrsyncState oid 0 reason clock) (j b).state.news → StandsFired Oid reason clock Later
  told_so oid reason clock told =
      let calm = calm_meant (above Commands) Oid Clock (queued_in (orders (j b).control (j b).batch)) (omega arith) sent.behind in
      told_stands (board_at m b) (pins b) b entries (j b) [] Turns (above Commands) Oid oid reason clock are (watched (above Commands)) (calm, tt)
      (λ u there. (small_at m (pins b) entries b switches (d ∷ past) (turns_of b (j ∷ js)) plain.run Oid u there).reason) told

  -- the lines that are known in the next turn
  abbrev Known : Clocks
  Known = clocks_at All b

  knows : (b < length All) × IsAlike (K + 276 + 1) Known (lines b)
  knows =
      let past_next : (known_by m switches (d ∷ past)).phase ≡ Connecting → ⊥ = (s.homes.0 (omega (arith, early))).0 in
      let to = groups.next_known m switches pins entries lines ready at start last till members followed c d past j js s early low_here far_here reach h is in
      let k = s.knows.0 past_next Next to.0 next_of.0 b plain.run.board in
      let e : length (d ∷ past) + 276 ≡ K + 276 + 1 = omega arith in
      (k.0, subst (λ (n : ℕ). IsAlike n Known (lines b)) e k.1)

  -- they follow the board
  known_to : (x : AreTracked Own Known ready) × ((n : ℕ) → n ≤ last + 1 → n ≤ K + 276 → n ≤ x.until) × (x.until < run_turns)
  known_to =
      let f = followed b on in
      let ends_so = f.ends in
      let run_so = f.in_run in
      let k = tracked_alike Own Known (lines b) ready (K + 276) f.tracked knows.1 in
      let until = k.1 in
      (k.0, λ n soon near. omega (arith, until, ends_so, soon, near, reach), omega (arith, until, run_so))

  -- a clock that the board told in the turn is read as that of a tick of the section
  abbrev ReadIn : ℕ → Type 0
  ReadIn clock = (when : ℕ) × (start ≤ when) × (when ≤ last) × (turn_in_run Known (nearest (turn_tick Known Turn) clock) ≡ Some when)

  all_fired : (u : Slot) → slot_at Later Oid ≡ Some u → ((oid reason : ℕ) → HasAnswer (cmd.TrsyncState oid 0 reason (u.trigger.tick % 2 ^ 32)) (j b).state.news → ReadIn (u.trigger.tick % 2 ^ 32)) → AllFiredIn Known (j b).state.turn Next.group.start last (j b).state.news
  all_fired u there counts =
      let news = (j b).state.news in
      let turn_is : (j b).state.turn ≡ Turn = are.0.1.turn in
      let group_start = next_of.1 in
      let all : AllFiredIn Known Turn Next.group.start last news =
      firing_in Known Turn Next.group.start last news (λ o r k told. (
      let st = told_so o r k told in
      let same : st.slot ≡ u = one_slot (slot_at Later Oid) st.slot u st.is there in
      let clock : u.trigger.tick % 2 ^ 32 ≡ k = ap (λ (z : Slot). z.trigger.tick % 2 ^ 32) (sym same) ∙ st.clock_is in
      let cnt = subst ReadIn clock (counts o r (subst (λ (i : ℕ). HasAnswer (cmd.TrsyncState o 0 r i) news) (sym clock) told)) in
      let least = cnt.1 in
      (cnt.0, omega (arith, least, group_start), cnt.2, cnt.3))) in
      subst (λ (i : ℕ). AllFiredIn Known i Next.group.start last news) (sym turn_is) all

  in_time : Next.start ≤ (j b).state.turn + 1
  in_time =
      let turn_is : (j b).state.turn ≡ Turn = are.0.1.turn in
      let own_start = next_of.0 in
      let size = long in
      omega (arith, own_start, early, begun, size, turn_is)

  known_next : KnownOn b last G.members → KnownOn b last Next.group.members
  known_next k = subst (λ (xs : List Seen). KnownOn b last xs) (sym same_members) k

  -- what it told as it ran on is among the news
  said_off : (clock : ℕ) → TellOff Oid clock (passes (takes_all Before Commands).rig Until).answers → SayFired (j b).state.news
  said_off clock t =
      let q = (takes_all Before Commands).rig in
      let ys = (passes q Until).answers in
      let parts = small_parts (takes_all Before Commands).answers (says q Until) (turn_small Oid Clock Until Before Commands sent.behind (small_at m (pins b) entries b switches past Turns run_js)).1 in
      let f = off_found Oid clock ys t in
      let among = among_front (cmd.TrsyncState Oid 0 f.reason clock) ys (says_shut (shut_before q.controller.state q.controller.tick) q.controller.tick Until) f.among in
      let fits = small_among (cmd.TrsyncState Oid 0 f.reason clock) (says q Until) parts.1 among in
      let x = told_at_once (board_at m b) (pins b) b entries (j b) Turns (cmd.TrsyncState Oid 0 f.reason clock) rests are among (own_state Oid 0 f.reason clock (followed b on).trigger (omega arith) fits.0 fits.1) in
      firing_among Oid f.reason clock x.0 (j b).state.news x.1

  -- one that triggered in the turn
  module _ (soon : K + 1 ≤ last) (u : Slot) (there : slot_at Later Oid ≡ Some u) (none_before : NoneOn b G.members) (gone : Gone Oid Now Until u ((takes_all Before Commands).answers ++ (passes (takes_all Before Commands).rig Until).answers)) where
    tells : SayFired (j b).state.news
    tells =
        let xs = (takes_all Before Commands).answers in
        let clock = u.trigger.tick % 2 ^ 32 in
        let parts = small_parts xs (says (takes_all Before Commands).rig Until) (turn_small Oid Clock Until Before Commands sent.behind (small_at m (pins b) entries b switches past Turns run_js)).1 in
        elim (off_parts Oid clock xs (passes (takes_all Before Commands).rig Until).answers gone.tells) [
          | inl t ↦
              let f = off_found Oid clock xs t in
              let fits = small_among (cmd.TrsyncState Oid 0 f.reason clock) xs parts.0 f.among in
              let x = told_to_commands (board_at m b) (pins b) b entries (j b) Turns (cmd.TrsyncState Oid 0 f.reason clock) rests are f.among (own_state Oid 0 f.reason clock (followed b on).trigger (omega arith) fits.0 fits.1) in
              firing_among Oid f.reason clock x.0 (j b).state.news x.1
          | inr t ↦ said_off clock t
        ]

    heard : FiredOn b last N.members
    heard =
        let f = followed b on in
        let size = long in
        let before = low_here in
        let ends_so = f.ends in
        let from = gone.begun in
        let to = gone.early in
        let begin = f.begins in
        let ahead = f.tracked.ahead start (omega (arith, begin)) (omega (arith, ends_so, soon, reach, early, begun)) in
        let up = ticks_rise Own f.ticks (start + 4) Turn (omega (arith, early, begun, size)) in
        let k = known_to in
        let until = k.1 (Turn + 1) (omega (arith, soon, size)) (omega (arith, size)) in
        let x = report_counts Own Known ready Turn Turn u.trigger.tick f.ticks k.0 (omega (arith, before, size)) (omega arith) (omega arith) until k.2
        (groups.in_range m switches pins entries lines ready at start last till members followed c d past j js s early low_here far_here reach h is b on) from to in
        let same_start = knows.1.ticks start (omega (arith, far_here)) in
        let next = k.0.behind (Turn + 1) (omega (arith, before, size)) until in
        let over = lines_up Known (Turn + 1 + 1) (last + 1) (omega (arith, soon, size)) in
        let cnt : ReadIn (u.trigger.tick % 2 ^ 32) = (x.when, x.begun start (omega (arith, same_start, ahead, up, from)), x.ends last (omega (arith, next, over, to)), x.in_run) in
        hears_fired b last All c.states (j b).state Next knows.0 (s.states b on) in_time (all_fired u there (λ o r told. cnt)) tells (known_next (none_known b last G.members none_before))

  -- one that has triggered, and reports: as what it tells is read true, it is read as a tick that the board has come to
  module _ (reads : ReadsTrue m switches b c (d ∷ past) (turns_of b (j ∷ js))) (round : HasRoundAhead m switches b c (d ∷ past)) (soon : K + 2 ≤ last) where
    read_in : (oid reason tick : ℕ) → tick ≤ Own Turn → lines_tick (lines b) (start * turn_ns) ≤ tick → HasAnswer (cmd.TrsyncState oid 0 reason (tick % 2 ^ 32)) (j b).state.news → ReadIn (tick % 2 ^ 32)
    read_in oid reason tick by base told =
        let f = followed b on in
        let size = long in
        let before = low_here in
        let turn : (j b).state.turn ≡ Turn = are.0.1.turn in
        let k = known_to in
        let same_start = knows.1.ticks start (omega (arith, far_here)) in
        let up = lines_up Known Turn (length (d ∷ past)) (omega (arith, size)) in
        let far : lines_tick Known (length (d ∷ past) * turn_ns) + 2 ^ 32 ≤ lines_tick Known (run_turns * turn_ns) = round in
        let x = read_counts Own Known ready Turn start tick f.ticks k.0 (omega (arith, before, size)) (k.1 Turn (omega (arith, soon, size)) (omega (arith, size)))
        (groups.in_range m switches pins entries lines ready at start last till members followed c d past j js s early low_here far_here reach h is b on) (omega (arith, up, far)) by (omega (arith, same_start, base)) in
        let read_at = nearest (turn_tick Known Turn) (tick % 2 ^ 32) in
        let fired : Fired = record { reason = reason; tick = read_at; turn = lines_turn Known read_at } in
        let report : IsReport m switches b start fired c (d ∷ past) = record {
          state = (j b).state;
          came = s.states b on;
          counts = omega (arith, turn, size, early, begun);
          oid = oid;
          clock = tick % 2 ^ 32;
          told = told;
          tick_is = ap (λ (n : ℕ). nearest (turn_tick Known n) (tick % 2 ^ 32)) (sym turn);
          turn_is = x.1;
          late = x.0;
        } in
        let by_last = report_early m v switches (pins b) entries _ lines ready at start last till members b on f low_so c (d ∷ past) j js s plain.run (λ l. omega (arith, early)) (omega (arith, soon)) (omega (arith, reach)) reads fired report in
        (lines_turn Known read_at, x.0, omega (arith, by_last, soon), x.1)

    pub telling_on : (limit : ℕ) → IsTelling m b limit start (lines b) (Own K) Before → KnownOn b last G.members → FiredOn b last N.members ⊎ (IsTelling m b limit start (lines b) (Own (K + 1)) Later × KnownOn b last N.members)
    telling_on limit x known =
        let behind = sent.behind in
        let u = (next_all Oid Clock Before Commands behind).slots x.slot x.is in
        let kept = u.stays.same x.silenced.off x.silenced.idle in
        let off = still_fired x.slot.trigger.can u.slot.trigger.can u.stays.can x.silenced.off in
        let due = takes_due Oid (report_ticks m b) x.next Clock Before Commands x.slot u.slot behind x.is u.is (x.silenced.every_is, x.silenced.report_is) in
        let silenced : IsSilenced x.next (report_ticks m b) x.tick u.slot = record { off = off; idle = u.stays.quiet (λ e. x.silenced.idle) off; same = kept.1 ∙ x.silenced.same; every_is = due.0; report_is = due.1 } in
        let regular = sound_regular Taken (all_sound Before Commands (sound_at (board_at m b) (pins b) b entries Turns are.1)) in
        let at_tick = all_tick Before Commands ∙ tick_is (board_at m b) (pins b) b entries Turns are.1 in
        let rises = (followed b on).rises Turn in
        let z = repeats Oid Until x.next (report_ticks m b) x.tick Taken u.slot u.is regular (omega (arith, at_tick, rises)) silenced in
        let there : slot_at Later Oid ≡ Some z.0.slot = subst (λ (r : Rig). slot_at r Oid ≡ Some z.0.slot) (sym taken) z.0.is in
        let tick = z.0.silenced.same in
        let base = x.base in
        let old : x.tick ≤ Own Turn = subst (λ (n : ℕ). x.tick ≤ Own n) long x.early in
        let all = all_fired z.0.slot there (λ oid reason told. read_in oid reason z.0.slot.trigger.tick (omega (arith, tick, old)) (omega (arith, tick, base)) told) in
        elim z.0.told [
          | inr w ↦ inl (hears_fired b last All c.states (j b).state Next knows.0 (s.states b on) in_time all (said_off (x.tick % 2 ^ 32) w.4) (known_next known))
          | inl same ↦
              let far = z.1 in
              let few = x.soon in
              let up = (followed b on).rises K in
              let by = x.early in
              inr (
                record {
                  slot = z.0.slot;
                  is = there;
                  next = z.0.next;
                  tick = x.tick;
                  silenced = z.0.silenced;
                  due = subst (λ (n : ℕ). Own (n + 1) ≤ z.0.next) (sym long) far;
                  soon = omega (arith, same, few);
                  base = base;
                  early = omega (arith, by, up);
                },
                hears_known b last All c.states Next (λ y at_it behind_it. subst (λ (w : State). AllFiredIn Known w.turn Next.group.start last w.news) (sole_state (j b).state y (sym (s.states b on) ∙ at_it)) all) (known_next known),
              )
        ]
      where
        Taken : Rig
        Taken = (takes_all Before Commands).rig

  -- one that can trigger
  pub falls : K + 1 ≤ last → (u : Slot) → slot_at Before Oid ≡ Some u → u.trigger.can ≡ true → NoneOn b G.members
      → (HasFired Oid Later × FiredOn b last N.members) ⊎ ((z : Slot) × (slot_at Later Oid ≡ Some z) × (z.trigger.can ≡ true) × NoneOn b N.members)
  falls soon u is_there can none =
      let so = sound_at (board_at m b) (pins b) b entries Turns are.1 Oid u is_there in
      let at_tick = tick_is (board_at m b) (pins b) b entries Turns are.1 in
      let keen : Keen Now Before.pins u = record {
        can = can;
        told = so.told;
        moves = so.moves;
        timed = λ y e. (let two = so.timeout y e in omega (arith, two, at_tick));
        sampled = λ y e z hit. (let two = so.switch y z e hit in omega (arith, two, at_tick));
      } in
      let st = turn_so Oid Now Until Clock Now ((followed b on).rises Turn) Before Commands at_tick sent.behind ((λ relays. omega arith), λ sets. inr (omega arith)) u is_there keen in
      let there : slot_at Later Oid ≡ Some st.slot = subst (λ (r : Rig). slot_at r Oid ≡ Some st.slot) (sym taken) st.is in
      elim st.so [
        | inl k ↦ inr (st.slot, there, k.can, still st.slot there k.can)
        | inr g ↦ inl (record { slot = st.slot; is = there; fired = g.fired }, heard soon st.slot there none g)
      ]
    where
      still : (z : Slot) → slot_at Later Oid ≡ Some z → z.trigger.can ≡ true → NoneOn b N.members
      still z there can_on =
          let before : NoneOn b Next.group.members = subst (λ (xs : List Seen). NoneOn b xs) (sym same_members) none in
          let silent : FiringNone (j b).state.news = none_firing (j b).state.news (λ o r n told. (
          let x = told_so o r n told in
          let same : x.slot ≡ z = one_slot (slot_at Later Oid) x.slot z x.is there in
          no_both z.trigger.can can_on (ap (λ (y : Slot). y.trigger.can) (sym same) ∙ x.fired))) in
          hears_none b All c.states Next (λ x at_it. subst (λ (y : State). FiringNone y.news) (sole_state (j b).state x (sym (s.states b on) ∙ at_it)) silent) before

  fired_on : HasFired Oid Before → HasFired Oid Later
  fired_on f = subst (HasFired Oid) (sym taken) (stays_fired Oid Clock Until Before Commands sent.behind f)

  -- so it is behind the turn
  pub plainly_on : K + 1 ≤ last → IsPlainly m b G.members Before → IsPlainly m b N.members Later
  plainly_on soon (inl f) = inl (fired_on f)
  plainly_on soon (inr x) = elim (falls soon x.0 x.1 x.2 x.3) [ inl f ↦ inl f.0 | inr y ↦ inr y ]

  -- an order to trigger
  pub called : relays_in (relay_in G K) K ≡ true → IsPlainly m b G.members Before → HasFired Oid Later
  called now (inl f) = fired_on f
  called now (inr x) =
      let ordered = groups.ordered m switches pins entries lines ready at start last till members followed c d past j js s early low_here far_here reach h is b on in
      let seen = groups.seen m switches pins entries lines ready at start last till members followed c d past j js s early low_here far_here reach h is b on in
      let late : G.start ≤ K = omega (arith, begins, early, begun) in
      let unended = groups.unended m switches pins entries lines ready at start last till members followed c d past j js s early low_here far_here reach h is begins late in
      let relays = sent_relays_in m (clocks_at (noted m d.note (known_by m switches past)).clocks b) b h K G Commands ordered late unended seen.0 seen.1 seen.2 (none_at b seen.0 G.members seen.1 seen.2 x.3) now in
      groups.relay_on m switches pins entries lines ready at start last till members followed c d past j js s early low_here far_here reach h is b on begins x.0 x.1 relays

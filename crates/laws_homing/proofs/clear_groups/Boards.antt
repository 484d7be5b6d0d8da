-- A member's board over a turn of a homing section.
use Rattle.std.proofs.Common.{◌≡◌, ℕ, ◌+◌, ◌-◌, ◌*◌, ◌%◌, ◌^◌, ◌<◌, ◌≤◌, ◌⊎◌, min, inl, inr, List, [], ◌∷◌, ◌++◌, length, Option, None, Some, ap, sym, ◌∙◌, refl, subst, arith}
use Rattle.laws_board.proofs.Names.{leb_tells, Level, Machine, Running, nearest, board_tick, clock_of, turn_ns, Clocks, lines_tick, board_at, clocks_at, turn_in_run, turn_tick, Entry, Cmd, State, trigger_of, commands_of, Rig, Slot, passes, slot_at, takes, takes_all, AllSound, one_slot, says, queued_in, first_state, orders, Seen, Homing, hears_all, low, state_at}
use Rattle.plan_types.specs.Board.{ahead}
use Rattle.msg_code.specs.declared.cmd.Cmd.TheVariants as cmd
use Rattle.board_step.proofs.Whole.{nearest_is}
use Rattle.laws_board.proofs.sections.Clocks.{ticks_most}
use Rattle.board_sim.proofs.Sound.{takes_sound}
use Rattle.laws_homing.specs.clear_boards.Rests.{RestsOver}
use Rattle.laws_board.specs.turns.Turns.{AreBoardTurns, BoardTurn, stands_after}
use Rattle.laws_homing.specs.home_runs.Guards.{HasFired, IsSole}
use Rattle.laws_homing.specs.clear_boards.Alive.{IsAlive, RelayNone}
use Rattle.laws_homing.specs.clear_boards.Clocking.{IsAhead}
use Rattle.laws_homing.specs.clear_boards.Expiry.{TellExpiry}
use Rattle.laws_homing.specs.clear_boards.Firing.{AllSmall, AreNumbered}
use Rattle.laws_homing.specs.clear_boards.Hearing.{FiredOn}
use Rattle.laws_homing.specs.clear_boards.Held.{AllTellOnly, TellsOnly}
use Rattle.laws_homing.specs.clear_boards.Lately.{IsHeardOf}
use Rattle.laws_homing.specs.clear_boards.Limited.{IsLimited}
use Rattle.laws_homing.specs.clear_boards.Member.{IsMember}
use Rattle.laws_homing.specs.clear_boards.Turned.{AreSentBehind, IsTurnedTo, RelaysOne, SetsNone, SetsOne}
use Rattle.laws_homing.proofs.clear_boards.Alive.{all_left_of, with_timeout}
use Rattle.laws_homing.proofs.clear_boards.Bridging.{turn_is}
use Rattle.laws_homing.proofs.clear_boards.Clocking.{line_ahead, lines_up, report_counts, timeout_ahead}
use Rattle.laws_homing.proofs.clear_boards.Ending.{late_expiry, no_expiry}
use Rattle.laws_homing.proofs.clear_boards.Knowing.{hears_still}
use Rattle.laws_homing.proofs.clear_boards.Member.{all_sound, turn_numbered}
use Rattle.laws_homing.proofs.clear_boards.Small.{turn_small}
use Rattle.laws_homing.proofs.clear_boards.Standing.{runs_rested, sound_at, tick_is}
use Rattle.laws_homing.proofs.clear_boards.Stepping.{goes_on}
use Rattle.laws_homing.proofs.clear_boards.Turned.{next_all, relay_fires, stays_fired, turn_ahead, turn_far, turn_fired}
use Rattle.laws_homing.specs.clear_groups.Early.{AllDue, HeardUntil, IsReportDue}
use Rattle.laws_homing.specs.clear_groups.Safe.{IsLast, IsRenewed, IsWatched}
use Rattle.laws_homing.specs.clear_groups.Sections.{IsAlike, IsFollowed, report_ticks}
use Rattle.laws_homing.proofs.clear_groups.Alike.{followed_alike, tracked_alike, turn_alike}
use Rattle.laws_homing.proofs.clear_groups.Early.{TellsAll, turn_early}
use Rattle.laws_homing.proofs.clear_groups.Noticing.{AllAbleBy, able_by, hears_until, until_more}
use Rattle.plan_types.proofs.Facts.{same_when}
use Rattle.laws_homing.proofs.home_runs.Grouped.{sole_state}

sound_tells : (r : Rig) (cs : List Cmd) → AllSound r → TellsAll r cs
sound_tells r [] k = tt
sound_tells r (c ∷ cs) k = (λ oid s at. (k oid s at).told, sound_tells (takes r c).rig cs (takes_sound r c k))

-- the tick nearest to another
near_low : (now clock : ℕ) → now ≤ nearest now clock + 2 ^ 31
near_low now clock = elim (leb_tells (ahead now clock) (2 ^ 31)) [
  | inl p ↦ rw p.0 (omega arith)
  | inr p ↦ rw p.0 (elim (leb_tells (2 ^ 32) (now + ahead now clock)) [ inl q ↦ rw q.0 (omega (arith, p.1, q.1)) | inr q ↦ rw q.0 (omega arith) ])
]

near_same : (now clock : ℕ) → nearest now clock % 2 ^ 32 ≡ clock % 2 ^ 32
near_same now clock = elim (leb_tells (ahead now clock) (2 ^ 31)) [
  | inl p ↦ rw p.0 (omega arith)
  | inr p ↦ rw p.0 (elim (leb_tells (2 ^ 32) (now + ahead now clock)) [ inl q ↦ rw q.0 (omega (arith, p.1, q.1)) | inr q ↦ rw q.0 (omega arith) ])
]

near_late : (now t : ℕ) → t ≤ now + 2 ^ 31 → t ≤ nearest now (t % 2 ^ 32)
near_late now t l = elim (leb_tells (now + 1) (t + 2 ^ 31)) [
  | inl p ↦ (let low = p.1 in let is = nearest_is now (t % 2 ^ 32) t (omega (arith, low), l) (omega arith) in omega (arith, is))
  | inr p ↦ (let far = p.1 in let low = near_low now (t % 2 ^ 32) in omega (arith, far, low))
]

-- what tells of no expiry but at a tick tells of none but at another with the same clock
one_same : (x y : ℕ) (c : Cmd) → x % 2 ^ 32 ≡ y % 2 ^ 32 → TellsOnly x c → TellsOnly y c
one_same x y (cmd.TrsyncState oid can reason clock) e k = λ none two. k none two ∙ e
one_same x y c e k = tt

only_same : (x y : ℕ) (cs : List Cmd) → x % 2 ^ 32 ≡ y % 2 ^ 32 → AllTellOnly x cs → AllTellOnly y cs
only_same x y [] e k = tt
only_same x y (c ∷ cs) e k = (one_same x y c e k.0, only_same x y cs e k.1)

module _ (m : Machine) (b : ℕ) (pins : List (List Level)) (entries : List Entry) (t : BoardTurn) (before : List BoardTurn) (rests : RestsOver t before)
    (are : AreBoardTurns (clock_of (board_at m b)) (first_state (board_at m b) pins b entries) (t ∷ before)) (shut : t.state.shut ≡ None)
    (few : length (stands_after (first_state (board_at m b) pins b entries) before).core.board.triggers ≤ 256) (in_range : board_tick (clock_of (board_at m b)) (length before) < 2 ^ 63) where
  abbrev pub own : ℕ → ℕ
  own = λ k. board_tick (clock_of (board_at m b)) k

  abbrev pub Start : Rig
  Start = (stands_after (first_state (board_at m b) pins b entries) before).core.board

  abbrev pub Commands : List Cmd
  Commands = commands_of (queued_in (orders t.control t.batch))

  abbrev pub Taken : Rig
  Taken = (takes_all Start Commands).rig

  abbrev pub After : Rig
  After = (passes Taken (own (length before + 1))).rig

  abbrev Answers : List Cmd
  Answers = (takes_all Start Commands).answers ++ says Taken (own (length before + 1))

  abbrev Oid : ℕ
  Oid = trigger_of m b

  runs : Taken.controller.state ≡ Running
  runs = runs_rested (board_at m b) pins b entries t before rests are shut

  at_tick : Start.controller.tick ≡ own (length before)
  at_tick = tick_is (board_at m b) pins b entries before are.1

  sound : AllSound Start
  sound = sound_at (board_at m b) pins b entries before are.1

  numbered : (clock : ℕ) → AreSentBehind Oid clock Commands → IsSole Oid Start → AreNumbered Answers
  numbered clock behind sole =
      let next = next_all Oid clock Start Commands behind in
      let places = next.places in
      turn_numbered Oid clock (own (length before + 1)) Start Commands few (omega (arith, places, few)) sole (next.sole sole) behind

  -- no expiry is told of, by whatever lines
  abbrev pub TellsNone : Type 0
  TellsNone = (known : Clocks) (when : ℕ) → TellExpiry known (length before) when t.state.news → ⊥

  never : (clock limit : ℕ) → AreSentBehind Oid clock Commands → AllSmall Start → IsSole Oid Start → ((tick : ℕ) → IsTurnedTo Oid tick limit (own (length before + 1)) Start Commands) → TellsNone
  never clock limit behind small sole turned = λ known when tells.
      no_expiry (board_at m b) pins b entries t before rests are known when (turned 0).tells (turned 1).tells (turn_small Oid clock (own (length before + 1)) Start Commands behind small).1 (numbered clock behind sole) tells

  -- a board that can't trigger
  pub fired_step : (lines : Clocks) (clock sent next : ℕ) → AreSentBehind Oid clock Commands → AllSmall Start → IsRenewed Oid lines sent Start → HasFired Oid Start
      → AllSmall After × IsRenewed Oid lines next After × HasFired Oid After × TellsNone
  fired_step lines clock sent next behind small renewed fired =
      let limit = lines_tick lines (next * turn_ns) in
      let turned : (tick : ℕ) → IsTurnedTo Oid tick limit (own (length before + 1)) Start Commands =
      (λ tick. turn_fired Oid tick (lines_tick lines (sent * turn_ns)) limit clock (own (length before + 1)) Start Commands runs behind fired (renewed tick)) in (
        (turn_small Oid clock (own (length before + 1)) Start Commands behind small).0,
        (λ tick. (turned tick).limited),
        stays_fired Oid clock (own (length before + 1)) Start Commands behind fired,
        never clock limit behind small (renewed 0).sole turned,
      )

  pub ahead_of : (lines : Clocks) (ready start last till next : ℕ) (f : IsFollowed m b lines ready start last till) → ready ≤ length before → length before + 276 ≤ till → length before + 2 ≤ next → next ≤ last + 1 → next ≤ length before + 276 → IsAhead own lines (length before) next
  ahead_of lines ready start last till next f low_so reach far most near =
      let ends = f.ends in
      timeout_ahead own lines ready (length before) next f.ticks f.tracked low_so (omega (arith, most, near, reach, ends)) far (omega (arith, near)) (f.rises (length before)) in_range

  -- one that is sent a timeout in time, whatever else
  pub ahead_step : (lines : Clocks) (ready start last till sent next : ℕ) (f : IsFollowed m b lines ready start last till) → ready ≤ length before → length before + 276 ≤ till → length before + 2 ≤ next → next ≤ last + 1 → next ≤ length before + 276
      → AreSentBehind Oid (low (turn_tick lines next)) Commands → (sent ≡ next) ⊎ SetsOne Commands → AllSmall Start → IsRenewed Oid lines sent Start
      → AllSmall After × IsRenewed Oid lines next After × TellsNone
  ahead_step lines ready start last till sent next f low_so reach far most near behind sets small renewed =
      let clock = low (turn_tick lines next) in
      let limit = lines_tick lines (next * turn_ns) in
      let ends = f.ends in
      let ahead = ahead_of lines ready start last till next f low_so reach far most near in
      let until_low : own (length before + 1) ≤ limit = line_ahead own lines ready (length before + 1) next f.tracked (omega (arith, low_so)) (omega (arith, far, most, reach, ends)) (omega (arith, far)) in
      let renew : (lines_tick lines (sent * turn_ns) ≡ limit) ⊎ SetsOne Commands = elim sets [ inl e ↦ inl (ap (λ (n : ℕ). lines_tick lines (n * turn_ns)) e) | inr s ↦ inr s ] in
      let turned : (tick : ℕ) → IsTurnedTo Oid tick limit (own (length before + 1)) Start Commands =
      (λ tick. turn_ahead Oid tick (lines_tick lines (sent * turn_ns)) limit clock (own (length before)) (own (length before + 1)) Start Commands at_tick ahead.is ahead.later runs behind renew (inl until_low) (renewed tick)) in (
        (turn_small Oid clock (own (length before + 1)) Start Commands behind small).0,
        (λ tick. (turned tick).limited),
        never clock limit behind small (renewed 0).sole turned,
      )

  -- a relay
  pub relay_step : (clock : ℕ) (s : Slot) → slot_at Start Oid ≡ Some s → AreSentBehind Oid clock Commands → RelaysOne Commands → HasFired Oid After
  relay_step clock s there behind relays = relay_fires Oid clock (own (length before + 1)) Start Commands s there runs behind relays

  -- the reports of a board that can trigger
  due_all : (lines : Clocks) (clock base every sent : ℕ) → own (length before) < nearest (own (length before)) clock → AreSentBehind Oid clock Commands → RelayNone Commands → IsRenewed Oid lines sent Start → IsAlive Oid base every (own (length before)) Start → AllDue (own (length before)) Taken
  due_all lines clock base every sent later behind relays renewed a =
      let told : a.slot.trigger.untold ≡ None = ((renewed 0).held Oid a.slot a.is).told in
      let left = all_left_of Oid clock (own (length before)) Start Commands a.slot runs a.is told at_tick later behind relays in
      let u = with_timeout a.slot left.0.0 in
      let there : slot_at Taken Oid ≡ Some u = left.0.1 in
      let sole = (next_all Oid clock Start Commands behind).sole (renewed 0).sole in
      let still = all_sound Start Commands sound in
      let due = a.due in (
      λ i s at. (
      let here : slot_at Taken Oid ≡ Some s = subst (λ (n : ℕ). slot_at Taken n ≡ Some s) (sole i s at) at in
      let same : u ≡ s = one_slot (slot_at Taken Oid) u s there here in
      let so = still i s at in
      let k : IsReportDue (own (length before)) s =
      record { told = so.told; moves = so.moves; due = λ x is. (let next : a.next ≡ x = same_when a.slot.trigger.report a.next x a.report (ap (λ (v : Slot). v.trigger.report) same ∙ is) in omega (arith, next, due)) } in
      k))

  -- what it told of its trigger counts by the next turn
  able_now : (lines : Clocks) (clock base every sent ready start last till : ℕ) (f : IsFollowed m b lines ready start last till) → ready + 4 ≤ length before → length before + 276 ≤ till → length before + 1 ≤ last + 1 → own (length before) < nearest (own (length before)) clock → AreSentBehind Oid clock Commands → RelayNone Commands
      → AllSmall Start → IsRenewed Oid lines sent Start → IsAlive Oid base every (own (length before)) Start → AllAbleBy lines (length before) (length before + 1 + 249) t.state.news
  able_now lines clock base every sent ready start last till f low_so reach soon later behind relays small renewed a =
      let ends = f.ends in
      let until = own (length before + 1) in
      let early = turn_early (own (length before)) until Start Commands (sound_tells Start Commands sound) (due_all lines clock base every sent later behind relays renewed a) in
      let k = f.tracked in
      let next_low = k.behind (length before + 1) (omega (arith, low_so)) (omega (arith, soon, reach, ends)) in
      able_by (board_at m b) pins b entries t before rests are lines (length before + 1 + 249) (own (length before)) until (turn_small Oid clock until Start Commands behind small).1 (numbered clock behind (renewed 0).sole) early
      (λ at w from_so before_so is. (
      let c = report_counts own lines ready (length before) (length before) at f.ticks k low_so (omega arith) (omega arith) (omega (arith, soon, reach, ends)) f.in_run in_range from_so before_so in
      let same = same_when (turn_in_run lines (nearest (turn_tick lines (length before)) (at % 2 ^ 32))) c.when w c.in_run is in
      let low_when = c.ends (length before + 1) (omega (arith, before_so, next_low)) in
      omega (arith, same, low_when)))

  -- one that its group watches, in a turn in which it relays nothing
  abbrev Watched : Clocks → ℕ → ℕ → ℕ → List Seen → Type 0
  Watched lines start last next members =
      AllSmall After × IsRenewed Oid lines next After × IsWatched m lines b (length before + 1) start last next members After × TellsNone

  known_step : (all : List Clocks) (states : List State) (h : Homing) (lines : Clocks) (clock sent next start last : ℕ) → AreSentBehind Oid clock Commands → AllSmall Start → IsRenewed Oid lines sent Start → HasFired Oid Start → FiredOn b last h.group.members
      → Watched lines start last next (hears_all all states h).group.members
  known_step all states h lines clock sent next start last behind small renewed fired on =
      let x = fired_step lines clock sent next behind small renewed fired in
      (x.0, x.1, inr (x.2, hears_still b last all states h on), x.3)

  -- the group hears it by the lines that are known then
  pub watched_step : (all : List Clocks) (states : List State) (h : Homing) (lines : Clocks) (clock ready start last till sent : ℕ) (f : IsFollowed m b lines ready start last till) → IsAlike (length before + 277) (clocks_at all b) lines → b < length all → state_at b states ≡ t.state ∷ [] → h.start ≡ start
      → h.group.start ≡ start → h.group.last ≡ last → ready + 4 ≤ length before → length before + 276 ≤ till → start ≤ length before + 249 → length before + 2 ≤ h.group.sent → h.group.sent ≤ last + 1
      → (HeardUntil start b (length before + 249) h.group.members → sent ≤ length before + 274 → h.group.sent ≤ length before + 274)
      → AreSentBehind Oid clock Commands → (h.group.sent ≤ length before + 274 → clock ≡ low (turn_tick lines h.group.sent)) → RelayNone Commands → (sent ≡ h.group.sent) ⊎ SetsOne Commands → AllSmall Start → IsRenewed Oid lines sent Start
      → IsWatched m lines b (length before) start last sent h.group.members Start → Watched lines start last h.group.sent (hears_all all states h).group.members
  watched_step all states h lines clock ready start last till sent f alike here is begins group_begins group_ends low_so reach far_start far most near behind_so clock_is relays sets small renewed (inr known) =
      known_step all states h lines clock sent h.group.sent start last behind_so small renewed known.0 known.1
  watched_step all states h lines clock ready start last till sent f alike here is begins group_begins group_ends low_so reach far_start far most near behind_so clock_is relays sets small renewed (inl w) = elim w.0 [
    | inr known ↦ known_step all states h lines clock sent h.group.sent start last behind_so small renewed known.0 known.1
    | inl alive ↦
        let known = clocks_at all b in
        let next = h.group.sent in
        let base = lines_tick lines (start * turn_ns) in
        let every = report_ticks m b in
        let early = f.begins in
        let order = f.goes in
        let soon = near w.1 w.2 in
        let sent_soon = w.2 in
        let limit = lines_tick lines (next * turn_ns) in
        let upto = min last (length before + 274) in
        let k = followed_alike m b known lines ready start last till upto (length before + 276) f (subst (λ (n : ℕ). IsAlike n known lines) (let e : length before + 277 ≡ length before + 276 + 1 = omega arith in e) alike) (omega (arith, order, far_start)) (omega arith) (omega arith) in
        let ends = k.ends in
        let next_low : next ≤ upto + 1 = omega (arith, soon, most) in
        let limit_is : lines_tick known (next * turn_ns) ≡ limit = alike.ticks next (omega (arith, soon)) in
        let by_known : IsRenewed Oid known sent Start = λ tick. subst (λ (n : ℕ). IsLimited Oid tick n Start) (sym (alike.ticks sent (omega (arith, sent_soon)))) (renewed tick) in
        let behind : AreSentBehind Oid (low (turn_tick known next)) Commands =
        subst (λ (n : ℕ). AreSentBehind Oid n Commands) (clock_is soon ∙ ap low (sym (turn_alike known lines (length before + 277) next alike (omega (arith, soon))))) behind_so in
        let heard = subst (λ (n : ℕ). IsHeardOf own base every n b alive.0.next h.group.members) (sym group_begins) alive.1 in
        let on = goes_on (board_at m b) pins b entries t before rests are all states h Oid base every ready sent next k.ticks k.tracked here is (begins ∙ sym group_begins)
        (ap (λ (n : ℕ). lines_tick known (n * turn_ns)) begins ∙ alike.ticks start (omega (arith, far_start)))
        (omega (arith, early, begins)) low_so (omega (arith, far, next_low, reach, ends)) (omega (arith, begins, ends, order, reach, far_start)) (omega (arith, next_low, soon, reach, ends)) k.in_run in_range (k.rises (length before)) k.reports far (omega (arith, soon)) (omega (arith, most, group_ends)) k.trigger few at_tick runs
        behind relays sets by_known sound alive.0 heard alive.3 in
        let turned : (tick : ℕ) → IsTurnedTo Oid tick limit (own (length before + 1)) Start Commands = λ tick. subst (λ (n : ℕ). IsTurnedTo Oid tick n (own (length before + 1)) Start Commands) limit_is (on.0 tick) in
        let ahead = ahead_of known ready start upto till next k (omega (arith, low_so)) reach far next_low (omega (arith, soon)) in
        let later : own (length before) < nearest (own (length before)) (low (turn_tick known next)) = (let is_it = ahead.is in let more = ahead.later in omega (arith, is_it, more)) in
        let able = able_now known (low (turn_tick known next)) base every sent ready start upto till k low_so reach (omega (arith, far, next_low)) later behind relays small by_known alive.0 in
        let turn_so = turn_is (board_at m b) pins b entries t before rests are in
        let until = hears_until start (length before + 1 + 249) b all states h
        (λ s there late. (
        let At : ℕ → Type 0 = λ n. AllAbleBy known n (length before + 1 + 249) t.state.news in
        let now : AllAbleBy known t.state.turn (length before + 1 + 249) t.state.news = subst At (sym turn_so) able in
        subst (λ (x : State). AllAbleBy known x.turn (length before + 1 + 249) x.news) (sole_state s t.state (sym is ∙ there)) now)) (until_more start b (length before + 249) (length before + 1 + 249) h.group.members (omega arith) w.1) in
        let Member : ℕ → ℕ → Type 0 = λ s l. IsMember own Oid base every s l b (length before + 1) After (hears_all all states h).group.members in
        let member : Member start last = subst (λ (s : ℕ). Member s last) group_begins (subst (λ (l : ℕ). Member h.group.start l) group_ends on.1) in (
          (turn_small Oid clock (own (length before + 1)) Start Commands behind_so small).0,
          (λ tick. (turned tick).limited),
          inl (member, until, omega (arith, soon)),
          never clock limit behind_so small (renewed 0).sole turned,
        )
  ]

  -- one whose timeout is the one behind the section's last turn
  past_tick : (lines : Clocks) (ready start last till : ℕ) (f : IsFollowed m b lines ready start last till) → ready + 1 ≤ length before → length before + 276 ≤ till → lines_tick lines ((last + 1) * turn_ns) < own (length before + 1)
      → lines_tick lines ((last + 1) * turn_ns) ≤ turn_tick lines (length before) + 2 ^ 31
  past_tick lines ready start last till f low_so reach past =
      let k = f.tracked in
      let ends = f.ends in
      let next = ticks_most own f.ticks 1 (length before) in
      elim (leb_tells (last + 1) (length before)) [
        | inl p ↦ (let up = lines_up lines (last + 1) (length before) p.1 in omega (arith, up, past, next, in_range))
        | inr p ↦
            let soon = p.1 in
            let e : length before - 1 + 1 ≡ length before = omega (arith, low_so) in
            let back : own (length before - 1) ≤ lines_tick lines (length before * turn_ns) = subst (λ (n : ℕ). own (length before - 1) ≤ lines_tick lines (n * turn_ns)) e (k.behind (length before - 1) (omega (arith, low_so)) (omega (arith, soon, reach, ends))) in
            let one : own (length before) ≤ own (length before - 1) + 1_000_000 = subst (λ (n : ℕ). own n ≤ own (length before - 1) + 1_000_000) e (f.ticks.most (length before - 1)) in
            omega (arith, back, one, next, past, in_range)
      ]

  -- its turn is near
  last_by : (lines : Clocks) (ready start last till : ℕ) (f : IsFollowed m b lines ready start last till) → ready + 1 ≤ length before → length before + 276 ≤ till → lines_tick lines ((last + 1) * turn_ns) < own (length before + 1) → last + 1 ≤ length before + 277
  last_by lines ready start last till f low_so reach past = elim (leb_tells (last + 1) (length before + 277)) [
    | inl p ↦ p.1
    | inr p ↦
        let far = p.1 in
        let ends = f.ends in
        let next = f.tracked.behind (length before + 1) (omega (arith, low_so)) (omega (arith, far, reach, ends)) in
        let up = lines_up lines (length before + 1 + 1) (last + 1) (omega (arith, far)) in
        omega (arith, next, up, past)
  ]

  -- what it tells of an expiry is of no turn up to the last one, by any lines by which turns begin as by its own
  abbrev pub TellsLate : Clocks → ℕ → Type 0
  TellsLate lines last = (known : Clocks) → IsAlike (length before + 277) known lines → (when : ℕ) → TellExpiry known (length before) when t.state.news → last < when

  late_by : (lines : Clocks) (clock ready start last till : ℕ) (f : IsFollowed m b lines ready start last till) → ready + 1 ≤ length before → length before + 276 ≤ till → lines_tick lines ((last + 1) * turn_ns) < own (length before + 1) → AreSentBehind Oid clock Commands → AllSmall Start → IsSole Oid Start
      → AllTellOnly (lines_tick lines ((last + 1) * turn_ns)) Answers → TellsLate lines last
  late_by lines clock ready start last till f low_so reach past behind small sole only = λ known alike when tells. (
      let tick = lines_tick lines ((last + 1) * turn_ns) in
      let now = turn_tick known (length before) in
      let near = nearest now (tick % 2 ^ 32) in
      let now_is = turn_alike known lines (length before + 277) (length before) alike (omega arith) in
      let far = past_tick lines ready start last till f low_so reach past in
      let late = near_late now tick (omega (arith, far, now_is)) in
      let same : tick % 2 ^ 32 ≡ near % 2 ^ 32 = (let e = near_same now (tick % 2 ^ 32) in omega (arith, e)) in
      let is : nearest now (near % 2 ^ 32) ≡ near = ap (nearest now) (sym same) in
      let e : length before + 277 ≡ length before + 276 + 1 = omega arith in
      let k = tracked_alike own known lines ready (length before + 276) f.tracked (subst (λ (n : ℕ). IsAlike n known lines) e alike) in
      let tick_is = alike.ticks (last + 1) (last_by lines ready start last till f low_so reach past) in
      let low_when = late_expiry (board_at m b) pins b entries t before rests are own known ready near when (last + 1) k.0 (only_same tick near Answers same only) (turn_small Oid clock (own (length before + 1)) Start Commands behind small).1
      (numbered clock behind sole) is (omega (arith, late, tick_is)) tells in
      omega (arith, low_when))

  pub last_step : (lines : Clocks) (clock ready start last till : ℕ) (f : IsFollowed m b lines ready start last till) → ready + 1 ≤ length before → length before + 276 ≤ till → AreSentBehind Oid clock Commands → SetsNone Commands → AllSmall Start → IsLast m lines b (length before) last Start
      → AllSmall After × IsLast m lines b (length before + 1) last After × TellsLate lines last
  last_step lines clock ready start last till f low_so reach behind unset small k =
      let tick = lines_tick lines ((last + 1) * turn_ns) in
      let until = own (length before + 1) in
      let rises = f.rises (length before) in
      let small_after = turn_small Oid clock until Start Commands behind small in
      let once : IsLimited Oid tick tick Start → tick < until → AllSmall After × IsLast m lines b (length before + 1) last After × TellsLate lines last =
      (λ limited past. (
      let turned = turn_far Oid tick tick clock until Start Commands runs behind unset (inr refl) limited in
      (small_after.0, inr (turned.limited, past), late_by lines clock ready start last till f low_so reach past behind small limited.sole turned.tells))) in
      elim k [
        | inr past ↦ (let before_so = past.1 in once past.0 (omega (arith, before_so, rises)))
        | inl renewed ↦ elim (leb_tells until tick) [
          | inl p ↦
              let turned : (x : ℕ) → IsTurnedTo Oid x tick until Start Commands = (λ x. turn_far Oid x tick clock until Start Commands runs behind unset (inl p.1) (renewed x)) in
              let no = never clock tick behind small (renewed 0).sole turned in
              (small_after.0, inl (λ x. (turned x).limited), λ known alike when tells. absurd (no known when tells))
          | inr p ↦ (let past = p.1 in once (renewed tick) (omega (arith, past)))
        ]
      ]

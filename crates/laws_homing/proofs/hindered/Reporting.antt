-- A member's board over a turn over which its link rests, in any scene: what it reports of its trigger is heard.
use Rattle.std.proofs.Common.{◌≡◌, ◌⊎◌, ℕ, ◌+◌, ◌%◌, ◌^◌, ◌<◌, ◌≤◌, inl, inr, Bool, true, false, List, [], ◌∷◌, ◌++◌, length, Some, refl, ap, sym, ◌∙◌, subst, arith}
use Rattle.laws_board.proofs.Names.{Level, Machine, nearest, board_tick, clock_of, Clocks, board_at, clocks_at, turn_in_run, turn_tick, Entry, Cmd, State, trigger_of, commands_of, Rig, Slot, passes, slot_at, takes_all, one_slot, says, queued_in, first_state, orders, Seen, Homing, hears_all, state_at}
use Rattle.msg_code.specs.declared.cmd.Cmd.TheVariants as cmd
use Rattle.board_sim.specs.Turn.{says_shut}
use Rattle.board_sim.proofs.RigStates.{all_tick}
use Rattle.board_sim.proofs.Sound.{sound_regular}
use Rattle.board_world.specs.World.{shut_before}
use Rattle.link_work.proofs.Saying.{among_right}
use Rattle.laws_board.specs.turns.Turns.{AreBoardTurns, BoardTurn, stands_after}
use Rattle.laws_board.proofs.sections.Clocks.{ticks_rise}
use Rattle.laws_homing.specs.home_runs.Guards.{HasFired}
use Rattle.laws_homing.specs.clear_boards.Firing.{AllSmall, AreSmall}
use Rattle.laws_homing.specs.clear_boards.Hearing.{HeardBy, TellAble}
use Rattle.laws_homing.specs.clear_boards.Reports.{IsReported, TellCan}
use Rattle.laws_homing.specs.clear_boards.Rests.{RestsOver}
use Rattle.laws_homing.specs.clear_boards.Turned.{AreSentBehind, IsSentBehind}
use Rattle.laws_homing.specs.clear_groups.Resting.{EachTame, IsTame}
use Rattle.laws_homing.specs.clear_groups.Sections.{IsAlike, IsFollowed, report_ticks}
use Rattle.laws_homing.proofs.home_runs.Spelled.{own_state}
use Rattle.laws_homing.proofs.clear_boards.Alive.{late_passes}
use Rattle.laws_homing.proofs.clear_boards.Bridging.{able_among, among_front, can_found, turn_is}
use Rattle.laws_homing.proofs.clear_boards.Clocking.{report_counts}
use Rattle.laws_homing.proofs.clear_boards.Ending.{small_among}
use Rattle.laws_homing.proofs.clear_boards.Hearing.{hears_able, hears_on}
use Rattle.laws_homing.proofs.clear_boards.Member.{all_sound}
use Rattle.laws_homing.proofs.clear_boards.Small.{turn_small}
use Rattle.laws_homing.proofs.clear_boards.Standing.{sound_at, tick_is}
use Rattle.laws_homing.proofs.clear_boards.Telling.{told_at_once}
use Rattle.laws_homing.proofs.clear_boards.Turned.{next_all}
use Rattle.laws_homing.proofs.clear_groups.Alike.{tracked_alike}
use Rattle.laws_homing.proofs.hindered.Holding as holding
use Rattle.laws_homing.proofs.hindered.Holding.{Due}

-- commands behind the set-up start none
tame_one : (j clock : ℕ) (c : Cmd) → IsSentBehind j clock c → IsTame c
tame_one j clock (cmd.TrsyncStart oid at every reason) k = k
tame_one j clock c k = tt

behind_tame : (j clock : ℕ) (cs : List Cmd) → AreSentBehind j clock cs → EachTame cs
behind_tame j clock [] k = tt
behind_tame j clock (c ∷ cs) k = (tame_one j clock c k.0, behind_tame j clock cs k.1)

-- its next report, and that it comes every so many ticks, is what no such command changes
pub takes_due : (j every next clock : ℕ) (r : Rig) (cs : List Cmd) (s u : Slot) → AreSentBehind j clock cs → slot_at r j ≡ Some s → slot_at (takes_all r cs).rig j ≡ Some u → Due every next s.trigger → Due every next u.trigger
takes_due j every next clock r cs s u behind is there k =
    let h = holding.takes_due j every next r cs (behind_tame j clock cs behind) (record { slot = s; is = is; so = k }) in
    subst (λ (z : Slot). Due every next z.trigger) (one_slot (slot_at (takes_all r cs).rig j) h.slot u h.is there) h.so

-- A member's board at a tick: its trigger can trigger, and reports so often, the next time at the tick or later, and that is no later than a limit, or the report before
-- it was heard.
pub record IsUp (m : Machine) (b limit now start : ℕ) (xs : List Seen) (r : Rig) : Type 0 where
  pub slot : Slot
  pub is : slot_at r (trigger_of m b) ≡ Some slot
  pub can : slot.trigger.can ≡ true
  pub every_is : slot.trigger.every ≡ report_ticks m b
  pub next : ℕ
  pub report : slot.trigger.report ≡ Some next
  pub due : now ≤ next
  pub heard : (next ≤ limit) ⊎ ((at : ℕ) × (turn : ℕ) × (when : ℕ) × (at + report_ticks m b ≡ next) × (at < board_tick (clock_of (board_at m b)) (turn + 1)) × (turn ≤ when + 4) × HeardBy start b when xs)

module _ (m : Machine) (b : ℕ) (pins : List (List Level)) (entries : List Entry) (t : BoardTurn) (before : List BoardTurn) (rests : RestsOver t before)
    (are : AreBoardTurns (clock_of (board_at m b)) (first_state (board_at m b) pins b entries) (t ∷ before)) where
  abbrev own : ℕ → ℕ
  own = λ k. board_tick (clock_of (board_at m b)) k

  abbrev Start : Rig
  Start = (stands_after (first_state (board_at m b) pins b entries) before).core.board

  abbrev Commands : List Cmd
  Commands = commands_of (queued_in (orders t.control t.batch))

  abbrev Taken : Rig
  Taken = (takes_all Start Commands).rig

  abbrev Until : ℕ
  Until = own (length before + 1)

  abbrev After : Rig
  After = (passes Taken Until).rig

  abbrev Oid : ℕ
  Oid = trigger_of m b

  -- a report that the board tells as it runs on is among the news
  tells_small : (clocks : Clocks) (clock when : ℕ) → Oid < 2 ^ 8 → AreSmall ((takes_all Start Commands).answers ++ says Taken Until) → TellCan Oid clock (passes Taken Until).answers
      → turn_in_run clocks (nearest (turn_tick clocks (length before)) clock) ≡ Some when → TellAble clocks (length before) when t.state.news
  tells_small clocks clock when small few tells is =
      let f = can_found Oid clock (passes Taken Until).answers tells in
      let c = cmd.TrsyncState Oid 1 f.reason clock in
      let shut = says_shut (shut_before Taken.controller.state Taken.controller.tick) Taken.controller.tick Until in
      let said = among_front c (passes Taken Until).answers shut f.among in
      let fits = small_among c ((takes_all Start Commands).answers ++ says Taken Until) few (among_right c (takes_all Start Commands).answers (says Taken Until) said) in
      let x = told_at_once (board_at m b) pins b entries t before c rests are said (own_state Oid 1 f.reason clock small (omega arith) fits.0 fits.1) in
      able_among clocks (length before) when Oid f.reason clock x.0 t.state.news x.1 is

  -- over the turn
  pub up_step : (all : List Clocks) (states : List State) (h : Homing) (lines : Clocks) (clock ready start last till limit : ℕ) (f : IsFollowed m b lines ready start last till) → IsAlike (length before + 277) (clocks_at all b) lines → b < length all
      → state_at b states ≡ t.state ∷ [] → h.start ≡ start → h.group.start ≡ start → ready + 4 ≤ length before → length before + 276 ≤ till → start + 4 ≤ length before → length before ≤ last → own (length before) < 2 ^ 63 → AreSentBehind Oid clock Commands → AllSmall Start
      → IsUp m b limit (own (length before)) h.group.start h.group.members Start → HasFired Oid After ⊎ IsUp m b limit Until h.group.start (hears_all all states h).group.members After
  up_step all states h lines clock ready start last till limit f alike here is begins group_begins low_so reach late soon range behind small up =
      let u = (next_all Oid clock Start Commands behind).slots up.slot up.is in
      let due = takes_due Oid (report_ticks m b) up.next clock Start Commands up.slot u.slot behind up.is u.is (up.every_is, up.report) in
      let sound = all_sound Start Commands (sound_at (board_at m b) pins b entries before are.1) in
      let at_tick = all_tick Start Commands ∙ tick_is (board_at m b) pins b entries before are.1 in
      let rises = f.rises (length before) in
      let x = late_passes Oid Until up.next Taken u.slot u.is (sound_regular Taken sound) (omega (arith, at_tick, rises)) due.1 in
      by u.slot.trigger.every u.slot.trigger.can x.0 x.1 due.0 x.0.slot.trigger.can refl
    where
      by : (every : ℕ) (was : Bool) (x : IsReported Oid Until up.next every was After (passes Taken Until).answers) → Until ≤ x.next → every ≡ report_ticks m b → (c : Bool) → x.slot.trigger.can ≡ c
          → HasFired Oid After ⊎ IsUp m b limit Until h.group.start (hears_all all states h).group.members After
      by every was x far same false e = inl (record { slot = x.slot; is = x.is; fired = e })
      by every was x far same true e =
          inr (record {
            slot = x.slot;
            is = x.is;
            can = e;
            every_is = x.every_is ∙ same;
            next = x.next;
            report = x.report_is;
            due = far;
            heard = elim x.told [
              | inl old ↦ elim up.heard [ inl low ↦ inl (omega (arith, old, low)) | inr z ↦ inr (z.0, z.1, z.2, z.3 ∙ sym old, z.4, z.5, hears_on b z.2 all states h z.6) ]
              | inr z ↦
                  let at = z.0 in
                  let known = clocks_at all b in
                  let next_low = up.due in
                  let from = z.1 in
                  let to = z.2 in
                  let ends = f.ends in
                  let in_run = f.in_run in
                  let begin = f.begins in
                  let more : length before + 277 ≡ length before + 276 + 1 = omega arith in
                  let k = tracked_alike own known lines ready (length before + 276) f.tracked (subst (λ (n : ℕ). IsAlike n known lines) more alike) in
                  let until_is = k.1 in
                  let c = report_counts own known ready (length before) (length before) at f.ticks k.0 low_so (omega arith) (omega arith) (omega (arith, until_is, ends, soon, reach)) (omega (arith, until_is, in_run)) range (omega (arith, next_low, from)) to in
                  let ahead = f.tracked.ahead start (omega (arith, begin)) (omega (arith, ends, late, soon, reach)) in
                  let up_to = ticks_rise own f.ticks (start + 4) (length before) late in
                  let begun = c.begun start (let same_start = alike.ticks start (omega (arith, late)) in omega (arith, same_start, ahead, up_to, next_low, from)) in
                  let tells = tells_small known (at % 2 ^ 32) c.when f.trigger (turn_small Oid clock Until Start Commands behind small).1 (z.4 e) c.in_run in
                  let turn = turn_is (board_at m b) pins b entries t before rests are in
                  let At : ℕ → Type 0 = λ n. TellAble known n c.when t.state.news in
                  let heard = hears_able b c.when all states t.state h here is (omega (arith, begun, group_begins)) (omega (arith, begins, turn, late)) (subst At (sym turn) tells) in
                  inr (at, length before, c.when, ap (λ (n : ℕ). at + n) (sym same) ∙ z.3, to, c.late, heard)
            ];
          })

-- What a board tells of its trigger within half a round of its clock is read true, where it took the set-up of the section in time.
use Rattle.std.proofs.Common.{◌≡◌, ℕ, ◌+◌, ◌≤◌, inl, inr, List, [], ◌∷◌, ◌++◌, length, drop, Some, refl, ap, sym, ◌∙◌, subst, arith, append_assoc, append-nil, length-append}
use Rattle.laws_board.proofs.Names.{append_cancel_left, take-append-drop, Level, Machine, Running, nearest, clock_of, IsValidMachine, board_at, clocks_at, turn_tick, News, State, Entry, Switch, Meant, queued_in, first_state, orders, LinkState, trigger_of, Member, Fired, Homing, members_of, noted, Came, known_by, state_at, cons_same}
use Rattle.msg_code.specs.declared.cmd.Cmd.TheVariants as cmd
use Rattle.board_step.proofs.Whole.{nearest_is}
use Rattle.laws_board.specs.turns.Turns.{BoardTurn, latest_state, stands_after}
use Rattle.laws_board.specs.clocks.Runs.{IsInRun}
use Rattle.laws_board.proofs.clocks.Lines.{run_before}
use Rattle.laws_homing.specs.home_runs.Guards.{AreCalm, StandsFired}
use Rattle.laws_homing.specs.home_runs.Sections.{HomesFrom, SetNoneFrom, TakesSetUp, queued_in_turns}
use Rattle.laws_homing.specs.home_runs.Settled.{SetNoClockFrom}
use Rattle.laws_homing.specs.home_runs.Windows.{BringCalm, HasAnswer, IsFired, IsWatched, SayFired}
use Rattle.laws_homing.proofs.home_runs.Firing.{calm_both, calm_parts}
use Rattle.laws_homing.proofs.home_runs.Joining.{all_queued, run_calm}
use Rattle.laws_homing.proofs.home_runs.Settled.{clock_from}
use Rattle.laws_homing.proofs.home_runs.Sole.{sole_after}
use Rattle.laws_homing.proofs.home_runs.Staging.{ran_turns}
use Rattle.laws_homing.proofs.home_runs.Told.{told_stands}
use Rattle.laws_homing.proofs.home_runs.Windows.{ordered_after}
use Rattle.laws_homing.specs.fired_runs.Since.{ReadsAsTold, ReadsSwitchTrue, ReadsTrue, WasFiredAt}
use Rattle.laws_homing.proofs.fired_runs.Reported.{sole_state}
use Rattle.laws_homing.specs.switch_runs.Reports.{HearsSoon, IsReport}
use Rattle.laws_homing.specs.switch_runs.Runs.{IsEndstop}
use Rattle.laws_homing.proofs.switch_runs.Ordering.{bring_fit}
use Rattle.laws_homing.proofs.switch_runs.Made.{AnyTick, whole_after}

-- news with such an answer tell of a trigger that it can't trigger
tells_fired : (oid reason clock : ℕ) (news : List News) → HasAnswer (cmd.TrsyncState oid 0 reason clock) news → SayFired news
tells_fired oid reason clock [] told = absurd told
tells_fired oid reason clock (n ∷ news) (inl same) = inl (subst IsFired (sym same) refl)
tells_fired oid reason clock (n ∷ news) (inr told) = inr (tells_fired oid reason clock news told)

-- what was queued behind some turns
late_queue : (j : ℕ) (late past : List BoardTurn) → (queue : List Meant) × (queued_in_turns (late ++ past) ≡ queued_in_turns past ++ queue) × (BringCalm 0 j late → AreCalm 0 j queue)
late_queue j [] past = ([], sym (append-nil (queued_in_turns past)), λ k. tt)
late_queue j (t ∷ late) past =
    let rest = late_queue j late past in
    let new = queued_in (orders t.control t.batch) in
    (rest.0 ++ new, ap (λ (l : List Meant). l ++ new) rest.1 ∙ append_assoc (queued_in_turns past) rest.0 new, λ k. calm_both 0 j rest.0 new (rest.2 k.1) k.0)

-- earlier turns of a run
record Moment (m : Machine) (switches : List Switch) (pins : List (List Level)) (entries : List Entry) (b from start : ℕ) (ms : List Member) (turns : List BoardTurn) : Type 0 where
  came : List Came
  run : IsInRun m switches pins entries b came turns
  homes : HomesFrom m switches from start ms came
  none : SetNoneFrom 0 from turns

moment : (m : Machine) (switches : List Switch) (pins : List (List Level)) (entries : List Entry) (b from start : ℕ) (ms : List Member) (came : List Came) (window past : List BoardTurn) → IsInRun m switches pins entries b came (window ++ past)
    → HomesFrom m switches from start ms came → SetNoneFrom 0 from (window ++ past) → Moment m switches pins entries b from start ms past
moment m switches pins entries b from start ms came [] past r homes none = record { came = came; run = r; homes = homes; none = none }
moment m switches pins entries b from start ms [] (t ∷ window) past r homes none = absurd r.both
moment m switches pins entries b from start ms (c ∷ before) (t ∷ window) past r homes none =
    moment m switches pins entries b from start ms before window past (run_before m switches pins entries b c before t (window ++ past) r) homes.1 none.1

-- behind a turn by which the set-up was taken the trigger stands as it is told
module _ (m : Machine) (v : IsValidMachine m) (switches : List Switch) (pins : List (List Level)) (entries : List Entry) (b : ℕ) (before : List Came) (t : BoardTurn) (w late past : List BoardTurn) (from start : ℕ) (ms : List Member) (more : List Meant)
    (r : IsInRun m switches pins entries b before (t ∷ (w ++ (late ++ past)))) (since : HomesFrom m switches from start ms before) (begins : from + 254 ≡ start) (none : SetNoneFrom 0 from (t ∷ (w ++ (late ++ past)))) (soon : start ≤ length past + 249)
    (took : queued_in_turns past ++ more ≡ (stands_after (first_state (board_at m b) pins b entries) (late ++ past)).core.taken) (quiet : (stands_after (first_state (board_at m b) pins b entries) (late ++ past)).core.link.up ≡ [])
    (runs : (stands_after (first_state (board_at m b) pins b entries) (t ∷ (w ++ (late ++ past)))).core.board.controller.state ≡ Running) where
  abbrev First : LinkState
  First = first_state (board_at m b) pins b entries

  abbrev Mid : List BoardTurn
  Mid = late ++ past

  at_mid : Moment m switches pins entries b from start ms Mid
  at_mid = moment m switches pins entries b from start ms before (t ∷ w) Mid r since none

  left_mid : List Meant
  left_mid = let core = (stands_after First Mid).core in drop (length core.link.taken) core.queued

  rest_mid : (stands_after First Mid).core.taken ++ left_mid ≡ (stands_after First Mid).core.queued
  unfolding left_mid
  rest_mid =
      let core = (stands_after First Mid).core in
      let o = ordered_after (board_at m b) pins b entries Mid at_mid.run.turns_are in
      ap (λ (x : List Meant). x ++ left_mid) o.first ∙ take-append-drop (length core.link.taken) core.queued

  calm_mid : AreCalm 0 (trigger_of m b) left_mid
  calm_mid =
      let x = at_mid in
      let j = trigger_of m b in
      let parts = late_queue j late past in
      let both : more ++ left_mid ≡ parts.0 =
      append_cancel_left (queued_in_turns past) (more ++ left_mid) parts.0
      (sym (append_assoc (queued_in_turns past) more left_mid) ∙ ap (λ (y : List Meant). y ++ left_mid) took ∙ rest_mid ∙ all_queued (board_at m b) pins b entries Mid x.run.turns_are ∙ parts.1) in
      let calm = run_calm m switches pins entries b x.came late past 0 j from start ms x.run x.homes x.none (omega (arith, begins, soon)) (omega (arith, soon)) in
      (calm_parts 0 j more left_mid (subst (λ (l : List Meant). AreCalm 0 j l) (sym both) (parts.2 calm))).1

  pub window_stands : (oid reason clock : ℕ) → HasAnswer (cmd.TrsyncState oid 0 reason clock) t.state.news → StandsFired (trigger_of m b) reason clock t.after.core.board
  window_stands oid reason clock told =
      let j = trigger_of m b in
      let x = at_mid in
      let long = length-append late past in
      let turns = t ∷ (w ++ Mid) in
      let runs_mid = ran_turns (clock_of (board_at m b)) First (t ∷ w) Mid r.turns_are runs in
      let watch : IsWatched 0 j (stands_after First Mid).core = record { sole = (sole_after m switches pins entries b x.came Mid v x.run runs_mid).0; left = left_mid; rest = rest_mid; calm = calm_mid; heard = quiet } in
      let calm = run_calm m switches pins entries b before (t ∷ w) Mid 0 j from start ms r since none (omega (arith, begins, soon, long)) (omega (arith, soon, long)) in
      let fits = (whole_after (IsEndstop m b) (board_at m b) pins b entries turns 0 j r.turns_are (omega arith) (bring_fit m switches pins entries b (λ now. AnyTick) before turns r (λ tick k. tt))).0.board in
      told_stands (board_at m b) pins b entries t w Mid 0 j oid reason clock r.turns_are watch calm (λ s is. (fits.slots j s is).reason) told

pub some_same : (x y : Homing) → Some x ≡ Some y → x ≡ y
some_same x y e = cc

-- what such a state tells is so
report_true : (m : Machine) (switches : List Switch) (pins : List (List Level)) (entries : List Entry) (b : ℕ) (c : Came) (before : List Came) (h : Homing) (from : ℕ) (t : BoardTurn) (earlier : List BoardTurn) → IsValidMachine m
    → IsInRun m switches pins entries b before (t ∷ earlier) → state_at b c.states ≡ latest_state (t ∷ earlier) → (noted m c.note (known_by m switches before)).homing ≡ Some h → from + 254 ≡ h.start
    → HomesFrom m switches from h.start (members_of h.group) before → SetNoClockFrom from (t ∷ earlier) → TakesSetUp (first_state (board_at m b) pins b entries) h.start (t ∷ earlier)
    → (stands_after (first_state (board_at m b) pins b entries) (t ∷ earlier)).core.board.controller.state ≡ Running → HearsSoon m switches b h.start c before t (length earlier) → (g : Homing) (f : Fired) → (noted m c.note (known_by m switches before)).homing ≡ Some g → IsReport m switches b g.start f c before
    → WasFiredAt (trigger_of m b) f.reason f.tick (t ∷ earlier)
report_true m switches pins entries b c before h from t earlier v r latest known begins since none took runs soon g f is report =
    let First = first_state (board_at m b) pins b entries in
    let own : g ≡ h = some_same g h (sym is ∙ known) in
    let lines = clocks_at (noted m c.note (known_by m switches before)).clocks b in
    let same : t.state ≡ report.state = sole_state t.state report.state (sym latest ∙ report.came) in
    let turn : report.state.turn ≡ length earlier = ap (λ (s : State). s.turn) (sym same) ∙ r.turns_are.0.1.turn in
    let told = subst (λ (s : State). HasAnswer (cmd.TrsyncState report.oid 0 f.reason report.clock) s.news) (sym same) report.told in
    let counts = report.counts in
    let begin = ap (λ (z : Homing). z.start) own in
    let late : h.start ≤ length earlier + 1 = omega (arith, counts, begin, turn) in
    let stands = by took.window took.are late report.oid f.reason report.clock told in
    let near = soon late (tells_fired report.oid f.reason report.clock t.state.news told) stands.slot stands.is stands.fired in
    let clock = stands.clock_is in
    inl (record {
      slot = stands.slot;
      is = stands.is;
      fired = stands.fired;
      why = stands.reason_is;
      at = sym (nearest_is (turn_tick lines (length earlier)) report.clock stands.slot.trigger.tick near (omega (arith, clock))) ∙ ap (λ (k : ℕ). nearest (turn_tick lines k) report.clock) (sym turn) ∙ sym report.tick_is;
    })
  where
    by : (window : List BoardTurn) → t ∷ earlier ≡ window ++ (took.late ++ took.past) → h.start ≤ length earlier + 1 → (oid reason clock : ℕ) → HasAnswer (cmd.TrsyncState oid 0 reason clock) t.state.news
        → StandsFired (trigger_of m b) reason clock t.after.core.board
    by [] are late oid reason clock told =
        let in_time = took.in_time in
        let size = ap (λ (l : List BoardTurn). length l) are in
        absurd (omega (arith, in_time, late, size))
    by (u ∷ w) are late oid reason clock told =
        let both = cons_same t u earlier (w ++ (took.late ++ took.past)) are in
        let Turns : List BoardTurn → List BoardTurn = λ l. t ∷ l in
        let first = first_state (board_at m b) pins b entries in
        window_stands m v switches pins entries b before t w took.late took.past from h.start (members_of h.group) took.more (subst (λ (l : List BoardTurn). IsInRun m switches pins entries b before (Turns l)) both.1 r) since begins
        (clock_from 0 from (Turns (w ++ (took.late ++ took.past))) (subst (λ (l : List BoardTurn). SetNoClockFrom from (Turns l)) both.1 none)) took.queued took.took took.heard
        (subst (λ (l : List BoardTurn). (stands_after first (Turns l)).core.board.controller.state ≡ Running) both.1 runs) oid reason clock told

-- the theorem
pub soon_true : (m : Machine) (switches : List Switch) (pins : List (List Level)) (entries : List Entry) (b : ℕ) (c : Came) (before : List Came) (h : Homing) (from : ℕ) (t : BoardTurn) (earlier : List BoardTurn) → IsValidMachine m
    → IsInRun m switches pins entries b before (t ∷ earlier) → state_at b c.states ≡ latest_state (t ∷ earlier) → (noted m c.note (known_by m switches before)).homing ≡ Some h → from + 254 ≡ h.start
    → HomesFrom m switches from h.start (members_of h.group) before → SetNoClockFrom from (t ∷ earlier) → TakesSetUp (first_state (board_at m b) pins b entries) h.start (t ∷ earlier)
    → (stands_after (first_state (board_at m b) pins b entries) (t ∷ earlier)).core.board.controller.state ≡ Running → HearsSoon m switches b h.start c before t (length earlier)
    → ReadsTrue m switches b c before (t ∷ earlier) × ReadsSwitchTrue m switches b c before (t ∷ earlier) × ReadsAsTold m switches b c before (t ∷ earlier)
soon_true m switches pins entries b c before h from t earlier v r latest known begins since none took runs soon =
    let told = report_true m switches pins entries b c before h from t earlier v r latest known begins since none took runs soon in (
      λ g f is member report. (f.reason, told g f is report),
      λ g f is reader one report. subst (λ (n : ℕ). WasFiredAt (trigger_of m b) n f.tick (t ∷ earlier)) one (told g f is report),
      λ g f is member report. told g f is report,
    )

-- A member's board, in any scene, from the turn on in which it takes the command that starts its trigger, and the one that sets its timeout.
use Rattle.std.proofs.Common.{◌≡◌, ◌⊎◌, inl, inr, ℕ, ◌+◌, ◌-◌, ◌*◌, ◌^◌, ◌<◌, ◌≤◌, true, List, Some, [], ◌∷◌, ◌++◌, length, refl, ap, sym, ◌∙◌, subst, arith}
use Rattle.laws_board.proofs.Names.{Level, Machine, Running, nearest, board_tick, clock_of, turn_ns, Clocks, lines_tick, board_at, turn_tick, Sampling, Entry, Cmd, low, trigger_of, Meant, commands_of, Rig, Slot, passes, slot_at, takes, takes_all, first_state, LinkState}
use Rattle.msg_code.specs.declared.cmd.Cmd.TheVariants as cmd
use Rattle.board_sim.proofs.RigStates.{all_tick, passes_state}
use Rattle.board_sim.proofs.RigTicks.{takes_rig_tick}
use Rattle.laws_board.specs.turns.Turns.{AreBoardTurns, BoardTurn, stands_after}
use Rattle.laws_board.proofs.sections.Boarding.{runs_on}
use Rattle.laws_homing.specs.home_runs.Stages.{no_stage, stage_from}
use Rattle.laws_homing.specs.clear_groups.Resting.{EachTame}
use Rattle.laws_homing.specs.clear_groups.Sections.{IsFollowed, ShutNone, report_ticks}
use Rattle.laws_homing.proofs.home_runs.Staging.{HasSlot, commands_both, staged_after, took_staged}
use Rattle.laws_homing.proofs.home_runs.Whole.{Has, Only, grown}
use Rattle.laws_homing.proofs.clear_boards.Clocking.{timeout_ahead}
use Rattle.laws_homing.proofs.clear_boards.Member.{all_sound}
use Rattle.laws_homing.proofs.clear_boards.Standing.{sound_at, tick_is}
use Rattle.laws_homing.proofs.fired_runs.Once.{SetsFirst}
use Rattle.laws_homing.proofs.hindered.Holding.{AllFit, Due, Holds, Limits, Reports, passes_limits, passes_reports, set_holds_limits, start_holds, takes_due, takes_limits}
use Rattle.laws_homing.proofs.hindered.Since.{Fits, Since, passes_since, start_since, takes_since}
use Rattle.laws_homing.proofs.clear_boards.Turned.{ran as ran_before}
use Rattle.board_sim.proofs.Heeding.{all_append}

module _ (m : Machine) (pins : List (List Level)) (entries : List Entry) (b : ℕ) (lines : Clocks) (ready start last till : ℕ) (f : IsFollowed m b lines ready start last till) (few : trigger_of m b < 256) where
  abbrev First : LinkState
  First = first_state (board_at m b) pins b entries

  abbrev Board : List BoardTurn → Rig
  Board turns = (stands_after First turns).core.board

  abbrev Taken : List BoardTurn → List Meant
  Taken turns = (stands_after First turns).core.taken

  abbrev Are : List BoardTurn → Type 0
  Are turns = AreBoardTurns (clock_of (board_at m b)) First turns

  abbrev Oid : ℕ
  Oid = trigger_of m b

  abbrev pub Own : ℕ → ℕ
  Own k = board_tick (clock_of (board_at m b)) k

  abbrev pub Base : ℕ
  Base = lines_tick lines (start * turn_ns)

  abbrev pub Every : ℕ
  Every = report_ticks m b

  abbrev Turns_to : List Meant → BoardTurn → List BoardTurn → Type 0
  Turns_to took t z = t.after.core.board ≡ (passes (takes_all (Board z) (commands_of took)).rig (Own (length z + 1))).rig

  next_turn : (P : ℕ → Rig → Type 0) (took : List Meant) (t : BoardTurn) (z : List BoardTurn) → Turns_to took t z → P (length z + 1) (passes (takes_all (Board z) (commands_of took)).rig (Own (length z + 1))).rig → P (length (t ∷ z)) t.after.core.board
  next_turn P took t z board k =
      let same : length z + 1 ≡ length (t ∷ z) = omega arith in
      subst (λ (n : ℕ). P n t.after.core.board) same (subst (λ (r : Rig). P (length z + 1) r) (sym board) k)

  -- what it does in a turn, as far as that
  abbrev Front : List BoardTurn → List Meant → Rig
  Front z fr = (takes_all (Board z) (commands_of fr)).rig

  runs_then : (t : BoardTurn) (z : List BoardTurn) (took : List Meant) → Are (t ∷ z) → ShutNone (t ∷ z) → Turns_to took t z → (takes_all (Board z) (commands_of took)).rig.controller.state ≡ Running
  runs_then t z took are shut board =
      sym (passes_state (takes_all (Board z) (commands_of took)).rig (Own (length z + 1))) ∙ ap (λ (r : Rig). r.controller.state) (sym board) ∙ runs_on t.after.core.board.controller.state t.state.shut are.0.1.shut shut.0

  cut_rig : (z : List BoardTurn) (fr : List Meant) (begin : Meant) (mo : List Meant) → (takes_all (Board z) (commands_of (fr ++ begin ∷ mo))).rig ≡ (takes_all (takes (Front z fr) begin.command).rig (commands_of mo)).rig
  cut_rig z fr begin mo = ap (λ (cs : List Cmd). (takes_all (Board z) cs).rig) (commands_both fr (begin ∷ mo)) ∙ all_append (Board z) (commands_of fr) (begin.command ∷ commands_of mo)

  order_on : (k : ℕ) → Own k ≤ Own (k + 1)
  order_on k = (let up = f.rises k in omega (arith, up))

  -- it reports on
  abbrev pub Telling : ℕ → Rig → Type 0
  Telling k r = Reports Oid Base Every (Own k) r

  abbrev pub Limited : ℕ → Rig → Type 0
  Limited k r = Holds Oid Limits r

  pass_on : (t : BoardTurn) (z : List BoardTurn) → Are (t ∷ z) → (took : List Meant) → Turns_to took t z → (next : ℕ) → Holds Oid (Due Every next) (takes_all (Board z) (commands_of took)).rig → (next ≤ Base) ⊎ (next ≤ Own (length z + 1) + Every) → Telling (length (t ∷ z)) t.after.core.board
  pass_on t z are took board next h soon =
      let tick = all_tick (Board z) (commands_of took) ∙ tick_is (board_at m b) pins b entries z are.1 in
      let up = order_on (length z) in
      next_turn Telling took t z board
      (passes_reports Oid Base Every next (Own (length z + 1)) (takes_all (Board z) (commands_of took)).rig h (all_sound (Board z) (commands_of took) (sound_at (board_at m b) pins b entries z are.1)) (omega (arith, tick, up)) soon)

  pub keeps_telling : (t : BoardTurn) (z : List BoardTurn) → Are (t ∷ z) → (took : List Meant) → EachTame (commands_of took) → Turns_to took t z → Telling (length z) (Board z) → Telling (length (t ∷ z)) t.after.core.board
  keeps_telling t z are took tame board s =
      let up = order_on (length z) in
      pass_on t z are took board s.next (takes_due Oid Every s.next (Board z) (commands_of took) tame (record { slot = s.slot; is = s.is; so = (s.every_is, s.report) }))
      (elim s.soon [ inl l ↦ inl l | inr l ↦ inr (omega (arith, l, up)) ])

  pub keeps_limited : (t : BoardTurn) (z : List BoardTurn) → Are (t ∷ z) → (took : List Meant) → EachTame (commands_of took) → Turns_to took t z → Limited (length z) (Board z) → Limited (length (t ∷ z)) t.after.core.board
  keeps_limited t z are took tame board s =
      next_turn Limited took t z board (passes_limits Oid (takes_all (Board z) (commands_of took)).rig (Own (length z + 1)) (takes_limits Oid (Board z) (commands_of took) tame s))

  -- it triggers at no tick before the section's start
  abbrev pub Later : Rig → Type 0
  Later r = Holds Oid (Since Base) r

  pub keeps_later : (t : BoardTurn) (z : List BoardTurn) → Are (t ∷ z) → (took : List Meant) → EachTame (commands_of took) → AllFit (Fits Base) (Own (length z)) (commands_of took) → Turns_to took t z → Later (Board z) → Later t.after.core.board
  keeps_later t z are took tame fit board s =
      let fit_now = subst (λ (n : ℕ). AllFit (Fits Base) n (commands_of took)) (sym (tick_is (board_at m b) pins b entries z are.1)) fit in
      next_turn (λ k r. Later r) took t z board (passes_since Base Oid (takes_all (Board z) (commands_of took)).rig (Own (length z + 1)) (takes_since Base Oid (Board z) (commands_of took) tame fit_now s))

  -- as it takes a command, with all that was queued before
  module _ (front : List Meant) (only : Only Oid (commands_of front)) (has : Has Oid (commands_of front)) where
    slot_there : (z : List BoardTurn) (fr : List Meant) → Are z → Taken z ++ fr ≡ front → (Front z fr).controller.state ≡ Running → HasSlot Oid (Front z fr)
    slot_there z fr are e runs =
        let x = took_staged 0 Oid (commands_of (Taken z)) (Board z) (commands_of fr) (omega arith) few (staged_after (board_at m b) pins b entries z 0 Oid (omega arith) few are) in
        let all : commands_of front ≡ commands_of (Taken z) ++ commands_of fr = ap commands_of (sym e) ∙ commands_both (Taken z) fr in
        let g = grown 0 Oid no_stage (commands_of front) only refl in
        (x.staged runs).there (subst (λ (cs : List Cmd). (stage_from 0 Oid no_stage cs).there ≡ true) all (g.2 (inr has)))

    pub enters_telling : (begin : Meant) → begin.command ≡ cmd.TrsyncStart Oid (low (turn_tick lines start)) Every 2 → start ≤ f.tracked.until → ((k : ℕ) → k < start → Own k < 2 ^ 63)
        → (t : BoardTurn) (z : List BoardTurn) → Are (t ∷ z) → ShutNone (t ∷ z) → start - 251 ≤ length z → length z < start - 1 → ready + 251 ≤ start → (fr mo : List Meant) → Taken z ++ fr ≡ front → EachTame (commands_of mo) → Turns_to (fr ++ begin ∷ mo) t z
        → Telling (length (t ∷ z)) t.after.core.board
    enters_telling begin is until small t z are shut from before low_so fr mo e tame board =
        let runs = runs_then t z (fr ++ begin ∷ mo) are shut board in
        let cut = cut_rig z fr begin mo in
        let ran : (Front z fr).controller.state ≡ Running = ran_before (Front z fr) (begin.command ∷ commands_of mo) (ap (λ (r : Rig). r.controller.state) (sym cut) ∙ runs) in
        let tick = all_tick (Board z) (commands_of fr) ∙ tick_is (board_at m b) pins b entries z are.1 in
        let ahead = timeout_ahead Own lines ready (length z) start f.ticks f.tracked (omega (arith, low_so, from)) until (omega (arith, before)) (omega (arith, from)) (f.rises (length z)) (small (length z) (omega (arith, before))) in
        let later = ahead.later in
        let near : nearest (Front z fr).controller.tick (low (turn_tick lines start)) ≡ Base = ap (λ (n : ℕ). nearest n (low (turn_tick lines start))) tick ∙ ahead.is in
        let begun = start_holds Oid Base (low (turn_tick lines start)) Every 2 (Front z fr) ran (slot_there z fr are.1 e ran) near (omega (arith, tick, later)) f.spaced in
        let done = takes_due Oid Every Base (takes (Front z fr) begin.command).rig (commands_of mo) tame (subst (λ (c : Cmd). Holds Oid (Due Every Base) (takes (Front z fr) c).rig) (sym is) begun) in
        pass_on t z are (fr ++ begin ∷ mo) board Base (subst (Holds Oid (Due Every Base)) (sym cut) done) (inl (omega arith))

    pub enters_later : (clock every reason : ℕ) (begin : Meant) → begin.command ≡ cmd.TrsyncStart Oid clock every reason → (t : BoardTurn) (z : List BoardTurn) → Are (t ∷ z) → ShutNone (t ∷ z) → (fr mo : List Meant) → Taken z ++ fr ≡ front
        → ((s : Slot) → slot_at (Front z fr) Oid ≡ Some s → (y : Sampling) → s.trigger.sampling ≡ Some y → ⊥) → EachTame (commands_of mo) → AllFit (Fits Base) (Own (length z)) (commands_of mo) → Turns_to (fr ++ begin ∷ mo) t z → Later t.after.core.board
    enters_later clock every reason begin is t z are shut fr mo e none tame fit board =
        let runs = runs_then t z (fr ++ begin ∷ mo) are shut board in
        let cut = cut_rig z fr begin mo in
        let ran : (Front z fr).controller.state ≡ Running = ran_before (Front z fr) (begin.command ∷ commands_of mo) (ap (λ (r : Rig). r.controller.state) (sym cut) ∙ runs) in
        let begun : Later (takes (Front z fr) begin.command).rig = subst (λ (c : Cmd). Later (takes (Front z fr) c).rig) (sym is) (start_since Base Oid clock every reason (Front z fr) ran (slot_there z fr are.1 e ran) none) in
        let tick = takes_rig_tick (Front z fr) begin.command ∙ all_tick (Board z) (commands_of fr) ∙ tick_is (board_at m b) pins b entries z are.1 in
        let done = takes_since Base Oid (takes (Front z fr) begin.command).rig (commands_of mo) tame (subst (λ (n : ℕ). AllFit (Fits Base) n (commands_of mo)) (sym tick) fit) begun in
        next_turn (λ k r. Later r) (fr ++ begin ∷ mo) t z board (passes_since Base Oid (takes_all (Board z) (commands_of (fr ++ begin ∷ mo))).rig (Own (length z + 1)) (subst Later (sym cut) done))

    pub enters_limited : (begin : Meant) → SetsFirst Oid (begin.command ∷ []) → (t : BoardTurn) (z : List BoardTurn) → Are (t ∷ z) → ShutNone (t ∷ z) → (fr mo : List Meant) → Taken z ++ fr ≡ front → EachTame (commands_of mo) → Turns_to (fr ++ begin ∷ mo) t z
        → Limited (length (t ∷ z)) t.after.core.board
    enters_limited begin is t z are shut fr mo e tame board =
        let runs = runs_then t z (fr ++ begin ∷ mo) are shut board in
        let cut = cut_rig z fr begin mo in
        let ran : (Front z fr).controller.state ≡ Running = ran_before (Front z fr) (begin.command ∷ commands_of mo) (ap (λ (r : Rig). r.controller.state) (sym cut) ∙ runs) in
        let begun = set (Front z fr) begin.command is ran (slot_there z fr are.1 e ran) in
        next_turn Limited (fr ++ begin ∷ mo) t z board (passes_limits Oid (takes_all (Board z) (commands_of (fr ++ begin ∷ mo))).rig (Own (length z + 1)) (subst (Holds Oid Limits) (sym cut) (takes_limits Oid (takes (Front z fr) begin.command).rig (commands_of mo) tame begun)))
      where
        set : (r : Rig) (c : Cmd) → SetsFirst Oid (c ∷ []) → r.controller.state ≡ Running → HasSlot Oid r → Holds Oid Limits (takes r c).rig
        set r (cmd.TrsyncSetTimeout oid clock) is runs h = set_holds_limits Oid oid clock r is runs h
        set r c is runs h = absurd is

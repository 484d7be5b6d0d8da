-- Since a homing section's board took the command that reads its endstop, its trigger can't trigger from behind the section's trigger tick on.
use Rattle.std.proofs.Common.{◌≡◌, ℕ, ◌+◌, ◌-◌, ◌<◌, ◌≤◌, inl, inr, List, [], ◌∷◌, ◌++◌, length, Option, Some, None, refl, ap, sym, ◌∙◌, subst, arith, append_assoc, length-append}
use Rattle.std.specs.Prelude.{slice_index_or, ◌==◌}
use Rattle.laws_board.proofs.Names.{append_cancel_left, leb_tells, Level, Machine, BoardState, Running, board_tick, clock_of, Clocks, IsValidMachine, axis_at, board_at, clocks_at, turn_tick, Cmd, Entry, Switch, Meant, commands_of, Rig, Slot, acts_running, passes, slot_at, takes, takes_all, AllSound, one_slot, queued_in, first_state, orders, LinkState, trigger_of, Member, Homing, low, Connecting, noted, Came, known_by, cons_same, no_both}
use Rattle.board_trig.specs.declared.sampling.Homing.{Homing as Reading}
use Rattle.board_sim.specs.Rig.{home}
use Rattle.board_sim.proofs.Halting.{sampling_from}
use Rattle.board_sim.proofs.RigStates.{all_tick, passes_state}
use Rattle.board_sim.proofs.Sound.{takes_sound}
use Rattle.board_asking.specs.Machine.{endstop_pins}
use Rattle.laws_board.specs.turns.Turns.{AreBoardTurns, BoardTurn, stands_after}
use Rattle.laws_board.specs.clocks.Runs.{IsInRun}
use Rattle.laws_board.proofs.clocks.Lines.{as_long, run_before}
use Rattle.laws_board.proofs.sections.Lists.{cuts}
use Rattle.laws_homing.specs.home_runs.Sections.{HomesFrom, IsOf, queued_in_turns}
use Rattle.laws_homing.proofs.home_runs.Staging.{commands_both, ran_turns}
use Rattle.laws_homing.proofs.home_runs.Staying.{taken_later}
use Rattle.laws_homing.proofs.home_runs.Whole.{Only, queue_only, run_only}
use Rattle.laws_homing.proofs.clear_boards.Member.{all_sound}
use Rattle.laws_homing.proofs.clear_boards.Standing.{sound_at, tick_is}
use Rattle.laws_homing.proofs.clear_boards.Turned.{ran}
use Rattle.laws_homing.specs.switch_runs.Made.{MakesEndstop}
use Rattle.laws_homing.specs.switch_runs.Reading.{AreFit, IsComplete}
use Rattle.laws_homing.specs.switch_runs.Runs.{IsEndstop, KnewSo, KnowsSo, readings}
use Rattle.laws_homing.specs.switch_runs.Taken.{AreBlind, IsTriggerOf, TookHome}
use Rattle.laws_homing.proofs.switch_runs.Exact.{front_part}
use Rattle.laws_homing.proofs.switch_runs.Firing.{AllTrue, takes_true}
use Rattle.laws_homing.proofs.switch_runs.Homes.{endstop_of, endstop_small, makes_front, run_makes}
use Rattle.laws_homing.proofs.switch_runs.Made.{AnyTick, Whole, only_parts, took_standing, whole_after}
use Rattle.laws_homing.proofs.switch_runs.Ordering.{bring_fit, pin_of}
use Rattle.laws_homing.proofs.switch_runs.Telling.{fit_each, fit_parts}
use Rattle.laws_homing.specs.clear_groups.Resting.{EachTame}
use Rattle.laws_homing.proofs.clear_groups.Resting.{some_same, taken_tame}
use Rattle.laws_homing.proofs.clear_groups.Starting.{starts_either}
use Rattle.laws_homing.specs.fired_runs.Since.{AreNotAhead, AreSoInTurns, BeginsApart, IsFiredAt, ReadsSwitchTrue, ReadsTrue}
use Rattle.laws_homing.proofs.fired_runs.Blind.{blind_parts}
use Rattle.laws_homing.proofs.fired_runs.Old.{tame_both, tame_parts}
use Rattle.laws_homing.proofs.fired_runs.Rested.{earlier_reads, grows, left_of, queue_later, rest_of, run_at}
use Rattle.laws_homing.proofs.fired_runs.Seeing.{queued_fit}
use Rattle.laws_homing.proofs.fired_runs.Under.{takes_under, under_after}
use Rattle.laws_homing.proofs.missed_runs.Boarded.{turned}
use Rattle.laws_homing.proofs.missed_runs.Only.{HomeOf, home_is}
use Rattle.laws_homing.proofs.missed_runs.Waits.{Ends, home_ends, takes_ends, time_ends, turns_ends}
use Rattle.board_sim.proofs.Heeding.{all_append}

-- readings are complete no earlier than they begin
pub complete_late : (levels : List Level) (g : Reading) (now tick : ℕ) → IsComplete levels g now tick → now ≤ tick
complete_late levels g now tick k = sampling_from (g.sample_count == 0) now g levels k.sampling tick k.begun k.complete

module _ (m : Machine) (v : IsValidMachine m) (switches : List Switch) (pins : List (List Level)) (entries : List Entry) (b : ℕ) where
  abbrev First : LinkState
  First = first_state (board_at m b) pins b entries

  abbrev Board : List BoardTurn → Rig
  Board turns = (stands_after First turns).core.board

  abbrev Taken : List BoardTurn → List Meant
  Taken turns = (stands_after First turns).core.taken

  abbrev Oid : ℕ
  Oid = trigger_of m b

  abbrev Own : ℕ → ℕ
  Own k = board_tick (clock_of (board_at m b)) k

  abbrev Run : List Came → List BoardTurn → Type 0
  Run before turns = IsInRun m switches pins entries b before turns

  abbrev Turns : List BoardTurn → Type 0
  Turns turns = AreBoardTurns (clock_of (board_at m b)) First turns

  abbrev E : ℕ → (ℕ → Type 0)
  E = IsEndstop m b

  abbrev Any : ℕ → (ℕ → Type 0)
  Any now tick = Unit {0}

  sounds : (z : List BoardTurn) → Turns z → AllSound (Board z)
  sounds z are = sound_at (board_at m b) pins b entries z are

  -- one of the turns of a run
  pub record Ordered (came : List Came) (turns : List BoardTurn) (order : BoardTurn) (early : List BoardTurn) (start axis : ℕ) (lines : Clocks) : Type 0 where
    pub c : Came
    pub before : List Came
    pub run : Run (c ∷ before) (order ∷ early)
    pub homes : (from s : ℕ) (ms : List Member) → HomesFrom m switches from s ms came → HomesFrom m switches from s ms (c ∷ before)
    pub apart : BeginsApart m switches came → BeginsApart m switches (c ∷ before)
    pub behind : AreNotAhead m switches b came → AreNotAhead m switches b (c ∷ before)
    pub reads : AreSoInTurns (ReadsTrue m switches b) came (rest_of m v switches pins entries b turns) → AreSoInTurns (ReadsTrue m switches b) (c ∷ before) early
    pub sees : AreSoInTurns (ReadsSwitchTrue m switches b) came (rest_of m v switches pins entries b turns) → AreSoInTurns (ReadsSwitchTrue m switches b) (c ∷ before) early
    pub knew : KnewSo m switches b (length early) start axis lines came → KnowsSo m switches b start axis lines c before

  knew_low : (at start axis : ℕ) (lines : Clocks) (came : List Came) → KnewSo m switches b at start axis lines came → at < length came
  knew_low at start axis lines [] k = absurd k
  knew_low at start axis lines (c ∷ before) (inl now) = let same = now.0 in omega (arith, same)
  knew_low at start axis lines (c ∷ before) (inr old) = let l = knew_low at start axis lines before old in omega (arith, l)

  pub ordered : (came : List Came) (up : List BoardTurn) (order : BoardTurn) (early : List BoardTurn) (start axis : ℕ) (lines : Clocks) → Run came (up ++ order ∷ early) → Ordered came (up ++ order ∷ early) order early start axis lines
  ordered [] [] order early start axis lines r = absurd r.both
  ordered [] (t ∷ up) order early start axis lines r = absurd r.both
  ordered (c ∷ before) [] order early start axis lines r =
      let long = as_long m switches b before early (run_before m switches pins entries b c before order early r).both in
      record {
        c = c;
        before = before;
        run = r;
        homes = λ from s ms h. h;
        apart = λ h. h;
        behind = λ h. h;
        reads = λ h. h;
        sees = λ h. h;
        knew = λ k. elim k [ inl now ↦ now.1 | inr old ↦ absurd (let l = knew_low (length early) start axis lines before old in omega (arith, l, long)) ];
      }
  ordered (c ∷ before) (t ∷ up) order early start axis lines r =
      let run = run_before m switches pins entries b c before t (up ++ order ∷ early) r in
      let rest = ordered before up order early start axis lines run in
      let long = as_long m switches b before (up ++ order ∷ early) run.both in
      let size = length-append up (order ∷ early) in
      record {
        c = rest.c;
        before = rest.before;
        run = rest.run;
        homes = λ from s ms h. rest.homes from s ms h.1;
        apart = λ h. rest.apart h.1;
        behind = λ h. rest.behind h.1;
        reads = λ h. rest.reads (earlier_reads m v switches pins entries b (ReadsTrue m switches b) c before (up ++ order ∷ early) run h);
        sees = λ h. rest.sees (earlier_reads m v switches pins entries b (ReadsSwitchTrue m switches b) c before (up ++ order ∷ early) run h);
        knew = λ k. elim k [ inl now ↦ absurd (let same = now.0 in omega (arith, same, long, size)) | inr old ↦ rest.knew old ];
      }

  -- from that turn on no trigger is started
  start_is : (start turn : ℕ) (ms : List Member) (o : Option Homing) (h : Homing) → IsOf start ms o → o ≡ Some h → h.group.start ≡ turn → start ≡ turn
  start_is start turn ms None h k e at = absurd k
  start_is start turn ms (Some g) h k e at = let same = ap (λ (z : Homing). z.group.start) (some_same g h e) in sym k.1 ∙ same ∙ at

  tame_since : (start : ℕ) (ms : List Member) (early later : List BoardTurn) (came : List Came) → Run came (later ++ early) → length early + 250 ≡ start → HomesFrom m switches (length early) start ms came → EachTame (commands_of (queue_later later early).0)
  unfolding queue_later
  tame_since start ms early [] came r at homes = tt
  tame_since start ms early (t ∷ later) [] r at homes = absurd r.both
  tame_since start ms early (t ∷ later) (d ∷ past) r at homes =
      let turns = later ++ early in
      let was = run_before m switches pins entries b d past t turns r in
      let long = as_long m switches b past turns was.both in
      let size = length-append later early in
      let new : EachTame t.control.commands = elim (starts_either m switches pins entries b d past t turns r) [
        | inl tame ↦ tame
        | inr x ↦ absurd (let s = x.1 in let is = start_is start (length past + 251) ms (noted m d.note (known_by m switches past)).homing s.homing (homes.0 (omega (arith, long, size))).1 s.known s.at in omega (arith, is, at, long, size))
      ] in
      tame_both (queue_later later early).0 (queued_in (orders t.control t.batch)) (tame_since start ms early later past was at homes.1) (taken_tame t new)

  -- the turn in which it was taken
  module _ (before : List Came) (turns : List BoardTurn) (r : Run before turns) (start axis tick : ℕ) (ms : List Member) (homes : HomesFrom m switches (start - 250) start ms before) (runs : (Board turns).controller.state ≡ Running)
      (low_axis : axis < length m.axes) (on : (axis_at m axis).board ≡ b) (k : IsTriggerOf m switches pins entries b start axis before turns tick) where
    abbrev T : TookHome First start turns k.turn
    T = k.took

    abbrev Mid : List BoardTurn
    Mid = T.since ++ T.early

    abbrev Home : Cmd
    Home = HomeOf m b k.read.lines start axis

    abbrev Pin : ℕ
    Pin = (axis_at m axis).pin

    abbrev End : ℕ
    End = endstop_of m b (axis_at m axis)

    abbrev Readings : Reading
    Readings = readings m b (axis_at m axis) (low (turn_tick k.read.lines start))

    pub late : Own k.turn ≤ tick
    late = complete_late (slice_index_or pins Pin []) Readings (Own k.turn) tick k.read.complete

    order_run : Ordered before (T.up ++ T.order ∷ T.early) T.order T.early start axis k.read.lines
    order_run = ordered before T.up T.order T.early start axis k.read.lines (subst (Run before) T.ordered_in r)

    at_early : length T.early ≡ start - 250
    at_early = let at = T.set_up in omega (arith, at)

    knows : KnowsSo m switches b start axis k.read.lines order_run.c order_run.before
    knows = order_run.knew (subst (λ (n : ℕ). KnewSo m switches b n start axis k.read.lines before) (sym at_early) k.read.knew)

    run_early : Run order_run.before T.early
    run_early = run_before m switches pins entries b order_run.c order_run.before T.order T.early order_run.run

    open_it : (known_by m switches order_run.before).phase ≡ Connecting → ⊥
    open_it =
        let long = as_long m switches b order_run.before T.early run_early.both in
        let at = at_early in
        ((order_run.homes (start - 250) start ms homes).0 (omega (arith, long, at))).0

    abbrev There : Clocks
    There = clocks_at (noted m order_run.c.note (known_by m switches order_run.before)).clocks b

    command : T.home.command ≡ Home
    command =
        home_is m switches pins entries b order_run.c order_run.before T.up T.order T.early knows.homing order_run.run open_it knows.known T.front T.home T.rest (ap queued_in_turns (sym T.ordered_in) ∙ T.queue) T.ordered T.reads
        ∙ ap (λ (s : ℕ). HomeOf m b There s knows.homing.axis) knows.start_is ∙ ap (λ (i : ℕ). HomeOf m b There start i) knows.axis_is ∙ ap (λ (l : Clocks). HomeOf m b l start axis) (sym knows.lines_are)

    tames : EachTame (commands_of (T.front ++ T.home ∷ T.rest))
    tames =
        let later = T.up ++ T.order ∷ [] in
        let are : turns ≡ later ++ T.early = T.ordered_in ∙ sym (append_assoc T.up (T.order ∷ []) T.early) in
        let q = queue_later later T.early in
        let same : q.0 ≡ T.front ++ T.home ∷ T.rest = append_cancel_left (queued_in_turns T.early) q.0 (T.front ++ T.home ∷ T.rest) (sym q.1 ∙ ap queued_in_turns (sym are) ∙ T.queue) in
        subst (λ (z : List Meant). EachTame (commands_of z)) same
        (tame_since start ms T.early later before (subst (Run before) are r) T.set_up (subst (λ (n : ℕ). HomesFrom m switches n start ms before) (sym at_early) homes))

    run_took : (came : List Came) × Run came (T.took ∷ Mid)
    run_took = run_at m switches pins entries b before T.later (T.took ∷ Mid) (subst (Run before) T.taken_in r)

    run_mid : (came : List Came) × Run came Mid
    run_mid = run_at m switches pins entries b run_took.0 (T.took ∷ []) Mid run_took.1

    abbrev Took : List Meant
    Took = (turned (clock_of (board_at m b)) First T.took Mid run_took.1.turns_are).took

    taken : Taken (T.took ∷ Mid) ≡ Taken Mid ++ Took
    taken = (turned (clock_of (board_at m b)) First T.took Mid run_took.1.turns_are).taken

    behind : (q : List Meant) × (queued_in_turns turns ≡ Taken (T.took ∷ Mid) ++ q)
    behind =
        let left = left_of m v switches pins entries b (T.took ∷ Mid) run_took.1.turns_are in
        let q = queue_later T.later (T.took ∷ Mid) in
        (left.0 ++ q.0, ap queued_in_turns T.taken_in ∙ q.1 ∙ ap (λ (z : List Meant). z ++ q.0) (sym left.1) ∙ append_assoc (Taken (T.took ∷ Mid)) left.0 q.0)

    -- what it took in that turn before the command and behind it
    record Parts : Type 0 where
      front : List Meant
      rest : List Meant
      took : Took ≡ front ++ T.home ∷ rest
      was : Taken Mid ++ front ≡ queued_in_turns T.early ++ T.front
      more : T.rest ≡ rest ++ behind.0

    parts : Parts
    parts =
        let first = queued_in_turns T.early ++ T.front in
        let e : Taken Mid ++ (Took ++ behind.0) ≡ first ++ T.home ∷ T.rest =
        sym (append_assoc (Taken Mid) Took behind.0) ∙ ap (λ (z : List Meant). z ++ behind.0) (sym taken) ∙ sym behind.1 ∙ T.queue ∙ sym (append_assoc (queued_in_turns T.early) T.front (T.home ∷ T.rest)) in
        let not_yet = T.not_yet in
        let done = T.taken in
        let size = ap length taken ∙ length-append (Taken Mid) Took in
        elim (cuts (Taken Mid) (Took ++ behind.0) first (T.home ∷ T.rest) e) [
          | inr p ↦ absurd (let long = ap length p.2 ∙ length-append first (p.0 ∷ p.1) in omega (arith, long, not_yet))
          | inl p ↦ elim (cuts Took behind.0 p.0 (T.home ∷ T.rest) p.2) [
            | inl q ↦ absurd (let long = ap length p.1 ∙ length-append (Taken Mid) p.0 in let longer = ap length q.1 ∙ length-append Took q.0 in omega (arith, long, longer, size, done))
            | inr q ↦
                let heads = cons_same T.home q.0 T.rest (q.1 ++ behind.0) q.3 in
                record { front = p.0; rest = q.1; took = q.2 ∙ ap (λ (z : Meant). p.0 ++ z ∷ q.1) (sym heads.0); was = sym p.1; more = heads.1 }
          ]
        ]

    rests : (EachTame (commands_of parts.rest) × EachTame (commands_of behind.0)) × (AreBlind parts.rest × AreBlind behind.0)
    rests =
        let tame = (tame_parts T.front (T.home ∷ T.rest) tames).1.1 in (
          tame_parts parts.rest behind.0 (subst (λ (z : List Meant). EachTame (commands_of z)) parts.more tame),
          blind_parts parts.rest behind.0 (subst AreBlind parts.more T.sole.1),
        )

    -- the board as it takes the command
    abbrev R : Rig
    R = (takes_all (Board Mid) (commands_of parts.front)).rig

    behind_it : (takes_all (Board Mid) (commands_of Took)).rig ≡ (takes_all (takes R T.home.command).rig (commands_of parts.rest)).rig
    behind_it =
        let tail = T.home ∷ parts.rest in
        ap (λ (cs : List Cmd). (takes_all (Board Mid) cs).rig) (ap commands_of parts.took ∙ commands_both parts.front tail) ∙ all_append (Board Mid) (commands_of parts.front) (commands_of tail)

    board_is : Board (T.took ∷ Mid) ≡ (passes (takes_all (takes R T.home.command).rig (commands_of parts.rest)).rig (Own (length Mid + 1))).rig
    board_is = (turned (clock_of (board_at m b)) First T.took Mid run_took.1.turns_are).board ∙ ap (λ (z : Rig). (passes z (Own (length Mid + 1))).rig) behind_it

    runs_there : R.controller.state ≡ Running
    runs_there =
        let now = ran_turns (clock_of (board_at m b)) First T.later (T.took ∷ Mid) (subst Turns T.taken_in r.turns_are) (subst (λ (z : List BoardTurn). (Board z).controller.state ≡ Running) T.taken_in runs) in
        let all = takes_all (takes R T.home.command).rig (commands_of parts.rest) in
        ran R (T.home.command ∷ commands_of parts.rest) (sym (passes_state all.rig (Own (length Mid + 1))) ∙ ap (λ (z : Rig). z.controller.state) (sym board_is) ∙ now)

    tick_there : R.controller.tick ≡ Own k.turn
    tick_there = all_tick (Board Mid) (commands_of parts.front) ∙ tick_is (board_at m b) pins b entries Mid run_mid.1.turns_are ∙ ap Own T.at

    sound_there : AllSound R
    sound_there = all_sound (Board Mid) (commands_of parts.front) (sounds Mid run_mid.1.turns_are)

    under_there : (s : Slot) → slot_at R Oid ≡ Some s → s.trigger.tick ≤ R.controller.tick
    under_there s at =
        let tick_mid = tick_is (board_at m b) pins b entries Mid run_mid.1.turns_are in
        let same = all_tick (Board Mid) (commands_of parts.front) in
        let all = takes_under (Own (length Mid)) (Board Mid) (commands_of parts.front) (omega (arith, tick_mid)) (under_after m switches pins entries b run_mid.0 Mid run_mid.1) in
        let low = all Oid s at in
        omega (arith, low, same, tick_mid)

    whole : Whole E pins End Oid (stands_after First Mid).core
    whole = whole_after E (board_at m b) pins b entries Mid End Oid run_mid.1.turns_are (endstop_small m b (axis_at m axis) v) (bring_fit m switches pins entries b (λ now. AnyTick) run_mid.0 Mid run_mid.1 (λ x any. tt))

    whole_queue : queued_in_turns turns ≡ (Taken Mid ++ parts.front) ++ (T.home ∷ T.rest)
    whole_queue = T.queue ∙ sym (append_assoc (queued_in_turns T.early) T.front (T.home ∷ T.rest)) ∙ ap (λ (z : List Meant). z ++ T.home ∷ T.rest) (sym parts.was)

    fit_front : AreFit E Any pins parts.front
    fit_front =
        let Fits : List Meant → Type 0 = AreFit E Any pins in
        let all = queued_fit E Any pins turns (bring_fit m switches pins entries b Any before turns r (λ x any. tt)) in
        (fit_parts E Any pins (Taken Mid) parts.front (fit_parts E Any pins (Taken Mid ++ parts.front) (T.home ∷ T.rest) (subst Fits whole_queue all)).0).1

    true_there : AllTrue E AnyTick AnyTick pins R
    true_there = (takes_true E AnyTick AnyTick Any pins (Board Mid) (commands_of parts.front) (λ x any. tt) (fit_each E Any pins parts.front fit_front) whole.0.board).0

    ends_there : slice_index_or R.endstops End None ≡ Some Pin
    ends_there =
        let Sole : List Meant → Type 0 = λ ms. Only Oid (commands_of ms) in
        let only : Sole (Taken Mid ++ parts.front) = (only_parts Oid (Taken Mid ++ parts.front) (T.home ∷ T.rest) (subst Sole whole_queue (queue_only Oid turns (run_only m switches pins entries b before turns v r)))).0 in
        let Makes : List Cmd → Type 0 = λ cs. MakesEndstop End cs in
        let early = makes_front End (commands_of (queued_in_turns T.early)) (commands_of T.front) (run_makes m switches pins entries b axis order_run.before T.early v run_early open_it low_axis on) in
        let made : Makes (commands_of (Taken Mid ++ parts.front)) = subst Makes (sym (commands_both (queued_in_turns T.early) T.front) ∙ ap commands_of (sym parts.was)) early in
        elim ((took_standing End Oid (Taken Mid) parts.front (Board Mid) whole.1 runs_there only).made made) [
          | inl h ↦ h.1 ∙ ap (λ (n : ℕ). Some n) (pin_of (Oid + 1) Pin h.0 (endstop_pins m b) (true_there.ends End h.0 h.1))
          | inr bad ↦ absurd bad
        ]

    rig_is : (takes R T.home.command).rig ≡ home R (Some Pin) Oid (slot_at R Oid) Readings
    rig_is =
        ap (λ (c : Cmd). (takes R c).rig) command ∙ ap (λ (s : BoardState). (acts_running s R Home).rig) runs_there ∙ ap (λ (o : Option ℕ). home R o Oid (slot_at R Oid) Readings) ends_there

    complete_there : IsComplete (slice_index_or R.pins Pin []) Readings R.controller.tick tick
    complete_there =
        let Complete : List (List Level) → ℕ → Type 0 = λ p n. IsComplete (slice_index_or p Pin []) Readings n tick in
        subst (λ (n : ℕ). Complete R.pins n) (sym tick_there) (subst (λ (p : List (List Level)). Complete p (Own k.turn)) (sym true_there.pins_are) k.read.complete)

    ends_taken : Ends tick Oid (Board (T.took ∷ Mid))
    ends_taken =
        let sound_home = takes_sound R T.home.command sound_there in
        let at_home : Ends tick Oid (takes R T.home.command).rig =
        subst (λ (z : Rig). Ends tick Oid z) (sym rig_is) (home_ends tick Oid R Pin (slot_at R Oid) Readings refl under_there sound_there (subst AllSound rig_is sound_home) complete_there) in
        let taken_all = takes_ends tick Oid (takes R T.home.command).rig parts.rest rests.0.0 rests.1.0 sound_home at_home in
        subst (λ (z : Rig). Ends tick Oid z) (sym board_is) (time_ends tick Oid (Own (length Mid + 1)) (takes_all (takes R T.home.command).rig (commands_of parts.rest)).rig taken_all)

    -- behind that turn
    ends_behind : (d l : List BoardTurn) → turns ≡ l ++ (d ++ T.took ∷ Mid) → Ends tick Oid (Board (d ++ T.took ∷ Mid))
    ends_behind d l cut =
        let x = d ++ T.took ∷ Mid in
        let run_x = run_at m switches pins entries b before l x (subst (Run before) cut r) in
        let got = taken_later (clock_of (board_at m b)) First d (T.took ∷ Mid) run_x.1.turns_are in
        let left = left_of m v switches pins entries b x run_x.1.turns_are in
        let q = queue_later l x in
        let same : got.0 ++ (left.0 ++ q.0) ≡ behind.0 =
        append_cancel_left (Taken (T.took ∷ Mid)) (got.0 ++ (left.0 ++ q.0)) behind.0
        (sym (append_assoc (Taken (T.took ∷ Mid)) got.0 (left.0 ++ q.0)) ∙ ap (λ (z : List Meant). z ++ (left.0 ++ q.0)) (sym got.1) ∙ sym (append_assoc (Taken x) left.0 q.0) ∙ ap (λ (z : List Meant). z ++ q.0) left.1 ∙ sym q.1 ∙ ap queued_in_turns (sym cut) ∙ behind.1) in
        let tame = (tame_parts got.0 (left.0 ++ q.0) (subst (λ (z : List Meant). EachTame (commands_of z)) (sym same) rests.0.1)).0 in
        let blind = (blind_parts got.0 (left.0 ++ q.0) (subst AreBlind (sym same) rests.1.1)).0 in
        turns_ends tick Oid (clock_of (board_at m b)) First d (T.took ∷ Mid) got.0 sounds run_x.1.turns_are got.1 tame blind ends_taken

    -- where the trigger can't trigger any more it does so since the trigger tick or an earlier one
    pub fired_by : (reason since : ℕ) (l x : List BoardTurn) → turns ≡ l ++ x → IsFiredAt Oid reason since (Board x) → since ≤ tick
    fired_by reason since l x cut f = elim (leb_tells (length x) k.turn) [
      | inl p ↦
          let early = p.1 in
          let run_x = run_at m switches pins entries b before l x (subst (Run before) cut r) in
          let under = under_after m switches pins entries b run_x.0 x run_x.1 Oid f.slot f.is in
          let on_time = grows m v switches pins entries b (length x) k.turn early in
          let at = f.at in
          let low_tick = late in
          omega (arith, under, on_time, at, low_tick)
      | inr p ↦
          let behind_so = p.1 in
          let at = T.at in
          let d = front_part T.later (T.took ∷ Mid) l x (sym T.taken_in ∙ cut) (omega (arith, behind_so, at)) in
          let Here : List BoardTurn → Type 0 = λ z. Ends tick Oid (Board z) in
          let since_is = f.at in
          elim (subst Here (sym d.1) (ends_behind d.0 l (cut ∙ ap (λ (z : List BoardTurn). l ++ z) d.1))) [
            | inl old ↦ (let low_tick = (old Oid f.slot refl f.is).before in omega (arith, low_tick, since_is))
            | inr w ↦ absurd (no_both w.slot.trigger.can w.still.0 (ap (λ (s : Slot). s.trigger.can) (one_slot (slot_at (Board x) Oid) w.slot f.slot w.is f.is) ∙ f.fired))
          ]
    ]

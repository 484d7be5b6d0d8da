-- A run that ends since no switch closed in a homing section missed its switch.
use Rattle.std.proofs.Common.{◌≡◌, ◌≢◌, ℕ, ◌+◌, ◌-◌, ◌*◌, ◌^◌, ◌<◌, ◌≤◌, List, [], ◌∷◌, ◌++◌, length, map, Option, Some, None, refl, ap, sym, ◌∙◌, subst, arith, length-append, rules}
use Rattle.laws_board.proofs.Names.{∥∥₁_map, Cause, Level, Machine, Running, Home, board_tick, clock_of, turn_ns, lines_tick, IsValidMachine, axis_at, board_at, clocks_at, State, Entry, Scene, Switch, first_state, pins_of, Homing, answer_in, hears_all, Known, Connecting, noted, Run, IsOwn, Came, GoesOn, known_by, Started, Told, MotionTurn, ReactorTurn}
use Rattle.plan_types.specs.declared.cause.Cause.TheVariants as cause
use Rattle.plan_types.proofs.OwnTicks.{rise}
use Rattle.io_core.specs.declared.traits.Files.{Ghosts as Files}
use Rattle.io_core.specs.declared.traits.Sink.{Ghosts as Sink}
use Rattle.gcode_program.specs.Programs.{outcome_of}
use Rattle.trigger_group.specs.declared.order.End.TheVariants as end_of
use Rattle.host_reactor.specs.declared.ordered.Phase.TheVariants as phase
use Rattle.motion_work.specs.Known.{lines_by}
use Rattle.session_lanes.specs.declared.near.Told as near
use Rattle.session_run.specs.declared.tell.Kept.{Kept}
use Rattle.session_run.specs.Boards.{came_from, came_in}
use Rattle.session_run.specs.Runs.{RunsOver}
use Rattle.laws_board.specs.causes.Short.{HaveShortDictionaries}
use Rattle.laws_board.specs.clocks.Near.{LinesKeepUp}
use Rattle.laws_board.specs.clocks.Runs.{IsInRun}
use Rattle.laws_board.specs.plans.Lines.{TookNotes}
use Rattle.laws_board.specs.plans.Planned.{Plans}
use Rattle.laws_board.specs.turns.Turns.{BoardTurn, latest_state, stands_after}
use Rattle.laws_board.proofs.clocks.Lines.{noted_phase}
use Rattle.laws_board.proofs.sections.Boarding.{runs_on}
use Rattle.laws_homing.specs.fired_runs.Since.{AreNotAhead, BeginsApart}
use Rattle.laws_homing.specs.home_parts.Answers.{ArePastConnecting}
use Rattle.laws_homing.specs.home_parts.Known.{KnowsLately, StartInRange}
use Rattle.laws_homing.specs.home_plans.Notes.{CameNotes, WasBegun}
use Rattle.laws_board.specs.plans.Rows.{AreInARow}
use Rattle.laws_homing.specs.missed_runs.Missed.{IsHeardWell, IsMissedOf}
use Rattle.laws_homing.specs.switch_runs.Runs.{KnewSo}
use Rattle.laws_homing.specs.switch_runs.Taken.{TookHome}
use Rattle.laws_homing.proofs.home_parts.Apart.{begin_apart, one_behind, so_begun}
use Rattle.laws_board.proofs.plans.Rows.{row_from}
use Rattle.laws_homing.proofs.home_plans.Knowing.{now_was}
use Rattle.laws_homing.proofs.missed_runs.Known.{knew_at, known_since}
use Rattle.laws_homing.proofs.missed_runs.Relays.{group_missed}
use Rattle.laws_homing.proofs.switch_runs.Exact.{exact_back, knew_tick}
use Rattle.laws_run.specs.clear_homes.Closes.{ClosesAt}
use Rattle.laws_run.specs.missed_switches.Missed.{Misses, NoneShut}
use Rattle.laws_run.specs.home_headline.Near.{AllReadAsTold}
use Rattle.laws_run.specs.run_ends.Ends.{EndsSo}
use Rattle.laws_run.specs.run_headline.Made.{IsMade}
use Rattle.laws_run.proofs.clear_homes.Expired.{missed_of}
use Rattle.laws_run.proofs.clear_homes.Together.{turns_by, turns_same}
use Rattle.laws_run.proofs.clear_runs.Bare.{latest_behind}
use Rattle.laws_run.proofs.clock_ages.Own.{follow_to}
use Rattle.laws_run.proofs.clock_ages.Renews.{renews}
use Rattle.laws_run.proofs.home_headline.Board.{starts_behind}
use Rattle.laws_run.proofs.home_headline.Clocks.{end_knows}
use Rattle.laws_run.proofs.home_headline.Planned.{all_notes}
use Rattle.laws_run.proofs.home_wholes.Axes.{axis_low}
use Rattle.laws_run.proofs.home_wholes.Lines.{By, Came_all, Turns_of, by, connected, knows, lines, range, row, run_of, turn, whole}
use Rattle.laws_run.proofs.home_wholes.Near.{starts_near}
use Rattle.laws_run.proofs.home_wholes.Own.{axis_board}
use Rattle.laws_run.proofs.run_ends.Ending.{ends_so}
use Rattle.laws_run.proofs.run_headline.Boarded.{came_cut, came_long, came_split, lines_renewed, sound_of, took, valid_at}
use Rattle.laws_run.proofs.run_headline.Going.{Lasts, lasts}
use Rattle.laws_run.proofs.run_headline.Joining.{of_sections}
use Rattle.laws_run.proofs.run_headline.Making.{run_made}
use Rattle.laws_run.proofs.run_headline.Runs.{facts}
use Rattle.laws_run.proofs.run_headline.Showing.{Facts, ends_own, few, in_none, long_own, not_told, notes_before, took_notes}
use Rattle.laws_homing.proofs.home_parts.Known.{answer_late}
use Rattle.plan_types.proofs.Facts.{less_or_from}
use Rattle.laws_homing.proofs.home_parts.Controls.{range_at}
use Rattle.laws_homing.proofs.missed_groups.Told.{same_state}

-- a board whose latest state tells of no shutdown runs
last_runs : (m : Machine) (switches : List Switch) (pins : List (List Level)) (entries : List Entry) (b : ℕ) (came : List Came) (turns : List BoardTurn) (last : State)
    → IsInRun m switches pins entries b came turns → latest_state turns ≡ last ∷ [] → last.shut ≡ None → (stands_after (first_state (board_at m b) pins b entries) turns).core.board.controller.state ≡ Running
last_runs m switches pins entries b came turns last p8 p9 p10 = search (rules, runs_on)

module _ (m : Machine) (v : IsValidMachine m) (s : Scene) (ts : List MotionTurn) (p : Plans m (length m.boards) ts) (t : Told) (first : ReactorTurn) (rest : List ReactorTurn) (end : ReactorTurn) (c : Cause) (told : p.seen.told ≡ Some t) (f : Facts m s ts (first ∷ rest) end c)
    (short : HaveShortDictionaries m) (own : IsOwn c) (reads : AllReadAsTold m s ts (first ∷ rest) end) (shut : NoneShut m end) where
  abbrev Heard : List Came
  Heard = Came_all m v s ts p t first rest end c told f short

  abbrev Pins : ℕ → List (List Level)
  Pins b = pins_of (board_at m b) b s.switches

  abbrev Ready : ℕ
  Ready = By m v s ts p t first rest end c told f short

  abbrev Turns : (b : ℕ) → b < length m.boards → List BoardTurn
  Turns b low = Turns_of m v s ts p t first rest end c told f short b low

  long : length Heard ≡ length rest + 1
  long = let size = came_long [] (first ∷ rest) in omega (arith, size)

  -- what came by the last turn
  notes_end : TookNotes (map (λ d. d.note) p.made) (first ∷ (rest ++ end ∷ []))
  notes_end = took_notes m v s ts p end c first rest f (long_own m v s ts p end c first rest f own)

  given : CameNotes p.seen.begun (came_in end ∷ Heard)
  given =
      let Notes : List Came → Type 0 = λ z. CameNotes p.seen.begun z in
      subst Notes (came_split [] (first ∷ rest) end []) (all_notes m p.seen.text p.seen.begun p.made first (rest ++ end ∷ []) p.put notes_end)

  known_end : ((known_by m s.switches Heard).phase ≡ Connecting → ⊥) × ((noted m end.note (known_by m s.switches Heard)).clocks ≡ map (lines_by (length Heard + 276)) t.clocks)
  known_end =
      let r = turn m v s ts p t first rest end c told f short in
      end_knows m v s ts p t first rest end told r f.turns (sound_of m v s ts p t first rest end told r (whole m v s ts p t first rest end c told f short)) notes_end

  knows_all : KnowsLately m s.switches t.clocks (came_in end ∷ Heard)
  knows_all = ((λ past. known_end.1), knows m v s ts p t first rest end c told f short)

  connected_all : ArePastConnecting m s.switches Ready (came_in end ∷ Heard)
  connected_all = ((λ low. known_end.0), connected m v s ts p t first rest end c told f short)

  apart : BeginsApart m s.switches (came_in end ∷ Heard)
  apart =
      let r = turn m v s ts p t first rest end c told f short in
      begin_apart m s.switches ts p Ready t.first r.early (row m v s ts p t first rest end c told f short) Heard (by m v s ts p t first rest end c told f short) (connected m v s ts p t first rest end c told f short) (came_in end) given.0 known_end.0

  module _ (b : ℕ) (low : b < length m.boards) where
    starts : (past : List Started) (x : Started) (later : List Started) (axis : ℕ) → p.seen.begun ≡ past ++ x ∷ later → x.section.kind ≡ Home axis → x.start ≤ length Heard
        → board_tick (clock_of (board_at m b)) (x.start - 1) ≤ lines_tick (clocks_at t.clocks b) (x.start * turn_ns)
    starts past x later axis cut home near =
        let r = turn m v s ts p t first rest end c told f short in
        let size = long in
        starts_behind m v b (length rest) Ready t.first t.clocks p.seen.begun low (lines m v s ts p t first rest end c told f short b low) (row m v s ts p t first rest end c told f short) r.early past x later cut (omega (arith, near, size))

    behind_all : AreNotAhead m s.switches b (came_in end ∷ Heard)
    behind_all =
        let r = turn m v s ts p t first rest end c told f short in
        let early = r.early in
        let l = lines m v s ts p t first rest end c told f short b low in
        let in_row = row m v s ts p t first rest end c told f short in
        let plan = by m v s ts p t first rest end c told f short in (
          one_behind m s.switches b Ready t.first p.seen.begun t.clocks (omega (arith, early)) in_row l.tracked.kept (came_in end) Heard plan.goes_on given knows_all connected_all.0 starts,
          (so_begun m s.switches b ts p Ready t.first t.clocks Heard r.early in_row plan (connected m v s ts p t first rest end c told f short) l.tracked.kept (knows m v s ts p t first rest end c told f short) starts).1,
        )

    last_of : Lasts b rest end (map (λ (x : BoardTurn). x.state) (whole m v s ts p t first rest end c told f short b low).made)
    last_of = search (rules, lasts, took)

    latest : latest_state (Turns b low) ≡ last_of.last ∷ []
    latest = latest_behind [] (whole m v s ts p t first rest end c told f short b low).made last_of.front last_of.last last_of.are

    keeps_up : (turn_at : ℕ) → Ready ≤ turn_at → turn_at ≤ length Heard + 275 → LinesKeepUp (clock_of (board_at m b)) (clocks_at t.clocks b) turn_at
    keeps_up k from to =
        let r = turn m v s ts p t first rest end c told f short in
        let notes = notes_before m v s ts p end c first rest f in
        let size = length-append rest (end ∷ []) in
        let most = few m v s ts p end c first rest f in
        let x = follow_to m b (length rest) Ready (clocks_at t.clocks b)
        (lines_renewed m v s ts p t first rest end told b r (whole m v s ts p t first rest end c told f short b low) low (renews m v short s ts p t first rest end c told f notes (omega (arith, size, most)) b low)) in
        let until = x.1 in
        let all = long in
        record { behind = x.0.behind k from (omega (arith, to, until, all)); ahead = x.0.ahead k from (omega (arith, to, until, all)) }

    heard_well : (start : ℕ) → Ready ≤ start → (turns : List BoardTurn) → turns ≡ Turns b low → IsHeardWell m s.switches (Pins b) s.entries t.clocks b start (came_in end) Heard turns
    heard_well start from turns same =
        let run = run_of m v s ts p t first rest end c told f short b low in
        subst (λ (z : List BoardTurn). IsHeardWell m s.switches (Pins b) s.entries t.clocks b start (came_in end) Heard z) (sym same) (record {
          run = run;
          latest = same_state b end.states ∙ last_of.at ∙ sym latest;
          runs = last_runs m s.switches (Pins b) s.entries b Heard (Turns b low) last_of.last run latest (shut b last_of.last low last_of.at);
          reads = reads b low (whole m v s ts p t first rest end c told f short b low);
          behind = behind_all;
          kept = (lines m v s ts p t first rest end c told f short b low).tracked.kept;
          keeps_up = λ k low_k high. keeps_up k (omega (arith, from, low_k)) high;
        })

  -- the section
  module _ (section : ℕ) (h : Homing) (is : (noted m end.note (known_by m s.switches Heard)).homing ≡ Some h)
      (answers : answer_in (length Heard) h.start (hears_all (noted m end.note (known_by m s.switches Heard)).clocks end.states h).group ≡ Some end_of.NoSwitch) (number : section ≡ h.section) (was : WasBegun p.seen.begun (Some h)) where
    abbrev X : Started
    X = was.1

    abbrev Axis : ℕ
    Axis = was.3

    abbrev B : ℕ
    B = (axis_at m Axis).board

    low_axis : Axis < length m.axes
    low_axis =
        let low = axis_low m (length p.seen.begun) (outcome_of m p.seen.text).deeds was.0 X was.2 Axis (ap (map (λ z. z.section)) (sym was.4) ∙ of_sections m ts p) was.5 in
        let three = v.axes_three in
        omega (arith, low, three)

    there : B < length m.boards
    there = axis_board m m.axes Axis low_axis v.axes

    in_row : (t.first ≤ X.start) × (X.start ≤ X.end)
    in_row = let Row : List Started → Type 0 = λ z. AreInARow t.first z in row_from t.first was.0 X was.2 (subst Row was.4 (row m v s ts p t first rest end c told f short))

    after : Ready + 260 ≤ X.start
    after = let r = turn m v s ts p t first rest end c told f short in let early = r.early in let at = in_row.0 in omega (arith, early, at)

    late_enough : h.start ≤ length Heard
    late_enough = answer_late (length Heard) h.start (hears_all (noted m end.note (known_by m s.switches Heard)).clocks end.states h).group end_of.NoSwitch answers

    abbrev Family : ℕ → List BoardTurn
    Family i = turns_by i (length m.boards) Turns (less_or_from i (length m.boards))

    same_turns : (b : ℕ) (low : b < length m.boards) → Family b ≡ Turns b low
    same_turns b low = turns_same b (length m.boards) Turns (less_or_from b (length m.boards)) low

    abbrev Missed : ℕ → ℕ → ℕ → List BoardTurn → Type 0
    Missed start axis last turns =
        (until : ℕ) × IsMissedOf m s.switches (Pins (axis_at m axis).board) s.entries (axis_at m axis).board start axis Heard turns until
        × (lines_tick (clocks_at t.clocks (axis_at m axis).board) ((last + 1) * turn_ns) ≤ until)

    missed : Missed X.start Axis X.last (Turns B there)
    missed =
        let begins = was.6 in
        let far = after in
        let axis_is = was.9 in
        let board : (axis_at m h.axis).board < length m.boards = subst (λ (i : ℕ). (axis_at m i).board < length m.boards) (sym axis_is) there in
        let axis_so : h.axis < length m.axes = subst (λ (i : ℕ). i < length m.axes) (sym axis_is) low_axis in
        let all : Missed h.start h.axis h.group.last (Family (axis_at m h.axis).board) =
        group_missed m v s.switches Pins s.entries t.clocks Ready (came_in end) Heard Family h is (omega (arith, begins, far)) apart knows_all connected_all (λ b low. heard_well b low h.start (omega (arith, begins, far)) (Family b) (same_turns b low)) axis_so board answers in
        let one : Missed X.start h.axis h.group.last (Family (axis_at m h.axis).board) = subst (λ (n : ℕ). Missed n h.axis h.group.last (Family (axis_at m h.axis).board)) begins all in
        let two : Missed X.start h.axis X.last (Family (axis_at m h.axis).board) = subst (λ (n : ℕ). Missed X.start h.axis n (Family (axis_at m h.axis).board)) was.10 one in
        let three : Missed X.start Axis X.last (Family B) = subst (λ (i : ℕ). Missed X.start i X.last (Family (axis_at m i).board)) axis_is two in
        subst (λ (z : List BoardTurn). Missed X.start Axis X.last z) (same_turns B there) three

    -- where its command was taken before its start
    exact : (turn_at : ℕ) → TookHome (first_state (board_at m B) (Pins B) B s.entries) X.start (Turns B there) turn_at → turn_at < X.start → (tick : ℕ) → ClosesAt m s t.clocks X Axis tick
        → lines_tick (clocks_at t.clocks B) ((X.last + 1) * turn_ns) ≤ tick
    exact turn_at k low tick hit =
        let r = turn m v s ts p t first rest end c told f short in
        let l = lines m v s ts p t first rest end c told f short B there in
        let rows = row m v s ts p t first rest end c told f short in
        let size = long in
        let begins = was.6 in
        let reached = late_enough in
        let own_tick : ℕ → ℕ = λ n. board_tick (clock_of (board_at m B)) n in
        let base = lines_tick (clocks_at t.clocks B) (X.start * turn_ns) in
        let within : X.start ≤ length rest + 1 = omega (arith, size, reached, begins) in
        let order = starts_behind m v B (length rest) Ready t.first t.clocks p.seen.begun there l rows r.early was.0 X was.2 was.4 within in
        let near = starts_near m v B (length rest) Ready t.first t.clocks p.seen.begun there l rows r.early was.0 X was.2 was.4 within in
        let at = in_row.0 in
        let early = r.early in
        let since = known_since m v s.switches (Pins B) s.entries B (came_in end) Heard (Turns B there) (run_of m v s ts p t first rest end c told f short B there) apart h is in
        let knew_h = knew_at m s.switches B (h.start - 251) (h.start - 250) h.start h.axis _ Heard (omega arith) (omega (arith, reached, begins, at, early)) since.homes.1 since.axes.1 in
        let Knew : ℕ → ℕ → Type 0 = λ n i. KnewSo m s.switches B (n - 250) n i knew_h.0 Heard in
        let knew : Knew X.start Axis = subst (λ (n : ℕ). Knew n Axis) begins (subst (λ (i : ℕ). Knew h.start i) was.9 knew_h.1) in
        let lines_are = knew_tick m s.switches B Ready (X.start - 250) X.start Axis knew_h.0 t.clocks Heard (omega arith) (omega (arith, at, early)) l.tracked.kept (connected m v s ts p t first rest end c told f short) (knows m v s ts p t first rest end c told f short) knew in
        let In : List Started → Type 0 = λ z. StartInRange (clocks_at t.clocks B) z in
        let small : base < 2 ^ 64 = range_at (clocks_at t.clocks B) was.0 X was.2 (subst In was.4 (range m v s ts p t first rest end c told f short B there)) in
        let freq = (valid_at m.boards B there v.boards).freq.low in
        let at_turn = k.at in
        let set_up = k.set_up in
        let long_since = length-append k.since k.early in
        let clock = clock_of (board_at m B) in
        let up : own_tick turn_at ≤ own_tick (X.start - 1) = rise clock.start clock.freq turn_at (X.start - 1) clock.drift (omega (arith, low)) in
        let from : own_tick (X.start - 250) ≤ own_tick turn_at = rise clock.start clock.freq (X.start - 250) turn_at clock.drift (omega (arith, at_turn, set_up, long_since)) in
        let complete = exact_back m B X.start (axis_at m Axis) knew_h.0 (Pins B) base (own_tick turn_at) tick (omega (arith, freq)) lines_are small (omega (arith, up, order)) (omega (arith, near, from)) hit in
        let late = missed.1.none tick (record { turn = turn_at; took = k; read = record { lines = knew_h.0; knew = knew; complete = complete } }) in
        let behind_last = missed.2 in
        omega (arith, late, behind_last)

    pub misses : Misses m s p.seen ts (first ∷ rest) end section
    misses = record {
      told = t;
      told_is = told;
      past = was.0;
      x = X;
      later = was.2;
      axis = Axis;
      cut = was.4;
      number = number ∙ was.8;
      home = was.5;
      board = B;
      board_is = refl;
      there = there;
      w = whole m v s ts p t first rest end c told f short B there;
      until = missed.0;
      is = missed.1;
      late = missed.2;
      exact = λ turn_at took_home low. record { told = t; told_is = told; past = was.0; x = X; later = was.2; axis = Axis; cut = was.4; number = number ∙ was.8; home = was.5; late = exact turn_at took_home low };
    }

-- a run
module _ (m : Machine) (v : IsValidMachine m) (s : Scene) (ts : List MotionTurn) (p : Plans m (length m.boards) ts) (end : ReactorTurn) (c : Cause) (own : IsOwn c) (section : ℕ) (e : c ≡ cause.NoSwitch section) where
  so_in : (rs : List ReactorTurn) → Facts m s ts rs end c → EndsSo m (noted m end.note (known_by m s.switches (came_from [] rs))) (length (came_from [] rs)) end.states (cause.NoSwitch section)
  so_in rs f =
      let came = came_from [] rs in
      let Ends : Known → Type 0 = λ q. EndsSo m (noted m end.note q) (length came) end.states c in
      let By_cause : Cause → Type 0 = λ d. EndsSo m (noted m end.note (known_by m s.switches came)) (length came) end.states d in
      subst By_cause e (subst Ends (f.own own).0 (ends_so m s.switches f.known (length came) end.states end.note c (f.own own).1 f.other (sym (ends_own m s ts rs end c f own))))

  -- the section that is known in the last turn was begun
  record Known_last (first : ReactorTurn) (rest : List ReactorTurn) : Type 0 where
    homing : Homing
    is : (noted m end.note (known_by m s.switches (came_from [] (first ∷ rest)))).homing ≡ Some homing
    answers : answer_in (length (came_from [] (first ∷ rest))) homing.start (hears_all (noted m end.note (known_by m s.switches (came_from [] (first ∷ rest)))).clocks end.states homing).group ≡ Some end_of.NoSwitch
    number : section ≡ homing.section
    was : WasBegun p.seen.begun (Some homing)

  known_last : (first : ReactorTurn) (rest : List ReactorTurn) → Facts m s ts (first ∷ rest) end c → Known_last first rest
  known_last first rest f =
      let came = came_from [] (first ∷ rest) in
      let n = noted m end.note (known_by m s.switches came) in
      let x = missed_of n.clocks (length came) section end.states n.homing (so_in (first ∷ rest) f).1 in
      let w = f.boards 0 first rest v.boards_some refl in
      let Notes : List Came → Type 0 = λ z. CameNotes p.seen.begun z in
      let notes = subst Notes (came_split [] (first ∷ rest) end []) (all_notes m p.seen.text p.seen.begun p.made first (rest ++ end ∷ []) p.put (took_notes m v s ts p end c first rest f (long_own m v s ts p end c first rest f own))) in
      let goes = subst (λ (z : List Came). GoesOn m s.switches z) (came_cut [] first rest end) w.goes_on in
      record {
        homing = x.0;
        is = x.1;
        answers = x.2;
        number = x.3;
        was = subst (λ (z : Option Homing). WasBegun p.seen.begun z) x.1 (now_was m s.switches p.seen.begun (came_in end) came goes notes);
      }

  pub begun_some : (first : ReactorTurn) (rest : List ReactorTurn) → Facts m s ts (first ∷ rest) end c → p.seen.begun ≢ []
  begun_some first rest f none = let x = (known_last first rest f).was in in_none x.0 x.1 x.2 p.seen.begun none x.4

  module _ (short : HaveShortDictionaries m) (shut : NoneShut m end) where
    run_by : (rs : List ReactorTurn) → Facts m s ts rs end c → AllReadAsTold m s ts rs end → Misses m s p.seen ts rs end section
    run_by [] f reads =
        let so = so_in [] f in
        let bad : (known_by m s.switches []).phase ≡ phase.Running = sym (noted_phase m end.note (known_by m s.switches [])) ∙ so.0 in
        absurd (cc)
    run_by (first ∷ rest) f reads = by_told p.seen.told refl (known_last first rest f)
      where
        by_told : (o : Option Told) → p.seen.told ≡ o → Known_last first rest → Misses m s p.seen ts (first ∷ rest) end section
        by_told None told x = absurd (begun_some first rest f (not_told m v s ts p end c told))
        by_told (Some t) told x = misses m v s ts p t first rest end c told f short own reads shut section x.homing x.is x.answers x.number x.was

pub run_missed : {F S : Type 0} (f : Files F) (o : Sink S) (m : Machine) (s : Scene) (name : List ℕ) (files files' : F) (out out' : S) (kept kept' : Kept) (t : near.Told Run) (r : RunsOver f o m s name files out kept t files' out' kept') → IsValidMachine m → HaveShortDictionaries m → (text : List ℕ)
    → f.told files name ≡ Some text → kept.at ≡ 0 → AllReadAsTold m s r.runs.0 r.runs.1 r.runs.2 → NoneShut m r.runs.2
    → ∥ ((made : IsMade m s r.runs.0 r.runs.1) × (made.plans.seen.text ≡ text) × ((section : ℕ) → t.cause ≡ cause.NoSwitch section → Misses m s made.plans.seen r.runs.0 r.runs.1 r.runs.2 section)) ∥₁
run_missed f o m s name files files' out out' kept kept' t r v short text told at reads shut =
    ∥∥₁_map (run_made f o m s name files files' out out' kept kept' t r text told at) (λ w. (
      w.0,
      w.1,
      λ section e.
          run_by m v s r.runs.0 w.0.plans r.runs.2 t.cause (subst IsOwn (sym e) tt) section e short shut r.runs.1
          (facts f o m s name files files' out out' kept kept' t r (λ g. let h : cause.NoSwitch section ≡ cause.Memory = sym e ∙ g in cc)) reads,
    ))

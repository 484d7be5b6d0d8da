-- In a scene without entries each report of a board is read true, and each board takes the set-ups in time, in a whole run whose boards are all timely.
use Rattle.std.proofs.Common.{◌≡◌, ◌≢◌, ◌⊎◌, ℕ, ◌+◌, ◌<◌, ◌≤◌, ◌==◌, Bool, true, cond, List, [], ◌∷◌, ◌++◌, All, length, Option, Some, None, refl, ap, sym, ◌∙◌, subst, arith, inl, inr, length-append}
use Rattle.laws_board.proofs.Names.{∥∥₁_map, eqb_tells, leb_tells, length-map, All-nil, Cause, Level, Machine, Running, Home, Moves, board_tick, clock_of, Clocks, IsValidMachine, board_at, clocks_at, Scene, Switch, new_world, AreTurns, pins_of, LinkState, Orders, Homing, noted, Run, Came, GoesOn, known_by, Started, Told, MotionTurn, ReactorTurn, parts_on}
use Rattle.std.proofs.Props.{props}
use Rattle.plan_types.specs.declared.cause.Cause.TheVariants as cause
use Rattle.plan_types.specs.Clock.{run_turns}
use Rattle.io_core.specs.declared.traits.Files.{Ghosts as Files}
use Rattle.io_core.specs.declared.traits.Sink.{Ghosts as Sink}
use Rattle.host_reactor.specs.Runs.{HaveStates}
use Rattle.laws_board.specs.turns.Turns.{BoardTurn, latest_state, stands_after}
use Rattle.laws_board.specs.clocks.Runs.{IsInRun, UnitsFit, orders_in}
use Rattle.laws_board.proofs.clocks.Lines.{as_long}
use Rattle.laws_board.proofs.clocks.Orders.{all_limits}
use Rattle.session_lanes.specs.declared.near.Told as near
use Rattle.session_run.specs.declared.tell.Kept.{Kept}
use Rattle.session_run.specs.Boards.{came_from, came_in}
use Rattle.session_run.specs.Runs.{RunsOver}
use Rattle.laws_board.specs.sections.Events.{AreOwn}
use Rattle.laws_board.specs.sections.Homes.{IsHomeRun}
use Rattle.laws_board.specs.sections.Links.{steps_of, turns_told}
use Rattle.laws_board.specs.sections.Parts.{AreTracked}
use Rattle.laws_board.specs.sections.Timely.{AllTimely}
use Rattle.laws_board.specs.plans.Homed.{stops_of}
use Rattle.laws_board.specs.plans.Planned.{Plans, put_of}
use Rattle.laws_board.proofs.orders.Going.{own_on}
use Rattle.laws_run.specs.lanes.Boards.{IsInWhole, turns_behind, orders_of, states_of}
use Rattle.laws_run.specs.lanes.Turns.{came_before}
use Rattle.laws_run.specs.home_headline.Near.{AllTakeNear, KeepsUp}
use Rattle.laws_run.specs.home_wholes.Own.{AllSwitchesReadTrue, AllTakeInTime}
use Rattle.laws_run.specs.run_headline.Timely.{AllAreTimely, link_of, IsTimelyIn}
use Rattle.laws_run.proofs.run_headline.Boarded.{Ready, came_cut, lines_renewed, valid_at}
use Rattle.laws_run.proofs.run_headline.Fronts.{limited, one_less}
use Rattle.laws_run.proofs.run_headline.Cutting.{run_front, same_front}
use Rattle.laws_run.proofs.run_headline.Making.{run_made}
use Rattle.laws_run.proofs.run_headline.Plain.{AllMoves, all_moves, known_none, noted_none}
use Rattle.laws_run.proofs.run_headline.Runs.{facts}
use Rattle.laws_run.proofs.run_headline.Showing.{Facts, came_long, not_told, notes_before, untold_alone}
use Rattle.laws_homing.specs.clear_groups.Runs.{BeginsWell, IsClearRun, IsTracked}
use Rattle.laws_homing.specs.clear_groups.Sections.{IsPlain, KnowsLines, turns_of}
use Rattle.laws_homing.specs.fired_runs.Since.{AllRead, AreSoInTurns, ReadsSwitchTrue, ReadsTrue}
use Rattle.laws_homing.specs.home_parts.Answers.{TakeSetUps}
use Rattle.laws_homing.specs.home_parts.Cuts.{cuts_on}
use Rattle.laws_homing.proofs.clear_groups.Joined.{join, tracked_later}
use Rattle.laws_homing.proofs.missed_groups.Reading.{runs_read}
use Rattle.laws_board.specs.causes.Short.{HaveShortDictionaries}
use Rattle.laws_run.proofs.clear_homes.Bounds.{starts_by}
use Rattle.laws_run.proofs.clear_homes.Fitting.{clear_fits, timed_all, timed_few}
use Rattle.laws_run.proofs.clear_homes.Lines.{lines_known, tracked_by}
use Rattle.laws_run.proofs.clear_homes.Opened.{wells}
use Rattle.laws_run.proofs.clear_homes.Running.{none_before}
use Rattle.laws_run.proofs.clock_ages.Own.{Own, follow_to}
use Rattle.laws_run.proofs.clock_ages.Renews.{renews}
use Rattle.laws_run.proofs.home_headline.Board.{homing_so}
use Rattle.laws_run.proofs.home_headline.Clear.{clear_set_ups}
use Rattle.laws_run.proofs.home_headline.Ranges.{own_small}
use Rattle.laws_run.proofs.home_wholes.Lines as whole
use Rattle.laws_run.proofs.run_ends.Unstopped.{not_before}
use Rattle.laws_run.specs.home_headline.Little.{SendsNear}
use Rattle.laws_board.specs.sections.Runs.{AreSpilled}
use Rattle.laws_run.proofs.home_headline.Following.{timely_by}

-- what came in some turns, of which there is a last one
came_some : (before : List Came) (t : ReactorTurn) (ts : List ReactorTurn) → (y : Came) × (past : List Came) × (came_from before (t ∷ ts) ≡ y ∷ past)
came_some before t [] = (came_in t, before, refl)
came_some before t (u ∷ us) = came_some (came_in t ∷ before) u us

module _ (m : Machine) (v : IsValidMachine m) (s : Scene) (ts : List MotionTurn) (p : Plans m (length m.boards) ts) (t : Told) (first : ReactorTurn) (rest : List ReactorTurn) (end : ReactorTurn) (c : Cause) (told : p.seen.told ≡ Some t) (f : Facts m s ts (first ∷ rest) end c)
    (short : HaveShortDictionaries m) (clear : s.entries ≡ []) where
  abbrev Heard : List Came
  Heard = whole.Came_all m v s ts p t first rest end c told f short

  abbrev Turn : Ready m v s ts p t first rest end told
  Turn = whole.turn m v s ts p t first rest end c told f short

  abbrev From : ℕ
  From = whole.By m v s ts p t first rest end c told f short

  abbrev Pins : ℕ → List (List Level)
  Pins b = pins_of (board_at m b) b s.switches

  abbrev Whole : ℕ → Type 0
  Whole b = IsInWhole m s.switches b (clock_of (board_at m b)) (link_of m s b) ts first (rest ++ end ∷ [])

  abbrev TimedIn : ℕ → List Orders → Type 0
  TimedIn b os = (last : LinkState) × (link : AreTurns (clock_of (board_at m b)) 0 os (link_of m s b) last) × AllTimely (new_world (board_at m b) (Pins b)) (steps_of (clock_of (board_at m b)) 0 os (link_of m s b) last link)

  abbrev TimelyIn : (b : ℕ) → Whole b → Type 0
  TimelyIn b w = AllTimely (new_world (board_at m b) (Pins b)) (steps_of (clock_of (board_at m b)) 0 (orders_of w.made) (link_of m s b) (stands_after (link_of m s b) (turns_behind [] w.made))
      (turns_told (clock_of (board_at m b)) 0 (orders_of w.made) (states_of w.made) (link_of m s b) (stands_after (link_of m s b) (turns_behind [] w.made)) w.told))

  -- no unit is sent to it more than 10,700 turns late
  abbrev SentIn : ℕ → Type 0
  SentIn b = AreSpilled (length p.made) 10_700 (parts_on m t.clocks p.seen.begun b)

  -- a board in the run
  record OnRun (b : ℕ) (turns : List BoardTurn) : Type 0 where
    run : IsInRun m s.switches (Pins b) s.entries b Heard turns
    home : IsHomeRun (Own m b (length rest)) (clocks_at t.clocks b) (board_at m b).freq (board_at m b).slots From (stops_of p.seen.begun) (cuts_on m t.clocks (length p.made) p.seen.begun b) (orders_in turns)
    timed : TimedIn b (orders_in turns) ⊎ SentIn b

  on_run : (b : ℕ) → b < length m.boards → (w : Whole b) → TimelyIn b w ⊎ SentIn b → OnRun b (turns_behind [] w.made)
  on_run b h w timely =
      let x = homing_so m v s ts p t first rest end told (length p.made) f.ahead b f.words_left w Turn h f.turns f.words (whole.notes m v s ts p t first rest end c told f short) (omega arith) (inr (omega arith)) (whole.most m v s ts p t first rest end c told f short)
      (whole.lines m v s ts p t first rest end c told f short b h) (whole.sound m v s ts p t first rest end c told f short) (whole.formed m v s ts p t first rest end c told f short) (whole.range m v s ts p t first rest end c told f short b h) in
      let last = stands_after (link_of m s b) (turns_behind [] w.made) in
      let link = turns_told (clock_of (board_at m b)) 0 (orders_of w.made) (states_of w.made) (link_of m s b) last w.told in
      let Timed : Type 0 = TimedIn b (orders_in (turns_behind [] w.made)) ⊎ SentIn b in
      let timed : Timed = elim timely [ inl a ↦ (let all : TimedIn b (orders_of w.made) = (last, link, a) in inl (subst (TimedIn b) (sym w.in_order) all)) | inr sent ↦ inr sent ] in
      record { run = x.run; home = x.home; timed = timed }

  -- turns of all boards
  module _ (turns : (b : ℕ) → b < length m.boards → List BoardTurn) (on : (b : ℕ) (h : b < length m.boards) → OnRun b (turns b h)) (have : HaveStates m Heard) (y : Came) (before : List Came) (are : Heard ≡ y ∷ before) where
    abbrev RunOf : ℕ → List Came → List BoardTurn → Type 0
    RunOf b came z = IsInRun m s.switches (Pins b) s.entries b came z

    record Cut (b : ℕ) (h : b < length m.boards) : Type 0 where
      x : BoardTurn
      past : List BoardTurn
      is : turns b h ≡ x ∷ past
      run : RunOf b (y ∷ before) (x ∷ past)
      old : RunOf b before past

    cut : (b : ℕ) (h : b < length m.boards) → Cut b h
    cut b h =
        let l = one_less m v s.switches (Pins b) s.entries b y before (turns b h) (subst (λ (z : List Came). RunOf b z (turns b h)) are (on b h).run) in
        record { x = l.0; past = l.1; is = l.2; run = l.3; old = l.4 }

    size : length before ≡ length rest
    size = (let long = came_long [] (first ∷ rest) in let a = ap length are in omega (arith, long, a))

    many : (b : ℕ) (h : b < length m.boards) → length (cut b h).past ≡ length before
    many b h = (let a = as_long m s.switches b before (cut b h).past (cut b h).old.both in omega (arith, a))

    fits : (b : ℕ) (h : b < length m.boards) → UnitsFit (turns b h) × ((stands_after (link_of m s b) (cut b h).past).core.board.controller.state ≡ Running)
    fits b h =
        let k = cut b h in
        let d = board_at m b in
        let valid = valid_at m.boards b h v.boards in
        let long = ap length k.is in
        let short_so = many b h in
        let few = size in
        let own_is : (n : ℕ) → n ≤ length (turns b h) → AreOwn d n (Own m b (length rest)) = (λ n l. own_on d n (length rest + 349) valid (omega (arith, l, long, short_so, few))) in
        let formed = whole.formed m v s ts p t first rest end c told f short in
        let by = whole.by m v s ts p t first rest end c told f short in
        let connected = whole.connected m v s ts p t first rest end c told f short in
        let x : UnitsFit (k.x ∷ k.past) × ((stands_after (link_of m s b) k.past).core.board.controller.state ≡ Running) =
        clear_fits m v s.switches (Pins b) s.entries clear b From (length p.made) (Own m b (length rest)) ts p t told Turn.early formed Heard (turns b h) (on b h).run by connected own_is (on b h).home (elim (on b h).timed [
          | inl all ↦ timed_all m v s.switches (Pins b) s.entries clear b From (length p.made) (Own m b (length rest)) ts p t told Turn.early formed Heard (turns b h) (on b h).run by connected own_is (on b h).home all
          | inr sent ↦ timed_few m v s.switches (Pins b) s.entries clear b From (length p.made) (Own m b (length rest)) ts p t told Turn.early formed Heard (turns b h) (on b h).run by connected own_is (on b h).home 10_700 (omega arith) sent
        ]) y before k.x k.past are k.is k.run in
        (subst UnitsFit (sym k.is) x.0, x.1)

    -- so each takes the set-up of each homing section in time
    takes : (b : ℕ) (h : b < length m.boards) → TakeSetUps m (Pins b) s.entries b p.seen.begun (turns b h)
    takes b h =
        let early = Turn.early in
        clear_set_ups m (Pins b) s.entries b (turns b h) clear (on b h).run.turns_are (limited m v s.switches (Pins b) s.entries b Heard (turns b h) (on b h).run (fits b h).0) t.first p.seen.begun (omega (arith, early))
        (whole.row m v s ts p t first rest end c told f short)

    plain : (b : ℕ) (h : b < length m.boards) → IsPlain m s.switches (Pins b) s.entries b before (cut b h).past
    plain b h =
        let k = cut b h in
        let d = board_at m b in
        let valid = valid_at m.boards b h v.boards in
        let short_so = many b h in
        let few = size in
        let fit = fits b h in
        let limits = all_limits m s.switches (Pins b) s.entries b before k.past v k.old (not_before m s.switches y before k.run.goes_on.0) (subst UnitsFit k.is fit.0).1 in
        let most = whole.most m v s ts p t first rest end c told f short in
        let small = p.small in
        let made = length-map p.made put_of in
        let last = length-append rest (end ∷ []) in
        let range = own_small d valid (length k.past) (omega (arith, short_so, few, most, small, made, last)) in
        record { run = k.old; limits = limits; none_shut = none_before d (Pins b) b s.entries k.past k.old.turns_are fit.1; in_range = omega (arith, range) }

    -- the clock lines
    abbrev Lines : ℕ → ℕ → Clocks
    Lines new_world b = clocks_at t.clocks b

    abbrev Till : ℕ
    Till = length rest + 276

    tracks : (begin b : ℕ) → b < length m.boards → (k : AreTracked (λ n. board_tick (clock_of (board_at m b)) n) (Lines begin b) (From + 1)) × (Till ≤ k.until) × (k.until < run_turns)
    tracks begin b h =
        let own : ℕ → ℕ = λ n. board_tick (clock_of (board_at m b)) n in
        let most = whole.most m v s ts p t first rest end c told f short in
        let last = length-append rest (end ∷ []) in
        let renewed = renews m v short s ts p t first rest end c told f (whole.notes m v s ts p t first rest end c told f short) (omega (arith, most, last)) b h in
        let l = follow_to m b (length rest) From (clocks_at t.clocks b) (lines_renewed m v s ts p t first rest end told b Turn (whole.whole m v s ts p t first rest end c told f short b h) h renewed) in
        let low = l.1 in
        let late = tracked_later own (clocks_at t.clocks b) From (From + 1) (omega arith) l.0 in
        let same = late.1 in
        let z = tracked_by own (clocks_at t.clocks b) (From + 1) Till late.0 (omega (arith, low, same)) in
        let is = z.1 in
        let few = p.small in
        let made = length-map p.made put_of in
        (z.0, omega (arith, is), omega (arith, is, few, made, most, last))

    tracked : (past : List Started) (x : Started) (later : List Started) (axis : ℕ) → p.seen.begun ≡ past ++ x ∷ later → x.section.kind ≡ Home axis
        → (x.start ≤ x.last) × ((b : ℕ) → b < length m.boards → IsTracked m b (Lines x.start b) (From + 1) x.last Till)
    tracked past x later axis cut_is home = (starts_by m ts p t told past x later axis cut_is home, λ b h. (let k = tracks x.start b h in let l = k.1 in (k.0, omega (arith, l), k.2)))

    is_clear : (all : List (ℕ → BoardTurn)) → length all ≡ length before → ((b : ℕ) (h : b < length m.boards) → turns_of b all ≡ (cut b h).past) → IsClearRun m s.switches Pins s.entries Lines (From + 1) Till y before all
    is_clear all long same =
        let by = whole.by m v s ts p t first rest end c told f short in
        let sound = whole.sound m v s ts p t first rest end c told f short in
        let connected = whole.connected m v s ts p t first rest end c told f short in
        let knows = whole.knows m v s ts p t first rest end c told f short in
        let well = wells m s.switches ts p Lines From Till t.first Turn.early (whole.row m v s ts p t first rest end c told f short) tracked Heard by connected [] Heard refl by.goes_on by.notes connected in
        record {
          goes_on = (cut 0 v.boards_some).run.goes_on.1;
          long = long;
          have = subst (λ (z : List Came). HaveStates m z) are have;
          begins = subst (λ (z : List Came). BeginsWell m s.switches Lines (From + 1) Till z) are well;
          knows = λ begin. subst (λ (z : List Came). KnowsLines m s.switches begin (Lines begin) z) are (lines_known m s.switches t.clocks begin Heard sound.clocks_are.count sound.kept knows);
          plain = λ b h. subst (λ (z : List BoardTurn). IsPlain m s.switches (Pins b) s.entries b before z) (sym (same b h)) (plain b h);
          states = λ b h. (cut b h).run.both.0 ∙ ap latest_state (sym (same b h));
        }

    reads : (b : ℕ) (h : b < length m.boards) → AllRead (ReadsTrue m s.switches b) Heard (turns b h) × AllRead (ReadsSwitchTrue m s.switches b) Heard (turns b h)
    reads b h =
        let some = v.boards_some in
        let n = length m.boards in
        let k = cut b h in
        let d = (cut 0 some).x in
        let all = join n (length before) d (λ i. past_by i (is_low i n)) (λ i low. ap length (past_same i (is_low i n) low) ∙ many i low) in
        let same : (i : ℕ) (low : i < n) → turns_of i all.0 ≡ (cut i low).past = (λ i low. all.2 i low ∙ past_same i (is_low i n) low) in
        let few = size in
        let z = runs_read m v s.switches Pins s.entries clear Lines (From + 1) Till tracks y before all.0 (is_clear all.0 all.1 same) (omega (arith, few)) b h in
        let To : (Came → List Came → List BoardTurn → Type 0) → List BoardTurn → Type 0 = λ R us. AreSoInTurns R (y ∷ before) us in
        (whole_of (ReadsTrue m s.switches b) (turns b h) k.x k.past k.is (subst (To (ReadsTrue m s.switches b)) (same b h) z.0), whole_of (ReadsSwitchTrue m s.switches b) (turns b h) k.x k.past k.is (subst (To (ReadsSwitchTrue m s.switches b)) (same b h) z.1))
      where
        is_low : (i n : ℕ) → (i < n) ⊎ (n ≤ i)
        is_low i n = elim (leb_tells (i + 1) n) [ inl q ↦ (let l = q.1 in inl (omega (arith, l))) | inr q ↦ (let l = q.1 in inr (omega (arith, l))) ]

        past_by : (i : ℕ) → ((i < length m.boards) ⊎ (length m.boards ≤ i)) → List BoardTurn
        past_by i (inl low) = (cut i low).past
        past_by i (inr far) = []

        past_same : (i : ℕ) (o : (i < length m.boards) ⊎ (length m.boards ≤ i)) (low : i < length m.boards) → past_by i o ≡ (cut i low).past
        past_same i (inl q) low = let low_prop : IsProp (i < length m.boards) = hlevel props in ap (λ (l : i < length m.boards). (cut i l).past) (low_prop q low)
        past_same i (inr q) low = absurd (omega (arith, q, low))

        whole_of : (R : Came → List Came → List BoardTurn → Type 0) (us : List BoardTurn) (x : BoardTurn) (past : List BoardTurn) → us ≡ x ∷ past → AreSoInTurns R (y ∷ before) past → AllRead R Heard us
        whole_of R us x past is k = subst (λ (z : List BoardTurn). AllRead R Heard z) (sym is) (subst (λ (z : List Came). AreSoInTurns R z past) (sym are) k)

  -- of any view of a board
  module _ (timely : (b : ℕ) → b < length m.boards → (w : Whole b) → TimelyIn b w ⊎ SentIn b) (b : ℕ) (low : b < length m.boards) (w : Whole b) where
    x : (y : Came) × (past : List Came) × (Heard ≡ y ∷ past)
    x = came_some [] first rest

    abbrev Turns_or : Bool → (i : ℕ) → i < length m.boards → List BoardTurn
    Turns_or z i h = cond z (turns_behind [] w.made) (turns_behind [] (whole.whole m v s ts p t first rest end c told f short i h).made)

    abbrev Turns_all : (i : ℕ) → i < length m.boards → List BoardTurn
    Turns_all i h = Turns_or (i == b) i h

    on_all : (i : ℕ) (h : i < length m.boards) → OnRun i (Turns_all i h)
    on_all i h = elim (eqb_tells i b) [
      | inl q ↦ subst (λ (z : Bool). OnRun i (Turns_or z i h)) (sym q.0) (subst (λ (j : ℕ). OnRun j (turns_behind [] w.made)) (sym q.1) (on_run b low w (timely b low w)))
      | inr q ↦ subst (λ (z : Bool). OnRun i (Turns_or z i h)) (sym q.0) (on_run i h (whole.whole m v s ts p t first rest end c told f short i h) (timely i h (whole.whole m v s ts p t first rest end c told f short i h)))
    ]

    have : HaveStates m Heard
    have = subst (λ (z : List Came). HaveStates m z) (came_cut [] first rest end) w.have_states

    same : (b == b) ≡ true
    same = elim (eqb_tells b b) [ inl q ↦ q.0 | inr q ↦ absurd (q.1 refl) ]

    -- its reports are read true
    pub any_reads : AllRead (ReadsTrue m s.switches b) (came_before [] (first ∷ (rest ++ end ∷ []))) (turns_behind [] w.made) × AllRead (ReadsSwitchTrue m s.switches b) (came_before [] (first ∷ (rest ++ end ∷ []))) (turns_behind [] w.made)
    any_reads =
        let Both : List Came → List BoardTurn → Type 0 = λ came us. AllRead (ReadsTrue m s.switches b) came us × AllRead (ReadsSwitchTrue m s.switches b) came us in
        let here : Both Heard (turns_behind [] w.made) = subst (λ (z : Bool). Both Heard (Turns_or z b low)) same (reads Turns_all on_all have x.0 x.1 x.2 b low) in
        subst (λ (z : List Came). Both z (turns_behind [] w.made)) (sym (came_cut [] first rest end)) here

    -- its units fit
    pub any_fits : UnitsFit (turns_behind [] w.made)
    any_fits = subst (λ (z : Bool). UnitsFit (Turns_or z b low)) same (fits Turns_all on_all have x.0 x.1 x.2 b low).0

    -- it takes the set-ups in time
    pub any_takes : TakeSetUps m (Pins b) s.entries b p.seen.begun (turns_behind [] w.made)
    any_takes = subst (λ (z : Bool). TakeSetUps m (Pins b) s.entries b p.seen.begun (Turns_or z b low)) same (takes Turns_all on_all have x.0 x.1 x.2 b low)

  -- where no unit is sent more than 10,700 turns late to a board, the units of each fit
  pub sent_fits : ((b : ℕ) → b < length m.boards → SentIn b) → (b : ℕ) → b < length m.boards → (w : Whole b) → UnitsFit (turns_behind [] w.made)
  sent_fits sent b low w = any_fits (λ i l x. inr (sent i l)) b low w

  -- and each keeps up
  pub sent_keeps : ((b : ℕ) → b < length m.boards → SentIn b) → (b : ℕ) → b < length m.boards → (w : Whole b) → KeepsUp m s b ts first (rest ++ end ∷ []) p.seen.begun w
  sent_keeps sent b low w =
      let takes = any_takes (λ i l x. inr (sent i l)) b low w in
      record { timely = timely_by m v s ts p t first rest end c told f short b low w (record { late = 10_700; most = omega arith; spilled = sent b low; few = inl clear; sets_up = inl takes }); sets_up = inl takes }

-- where no homing section is ever known, no report counts for one
none_read : (m : Machine) (switches : List Switch) (R : Came → List Came → List BoardTurn → Type 0) → ((c : Came) (before : List Came) (turns : List BoardTurn) → (noted m c.note (known_by m switches before)).homing ≡ None → R c before turns) → (came : List Came) (turns : List BoardTurn)
    → GoesOn m switches came → AllMoves came → AreSoInTurns R came turns
none_read m switches R none [] turns on moves = tt
none_read m switches R none (c ∷ before) [] on moves = tt
none_read m switches R none (c ∷ before) (t ∷ turns) on moves =
    (none c before (t ∷ turns) (noted_none m c.note (known_by m switches before) (known_none m switches before on.1 moves.1) moves.0), none_read m switches R none before turns on.1 moves.1)

all_none : (m : Machine) (switches : List Switch) (R : Came → List Came → List BoardTurn → Type 0) → ((c : Came) (before : List Came) (turns : List BoardTurn) → (noted m c.note (known_by m switches before)).homing ≡ None → R c before turns) → (came : List Came) (turns : List BoardTurn)
    → GoesOn m switches came → AllMoves came → AllRead R came turns
all_none m switches R none came [] on moves = tt
all_none m switches R none came (t ∷ turns) on moves = none_read m switches R none came turns on moves

none_is : (h : Homing) → None ≡ Some h → ⊥
none_is h e = cc

-- nor where nothing came before the last turn
none_came : (R : Came → List Came → List BoardTurn → Type 0) (turns : List BoardTurn) → AllRead R [] turns
none_came R [] = tt
none_came R (t ∷ turns) = tt

some_begun : (x : Started) (xs : List Started) → x ∷ xs ≡ [] → ⊥
some_begun x xs e = cc

module _ (m : Machine) (v : IsValidMachine m) (s : Scene) (ts : List MotionTurn) (end : ReactorTurn) (c : Cause) (short : HaveShortDictionaries m) (clear : s.entries ≡ []) where
  module _ (p : Plans m (length m.boards) ts) (first : ReactorTurn) (rest : List ReactorTurn) (f : Facts m s ts (first ∷ rest) end c) where
    -- where a section was begun
    module _ (text : List ℕ) (same : p.seen.text ≡ text) (some : p.seen.begun ≢ []) (timely : AllAreTimely m s text ts (first ∷ (rest ++ end ∷ []))) (b : ℕ) (low : b < length m.boards) (w : IsInWhole m s.switches b (clock_of (board_at m b)) (link_of m s b) ts first (rest ++ end ∷ [])) where
      abbrev Came_in : List Came
      Came_in = came_before [] (first ∷ (rest ++ end ∷ []))

      both_so : (o : Option Told) → p.seen.told ≡ o → AllRead (ReadsTrue m s.switches b) Came_in (turns_behind [] w.made) × AllRead (ReadsSwitchTrue m s.switches b) Came_in (turns_behind [] w.made)
      both_so None told = absurd (some (not_told m v s ts p end c told))
      both_so (Some t) told = any_reads m v s ts p t first rest end c told f short clear (λ i l x. inl (timely p i same some l x)) b low w

      takes_so : (o : Option Told) → p.seen.told ≡ o → TakeSetUps m (pins_of (board_at m b) b s.switches) s.entries b p.seen.begun (turns_behind [] w.made)
      takes_so None told = absurd (some (not_told m v s ts p end c told))
      takes_so (Some t) told = any_takes m v s ts p t first rest end c told f short clear (λ i l x. inl (timely p i same some l x)) b low w

    -- where none was
    switches_none : p.seen.begun ≡ [] → AllSwitchesReadTrue m s ts (first ∷ (rest ++ end ∷ []))
    switches_none none =
        let Of : List Started → Type 0 = λ z. All (λ (x : Started). x.section.kind ≡ Moves) z in
        let kinds : Of p.seen.begun = subst Of (sym none) (All-nil (λ (x : Started). x.section.kind ≡ Moves)) in
        let moves : AllMoves (came_from [] (first ∷ rest)) = all_moves m p.seen.text p.seen.begun p.made first rest kinds p.put (notes_before m v s ts p end c first rest f) in
        let here = subst AllMoves (sym (came_cut [] first rest end)) moves in
        λ b low w. all_none m s.switches (ReadsSwitchTrue m s.switches b) (λ d before turns homes h x is. absurd (none_is h (sym homes ∙ is))) (came_before [] (first ∷ (rest ++ end ∷ []))) (turns_behind [] w.made) w.goes_on here

    switches_so : (text : List ℕ) → p.seen.text ≡ text → (z : List Started) → p.seen.begun ≡ z → AllAreTimely m s text ts (first ∷ (rest ++ end ∷ [])) → AllSwitchesReadTrue m s ts (first ∷ (rest ++ end ∷ []))
    switches_so text is [] are timely = switches_none are
    switches_so text is (x ∷ xs) are timely = λ b low w. (both_so text is (λ e. some_begun x xs (sym are ∙ e)) timely b low w p.seen.told refl).1

  -- where no unit is sent more than 10,700 turns late each board is timely
  sent_by : (text : List ℕ) → SendsNear m text ts → (first : ReactorTurn) (rest : List ReactorTurn) → Facts m s ts (first ∷ rest) end c → (p : Plans m (length m.boards) ts) (b : ℕ) → p.seen.text ≡ text → (p.seen.begun ≢ []) → b < length m.boards
      → (w : IsInWhole m s.switches b (clock_of (board_at m b)) (link_of m s b) ts first (rest ++ end ∷ [])) → (o : Option Told) → p.seen.told ≡ o → IsTimelyIn m s b ts first (rest ++ end ∷ []) w
  sent_by text sends first rest f p b same some low w None told = absurd (some (not_told m v s ts p end c told))
  sent_by text sends first rest f p b same some low w (Some t) told = (sent_keeps m v s ts p t first rest end c told f short clear (λ i l. sends p t i same told l) b low w).timely

  timely_all : (text : List ℕ) → SendsNear m text ts → (rs : List ReactorTurn) → Facts m s ts rs end c → AllAreTimely m s text ts (rs ++ end ∷ [])
  timely_all text sends [] f = λ p b same some low w. absurd (untold_alone m v s ts p end c p.seen.told refl f some)
  timely_all text sends (first ∷ rest) f = λ p b same some low w. sent_by text sends first rest f p b same some low w p.seen.told refl

  near_all : (text : List ℕ) (rs : List ReactorTurn) → Facts m s ts rs end c → AllAreTimely m s text ts (rs ++ end ∷ []) → AllTakeNear m s text ts (rs ++ end ∷ [])
  near_all text [] f timely = λ p b same some low w. absurd (untold_alone m v s ts p end c p.seen.told refl f some)
  near_all text (first ∷ rest) f timely = λ p b same some low w. record { timely = timely p b same some low w; reads = (both_so p first rest f text same some timely b low w p.seen.told refl).0 }

  takes_all : (text : List ℕ) (rs : List ReactorTurn) → Facts m s ts rs end c → AllAreTimely m s text ts (rs ++ end ∷ []) → AllTakeInTime m s text ts (rs ++ end ∷ [])
  takes_all text [] f timely = λ p b same some low w. absurd (untold_alone m v s ts p end c p.seen.told refl f some)
  takes_all text (first ∷ rest) f timely = λ p b same some low w. takes_so p first rest f text same some timely b low w p.seen.told refl

  switches_all : (text : List ℕ) (p : Plans m (length m.boards) ts) → p.seen.text ≡ text → (rs : List ReactorTurn) → Facts m s ts rs end c → AllAreTimely m s text ts (rs ++ end ∷ []) → AllSwitchesReadTrue m s ts (rs ++ end ∷ [])
  switches_all text p is [] f timely = λ b low w. none_came (ReadsSwitchTrue m s.switches b) (turns_behind [] w.made)
  switches_all text p is (first ∷ rest) f timely = switches_so p first rest f text is p.seen.begun refl timely

module _ {F S : Type 0} (f : Files F) (o : Sink S) (m : Machine) (s : Scene) (name : List ℕ) (files files' : F) (out out' : S) (kept kept' : Kept) (t : near.Told Run) (r : RunsOver f o m s name files out kept t files' out' kept') (v : IsValidMachine m) (short : HaveShortDictionaries m)
    (text : List ℕ) (clear : s.entries ≡ []) where
  -- where no unit is sent too late
  pub run_timely : (t.cause ≡ cause.Memory → ⊥) → SendsNear m text r.runs.0 → AllAreTimely m s text r.runs.0 (r.runs.1 ++ r.runs.2 ∷ [])
  run_timely other sends = timely_all m v s r.runs.0 r.runs.2 t.cause short clear text sends r.runs.1 (facts f o m s name files files' out out' kept kept' t r other)

  -- all turns
  module _ (other : t.cause ≡ cause.Memory → ⊥) (timely : AllAreTimely m s text r.runs.0 (r.runs.1 ++ r.runs.2 ∷ [])) where
    facts_of : Facts m s r.runs.0 r.runs.1 r.runs.2 t.cause
    facts_of = facts f o m s name files files' out out' kept kept' t r other

    pub run_near : AllTakeNear m s text r.runs.0 (r.runs.1 ++ r.runs.2 ∷ [])
    run_near = near_all m v s r.runs.0 r.runs.2 t.cause short clear text r.runs.1 facts_of timely

    pub run_takes : AllTakeInTime m s text r.runs.0 (r.runs.1 ++ r.runs.2 ∷ [])
    run_takes = takes_all m v s r.runs.0 r.runs.2 t.cause short clear text r.runs.1 facts_of timely

    pub run_switches : f.told files name ≡ Some text → kept.at ≡ 0 → ∥ AllSwitchesReadTrue m s r.runs.0 (r.runs.1 ++ r.runs.2 ∷ []) ∥₁
    run_switches told at =
        ∥∥₁_map (run_made f o m s name files files' out out' kept kept' t r text told at) (λ w. switches_all m v s r.runs.0 r.runs.2 t.cause short clear text w.0.plans w.1 r.runs.1 facts_of timely)

  -- and those before its last one, whatever ended it
  module _ (turns : List ReactorTurn) (last : ReactorTurn) (cut : r.runs.1 ≡ turns ++ last ∷ []) (front later : List MotionTurn) (are : r.runs.0 ≡ front ++ later) (long : length front ≡ length turns) where
    front_facts : Facts m s front turns last cause.ReadFault
    front_facts =
        let part = run_front f o m s name files files' out out' kept kept' t r turns last cut in
        let Of : List MotionTurn → Type 0 = λ z. Facts m s z turns last cause.ReadFault in
        subst Of (same_front part.planned front part.later later (sym part.are ∙ are) (part.long ∙ sym long)) part.facts

    pub front_near : AllAreTimely m s text front (turns ++ last ∷ []) → AllTakeNear m s text front (turns ++ last ∷ [])
    front_near timely = near_all m v s front last cause.ReadFault short clear text turns front_facts timely

    pub front_timed : SendsNear m text front → AllAreTimely m s text front (turns ++ last ∷ [])
    front_timed sends = timely_all m v s front last cause.ReadFault short clear text sends turns front_facts

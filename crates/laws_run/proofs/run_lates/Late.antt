-- A whole run that ends since steps came too late to a board tells of this board's last turn.
use Rattle.std.proofs.Common.{◌≡◌, ℕ, zero, suc, ◌+◌, ◌<◌, Bool, false, List, [], ◌∷◌, ◌++◌, length, map, Option, Some, None, refl, ap, sym, ◌∙◌, subst, arith, inl, inr, append_assoc, length-append, rules}
use Rattle.std.specs.Prelude.{◌==◌, if◌then◌else◌}
use Rattle.laws_board.proofs.Names.{eqb_tells, length-map, Cause, BoardClock, Level, Machine, BoardState, Running, Shut, board_tick, clock_of, IsValidMachine, board_at, ShutNews, State, Control, Scene, Core, orders, pins_of, LinkState, Orders, Known, noted, Run, IsOwn, Came, known_by, MotionTurn, ReactorTurn, gather, item}
use Rattle.io_core.specs.declared.traits.Files.{Ghosts as Files}
use Rattle.io_core.specs.declared.traits.Sink.{Ghosts as Sink}
use Rattle.plan_types.specs.declared.cause.Cause.TheVariants as cause
use Rattle.msg_code.specs.declared.unit.Batch.{Batch}
use Rattle.board_sim.specs.Board.{timer_too_close}
use Rattle.board_world.specs.World.{AllFair}
use Rattle.board_world.proofs.Causes.{was_shut}
use Rattle.link_work.specs.Held.{IsCounted, late_by, lead_of, spill_told}
use Rattle.link_work.specs.Late.{turn_steps}
use Rattle.link_work.specs.Stands.{SeenLink}
use Rattle.link_work.proofs.Answered.{begins}
use Rattle.link_work.proofs.Shut.{Found, turn_shut, why_steps}
use Rattle.host_reactor.specs.Running.{late, late_of, or_cause}
use Rattle.laws_board.specs.turns.Turns.{AreBoardTurns, BoardTurn, IsBoardOf, latest_state, stands_after}
use Rattle.laws_board.specs.clocks.Runs.{IsInRun, orders_in}
use Rattle.laws_board.proofs.clocks.Lines.{run_before}
use Rattle.laws_board.proofs.clocks.Orders.{order_length, turns_in_order}
use Rattle.laws_homing.proofs.home_runs.Windows.{ordered_after}
use Rattle.laws_board.specs.sections.Ends.{MayBe}
use Rattle.laws_board.specs.sections.Links.{steps_of_turn}
use Rattle.laws_board.proofs.sections.Linking.{turn_runs}
use Rattle.session_lanes.specs.declared.near.LinkLog.{LinkLog}
use Rattle.session_lanes.specs.declared.near.Told.{Told}
use Rattle.session_lanes.specs.Runs.{AreLogs, IsLog}
use Rattle.session_work.specs.declared.table.LinkTurn.{LinkTurn}
use Rattle.session_work.specs.Leads.{last_controls}
use Rattle.session_work.specs.Links.{LinkStep}
use Rattle.session_work.specs.Turns.{Goes}
use Rattle.session_run.specs.declared.tell.Kept.{Kept}
use Rattle.session_run.specs.Desks.{desk_out}
use Rattle.session_run.specs.Boards.{came_from}
use Rattle.session_run.specs.Links as links
use Rattle.session_run.specs.Machines.{link, planner, reactor}
use Rattle.session_run.specs.Runs.{IsFirstLink, RunsOver}
use Rattle.laws_run.specs.lanes.Boards.{IsInWhole, turns_behind, orders_of, states_of}
use Rattle.laws_run.specs.run_ends.Ends.{EndsSo}
use Rattle.laws_run.proofs.run_ends.Ending.{ends_so}
use Rattle.laws_run.specs.run_headline.Timely.{link_of}
use Rattle.laws_run.proofs.run_headline.Boarded.{came_cut, came_long, took}
use Rattle.laws_run.proofs.run_headline.Going.{Lasts, lasts}
use Rattle.laws_run.proofs.run_headline.Making.{put_is}
use Rattle.laws_run.proofs.run_headline.Runs.{facts, row_full}
use Rattle.laws_run.proofs.run_headline.Showing.{Facts, ends_own, first_at}
use Rattle.laws_run.proofs.clear_runs.Bare.{latest_behind}
use Rattle.laws_run.proofs.home_wholes.Going.{goes_running, stays_shut}
use Rattle.laws_run.specs.run_lates.Late.{ComesLate, ComesLateIn, held_by, spoiled_by}
use Rattle.laws_run.proofs.run_lates.Linked.{IsLast, controls_put, item_same, states_taken, walk}
use Rattle.link_work.proofs.Spilled.{state_by}
use Rattle.laws_run.proofs.run_headline.Earlier.{states_long}

-- the state that is told of a late board
pub record LateAt (j b first arrival spoiled spill : ℕ) (states : List State) : Type 0 where
  pub place : ℕ
  pub place_is : j + place ≡ b
  pub state : State
  pub is : item place states ≡ state ∷ []
  pub news : ShutNews
  pub shut : state.shut ≡ Some news
  pub reason : news.reason ≡ 1
  pub first_is : news.first ≡ first
  pub tick_is : news.tick ≡ arrival
  pub spoiled_is : news.spoiled ≡ spoiled
  pub spill_is : news.spill ≡ spill

later_state : (j b first arrival spoiled spill : ℕ) (s : State) (states : List State) → LateAt (j + 1) b first arrival spoiled spill states → LateAt j b first arrival spoiled spill (s ∷ states)
later_state j b first arrival spoiled spill s states x =
    let place_is = x.place_is in
    record {
      place = suc x.place;
      place_is = omega (arith, place_is);
      state = x.state;
      is = x.is;
      news = x.news;
      shut = x.shut;
      reason = x.reason;
      first_is = x.first_is;
      tick_is = x.tick_is;
      spoiled_is = x.spoiled_is;
      spill_is = x.spill_is;
    }

here_state : (j b first arrival spoiled spill : ℕ) (s : State) (states : List State) (n : ShutNews) → s.shut ≡ Some n → n.reason ≡ 1 → Some (cause.Late j n.first n.tick n.spoiled n.spill) ≡ Some (cause.Late b first arrival spoiled spill)
    → LateAt j b first arrival spoiled spill (s ∷ states)
here_state j b first arrival spoiled spill s states n shut one f =
    let same : j ≡ b = cc in
    record { place = 0; place_is = omega (arith, same); state = s; is = refl; news = n; shut = shut; reason = one; first_is = cc; tick_is = cc; spoiled_is = cc; spill_is = cc }

by_state : (j b first arrival spoiled spill : ℕ) (s : State) (states : List State) (o : Option ShutNews) → (late (j + 1) states ≡ Some (cause.Late b first arrival spoiled spill) → LateAt (j + 1) b first arrival spoiled spill states) → s.shut ≡ o
    → or_cause (late_of j o) (late (j + 1) states) ≡ Some (cause.Late b first arrival spoiled spill) → LateAt j b first arrival spoiled spill (s ∷ states)
by_state j b first arrival spoiled spill s states o p9 p10 p11 = search (rules, later_state, eqb_tells, here_state)

late_is : (j b first arrival spoiled spill : ℕ) (states : List State) → late j states ≡ Some (cause.Late b first arrival spoiled spill) → LateAt j b first arrival spoiled spill states
late_is j b first arrival spoiled spill [] e = absurd (let f : None ≡ Some (cause.Late b first arrival spoiled spill) = e in cc)
late_is j b first arrival spoiled spill (s ∷ states) e = by_state j b first arrival spoiled spill s states s.shut (late_is (j + 1) b first arrival spoiled spill states) refl e

-- what the lanes of a board carried, and the turns of its link
pub record Logged (m : Machine) (s : Scene) (b : ℕ) (ts : List MotionTurn) (rs : List ReactorTurn) (end : ReactorTurn) : Type 0 where
  pub first : SeenLink
  pub is : IsFirstLink s b (board_at m b) first
  pub us : List LinkTurn
  pub last : SeenLink × Bool
  pub goes : Goes (LinkStep links.TurnsLink) 0 (first, false) us last
  pub put_on : List Control
  pub taken_on : List Control
  pub controls : gather (λ t. item b t.controls) rs ++ put_on ≡ gather (λ u. u.control ∷ []) us ++ taken_on
  pub left : List Batch
  pub batches : gather (λ t. item b t.batches) ts ≡ gather (λ u. u.batch ∷ []) us ++ left
  pub told_on : List State
  pub states : gather (λ u. u.state ∷ []) us ≡ gather (λ t. item b t.states) (rs ++ end ∷ []) ++ told_on

module _ {F S : Type 0} (f : Files F) (o : Sink S) where
  log_at : (ts : List MotionTurn) (rs : List ReactorTurn) (end : ReactorTurn) (n j b i : ℕ) (ss : List SeenLink) (xs : List LinkLog) (s : SeenLink) → AreLogs planner link reactor (desk_out f o) ts rs end n j ss xs → j + b ≡ i → item b ss ≡ s ∷ []
      → (x : LinkLog) × IsLog planner link reactor (desk_out f o) ts rs end n i s x
  log_at ts rs end n j b i [] xs s logs e at = absurd (let g : [] ≡ s ∷ [] = at in cc)
  log_at ts rs end n j b i (y ∷ ss) [] s logs e at = absurd logs
  log_at ts rs end n j zero i (y ∷ ss) (x ∷ xs) s logs e at =
      let same : y ≡ s = item_same y s at in
      let place : j ≡ i = omega (arith, e) in
      (x, subst (λ (k : ℕ). IsLog planner link reactor (desk_out f o) ts rs end n k s x) place (subst (λ (z : SeenLink). IsLog planner link reactor (desk_out f o) ts rs end n j z x) same logs.0))
  log_at ts rs end n j (suc b) i (y ∷ ss) (x ∷ xs) s logs e at = log_at ts rs end n (j + 1) b i ss xs s logs.1 (omega (arith, e)) at

  pub logged : (m : Machine) (s : Scene) (name : List ℕ) (files files' : F) (out out' : S) (kept kept' : Kept) (t : Told Run) (r : RunsOver f o m s name files out kept t files' out' kept') (b : ℕ) → b < length m.boards → Logged m s b r.runs.0 r.runs.1 r.runs.2
  logged m s name files files' out out' kept kept' t r b low =
      let (ts, rs, end, n, x, y, met, logs, happened, has, has') = r.runs in
      let l = first_at s 0 b b m.boards r.links r.first (omega arith) low in
      let log = (log_at ts rs end n 0 b b r.links t.links.items l.0 logs (omega arith) l.1).1 in
      let controls = put_is _ _ _ log.3 in
      record {
        first = l.0;
        is = l.2;
        us = log.0;
        last = log.2.0;
        goes = log.2.1;
        put_on = last_controls (length rs) n;
        taken_on = log.1 ++ log.3.2.0;
        controls = controls ∙ append_assoc (gather (λ (u : LinkTurn). u.control ∷ []) log.0) log.1 log.3.2.0;
        left = log.4.2.0;
        batches = put_is _ _ _ log.4;
        told_on = log.5.2.0;
        states = put_is _ _ _ log.5;
      }

module _ (m : Machine) (v : IsValidMachine m) (s : Scene) (ts : List MotionTurn) (end : ReactorTurn) (c : Cause) (first : ReactorTurn) (rest : List ReactorTurn) (f : Facts m s ts (first ∷ rest) end c) where
  module _ (b : ℕ) (low : b < length m.boards) (g : Logged m s b ts (first ∷ rest) end) where
    abbrev w : IsInWhole m s.switches b (clock_of (board_at m b)) (link_of m s b) ts first (rest ++ end ∷ [])
    w = f.boards b first rest low refl

    empty : item b first.states ≡ []
    empty = ap (item b) (elim f.turns.0.row [ inl a ↦ a.1 | inr a ↦ absurd (omega (arith, a.0)) ])

    many : length (states_of w.made) ≡ length (rest ++ end ∷ [])
    many = states_long b (rest ++ end ∷ []) (states_of w.made) w.states

    -- the last turn of the board
    pub at_end : IsLast (clock_of (board_at m b)) (turns_behind [] w.made)
    at_end =
        let Both : List Came → Type 0 = λ x. IsBoardOf m s.switches b x (turns_behind [] w.made) in
        let size = length-map w.made (λ (x : BoardTurn). x.state) in
        let long : length (first ∷ rest) ≡ length w.made = (let a = many in let e = length-append rest (end ∷ []) in omega (arith, a, e, size)) in
        let put = controls_put m s.switches b [] [] (first ∷ rest) w.made long f.turns (subst Both (came_cut [] first rest end) w.both) in
        let controls = ap (λ (z : List Control). z ++ g.put_on) (sym put) ∙ g.controls in
        let batches_of : map (λ (t : BoardTurn). t.batch) w.made ≡ map (λ o. o.batch) (orders_of w.made) = batches_same w.made in
        let batches = ap (λ (z : List Batch). z ++ w.batches.0) batches_of ∙ w.batches.1 ∙ g.batches in
        let states = g.states ∙ ap (λ (z : List State). (z ++ gather (λ (t : ReactorTurn). item b t.states) (rest ++ end ∷ [])) ++ g.told_on) empty
        ∙ ap (λ (z : List State). z ++ g.told_on) (states_taken b (rest ++ end ∷ []) (states_of w.made) w.states) in
        walk (clock_of (board_at m b)) (link_of m s b) [] w.made g.first 0 g.us g.last g.put_on g.taken_on g.left w.batches.0 g.told_on refl
        (record { stands = g.is.stands; clock_is = g.is.clock; spoiled = g.is.spoiled; held = g.is.held }) w.turns_are g.goes controls batches states (omega (arith, long))
      where
        batches_same : (made : List BoardTurn) → map (λ t. t.batch) made ≡ map (λ o. o.batch) (orders_of made)
        batches_same [] = refl
        batches_same (t ∷ made) = ap (λ (z : List Batch). t.batch ∷ z) (batches_same made)

    shut_reason : (r t a tick at : ℕ) → Shut r t a ≡ Shut timer_too_close tick at → r ≡ timer_too_close
    shut_reason r t a tick at e = cc

    -- so it was shut down in this turn
    module _ (due arrival spoiled spill : ℕ) (x : LateAt 0 b due arrival spoiled spill end.states) where
      abbrev Clock : BoardClock
      Clock = clock_of (board_at m b)

      abbrev Begin : LinkState
      Begin = link_of m s b

      abbrev Pins : List (List Level)
      Pins = pins_of (board_at m b) b s.switches

      abbrev Last_turn : BoardTurn
      Last_turn = at_end.turn

      abbrev Past : List BoardTurn
      Past = at_end.past

      abbrev Link_before : LinkState
      Link_before = stands_after Begin Past

      abbrev Now : Orders
      Now = orders Last_turn.control Last_turn.batch

      turns_are : AreBoardTurns Clock Begin (Last_turn ∷ Past)
      turns_are = let Are : List BoardTurn → Type 0 = λ z. AreBoardTurns Clock Begin z in subst Are at_end.are w.turns_are

      last : Lasts b rest end (states_of w.made)
      last = lasts b rest end (states_of w.made) (took b (rest ++ end ∷ []) (states_of w.made) w.states)

      told : Last_turn.state.shut ≡ Some x.news
      told =
          let at = x.place_is in
          let place : x.place ≡ b = omega (arith, at) in
          let heard : item b end.states ≡ Last_turn.state ∷ [] = last.at ∙ sym (latest_behind [] w.made last.front last.last last.are) ∙ ap latest_state at_end.are in
          let same : Last_turn.state ≡ x.state = item_same Last_turn.state x.state (sym heard ∙ ap (λ (i : ℕ). item i end.states) (sym place) ∙ x.is) in
          ap (λ (z : State). z.shut) same ∙ x.shut

      shut_state : Last_turn.after.core.board.controller.state ≡ Shut timer_too_close arrival due
      shut_state =
          state_by Last_turn.after.core.board.controller.state Last_turn.state.shut x.news turns_are.0.1.shut told ∙ ap (λ n. Shut n x.news.tick x.news.first) x.reason
          ∙ ap (λ n. Shut timer_too_close n x.news.first) x.tick_is ∙ ap (λ n. Shut timer_too_close arrival n) x.first_is

      may : (z : BoardState) → Link_before.core.board.controller.state ≡ z → MayBe z
      may Running e = tt
      may (Shut r t a) e = inl (shut_reason r t a arrival due (sym (stays_shut Clock Begin (Last_turn ∷ []) Past r t a turns_are e) ∙ shut_state))

      ran_by : (came : List Came) → IsInRun m s.switches Pins s.entries b came (Last_turn ∷ Past) → Link_before.core.board.controller.state ≡ Running
      ran_by [] r = absurd r.both
      ran_by (y ∷ before) r = goes_running m s.switches Pins s.entries b y before Past (run_before m s.switches Pins s.entries b y before Last_turn Past r) r.both.0 r.goes_on.0 (may Link_before.core.board.controller.state refl)

      ran : Link_before.core.board.controller.state ≡ Running
      ran =
          let Run : List Came → List BoardTurn → Type 0 = λ y z. IsInRun m s.switches Pins s.entries b y z in
          ran_by (came_from [] (first ∷ rest)) (subst (λ z. Run (came_from [] (first ∷ rest)) z) at_end.are
          (subst (λ y. Run y (turns_behind [] w.made)) (came_cut [] first rest end) (record { board = low; goes_on = w.goes_on; turns_are = w.turns_are; both = w.both; in_range = w.in_range })))

      found : Found (AllFair Link_before.core (turn_steps Clock (length Past) Now turns_are.0.0.resent Link_before)) Link_before.core Last_turn.after.core timer_too_close arrival due × (arrival ≡ board_tick Clock (length Past))
      found =
          let time = (begins (board_at m b) Pins b s.entries (orders_in Past) Link_before (turns_in_order Clock Begin Past turns_are.1)).in_time.1 in
          (turn_shut Clock (length Past) Now Link_before Last_turn.after (ordered_after (board_at m b) Pins b s.entries Past turns_are.1) (time ∙ ap (board_tick Clock) (order_length Past)) ran turns_are.0.0).shut timer_too_close arrival due shut_state

      numbers : (spoiled, spill) ≡ late_by (lead_of Clock.drift) (spoiled_by Past Last_turn) due (held_by Past Last_turn)
      numbers = search (rules, told)

      pub comes_late : ComesLate m s b due arrival spoiled spill ts first (rest ++ end ∷ [])
      comes_late =
          let is = turns_are.0.0 in
          let why = why_steps found.0.board found.0.command.command due found.0.cause in
          let now = found.0.now in
          let earlier = why.1 in
          record {
            there = low;
            w = w;
            turn = Last_turn;
            past = Past;
            are = at_end.are;
            is = is;
            ran = ran;
            shut = shut_state;
            began = found.1;
            late = omega (arith, earlier, now);
            took = was_shut (steps_of_turn Clock (length Past) Now is.resent Link_before) Link_before.core timer_too_close arrival due ran
                (ap (λ (h : Core). h.board.controller.state) (sym (turn_runs Clock (length Past) Now is.resent Link_before)) ∙ ap (λ (h : LinkState). h.core.board.controller.state) (sym is.becomes) ∙ shut_state);
            counted = numbers;
          }

  -- and where a run ends for it, its last states told of it
  pub ends_late : (own : IsOwn c) (b due arrival spoiled spill : ℕ) → c ≡ cause.Late b due arrival spoiled spill → LateAt 0 b due arrival spoiled spill end.states
  ends_late own b due arrival spoiled spill e =
      let Now : Known = noted m end.note (known_by m s.switches (came_from [] (first ∷ rest))) in
      let Ends : Known → Type 0 = λ r. EndsSo m (noted m end.note r) (length (came_from [] (first ∷ rest))) end.states c in
      let so = subst Ends (f.own own).0 (ends_so m s.switches f.known (length (came_from [] (first ∷ rest))) end.states end.note c (f.own own).1 f.other (sym (ends_own m s ts (first ∷ rest) end c f own))) in
      let At : Cause → Type 0 = λ d. EndsSo m Now (length (came_from [] (first ∷ rest))) end.states d in
      late_is 0 b due arrival spoiled spill end.states (subst At e so)

  pub late_low : (b due arrival spoiled spill : ℕ) → LateAt 0 b due arrival spoiled spill end.states → b < length m.boards
  late_low b due arrival spoiled spill x =
      let long = came_long [] (first ∷ rest) in
      let full = row_full (length m.boards) (length (came_from [] (first ∷ rest))) end (omega (arith, long)) f.row in
      let inside = item_low x.place end.states x.state x.is in
      let place = x.place_is in
      omega (arith, full, inside, place)
    where
      item_low : {A : Type 0} (i : ℕ) (xs : List A) (y : A) → item i xs ≡ y ∷ [] → i < length xs
      item_low i [] y e = absurd (let g : [] ≡ y ∷ [] = e in cc)
      item_low zero (z ∷ xs) y e = omega arith
      item_low (suc i) (z ∷ xs) y e = let rest = item_low i xs y e in omega (arith, rest)

alone_late : (m : Machine) (s : Scene) (ts : List MotionTurn) (end : ReactorTurn) (c : Cause) (f : Facts m s ts [] end c) (own : IsOwn c) (b due arrival spoiled spill : ℕ) → c ≡ cause.Late b due arrival spoiled spill → ⊥
alone_late m s ts end c f own b due arrival spoiled spill e =
    let none : end.states ≡ [] = elim f.row [ inl a ↦ a.1 | inr a ↦ absurd (omega (arith, a.0)) ] in
    let Ends : Known → Type 0 = λ r. EndsSo m (noted m end.note r) 0 end.states c in
    let so = subst Ends (f.own own).0 (ends_so m s.switches f.known 0 end.states end.note c (f.own own).1 f.other (sym (ends_own m s ts [] end c f own))) in
    let At : Cause → Type 0 = λ d. EndsSo m (noted m end.note (known_by m s.switches [])) 0 end.states d in
    let x = subst At e so in
    nothing (ap (λ z. late 0 z) (sym none) ∙ x)
  where
    nothing : None ≡ Some (cause.Late b due arrival spoiled spill) → ⊥
    nothing g = cc

module _ {F S : Type 0} (f : Files F) (o : Sink S) (m : Machine) (s : Scene) (name : List ℕ) (files files' : F) (out out' : S) (kept kept' : Kept) (t : Told Run) (r : RunsOver f o m s name files out kept t files' out' kept') where
  late_at : IsValidMachine m → (b due arrival spoiled spill : ℕ) → t.cause ≡ cause.Late b due arrival spoiled spill → (rs : List ReactorTurn) → Facts m s r.runs.0 rs r.runs.2 t.cause → ((i : ℕ) → i < length m.boards → Logged m s i r.runs.0 rs r.runs.2)
      → ComesLateIn m s b due arrival spoiled spill r.runs.0 rs r.runs.2
  late_at v b due arrival spoiled spill e [] g l = alone_late m s r.runs.0 r.runs.2 t.cause g (subst IsOwn (sym e) tt) b due arrival spoiled spill e
  late_at v b due arrival spoiled spill e (first ∷ rest) g l =
      let x = ends_late m v s r.runs.0 r.runs.2 t.cause first rest g (subst IsOwn (sym e) tt) b due arrival spoiled spill e in
      let low = late_low m v s r.runs.0 r.runs.2 t.cause first rest g b due arrival spoiled spill x in
      comes_late m v s r.runs.0 r.runs.2 t.cause first rest g b low (l b low) due arrival spoiled spill x

  pub run_late : IsValidMachine m → (b due arrival spoiled spill : ℕ) → t.cause ≡ cause.Late b due arrival spoiled spill → ComesLateIn m s b due arrival spoiled spill r.runs.0 r.runs.1 r.runs.2
  run_late v b due arrival spoiled spill e =
      late_at v b due arrival spoiled spill e r.runs.1 (facts f o m s name files files' out out' kept kept' t r (λ g. let h : cause.Late b due arrival spoiled spill ≡ cause.Memory = sym e ∙ g in cc))
      (λ i low. logged f o m s name files files' out out' kept kept' t r i low)

-- A whole run ends for a board that gives no answer, or whose clock line is too old, only where its askings were hindered.
use Rattle.std.proofs.Common.{All, ◌≡◌, ℕ, ◌+◌, ◌^◌, ◌<◌, ◌≤◌, List, [], ◌∷◌, ◌++◌, length, map, Option, Some, None, refl, ap, sym, ◌∙◌, subst, arith, inl, inr}
use Rattle.laws_board.proofs.Names.{∥∥₁_map, length-map, All-cons, All-head, All-nil, All-tail, Cause, Machine, Moves, clock_of, IsValidMachine, board_at, State, Scene, listen_all, stale, orders, pins_of, Orders, Known, Connecting, is_out, noted, Run, reacts, IsOwn, first_cause, Came, known_by, state_at, parts_on, Started, Told, MotionTurn, ReactorTurn}
use Rattle.plan_types.specs.declared.cause.Cause.TheVariants as cause
use Rattle.io_core.specs.declared.traits.Files.{Ghosts as Files}
use Rattle.io_core.specs.declared.traits.Sink.{Ghosts as Sink}
use Rattle.host_reactor.specs.declared.ordered.Phase.TheVariants.{Running}
use Rattle.host_reactor.specs.Runs.{HaveStates, told_by}
use Rattle.host_reactor.proofs.Connects.{silent-eight}
use Rattle.host_reactor.proofs.Rowing.{stays-whole, listened}
use Rattle.laws_board.specs.turns.Turns.{BoardTurn, latest_state}
use Rattle.laws_board.specs.clocks.Runs.{IsInRun, UnitsFit}
use Rattle.laws_board.proofs.clocks.Lines.{as_long, noted_phase}
use Rattle.session_lanes.specs.declared.near.Told as near
use Rattle.session_run.specs.declared.tell.Kept.{Kept}
use Rattle.session_run.specs.Boards.{AreReactorTurns, came_from, came_in}
use Rattle.session_run.specs.Runs.{RunsOver}
use Rattle.laws_board.specs.sections.Parts.{AreOrdersOf}
use Rattle.laws_run.specs.lanes.Boards.{IsInWhole, turns_behind, orders_of, states_of}
use Rattle.laws_board.specs.plans.Given.{TookControls}
use Rattle.laws_board.specs.plans.Lines.{TookNotes}
use Rattle.laws_board.specs.plans.Planned.{Plans}
use Rattle.laws_board.proofs.plans.Running.{orders_are}
use Rattle.laws_run.specs.run_ends.Ends.{EndsSo, order}
use Rattle.laws_run.proofs.run_ends.Connecting.{before_boards}
use Rattle.laws_run.proofs.run_ends.Ending.{ends_so}
use Rattle.laws_board.specs.causes.Causes.{AreAskedAndHindered, AreInRow, IsDisturbedAround}
use Rattle.laws_board.proofs.causes.Around.{around}
use Rattle.laws_board.proofs.causes.Connect.{connect_cause}
use Rattle.laws_board.proofs.causes.Stale.{stale_cause}
use Rattle.laws_run.specs.run_headline.Timely.{link_of}
use Rattle.laws_run.proofs.run_headline.Asked.{whole_by}
use Rattle.laws_run.proofs.run_headline.Boarded.{came_cut, ready, took, valid_at}
use Rattle.laws_run.proofs.run_headline.Fronts.{controlled}
use Rattle.laws_run.proofs.run_headline.Going.{Lasts, lasts}
use Rattle.laws_run.proofs.run_headline.Making.{run_made}
use Rattle.laws_run.proofs.run_headline.Plain.{AllMoves, all_moves}
use Rattle.laws_run.proofs.run_headline.Runs.{facts, row_full}
use Rattle.laws_run.proofs.run_headline.Showing.{Facts, came_long, ends_own, front_notes, long_own, not_told, took_notes, turns_cut}
use Rattle.laws_run.proofs.clear_runs.Bare.{few_turns, have_more, latest_behind, no_steps, stale_low, unbegun_units}
use Rattle.laws_run.proofs.clear_runs.Punctual.{NoUnits}
use Rattle.laws_run.proofs.clear_runs.Through.{first_none}
use Rattle.laws_run.specs.run_causes.Unanswered.{GaveNoAnswer, IsStaleSince}
use Rattle.laws_homing.proofs.missed_groups.Told.{same_state}
use Rattle.laws_run.proofs.run_headline.Earlier.{states_long}

-- askings in a row are not before the first one, and end four turns before the last turn
row_low : (first until : ℕ) (asked : List ℕ) → AreInRow first until asked → All (λ k. (first ≤ k) × (k + 4 ≤ until)) asked
row_low first until [] h = absurd h
row_low first until (k ∷ []) h = let e = h.0 in let l = h.1 in All-cons (λ i. (first ≤ i) × (i + 4 ≤ until)) k [] (omega (arith, e), l) (All-nil (λ i. (first ≤ i) × (i + 4 ≤ until)))
row_low first until (k ∷ (l ∷ ks)) h =
    let below = row_low first k (l ∷ ks) h.1 in
    let head = All-head (λ i. (first ≤ i) × (i + 4 ≤ k)) l ks below in
    let from = head.0 in
    let gap = head.1 in
    let until_is = h.0 in
    All-cons (λ i. (first ≤ i) × (i + 4 ≤ until)) k (l ∷ ks) (omega (arith, from, gap), until_is) (later (l ∷ ks) below)
  where
    later : (ks : List ℕ) → All (λ i. (first ≤ i) × (i + 4 ≤ k)) ks → All (λ i. (first ≤ i) × (i + 4 ≤ until)) ks
    later [] a = All-nil (λ i. (first ≤ i) × (i + 4 ≤ until))
    later (i ∷ is) a =
        let head = All-head (λ i. (first ≤ i) × (i + 4 ≤ k)) i is a in
        let from = head.0 in
        let gap = head.1 in
        let until_is = h.0 in
        All-cons (λ i. (first ≤ i) × (i + 4 ≤ until)) i is (omega (arith, from), omega (arith, gap, until_is)) (later is (All-tail (λ i. (first ≤ i) × (i + 4 ≤ k)) i is a))

module _ (m : Machine) (v : IsValidMachine m) (s : Scene) (ts : List MotionTurn) (end : ReactorTurn) (c : Cause) (first : ReactorTurn) (rest : List ReactorTurn) (f : Facts m s ts (first ∷ rest) end c) (own : IsOwn c) where
  abbrev All_came : List Came
  All_came = came_from [] (first ∷ rest)

  abbrev Now : Known
  Now = noted m end.note (known_by m s.switches (came_from [] (first ∷ rest)))

  ended : (reacts m s.switches (known_by m s.switches All_came) (length All_came) end.states end.note).ordered.end ≡ Some c
  ended =
      let Ends : Known → Type 0 = λ r. (reacts m s.switches r (length All_came) end.states end.note).ordered.end ≡ Some c in
      subst Ends (f.own own).0 (sym (ends_own m s ts (first ∷ rest) end c f own))

  untold : (known_by m s.switches All_came).stopped ≡ None
  untold = ap (λ (r : Known). r.stopped) (sym (f.own own).0) ∙ (f.own own).1

  some_came : 0 < length All_came
  some_came = let e = came_long [] (first ∷ rest) in omega (arith, e)

  many_states : length end.states ≡ length m.boards
  many_states = row_full (length m.boards) (length All_came) end some_came f.row

  -- what the last turn ends for
  so : EndsSo m Now (length All_came) end.states c
  so =
      let Ends : Known → Type 0 = λ r. EndsSo m (noted m end.note r) (length All_came) end.states c in
      subst Ends (f.own own).0 (ends_so m s.switches f.known (length All_came) end.states end.note c (f.own own).1 f.other (sym (ends_own m s ts (first ∷ rest) end c f own)))

  -- nothing came before such a cause
  first_is : 2 < order c → first_cause (is_out end.note) (noted m end.note (known_by m s.switches All_came)).stopped end.states ≡ None
  first_is high = first_none m s.switches (known_by m s.switches All_came) (length All_came) end.states end.note c high untold ended

  module _ (b : ℕ) (low : b < length m.boards) where
    pub w : IsInWhole m s.switches b (clock_of (board_at m b)) (link_of m s b) ts first (rest ++ end ∷ [])
    w = f.boards b first rest low refl

    run : IsInRun m s.switches (pins_of (board_at m b) b s.switches) s.entries b (came_from [] (first ∷ rest)) (turns_behind [] w.made)
    run =
        let Run : List Came → Type 0 = λ x. IsInRun m s.switches (pins_of (board_at m b) b s.switches) s.entries b x (turns_behind [] w.made) in
        subst Run (came_cut [] first rest end) (record { board = low; goes_on = w.goes_on; turns_are = w.turns_are; both = w.both; in_range = w.in_range })

    -- the last state of the board
    last : Lasts b rest end (states_of w.made)
    last = lasts b rest end (states_of w.made) (took b (rest ++ end ∷ []) (states_of w.made) w.states)

    count : length (orders_of w.made) ≡ length (rest ++ end ∷ [])
    count =
        length-map w.made (λ (x : BoardTurn). orders x.control x.batch) ∙ sym (length-map w.made (λ (x : BoardTurn). x.state)) ∙ states_long b (rest ++ end ∷ []) (states_of w.made) w.states

    heard : state_at b end.states ≡ latest_state (turns_behind [] w.made)
    heard = same_state b end.states ∙ last.at ∙ sym (latest_behind [] w.made last.front last.last last.are)

    few_came : length (came_from [] (first ∷ rest)) < 2 ^ 59
    few_came =
        let same = as_long m s.switches b (came_from [] (first ∷ rest)) (turns_behind [] w.made) run.both in
        let few = few_turns (board_at m b) (length (turns_behind [] w.made)) (valid_at m.boards b low v.boards) w.in_range in
        omega (arith, same, few)

  have : (b : ℕ) → b < length m.boards → HaveStates m (came_in end ∷ All_came)
  have b low =
      let x = f.boards b first rest low refl in
      let Have : List Came → Type 0 = λ z. HaveStates m z in
      have_more m (came_in end) All_came some_came many_states (subst Have (came_cut [] first rest end) x.have_states)

  -- a board whose clock line is too old
  stale_since : (board turn : ℕ) → c ≡ cause.Stale board turn → stale (length All_came) 0 (listen_all Now.askings.items end.states) ≡ Some (cause.Stale board turn) → IsStaleSince m s board turn ts (first ∷ rest) end
  stale_since board turn e is =
      let high : 2 < order c = (let o = ap order e in omega (arith, o)) in
      let whole = (stays-whole m end.note (known_by m s.switches All_came) (whole_by m s.switches All_came)).askings in
      let bound = stale_low (length All_came) 0 (listen_all Now.askings.items end.states) board turn is in
      let size = listened Now.askings.items end.states in
      let low : board < length m.boards = omega (arith, bound, size, whole) in
      let x = w board low in (
        low,
        x,
        λ fits. (
            let why = stale_cause m s.switches (pins_of (board_at m board) board s.switches) s.entries board (came_in end) All_came (turns_behind [] x.made) turn v (run board low) (heard board low) fits (few_came board low) (first_is high) (ended ∙ ap Some e) in
            let asked = why.1 in
            (why.0, asked.0, asked.1, asked.2, asked.3, asked.4, asked.5, all_around board low fits turn why.0 asked.0 (row_low turn (length (turns_behind [] x.made)) asked.0 asked.2) asked.5)),
      )
    where
      all_around : (b : ℕ) (low : b < length m.boards) → UnitsFit (turns_behind [] (w b low).made) → (turn : ℕ) → 1_000 ≤ turn → (ks : List ℕ) → All (λ k. (turn ≤ k) × (k + 4 ≤ length (turns_behind [] (w b low).made))) ks
          → AreAskedAndHindered (link_of m s b) (turns_behind [] (w b low).made) ks → All (λ k. IsDisturbedAround (link_of m s b) (turns_behind [] (w b low).made) k) ks
      all_around b low fits turn late [] within h = All-nil (λ k. IsDisturbedAround (link_of m s b) (turns_behind [] (w b low).made) k)
      all_around b low fits turn late (k ∷ ks) within h =
          let Within : ℕ → Type 0 = λ i. (turn ≤ i) × (i + 4 ≤ length (turns_behind [] (w b low).made)) in
          let here = All-head Within k ks within in
          let from = here.0 in
          let until = here.1 in
          All-cons (λ i. IsDisturbedAround (link_of m s b) (turns_behind [] (w b low).made) i) k ks
          (around m s.switches (pins_of (board_at m b) b s.switches) s.entries b All_came (turns_behind [] (w b low).made) k v (run b low) fits (omega (arith, from, late)) (omega (arith, until)) h.0.1)
          (all_around b low fits turn late ks (All-tail Within k ks within) h.1)

  -- a board that gave no answer
  module _ (p : Plans m (length m.boards) ts) where
    long : length (rest ++ end ∷ []) ≤ length p.made
    long = long_own m v s ts p end c first rest f own

    notes : TookNotes (map (λ t. t.note) p.made) (first ∷ (rest ++ end ∷ []))
    notes = took_notes m v s ts p end c first rest f long

    -- where the planner was told no clock lines, none homes
    none_moves : p.seen.told ≡ None → AllMoves All_came
    none_moves e =
        let kinds : (z : List Started) → z ≡ [] → All (λ s. s.section.kind ≡ Moves) z = λ z. λ same. (let All_in : List Started → Type 0 = λ y. All (λ (x : Started). x.section.kind ≡ Moves) y in subst All_in (sym same) (All-nil (λ (x : Started). x.section.kind ≡ Moves))) in
        all_moves m p.seen.text p.seen.begun p.made first rest (kinds p.seen.begun (not_told m v s ts p end c e)) p.put (front_notes m v s ts p end c first rest f notes)

    -- and no units are sent
    none_sent : (b : ℕ) (low : b < length m.boards) → p.seen.told ≡ None → NoUnits (orders_of (w b low).made)
    none_sent b low e =
        let Took : List Orders → Type 0 = λ x. TookControls x in
        let controls = subst Took (w b low).in_order (controlled m v s.switches (pins_of (board_at m b) b s.switches) s.entries b (came_from [] (first ∷ rest)) (turns_behind [] (w b low).made) (run b low) (none_moves e)) in
        let t : Told = record { clocks = []; first = 0 } in
        let Of : List Started → Type 0 = λ x. AreOrdersOf (parts_on m t.clocks x b) 0 (orders_of (w b low).made) in
        let size = count b low in
        let read = long in
        unbegun_units 0 (orders_of (w b low).made) (subst Of (not_told m v s ts p end c e) (orders_are m ts p t b (orders_of (w b low).made) low (omega (arith, size, read)) (w b low).batches controls))

    -- no board was told clock lines while the reactor connects
    connecting_untold : (known_by m s.switches All_came).phase ≡ Connecting → p.seen.told ≡ None
    connecting_untold phase = by p.seen.told refl
      where
        by : (o : Option Told) → p.seen.told ≡ o → p.seen.told ≡ None
        by None e = e
        by (Some t) e =
            let r = ready m v s ts p t first rest end e f.ahead f.words_left f.turns f.words in
            let Turns : List ReactorTurn → Type 0 = λ z. AreReactorTurns m s.switches [] z in
            let parts = turns_cut m s.switches [] r.past (r.turn ∷ r.later) (subst Turns r.are f.turns) in
            let Phase : List Came → Type 0 = λ z. (known_by m s.switches z).phase ≡ Connecting in
            let back = before_boards m s.switches (came_in r.turn ∷ came_from [] r.past) r.later parts.1.1 (subst Phase r.came_is phase) in
            absurd (let g : Running ≡ Connecting = sym r.is.then ∙ back.0 in cc)

    gave_none : (board turn : ℕ) → c ≡ cause.Connect board turn → (known_by m s.switches All_came).phase ≡ Connecting → GaveNoAnswer m s board turn ts (first ∷ rest) end
    gave_none board turn e phase =
        let high : 2 < order c = (let o = ap order e in omega (arith, o)) in
        let all = have 0 v.boards_some in
        let eight = silent-eight m s.switches (came_in end) All_came board turn (run 0 v.boards_some).goes_on all (few_came 0 v.boards_some) (first_is high) (ended ∙ ap Some e) in
        let low = eight.0 in
        let x = w board low in
        let No : List Orders → Type 0 = λ z. NoUnits z in
        let none = no_steps (turns_behind [] x.made) (subst No (sym x.in_order) (none_sent board low (connecting_untold phase))) in
        let why = connect_cause m s.switches (pins_of (board_at m board) board s.switches) s.entries board (came_in end) All_came (turns_behind [] x.made) turn v (run board low) all (heard board low) none (few_came board low) (first_is high) (ended ∙ ap Some e) in
        (low, x, why.0, why.1, why.2, why.3)

    pub given_none : (board turn : ℕ) → c ≡ cause.Connect board turn → GaveNoAnswer m s board turn ts (first ∷ rest) end
    given_none board turn e =
        let At : Cause → Type 0 = λ d. EndsSo m Now (length All_came) end.states d in
        let is = subst At e so in
        gave_none board turn e (sym (noted_phase m end.note (known_by m s.switches All_came)) ∙ is.0)

  pub stale_then : (board turn : ℕ) → c ≡ cause.Stale board turn → IsStaleSince m s board turn ts (first ∷ rest) end
  stale_then board turn e =
      let At : Cause → Type 0 = λ d. EndsSo m Now (length All_came) end.states d in
      let is = subst At e so in
      stale_since board turn e is.1

-- a run of one turn ends for no such cause
module _ (m : Machine) (v : IsValidMachine m) (s : Scene) (ts : List MotionTurn) (end : ReactorTurn) (c : Cause) (f : Facts m s ts [] end c) (own : IsOwn c) where
  so_alone : EndsSo m (noted m end.note (known_by m s.switches [])) 0 end.states c
  so_alone =
      let Ends : Known → Type 0 = λ r. EndsSo m (noted m end.note r) 0 end.states c in
      subst Ends (f.own own).0 (ends_so m s.switches f.known 0 end.states end.note c (f.own own).1 f.other (sym (ends_own m s ts [] end c f own)))

  stale_alone : (board turn : ℕ) → c ≡ cause.Stale board turn → ⊥
  stale_alone board turn e =
      let At : Cause → Type 0 = λ d. EndsSo m (noted m end.note (known_by m s.switches [])) 0 end.states d in
      let is = subst At e so_alone in
      is.0 (noted_phase m end.note (known_by m s.switches []))

  none_alone : end.states ≡ []
  none_alone = elim f.row [ inl a ↦ a.1 | inr a ↦ absurd (omega (arith, a.0)) ]

  silent_alone : (board turn : ℕ) → c ≡ cause.Connect board turn → ⊥
  silent_alone board turn e =
      let Ends : Known → Type 0 = λ r. (reacts m s.switches r 0 end.states end.note).ordered.end ≡ Some c in
      let ended : Ends (known_by m s.switches []) = subst Ends (f.own own).0 (sym (ends_own m s ts [] end c f own)) in
      let first = first_none m s.switches (known_by m s.switches []) 0 end.states end.note c (let o = ap order e in omega (arith, o)) refl ended in
      let eight = silent-eight m s.switches (came_in end) [] board turn tt none_alone (omega arith) first (ended ∙ ap Some e) in
      let until = eight.1.2.until in
      let few : length (told_by board (came_in end ∷ [])) ≡ 0 = ap (λ (x : List State). length (state_at board x ++ [])) none_alone in
      omega (arith, eight.1.1, until, few)

given_all : (m : Machine) (v : IsValidMachine m) (s : Scene) (ts : List MotionTurn) (end : ReactorTurn) (c : Cause) (rs : List ReactorTurn) (f : Facts m s ts rs end c) (own : IsOwn c) (p : Plans m (length m.boards) ts) (board turn : ℕ) → c ≡ cause.Connect board turn
    → GaveNoAnswer m s board turn ts rs end
given_all m v s ts end c [] f own p board turn e = absurd (silent_alone m v s ts end c f own board turn e)
given_all m v s ts end c (first ∷ rest) f own p board turn e = given_none m v s ts end c first rest f own p board turn e

stale_all : (m : Machine) (v : IsValidMachine m) (s : Scene) (ts : List MotionTurn) (end : ReactorTurn) (c : Cause) (rs : List ReactorTurn) (f : Facts m s ts rs end c) (own : IsOwn c) (board turn : ℕ) → c ≡ cause.Stale board turn → IsStaleSince m s board turn ts rs end
stale_all m v s ts end c [] f own board turn e = absurd (stale_alone m v s ts end c f own board turn e)
stale_all m v s ts end c (first ∷ rest) f own board turn e = stale_then m v s ts end c first rest f own board turn e

module _ {F S : Type 0} (f : Files F) (o : Sink S) (m : Machine) (s : Scene) (name : List ℕ) (files files' : F) (out out' : S) (kept kept' : Kept) (t : near.Told Run) (r : RunsOver f o m s name files out kept t files' out' kept') where
  pub run_stale : IsValidMachine m → (board turn : ℕ) → t.cause ≡ cause.Stale board turn → IsStaleSince m s board turn r.runs.0 r.runs.1 r.runs.2
  run_stale v board turn e =
      let x = facts f o m s name files files' out out' kept kept' t r (λ g. let h : cause.Stale board turn ≡ cause.Memory = sym e ∙ g in cc) in
      stale_all m v s r.runs.0 r.runs.2 t.cause r.runs.1 x (subst IsOwn (sym e) tt) board turn e

  pub run_silent : IsValidMachine m → (text : List ℕ) → f.told files name ≡ Some text → kept.at ≡ 0 → (board turn : ℕ) → t.cause ≡ cause.Connect board turn → ∥ GaveNoAnswer m s board turn r.runs.0 r.runs.1 r.runs.2 ∥₁
  run_silent v text told at board turn e =
      ∥∥₁_map (run_made f o m s name files files' out out' kept kept' t r text told at) (λ x.
      let y = facts f o m s name files files' out out' kept kept' t r (λ g. let h : cause.Connect board turn ≡ cause.Memory = sym e ∙ g in cc) in
      given_all m v s r.runs.0 r.runs.2 t.cause r.runs.1 y (subst IsOwn (sym e) tt) x.0.plans board turn e)

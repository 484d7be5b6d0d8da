-- The boards of a whole run end for two reasons alone.
use Rattle.std.proofs.Common.{All, ◌≡◌, ◌≢◌, ℕ, ◌<◌, List, [], ◌∷◌, ◌++◌, length, Option, Some, None, refl, sym, subst, arith, inl, inr}
use Rattle.laws_board.proofs.Names.{∥∥₁_map, All-cons, All-nil, Cause, Machine, BoardState, Running, Shut, Moves, clock_of, IsValidMachine, board_at, State, Scene, pins_of, Orders, Run, Came, Started, Told, MotionTurn, ReactorTurn}
use Rattle.io_core.specs.declared.traits.Files.{Ghosts as Files}
use Rattle.io_core.specs.declared.traits.Sink.{Ghosts as Sink}
use Rattle.plan_types.specs.declared.cause.Cause.TheVariants as cause
use Rattle.laws_board.specs.turns.Turns.{stands_after}
use Rattle.laws_board.specs.clocks.Runs.{IsInRun, orders_in}
use Rattle.laws_board.proofs.clocks.Orders.{turns_in_order}
use Rattle.session_lanes.specs.declared.near.Told as near
use Rattle.session_run.specs.declared.tell.Kept.{Kept}
use Rattle.session_run.specs.Boards.{came_from}
use Rattle.session_run.specs.Runs.{RunsOver}
use Rattle.laws_board.specs.sections.Ends.{MayBe}
use Rattle.laws_run.specs.lanes.Boards.{IsInWhole, turns_behind, orders_of}
use Rattle.laws_board.specs.plans.Given.{TookControls}
use Rattle.laws_board.specs.plans.Planned.{Plans}
use Rattle.laws_homing.specs.home_parts.Cuts.{cuts_on}
use Rattle.laws_board.specs.causes.Short.{HaveShortDictionaries}
use Rattle.laws_run.specs.home_headline.Near.{AllKeepUp}
use Rattle.laws_run.specs.run_headline.Timely.{link_of}
use Rattle.laws_run.proofs.clear_runs.Punctual.{NoUnits}
use Rattle.laws_run.proofs.home_headline.Board.{here_by}
use Rattle.laws_run.proofs.home_headline.Good.{may_at}
use Rattle.laws_run.proofs.run_headline.Boarded.{came_cut}
use Rattle.laws_run.proofs.run_headline.Fronts.{controlled}
use Rattle.laws_run.proofs.run_headline.Cutting.{run_front}
use Rattle.laws_run.proofs.run_headline.Making.{front_made, run_made}
use Rattle.laws_run.proofs.run_headline.Plain.{AllMoves, all_moves}
use Rattle.laws_run.proofs.run_headline.Runs.{facts}
use Rattle.laws_run.proofs.run_headline.Showing.{Facts, in_none, not_told, notes_before}
use Rattle.laws_run.specs.run_lates.Late.{AllMayTell, MayTell}
use Rattle.laws_run.proofs.run_lates.Boards as boards
use Rattle.laws_run.proofs.run_lates.Unbegun.{unbegun}
use Rattle.laws_run.proofs.run_lates.Shuts.{all_may, controls_may, each_may, few_more, row_few, rows_few}

module _ (m : Machine) (v : IsValidMachine m) (s : Scene) (ts : List MotionTurn) (p : Plans m (length m.boards) ts) (end : ReactorTurn) (c : Cause) (first : ReactorTurn) (rest : List ReactorTurn) (f : Facts m s ts (first ∷ rest) end c) where
  none_moves : p.seen.begun ≡ [] → AllMoves (came_from [] (first ∷ rest))
  none_moves e =
      let Of : List Started → Type 0 = λ z. All (λ (x : Started). x.section.kind ≡ Moves) z in
      all_moves m p.seen.text p.seen.begun p.made first rest (subst Of (sym e) (All-nil (λ (x : Started). x.section.kind ≡ Moves))) p.put (notes_before m v s ts p end c first rest f)

  module _ (b : ℕ) (low : b < length m.boards) (w : IsInWhole m s.switches b (clock_of (board_at m b)) (link_of m s b) ts first (rest ++ end ∷ [])) where
    run : IsInRun m s.switches (pins_of (board_at m b) b s.switches) s.entries b (came_from [] (first ∷ rest)) (turns_behind [] w.made)
    run =
        let In : List Came → Type 0 = λ x. IsInRun m s.switches (pins_of (board_at m b) b s.switches) s.entries b x (turns_behind [] w.made) in
        subst In (came_cut [] first rest end) (record { board = low; goes_on = w.goes_on; turns_are = w.turns_are; both = w.both; in_range = w.in_range })

    -- where no section was begun, nothing homes and no units are sent
    pub none_controls : p.seen.begun ≡ [] → TookControls (orders_in (turns_behind [] w.made))
    none_controls e = controlled m v s.switches (pins_of (board_at m b) b s.switches) s.entries b (came_from [] (first ∷ rest)) (turns_behind [] w.made) run (none_moves e)

    pub none_sent : p.seen.begun ≡ [] → NoUnits (orders_in (turns_behind [] w.made))
    none_sent e = let None_in : List Orders → Type 0 = λ x. NoUnits x in subst None_in (sym w.in_order) (unbegun m ts p b (orders_of w.made) low e w.batches)

    abbrev End_state : BoardState
    End_state = (stands_after (link_of m s b) (turns_behind [] w.made)).core.board.controller.state

    pub none_may : p.seen.begun ≡ [] → (z : BoardState) → End_state ≡ z → MayBe z
    none_may e Running is = tt
    none_may e (Shut reason tick at) is = inr (controls_may (board_at m b) (pins_of (board_at m b) b s.switches) b s.entries (turns_behind [] w.made) reason tick at w.turns_are (none_sent e) (none_controls e) is)

    told_may : HaveShortDictionaries m → AllKeepUp m s p.seen.text ts (first ∷ (rest ++ end ∷ [])) → (t : Told) → p.seen.told ≡ Some t → p.seen.begun ≢ [] → MayBe End_state
    told_may short little t told some =
        let k = boards.on m v s ts p t first rest end c told f short b low w (little p b refl some low w) in
        may_at b s.entries (boards.By m v s ts p t first rest end c told f short) (length (rest ++ end ∷ [])) (cuts_on m t.clocks (length p.made) p.seen.begun b) (here_by m v s ts p t first rest end told (length p.made) b w) (stands_after (link_of m s b) (turns_behind [] w.made)) k
        (turns_in_order (clock_of (board_at m b)) (link_of m s b) (turns_behind [] w.made) w.turns_are)

    pub may : HaveShortDictionaries m → AllKeepUp m s p.seen.text ts (first ∷ (rest ++ end ∷ [])) → (o : Option Told) (begun : List Started) → p.seen.told ≡ o → p.seen.begun ≡ begun → MayBe End_state
    may short little None begun e are = none_may (not_told m v s ts p end c e) End_state refl
    may short little (Some t) [] e are = none_may are End_state refl
    may short little (Some t) (x ∷ begun) e are = told_may short little t e (λ none. in_none [] x begun p.seen.begun none are)

  -- so each of their states tells of none but these
  pub all_tell : ((b : ℕ) → b < length m.boards → (w : IsInWhole m s.switches b (clock_of (board_at m b)) (link_of m s b) ts first (rest ++ end ∷ [])) → MayBe (stands_after (link_of m s b) (turns_behind [] w.made)).core.board.controller.state) → AllMayTell (first ∷ (rest ++ end ∷ []))
  all_tell may =
      let none : first.states ≡ [] = elim f.turns.0.row [ inl a ↦ a.1 | inr a ↦ absurd (omega (arith, a.0)) ] in
      let States : List State → Type 0 = λ xs. All (λ s. MayTell s) xs in
      All-cons (λ (t : ReactorTurn). All (λ s. MayTell s) t.states) first (rest ++ end ∷ []) (subst States (sym none) (All-nil (λ (s : State). MayTell s)))
      (all_may (length m.boards) (rest ++ end ∷ []) (few_more (length m.boards) rest end (rows_few m s.switches _ rest f.turns.1) (row_few (length m.boards) (length (came_from [] (first ∷ rest))) end f.row))
      (λ b low. let w = f.boards b first rest low refl in each_may (clock_of (board_at m b)) (link_of m s b) [] w.made b (rest ++ end ∷ []) w.turns_are (may b low w) w.states))

alone_tell : (m : Machine) (s : Scene) (ts : List MotionTurn) (end : ReactorTurn) (c : Cause) (f : Facts m s ts [] end c) → AllMayTell (end ∷ [])
alone_tell m s ts end c f =
    let none : end.states ≡ [] = elim f.row [ inl a ↦ a.1 | inr a ↦ absurd (omega (arith, a.0)) ] in
    let States : List State → Type 0 = λ xs. All (λ s. MayTell s) xs in
    All-cons (λ (t : ReactorTurn). All (λ s. MayTell s) t.states) end [] (subst States (sym none) (All-nil (λ (s : State). MayTell s))) (All-nil (λ (t : ReactorTurn). All (λ s. MayTell s) t.states))

-- in any run, by what is known of it
home_tells : (m : Machine) (v : IsValidMachine m) (s : Scene) (ts : List MotionTurn) (p : Plans m (length m.boards) ts) (end : ReactorTurn) (c : Cause) (rs : List ReactorTurn) → Facts m s ts rs end c → HaveShortDictionaries m
    → AllKeepUp m s p.seen.text ts (rs ++ end ∷ []) → AllMayTell (rs ++ end ∷ [])
home_tells m v s ts p end c [] g short little = alone_tell m s ts end c g
home_tells m v s ts p end c (first ∷ rest) g short little = all_tell m v s ts p end c first rest g (λ b low w. may m v s ts p end c first rest g b low w short little p.seen.told p.seen.begun refl refl)

module _ {F S : Type 0} (f : Files F) (o : Sink S) (m : Machine) (s : Scene) (name : List ℕ) (files files' : F) (out out' : S) (kept kept' : Kept) (t : near.Told Run) (r : RunsOver f o m s name files out kept t files' out' kept') (v : IsValidMachine m) (short : HaveShortDictionaries m)
    (text : List ℕ) (told : f.told files name ≡ Some text) (at : kept.at ≡ 0) where
  pub run_home_tells : (t.cause ≡ cause.Memory → ⊥) → AllKeepUp m s text r.runs.0 (r.runs.1 ++ r.runs.2 ∷ []) → ∥ AllMayTell (r.runs.1 ++ r.runs.2 ∷ []) ∥₁
  run_home_tells other little =
      ∥∥₁_map (run_made f o m s name files files' out out' kept kept' t r text told at) (λ w.
      let Little : List ℕ → Type 0 = λ z. AllKeepUp m s z r.runs.0 (r.runs.1 ++ r.runs.2 ∷ []) in
      home_tells m v s r.runs.0 w.0.plans r.runs.2 t.cause r.runs.1 (facts f o m s name files files' out out' kept kept' t r other) short (subst Little (sym w.1) little))

  -- so before its last turn, whatever ended it
  pub run_front_tells : (turns : List ReactorTurn) (last : ReactorTurn) → r.runs.1 ≡ turns ++ last ∷ [] → ∥ ((front : List MotionTurn) × (later : List MotionTurn) × (r.runs.0 ≡ front ++ later) × (length front ≡ length turns)
      × (AllKeepUp m s text front (turns ++ last ∷ []) → AllMayTell (turns ++ last ∷ []))) ∥₁
  run_front_tells turns last cut =
      let part = run_front f o m s name files files' out out' kept kept' t r turns last cut in
      ∥∥₁_map (front_made f o m s name files files' out out' kept kept' t r text told at part.planned part.later part.are) (λ w.
      let Little : List ℕ → Type 0 = λ z. AllKeepUp m s z part.planned (turns ++ last ∷ []) in (
        part.planned,
        part.later,
        part.are,
        part.long,
        λ little. home_tells m v s part.planned w.0 last cause.ReadFault turns part.facts short (subst Little (sym w.1) little),
      ))

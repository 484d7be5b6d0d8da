-- A run in which axes home, in a scene without entries, goes through, or ends as it homes.
use Rattle.std.proofs.Common.{All, ◌≡◌, ◌⊎◌, ℕ, pos, ◌+◌, ◌*◌, ◌^◌, ◌<◌, ◌≤◌, List, [], ◌∷◌, ◌++◌, length, map, Option, Some, None, refl, ap, sym, ◌∙◌, subst, arith, inl, inr, rules}
use Rattle.laws_board.proofs.Names.{length-map, Cause, Machine, Shut, board_tick, clock_of, turn_ns, lines_tick, IsValidMachine, axis_at, board_at, clocks_at, ShutNews, State, Scene, listen_all, stale, AllKeepLimits, first_state, orders, pins_of, LinkState, Orders, Homing, answer_in, hears_all, homing_turn, Known, Connecting, Stopping, is_out, noted, reacts, IsOwn, first_cause, stop_of, Came, known_by, state_at, parts_on, Started, Told, MotionTurn, ReactorTurn, item, All-nil, BoardDef, Level, Moves}
use Rattle.gcode_program.specs.Programs.{program_end}
use Rattle.plan_types.specs.declared.cause.Cause.TheVariants as cause
use Rattle.plan_types.specs.declared.plan.ReadStop.TheVariants as read
use Rattle.link_work.specs.Ends.{spoiled}
use Rattle.link_work.specs.Late.{IsLate}
use Rattle.link_work.proofs.Shut.{late_shutdown}
use Rattle.host_reactor.specs.declared.ordered.Phase.TheVariants.{Running}
use Rattle.host_reactor.specs.declared.ordered.Reading.{Reading}
use Rattle.host_reactor.specs.Running.{late}
use Rattle.host_reactor.specs.Runs.{HaveStates, told_by}
use Rattle.host_reactor.proofs.Connects.{silent-eight}
use Rattle.host_reactor.proofs.Rowing.{stays-whole, listened}
use Rattle.laws_board.specs.turns.Turns.{BoardTurn, latest_state, stands_after}
use Rattle.laws_board.specs.clocks.Runs.{IsInRun, UnitsFit}
use Rattle.laws_board.proofs.clocks.Lines.{as_long, noted_phase}
use Rattle.laws_board.proofs.clocks.Orders.{all_limits}
use Rattle.session_run.specs.Boards.{AreReactorTurns, came_from, came_in}
use Rattle.laws_board.specs.sections.Links.{AreTold, ends_of, turns_told}
use Rattle.laws_board.specs.sections.Parts.{AreOrdersOf}
use Rattle.laws_board.proofs.sections.Boarding.{last_told}
use Rattle.laws_run.specs.lanes.Boards.{IsInWhole, turns_behind, orders_of, states_of}
use Rattle.laws_board.specs.plans.Given.{TookControls}
use Rattle.laws_board.specs.plans.Lines.{TookNotes}
use Rattle.laws_board.specs.plans.Planned.{Plans}
use Rattle.laws_board.proofs.plans.Running.{orders_are}
use Rattle.laws_run.specs.run_ends.Ends.{EndsSo, GoesThrough, order, reading_of}
use Rattle.laws_run.proofs.run_ends.Connecting.{before_boards}
use Rattle.laws_run.proofs.run_ends.Counting.{run_counts}
use Rattle.laws_run.proofs.run_ends.Ending.{IsHoming, ends_so, homing_is, of_some, stops_so}
use Rattle.laws_board.specs.causes.Causes.{AreAskedAndHindered, IsHindered}
use Rattle.laws_board.proofs.causes.Connect.{connect_cause}
use Rattle.laws_board.proofs.causes.Stale.{stale_cause}
use Rattle.laws_run.specs.run_headline.Timely.{link_of}
use Rattle.laws_run.proofs.run_headline.Fronts.{controlled}
use Rattle.laws_run.proofs.run_headline.Going.{Lasts, lasts}
use Rattle.laws_run.proofs.run_headline.Plain.{AllMoves, all_moves}
use Rattle.laws_run.proofs.run_headline.Runs.{row_full}
use Rattle.laws_run.proofs.run_headline.Showing.{Facts, ends_own}
use Rattle.laws_run.proofs.clear_runs.Bare.{few_turns, have_more, late_at, latest_behind, no_steps, stale_low, unbegun_units, units_fit}
use Rattle.laws_run.proofs.clear_runs.Clearing.{run_unhindered}
use Rattle.laws_run.proofs.clear_runs.Exact.{not_behind}
use Rattle.laws_run.proofs.clear_runs.Punctual.{AreNear, NoUnits, all_soon_led, all_spilled_led, end_so, last_end, none_not_late}
use Rattle.laws_board.specs.clocks.Runs.{orders_in}
use Rattle.laws_board.specs.sections.Homes.{IsHomeBoard}
use Rattle.laws_run.proofs.run_headline.Boarded.{Ready, came_cut, came_split, lined, ready, took, valid_at}
use Rattle.laws_run.proofs.run_headline.Plain.{all_moves}
use Rattle.laws_run.proofs.run_headline.Showing.{came_long, cut_last, front_notes, in_none, long_own, not_told, took_notes, turns_cut}
use Rattle.laws_homing.specs.home_plans.Notes.{CameNotes, WasBegun}
use Rattle.laws_homing.proofs.home_plans.Knowing.{now_was}
use Rattle.laws_homing.specs.home_parts.Cuts.{cuts_on}
use Rattle.laws_run.specs.home_headline.Near.{KeepsUp}
use Rattle.laws_run.specs.home_headline.Little.{SendsAllInTime}
use Rattle.laws_run.proofs.home_headline.Board.{here}
use Rattle.laws_run.proofs.home_headline.Clear.{time_near}
use Rattle.laws_run.proofs.clear_homes.Timed.{sent_fits, sent_keeps}
use Rattle.laws_run.proofs.home_headline.Planned.{all_notes}
use Rattle.laws_board.specs.causes.Short.{HaveShortDictionaries}
use Rattle.laws_run.specs.clear_runs.Clear.{SendsAllSoon}
use Rattle.laws_run.proofs.clear_homes.Boards.{on}
use Rattle.laws_run.proofs.clear_homes.Expired.{expired_of, missed_of}
use Rattle.laws_run.proofs.clear_homes.Punctual.{RunsLed, cuts_led, soon_not_late}
use Rattle.laws_run.proofs.clear_homes.Whole.{never_expired, never_missed}
use Rattle.laws_run.specs.clear_homes.Closes.{MissesSwitch}
use Rattle.trigger_group.specs.declared.order.End.TheVariants as end_of
use Rattle.laws_homing.specs.missed_groups.Ticks.{IsSwitchTick}
use Rattle.laws_run.proofs.clear_runs.Through.{first_none, spilled}
use Rattle.laws_run.proofs.run_headline.Asked.{whole_by}
use Rattle.laws_board.specs.sections.Runs.{AreSpilled}
use Rattle.link_work.proofs.Spilled.{state_by}
use Rattle.laws_homing.proofs.missed_groups.Told.{same_state}
use Rattle.laws_run.proofs.run_headline.Earlier.{states_long}

-- those that are sent soon are sent in time
pub soon_all : (m : Machine) (text : List ℕ) (ts : List MotionTurn) → SendsAllSoon m text ts → SendsAllInTime m text ts
soon_all m text ts sends = search (rules, spilled, parts_on)

-- where all clocks are exact, units that are sent in time are sent soon
pub exact_all : (m : Machine) (text : List ℕ) (ts : List MotionTurn) → ((b : ℕ) → b < length m.boards → (board_at m b).drift ≡ pos 0) → SendsAllInTime m text ts → SendsAllSoon m text ts
exact_all m text ts exact sends = λ p t b same told low. inl (exact b low, sends p t b same told low)

-- how such a run ends: it went through, or a switch never closed
abbrev pub GoesOr : Cause → Type 0
GoesOr c = GoesThrough c ⊎ ((section : ℕ) × (c ≡ cause.NoSwitch section))

module _ (m : Machine) (v : IsValidMachine m) (short : HaveShortDictionaries m) (s : Scene) (ts : List MotionTurn) (p : Plans m (length m.boards) ts) (end : ReactorTurn) (c : Cause) (clear : s.entries ≡ [])
    (goes : (line : ℕ) → (program_end m p.seen.text).stop ≡ read.Stop line → ⊥) (sends : SendsAllSoon m p.seen.text ts) where
  -- a run of one turn
  module _ (f : Facts m s ts [] end c) (own : IsOwn c) where
    phase_alone : (noted m end.note f.known).phase ≡ Connecting
    phase_alone = noted_phase m end.note f.known ∙ ap (λ (r : Known). r.phase) (f.own own).0

    none_alone : end.states ≡ []
    none_alone = elim f.row [ inl a ↦ a.1 | inr a ↦ absurd (omega (arith, a.0)) ]

    silent_alone : (board turn : ℕ) → c ≡ cause.Connect board turn → ⊥
    silent_alone board turn e =
        let Ends : Known → Type 0 = λ r. (reacts m s.switches r 0 end.states end.note).ordered.end ≡ Some c in
        let ended : Ends (known_by m s.switches []) = subst Ends (f.own own).0 (sym (ends_own m s ts [] end c f own)) in
        let first = first_none m s.switches (known_by m s.switches []) 0 end.states end.note c (let o = ap order e in omega (arith, o)) refl ended in
        let eight = silent-eight m s.switches (came_in end) [] board turn tt none_alone (omega arith) first (ended ∙ ap Some e) in
        let until = eight.1.2.until in
        let few : length (told_by board (came_in end ∷ [])) ≡ 0 = ap (λ (x : List State). length (state_at board x ++ [])) none_alone in
        omega (arith, eight.1.1, until, few)

    alone : (d : Cause) → EndsSo m (noted m end.note f.known) 0 end.states d → c ≡ d → GoesThrough d
    alone d p1 p2 = search (rules, none_alone, silent_alone, phase_alone)

    pub through_alone : GoesThrough c
    through_alone = alone c (ends_so m s.switches f.known 0 end.states end.note c (f.own own).1 f.other (sym (ends_own m s ts [] end c f own))) refl

  -- a run of more
  module _ (first : ReactorTurn) (rest : List ReactorTurn) (f : Facts m s ts (first ∷ rest) end c) (own : IsOwn c) where
    abbrev All_came : List Came
    All_came = came_from [] (first ∷ rest)

    abbrev Now : Known
    Now = noted m end.note (known_by m s.switches (came_from [] (first ∷ rest)))

    ended : (reacts m s.switches (known_by m s.switches All_came) (length All_came) end.states end.note).ordered.end ≡ Some c
    ended =
        let Ends : Known → Type 0 = λ r. (reacts m s.switches r (length All_came) end.states end.note).ordered.end ≡ Some c in
        subst Ends (f.own own).0 (sym (ends_own m s ts (first ∷ rest) end c f own))

    untold : (known_by m s.switches All_came).stopped ≡ None
    untold = ap (λ (r : Known). r.stopped) (sym (f.own own).0) ∙ (f.own own).1

    some_came : 0 < length All_came
    some_came = let e = came_long [] (first ∷ rest) in omega (arith, e)

    many_states : length end.states ≡ length m.boards
    many_states = row_full (length m.boards) (length All_came) end some_came f.row

    -- the planner went on
    long : length (rest ++ end ∷ []) ≤ length p.made
    long = long_own m v s ts p end c first rest f own

    notes : TookNotes (map (λ t. t.note) p.made) (first ∷ (rest ++ end ∷ []))
    notes = took_notes m v s ts p end c first rest f long

    -- no unit is sent too late
    sents : (t : Told) → p.seen.told ≡ Some t → (b : ℕ) → b < length m.boards → AreSpilled (length p.made) 10_700 (parts_on m t.clocks p.seen.begun b)
    sents t told b low = time_near m p.seen.text ts (soon_all m p.seen.text ts sends) p t b refl told low

    -- each board keeps up
    little : (t : Told) → p.seen.told ≡ Some t → (b : ℕ) → b < length m.boards → (x : IsInWhole m s.switches b (clock_of (board_at m b)) (link_of m s b) ts first (rest ++ end ∷ []))
        → KeepsUp m s b ts first (rest ++ end ∷ []) p.seen.begun x
    little t told b low x = sent_keeps m v s ts p t first rest end c told f short clear (sents t told) b low x

    -- and its units fit
    fits_of : (t : Told) → p.seen.told ≡ Some t → (b : ℕ) (low : b < length m.boards) → UnitsFit (turns_behind [] (f.boards b first rest low refl).made)
    fits_of t told b low = sent_fits m v s ts p t first rest end c told f short clear (sents t told) b low (f.boards b first rest low refl)

    -- where the planner was told no clock lines, none homes
    none_moves : p.seen.told ≡ None → AllMoves All_came
    none_moves e =
        let kinds : (z : List Started) → z ≡ [] → All (λ s. s.section.kind ≡ Moves) z = λ z. λ same. (let All_in : List Started → Type 0 = λ y. All (λ (x : Started). x.section.kind ≡ Moves) y in subst All_in (sym same) (All-nil (λ (x : Started). x.section.kind ≡ Moves))) in
        all_moves m p.seen.text p.seen.begun p.made first rest (kinds p.seen.begun (not_told m v s ts p end c e)) p.put (front_notes m v s ts p end c first rest f notes)

    -- no turn told to stop
    read_so : (front : List ReactorTurn) (turn : ReactorTurn) → rest ≡ front ++ turn ∷ []
        → ((noted m turn.note (known_by m s.switches (came_from [] (first ∷ front)))).reading ≡ None) ⊎ ((noted m turn.note (known_by m s.switches (came_from [] (first ∷ front)))).reading ≡ Some (reading_of m p.seen.text))
    read_so front turn cut =
        let Took : List ReactorTurn → Type 0 = λ z. TookNotes (map (λ (y : MotionTurn). y.note) p.made) (first ∷ z) in
        (run_counts m p.seen.text s.switches p.seen.begun p.made first front turn p.put (subst Took cut (front_notes m v s ts p end c first rest f notes))).reading

    no_stop : (o : Option Reading) (line : ℕ) → (o ≡ None) ⊎ (o ≡ Some (reading_of m p.seen.text)) → stop_of o ≡ read.Stop line → ⊥
    no_stop o line (inl n) e = let g : read.End ≡ read.Stop line = sym (ap stop_of n) ∙ e in cc
    no_stop o line (inr r) e = goes line (sym (ap stop_of r) ∙ e)

    not_stopping : (line : ℕ) → (known_by m s.switches All_came).phase ≡ Stopping line → ⊥
    not_stopping line phase = elim (cut_last rest) [
      | inl e ↦
          let came : All_came ≡ came_in first ∷ [] = ap (λ (z : List ReactorTurn). came_from [] (first ∷ z)) e in
          let Stops : List Came → Type 0 = λ z. (known_by m s.switches z).phase ≡ Stopping line in
          let w = stops_so m s.switches (known_by m s.switches []) 0 first.states first.note line f.turns.0.goes_on (subst Stops came phase) in
          absurd (let g : Connecting ≡ Running = sym (noted_phase m first.note (known_by m s.switches [])) ∙ w.running in cc)
      | inr x ↦
          let before = came_from [] (first ∷ x.0) in
          let came : All_came ≡ came_in x.1 ∷ before = ap (λ (z : List ReactorTurn). came_from [] (first ∷ z)) x.2 ∙ came_split [] (first ∷ x.0) x.1 [] in
          let Stops : List Came → Type 0 = λ z. (known_by m s.switches z).phase ≡ Stopping line in
          let Turns : List ReactorTurn → Type 0 = λ z. AreReactorTurns m s.switches [] (first ∷ z) in
          let parts = turns_cut m s.switches [] (first ∷ x.0) (x.1 ∷ []) (subst Turns x.2 f.turns) in
          let w = stops_so m s.switches (known_by m s.switches before) (length before) x.1.states x.1.note line parts.1.0.goes_on (subst Stops came phase) in
          no_stop (noted m x.1.note (known_by m s.switches before)).reading line (read_so x.0 x.1 x.2) w.stops
    ]

    module _ (b : ℕ) (low : b < length m.boards) where
      pub w : IsInWhole m s.switches b (clock_of (board_at m b)) (link_of m s b) ts first (rest ++ end ∷ [])
      w = f.boards b first rest low refl

      run : IsInRun m s.switches (pins_of (board_at m b) b s.switches) s.entries b (came_from [] (first ∷ rest)) (turns_behind [] w.made)
      run =
          let Run : List Came → Type 0 = λ x. IsInRun m s.switches (pins_of (board_at m b) b s.switches) s.entries b x (turns_behind [] w.made) in
          subst Run (came_cut [] first rest end) (record { board = low; goes_on = w.goes_on; turns_are = w.turns_are; both = w.both; in_range = w.in_range })

      -- the last state of the board
      last : Lasts b rest end (states_of w.made)
      last = lasts b rest end (states_of w.made) (took b (rest ++ end ∷ []) (states_of w.made) w.states)

      count : length (orders_of w.made) ≡ length (rest ++ end ∷ [])
      count =
          length-map w.made (λ (x : BoardTurn). orders x.control x.batch) ∙ sym (length-map w.made (λ (x : BoardTurn). x.state)) ∙ states_long b (rest ++ end ∷ []) (states_of w.made) w.states

      -- where the planner was told no clock lines, no units are sent
      none_controls : p.seen.told ≡ None → TookControls (orders_of w.made)
      none_controls e = let Took : List Orders → Type 0 = λ x. TookControls x in subst Took w.in_order (controlled m v s.switches (pins_of (board_at m b) b s.switches) s.entries b (came_from [] (first ∷ rest)) (turns_behind [] w.made) run (none_moves e))

      none_sent : p.seen.told ≡ None → NoUnits (orders_of w.made)
      none_sent e =
          let t : Told = record { clocks = []; first = 0 } in
          let Of : List Started → Type 0 = λ x. AreOrdersOf (parts_on m t.clocks x b) 0 (orders_of w.made) in
          unbegun_units 0 (orders_of w.made) (subst Of (not_told m v s ts p end c e) (orders_are m ts p t b (orders_of w.made) low (omega (arith, count, long)) w.batches (none_controls e)))

      none_fits : p.seen.told ≡ None → UnitsFit (turns_behind [] w.made)
      none_fits e = let No : List Orders → Type 0 = λ x. NoUnits x in units_fit (turns_behind [] w.made) (subst No (sym w.in_order) (none_sent e))

      -- and else they are those of its sections
      module _ (t : Told) (told : p.seen.told ≡ Some t) where
        abbrev Ready_in : Ready m v s ts p t first rest end told
        Ready_in = ready m v s ts p t first rest end told f.ahead f.words_left f.turns f.words

        home : IsHomeBoard b s.entries (length (came_from [] Ready_in.past)) (length (rest ++ end ∷ [])) (cuts_on m t.clocks (length (rest ++ end ∷ [])) p.seen.begun b) (here m v s ts p t first rest end told b w)
        unfolding w
        home = on m v s ts p t first rest end c told f long short (little t told) b low

        told_fits : UnitsFit (turns_behind [] w.made)
        unfolding w
        told_fits = fits_of t told b low

        -- the line of an exact clock
        exact : (board_at m b).drift ≡ pos 0 → (k : ℕ) → length (came_from [] Ready_in.past) ≤ k → board_tick (clock_of (board_at m b)) k ≤ lines_tick (clocks_at t.clocks b) ((k + 0) * turn_ns)
        exact drift k from =
            let own = lined m v s ts p t first rest end told b Ready_in w low in
            not_behind (clock_of (board_at m b)) (turns_behind [] w.made) (clocks_at t.clocks b) (length (came_from [] Ready_in.past)) k (valid_at m.boards b low v.boards).freq drift own.kept own.line.sampled own.sampled own.line.early from

      -- the units of its turns keep their limit
      fits_by : (o : Option Told) → p.seen.told ≡ o → UnitsFit (turns_behind [] w.made)
      fits_by None e = none_fits e
      fits_by (Some t) e = told_fits t e

      fits : UnitsFit (turns_behind [] w.made)
      fits = fits_by p.seen.told refl

      limits : AllKeepLimits (orders_of w.made)
      limits =
          let Limits : List Orders → Type 0 = λ x. AllKeepLimits x in
          subst Limits w.in_order (all_limits m s.switches (pins_of (board_at m b) b s.switches) s.entries b (came_from [] (first ∷ rest)) (turns_behind [] w.made) v run not_stopping fits)

      -- no asking of it is hindered
      unhindered : (k : ℕ) → IsHindered (first_state (board_at m b) (pins_of (board_at m b) b s.switches) b s.entries) (turns_behind [] w.made) k → ⊥
      unhindered k h = run_unhindered m s.switches (pins_of (board_at m b) b s.switches) s.entries b (came_from [] (first ∷ rest)) (turns_behind [] w.made) k v run clear not_stopping fits h

      heard : state_at b end.states ≡ latest_state (turns_behind [] w.made)
      heard = same_state b end.states ∙ last.at ∙ sym (latest_behind [] w.made last.front last.last last.are)

      few_came : length (came_from [] (first ∷ rest)) < 2 ^ 59
      few_came =
          let same = as_long m s.switches b (came_from [] (first ∷ rest)) (turns_behind [] w.made) run.both in
          let few = few_turns (board_at m b) (length (turns_behind [] w.made)) (valid_at m.boards b low v.boards) w.in_range in
          omega (arith, same, few)

      -- no unit came too late to it
      in_time : (state : State) (n : ShutNews) → item b end.states ≡ state ∷ [] → state.shut ≡ Some n → n.reason ≡ 1 → ⊥
      in_time state n at shut one = by p.seen.told refl
        where
          def : BoardDef
          def = board_at m b

          pins : List (List Level)
          pins = pins_of (board_at m b) b s.switches

          after : LinkState
          after = stands_after (link_of m s b) (turns_behind [] w.made)

          same : last.last ≡ state
          same = let e : last.last ∷ [] ≡ state ∷ [] = sym last.at ∙ at in cc

          shut_of : (os : List Orders) (l : LinkState) → AreTold (clock_of (board_at m b)) 0 os (states_of w.made) (link_of m s b) l → l.core.board.controller.state ≡ Shut 1 n.tick n.first
          shut_of os l told_so =
              let To : List State → Type 0 = λ y. AreTold (clock_of (board_at m b)) 0 os y (link_of m s b) l in
              let told = last_told (clock_of (board_at m b)) 0 os last.front last.last (link_of m s b) l (subst To last.are told_so) in
              state_by l.core.board.controller.state last.last.shut n told.1 (ap (λ (x : State). x.shut) same ∙ shut) ∙ ap (λ r. Shut r n.tick n.first) one

          late_of : (os : List Orders) (l : LinkState) (told_so : AreTold (clock_of (board_at m b)) 0 os (states_of w.made) (link_of m s b) l) → AllKeepLimits os
              → IsLate (clock_of (board_at m b)) os (link_of m s b) (ends_of (clock_of (board_at m b)) 0 os (link_of m s b) l (turns_told (clock_of (board_at m b)) 0 os (states_of w.made) (link_of m s b) l told_so)) n.tick n.first
          late_of os l told_so keep =
              let clock = clock_of (board_at m b) in
              let turns = turns_told clock 0 os (states_of w.made) (link_of m s b) l told_so in
              let Last : LinkState → Type 0 = λ x. x.core.board.controller.state ≡ Shut 1 n.tick n.first in
              late_shutdown (board_at m b) (pins_of (board_at m b) b s.switches) b s.entries os (ends_of clock 0 os (link_of m s b) l turns) n.tick n.first keep
              (end_so clock 0 os (link_of m s b) l turns) (subst Last (sym (last_end clock 0 os (link_of m s b) l turns)) (shut_of os l told_so))

          by : (o : Option Told) → p.seen.told ≡ o → ⊥
          by None e =
              let clock = clock_of (board_at m b) in
              none_not_late clock (orders_of w.made) (link_of m s b) (ends_of clock 0 (orders_of w.made) (link_of m s b) after (turns_told clock 0 (orders_of w.made) (states_of w.made) (link_of m s b) after w.told))
              n.tick n.first (none_sent e) (none_controls e) (late_of (orders_of w.made) after w.told limits)
          by (Some t) e =
              let clock = clock_of (board_at m b) in
              let k = home t e in
              let size = length (rest ++ end ∷ []) in
              let cuts = cuts_on m t.clocks size p.seen.begun b in
              let ready_at = length (came_from [] (Ready_in t e).past) in
              let Keep : List Orders → Type 0 = λ z. AllKeepLimits z in
              let y = late_of (orders_in (turns_behind [] w.made)) k.end k.told (subst Keep (sym w.in_order) limits) in
              let late = λ (n' : ℕ). λ (near : AreNear k.own (clocks_at t.clocks b) ready_at size k.run_is.tracked.until n'). λ (led : RunsLed (length p.made) n' cuts).
              soon_not_late b s.entries ready_at size (length p.made) n' cuts (here m v s ts p t first rest end e b w) k n.tick n.first clear near led long y in
              elim (sends p t b refl e low) [
                | inl x ↦ late 0 (λ j from low to. (let near = exact t e x.0 j from in omega (arith, near, k.own_is.same j (omega (arith, low))))) (cuts_led m t.clocks (length p.made) 0 size b p.seen.begun (all_spilled_led (length p.made) (parts_on m t.clocks p.seen.begun b) x.1))
                | inr x ↦ late 1 (λ j from low to. k.run_is.tracked.behind j from to) (cuts_led m t.clocks (length p.made) 1 size b p.seen.begun (all_soon_led (length p.made) (parts_on m t.clocks p.seen.begun b) x))
              ]

    -- no board was told clock lines while the reactor connects
    connecting_untold : (known_by m s.switches All_came).phase ≡ Connecting → p.seen.told ≡ None
    connecting_untold phase = by p.seen.told refl
      where
        by : (o : Option Told) → p.seen.told ≡ o → p.seen.told ≡ None
        by None e = e
        by (Some t) e =
            let r = ready m v s ts p t first rest end e f.ahead f.words_left f.turns f.words in
            let Turns : List ReactorTurn → Type 0 = λ z. AreReactorTurns m s.switches [] z in
            let parts = turns_cut m s.switches [] r.past (r.turn ∷ r.later) (subst Turns r.are f.turns) in
            let Phase : List Came → Type 0 = λ z. (known_by m s.switches z).phase ≡ Connecting in
            let back = before_boards m s.switches (came_in r.turn ∷ came_from [] r.past) r.later parts.1.1 (subst Phase r.came_is phase) in
            absurd (let g : Running ≡ Connecting = sym r.is.then ∙ back.0 in cc)

    -- nothing came before such a cause
    first_is : 2 < order c → first_cause (is_out end.note) (noted m end.note (known_by m s.switches All_came)).stopped end.states ≡ None
    first_is high = first_none m s.switches (known_by m s.switches All_came) (length All_came) end.states end.note c high untold ended

    have : (b : ℕ) → b < length m.boards → HaveStates m (came_in end ∷ All_came)
    have b low = search (rules, have_more, some_came, many_states, came_cut)

    silent : (board turn : ℕ) → c ≡ cause.Connect board turn → (known_by m s.switches All_came).phase ≡ Connecting → ⊥
    silent board turn e phase =
        let high : 2 < order c = (let o = ap order e in omega (arith, o)) in
        let all = have 0 v.boards_some in
        let eight = silent-eight m s.switches (came_in end) All_came board turn (run 0 v.boards_some).goes_on all (few_came 0 v.boards_some) (first_is high) (ended ∙ ap Some e) in
        let low = eight.0 in
        let x = w board low in
        let No : List Orders → Type 0 = λ z. NoUnits z in
        let none = no_steps (turns_behind [] x.made) (subst No (sym x.in_order) (none_sent board low (connecting_untold phase))) in
        let why = connect_cause m s.switches (pins_of (board_at m board) board s.switches) s.entries board (came_in end) All_came (turns_behind [] x.made) turn v (run board low) all (heard board low) none (few_came board low) (first_is high) (ended ∙ ap Some e) in
        let many = why.1 in
        unhindered board low (turn + 4 * 0) (why.3.each 0 (omega (arith, many)))

    stale_never : (board turn : ℕ) → c ≡ cause.Stale board turn → stale (length All_came) 0 (listen_all Now.askings.items end.states) ≡ Some (cause.Stale board turn) → ⊥
    stale_never board turn e is =
        let high : 2 < order c = (let o = ap order e in omega (arith, o)) in
        let whole = (stays-whole m end.note (known_by m s.switches All_came) (whole_by m s.switches All_came)).askings in
        let bound = stale_low (length All_came) 0 (listen_all Now.askings.items end.states) board turn is in
        let size = listened Now.askings.items end.states in
        let low : board < length m.boards = omega (arith, bound, size, whole) in
        let x = w board low in
        let why = stale_cause m s.switches (pins_of (board_at m board) board s.switches) s.entries board (came_in end) All_came (turns_behind [] x.made) turn v (run board low) (heard board low) (fits board low) (few_came board low) (first_is high) (ended ∙ ap Some e) in
        let asked = why.1 in
        hindered_first board low asked.0 asked.1 asked.5
      where
        hindered_first : (b : ℕ) (low : b < length m.boards) (ks : List ℕ) → 200 ≤ length ks → AreAskedAndHindered (first_state (board_at m b) (pins_of (board_at m b) b s.switches) b s.entries) (turns_behind [] (w b low).made) ks → ⊥
        hindered_first b low [] many h = absurd (omega (arith, many))
        hindered_first b low (k ∷ ks) many h = unhindered b low k h.0.1

    late_never : (d : Cause) → late 0 end.states ≡ Some d → ⊥
    late_never d e = search (rules, late_at, many_states, in_time)

    -- no homing group answers that a board expired
    notes_came : CameNotes p.seen.begun (came_in end ∷ All_came)
    notes_came =
        let Notes : List Came → Type 0 = λ z. CameNotes p.seen.begun z in
        subst Notes (came_split [] (first ∷ rest) end []) (all_notes m p.seen.text p.seen.begun p.made first (rest ++ end ∷ []) p.put notes)

    expired_never : (board turn : ℕ) → (homing_turn Now.clocks (length All_came) end.states Now.homing).end ≡ Some (cause.Expired board turn) → ⊥
    expired_never board turn e = by p.seen.told refl
      where
        by : (o : Option Told) → p.seen.told ≡ o → ⊥
        by None none =
            let is = expired_of Now.clocks (length All_came) board turn end.states Now.homing e in
            let was = now_was m s.switches p.seen.begun (came_in end) All_came (run 0 v.boards_some).goes_on notes_came in
            let begun = subst (λ (o : Option Homing). WasBegun p.seen.begun o) is.1 was in
            in_none begun.0 begun.1 begun.2 p.seen.begun (not_told m v s ts p end c none) begun.4
        by (Some t) some =
            let is = expired_of Now.clocks (length All_came) board turn end.states Now.homing e in
            never_expired m v s ts p t first rest end c some f long short (little t some) clear not_stopping (have 0 v.boards_some) (λ b low. in_time b low) notes (fits_of t some) is.0 is.1 board turn is.2

    -- where one answers that no switch closed, none did in time
    missed_so : (section : ℕ) → (homing_turn Now.clocks (length All_came) end.states Now.homing).end ≡ Some (cause.NoSwitch section) → MissesSwitch m s p.seen section
    missed_so section e = by p.seen.told refl
      where
        by : (o : Option Told) → p.seen.told ≡ o → MissesSwitch m s p.seen section
        by o told =
            let is = missed_of Now.clocks (length All_came) section end.states Now.homing e in
            let h = is.0 in
            let was : WasBegun p.seen.begun (Some h) = subst (λ (z : Option Homing). WasBegun p.seen.begun z) is.1 (now_was m s.switches p.seen.begun (came_in end) All_came (run 0 v.boards_some).goes_on notes_came) in
            by_told o told h is.1 is.2 is.3 was
          where
            by_told : (o : Option Told) → p.seen.told ≡ o → (h : Homing) → Now.homing ≡ Some h → answer_in (length All_came) h.start (hears_all Now.clocks end.states h).group ≡ Some end_of.NoSwitch → section ≡ h.section
                → WasBegun p.seen.begun (Some h) → MissesSwitch m s p.seen section
            by_told None told h is answers number was = absurd (in_none was.0 was.1 was.2 p.seen.begun (not_told m v s ts p end c told) was.4)
            by_told (Some t) told h is answers number was =
                let late = never_missed m v s ts p t first rest end c told f long short (little t told) clear not_stopping (have 0 v.boards_some) (λ b low. in_time b low) notes (fits_of t told) h is answers in
                let Late : ℕ → ℕ → ℕ → Type 0 = λ axis start last. (tick : ℕ) → IsSwitchTick m (pins_of (board_at m (axis_at m axis).board) (axis_at m axis).board s.switches) (axis_at m axis).board (axis_at m axis)
                (lines_tick (clocks_at t.clocks (axis_at m axis).board) (start * turn_ns)) tick → lines_tick (clocks_at t.clocks (axis_at m axis).board) ((last + 1) * turn_ns) ≤ tick in
                let at_last : Late h.axis h.start was.1.last = subst (λ (n : ℕ). Late h.axis h.start n) was.10 late in
                let at_start : Late h.axis was.1.start was.1.last = subst (λ (n : ℕ). Late h.axis n was.1.last) was.6 at_last in
                let at_axis : Late was.3 was.1.start was.1.last = subst (λ (n : ℕ). Late n was.1.start was.1.last) was.9 at_start in
                record { told = t; told_is = told; past = was.0; x = was.1; later = was.2; axis = was.3; cut = was.4; number = number ∙ was.8; home = was.5; late = at_axis }

    goes_through : (d : Cause) → EndsSo m Now (length All_came) end.states d → c ≡ d → GoesOr d
    goes_through d p1 p2 = search (rules, expired_never, late_never, silent, noted_phase, known_by, stale_never, of_some, homing_turn, homing_is)

    pub through_all : GoesOr c
    through_all =
        let Ends : Known → Type 0 = λ r. EndsSo m (noted m end.note r) (length All_came) end.states c in
        goes_through c (subst Ends (f.own own).0 (ends_so m s.switches f.known (length All_came) end.states end.note c (f.own own).1 f.other (sym (ends_own m s ts (first ∷ rest) end c f own)))) refl

    pub missed_all : (section : ℕ) → c ≡ cause.NoSwitch section → MissesSwitch m s p.seen section
    missed_all section e =
        let Ends : Known → Type 0 = λ r. EndsSo m (noted m end.note r) (length All_came) end.states c in
        let so : EndsSo m Now (length All_came) end.states c = subst Ends (f.own own).0 (ends_so m s.switches f.known (length All_came) end.states end.note c (f.own own).1 f.other (sym (ends_own m s ts (first ∷ rest) end c f own))) in
        let By : Cause → Type 0 = λ d. EndsSo m Now (length All_came) end.states d in
        missed_so section (subst By e so).1

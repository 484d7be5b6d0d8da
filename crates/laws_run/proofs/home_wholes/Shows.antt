-- Why the lines of a whole run in which axes home tell whole plans of sections of moves.
use Rattle.std.proofs.Common.{◌≡◌, ◌≢◌, ℕ, ◌+◌, ◌<◌, ◌≤◌, Bool, List, [], ◌∷◌, ◌++◌, All, length, map, take, Option, None, Some, refl, ap, sym, ◌∙◌, subst, arith, inl, inr, append-nil, length-append}
use Rattle.std.specs.Prelude.{if◌then◌else◌}
use Rattle.laws_board.proofs.Names.{∥∥₁_map, eqb_tells, leb_tells, flat_map-append, Cause, Level, Machine, Moves, clock_of, IsValidMachine, board_at, stepper_at, stepper_plan, ShutNews, State, Entry, Scene, Switch, pins_of, Orders, Known, Connecting, Stopping, noted, Run, Came, known_by, AreStarted, Started, Told, ReportLine, MotionTurn, ReactorTurn, parts_on}
use Rattle.std.proofs.lemmas.List.{take_all}
use Rattle.plan_types.specs.declared.cause.Cause.TheVariants as cause
use Rattle.plan_types.specs.declared.plan.ReadStop.TheVariants as read
use Rattle.io_core.specs.declared.traits.Files.{Ghosts as Files}
use Rattle.io_core.specs.declared.traits.Sink.{Ghosts as Sink}
use Rattle.host_reactor.specs.declared.ordered.Phase.TheVariants.{Running}
use Rattle.host_reactor.specs.Running.{late_of}
use Rattle.laws_board.specs.turns.Turns.{BoardTurn}
use Rattle.laws_board.specs.clocks.Runs.{IsInRun, orders_in}
use Rattle.laws_board.proofs.clocks.Lines.{noted_phase, run_before}
use Rattle.laws_board.proofs.clocks.Orders.{order_length}
use Rattle.session_lanes.specs.declared.near.Told as near
use Rattle.session_run.specs.declared.tell.Kept.{Kept}
use Rattle.session_run.specs.Boards.{AreReactorTurns, came_from, came_in}
use Rattle.session_run.specs.Runs.{RunsOver}
use Rattle.laws_run.specs.lanes.Boards.{IsInWhole}
use Rattle.section_units.specs.Sections.{AreReleased}
use Rattle.laws_board.specs.sections.Boards.{IsWindow}
use Rattle.laws_board.specs.sections.Stops.{NeverStop}
use Rattle.laws_board.specs.plans.Boards.{TookStates, lines_between, times_of}
use Rattle.laws_board.specs.plans.Lines.{TookNotes, pulse_in, pulses_of}
use Rattle.laws_board.specs.plans.Planned.{Plans}
use Rattle.laws_board.proofs.plans.Beginning.{Spread}
use Rattle.laws_board.proofs.plans.Running.{started_in}
use Rattle.laws_board.proofs.plans.Spreading.{plans_spread}
use Rattle.laws_run.specs.run_ends.Ends.{EndsSo, GoesThrough, WentThrough}
use Rattle.laws_run.proofs.run_ends.Counting.{run_counts}
use Rattle.laws_run.proofs.run_ends.Ending.{AtLast, AtStop, ends_so, own_cause, stops_so, went, some_none}
use Rattle.laws_run.specs.run_headline.Made.{IsMade}
use Rattle.laws_run.specs.run_headline.Timely.{clocks_heard, link_of, ready_heard}
use Rattle.laws_run.proofs.run_headline.Boarded.{came_split}
use Rattle.laws_run.proofs.run_headline.Earlier.{ended_all, ends_late, lines_before, lines_last, lines_up_to, next_sooner, over_at, states_long}
use Rattle.laws_run.proofs.run_headline.Going.{Gone, gone, gone_released, lasts, one_idle, one_in_time, released_here}
use Rattle.laws_run.proofs.run_headline.Joining.{of_sections}
use Rattle.laws_run.proofs.run_headline.Making.{run_made}
use Rattle.laws_run.proofs.run_headline.Runs.{facts, run_ended}
use Rattle.laws_run.proofs.run_headline.Showing.{Facts, alone_ends, came_long, cut_last, ends_own, in_none, long_or, not_told, notes_before, starts_late, took_notes, turns_cut}
use Rattle.laws_run.specs.home_headline.Follow.{AllShowHomes, FollowHomes}
use Rattle.laws_run.specs.home_headline.Cuts.{TellEnds}
use Rattle.laws_board.specs.causes.Short.{HaveShortDictionaries}
use Rattle.laws_run.specs.home_headline.Near.{AllKeepUp, KeepsUp}
use Rattle.laws_run.proofs.home_headline.Switches.{all_ends}
use Rattle.laws_run.proofs.home_headline.Following.{follows}
use Rattle.laws_run.proofs.home_headline.Shows.{all_shows}
use Rattle.laws_run.specs.home_wholes.Whole.{AllWholeHomes, WholeHomes}
use Rattle.laws_run.proofs.home_wholes.Lines.{Here, Turns_of, as_told_by, count, idle_many, passed_told, run_of, took_states}
use Rattle.laws_run.proofs.home_wholes.Places.{orders_front}
use Rattle.laws_run.proofs.home_headline.Unasked.{never_stop}

not_late : (j : ℕ) (o : Option ShutNews) → late_of j o ≡ None → (n : ShutNews) → o ≡ Some n → n.reason ≡ 1 → ⊥
not_late j o e n is one =
    let late : late_of j (Some n) ≡ None = ap (late_of j) (sym is) ∙ e in
    let At : Bool → Type 0 = λ b. (if b then Some (cause.Late j n.first n.tick n.spoiled n.spill) else None) ≡ None in
    elim (eqb_tells n.reason 1) [ inl p ↦ some_none (cause.Late j n.first n.tick n.spoiled n.spill) (subst At p.0 late) | inr p ↦ p.1 one ]

-- no board is told to stop in the turns before the last
front_never : (m : Machine) (switches : List Switch) (pins : List (List Level)) (entries : List Entry) (b : ℕ) (c : Came) (before : List Came) (turns : List BoardTurn) (n : ℕ) → IsInRun m switches pins entries b (c ∷ before) turns
    → ((line : ℕ) → (known_by m switches before).phase ≡ Stopping line → ⊥) → n + 1 ≡ length turns → NeverStop (take n (orders_in turns))
front_never m switches pins entries b c before [] n r none size = absurd r.both
front_never m switches pins entries b c before (t ∷ turns) n r none size =
    let same : n ≡ length turns = omega (arith, size) in
    let front : take n (orders_in (t ∷ turns)) ≡ orders_in turns = ap (λ (k : ℕ). take k (orders_in (t ∷ turns))) same ∙ orders_front (t ∷ []) turns in
    let Never : List Orders → Type 0 = λ os. NeverStop os in
    subst Never (sym front) (never_stop m switches pins entries b before turns (run_before m switches pins entries b c before t turns r) none)

module _ (m : Machine) (v : IsValidMachine m) (s : Scene) (ts : List MotionTurn) (p : Plans m (length m.boards) ts) (end : ReactorTurn) (c : Cause) where
  -- why the last turn ended the run
  ends : (rs : List ReactorTurn) (f : Facts m s ts rs end c) → GoesThrough c → EndsSo m (noted m end.note (known_by m s.switches (came_from [] rs))) (length (came_from [] rs)) end.states c
  ends rs f g =
      let own = f.own (own_cause c g) in
      let At : Known → Type 0 = λ r. EndsSo m (noted m end.note r) (length (came_from [] rs)) end.states c in
      subst At own.0 (ends_so m s.switches f.known (length (came_from [] rs)) end.states end.note c own.1 f.other (sym (ends_own m s ts rs end c f (own_cause c g))))

  module _ (first : ReactorTurn) (rest : List ReactorTurn) (f : Facts m s ts (first ∷ rest) end c) (short : HaveShortDictionaries m) (little : AllKeepUp m s p.seen.text ts (first ∷ (rest ++ end ∷ []))) where
    abbrev Came_all : List Came
    Came_all = came_from [] (first ∷ rest)

    abbrev Last_known : Known
    Last_known = noted m end.note (known_by m s.switches Came_all)

    abbrev At_last : Type 0
    At_last = AtLast Last_known (length Came_all) end.states c

    not_stopping : At_last → (line : ℕ) → (known_by m s.switches Came_all).phase ≡ Stopping line → ⊥
    not_stopping w line e = let g : Running ≡ Stopping line = sym w.2.running ∙ noted_phase m end.note (known_by m s.switches Came_all) ∙ e in cc

    -- a run that was asked to stop went through in the turn before the last one
    record Stopped : Type 0 where
      line : ℕ
      front : List ReactorTurn
      turn : ReactorTurn
      are : rest ≡ front ++ turn ∷ []
      came : came_from [] (first ∷ rest) ≡ came_in turn ∷ came_from [] (first ∷ front)
      went : WentThrough (noted m turn.note (known_by m s.switches (came_from [] (first ∷ front)))) (length (came_from [] (first ∷ front))) turn.states (read.Stop line)

    stopped : AtStop Last_known c → Stopped
    stopped a =
        let line = a.0 in
        let Stops : List Came → Type 0 = λ z. (known_by m s.switches z).phase ≡ Stopping line in
        let phase : Stops (came_from [] (first ∷ rest)) = sym (noted_phase m end.note (known_by m s.switches (came_from [] (first ∷ rest)))) ∙ a.2 in
        elim (cut_last rest) [
          | inl e ↦
              let came : came_from [] (first ∷ rest) ≡ came_in first ∷ [] = ap (λ (z : List ReactorTurn). came_from [] (first ∷ z)) e in
              let w = stops_so m s.switches (known_by m s.switches []) 0 first.states first.note line f.turns.0.goes_on (subst Stops came phase) in
              absurd (let g : Connecting ≡ Running = sym (noted_phase m first.note (known_by m s.switches [])) ∙ w.running in cc)
          | inr x ↦
              let before = came_from [] (first ∷ x.0) in
              let came : came_from [] (first ∷ rest) ≡ came_in x.1 ∷ before = ap (λ (z : List ReactorTurn). came_from [] (first ∷ z)) x.2 ∙ came_split [] (first ∷ x.0) x.1 [] in
              let Turns : List ReactorTurn → Type 0 = λ z. AreReactorTurns m s.switches [] (first ∷ z) in
              let parts = turns_cut m s.switches [] (first ∷ x.0) (x.1 ∷ []) (subst Turns x.2 f.turns) in
              record {
                line = line;
                front = x.0;
                turn = x.1;
                are = x.2;
                came = came;
                went = stops_so m s.switches (known_by m s.switches before) (length before) x.1.states x.1.note line parts.1.0.goes_on (subst Stops came phase);
              }
        ]

    gone_before : (x : Stopped) → Gone m p.seen.text p.seen.begun (length rest) (noted m x.turn.note (known_by m s.switches (came_from [] (first ∷ x.front)))) (read.Stop x.line)
    gone_before x =
        let before = came_from [] (first ∷ x.front) in
        let now = noted m x.turn.note (known_by m s.switches before) in
        let Took : List ReactorTurn → Type 0 = λ z. TookNotes (map (λ (y : MotionTurn). y.note) p.made) (first ∷ z) in
        let notes = notes_before m v s ts p end c first rest f in
        let counts = run_counts m p.seen.text s.switches p.seen.begun p.made first x.front x.turn p.put (subst Took x.are notes) in
        let size = came_long [] (first ∷ x.front) in
        let place : length (first ∷ x.front) ≡ length rest = (let e = ap length x.are in omega (arith, e, length-append x.front (x.turn ∷ []))) in
        let By : ℕ → Type 0 = λ n. Gone m p.seen.text p.seen.begun n now (read.Stop x.line) in
        subst By place (gone m p.seen.text p.seen.begun (length (first ∷ x.front)) (length before) now x.turn.states (read.Stop x.line) counts (omega (arith, size)) (of_sections m ts p) x.went)

    over_before : Stopped → All (λ y. y.end + 5 ≤ length rest) p.seen.begun
    over_before x = (gone_before x).over

    gone_last : (w : At_last) → length (rest ++ end ∷ []) ≤ length p.made → Gone m p.seen.text p.seen.begun (length (first ∷ rest)) Last_known w.0
    gone_last w l =
        let size = came_long [] (first ∷ rest) in
        let counts = run_counts m p.seen.text s.switches p.seen.begun p.made first rest end p.put (took_notes m v s ts p end c first rest f l) in
        gone m p.seen.text p.seen.begun (length (first ∷ rest)) (length Came_all) Last_known end.states w.0 counts (omega (arith, size)) (of_sections m ts p) w.2

    module _ (t : Told) (told : p.seen.told ≡ Some t) (some : p.seen.begun ≢ []) where
      small : (b : ℕ) → b < length m.boards → (w : IsInWhole m s.switches b (clock_of (board_at m b)) (link_of m s b) ts first (rest ++ end ∷ [])) → KeepsUp m s b ts first (rest ++ end ∷ []) p.seen.begun w
      small b h w = little p b refl some h w

      by_told : FollowHomes m t p.seen first (rest ++ end ∷ [])
      by_told = follows m v s ts p t first rest end c told f short small

      -- where the last turn is idle
      counted : (w_all : At_last) → length (rest ++ end ∷ []) ≤ length p.made → (past : List Started) (x : Started) (later : List Started) (from to place : ℕ) → p.seen.begun ≡ past ++ x ∷ later → x.section.kind ≡ Moves → place < length m.steppers
          → IsWindow (length (rest ++ end ∷ [])) from to (record { start = x.start; end = x.end }) (times_of later) → x.end + 5 ≤ to
          → length (pulses_of place (lines_between from to (rest ++ end ∷ []))) ≡ length (stepper_plan m t.clocks x.section.moves x.start place)
      counted w_all l past x later from to place cut moves h w over =
          let b = (stepper_at m place).board in
          let low : b < length m.boards = (v.steppers place h).board in
          let n = length (rest ++ end ∷ []) in
          let all = Turns_of m v s ts p t first rest end c told f short b low in
          let states = (Here m v s ts p t first rest end c told f short b low).states in
          let took = took_states m v s ts p t first rest end c told f short b low in
          let last = lasts b rest end states took in
          let idle = one_idle b end.states last.last w_all.2.through.idle last.at in
          let in_order = one_in_time 0 b end.states last.last w_all.2.none_late last.at in
          let size : length (last.front ++ last.last ∷ []) ≡ n = ap length (sym last.are) ∙ states_long b (rest ++ end ∷ []) states took in
          let many = count m v s ts p t first rest end c told f short small b low in
          let orders = order_length all in
          let Never : List Orders → Type 0 = λ os. NeverStop os in
          let never = subst Never (sym (take_all n (orders_in all) (omega (arith, many, orders))))
          (never_stop m s.switches (pins_of (board_at m b) b s.switches) s.entries b Came_all all (run_of m v s ts p t first rest end c told f short b low) (not_stopping w_all)) in
          let within = w.within in
          let more = length-append rest (end ∷ []) in
          let Released : List Started → Type 0 = λ z. AreReleased n (parts_on m t.clocks z b) in
          let released = gone_released m p.seen.text p.seen.begun (length (first ∷ rest)) Last_known w_all.0 t.clocks b n (gone_last w_all l) (omega (arith, more)) low in
          let put = released_here m t.clocks b n past x later (subst Released cut released) in
          as_told_by m v s ts p t first rest end c told f short small x from to place h
          (idle_many m v s ts p t first rest end c told f short small past x later cut moves from to w over b low n last.front [] last.last put within (omega arith) (last.are ∙ sym (append-nil (last.front ++ last.last ∷ []))) size never
          (not_late in_order.0 last.last.shut in_order.1) idle (stepper_at m place).oid)

      -- where it was asked to stop, by the turns before the last one
      module _ (y : Stopped) where
        not_about : (line : ℕ) → (known_by m s.switches (came_from [] (first ∷ y.front))).phase ≡ Stopping line → ⊥
        not_about line e = let g : Running ≡ Stopping line = sym y.went.running ∙ noted_phase m y.turn.note (known_by m s.switches (came_from [] (first ∷ y.front))) ∙ e in cc

        counted_before : (past : List Started) (x : Started) (later : List Started) (from to place : ℕ) → p.seen.begun ≡ past ++ x ∷ later → x.section.kind ≡ Moves → place < length m.steppers
            → IsWindow (length (rest ++ end ∷ [])) from to (record { start = x.start; end = x.end }) (times_of later) → x.end + 5 ≤ to → to ≤ length rest
            → length (pulses_of place (lines_between from to (rest ++ end ∷ []))) ≡ length (stepper_plan m t.clocks x.section.moves x.start place)
        counted_before past x later from to place cut moves h w over reach =
            let b = (stepper_at m place).board in
            let low : b < length m.boards = (v.steppers place h).board in
            let n = length rest in
            let all = Turns_of m v s ts p t first rest end c told f short b low in
            let states = (Here m v s ts p t first rest end c told f short b low).states in
            let last = lasts b rest end states (took_states m v s ts p t first rest end c told f short b low) in
            let Took : List ReactorTurn → Type 0 = λ z. TookStates b z last.front in
            let took = subst Took y.are last.took in
            let here = lasts b y.front y.turn last.front took in
            let idle = one_idle b y.turn.states here.last y.went.through.idle here.at in
            let in_order = one_in_time 0 b y.turn.states here.last y.went.none_late here.at in
            let size : length (here.front ++ here.last ∷ []) ≡ n = ap length (sym here.are) ∙ states_long b (y.front ++ y.turn ∷ []) last.front took ∙ ap length (sym y.are) in
            let more = length-append rest (end ∷ []) in
            let many = count m v s ts p t first rest end c told f short small b low in
            let Run : List Came → Type 0 = λ z. IsInRun m s.switches (pins_of (board_at m b) b s.switches) s.entries b z all in
            let run = subst Run y.came (run_of m v s ts p t first rest end c told f short b low) in
            let never = front_never m s.switches (pins_of (board_at m b) b s.switches) s.entries b (came_in y.turn) (came_from [] (first ∷ y.front)) all n run not_about (omega (arith, many, more)) in
            let Released : List Started → Type 0 = λ z. AreReleased n (parts_on m t.clocks z b) in
            let released = gone_released m p.seen.text p.seen.begun n (noted m y.turn.note (known_by m s.switches (came_from [] (first ∷ y.front)))) (read.Stop y.line) t.clocks b n (gone_before y) (omega arith) low in
            let put = released_here m t.clocks b n past x later (subst Released cut released) in
            as_told_by m v s ts p t first rest end c told f short small x from to place h
            (idle_many m v s ts p t first rest end c told f short small past x later cut moves from to w over b low n here.front (last.last ∷ []) here.last put reach (omega (arith, more)) (last.are ∙ ap (λ (z : List State). z ++ last.last ∷ []) here.are) size never
            (not_late in_order.0 here.last.shut in_order.1) idle (stepper_at m place).oid)

        -- the last turn has no pulses
        none_last : (place : ℕ) → place < length m.steppers → pulses_of place end.lines ≡ []
        none_last place h =
            let n = length rest in
            let more = length-append rest (end ∷ []) in
            let over = ended_all n p.seen.begun (over_before y) in
            ap (pulses_of place) (sym (lines_last (n + 1) rest end refl)) ∙ by_told.between p.seen.begun [] n (n + 1) place (sym (append-nil p.seen.begun)) h (omega arith) (omega (arith, more)) over tt

        counted_stop : (past : List Started) (x : Started) (later : List Started) (from to place : ℕ) → p.seen.begun ≡ past ++ x ∷ later → x.section.kind ≡ Moves → place < length m.steppers
            → IsWindow (length (rest ++ end ∷ [])) from to (record { start = x.start; end = x.end }) (times_of later) → x.end + 5 ≤ to
            → length (pulses_of place (lines_between from to (rest ++ end ∷ []))) ≡ length (stepper_plan m t.clocks x.section.moves x.start place)
        counted_stop past x later from to place cut moves h w over = elim (leb_tells to (length rest)) [
          | inl q ↦ counted_before past x later from to place cut moves h w over q.1
          | inr q ↦
              let n = length rest in
              let more = length-append rest (end ∷ []) in
              let far = q.1 in
              let within = w.within in
              let begins = w.begins in
              let last : to ≡ n + 1 = omega (arith, far, within, more) in
              let Over : List Started → Type 0 = λ z. All (λ (s : Started). s.end + 5 ≤ n) z in
              let ended = over_at n past x later (subst Over cut (over_before y)) in
              let Starts : List Started → Type 0 = λ z. AreStarted m t.clocks t.first z in
              let late = ends_late m t.clocks t.first past x later (subst Starts cut (started_in m ts p t told)) in
              let order : from ≤ n = omega (arith, begins, ended, late) in
              let lines = lines_between from n rest in
              let both : pulses_of place (lines ++ end.lines) ≡ pulses_of place lines = flat_map-append (pulse_in place) lines end.lines ∙ ap (λ z. pulses_of place lines ++ z) (none_last place h) ∙ append-nil (pulses_of place lines) in
              ap (λ (z : List ReportLine). length (pulses_of place z)) (lines_up_to from to rest end order last) ∙ ap length both
              ∙ ap (λ (z : List ReportLine). length (pulses_of place z)) (sym (lines_before from n rest end order (omega arith)))
              ∙ counted_before past x later from n place cut moves h (record { begins = begins; order = order; within = omega (arith, more); next = next_sooner n to (times_of later) (omega (arith, last)) w.next }) ended (omega arith)
        ]

      made_all : GoesThrough c → length (rest ++ end ∷ []) ≤ length p.made
      made_all g = elim (long_or m v s ts p end c first rest f) [ inl l ↦ l | inr z ↦ absurd (z.1 (own_cause c g)) ]

      whole_told : GoesThrough c → (past : List Started) (x : Started) (later : List Started) (from to place : ℕ) → p.seen.begun ≡ past ++ x ∷ later → x.section.kind ≡ Moves → place < length m.steppers
          → IsWindow (length (rest ++ end ∷ [])) from to (record { start = x.start; end = x.end }) (times_of later) → x.end + 5 ≤ to
          → length (pulses_of place (lines_between from to (rest ++ end ∷ []))) ≡ length (stepper_plan m t.clocks x.section.moves x.start place)
      whole_told g past x later from to place cut moves h w over = elim (went m Last_known (length Came_all) end.states c g (ends (first ∷ rest) f g)) [
        | inl a ↦ counted a (made_all g) past x later from to place cut moves h w over
        | inr a ↦ counted_stop (stopped a) past x later from to place cut moves h w over
      ]

    wholes_by : (o : Option Told) → p.seen.told ≡ o → WholeHomes m p.seen (clocks_heard p.seen.told) c (rest ++ end ∷ [])
    wholes_by None e = record {
      whole = λ g past x later from to place cut moves h w over. absurd (in_none past x later p.seen.begun (not_told m v s ts p end c e) cut);
      passed = λ past x later from to place other cut moves h k same w over some. absurd (in_none past x later p.seen.begun (not_told m v s ts p end c e) cut);
    }
    wholes_by (Some t) e =
        let At : Option Told → Type 0 = λ o. WholeHomes m p.seen (clocks_heard o) c (rest ++ end ∷ []) in
        let all : At (Some t) = record {
          whole = λ g past x later from to place cut moves h w over. whole_told t e (λ none. in_none past x later p.seen.begun none cut) g past x later from to place cut moves h w over;
          passed = λ past x later from to place other cut moves h k same w over some.
              passed_told m v s ts p t first rest end c e f short (small t e (λ none. in_none past x later p.seen.begun none cut)) past x later from to place other cut moves h k same w over some;
        } in
        subst At (sym e) all

    pub wholes : WholeHomes m p.seen (clocks_heard p.seen.told) c (rest ++ end ∷ [])
    wholes = wholes_by p.seen.told refl

  -- a run of one turn
  wholes_alone : Facts m s ts [] end c → WholeHomes m p.seen (clocks_heard p.seen.told) c []
  wholes_alone f =
      let spread = plans_spread m (length m.boards) ts p in
      let Spreads : List Started → Type 0 = λ z. Spread 260 z in
      record {
        whole = λ g. absurd (alone_ends m v s ts p end c f g);
        passed = λ past x later from to place other cut moves h k same w over some.
            let late = starts_late 260 past x later (subst Spreads cut spread) in
            let begins = w.begins in
            let order = w.order in
            let within = w.within in
            absurd (omega (arith, late, begins, order, within));
      }

  pub all_wholes : (rs : List ReactorTurn) → Facts m s ts rs end c → HaveShortDictionaries m → AllKeepUp m s p.seen.text ts (rs ++ end ∷ []) → AllWholeHomes m p.seen (clocks_heard p.seen.told) c (rs ++ end ∷ [])
  all_wholes [] f short little = wholes_alone f
  all_wholes (first ∷ rest) f short little = wholes first rest f short little

pub run_wholes : {F S : Type 0} (f : Files F) (o : Sink S) (m : Machine) (s : Scene) (name : List ℕ) (files files' : F) (out out' : S) (kept kept' : Kept) (t : near.Told Run) (r : RunsOver f o m s name files out kept t files' out' kept') → IsValidMachine m → (text : List ℕ)
    → f.told files name ≡ Some text → kept.at ≡ 0 → ∥ ((made : IsMade m s r.runs.0 r.runs.1) × (made.plans.seen.text ≡ text) × ((t.cause ≡ cause.Memory → ⊥) → HaveShortDictionaries m → AllKeepUp m s text r.runs.0 (r.runs.1 ++ r.runs.2 ∷ [])
    → AllShowHomes m made.plans.seen (clocks_heard made.plans.seen.told) (ready_heard made.plans.seen.told) t.cause (r.runs.1 ++ r.runs.2 ∷ [])
    × AllWholeHomes m made.plans.seen (clocks_heard made.plans.seen.told) t.cause (r.runs.1 ++ r.runs.2 ∷ []))
    × ((t.cause ≡ cause.Memory → ⊥) → TellEnds m s.switches made.plans.seen.begun 0 (r.runs.1 ++ r.runs.2 ∷ []))) ∥₁
run_wholes f o m s name files files' out out' kept kept' t r v text told at =
    ∥∥₁_map (run_made f o m s name files files' out out' kept kept' t r text told at) (λ w.
    let made = w.0 in
    let Little : List ℕ → Type 0 = λ z. AllKeepUp m s z r.runs.0 (r.runs.1 ++ r.runs.2 ∷ []) in (
      made,
      w.1,
      λ other short little.
          let all = facts f o m s name files files' out out' kept kept' t r other in
          let held = subst Little (sym w.1) little in (
            all_shows m v s r.runs.0 made.plans r.runs.2 t.cause r.runs.1 all short held,
            all_wholes m v s r.runs.0 made.plans r.runs.2 t.cause r.runs.1 all short held,
          ),
      λ other. all_ends m v s r.runs.0 made.plans r.runs.2 t.cause r.runs.1 (run_ended f o m s name files files' out out' kept kept' t r other),
    ))

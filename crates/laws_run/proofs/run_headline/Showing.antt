-- What a whole run shows of the sections that its planner begun.
use Rattle.std.proofs.Common.{◌≡◌, ◌≢◌, ℕ, suc, ◌+◌, ◌<◌, ◌≤◌, ◌⊎◌, List, [], ◌∷◌, ◌++◌, All, map, length, Option, Some, None, refl, ap, sym, ◌∙◌, subst, arith, inl, inr, append_assoc, append-nil, length-append, rules}
use Rattle.laws_board.proofs.Names.{leb_tells, length-map, Cause, Machine, Moves, one_line, IsValidMachine, board_at, clocks_at, Note, WordMsg, Line, Scene, Known, Connecting, Stopping, noted, IsOwn, Came, known_by, last_reacted, AreStarted, Started, Told, MotionTurn, ReactorTurn, gather, clock_of}
use Rattle.gcode_program.specs.Programs.{program_end, program_sections}
use Rattle.plan_types.specs.declared.cause.Cause.TheVariants as cause
use Rattle.plan_types.specs.declared.plan.ReadStop.TheVariants as read
use Rattle.plan_types.specs.Sections.{first_start}
use Rattle.msg_code.specs.declared.talk.WordNews.TheVariants as word
use Rattle.board_asking.specs.Connecting.{connected_lines}
use Rattle.host_reactor.specs.declared.ordered.Phase.TheVariants.{Running}
use Rattle.host_reactor.specs.Running.{text_end}
use Rattle.laws_board.proofs.clocks.Lines.{noted_phase}
use Rattle.laws_board.specs.causes.Short.{HaveShortDictionaries}
use Rattle.laws_run.specs.clock_ages.Renewed.{StayYoung}
use Rattle.laws_run.proofs.clock_ages.Renews.{renews}
use Rattle.session_work.specs.Leads.{last_words}
use Rattle.session_work.specs.Rows.{option_items}
use Rattle.session_run.specs.Boards.{AreReactorTurns, came_from, came_in}
use Rattle.laws_board.specs.plans.Lines.{AreLinesOf, TellTurns, TookNotes}
use Rattle.laws_board.specs.plans.Planned.{AreBare, AreToldBy, LastHomes, Plans, put_of, puts_of}
use Rattle.laws_board.proofs.plans.Heard.{heard_few}
use Rattle.laws_board.proofs.plans.Beginning.{Spread}
use Rattle.laws_board.proofs.plans.Spreading.{IsLate, plans_spread, turns_late}
use Rattle.laws_board.proofs.plans.Telling.{all_tell, begin_snoc, notes_tell, put_begin}
use Rattle.laws_run.specs.lanes.Boards.{IsInWhole}
use Rattle.laws_run.specs.run_headline.Timely.{AreHeard, AreOfMoves, AreSound, AreThrough, HoldsLittle, IsTimelyIn, TellBoards, clocks_heard, link_of, ready_heard}
use Rattle.laws_run.specs.run_headline.Further.{TellFurther}
use Rattle.laws_run.proofs.run_headline.Reporting.{told_further}
use Rattle.laws_run.specs.run_ends.Ends.{EndsSo, GoesThrough, WentThrough, reading_of}
use Rattle.report_text.specs.declared.line.ReportLine.TheVariants as report
use Rattle.host_reactor.specs.Report.{count_lines}
use Rattle.host_reactor.proofs.Blames.{blames}
use Rattle.laws_run.specs.run_ends.Boards.{boards_of, counts_of, lines_at}
use Rattle.laws_run.proofs.run_ends.Counted as numbers
use Rattle.laws_run.proofs.run_ends.Counted.{counts_append}
use Rattle.laws_run.proofs.run_ends.Connecting.{after_boards, as_clocks, before_boards, boards_append, tells_boards}
use Rattle.laws_run.proofs.run_ends.Counting.{IsRead, read_note, read_turn, run_counts}
use Rattle.laws_run.proofs.run_ends.Ending.{AtLast, AtStop, ends_so, own_cause, stops_so, went}
use Rattle.laws_run.proofs.run_headline.Boarded.{among_turn, came_split, few_near, ready, sound_of}
use Rattle.laws_run.proofs.run_headline.Going.{Gone, gone}
use Rattle.laws_run.proofs.run_headline.Heard.{long_or_none, notes_cut}
use Rattle.laws_run.proofs.run_headline.Joining.{of_sections, row_none}
use Rattle.laws_run.proofs.run_headline.Plain.{all_moves}
use Rattle.laws_run.proofs.run_headline.Further.{noted_boards}
use Rattle.laws_run.proofs.run_headline.Words.{Among, among_left, gather_words, last_tells, made_numbered, news_in, turns_tell}
pub use Rattle.laws_run.proofs.run_headline.Facts.{shows_link, first_at, go_on, notes_of, EachNoted, some_note, noted_so, goes_noted, took_noted, none_out, front_each, each_front, notes_both, no_turns, starts_late, none_begun, in_none, kinds_of, none_homes, lines_all, came_long, turns_cut, cut_last, ended_read, over_later, none_at, first_pulses, homes_never, ends_own, last_boards, Ended, Facts}

module _ (m : Machine) (v : IsValidMachine m) (s : Scene) (ts : List MotionTurn) (p : Plans m (length m.boards) ts) (end : ReactorTurn) (c : Cause) where
  spread : Spread 260 p.seen.begun
  spread = plans_spread m (length m.boards) ts p

  pub heard : AreHeard (clocks_heard p.seen.told) p.seen
  heard t e = sym (ap clocks_heard e)

  pub not_told : p.seen.told ≡ None → p.seen.begun ≡ []
  not_told e = subst (λ o. AreToldBy m o p.seen.begun) e p.sections

  -- the sections start one behind the other
  pub started : (o : Option Told) → p.seen.told ≡ o → (260 ≤ ready_heard p.seen.told) × AreStarted m (clocks_heard p.seen.told) (ready_heard p.seen.told) p.seen.begun
  started o p1 = search (rules, not_told, turns_late)

  -- why the last turn ended the run
  ends : (rs : List ReactorTurn) (f : Facts m s ts rs end c) → GoesThrough c → EndsSo m (noted m end.note (known_by m s.switches (came_from [] rs))) (length (came_from [] rs)) end.states c
  ends rs f g = search (rules, own_cause, noted, ends_so)

  module _ (first : ReactorTurn) (rest : List ReactorTurn) (f : Facts m s ts (first ∷ rest) end c) where
    pub each : EachNoted (rest ++ end ∷ [])
    each =
        let last = noted_so m (length (came_from [] (first ∷ rest))) end (let e = came_long [] (first ∷ rest) in omega arith) f.row f.clear in
        goes_noted m s.switches (came_in first ∷ []) rest (end ∷ []) (omega arith) f.turns.1 (last, tt)

    pub none : first.note ≡ None
    none = row_none (length m.boards) first f.turns.0.row

    pub notes_are : gather (λ x. x.note ∷ []) ts ≡ notes_of (rest ++ end ∷ []) ++ f.notes_left
    notes_are = f.notes ∙ ap (λ o. (option_items o ++ notes_of (rest ++ end ∷ [])) ++ f.notes_left) none

    pub size : length (rest ++ end ∷ []) ≡ length (first ∷ rest)
    size = let e = length-append rest (end ∷ []) in omega arith

    -- no more of the text could be read before any section was begun
    pub record Unread : Type 0 where
      pub none : p.seen.begun ≡ []
      pub never : IsOwn c → ⊥

    -- the planner went on, or the reading stopped before any section was begun, or while the last one homes
    pub long_or : (length (rest ++ end ∷ []) ≤ length p.made) ⊎ (((p.seen.told ≡ None) ⊎ LastHomes (length p.made) p.seen.begun) × (IsOwn c → ⊥) × (length (rest ++ end ∷ []) ≤ length (p.made ++ p.last)))
    long_or =
        let n = none_out (rest ++ end ∷ []) each in
        elim (long_or_none m s.switches (length m.boards) ts p (first ∷ rest) c f.stops f.from f.to (notes_of (rest ++ end ∷ [])) f.notes_left (last_words (length (first ∷ rest)) f.ahead) f.words_left f.fresh f.goes f.turns f.words notes_are n.0
        (omega (arith, n.1, size))) [
          | inl l ↦ inl (omega (arith, l, n.1))
          | inr z ↦ inr (z.0, z.1, (let l = z.2 in omega (arith, l, n.1)))
        ]

    -- or no section was begun, where the last one does not home
    pub long_moves : (LastHomes (length p.made) p.seen.begun → ⊥) → (length (rest ++ end ∷ []) ≤ length p.made) ⊎ Unread
    long_moves none = elim long_or [ inl l ↦ inl l | inr z ↦ inr (record { none = elim z.0 [ inl e ↦ not_told e | inr w ↦ absurd (none w) ]; never = z.1 }) ]

    -- it heard as many words as notes were taken, and made all turns but perhaps the last
    pub hears : length (rest ++ end ∷ []) ≤ length (p.made ++ p.last)
    hears = let more = length-append p.made p.last in elim long_or [ inl l ↦ omega (arith, l, more) | inr z ↦ z.2 ]

    pub few : length (rest ++ end ∷ []) ≤ length p.made + 1
    few = let one = heard_few m (length m.boards) ts p in let all = hears in omega (arith, one, all)

    -- a run that ends for a cause of its own has read on
    pub long_own : IsOwn c → length (rest ++ end ∷ []) ≤ length p.made
    long_own own = elim long_or [ inl l ↦ l | inr z ↦ absurd (z.1 own) ]

    pub are_lines : AreLinesOf m s.switches [] (first ∷ (rest ++ end ∷ []))
    are_lines = lines_all m s.switches [] (first ∷ rest) end f.turns (f.known, f.begun, f.lines_are)

    -- the planner goes on
    pub took_notes : length (rest ++ end ∷ []) ≤ length p.made → TookNotes (map (λ t. t.note) p.made) (first ∷ (rest ++ end ∷ []))
    took_notes l =
        let cut : map (λ (t : MotionTurn). t.note) p.made ++ gather (λ (t : MotionTurn). t.note ∷ []) p.bare ≡ notes_of (rest ++ end ∷ []) ++ f.notes_left =
        sym (notes_cut p.made p.bare) ∙ ap (gather (λ (t : MotionTurn). t.note ∷ [])) (sym p.are) ∙ notes_are in
        (none, took_noted (rest ++ end ∷ []) (map (λ (t : MotionTurn). t.note) p.made) (gather (λ (t : MotionTurn). t.note ∷ []) p.bare) f.notes_left each (omega (arith, l, length-map p.made (λ (t : MotionTurn). t.note))) cut)

    pub front_notes : TookNotes (map (λ t. t.note) p.made) (first ∷ (rest ++ end ∷ [])) → TookNotes (map (λ t. t.note) p.made) (first ∷ rest)
    front_notes h = (h.0, front_each (map (λ (x : MotionTurn). x.note) p.made) rest (end ∷ []) h.1)

    -- the notes before the last, whether it goes on or not
    pub notes_before : TookNotes (map (λ t. t.note) p.made) (first ∷ rest)
    notes_before =
        let notes = map (λ (d : MotionTurn). d.note) p.made in
        let others = gather (λ (d : MotionTurn). d.note ∷ []) p.bare in
        let cut : notes ++ others ≡ notes_of rest ++ (notes_of (end ∷ []) ++ f.notes_left) =
        sym (notes_cut p.made p.bare) ∙ ap (gather (λ (d : MotionTurn). d.note ∷ [])) (sym p.are) ∙ notes_are ∙ ap (λ z. z ++ f.notes_left) (notes_both rest (end ∷ [])) ∙ append_assoc (notes_of rest) (notes_of (end ∷ [])) f.notes_left in
        let many = length-map p.made (λ (d : MotionTurn). d.note) in
        let most = few in
        (none, took_noted rest notes others (notes_of (end ∷ []) ++ f.notes_left) (each_front rest (end ∷ []) each) (omega (arith, most, size, length-append rest (end ∷ []), many)) cut)

    -- the boards
    pub place : (b : ℕ) → (b < length m.boards) ⊎ (length m.boards ≤ b)
    place b = elim (leb_tells (suc b) (length m.boards)) [ inl q ↦ inl (omega (arith, q.1)) | inr q ↦ inr (omega (arith, q.1)) ]

    pub lines_long : length (rest ++ end ∷ []) ≤ length p.made → TellTurns m p.seen.begun 0 (first ∷ (rest ++ end ∷ []))
    lines_long l = all_tell m s.switches p.seen.text p.seen.begun 260 p.made (first ∷ (rest ++ end ∷ [])) spread (omega arith) p.put (took_notes l) are_lines

    -- where the last note is not of a turn that the planner made it tells nothing
    bare_lines : length p.made < length (rest ++ end ∷ []) → (bare : List MotionTurn) → p.bare ≡ bare → TellTurns m p.seen.begun 0 (first ∷ (rest ++ end ∷ []))
    bare_lines more [] are =
        let notes = map (λ (x : MotionTurn). x.note) p.made in
        let whole = sym (notes_cut p.made []) ∙ ap (λ z. gather (λ (x : MotionTurn). x.note ∷ []) (p.made ++ z)) (sym are) ∙ ap (gather (λ (x : MotionTurn). x.note ∷ [])) (sym p.are) ∙ notes_are in
        let o = none_out (rest ++ end ∷ []) each in
        let long = ap length whole in
        absurd (omega (arith, more, long, length-append notes [], length-append (notes_of (rest ++ end ∷ [])) f.notes_left, length-map p.made (λ (x : MotionTurn). x.note), o.1))
    bare_lines more (d ∷ bare) are =
        let notes = map (λ (x : MotionTurn). x.note) p.made in
        let left = gather (λ (x : MotionTurn). x.note ∷ []) bare in
        let Bare : List MotionTurn → Type 0 = λ z. AreBare (length m.boards) (0 + length p.made) z in
        let quiet = (subst Bare are p.are_bare).0.3 in
        let cut : (notes ++ d.note ∷ []) ++ left ≡ notes_of (rest ++ end ∷ []) ++ f.notes_left =
        append_assoc notes (d.note ∷ []) left ∙ sym (notes_cut p.made (d ∷ bare)) ∙ ap (λ z. gather (λ (x : MotionTurn). x.note ∷ []) (p.made ++ z)) (sym are) ∙ ap (gather (λ (x : MotionTurn). x.note ∷ [])) (sym p.are) ∙ notes_are in
        let most = few in
        let made = length-map p.made (λ (x : MotionTurn). x.note) in
        let puts = length-map p.made put_of in
        let number : length (puts_of p.made) + 260 ≡ 0 + length notes + 260 = omega (arith, made, puts) in
        let Soon : ℕ → Type 0 = λ j. All (λ (x : Started). x.start < j) p.seen.begun in
        let took : TookNotes (notes ++ d.note ∷ []) (first ∷ (rest ++ end ∷ [])) =
        (none, took_noted (rest ++ end ∷ []) (notes ++ d.note ∷ []) left f.notes_left each (omega (arith, most, made, length-append notes (d.note ∷ []))) cut) in
        notes_tell m s.switches p.seen.begun 260 (notes ++ d.note ∷ []) (first ∷ (rest ++ end ∷ [])) spread (omega arith)
        (begin_snoc m p.seen.begun 0 notes d.note (put_begin m p.seen.text p.seen.begun 0 p.made p.put) (ap (λ (x : Note). x.news) quiet) (subst Soon number p.started)) took are_lines

    pub all_lines : TellTurns m p.seen.begun 0 (first ∷ (rest ++ end ∷ []))
    all_lines = elim (leb_tells (length (rest ++ end ∷ [])) (length p.made)) [ inl q ↦ lines_long q.1 | inr q ↦ bare_lines q.1 p.bare refl ]

    -- the boards' lines
    lines_both : (xs ys : List ReactorTurn) → boards_of (gather (λ t. t.lines) (xs ++ ys)) ≡ boards_of (gather (λ t. t.lines) xs) ++ boards_of (gather (λ t. t.lines) ys)
    lines_both [] ys = refl
    lines_both (x ∷ xs) ys =
        let l = λ (zs : List ReactorTurn). gather (λ (t : ReactorTurn). t.lines) zs in
        boards_append x.lines (l (xs ++ ys)) ∙ ap (λ z. boards_of x.lines ++ z) (lines_both xs ys) ∙ sym (append_assoc (boards_of x.lines) (boards_of (l xs)) (boards_of (l ys))) ∙ ap (λ z. z ++ boards_of (l ys)) (sym (boards_append x.lines (l xs)))

    pub told_boards : (t : Told) → p.seen.told ≡ Some t → TellBoards t.clocks t.first (first ∷ (rest ++ end ∷ []))
    told_boards t told =
        let r = ready m v s ts p t first rest end told f.ahead f.words_left f.turns f.words in
        let lines = λ (zs : List ReactorTurn). gather (λ (z : ReactorTurn). z.lines) zs in
        let before = came_from [] r.past in
        let Turns : List ReactorTurn → Type 0 = λ z. AreReactorTurns m s.switches [] z in
        let parts = turns_cut m s.switches [] r.past (r.turn ∷ r.later) (subst Turns r.are f.turns) in
        let x = last_reacted m s.switches (came_in r.turn) before in
        let early = before_boards m s.switches [] r.past parts.0 r.is.phase in
        let here : (ls : List Line) × (boards_of r.turn.lines ≡ connected_lines (length before) 0 ls) × (x.ordered.word.news ≡ word.Lines ls ∷ []) = elim (tells_boards m s.switches (known_by m s.switches before) (length before) r.turn.states r.turn.note) [
          | inl q ↦ absurd (let g : Running ≡ Connecting = sym r.is.then ∙ q.1 parts.1.0.goes_on (noted_phase m r.turn.note (known_by m s.switches before) ∙ r.is.phase) in cc)
          | inr c ↦ (c.lines, ap boards_of parts.1.0.lines_are ∙ c.boards, c.news)
        ] in
        let same : here.0 ≡ r.is.lines = (let g : word.Lines here.0 ∷ [] ≡ word.Lines r.is.lines ∷ [] = sym here.2 ∙ r.is.news in cc) in
        let own : connected_lines (length before) 0 here.0 ≡ lines_at (first_start (length before)) 0 t.clocks =
        as_clocks (length before) 0 here.0 ∙ ap (λ ls. lines_at (first_start (length before)) 0 (map one_line ls)) same ∙ ap (lines_at (first_start (length before)) 0) (sym r.is.clocks_are)
        ∙ sym (noted_boards (first_start (length before)) (news_in (r.heard.turn ∷ r.heard.later)) r.heard.clocks) ∙ ap (lines_at (first_start (length before)) 0) (sym r.heard.on) in
        let on : (known_by m s.switches (came_in r.turn ∷ before)).phase ≡ Connecting → ⊥ = λ e. let g : Running ≡ Connecting = sym r.is.then ∙ e in cc in
        let after = after_boards m s.switches (came_in r.turn ∷ before) r.later parts.1.1 on in
        let last = last_boards m s ts first rest end c f r.past r.turn r.later r.are on in
        let count = came_long [] r.past in
        record {
          past = r.past ++ r.turn ∷ [];
          later = r.later ++ end ∷ [];
          are = ap (λ z. z ++ end ∷ []) r.are ∙ append_assoc r.past (r.turn ∷ r.later) (end ∷ []) ∙ sym (append_assoc r.past (r.turn ∷ []) (r.later ++ end ∷ []));
          early = omega (arith, r.early, count, length-append r.past (r.turn ∷ []));
          lines = lines_both r.past (r.turn ∷ []) ∙ ap (λ z. z ++ boards_of (lines (r.turn ∷ []))) early.1 ∙ ap boards_of (append-nil r.turn.lines) ∙ here.1 ∙ own ∙ ap (λ (n : ℕ). lines_at n 0 t.clocks) (sym r.first_is);
          rest = lines_both r.later (end ∷ []) ∙ ap (λ z. z ++ boards_of (lines (end ∷ []))) after ∙ ap boards_of (append-nil end.lines) ∙ last;
        }

    pub boards_told : (o : Option Told) → p.seen.told ≡ o → p.seen.begun ≢ [] → TellBoards (clocks_heard p.seen.told) (ready_heard p.seen.told) (first ∷ (rest ++ end ∷ []))
    boards_told o p1 p2 = search (rules, not_told, told_boards)

    -- by sound clock lines
    pub sound_by : (o : Option Told) → p.seen.told ≡ o → p.seen.begun ≢ [] → AreSound m (clocks_heard p.seen.told) (ready_heard p.seen.told)
    sound_by None e some = absurd (some (not_told e))
    sound_by (Some t) e some =
        let At : Option Told → Type 0 = λ o. AreSound m (clocks_heard o) (ready_heard o) in
        let r = ready m v s ts p t first rest end e f.ahead f.words_left f.turns f.words in
        subst At (sym e) (sound_of m v s ts p t first rest end e r (λ b h. f.boards b first rest h refl))

    -- and the lines tell the further ones
    pub further_by : (o : Option Told) → p.seen.told ≡ o → p.seen.begun ≢ [] → (front later : List ReactorTurn) → first ∷ (rest ++ end ∷ []) ≡ front ++ later → TellFurther m (clocks_heard p.seen.told) (length front + 271) (gather (λ t. t.lines) front)
    further_by None e some front later are = absurd (some (not_told e))
    further_by (Some t) e some front later are =
        let At : Option Told → Type 0 = λ o. TellFurther m (clocks_heard o) (length front + 271) (gather (λ (x : ReactorTurn). x.lines) front) in
        subst At (sym e) (told_further m v s ts p end c first rest f t e front later are (length front + 271) (omega arith))

    -- what is known in the last turn, behind its note
    abbrev Last_known : Known
    Last_known = noted m end.note (known_by m s.switches (came_from [] (first ∷ rest)))

    number : length (came_from [] (first ∷ rest)) ≡ length (first ∷ rest)
    number = let e = came_long [] (first ∷ rest) in omega (arith, e)

    abbrev At_last : Type 0
    At_last = AtLast Last_known (length (came_from [] (first ∷ rest))) end.states c

    through_so : GoesThrough c → At_last ⊎ AtStop Last_known c
    through_so g = went m Last_known (length (came_from [] (first ∷ rest))) end.states c g (ends (first ∷ rest) f g)

    -- a run that was asked to stop went through in the turn before the last one
    pub record Stopped : Type 0 where
      pub line : ℕ
      pub cause_is : c ≡ cause.Asked line
      pub front : List ReactorTurn
      pub turn : ReactorTurn
      pub are : rest ≡ front ++ turn ∷ []
      pub came : came_from [] (first ∷ rest) ≡ came_in turn ∷ came_from [] (first ∷ front)
      pub went : WentThrough (noted m turn.note (known_by m s.switches (came_from [] (first ∷ front)))) (length (came_from [] (first ∷ front))) turn.states (read.Stop line)

    stopped : AtStop Last_known c → Stopped
    stopped a =
        let line = a.0 in
        let Stops : List Came → Type 0 = λ z. (known_by m s.switches z).phase ≡ Stopping line in
        let phase : Stops (came_from [] (first ∷ rest)) = sym (noted_phase m end.note (known_by m s.switches (came_from [] (first ∷ rest)))) ∙ a.2 in
        elim (cut_last rest) [
          | inl e ↦
              let came : came_from [] (first ∷ rest) ≡ came_in first ∷ [] = ap (λ (z : List ReactorTurn). came_from [] (first ∷ z)) e in
              let w = stops_so m s.switches (known_by m s.switches []) 0 first.states first.note line f.turns.0.goes_on (subst Stops came phase) in
              absurd (let g : Connecting ≡ Running = sym (noted_phase m first.note (known_by m s.switches [])) ∙ w.running in cc)
          | inr x ↦
              let before = came_from [] (first ∷ x.0) in
              let came : came_from [] (first ∷ rest) ≡ came_in x.1 ∷ before = ap (λ (z : List ReactorTurn). came_from [] (first ∷ z)) x.2 ∙ came_split [] (first ∷ x.0) x.1 [] in
              let Turns : List ReactorTurn → Type 0 = λ z. AreReactorTurns m s.switches [] (first ∷ z) in
              let parts = turns_cut m s.switches [] (first ∷ x.0) (x.1 ∷ []) (subst Turns x.2 f.turns) in
              record {
                line = line;
                cause_is = a.1;
                front = x.0;
                turn = x.1;
                are = x.2;
                came = came;
                went = stops_so m s.switches (known_by m s.switches before) (length before) x.1.states x.1.note line parts.1.0.goes_on (subst Stops came phase);
              }
        ]

    -- such a run knows how its text was read
    read_last : GoesThrough c → IsRead Last_known.reading
    read_last g = elim (through_so g) [
      | inl w ↦ ended_read Last_known.done Last_known.reading w.2.through.ended
      | inr a ↦
          let x = stopped a in
          let before = came_from [] (first ∷ x.front) in
          let now = noted m x.turn.note (known_by m s.switches before) in
          let Read : List Came → Type 0 = λ z. IsRead (known_by m s.switches z).reading in
          read_note m end.note (known_by m s.switches (came_from [] (first ∷ rest))) (subst Read (sym x.came) (read_turn m s.switches (came_in x.turn) before (ended_read now.done now.reading x.went.through.ended)))
    ]

    reading_is : GoesThrough c → length (rest ++ end ∷ []) ≤ length p.made → Last_known.reading ≡ Some (reading_of m p.seen.text)
    reading_is g l = elim (run_counts m p.seen.text s.switches p.seen.begun p.made first rest end p.put (took_notes l)).reading [ inl n ↦ absurd (subst IsRead n (read_last g)) | inr e ↦ e ]

    gone_by : (w : At_last) → length (rest ++ end ∷ []) ≤ length p.made → Gone m p.seen.text p.seen.begun (length (first ∷ rest)) Last_known w.0
    gone_by w l =
        let counts = run_counts m p.seen.text s.switches p.seen.begun p.made first rest end p.put (took_notes l) in
        gone m p.seen.text p.seen.begun (length (first ∷ rest)) (length (came_from [] (first ∷ rest))) Last_known end.states w.0 counts number (of_sections m ts p) w.2

    gone_before : (x : Stopped) → length (rest ++ end ∷ []) ≤ length p.made → Gone m p.seen.text p.seen.begun (length rest) (noted m x.turn.note (known_by m s.switches (came_from [] (first ∷ x.front)))) (read.Stop x.line)
    gone_before x l =
        let before = came_from [] (first ∷ x.front) in
        let now = noted m x.turn.note (known_by m s.switches before) in
        let Took : List ReactorTurn → Type 0 = λ z. TookNotes (map (λ (y : MotionTurn). y.note) p.made) (first ∷ z) in
        let counts = run_counts m p.seen.text s.switches p.seen.begun p.made first x.front x.turn p.put (subst Took x.are (front_notes (took_notes l))) in
        let long = came_long [] (first ∷ x.front) in
        let place : length (first ∷ x.front) ≡ length rest = (let e = ap length x.are in omega (arith, e, length-append x.front (x.turn ∷ []))) in
        let By : ℕ → Type 0 = λ n. Gone m p.seen.text p.seen.begun n now (read.Stop x.line) in
        subst By place (gone m p.seen.text p.seen.begun (length (first ∷ x.front)) (length before) now x.turn.states (read.Stop x.line) counts (omega (arith, long)) (of_sections m ts p) x.went)

    -- the numbers of what was read
    none_counted : (before : List Came) (rs : List ReactorTurn) → AreReactorTurns m s.switches before rs → counts_of (gather (λ t. t.lines) rs) ≡ []
    none_counted before [] h = refl
    none_counted before (t ∷ rs) h =
        let r = known_by m s.switches before in
        let free = (blames m s.switches r (length before) t.states t.note).goes h.0.goes_on in
        let own : counts_of t.lines ≡ [] = ap counts_of h.0.lines_are ∙ (numbers.counted m s.switches r (length before) t.states t.note free.0).on h.0.goes_on in
        counts_append t.lines (gather (λ (x : ReactorTurn). x.lines) rs) ∙ ap (λ z. z ++ counts_of (gather (λ (x : ReactorTurn). x.lines) rs)) own ∙ none_counted (came_in t ∷ before) rs h.1

    lines_then : (xs : List ReactorTurn) → gather (λ t. t.lines) (xs ++ end ∷ []) ≡ gather (λ t. t.lines) xs ++ end.lines
    lines_then [] = append-nil end.lines
    lines_then (x ∷ xs) = ap (λ z. x.lines ++ z) (lines_then xs) ∙ sym (append_assoc x.lines (gather (λ (t : ReactorTurn). t.lines) xs) end.lines)

    pub counts_so : GoesThrough c → length (rest ++ end ∷ []) ≤ length p.made
        → counts_of (gather (λ t. t.lines) (first ∷ (rest ++ end ∷ []))) ≡ report.Lines (program_end m p.seen.text).lines (program_end m p.seen.text).passed ∷ []
    counts_so g l =
        let own = f.own (own_cause c g) in
        let told = (numbers.counted m s.switches f.known (length (came_from [] (first ∷ rest))) end.states end.note own.1).through c (sym (ends_own m s ts (first ∷ rest) end c f (own_cause c g))) g in
        let lines = gather (λ (t : ReactorTurn). t.lines) (first ∷ rest) in
        let known = ap (λ (k : Known). count_lines (noted m end.note k).reading) own.0 in
        ap counts_of (lines_then (first ∷ rest)) ∙ counts_append lines end.lines ∙ ap (λ z. z ++ counts_of end.lines) (none_counted [] (first ∷ rest) f.turns) ∙ ap counts_of f.lines_are ∙ told ∙ known ∙ ap count_lines (reading_is g l)

    -- one that ended for a cause of its own tells them, or none
    pub counts_or : IsOwn c → length (rest ++ end ∷ []) ≤ length p.made
        → (counts_of (gather (λ t. t.lines) (first ∷ (rest ++ end ∷ []))) ≡ []) ⊎ (counts_of (gather (λ t. t.lines) (first ∷ (rest ++ end ∷ []))) ≡ report.Lines (program_end m p.seen.text).lines (program_end m p.seen.text).passed ∷ [])
    counts_or g l =
        let own = f.own g in
        let lines = gather (λ (t : ReactorTurn). t.lines) (first ∷ rest) in
        let cut = ap counts_of (lines_then (first ∷ rest)) ∙ counts_append lines end.lines ∙ ap (λ z. z ++ counts_of end.lines) (none_counted [] (first ∷ rest) f.turns) ∙ ap counts_of f.lines_are in
        let known = ap (λ (k : Known). count_lines (noted m end.note k).reading) own.0 in
        elim (numbers.counted m s.switches f.known (length (came_from [] (first ∷ rest))) end.states end.note own.1).any [
          | inl none ↦ inl (cut ∙ none)
          | inr told ↦ elim (run_counts m p.seen.text s.switches p.seen.begun p.made first rest end p.put (took_notes l)).reading [
            | inl n ↦ inl (cut ∙ told ∙ known ∙ ap count_lines n)
            | inr e ↦ inr (cut ∙ told ∙ known ∙ ap count_lines e)
          ]
        ]

    through_by : At_last → length (rest ++ end ∷ []) ≤ length p.made → AreThrough m p.seen c (length (rest ++ end ∷ []))
    through_by w l =
        let all = gone_by w l in
        let Over : ℕ → Type 0 = λ n. All (λ x. x.end + 5 ≤ n) p.seen.begun in
        record { all = all.all; over = subst Over (sym size) all.over; cause_is = w.1 ∙ ap text_end all.stop_is }

    through_before : Stopped → length (rest ++ end ∷ []) ≤ length p.made → AreThrough m p.seen c (length (rest ++ end ∷ []))
    through_before x l = search (rules, gone_before, size)

    pub through_long : GoesThrough c → length (rest ++ end ∷ []) ≤ length p.made → AreThrough m p.seen c (length (rest ++ end ∷ []))
    through_long g l = elim (through_so g) [ inl w ↦ through_by w l | inr a ↦ through_before (stopped a) l ]

    -- the clock lines of the boards are renewed in time
    pub renews_by : (t : Told) → p.seen.told ≡ Some t → HaveShortDictionaries m → length (rest ++ end ∷ []) ≤ length p.made → (b : ℕ) → b < length m.boards → StayYoung m b (clocks_at t.clocks b) (length rest)
    renews_by t told short l b h = renews m v short s ts p t first rest end c told f (front_notes (took_notes l)) (omega (arith, l, size)) b h

    module _ (moves : AreOfMoves (program_sections m p.seen.text)) where
      pub kinds : All (λ x. x.section.kind ≡ Moves) p.seen.begun
      kinds = kinds_of p.seen.begun (program_sections m p.seen.text) (length p.seen.begun) (of_sections m ts p) moves

      pub long : (length (rest ++ end ∷ []) ≤ length p.made) ⊎ Unread
      long = long_moves (homes_never (length p.made) p.seen.begun kinds)

      -- a board of a run that holds nothing long is timely
      pub near_little : HaveShortDictionaries m → (t : Told) → p.seen.told ≡ Some t → (b : ℕ) → b < length m.boards → length (rest ++ end ∷ []) ≤ length p.made → (w : IsInWhole m s.switches b (clock_of (board_at m b)) (link_of m s b) ts first (rest ++ end ∷ []))
          → HoldsLittle m s b ts first (rest ++ end ∷ []) w → IsTimelyIn m s b ts first (rest ++ end ∷ []) w
      near_little short t told b h l w little =
          few_near m v s ts p t first rest end told b (ready m v s ts p t first rest end told f.ahead f.words_left f.turns f.words) w h (none_homes p.seen.begun kinds)
          (all_moves m p.seen.text p.seen.begun p.made first rest kinds p.put (front_notes (took_notes l))) l (renews_by t told short l b h) little

  -- a run of one turn
  pub none_told : (t : Told) → p.seen.told ≡ Some t → Facts m s ts [] end c → ⊥
  none_told t e f =
      let h = turns_tell m 0 0 p.made t (omega arith) p.in_time p.in_range p.ahead (made_numbered m s.switches f.ahead [] ts p.made p.bare f.words_left p.are tt f.words) (sym p.told_is ∙ e) in
      let w = h.word in
      let In : List WordMsg → Type 0 = λ ws. Among w ws in
      let in_made = among_left w (gather (λ (x : MotionTurn). x.words) p.made) (gather (λ (x : MotionTurn). x.words) p.bare) (among_turn w h.past h.turn h.later p.made h.are h.among) in
      let in_ts = subst In (ap (gather (λ (x : MotionTurn). x.words)) (sym p.are)) (subst In (sym (gather_words p.made p.bare)) in_made) in
      let in_put = subst In (sym f.words) (among_left w (gather (λ (x : MotionTurn). x.words) ts) f.words_left in_ts) in
      last_tells m h.clocks t.first 0 f.ahead w h.tells in_put

  pub untold_alone : (o : Option Told) → p.seen.told ≡ o → Facts m s ts [] end c → p.seen.begun ≢ [] → ⊥
  untold_alone None e f some = some (not_told e)
  untold_alone (Some t) e f some = none_told t e f

  pub alone_ends : Facts m s ts [] end c → GoesThrough c → ⊥
  alone_ends f g = elim (went m (noted m end.note (known_by m s.switches [])) 0 end.states c g (ends [] f g)) [
    | inl w ↦ let e : Connecting ≡ Running = sym (noted_phase m end.note (known_by m s.switches [])) ∙ w.2.running in cc
    | inr a ↦ let e : Connecting ≡ Stopping a.0 = sym (noted_phase m end.note (known_by m s.switches [])) ∙ a.2 in cc
  ]

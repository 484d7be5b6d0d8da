-- Why a whole run in which axes home shows the sections of its text.
use Rattle.std.proofs.Common.{◌≡◌, ℕ, zero, suc, ◌+◌, ◌-◌, ◌*◌, ◌<◌, ◌≤◌, List, [], ◌∷◌, ◌++◌, length, take, All, Option, None, Some, refl, ap, sym, ◌∙◌, subst, arith, length-append, append_assoc}
use Rattle.laws_board.proofs.Names.{∥∥₁_map, Cause, Machine, Pulse, turn_ns, Clocks, lines_tick, IsValidMachine, board_at, stepper_at, Fits, clocks_at, stepper_plan, Scene, Run, Started, Told, MotionTurn, ReactorTurn, gather}
use Rattle.std.proofs.Math.Seq.{take-append_seam}
use Rattle.plan_types.specs.declared.cause.Cause.TheVariants as cause
use Rattle.plan_types.specs.Plan.{max_error}
use Rattle.plan_types.specs.Sections.{base_tick}
use Rattle.clock_line.proofs.Turns.{tick_over-mono}
use Rattle.section_feed.specs.Fewer.{AreFirstLines}
use Rattle.section_feed.proofs.Fewer.{fits-agree, plans-agree}
use Rattle.io_core.specs.declared.traits.Files.{Ghosts as Files}
use Rattle.io_core.specs.declared.traits.Sink.{Ghosts as Sink}
use Rattle.session_lanes.specs.declared.near.Told as near
use Rattle.session_run.specs.declared.tell.Kept.{Kept}
use Rattle.session_run.specs.Runs.{RunsOver}
use Rattle.laws_board.specs.sections.Boards.{AreEnded, IsWindow, NextStart}
use Rattle.laws_board.specs.plans.Boards.{lines_between, times_of}
use Rattle.laws_board.specs.plans.Lines.{pulses_of}
use Rattle.laws_board.specs.plans.Planned.{Plans}
use Rattle.laws_board.proofs.plans.Beginning.{Spread}
use Rattle.laws_board.proofs.plans.Spreading.{plans_spread}
use Rattle.laws_board.proofs.plans.Telling.{all_tell, pulses_append}
use Rattle.laws_run.specs.run_ends.Ends.{GoesThrough}
use Rattle.laws_run.proofs.run_ends.Ending.{own_cause}
use Rattle.laws_run.specs.run_headline.Made.{IsMade}
use Rattle.laws_run.specs.run_headline.Timely.{clocks_heard, ready_heard}
use Rattle.laws_run.proofs.run_headline.Boarded.{lined, ready}
use Rattle.laws_run.proofs.run_headline.Joining.{of_sections, row_none}
use Rattle.laws_run.proofs.run_headline.Making.{run_made}
use Rattle.laws_run.proofs.run_headline.Runs.{facts}
use Rattle.laws_run.proofs.run_headline.Showing.{Facts, all_lines, alone_ends, boards_told, counts_so, first_pulses, further_by, heard, in_none, lines_all, long_own, not_told, sound_by, started, starts_late, through_long, untold_alone}
use Rattle.laws_run.specs.home_headline.Follow.{AllShowHomes, FollowHomes, ShowHomes}
use Rattle.laws_board.specs.causes.Short.{HaveShortDictionaries}
use Rattle.laws_run.specs.home_headline.Near.{AllKeepUp}
use Rattle.laws_run.proofs.home_headline.Following.{follows}

module _ (m : Machine) (v : IsValidMachine m) (s : Scene) (ts : List MotionTurn) (p : Plans m (length m.boards) ts) (end : ReactorTurn) (c : Cause) where
  module _ (first : ReactorTurn) (rest : List ReactorTurn) (f : Facts m s ts (first ∷ rest) end c) (short : HaveShortDictionaries m) (little : AllKeepUp m s p.seen.text ts (first ∷ (rest ++ end ∷ []))) where
    by_told : (t : Told) (past : List Started) (x : Started) (later : List Started) → p.seen.told ≡ Some t → p.seen.begun ≡ past ++ x ∷ later → FollowHomes m t p.seen first (rest ++ end ∷ [])
    by_told t past x later told cut = follows m v s ts p t first rest end c told f short (λ b h w. little p b refl (λ none. in_none past x later p.seen.begun none cut) h w)

    -- a run that went through has read on
    long : GoesThrough c → length (rest ++ end ∷ []) ≤ length p.made
    long g = long_own m v s ts p end c first rest f (own_cause c g)

    fits : (o : Option Told) → p.seen.told ≡ o → (past : List Started) (x : Started) (later : List Started) (from to place : ℕ) → p.seen.begun ≡ past ++ x ∷ later → place < length m.steppers
        → IsWindow (length (rest ++ end ∷ [])) from to (record { start = x.start; end = x.end }) (times_of later)
        → Fits (clocks_at (clocks_heard p.seen.told) (stepper_at m place).board).first.freq (base_tick m (clocks_heard p.seen.told) x.start place) (pulses_of place (lines_between from to (rest ++ end ∷ [])))
        (stepper_plan m (clocks_heard p.seen.told) x.section.moves x.start place)
    fits None e past x later from to place cut h w = absurd (in_none past x later p.seen.begun (not_told m v s ts p end c e) cut)
    fits (Some t) e past x later from to place cut h w =
        let At : List Clocks → Type 0 = λ c. Fits (clocks_at c (stepper_at m place).board).first.freq (base_tick m c x.start place) (pulses_of place (lines_between from to (rest ++ end ∷ []))) (stepper_plan m c x.section.moves x.start place) in
        let Freq : ℕ → Type 0 = λ n. Fits n (base_tick m t.clocks x.start place) (pulses_of place (lines_between from to (rest ++ end ∷ []))) (stepper_plan m t.clocks x.section.moves x.start place) in
        let r = ready m v s ts p t first rest end e f.ahead f.words_left f.turns f.words in
        let b = (stepper_at m place).board in
        let low = (v.steppers place h).board in
        let freq : (board_at m b).freq ≡ (clocks_at t.clocks b).first.freq = sym (lined m v s ts p t first rest end e b r (f.boards b first rest low refl) low).freq in
        subst At (sym (ap clocks_heard e)) (subst Freq freq ((by_told t past x later e cut).fit past x later from to place cut h w))

    none_behind : (o : Option Told) → p.seen.told ≡ o → (past : List Started) (x : Started) (later : List Started) (from to place : ℕ) → p.seen.begun ≡ past ++ x ∷ later → place < length m.steppers → from ≤ to
        → to ≤ length (rest ++ end ∷ []) → AreEnded from (times_of (past ++ x ∷ [])) → NextStart to (times_of later) → pulses_of place (lines_between from to (rest ++ end ∷ [])) ≡ []
    none_behind None e past x later from to place cut h order within ended next = absurd (in_none past x later p.seen.begun (not_told m v s ts p end c e) cut)
    none_behind (Some t) e past x later from to place cut h order within ended next =
        (by_told t past x later e cut).between (past ++ x ∷ []) later from to place (cut ∙ sym (append_assoc past (x ∷ []) later)) h order within ended next

    none_early : (o : Option Told) → p.seen.told ≡ o → (x : Started) (later : List Started) (past behind : List ReactorTurn) (place : ℕ) → p.seen.begun ≡ x ∷ later → first ∷ (rest ++ end ∷ []) ≡ past ++ behind → length past ≤ x.start → place < length m.steppers
        → pulses_of place (gather (λ t. t.lines) past) ≡ []
    none_early None e x later past behind place cut are soon h = absurd (in_none [] x later p.seen.begun (not_told m v s ts p end c e) cut)
    none_early (Some t) e x later [] behind place cut are soon h = refl
    none_early (Some t) e x later (y ∷ past) behind place cut are soon h =
        let all = λ (zs : List ReactorTurn). gather (λ (z : ReactorTurn). z.lines) zs in
        let same : first ≡ y = cc in
        let then : rest ++ end ∷ [] ≡ past ++ behind = cc in
        let n = length past in
        let whole : n - 0 ≡ n = omega arith in
        let many : length (rest ++ end ∷ []) ≡ n + length behind = ap length then ∙ length-append past behind in
        let none = (by_told t [] x later e cut).between [] (x ∷ later) 0 n place cut h (omega arith) (omega (arith, many)) tt (omega (arith, soon)) in
        let now : pulses_of place y.lines ≡ [] = ap (λ (z : ReactorTurn). pulses_of place z.lines) (sym same) ∙ first_pulses m p.seen.begun place first (plans_spread m (length m.boards) ts p) f.turns.0.row (all_lines m v s ts p end c first rest f).0 in
        let front : lines_between 0 n (rest ++ end ∷ []) ≡ all past = ap (λ z. lines_between 0 n z) then ∙ ap (λ (k : ℕ). all (take k (past ++ behind))) whole ∙ ap all (take-append_seam past behind) in
        pulses_append place y.lines (all past) ∙ ap (λ z. z ++ pulses_of place (all past)) now ∙ ap (pulses_of place) (sym front) ∙ none

    -- by the lines of the boards without those that hold behind a turn
    told_all : (o : Option Told) → p.seen.told ≡ o → (turn n : ℕ) → n + 7 ≤ turn → n ≤ length (rest ++ end ∷ []) → (short : List Clocks)
        → ((b : ℕ) → b < length m.boards → AreFirstLines (clocks_at short b) (clocks_at (clocks_heard p.seen.told) b) turn)
        → (past : List Started) (x : Started) (later : List Started) (from to place : ℕ) → p.seen.begun ≡ past ++ x ∷ later → place < length m.steppers → IsWindow n from to (record { start = x.start; end = x.end }) (times_of later)
        → Fits (clocks_at short (stepper_at m place).board).first.freq (base_tick m short x.start place) (pulses_of place (lines_between from to (rest ++ end ∷ []))) (stepper_plan m short x.section.moves x.start place)
    told_all None e turn n soon in_run short firsts past x later from to place cut h w = absurd (in_none past x later p.seen.begun (not_told m v s ts p end c e) cut)
    told_all (Some t) e turn n after in_run short firsts past x later from to place cut h w =
        let b = (stepper_at m place).board in
        let small = (v.steppers place h).board in
        let clocks = clocks_heard p.seen.told in
        let ps = pulses_of place (lines_between from to (rest ++ end ∷ [])) in
        let line = clocks_at clocks b in
        let heard_is : t.clocks ≡ clocks = sym (ap clocks_heard e) in
        let begins = w.begins in
        let order = w.order in
        let within = w.within in
        let wide : IsWindow (length (rest ++ end ∷ [])) from to (record { start = x.start; end = x.end }) (times_of later) = record { begins = begins; order = order; within = omega (arith, within, in_run); next = w.next } in
        let sound = sound_by m v s ts p end c first rest f p.seen.told refl (λ none. in_none past x later p.seen.begun none cut) in
        let agree = plans-agree m short clocks x.section.moves x.start turn place (sound.kept b small) (firsts b small) (omega (arith, begins, order, within, after)) in
        let Lines : List Clocks → Type 0 = λ cs. All (λ (q : Pulse). q.tick + max_error (board_at m b).freq < lines_tick (clocks_at cs b) ((to + 7) * turn_ns)) ps in
        let early = subst Lines heard_is ((by_told t past x later e cut).soon past x later from to place cut h wide) in
        let Freq : ℕ → Type 0 = λ f. All (λ (q : Pulse). q.tick + max_error f < lines_tick line (turn * turn_ns)) ps in
        let up = tick_over-mono line.first 0 line.held ((to + 7) * turn_ns) (turn * turn_ns) (omega (arith, within, after)) in
        let soon : All (λ (q : Pulse). q.tick + max_error (board_at m b).freq < lines_tick line (turn * turn_ns)) ps = λ k d low. (let own = early k d low in omega (arith, own, up)) in
        fits-agree m short clocks x.section.moves x.start place (lines_tick line (turn * turn_ns)) ps agree (subst Freq (sym (sound.clocks_are.freq b small)) soon) (fits p.seen.told refl past x later from to place cut h wide)

    pub shows : ShowHomes m p.seen (clocks_heard p.seen.told) (ready_heard p.seen.told) c first (rest ++ end ∷ [])
    shows = record {
      heard = heard m v s ts p end c;
      of_text = of_sections m ts p;
      late = (started m v s ts p end c p.seen.told refl).0;
      started = (started m v s ts p end c p.seen.told refl).1;
      boards = boards_told m v s ts p end c first rest f p.seen.told refl;
      lines = all_lines m v s ts p end c first rest f;
      fit = fits p.seen.told refl;
      behind = none_behind p.seen.told refl;
      early = none_early p.seen.told refl;
      through = λ g. through_long m v s ts p end c first rest f g (long g);
      counts = λ g. counts_so m v s ts p end c first rest f g (long g);
      sound = sound_by m v s ts p end c first rest f p.seen.told refl;
      further = further_by m v s ts p end c first rest f p.seen.told refl;
      told = told_all p.seen.told refl;
    }

  -- a run of one turn
  none_of : (place from to : ℕ) → from ≤ to → to ≤ 0 → pulses_of place (lines_between from to []) ≡ []
  none_of place zero zero order within = refl
  none_of place zero (suc to) order within = absurd (omega (arith, within))
  none_of place (suc from) to order within = absurd (omega (arith, order, within))

  shows_alone : Facts m s ts [] end c → ShowHomes m p.seen (clocks_heard p.seen.told) (ready_heard p.seen.told) c end []
  shows_alone f = record {
    heard = heard m v s ts p end c;
    of_text = of_sections m ts p;
    late = (started m v s ts p end c p.seen.told refl).0;
    started = (started m v s ts p end c p.seen.told refl).1;
    boards = λ some. absurd (untold_alone m v s ts p end c p.seen.told refl f some);
    lines = all_tell m s.switches p.seen.text p.seen.begun 260 p.made (end ∷ []) spread (omega arith) p.put (row_none (length m.boards) end f.row, tt) (lines_all m s.switches [] [] end tt (f.known, f.begun, f.lines_are));
    fit = λ past x later from to place cut h w. absurd (no_window 0 (omega arith) past x later from to cut w);
    behind = λ past x later from to place cut h order within ended next. none_of place from to order within;
    early = λ x later past behind place cut are soon h. absurd (untold_alone m v s ts p end c p.seen.told refl f (λ e. in_none [] x later p.seen.begun e cut));
    through = λ g. absurd (alone_ends m v s ts p end c f g);
    counts = λ g. absurd (alone_ends m v s ts p end c f g);
    sound = λ some. absurd (untold_alone m v s ts p end c p.seen.told refl f some);
    further = λ some. absurd (untold_alone m v s ts p end c p.seen.told refl f some);
    told = λ turn n after in_run short firsts past x later from to place cut h w. absurd (no_window n in_run past x later from to cut w);
  }
    where
      spread : Spread 260 p.seen.begun
      spread = plans_spread m (length m.boards) ts p

      no_window : (n : ℕ) → n ≤ 0 → (past : List Started) (x : Started) (later : List Started) (from to : ℕ) → p.seen.begun ≡ past ++ x ∷ later → IsWindow n from to (record { start = x.start; end = x.end }) (times_of later) → ⊥
      no_window n none past x later from to cut w =
          let late = starts_late 260 past x later (subst (Spread 260) cut spread) in
          let begins = w.begins in
          let order = w.order in
          let within = w.within in
          omega (arith, late, begins, order, within, none)

  pub all_shows : (rs : List ReactorTurn) → Facts m s ts rs end c → HaveShortDictionaries m → AllKeepUp m s p.seen.text ts (rs ++ end ∷ []) → AllShowHomes m p.seen (clocks_heard p.seen.told) (ready_heard p.seen.told) c (rs ++ end ∷ [])
  all_shows [] f short little = shows_alone f
  all_shows (first ∷ rest) f short little = shows first rest f short little

pub run_shows : {F S : Type 0} (f : Files F) (o : Sink S) (m : Machine) (s : Scene) (name : List ℕ) (files files' : F) (out out' : S) (kept kept' : Kept) (t : near.Told Run) (r : RunsOver f o m s name files out kept t files' out' kept') → IsValidMachine m → HaveShortDictionaries m → (text : List ℕ)
    → f.told files name ≡ Some text → kept.at ≡ 0 → ∥ ((made : IsMade m s r.runs.0 r.runs.1) × (made.plans.seen.text ≡ text) × ((t.cause ≡ cause.Memory → ⊥) → AllKeepUp m s text r.runs.0 (r.runs.1 ++ r.runs.2 ∷ [])
    → AllShowHomes m made.plans.seen (clocks_heard made.plans.seen.told) (ready_heard made.plans.seen.told) t.cause (r.runs.1 ++ r.runs.2 ∷ []))) ∥₁
run_shows f o m s name files files' out out' kept kept' t r v short text told at =
    ∥∥₁_map (run_made f o m s name files files' out out' kept kept' t r text told at) (λ w.
    let made = w.0 in
    let Little : List ℕ → Type 0 = λ z. AllKeepUp m s z r.runs.0 (r.runs.1 ++ r.runs.2 ∷ []) in
    (made, w.1, λ other little. all_shows m v s r.runs.0 made.plans r.runs.2 t.cause r.runs.1 (facts f o m s name files files' out out' kept kept' t r other) short (subst Little (sym w.1) little)))

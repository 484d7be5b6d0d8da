-- The lines of a whole run keep their limits.
use Rattle.std.proofs.Common.{◌≡◌, ◌≢◌, ℕ, ◌+◌, ◌*◌, ◌<◌, ◌≤◌, List, [], ◌∷◌, ◌++◌, All, length, map, Option, None, Some, refl, ap, sym, ◌∙◌, subst, arith, append_assoc, append-nil, length-append, rules}
use Rattle.laws_board.proofs.Names.{flat_map-append, length-map, Cause, Machine, tick, turn_ns, Clocks, IsValidMachine, clocks_at, ReportLine, Scene, AreStarted, Started, Told, MotionTurn, ReactorTurn, gather}
use Rattle.gcode_program.specs.Programs.{program_sections}
use Rattle.report_text.specs.declared.line.ReportLine.TheVariants as report
use Rattle.laws_board.specs.plans.Lines.{heads_of}
use Rattle.laws_board.specs.plans.Planned.{AreToldBy, Plans, put_of}
use Rattle.laws_board.proofs.plans.Spreading.{plans_spread}
use Rattle.laws_run.specs.run_ends.Boards.{board_in, boards_of, counts_of}
use Rattle.laws_run.specs.run_ends.Ends.{GoesThrough}
use Rattle.laws_run.proofs.run_ends.Ending.{own_cause}
use Rattle.laws_run.specs.run_headline.Further.{TellFurther}
use Rattle.laws_run.specs.run_headline.Timely.{clocks_heard, ready_heard}
use Rattle.laws_run.specs.home_headline.Follow.{ShowBegun}
use Rattle.laws_run.proofs.run_headline.Boarded.{ready}
use Rattle.laws_run.proofs.run_headline.Showing.{Facts, long_own}
use Rattle.laws_run.specs.run_limits.Limits.{AreLow, DriftsLow, greatest_tick, start_limit}
use Rattle.laws_run.proofs.run_limits.Drifts.{drifts_low}
use Rattle.laws_run.proofs.run_limits.Early.{heads_low, starts_early}
use Rattle.laws_run.proofs.run_limits.Few.{read_few}
use Rattle.laws_run.proofs.run_limits.Ticks.{board_low, lines_low}
use Rattle.laws_run.proofs.run_lines.Heads.{gather_lines}

-- lines keep their limits where those of sections, of boards, of what was read and of further clock lines do
pub low_of : (lines : List ReportLine) → AreLow (heads_of lines) → AreLow (boards_of lines) → AreLow (counts_of lines) → DriftsLow lines → AreLow lines
low_of [] heads boards counts low = tt
low_of (report.Machine corexy boards steppers ∷ lines) heads told counts low = (tt, low_of lines heads told counts low)
low_of (report.Board board freq turn tick ∷ lines) heads told counts low = (told.0, low_of lines heads told.1 counts low)
low_of (report.Section i turn kind ∷ lines) heads told counts low = (heads.0, low_of lines heads.1 told counts low)
low_of (report.Pulse board stepper tick up ∷ lines) heads told counts low = (tt, low_of lines heads told counts low)
low_of (report.Cut i board pin tick from ∷ lines) heads told counts low = (tt, low_of lines heads told counts low)
low_of (report.Drift board sent clock from ∷ lines) heads told counts low = (low.0, low_of lines heads told counts low.1)
low_of (report.Lines accepted passed ∷ lines) heads told counts low = (counts.0, low_of lines heads told counts.1 low)
low_of (report.Out board pin tick on ∷ lines) heads told counts low = (tt, low_of lines heads told counts low)
low_of (report.Made seed moves ∷ lines) heads told counts low = (tt, low_of lines heads told counts low)
low_of (report.Count stepper pulses ∷ lines) heads told counts low = (tt, low_of lines heads told counts low)
low_of (report.Fit section stepper pulses planned early late ∷ lines) heads told counts low = (tt, low_of lines heads told counts low)
low_of (report.End c ∷ lines) heads told counts low = (tt, low_of lines heads told counts low)

-- no section starts before the first one may
pub ready_by : (m : Machine) (clocks : List Clocks) (ready : ℕ) (begun : List Started) → AreStarted m clocks ready begun → begun ≢ [] → All (λ s. s.start < start_limit) begun → ready < start_limit
ready_by m clocks ready [] started some early = absurd (some refl)
ready_by m clocks ready (s ∷ begun) started some early = (let e = started.0.start in let low = early 0 s (omega arith) in omega (arith, e, low))

pub none_of : (begun : List Started) → map (λ s. s.section) begun ≢ [] → begun ≢ []
none_of [] some e = some refl
none_of (s ∷ begun) some e = cc

module _ (m : Machine) (v : IsValidMachine m) (s : Scene) (ts : List MotionTurn) (p : Plans m (length m.boards) ts) (end : ReactorTurn) (c : Cause) (through : GoesThrough c) (sections : program_sections m p.seen.text ≢ []) where
  -- a run of one turn doesn't go through
  pub none_alone : ShowBegun m p.seen (clocks_heard p.seen.told) (ready_heard p.seen.told) c end [] → ⊥
  none_alone shows =
      let th = shows.through through in
      by p.seen.begun (none_of p.seen.begun (λ e. sections (sym th.all ∙ e))) th.over
    where
      by : (begun : List Started) → begun ≢ [] → All (λ s. s.end + 5 ≤ 0) begun → ⊥
      by [] some over = some refl
      by (x ∷ begun) some over = (let late = over 0 x (omega arith) in absurd (omega (arith, late)))

  module _ (first : ReactorTurn) (rest : List ReactorTurn) (f : Facts m s ts (first ∷ rest) end c) (shows : ShowBegun m p.seen (clocks_heard p.seen.told) (ready_heard p.seen.told) c first (rest ++ end ∷ [])) where
    some : p.seen.begun ≢ []
    some = none_of p.seen.begun (λ e. sections (sym (shows.through through).all ∙ e))

    early : All (λ x. x.start < start_limit) p.seen.begun
    early = starts_early m (length m.boards) ts p (length m.boards) f.from f.to f.goes

    low_ticks : (o : Option Told) → p.seen.told ≡ o → (b : ℕ) → b < length m.boards → tick (clocks_at (clocks_heard o) b).first (ready_heard o * turn_ns) ≤ greatest_tick (ready_heard o)
    low_ticks None e b h = absurd (some (subst (λ (o : Option Told). AreToldBy m o p.seen.begun) e p.sections))
    low_ticks (Some t) e b h = board_low m v s ts p t first rest end e (ready m v s ts p t first rest end e f.ahead f.words_left f.turns f.words) b (f.boards b first rest h refl) h

    boards_low : AreLow (boards_of (gather (λ t. t.lines) (first ∷ (rest ++ end ∷ []))))
    boards_low =
        let told = shows.boards some in
        let lines = λ (z : List ReactorTurn). gather (λ (t : ReactorTurn). t.lines) z in
        let count = (shows.sound some).clocks_are.count in
        let cut = ap boards_of (ap lines told.are ∙ gather_lines told.past told.later) ∙ flat_map-append board_in (lines told.past) (lines told.later) ∙ ap (λ z. boards_of (lines told.past) ++ z) told.rest ∙ append-nil (boards_of (lines told.past)) ∙ told.lines in
        subst AreLow (sym cut)
        (lines_low (ready_heard p.seen.told) 0 (clocks_heard p.seen.told) (ready_by m (clocks_heard p.seen.told) (ready_heard p.seen.told) p.seen.begun shows.started some early) (λ i lt. low_ticks p.seen.told refl i (omega (arith, lt, count))))

    counts_low : AreLow (counts_of (gather (λ t. t.lines) (first ∷ (rest ++ end ∷ []))))
    counts_low = search (rules, read_few)

    further_low : DriftsLow (gather (λ t. t.lines) (first ∷ (rest ++ end ∷ [])))
    further_low = by p.seen.told refl
      where
        by : (o : Option Told) → p.seen.told ≡ o → DriftsLow (gather (λ t. t.lines) (first ∷ (rest ++ end ∷ [])))
        by None e = absurd (some (subst (λ (o : Option Told). AreToldBy m o p.seen.begun) e p.sections))
        by (Some t) e =
            let made = length-map p.made put_of in
            let small = p.small in
            let many = length-append rest (end ∷ []) in
            let own = long_own m v s ts p end c first rest f (own_cause c through) in
            let turns = first ∷ (rest ++ end ∷ []) in
            let Tell : Option Told → Type 0 = λ o. TellFurther m (clocks_heard o) (length turns + 271) (gather (λ t. t.lines) turns) in
            drifts_low m v s ts p t first rest end e (ready m v s ts p t first rest end e f.ahead f.words_left f.turns f.words) (λ b h. f.boards b first rest h refl) (omega (arith, made, small, many, own)) (length turns + 271) (gather (λ t. t.lines) turns) (subst Tell e (shows.further some turns [] (sym (append-nil turns))))

    pub run_low : AreLow (gather (λ t. t.lines) (first ∷ (rest ++ end ∷ [])))
    run_low =
        low_of (gather (λ t. t.lines) (first ∷ (rest ++ end ∷ []))) (heads_low m p.seen.begun 0 (first ∷ (rest ++ end ∷ [])) (plans_spread m (length m.boards) ts p) early shows.lines) boards_low counts_low further_low

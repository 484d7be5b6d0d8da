-- The report of a run over links that has no line of a section.
use Rattle.std.specs.Prelude.{if◌then◌else◌}
use Rattle.std.proofs.Common.{◌≡◌, ◌∙◌, ℕ, ◌+◌, ◌<◌, ◌≤◌, Bool, true, false, List, [], ◌∷◌, ◌++◌, length, Option, Some, None, ap, sym, refl, subst, arith, append-nil, inl, inr, rules}
use Rattle.laws_board.proofs.Names.{flat_map-append, eqb_tells, Cause, Machine, IsValidMachine, ReportLine, BoardDef, Scene, Switch, Asking, all_connected, giving_up, listen_all, ready_all, Connecting, Stopping, Known, news_of, noted, IsOwn, known_by, Started, MotionTurn, ReactorTurn, gather, Note, State, reacts, first_lines, machine_line}
use Rattle.std.proofs.lemmas.Bool.{cases_lt}
use Rattle.plan_types.specs.declared.cause.Cause.TheVariants as cause
use Rattle.report_text.specs.declared.line.ReportLine.TheVariants as report
use Rattle.host_reactor.specs.declared.ordered.Phase.TheVariants.{Running}
use Rattle.host_reactor.specs.Running.{late}
use Rattle.laws_board.proofs.clocks.Lines.{noted_phase}
use Rattle.session_work.specs.Heads.{IsRow}
use Rattle.host_reactor.specs.declared.ordered.Begun.{Begun}
use Rattle.host_reactor.specs.Reactor.{asks_boards, is_connected_now, new_askings, unless_given_up}
use Rattle.host_reactor.specs.Report.{drift_lines, pulse_lines, section_line}
use Rattle.session_run.specs.Boards.{IsReactorTurn}
use Rattle.laws_run.proofs.run_headline.Joining.{row_none}
use Rattle.laws_board.specs.plans.Lines.{TellTurns, head_in, heads_of, starts_at}
use Rattle.laws_board.specs.plans.Planned.{Plans}
use Rattle.laws_run.specs.run_ends.Ends.{EndsSo}
use Rattle.laws_run.proofs.run_ends.Ending.{ends_so}
use Rattle.laws_run.specs.run_headline.Timely.{clocks_heard, ready_heard}
use Rattle.laws_run.specs.run_headline.Told.{AreTold}
use Rattle.laws_run.proofs.run_headline.Facts.{Facts, ends_own}
use Rattle.laws_run.specs.home_headline.Cuts.{cuts_of}
use Rattle.laws_run.specs.home_headline.Follow.{ShowHomes}
use Rattle.laws_report.specs.reports.Cuts.{lines_before}
use Rattle.laws_report.specs.reports.Shown.{sections_shown}
use Rattle.laws_report.proofs.reports.Faulted.{EndsPlain}
use Rattle.laws_report.proofs.reports.Unbegun.{AreBare, ShowsNone, bare_none, shows_none}
use Rattle.laws_report.proofs.reports.UnbegunLines.{unbegun_lines}

-- the section lines are those of the heads
pub shown_heads : (lines : List ReportLine) → sections_shown lines ≡ heads_of lines
shown_heads [] = refl
shown_heads (report.Section i turn kind ∷ lines) = ap (λ z. report.Section i turn kind ∷ z) (shown_heads lines)
shown_heads (x ∷ lines) = shown_heads lines

-- where there are none, all lines stand before the first
pub whole_before : (lines : List ReportLine) → heads_of lines ≡ [] → lines_before lines ≡ lines
whole_before [] none = refl
whole_before (report.Section i turn kind ∷ lines) none = absurd (let e : report.Section i turn kind ∷ heads_of lines ≡ [] = none in cc)
whole_before (x ∷ lines) none = ap (λ z. x ∷ z) (whole_before lines none)

-- without cuts the lines are those of a run of moves
told_uncut : (m : Machine) (lines : List ReportLine) → AreTold true m lines → cuts_of lines ≡ [] → AreTold false m lines
told_uncut m [] told uncut = tt
told_uncut m (report.Cut i board pin tick from ∷ lines) told uncut = absurd (let e : report.Cut i board pin tick from ∷ cuts_of lines ≡ [] = uncut in cc)
told_uncut m (x ∷ lines) told uncut = (told.0, told_uncut m lines told.1 uncut)

-- lists of which both parts are empty
pub both_none : {A : Type 0} (xs ys : List A) → xs ++ ys ≡ [] → (xs ≡ []) × (ys ≡ [])
both_none [] ys e = (refl, e)
both_none (x ∷ xs) ys e = absurd (let f : x ∷ (xs ++ ys) ≡ [] = e in cc)

-- turns without a line of a section are before that in which the first one starts
unstarted : (m : Machine) (s : Started) (later : List Started) (k : ℕ) (ts : List ReactorTurn) → TellTurns m (s ∷ later) k ts → heads_of (gather (λ t. t.lines) ts) ≡ [] → k ≤ s.start → k + length ts ≤ s.start
unstarted m s later k [] tells none soon = omega (arith, soon)
unstarted m s later k (t ∷ ts) tells none soon =
    let lines = gather (λ (x : ReactorTurn). x.lines) ts in
    let parts = both_none (heads_of t.lines) (heads_of lines) (sym (flat_map-append head_in t.lines lines) ∙ none) in
    let own = tells.0 in
    let cut : heads_of t.lines ≡ heads_of (machine_line m k) ++ (heads_of (starts_at k 0 (s ∷ later)) ++ heads_of own.rest) =
    ap heads_of own.are ∙ flat_map-append head_in (machine_line m k) (starts_at k 0 (s ∷ later) ++ own.rest) ∙ ap (λ z. heads_of (machine_line m k) ++ z) (flat_map-append head_in (starts_at k 0 (s ∷ later)) own.rest) in
    let behind = (both_none (heads_of (machine_line m k)) (heads_of (starts_at k 0 (s ∷ later)) ++ heads_of own.rest) (sym cut ∙ parts.0)).1 in
    let starts = (both_none (heads_of (starts_at k 0 (s ∷ later))) (heads_of own.rest) behind).0 in
    let not : s.start ≡ k → ⊥ = λ same. elim (eqb_tells s.start k) [
      | inl p ↦
          let At : Bool → Type 0 = λ b. heads_of ((if b then report.Section 0 k s.section.kind ∷ [] else []) ++ starts_at k 1 later) ≡ [] in
          let e : report.Section 0 k s.section.kind ∷ heads_of (starts_at k 1 later) ≡ [] = subst At p.0 starts in
          cc
      | inr p ↦ p.1 same
    ] in
    let rest = unstarted m s later (k + 1) ts tells.1 parts.1 (elim (cases_lt k s.start) [ inl less ↦ omega (arith, less) | inr more ↦ absurd (not (omega (arith, more, soon))) ]) in
    omega (arith, rest)

-- a run of one turn ends for no cause of its own but want of memory, or a board that gave no answer
pub alone_own : (m : Machine) (s : Scene) (ts : List MotionTurn) (end : ReactorTurn) (c : Cause) → Facts m s ts [] end c → IsOwn c → (c ≡ cause.Memory → ⊥) → ((board turn : ℕ) → c ≡ cause.Connect board turn → ⊥) → ⊥
alone_own m s ts end c f own other answers = by c refl (subst At (f.own own).0 (ends_so m s.switches f.known 0 end.states end.note c (f.own own).1 f.other (sym (ends_own m s ts [] end c f own))))
  where
    At : Known → Type 0
    At r = EndsSo m (noted m end.note r) 0 end.states c

    phase : (noted m end.note (known_by m s.switches [])).phase ≡ Connecting
    phase = noted_phase m end.note (known_by m s.switches [])

    running : (noted m end.note (known_by m s.switches [])).phase ≡ Running → ⊥
    running e = (let g : Connecting ≡ Running = sym phase ∙ e in cc)

    states : end.states ≡ []
    states = elim f.row [ inl a ↦ a.1 | inr a ↦ absurd (omega (arith, a.0)) ]

    by : (d : Cause) → c ≡ d → EndsSo m (noted m end.note (known_by m s.switches [])) 0 end.states c → ⊥
    by d e g = one d (subst (λ z. IsOwn z) e own) (λ h. other (e ∙ h)) (λ board turn h. answers board turn (e ∙ h)) (subst (λ z. EndsSo m (noted m end.note (known_by m s.switches [])) 0 end.states z) e g)
      where
        one : (d : Cause) → IsOwn d → (d ≡ cause.Memory → ⊥) → ((board turn : ℕ) → d ≡ cause.Connect board turn → ⊥) → EndsSo m (noted m end.note (known_by m s.switches [])) 0 end.states d → ⊥
        one cause.Done own other answers g = running g.running
        one (cause.Line line kind) own other answers g = running g.running
        one (cause.Asked line) own other answers g = (let h : Connecting ≡ Stopping line = sym phase ∙ g.0 in cc)
        one (cause.Late board first arrival spoiled spill) own other answers g = (let h : None ≡ Some (cause.Late board first arrival spoiled spill) = sym (ap (late 0) states) ∙ g in cc)
        one (cause.Connect board turn) own other answers g = answers board turn refl
        one (cause.Stale board turn) own other answers g = g.0 phase
        one cause.Memory own other answers g = other refl
        one cause.Usage own other answers g = own
        one cause.ReadFault own other answers g = own
        one cause.WriteFault own other answers g = own
        one (cause.Config line kind) own other answers g = own
        one (cause.Scene line kind) own other answers g = own
        one d own other answers g = running g.0

-- one that was told to stop before its first turn shows the line of the machine alone
pub alone_plain : (m : Machine) (switches : List Switch) (end : ReactorTurn) (r : Known) → IsRow (length m.boards) 0 end.states end.note → r.begun ≡ (known_by m switches []).begun → EndsPlain m [] end r → ShowsNone m (gather (λ t. t.lines) (end ∷ []))
alone_plain m switches end r row same plain = search (rules, row_none, noted, first_lines, news_of, machine_line, append-nil)

-- so does one that goes on behind it, as no board is connected yet
unconnected : (m : Machine) (b : ℕ) (boards : List BoardDef) → 0 < length boards → all_connected (ready_all m b (listen_all (new_askings boards) [])) ≡ false
unconnected m b [] some = absurd (omega (arith, some))
unconnected m b (d ∷ boards) some = refl

given_plain : (o : Option Cause) (m : Machine) (r : Known) (k : ℕ) (lines : List ReportLine) (askings : List Asking) → all_connected askings ≡ false → (unless_given_up o m r k lines askings).ordered.lines ≡ lines
given_plain (Some cause) m r k lines askings e = refl
given_plain None m r k lines askings e = ap (λ (b : Bool). (if b then is_connected_now m r k lines askings else asks_boards m r k lines askings).ordered.lines) e

pub alone_goes : (m : Machine) (switches : List Switch) (end : ReactorTurn) → IsValidMachine m → IsReactorTurn m switches [] end → ShowsNone m (gather (λ t. t.lines) (end ∷ []))
alone_goes m switches end valid goes =
    let r = known_by m switches [] in
    let askings = ready_all m 0 (listen_all (new_askings m.boards) []) in
    let states : end.states ≡ [] = elim goes.row [ inl a ↦ a.1 | inr a ↦ absurd (omega (arith, a.0)) ] in
    let note = row_none (length m.boards) end goes.row in
    let Plain : List State × Option Note → Type 0 = λ z. (reacts m switches r 0 z.0 z.1).ordered.lines ≡ first_lines m (noted m z.1 r) 0 (news_of z.1) z.0 in
    let first : Plain ([], None) = given_plain (giving_up 0 0 askings) m r 0 (first_lines m r 0 [] []) askings (unconnected m 0 m.boards valid.boards_some) in
    alone_plain m switches end r goes.row refl (goes.lines_are ∙ subst Plain (λ j. (sym states j, sym note j)) first)

module _ (m : Machine) (v : IsValidMachine m) (s : Scene) (ts : List MotionTurn) (p : Plans m (length m.boards) ts) (end : ReactorTurn) (c : Cause) (first : ReactorTurn) (rest : List ReactorTurn) (f : Facts m s ts (first ∷ rest) end c)
    (shows : ShowHomes m p.seen (clocks_heard p.seen.told) (ready_heard p.seen.told) c first (rest ++ end ∷ [])) (told : AreTold true m (gather (λ t. t.lines) (first ∷ (rest ++ end ∷ [])))) (uncut : cuts_of (gather (λ t. t.lines) (first ∷ (rest ++ end ∷ []))) ≡ [])
    (none : heads_of (gather (λ t. t.lines) (first ∷ (rest ++ end ∷ []))) ≡ []) where
  -- no pulse comes before the first section starts
  still : (x : Started) (later : List Started) → p.seen.begun ≡ x ∷ later → AreBare m (gather (λ t. t.lines) (first ∷ (rest ++ end ∷ [])))
  still x later cut =
      let turns = first ∷ (rest ++ end ∷ []) in
      let Tell : List Started → Type 0 = λ z. TellTurns m z 0 turns in
      let early = unstarted m x later 0 turns (subst Tell cut shows.lines) none (omega arith) in
      (none, λ place h. shows.early x later turns [] place cut (sym (append-nil turns)) (omega (arith, early)) h)

  -- a report without the line of a section
  pub shown_none : ShowsNone m (gather (λ t. t.lines) (first ∷ (rest ++ end ∷ [])))
  shown_none = by p.seen.begun refl
    where
      by : (begun : List Started) → p.seen.begun ≡ begun → ShowsNone m (gather (λ t. t.lines) (first ∷ (rest ++ end ∷ [])))
      by [] e = shows_none m v s ts p end c first rest f (told_uncut m (gather (λ t. t.lines) (first ∷ (rest ++ end ∷ []))) told uncut) (bare_none m v s ts p end c first rest f e) (unbegun_lines m v s ts p end c first rest f)
      by (x ∷ later) e = shows_none m v s ts p end c first rest f (told_uncut m (gather (λ t. t.lines) (first ∷ (rest ++ end ∷ []))) told uncut) (still x later e) (unbegun_lines m v s ts p end c first rest f)

-- The report of a run over links of a text without sections checks.
use Rattle.std.proofs.Common.{◌≡◌, ◌∙◌, ℕ, List, [], ◌∷◌, ◌++◌, length, map, ap, sym, refl, subst, arith, append-nil, Some}
use Rattle.laws_board.proofs.Names.{∥∥₁_map, Cause, Machine, Section, IsValidMachine, ReportLine, ReactorTurn, gather, Run, Scene, Started}
use Rattle.std.proofs.Math.Logic.{∥∥₁_elim}
use Rattle.std.proofs.Props.{props}
use Rattle.io_core.specs.declared.traits.Files.{Ghosts as Files}
use Rattle.io_core.specs.declared.traits.Sink.{Ghosts as Sink}
use Rattle.gcode_program.specs.Programs.{program_sections}
use Rattle.plan_types.specs.declared.cause.Cause.TheVariants as cause
use Rattle.report_text.specs.declared.line.ReportLine.TheVariants as report
use Rattle.report_text.specs.Text.{report_text}
use Rattle.log_check.specs.Behind.{clocks}
use Rattle.plan_types.specs.Sections.{first_turn}
use Rattle.log_check.specs.Verdicts.{log_verdict}
use Rattle.laws_report.specs.logs.Follows.{in_order}
use Rattle.laws_report.specs.reports.Further.{further_told}
use Rattle.laws_report.specs.reports.Logged.{IsCauseOn, logged}
use Rattle.laws_report.specs.reports.Names.{HasNames}
use Rattle.laws_report.specs.reports.Within.{GoWithin}
use Rattle.laws_report.proofs.reports.Running.{within-checks}
use Rattle.session_lanes.specs.declared.near.LinkLog.{LinkLog}
use Rattle.session_lanes.specs.declared.near.Told.{Told}
use Rattle.session_run.specs.declared.tell.Kept.{Kept}
use Rattle.session_run.specs.Reported.{IsReported}
use Rattle.session_run.specs.Runs.{RunsOver}
use Rattle.laws_board.specs.plans.Planned.{Plans}
use Rattle.laws_run.specs.run_ends.Ends.{GoesThrough}
use Rattle.laws_run.proofs.run_ends.Ending.{own_cause}
use Rattle.laws_run.proofs.run_headline.Making.{run_made}
use Rattle.laws_run.proofs.run_headline.Runs.{facts}
use Rattle.laws_run.proofs.run_headline.Showing.{Facts, alone_ends}
use Rattle.laws_report.specs.reports.Checks.{check_cause}
use Rattle.laws_report.specs.reports.Promises.{sections_over}
use Rattle.laws_report.proofs.reports.Linking.{written-whole}
use Rattle.laws_report.proofs.reports.Unbegun.{ShowsNone, bare_none, cause_on, shows_none, told_none}
use Rattle.laws_report.proofs.reports.UnbegunLines.{unbegun_lines}

-- a planner begins no more sections than the text has
none_begun : (begun : List Started) (others : List Section) → [] ≡ map (λ s. s.section) begun ++ others → begun ≡ []
none_begun [] others e = refl
none_begun (s ∷ begun) others e = cc

-- a report that shows none goes through the sections of a text that has none
pub none-checks : (m : Machine) (text : List ℕ) (c : Cause) (said : List ReportLine) → HasNames m → IsValidMachine m → sections_over m text ≡ [] → IsCauseOn m c → ShowsNone m said → check_cause m text (report_text m (said ++ report.End c ∷ [])) ≡ cause.Done
unfolding log_verdict
none-checks m text c said names valid none on shows =
    let lines = clocks m (further_told (map logged said)) (in_order (map logged said)) in
    let go : GoWithin m [] lines first_turn said = record {
      head = said;
      body = [];
      are = sym (append-nil said);
      of_run = shows.of_run;
      may = shows.may;
      heads = shows.heads;
      lines_told = refl;
      all = λ some. absurd (omega (arith, some));
      soonest = omega arith;
      told_all = tt;
    } in
    within-checks m (sections_over m text) lines first_turn said c valid names (subst (λ (z : List Section). GoWithin m z lines first_turn said) (sym none) go) on

module _ {F S : Type 0} (f : Files F) (o : Sink S) (m : Machine) (s : Scene) (name : List ℕ) (files files' : F) (out out' : S) (kept kept' : Kept) (t : Told Run) (r : RunsOver f o m s name files out kept t files' out' kept') where
  none_by : (v : IsValidMachine m) (rs : List ReactorTurn) (p : Plans m (length m.boards) r.runs.0) → rs ≡ r.runs.1 → program_sections m p.seen.text ≡ [] → GoesThrough t.cause → IsCauseOn m t.cause × ShowsNone m (gather (λ t. t.lines) (rs ++ r.runs.2 ∷ []))
  none_by v [] p e none through =
      let Of : List ReactorTurn → Type 0 = λ z. Facts m s r.runs.0 z r.runs.2 t.cause in
      absurd (alone_ends m v s r.runs.0 p r.runs.2 t.cause (subst Of (sym e) (facts f o m s name files files' out out' kept kept' t r (written-whole t.cause through).0)) through)
  none_by v (first ∷ rest) p e none through =
      let Of : List ReactorTurn → Type 0 = λ z. Facts m s r.runs.0 z r.runs.2 t.cause in
      let begun = none_begun p.seen.begun p.of_text.0 (sym none ∙ p.of_text.1) in
      let own = subst Of (sym e) (facts f o m s name files files' out out' kept kept' t r (written-whole t.cause through).0) in
      let one = own_cause t.cause through in (
        cause_on m v s r.runs.0 p r.runs.2 t.cause first rest own through,
        shows_none m v s r.runs.0 p r.runs.2 t.cause first rest own (told_none m v s r.runs.0 p r.runs.2 t.cause first rest own begun one) (bare_none m v s r.runs.0 p r.runs.2 t.cause first rest own begun)
            (unbegun_lines m v s r.runs.0 p r.runs.2 t.cause first rest own),
      )

  pub none_shown : IsValidMachine m → (text : List ℕ) → f.told files name ≡ Some text → kept.at ≡ 0 → program_sections m text ≡ [] → GoesThrough t.cause → ∥ (IsCauseOn m t.cause × ShowsNone m (gather (λ t. t.lines) (r.runs.1 ++ r.runs.2 ∷ []))) ∥₁
  none_shown v text told at none through =
      ∥∥₁_map (run_made f o m s name files files' out out' kept kept' t r text told at) (λ w.
      let None_in : List ℕ → Type 0 = λ z. program_sections m z ≡ [] in
      none_by v r.runs.1 w.0.plans refl (subst None_in (sym w.1) none) through)

module _ {F S : Type 0} (f : Files F) (o : Sink S) (m : Machine) (s : Scene) (gcode : List ℕ) (files files' : F) (out out' : S) (c : Cause) (lines : List ReportLine) (counts : List ℕ) (links : List LinkLog) (valid : IsValidMachine m)
    (own : IsReported f o m s gcode files files' out out' c lines counts links) (text : List ℕ) (told : f.told files gcode ≡ Some text) (none : sections_over m text ≡ []) (names : HasNames m) (through : GoesThrough c) where
  pub none-links : check_cause m text (report_text m (own.said ++ report.End c ∷ [])) ≡ cause.Done
  none-links =
      let not = written-whole c through in
      let w = own.cause_is not.0 not.1 in
      let said : gather (λ (t : ReactorTurn). t.lines) (own.runs.runs.1 ++ own.runs.runs.2 ∷ []) ≡ own.said = own.shown ∙ ap (λ (z : List ReportLine). own.said ++ z) w.0 ∙ append-nil own.said in
      let Through : Cause → Type 0 = λ z. GoesThrough z in
      let shown = none_shown f o m s gcode files files' out own.behind own.kept own.kept' own.told own.runs valid text told own.fresh.at none (subst Through w.2 through) in
      let Of : Cause → Type 0 = λ z. IsCauseOn m z in
      ∥∥₁_elim shown (hlevel props)
      (λ shows. none-checks m text c own.said names valid none (subst Of (sym w.2) shows.0) (subst (λ (z : List ReportLine). ShowsNone m z) said shows.1))

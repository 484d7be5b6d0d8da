-- What a run over links of moves holds, and what is written of a run.
use Rattle.std.proofs.Common.{◌≡◌, ◌∙◌, ℕ, List, [], ◌∷◌, ◌++◌, sym, ap, subst, Some, inl}
use Rattle.io_core.specs.declared.traits.Files.{Ghosts as Files}
use Rattle.io_core.specs.declared.traits.Sink.{Ghosts as Sink}
use Rattle.laws_board.proofs.Names.{Cause, Machine, ReportLine, Scene, IsValidMachine}
use Rattle.plan_types.specs.declared.cause.Cause.TheVariants as cause
use Rattle.report_text.specs.declared.line.ReportLine.TheVariants as report
use Rattle.report_text.specs.Text.{report_text}
use Rattle.session_lanes.specs.declared.near.LinkLog.{LinkLog}
use Rattle.laws_board.specs.causes.Short.{HaveShortDictionaries}
use Rattle.laws_run.specs.run_ends.Ends.{GoesThrough}
use Rattle.laws_run.specs.run_headline.Timely.{AreOfMoves, HoldsNothingLong}
use Rattle.laws_run.specs.home_headline.Near.{AllTakeNear}
use Rattle.laws_report.specs.reports.Checks.{check_cause}
use Rattle.laws_report.specs.reports.Promises.{sections_over}
use Rattle.laws_report.specs.reports.Linked.{IsLinkReport, KeepUp}
use Rattle.laws_report.specs.reports.Names.{HasNames}
use Rattle.laws_report.specs.page.Report.{Shows}
use Rattle.laws_run.proofs.home_headline.OfMoves.{run_near}
use Rattle.laws_report.proofs.reports.Linking.{same-log, written-whole}
use Rattle.laws_report.proofs.reports.Reported.{checked, shown_where}

module _ {F S : Type 0} (f : Files F) (o : Sink S) (m : Machine) (s : Scene) (gcode : List ℕ) (files files' : F) (out out' : S) (c : Cause) (lines : List ReportLine) (counts : List ℕ) (links : List LinkLog)
    (r : IsLinkReport f o m s gcode files files' out out' c lines counts links) (text : List ℕ) where
  -- a run of moves of which no line holds a command for long takes all near
  pub moves-near : HaveShortDictionaries m → AreOfMoves (sections_over m text) → (r.reported.told.cause ≡ cause.Memory → ⊥) → HoldsNothingLong m s text r.reported.runs.runs.0 (r.reported.runs.runs.1 ++ r.reported.runs.runs.2 ∷ [])
      → AllTakeNear m s text r.reported.runs.runs.0 (r.reported.runs.runs.1 ++ r.reported.runs.runs.2 ∷ [])
  moves-near short moves other holds =
      let own = r.reported in
      let valid : IsValidMachine m = subst (λ (x : Machine). IsValidMachine x) own.runs.printer own.runs.fresh.machine in
      run_near f o m s gcode files files' out own.behind own.kept own.kept' own.told own.runs valid text moves short other holds

  -- what a run shows whose boards keep up
  pub keep-show : HaveShortDictionaries m → f.told files gcode ≡ Some text → KeepUp m s text r.reported.runs.runs.0 r.reported.runs.runs.1 r.reported.runs.runs.2 r.reported.told.cause → ∥ Shows (Unit {0}) m s text c r.reported.said ∥₁
  keep-show short told keeps =
      let own = r.reported in
      let valid : IsValidMachine m = subst (λ (x : Machine). IsValidMachine x) own.runs.printer own.runs.fresh.machine in
      shown_where f o m s gcode files files' out out' c lines counts links valid short r.scene own text told (Unit {0}) (λ _. keeps)

  -- and its check
  pub keep-check : HaveShortDictionaries m → HasNames m → f.told files gcode ≡ Some text → KeepUp m s text r.reported.runs.runs.0 r.reported.runs.runs.1 r.reported.runs.runs.2 r.reported.told.cause → GoesThrough c
      → check_cause m text (report_text m (r.reported.said ++ report.End c ∷ [])) ≡ cause.Done
  keep-check short names told keeps through =
      let own = r.reported in
      let valid : IsValidMachine m = subst (λ (x : Machine). IsValidMachine x) own.runs.printer own.runs.fresh.machine in
      checked f o m s gcode files files' out out' c lines counts links valid short r.scene own text told through names (inl keeps)

  -- what is written is the report, where nothing was written before
  pub as-written : GoesThrough c → (log : List ℕ) → o.written out ≡ Some [] → o.written out' ≡ Some log → check_cause m text (report_text m (r.reported.said ++ report.End c ∷ [])) ≡ cause.Done → check_cause m text log ≡ cause.Done
  as-written through log none wrote checks =
      let own = r.reported in
      let not = written-whole c through in
      let w = own.cause_is not.0 not.1 in
      let all = own.written.all not.0 not.1 [] none in
      let is : log ≡ report_text m (own.said ++ report.End own.own ∷ []) = same-log log (report_text m (own.said ++ report.End own.own ∷ [])) (sym wrote ∙ all) in
      ap (check_cause m text) (is ∙ ap (λ (x : Cause). report_text m (own.said ++ report.End x ∷ [])) (w.1 ∙ sym w.2)) ∙ checks

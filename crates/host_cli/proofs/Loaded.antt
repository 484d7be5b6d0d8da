-- The summary of a run of a load.
use Rattle.std.proofs.Common.{◌≡◌, ◌≢◌, ◌∙◌, ℕ, ◌≤◌, List, Option, Some, inl, inr, ap, subst, sym, arith}
use Rattle.generated_load.specs.Printer.{load_machine}
use Rattle.generated_load.specs.Text.{load_text}
use Rattle.io_core.specs.Faults.{Rose}
use Rattle.io_core.specs.declared.traits.Files.{Ghosts as Files}
use Rattle.io_core.specs.declared.traits.Sink.{Ghosts as Sink}
use Rattle.plan_types.specs.declared.cause.Cause.{Cause}
use Rattle.plan_types.specs.declared.cause.Cause.TheVariants as cause
use Rattle.plan_types.specs.declared.machine.Machine.{Machine}
use Rattle.plan_types.specs.Machines.{IsValidMachine}
use Rattle.report_text.specs.declared.line.ReportLine.{ReportLine}
use Rattle.session_run.specs.declared.ended.Ended.{Ended}
use Rattle.session_run.specs.declared.ended.Report.{Report}
use Rattle.session_run.specs.Reported.{EndsOver}
use Rattle.wire_scene.specs.declared.scene.Scene.{Scene}
use Rattle.host_cli.specs.declared.answer.Answer.{Answer}
use Rattle.laws_report.specs.reports.Read.{no_scene}
use Rattle.laws_report.specs.reports.Promises.{WritesText}
use Rattle.host_cli.specs.Promises.{EndsAs}
use Rattle.laws_board.specs.causes.Short.{HaveShortDictionaries}
use Rattle.laws_report.specs.reports.Linked.{IsLinkReport}
use Rattle.laws_report.proofs.loads.Runs.{load-run}
use Rattle.laws_report.proofs.loads.Short.{load_dictionaries}
use Rattle.laws_report.proofs.reports.Reported.{planned}
use Rattle.host_cli.proofs.Whole.{end-shown, given-for}
use Rattle.host_cli.specs.Counts.{summary}
use Rattle.host_cli.specs.Loads.{AreCounts, IsLoadAnswer, ShowsLoad}

-- no fault is counted where none can be
pub never-rose : Rose 0 0 → ⊥
never-rose (inl more) = omega (arith, more)
never-rose (inr most) = omega (arith, most)

pub load-summary : {F S : Type 0} (f : Files F) (o : Sink S) (seed moves : ℕ) (m : Machine) (s : Scene) (name : List ℕ) (files files' : F) (out out' : S) (e : Ended) (shown : List ReportLine)
    → m ≡ load_machine → IsValidMachine m → s ≡ no_scene → moves ≤ 1_000_000 → f.told files name ≡ Some (load_text seed moves) → e.cause ≢ cause.Memory → e.cause ≢ cause.ReadFault → e.cause ≢ cause.WriteFault → shown ≡ summary seed moves e.report.counts e.cause
    → EndsOver f o m s name files files' out out' e → IsLoadAnswer f o seed moves (record { cause = e.cause; machine = m; report = record { lines = shown; counts = e.report.counts; links = e.report.links } })
load-summary f o seed moves m s name files files' out out' e shown is valid none few told memory reads writes shows (inl r) =
    let short = subst (λ (x : Machine). HaveShortDictionaries x) (sym is) load_dictionaries in
    inl record {
      machine = is;
      run = load-run f o seed moves name files files' out out' e.cause e.report.lines e.report.counts e.report.links.items (omega arith) told memory reads writes
          (subst (λ (x : Machine × Scene). IsLinkReport f o x.0 x.1 name files files' out out' e.cause e.report.lines e.report.counts e.report.links.items) (λ i. (is i, none i))
          (planned f o m s name files files' out out' e.cause e.report.lines e.report.counts e.report.links.items valid short (inl none) r));
      lines = shows;
    }
load-summary f o seed moves m s name files files' out out' e shown is valid none few told memory reads writes shows (inr n) = absurd (memory n.memory)

-- the summary as it is written
pub load-shown : {F S : Type 0} (f : Files F) (o : Sink S) (seed moves : ℕ) (a : Answer) (shown : Report) (old new : Option (List ℕ)) (given : Cause) (before after : ℕ) → shown ≡ a.report → EndsAs a.cause before after given
    → WritesText a.machine old new given shown.lines → IsLoadAnswer f o seed moves a → ShowsLoad f o seed moves old new given shown
load-shown f o seed moves a shown old new given before after same ends written (inl s) = inl record {
  own = a.cause;
  run = (let Counts : Report → Type 0 = λ r. AreCounts f o seed moves a.cause r in subst Counts (sym same) s.run);
  shows = record {
    same = ap (λ (r : Report). r.lines) same ∙ s.lines ∙ ap (λ (r : Report). summary seed moves r.counts a.cause) (sym same);
    given_is = given-for a.cause given before after ends;
    bytes = (let W : Machine → Type 0 = λ m. WritesText m old new given shown.lines in subst W s.machine written);
  };
}
load-shown f o seed moves a shown old new given before after same ends written (inr (inl e)) =
    inr (end-shown a shown old new given before after same ends written cause.Memory e)
load-shown f o seed moves a shown old new given before after same ends written (inr (inr e)) =
    inr (end-shown a shown old new given before after same ends written cause.Memory e)

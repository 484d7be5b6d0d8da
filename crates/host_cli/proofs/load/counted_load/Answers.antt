use Rattle.std.proofs.Common.{◌≡◌, ◌∙◌, ℕ, List, ap, rules}
use Rattle.generated_load.specs.contracts.load_file.LoadFilesFiles.TheImpl.{ghosts as load_ghosts}
use Rattle.io_core.specs.contracts.sure.SureSinkSink.TheImpl.{ghosts as sink_ghosts}
use Rattle.std.specs.Prelude.{codes}
use Rattle.host_cli.specs.Counts.{summary}
use Rattle.host_cli.proofs.Loaded.{load-summary, never-rose}
use Rattle.host_cli.proofs.Scened.{empty-scene}
use Rattle.host_cli.proofs.load.counted_load.Goals as goal

pub returns-clause-load : goal.returns-clause-load
returns-clause-load g c =
    let e = c.run-ran.ensures.ends in
    let r = c.run-ran.result in
    let counts_are : c.of.result ≡ summary c.args.seed c.args.moves r.report.counts r.cause = c.of.ensures ∙ c.in_ok-lines.ensures ∙ ap (λ (n : List ℕ). summary c.args.seed c.args.moves n r.cause) c.as_slice.ensures in
    load-summary load_ghosts sink_ghosts c.args.seed c.args.moves c.in_ok-machine.machine c.empty-scene.result (codes "load") c.new-files.result c.run-ran.new.files e.0 e.1 r c.of.result
    c.in_ok-machine.ensures.value c.in_ok-machine.ensures.valid (empty-scene c.empty-scene.result c.empty-scene.ensures.entries c.empty-scene.ensures.switches) c.requires.few (c.new-files.ensures (codes "load"))
    (search rules) (λ is. never-rose (c.run-ran.ensures.read is)) (λ is. never-rose (c.run-ran.ensures.write is)) counts_are e.2

-- A run over links, as a command answers it.
use Rattle.std.proofs.Common.{ℕ, List, refl, inl, inr}
use Rattle.plan_types.specs.declared.cause.Cause.{Cause}
use Rattle.plan_types.specs.declared.cause.Cause.TheVariants as cause
use Rattle.plan_types.specs.declared.machine.Machine.{Machine}
use Rattle.plan_types.specs.Machines.{IsValidMachine}
use Rattle.io_core.specs.declared.traits.Files.{Ghosts as Files}
use Rattle.io_core.specs.declared.traits.Sink.{Ghosts as Sink}
use Rattle.wire_scene.specs.declared.scene.Scene.{Scene}
use Rattle.session_run.specs.declared.ended.Ended.{Ended}
use Rattle.session_run.specs.declared.ended.Report.{Report}
use Rattle.session_run.specs.Reported.{EndsOver, IsNotBegun}
use Rattle.laws_board.specs.causes.Short.{HaveShortDictionaries}
use Rattle.host_cli.specs.Promises.{EndsAlone}
use Rattle.host_cli.specs.Scenes.{ShowsRun}
use Rattle.laws_report.specs.reports.Read.{IsSceneFor}
use Rattle.laws_report.proofs.reports.Reported.{planned}

-- none was begun
not_begun : {F S : Type 0} (f : Files F) (o : Sink S) (m : Machine) (files files' : F) (out out' : S) (c : Cause) (shown : Report) → IsNotBegun f o m files files' out out' c shown → EndsAlone cause.Memory (o.written out) (o.written out') c shown
not_begun f o m files files' out out' c shown n = record {
  alone = elim n.lines_are [ inl e ↦ inl e | inr e ↦ inr (e, refl) ];
  bare = n.bare;
  given_is = inl n.memory;
  names = m;
  bytes = (n.written, λ memory write. absurd (memory n.memory));
}

pub run_planned : {F S : Type 0} (f : Files F) (o : Sink S) (m : Machine) (s : Scene) (gcode : List ℕ) (files files' : F) (out out' : S) (e : Ended) → IsValidMachine m → HaveShortDictionaries m → IsSceneFor m s
    → EndsOver f o m s gcode files files' out out' e → ShowsRun f o m s gcode files files' out out' e.cause e.report
run_planned f o m s gcode files files' out out' e v short scene (inl r) = inl (files, (λ name. refl), planned f o m s gcode files files' out out' e.cause e.report.lines e.report.counts e.report.links.items v short scene r)
run_planned f o m s gcode files files' out out' e v short scene (inr n) = inr (inl (not_begun f o m files files' out out' e.cause e.report n))

-- What a run over links answers, and the scene that it has.
use Rattle.std.specs.Prelude.{◌≡◌, ◌⊎◌, ℕ, List, Option, Some, Ok, Err}
use Rattle.io_core.specs.declared.traits.Files.{Ghosts as Files}
use Rattle.io_core.specs.declared.traits.Sink.{Ghosts as Sink}
use Rattle.plan_types.specs.declared.cause.Cause.{Cause}
use Rattle.plan_types.specs.declared.cause.Cause.TheVariants as cause
use Rattle.plan_types.specs.declared.machine.Machine.{Machine}
use Rattle.session_run.specs.declared.ended.Report.{Report}
use Rattle.wire_scene.specs.declared.fault.SceneFault.TheVariants as fault
use Rattle.wire_scene.specs.declared.scene.Scene.{Scene}
use Rattle.wire_scene.specs.Reading as scenes
use Rattle.host_cli.specs.Promises.{IsCut}
use Rattle.laws_report.specs.reports.Linked.{IsLinkReport}

-- Links: the report is that of a run of the planner, a link for each board and the reactor, over this file of
-- G-code; or there is an end line alone, of want of memory or of a file that can't be read.
abbrev pub ShowsRun : {F S : Type 0} → Files F → Sink S → Machine → Scene → List ℕ → F → F → S → S → Cause → Report →
    Type 0
ShowsRun {F} f o m s gcode files files' out out' c r =
    ((before : F) × ((name : List ℕ) → f.told before name ≡ f.told files name)
    × IsLinkReport f o m s gcode before files' out out' c r.lines r.counts r.links.items)
    ⊎ IsCut (o.written out) (o.written out') c r

-- the scene of a text for a machine, where its bytes are told
abbrev pub IsSceneIn : Machine → Option (List ℕ) → Scene → Type 0
IsSceneIn m told s = (text : List ℕ) → told ≡ Some text → scenes.scene_of_text m text ≡ Ok s

-- the cause why there is no scene: its first fault, where its bytes are told; or that it can't be read
abbrev pub IsSceneFault : Machine → Option (List ℕ) → Cause → Type 0
IsSceneFault m told (cause.Scene line kind) =
    (text : List ℕ) → told ≡ Some text → scenes.scene_of_text m text ≡ Err (fault.At line kind)
IsSceneFault m told cause.Memory = Unit {0}
IsSceneFault m told cause.ReadFault = Unit {0}
IsSceneFault m told other = ⊥

-- What the top call answers, by what its words ask for.
use Rattle.std.specs.Prelude.{◌≡◌, ◌≢◌, ℕ, ◌<◌, ◌^◌, List, [], Option, Some, None, Result, Ok, Err, length}
use Rattle.bed_mesh.specs.declared.fault.MeshFault.{MeshFault}
use Rattle.bed_mesh.specs.declared.fault.MeshFault.TheVariants as beds
use Rattle.bed_mesh.specs.declared.mesh.Mesh.{Mesh}
use Rattle.bed_mesh.specs.Tables as tables
use Rattle.cfg_lines.specs.declared.fault.CfgFault.{CfgFault}
use Rattle.cfg_lines.specs.declared.fault.CfgFault.TheVariants as config
use Rattle.cfg_text.specs.Reading.{machine_of_text}
use Rattle.command_words.specs.Forms.{Asked, check, dump, fan, make, mesh, replay, run, scene}
use Rattle.frame_dump.specs.declared.fault.TraceFault.{TraceFault}
use Rattle.frame_dump.specs.declared.fault.TraceFault.TheVariants as trace
use Rattle.frame_dump.specs.declared.trace.TraceTurn.{TraceTurn}
use Rattle.frame_dump.specs.Traces as traces
use Rattle.io_core.specs.declared.traits.Files.{Ghosts as Files}
use Rattle.io_core.specs.declared.traits.Sink.{Ghosts as Sink}
use Rattle.io_core.specs.Faults.{Rose}
use Rattle.bed_mesh.specs.Files.{mesh_code, mesh_end}
use Rattle.plan_types.specs.declared.cause.Cause.{Cause}
use Rattle.plan_types.specs.declared.cause.Cause.TheVariants as cause
use Rattle.plan_types.specs.declared.cause.CfgKind.{CfgKind}
use Rattle.plan_types.specs.declared.cause.MeshKind.{MeshKind}
use Rattle.plan_types.specs.declared.cause.SceneKind.{SceneKind}
use Rattle.plan_types.specs.declared.cause.TraceKind.{TraceKind}
use Rattle.plan_types.specs.declared.machine.BoardDef.{BoardDef}
use Rattle.plan_types.specs.declared.machine.FanDef.{FanDef}
use Rattle.plan_types.specs.declared.machine.Machine.{Machine}
use Rattle.session_run.specs.declared.ended.Ended.{Ended}
use Rattle.session_run.specs.declared.ended.Report.{Report}
use Rattle.wire_scene.specs.declared.fault.SceneFault.{SceneFault}
use Rattle.wire_scene.specs.declared.fault.SceneFault.TheVariants as scenes
use Rattle.wire_scene.specs.declared.scene.Scene.{Scene}
use Rattle.wire_scene.specs.Reading as scene_text
use Rattle.host_cli.specs.declared.traffic.Task.{Task}
use Rattle.host_cli.specs.declared.traffic.Task.TheVariants.{Dump, Replay}
use Rattle.laws_report.specs.reports.Body.{cause_of}
use Rattle.host_cli.specs.Checks.{ShowsCheck}
use Rattle.host_cli.specs.Fans.{ShowsFan}
use Rattle.laws_report.specs.reports.Read.{no_scene}
use Rattle.host_cli.specs.Meshes.{ShowsMesh}
use Rattle.host_cli.specs.Promises.{EndsBeforeRun, IsRefused}
use Rattle.host_cli.specs.Scenes.{ShowsRun}
use Rattle.host_cli.specs.Traffic.{ShowsTraffic, board_named}
use Rattle.host_cli.specs.Loads.{ShowsLoad}

-- something is asked of the machine that a configuration describes, or of the cause that its first fault is
pub record OnMachine (shows : Machine → Type 0) (refused : Cause → Type 0) (r : Result Machine CfgFault) : Type 0 where
  pub read : (m : Machine) → r ≡ Ok m → shows m
  pub fault : (line : ℕ) (kind : CfgKind) → r ≡ Err (config.At line kind) → refused (cause.Config line kind)

-- something is asked of the scene that a text is, or of the cause that its first fault is
pub record OnScene (shows : Scene → Type 0) (refused : Cause → Type 0) (r : Result Scene SceneFault) : Type 0 where
  pub read : (s : Scene) → r ≡ Ok s → shows s
  pub fault : (line : ℕ) (kind : SceneKind) → r ≡ Err (scenes.At line kind) → refused (cause.Scene line kind)

-- something is asked of the turns that a trace has, or of the cause that its first fault is
pub record OnTrace (shows : List TraceTurn → Type 0) (refused : Cause → Type 0)
    (r : Result (List TraceTurn) TraceFault) : Type 0 where
  pub read : (turns : List TraceTurn) → r ≡ Ok turns → shows turns
  pub fault : (line : ℕ) (kind : TraceKind) → r ≡ Err (trace.At line kind) → refused (cause.Trace line kind)

-- something is asked of the table of heights that a text is, or of the cause that its first fault is
pub record OnBed (shows : Mesh → Type 0) (refused : Cause → Type 0) (r : Result Mesh MeshFault) : Type 0 where
  pub read : (t : Mesh) → r ≡ Ok t → shows t
  pub fault : (line : ℕ) (kind : MeshKind) → r ≡ Err (beds.At line kind) → refused (cause.Mesh line kind)

-- or of what a machine has, and else for a cause
pub record OnThere {A : Type 0} (shows : A → Type 0) (refused : Type 0) (r : Option A) : Type 0 where
  pub there : (x : A) → r ≡ Some x → shows x
  pub none : r ≡ None → refused

-- or of what a file holds, where its bytes are told
abbrev pub Holding : Option (List ℕ) → (List ℕ → Type 0) → Type 0
Holding told shows = (text : List ℕ) → told ≡ Some text → shows text

-- or of a text, where there are fewer than 2^62 bytes besides
abbrev pub HoldingText : Option (List ℕ) → (List ℕ → Type 0) → Type 0
HoldingText told shows = (text : List ℕ) → told ≡ Some text → length text < 2 ^ 62 → shows text

-- faults are told only where they were counted, and none was where none is told
pub record CountsFaults (files files' out out' : ℕ) (given : Cause) : Type 0 where
  pub read : given ≡ cause.ReadFault → Rose files files'
  pub write : given ≡ cause.WriteFault → Rose out out'
  pub quiet_files : given ≢ cause.ReadFault → given ≢ cause.WriteFault → given ≢ cause.Memory → files' ≡ files
  pub quiet_output : given ≢ cause.WriteFault → given ≢ cause.Memory → out' ≡ out

-- What a command answers, from these files and this output to those: how it ended, with its cause and its
-- report, in which are the pulses of each stepper and what the links carried. A load is a file of its own,
-- and the lines of its run go to an output of its own.
module _ {F S L O : Type 0} (f : Files F) (o : Sink S) (loads : Files L) (sure : Sink O) (files files' : F)
    (out out' : S) (e : Ended) where
  -- something of what was written before and behind, and of the cause and the report
  abbrev pub Shown : (Option (List ℕ) → Option (List ℕ) → Cause → Report → Type 0) → Type 0
  Shown shows = shows (o.written out) (o.written out') e.cause e.report

  -- nothing is done, for a cause
  abbrev pub Refuses : Cause → Type 0
  Refuses c = Shown (IsRefused c)

  -- something of the machine of a configuration, or its first fault
  abbrev pub OnConfig : List ℕ → (Machine → Type 0) → Type 0
  OnConfig config shows = Holding (f.told files config) (λ printer. OnMachine shows Refuses (machine_of_text printer))

  -- a run of a G-code on a machine in a scene
  abbrev pub Runs : List ℕ → Machine → Scene → Type 0
  Runs gcode m s = ShowsRun f o m s gcode files files' out out' e.cause e.report

  -- a task with the trace of a file, on a board of a machine
  abbrev pub Does : Task → List ℕ → List ℕ → Machine → Type 0
  Does task name file m =
      OnThere (λ (b : BoardDef). Holding (f.told files file)
      (λ text. OnTrace (λ turns. Shown (ShowsTraffic task b turns)) Refuses (traces.trace_of_text text)))
      (Refuses cause.NoBoard) (board_named name m.boards)

  -- a G-code over the bed of a table, or a first fault, as a comment
  abbrev pub Bends : List ℕ → Cause → Type 0
  Bends code c = Shown (ShowsMesh code c)

  -- What is answered, by what the words ask for. Of a file whose bytes are not told nothing is said.
  abbrev pub Answers : Option Asked → Type 0
  Answers None = Shown (EndsBeforeRun cause.Usage)
  Answers (Some (run config gcode)) = OnConfig config (λ m. Runs gcode m no_scene)
  Answers (Some (scene config gcode file)) =
      OnConfig config
      (λ m. Holding (f.told files file) (λ text. OnScene (Runs gcode m) Refuses (scene_text.scene_of_text m text)))
  Answers (Some (make seed moves)) = Shown (ShowsLoad loads sure seed moves)
  Answers (Some (fan config gcode)) =
      OnConfig config (λ m. OnThere
      (λ (d : FanDef). HoldingText (f.told files gcode) (λ text. Shown (ShowsFan m d text))) (Refuses cause.NoFan)
      m.fan)
  Answers (Some (check config gcode log)) =
      OnConfig config (λ m. HoldingText (f.told files gcode) (λ text. HoldingText (f.told files log) (λ told.
      Shown (ShowsCheck m text told))))
  Answers (Some (dump config name file)) = OnConfig config (Does Dump name file)
  Answers (Some (replay config name file)) = OnConfig config (Does Replay name file)
  Answers (Some (mesh config gcode table)) =
      Holding (f.told files config) (λ printer. OnMachine (λ m. Holding (f.told files table) (λ rows. OnBed
      (λ t. HoldingText (f.told files gcode) (λ text. Bends (mesh_code m t text) (cause_of (mesh_end m t text).stop)))
      (Bends []) (tables.mesh_of_text rows))) (Bends []) (machine_of_text printer))

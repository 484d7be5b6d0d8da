-- What `dump` and `replay` write: what the bytes of a trace hold, and what a board makes of them.
use Rattle.std.specs.Prelude.{◌≡◌, ◌≢◌, ◌⊎◌, ℕ, List, [], ◌∷◌, ◌++◌, codes, Option, Some, None, Ok, Err, if◌then◌else◌}
use Rattle.std.specs.Str.{bytes_eq}
use Rattle.frame_dump.specs.declared.fault.TraceFault.TheVariants as fault
use Rattle.frame_dump.specs.declared.line.DumpLine.{DumpLine}
use Rattle.frame_dump.specs.declared.trace.TraceTurn.{TraceTurn}
use Rattle.frame_dump.specs.Dumps.{IsDump}
use Rattle.frame_dump.specs.Replays.{IsReplay}
use Rattle.frame_dump.specs.Text.{dump_text, replay_text}
use Rattle.frame_dump.specs.Traces as traces
use Rattle.io_core.specs.Faults.{Rose}
use Rattle.msg_dict.specs.Own.{own_formats}
use Rattle.plan_types.specs.declared.cause.Cause.{Cause}
use Rattle.plan_types.specs.declared.cause.Cause.TheVariants as cause
use Rattle.plan_types.specs.declared.cause.TraceKind.{TraceKind}
use Rattle.plan_types.specs.declared.machine.BoardDef.{BoardDef}
use Rattle.plan_types.specs.declared.plan.BoardState.{BoardState}
use Rattle.plan_types.specs.declared.plan.Pulse.{Pulse}
use Rattle.report_text.specs.declared.line.ReportLine.TheVariants as report
use Rattle.report_text.specs.Written.{WritesAll, WritesFront}
use Rattle.session_run.specs.declared.ended.Report.{Report}
use Rattle.session_run.specs.Ends.{IsBare, status_of}
use Rattle.session_run.specs.Reported.{GivenFor}
use Rattle.host_cli.specs.declared.traffic.Task.{Task}
use Rattle.host_cli.specs.declared.traffic.Task.TheVariants.{Dump, Replay}
use Rattle.host_cli.specs.Promises.{IsCut}

-- the first board of a name
abbrev pub board_named : List ℕ → List BoardDef → Option BoardDef
board_named name [] = None
board_named name (b ∷ boards) = if bytes_eq b.name name then Some b else board_named name boards

-- the text of a task: the dump of the trace, by the boards' own dictionary, or its replay on the board
abbrev pub IsTrafficText : Task → BoardDef → List TraceTurn → List ℕ → Type 0
IsTrafficText Dump b turns text = (lines : List DumpLine) × IsDump own_formats turns lines × (text ≡ dump_text lines)
IsTrafficText Replay b turns text =
    (pulses : List Pulse) × (state : BoardState) × IsReplay b turns pulses state
    × (text ≡ replay_text b.name pulses state)

-- a text with the end line behind it
abbrev pub with_end : List ℕ → List ℕ
with_end text = text ++ codes "end 0 done\n"

-- The text of the task and the end line are written, a front of them where memory was wanted or a write
-- failed; the report is the end line alone.
pub record WritesTraffic (task : Task) (b : BoardDef) (turns : List TraceTurn) (old new : Option (List ℕ))
    (given : Cause) (r : Report) : Type 0 where
  pub text : List ℕ
  pub is : IsTrafficText task b turns text
  pub given_is : GivenFor cause.Done given
  pub front : WritesFront old new (with_end text)
  pub all : given ≢ cause.Memory → given ≢ cause.WriteFault → WritesAll old new (with_end text)
  pub alone : r.lines ≡ report.End cause.Done ∷ []
  pub bare : IsBare r

-- so; or there is an end line alone, of want of memory or of a file that can't be read
abbrev pub ShowsTraffic : Task → BoardDef → List TraceTurn → Option (List ℕ) → Option (List ℕ) → Cause → Report → Type 0
ShowsTraffic task b turns old new given r = WritesTraffic task b turns old new given r ⊎ IsCut old new given r

-- the trace of a text, where its bytes are told
abbrev pub IsTraceIn : Option (List ℕ) → List TraceTurn → Type 0
IsTraceIn told turns = (text : List ℕ) → told ≡ Some text → traces.trace_of_text text ≡ Ok turns

-- the cause why there is no trace: its first fault, where its bytes are told; or want of memory; or that it
-- can't be read
abbrev pub IsTraceFault : Option (List ℕ) → Cause → Type 0
IsTraceFault told c =
    ((line : ℕ) × (kind : TraceKind) × (c ≡ cause.Trace line kind)
    × ((text : List ℕ) → told ≡ Some text → traces.trace_of_text text ≡ Err (fault.At line kind)))
    ⊎ ((c ≡ cause.Memory) ⊎ (c ≡ cause.ReadFault))

-- the cause of a command and its status, and that faults are told only where they were counted, before and behind it
pub record EndsCleanly (files files' out out' : ℕ) (status : ℕ) (given : Cause) : Type 0 where
  pub named : given ≢ cause.Usage
  pub status_is : status ≡ status_of given
  pub read : given ≡ cause.ReadFault → Rose files files'
  pub write : given ≡ cause.WriteFault → Rose out out'
  pub quiet_files : given ≢ cause.ReadFault → given ≢ cause.WriteFault → given ≢ cause.Memory → files' ≡ files
  pub quiet_output : given ≢ cause.WriteFault → given ≢ cause.Memory → out' ≡ out

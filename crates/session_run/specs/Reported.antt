-- The report of a whole run.
use Rattle.std.specs.Prelude.{◌≡◌, ◌≢◌, ◌⊎◌, ℕ, List, [], ◌∷◌, ◌++◌, Option, Some, None, length, replicate, vec_len}
use Rattle.io_core.specs.declared.traits.Files.{Ghosts as Files}
use Rattle.io_core.specs.declared.traits.Sink.{Ghosts as Sink}
use Rattle.plan_types.specs.declared.cause.Cause.{Cause}
use Rattle.plan_types.specs.declared.cause.Cause.TheVariants as cause
use Rattle.plan_types.specs.declared.machine.Machine.{Machine}
use Rattle.report_text.specs.declared.line.ReportLine.{ReportLine}
use Rattle.report_text.specs.declared.line.ReportLine.TheVariants as report
use Rattle.report_text.specs.Text.{report_text}
use Rattle.report_text.specs.declared.write.WriteStop.{WriteStop}
use Rattle.report_text.specs.declared.write.WriteStop.TheVariants as stop
use Rattle.report_text.specs.Written.{WritesAll, WritesFront}
use Rattle.wire_scene.specs.declared.scene.Scene.{Scene}
use Rattle.report_text.specs.declared.line.Show.{Show}
use Rattle.report_text.specs.declared.line.Show.TheVariants as show
use Rattle.session_lanes.specs.declared.near.LinkLog.{LinkLog}
use Rattle.session_lanes.specs.declared.near.Told.{Told}
use Rattle.session_run.specs.declared.tell.Kept.{Kept}
use Rattle.session_run.specs.Counts.{pulse_counts}
use Rattle.session_run.specs.Desks.{reported_lines}
use Rattle.session_run.specs.Tells.{without_pulses}
use Rattle.host_reactor.specs.Reactor.{Run}
use Rattle.session_run.specs.declared.ended.Ended.{Ended}
use Rattle.session_run.specs.declared.ended.Report.{Report}
use Rattle.session_run.specs.Ends.{IsBare}
use Rattle.session_run.specs.Runs.{RunsOver}

-- before a run nothing is kept, and no pulse of so many steppers was counted
pub record IsFresh (steppers : ℕ) (k : Kept) : Type 0 where
  pub lines : k.lines ≡ []
  pub counts : k.counts.items ≡ replicate steppers 0
  pub at : k.at ≡ 0
  pub unwritten : k.unwritten ≡ None
  pub unread : k.unread ≡ None

-- the cause of a run of whose report a write failed: that it failed, in the place of each cause but want of memory
abbrev pub with_failure : Cause → Cause
with_failure cause.Memory = cause.Memory
with_failure _ = cause.WriteFault

-- the cause that ends a run whose writing stopped, or didn't
abbrev pub own_of : Option WriteStop → Cause → Cause
own_of None c = c
own_of (Some stop.Memory) c = cause.Memory
own_of (Some stop.Failed) c = with_failure c

-- What a run whose report ends with the line of a cause answers behind the writing of that line: this cause;
-- or want of memory; or that a write failed.
abbrev pub GivenFor : Cause → Cause → Type 0
GivenFor own given = (given ≡ own) ⊎ ((given ≡ cause.Memory) ⊎ (given ≡ with_failure own))

-- a cause that a run may end with: it is none of words, of a configuration or of a scene
abbrev pub IsOfRun : Cause → Type 0
IsOfRun cause.Usage = ⊥
IsOfRun (cause.Config line kind) = ⊥
IsOfRun (cause.Scene line kind) = ⊥
IsOfRun _ = Unit {0}

-- the lines of the reactor in a run
abbrev pub run_lines : {F S : Type 0} → (f : Files F) → (o : Sink S) → (m : Machine) → (s : Scene) → (name : List ℕ) →
    (files : F) → (out : S) → (kept : Kept) → (t : Told Run) → (files' : F) → (out' : S) → (kept' : Kept) →
    RunsOver f o m s name files out kept t files' out' kept' → List ReportLine
run_lines f o m s name files out kept t files' out' kept' r = reported_lines (r.runs.1 ++ r.runs.2 ∷ [])

-- The text of a report's lines is written: a front of it, and the whole where the run ends neither for want
-- of memory nor for a write that failed.
pub record IsWritten (m : Machine) (old new : Option (List ℕ)) (c : Cause) (lines : List ReportLine) : Type 0 where
  pub front : WritesFront old new (report_text m lines)
  pub all : c ≢ cause.Memory → c ≢ cause.WriteFault → WritesAll old new (report_text m lines)

-- The report of a run: it shows the reactor's lines, up to one that could not be written where one couldn't,
-- and the end; but for those of pulses they are kept, these are counted for each stepper, and what the lanes
-- of each board carried is told. The end line is of the cause for which the run ended, or of a want of memory
-- or a failed write that its report met, and so is what it answers.
pub record IsReported {F S : Type 0} (f : Files F) (o : Sink S) (m : Machine) (s : Scene) (name : List ℕ)
    (files files' : F) (out out' : S) (c : Cause) (lines : List ReportLine) (counts : List ℕ) (links : List LinkLog)
    : Type 0 where
  pub told : Told Run
  pub kept : Kept
  pub fresh : IsFresh (length m.steppers) kept
  pub behind : S
  pub kept' : Kept
  pub runs : RunsOver f o m s name files out kept told files' behind kept'
  pub links_are : links ≡ told.links.items
  pub said : List ReportLine
  pub rest : List ReportLine
  pub shown : run_lines f o m s name files out kept told files' behind kept' runs ≡ said ++ rest
  pub own : Cause
  pub end : (lines ≡ without_pulses said ++ report.End own ∷ []) ⊎ ((lines ≡ without_pulses said) × (c ≡ cause.Memory))
  pub counted : counts ≡ pulse_counts (length m.steppers) said
  pub written : IsWritten m (o.written out) (o.written out') c (said ++ report.End own ∷ [])
  pub own_is : (own ≡ told.cause) ⊎ ((own ≡ cause.Memory) ⊎ (own ≡ with_failure told.cause))
  pub given_is : GivenFor own c
  pub cause_is : c ≢ cause.Memory → c ≢ cause.WriteFault → (rest ≡ []) × (own ≡ told.cause) × (c ≡ told.cause)

-- No run was begun, for want of memory: an end line alone, or nothing. It tells neither of pulses nor of links.
pub record IsNotBegun {F S : Type 0} (f : Files F) (o : Sink S) (m : Machine) (files files' : F) (out out' : S)
    (c : Cause) (r : Report) : Type 0 where
  pub memory : c ≡ cause.Memory
  pub same : files' ≡ files
  pub lines_are : (r.lines ≡ report.End cause.Memory ∷ []) ⊎ (r.lines ≡ [])
  pub bare : IsBare r
  pub written : WritesFront (o.written out) (o.written out') (report_text m r.lines)

-- a run over these files and this output ended so: it is reported, or none was begun
abbrev pub EndsOver : {F S : Type 0} → Files F → Sink S → Machine → Scene → List ℕ → F → F → S → S → Ended → Type 0
EndsOver f o m s name files files' out out' e =
    IsReported f o m s name files files' out out' e.cause e.report.lines e.report.counts e.report.links.items
    ⊎ IsNotBegun f o m files files' out out' e.cause e.report

-- How a run ended, by what is shown of it: of its lines, it is one over the output; of counts alone, one over
-- an output that keeps nothing.
module _ {F S O : Type 0} (f : Files F) (o : Sink S) (none : Sink O) (m : Machine) (s : Scene) (name : List ℕ)
    (files files' : F) (out out' : S) (e : Ended) where
  abbrev pub EndsShowing : Show → Type 0
  EndsShowing show.Lines = EndsOver f o m s name files files' out out' e
  EndsShowing show.Counts = (at : O) × (at' : O) × EndsOver f none m s name files files' at at' e

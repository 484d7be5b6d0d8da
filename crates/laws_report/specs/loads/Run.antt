-- A run of the text of a load, of which the counts alone are shown.
use Rattle.std.specs.Prelude.{◌≡◌, ℕ, ◌+◌, List, Some}
use Rattle.gcode_program.specs.Cuts.{closed}
use Rattle.gcode_program.specs.Programs.{program_end}
use Rattle.generated_load.specs.Printer.{load_machine}
use Rattle.generated_load.specs.Text.{load_text}
use Rattle.io_core.specs.declared.traits.Files.{Ghosts as Files}
use Rattle.io_core.specs.declared.traits.Sink.{Ghosts as Sink}
use Rattle.plan_types.specs.declared.cause.Cause.{Cause}
use Rattle.plan_types.specs.declared.cause.Cause.TheVariants as cause
use Rattle.report_text.specs.declared.line.ReportLine.{ReportLine}
use Rattle.session_lanes.specs.declared.near.LinkLog.{LinkLog}
use Rattle.laws_run.specs.clear_runs.Clear.{SendsAllSoon}
use Rattle.laws_report.specs.loads.Path.{accepted_whole, load_path}
use Rattle.laws_report.specs.meshes.Bent.{origin}
use Rattle.laws_report.specs.page.Log.{log_of}
use Rattle.laws_report.specs.page.Steps.{counts_planned}
use Rattle.laws_report.specs.reports.Linked.{IsLinkReport, MeetPremise}
use Rattle.laws_report.specs.reports.Promises.{sections_over}
use Rattle.laws_report.specs.reports.Read.{no_scene}

-- Counts and links of a run over links: the counts are those of the pulses that its lines show, as they were written to
-- an output that keeps none. It is a run of the text of a load on its own printer, in the scene without entries and
-- without switches. This is said:
pub record IsLoadRun {F S : Type 0} (f : Files F) (o : Sink S) (seed moves : ℕ) (c : Cause) (counts : List ℕ)
    (links : List LinkLog) : Type 0 where
  pub files : F
  pub files' : F
  pub out : S
  pub out' : S
  pub name : List ℕ
  pub told : f.told files name ≡ Some (load_text seed moves)
  pub lines : List ReportLine
  pub run : IsLinkReport f o load_machine no_scene name files files' out out' c lines counts links
  -- Text: it is accepted whole, with a line for the speed and one for each move, and is one section of moves, from each
  -- place to the next
  pub accepted : program_end load_machine (load_text seed moves) ≡ accepted_whole (moves + 1)
  pub sections : sections_over load_machine (load_text seed moves) ≡ closed 0 (load_path moves seed origin)
  -- Premise: nothing is asked of the run; it meets that of what its lines show
  pub near : MeetPremise load_machine no_scene (load_text seed moves)
      run.reported.runs.runs.0 run.reported.runs.runs.1 run.reported.runs.runs.2 run.reported.told.cause
  -- Counts: where all is done, each is the number of steps that its stepper's plan has
  pub planned : c ≡ cause.Done →
      counts
      ≡ counts_planned load_machine (sections_over load_machine (load_text seed moves)) (log_of run.reported.said)
  -- Completeness: all is done where units are sent soon
  pub done : SendsAllSoon load_machine (load_text seed moves) run.reported.runs.runs.0 → c ≡ cause.Done

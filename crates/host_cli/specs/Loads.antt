-- What `make` shows: how many pulses each stepper made in a run of a load.
use Rattle.std.specs.Prelude.{◌≡◌, ◌⊎◌, ℕ, List, Option}
use Rattle.generated_load.specs.Printer.{load_machine}
use Rattle.io_core.specs.declared.traits.Files.{Ghosts as Files}
use Rattle.io_core.specs.declared.traits.Sink.{Ghosts as Sink}
use Rattle.plan_types.specs.declared.cause.Cause.{Cause}
use Rattle.plan_types.specs.declared.cause.Cause.TheVariants as cause
use Rattle.session_run.specs.declared.ended.Report.{Report}
use Rattle.host_cli.specs.declared.answer.Answer.{Answer}
use Rattle.host_cli.specs.Answers.{EndsWith}
use Rattle.host_cli.specs.Counts.{summary}
use Rattle.host_cli.specs.Promises.{EndsAlone, ShowsLines}
use Rattle.laws_report.specs.loads.Run.{IsLoadRun}

-- counts and links of a report are those of a run of the text of a load
abbrev pub AreCounts : {F S : Type 0} → Files F → Sink S → ℕ → ℕ → Cause → Report → Type 0
AreCounts f o seed moves c r = IsLoadRun f o seed moves c r.counts r.links.items

-- the summary of such a run, before it is written
pub record IsSummary {F S : Type 0} (f : Files F) (o : Sink S) (seed moves : ℕ) (a : Answer) : Type 0 where
  pub machine : a.machine ≡ load_machine
  pub run : AreCounts f o seed moves a.cause a.report
  pub lines : a.report.lines ≡ summary seed moves a.report.counts a.cause

-- the answer to a run of a load: its summary, or an end line alone for want of memory
abbrev pub IsLoadAnswer : {F S : Type 0} → Files F → Sink S → ℕ → ℕ → Answer → Type 0
IsLoadAnswer f o seed moves a = IsSummary f o seed moves a ⊎ EndsWith cause.Memory a

-- the report is a summary, which ends with the cause of the run, and what the links carried in it is told
pub record ShowsSummary {F S : Type 0} (f : Files F) (o : Sink S) (seed moves : ℕ) (old new : Option (List ℕ))
    (given : Cause) (r : Report) : Type 0 where
  pub own : Cause
  pub run : AreCounts f o seed moves own r
  pub shows : ShowsLines load_machine own (summary seed moves r.counts own) old new given r.lines

-- Load: the report is the summary of a run of the load, or there is an end line alone, of want of memory.
abbrev pub ShowsLoad : {F S : Type 0} → Files F → Sink S → ℕ → ℕ → Option (List ℕ) → Option (List ℕ) → Cause → Report →
    Type 0
ShowsLoad f o seed moves old new given r =
    ShowsSummary f o seed moves old new given r ⊎ EndsAlone cause.Memory old new given r

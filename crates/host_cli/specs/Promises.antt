-- How a command's answer ends, and what of it is written.
use Rattle.std.specs.Prelude.{◌≡◌, ◌⊎◌, ℕ, List, [], ◌∷◌, Option}
use Rattle.io_core.specs.Faults.{Rose}
use Rattle.plan_types.specs.declared.cause.Cause.{Cause}
use Rattle.plan_types.specs.declared.cause.Cause.TheVariants as cause
use Rattle.plan_types.specs.declared.machine.Machine.{Machine}
use Rattle.report_text.specs.declared.line.ReportLine.{ReportLine}
use Rattle.report_text.specs.declared.line.ReportLine.TheVariants as report
use Rattle.session_run.specs.declared.ended.Report.{Report}
use Rattle.session_run.specs.Ends.{IsBare}
use Rattle.session_run.specs.Reported.{GivenFor, with_failure}
use Rattle.laws_report.specs.reports.Promises.{WritesText}

-- nothing but the end line of a cause; or nothing at all, for want of memory for it
abbrev pub IsAlone : Cause → List ReportLine → Type 0
IsAlone own lines = (lines ≡ report.End own ∷ []) ⊎ ((lines ≡ []) × (own ≡ cause.Memory))

-- the cause of a run behind the writing of its report: its own, with no fault counted; or want of memory; or a write
-- that failed, in the place of each cause but want of memory
abbrev pub EndsAs : Cause → ℕ → ℕ → Cause → Type 0
EndsAs own before after given =
    ((given ≡ own) × (after ≡ before)) ⊎ ((given ≡ cause.Memory) ⊎ ((given ≡ with_failure own) × Rose before after))

-- Lines: these are the report's, and end with the line of a cause; it is the one that is given, but for want
-- of memory and for a write that fails; and their text is written.
pub record ShowsLines (m : Machine) (own : Cause) (wanted : List ReportLine) (old new : Option (List ℕ)) (given : Cause)
    (lines : List ReportLine) : Type 0 where
  pub same : lines ≡ wanted
  pub given_is : GivenFor own given
  pub bytes : WritesText m old new given lines

-- An end line alone, of a cause: it is the one that is given, but for want of memory and for a write that
-- fails; its text is written, and nothing is told of pulses or links.
pub record EndsAlone (own : Cause) (old new : Option (List ℕ)) (given : Cause) (r : Report) : Type 0 where
  pub alone : IsAlone own r.lines
  pub bare : IsBare r
  pub given_is : GivenFor own given
  pub names : Machine
  pub bytes : WritesText names old new given r.lines

-- one of want of memory, or of a file that can't be read
abbrev pub IsCut : Option (List ℕ) → Option (List ℕ) → Cause → Report → Type 0
IsCut old new given r = EndsAlone cause.Memory old new given r ⊎ EndsAlone cause.ReadFault old new given r

-- one of the cause for which nothing is run; or of want of memory
abbrev pub EndsBeforeRun : Cause → Option (List ℕ) → Option (List ℕ) → Cause → Report → Type 0
EndsBeforeRun wanted old new given r = EndsAlone wanted old new given r ⊎ EndsAlone cause.Memory old new given r

-- or also of a file that can't be read
abbrev pub IsRefused : Cause → Option (List ℕ) → Option (List ℕ) → Cause → Report → Type 0
IsRefused wanted old new given r = EndsAlone wanted old new given r ⊎ IsCut old new given r

-- the lines that are asked for, and nothing of pulses or links; or an end line alone of want of memory, or of
-- a file that can't be read
abbrev pub ShowsAnswer : Machine → Cause → List ReportLine → Option (List ℕ) → Option (List ℕ) → Cause → Report → Type 0
ShowsAnswer m own wanted old new given r =
    (ShowsLines m own wanted old new given r.lines × IsBare r) ⊎ IsCut old new given r

-- What `check` shows: whether a log of pulses follows the plan of a text.
use Rattle.std.specs.Prelude.{ℕ, List, Option}
use Rattle.plan_types.specs.declared.cause.Cause.{Cause}
use Rattle.plan_types.specs.declared.machine.Machine.{Machine}
use Rattle.session_run.specs.declared.ended.Report.{Report}
use Rattle.host_cli.specs.declared.answer.Answer.{Answer}
use Rattle.host_cli.specs.Answers.{IsAnswer}
use Rattle.host_cli.specs.Promises.{ShowsAnswer}
use Rattle.laws_report.specs.reports.Checks.{check_cause, check_lines}

-- the answer of a check, before it is written
abbrev pub IsCheckAnswer : Machine → List ℕ → List ℕ → Answer → Type 0
IsCheckAnswer m text log a = IsAnswer m (check_cause m text log) (check_lines m text log) a

-- Check: the report has the lines of the check of the log, and its cause.
abbrev pub ShowsCheck : Machine → List ℕ → List ℕ → Option (List ℕ) → Option (List ℕ) → Cause → Report → Type 0
ShowsCheck m text log old new given r = ShowsAnswer m (check_cause m text log) (check_lines m text log) old new given r

-- A verdict is that all is done, or a misfit.
use Rattle.std.proofs.Common.{ℕ, Bool, true, false, List, [], ◌∷◌, Option, Some, None}
use Rattle.std.specs.Prelude.{Ok, Err}
use Rattle.log_text.specs.declared.line.LogLine.{LogLine}
use Rattle.log_text.specs.Said.{Said, line_said}
use Rattle.text_core.specs.Bytes.{Text}
use Rattle.plan_types.specs.declared.cause.MisfitKind.{MisfitKind}
use Rattle.plan_types.specs.declared.machine.Machine.{Machine}
use Rattle.plan_types.specs.declared.plan.Section.{Section}
use Rattle.log_check.specs.declared.further.Further.{Further}
use Rattle.log_check.specs.Behind.{further_said}
use Rattle.log_check.specs.Faults.{fault_at, is_short}
use Rattle.log_check.specs.Points.{point}
use Rattle.log_check.specs.Verdicts.{IsJudged, Verdict, at_last, by_fault, by_line, log_verdict, verdict, worded}

last-judged : (last : ℕ) (lines : List LogLine) (short : Bool) → IsJudged (at_last last lines short).cause
last-judged last lines true = tt
last-judged last lines false = tt

fault-judged : (n : ℕ) (l : LogLine) (lines : List LogLine) (fault : Option MisfitKind) (later : Verdict) → IsJudged later.cause → IsJudged (by_fault n l lines fault later).cause
fault-judged n l lines None later h = h
fault-judged n l lines (Some kind) later h = tt

line-judged : (m : Machine) (sections : List Section) (further : List Further) (n : ℕ) (lines : List LogLine) (said : Said) (later : LogLine → Verdict) → ((l : LogLine) → IsJudged (later l).cause) → IsJudged (by_line m sections further n lines said later).cause
line-judged m sections further n lines (Err kind) later h = tt
line-judged m sections further n lines (Ok l) later h = fault-judged n l lines (fault_at m sections (point m sections further lines) l) (later l) (h l)

all-judged : (m : Machine) (sections : List Section) (further : List Further) (last : ℕ) (lines : List LogLine) (words : List (ℕ × List Text)) → IsJudged (verdict m sections further last lines words).cause
all-judged m sections further last lines [] = last-judged last lines (is_short (point m sections further lines).cut (point m sections further lines).plans (point m sections further lines).tallies)
all-judged m sections further last lines (w ∷ words) = line-judged m sections further w.0 lines (line_said m w.1) (λ l. verdict m sections further w.0 (l ∷ lines) words) (λ l. all-judged m sections further w.0 (l ∷ lines) words)

pub judged : (m : Machine) (sections : List Section) (text : Text) → IsJudged (log_verdict m sections text).cause
unfolding log_verdict
judged m sections text = all-judged m sections (further_said m (worded text)) 0 [] (worded text)

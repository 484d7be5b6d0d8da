-- Reports that follow the plan check.
use Rattle.std.proofs.Common.{◌≡◌, ◌<◌, ℕ, Bool, false, true, List, [], ◌∷◌, ◌++◌, length, Some}
use Rattle.log_check.specs.Verdicts.{log_verdict}
use Rattle.laws_board.proofs.Names.{Cause, Machine, Clocks, ReportLine}
use Rattle.plan_types.specs.declared.cause.Cause.TheVariants as cause
use Rattle.report_text.specs.declared.line.ReportLine.TheVariants as report
use Rattle.report_text.specs.Text.{report_text}
use Rattle.laws_report.specs.reports.Logged.{IsCauseOn}
use Rattle.laws_report.specs.reports.Names.{HasNames}
use Rattle.laws_report.specs.reports.Retold.{all_retold}
use Rattle.laws_report.proofs.reports.Running.{within-checks}
use Rattle.laws_report.specs.reports.Checks.{check_cause}
use Rattle.laws_report.specs.reports.Promises.{FollowsPlanBy, sections_over}
use Rattle.laws_report.specs.reports.Headline.{plan_by}
use Rattle.laws_report.specs.reports.Shown.{pulses_in, section_turn, sections_shown}
use Rattle.laws_report.specs.reports.Stands.{StandInOrder}
use Rattle.laws_report.proofs.reports.Bridging.{AreDue, IsCutOrNot, go-within}

pub cut-checks : (m : Machine) (text : List ℕ) (clocks : List Clocks) (cuts : ℕ → Bool) (ready : ℕ) (said : List ReportLine) (c : Cause) → HasNames m → FollowsPlanBy clocks m (sections_over m text) said
    → ((j turn s : ℕ) → section_turn j said ≡ Some turn → cuts j ≡ false → s < length m.steppers → length (pulses_in j s said) ≡ length (plan_by clocks m (sections_over m text) j turn s))
    → ((j turn : ℕ) → section_turn j said ≡ Some turn → IsCutOrNot (sections_over m text) (cuts j) j said) → AreDue m clocks cuts ready 0 (sections_over m text) (sections_shown said) → StandInOrder true m clocks ready (sections_over m text) said → IsCauseOn m c
    → check_cause m text (report_text m (said ++ report.End c ∷ [])) ≡ cause.Done
unfolding log_verdict
cut-checks m text clocks cuts ready said c names follows complete cut due stands on =
    within-checks m (sections_over m text) (all_retold ready stands.told_lines) ready said c stands.machine names (go-within true m (sections_over m text) clocks cuts ready said stands.machine follows complete cut due stands) on

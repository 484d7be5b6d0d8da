use Rattle.laws_report.proofs.reports.Fewer.{fewer}
use Rattle.laws_report.proofs.reports.lines_that_hold_later_may_be_left_out.Goals as goal

pub returns : goal.returns
returns c = λ m short clocks moves turn last valid kept are order over. fewer m short clocks moves turn last valid kept are order over

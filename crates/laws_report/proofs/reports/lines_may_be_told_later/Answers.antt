use Rattle.laws_report.proofs.reports.Retelling.{alike}
use Rattle.laws_report.proofs.reports.lines_may_be_told_later.Goals as goal

pub returns : goal.returns
returns c = λ m clocks moves ready turn valid have order. alike m clocks moves ready turn valid have order

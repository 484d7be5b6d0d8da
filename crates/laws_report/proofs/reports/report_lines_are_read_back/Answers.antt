use Rattle.laws_report.proofs.reports.Reading.{lines-read, words-said}
use Rattle.laws_report.proofs.reports.report_lines_are_read_back.Goals as goal

pub returns-clause-lines : goal.returns-clause-lines
returns-clause-lines c = λ m lines valid names of. lines-read m lines 1 valid names of

pub returns-clause-said : goal.returns-clause-said
returns-clause-said c = λ m lines valid names of. words-said m lines 1 valid names of

use Rattle.laws_report.proofs.meshes.Marking.{asked_marked, done_marked, line_marked}
use Rattle.laws_report.proofs.meshes.ends_are_comments.Goals as goal

pub returns-clause-done : goal.returns-clause-done
returns-clause-done c = λ names. done_marked names

pub returns-clause-asked : goal.returns-clause-asked
returns-clause-asked c = λ names line. asked_marked names line

pub returns-clause-refused : goal.returns-clause-refused
returns-clause-refused c = λ names line kind. line_marked names line kind

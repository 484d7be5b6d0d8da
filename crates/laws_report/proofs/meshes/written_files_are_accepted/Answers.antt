use Rattle.laws_report.proofs.meshes.Accepting.{code_fits, file_read}
use Rattle.laws_report.proofs.meshes.written_files_are_accepted.Goals as goal

pub returns-clause-accepted : goal.returns-clause-accepted
returns-clause-accepted c = λ m t text end ending fits. (file_read m t text end ending fits).accepted

pub returns-clause-fits : goal.returns-clause-fits
returns-clause-fits c = λ m t text. code_fits m t text

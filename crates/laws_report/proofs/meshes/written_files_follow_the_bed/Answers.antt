use Rattle.laws_report.proofs.meshes.Accepting.{file_read}
use Rattle.laws_report.proofs.meshes.written_files_follow_the_bed.Goals as goal

pub returns : goal.returns
returns c = λ m t text end ending fits. (file_read m t text end ending fits).sections

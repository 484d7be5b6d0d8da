use Rattle.laws_report.proofs.meshes.Accepting.{text_read}
use Rattle.laws_report.proofs.meshes.texts_are_read_for_files.Goals as goal

pub returns : goal.returns
returns c = λ m t text. text_read m t text

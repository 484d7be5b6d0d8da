use Rattle.laws_report.proofs.meshes.Bordering.{in_each_cell}
use Rattle.laws_report.proofs.meshes.heights_agree_on_borders.Goals as goal

pub returns : goal.returns
returns c = λ t x y i j valid across along. in_each_cell t x y i j valid across along

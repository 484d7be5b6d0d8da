use Rattle.bed_mesh.specs.Cuts.{cut_ends}
use Rattle.laws_report.proofs.meshes.Extruding.{text_goes_on}
use Rattle.laws_report.proofs.meshes.Joining.{ends_change_e, ends_join, parts_fast}
use Rattle.laws_report.proofs.meshes.moves_to_ends_join.Goals as goal

pub returns-clause-join : goal.returns-clause-join
returns-clause-join c = λ t m x y z e. ends_join t m x y z e

pub returns-clause-fast : goal.returns-clause-fast
returns-clause-fast c = λ t m from. parts_fast t m from (cut_ends t m)

pub returns-clause-e : goal.returns-clause-e
returns-clause-e c = λ t m x y z e same. ends_change_e t m x y z e same

pub returns-clause-e_goes_on : goal.returns-clause-e_goes_on
returns-clause-e_goes_on c = λ m text count. text_goes_on m text count

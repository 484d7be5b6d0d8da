use Rattle.std.proofs.Common.{◌∙◌, ℕ, List, inl, subst}
use Rattle.bed_mesh.specs.Files.{mesh_code, mesh_end}
use Rattle.laws_report.specs.reports.Body.{cause_of}
use Rattle.host_cli.proofs.Bedded.{shown-file}
use Rattle.host_cli.proofs.Cuts.{text-cut}
use Rattle.host_cli.proofs.mesh.over_bed.Goals as goal

pub returns-in-Ok-mesh_file-clause-shows : goal.returns-in-Ok-mesh_file-clause-shows
returns-in-Ok-mesh_file-clause-shows g c = λ text told small.
    let whole = c.deref.ensures.value ∙ c.in-Ok.ensures.text text told ∙ text-cut text small in
    shown-file _ _ _ _ _ _ _ _ _ _ _ whole (c.deref-in-Ok-mesh_file.ensures.value ∙ c.in-Ok-mesh_file.ensures.code) c.in-Ok-mesh_file.ensures.read c.cause_of.ensures c.show-in-Ok-mesh_file.ensures.shows

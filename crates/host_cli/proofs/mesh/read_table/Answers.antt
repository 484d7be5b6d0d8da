use Rattle.std.proofs.Common.{List, ℕ, ◌∙◌, ap, sym, inl, inr, refl}
use Rattle.bed_mesh.specs.Tables.{mesh_of_text}
use Rattle.host_cli.proofs.Bedded.{table-cut}
use Rattle.host_cli.proofs.mesh.read_table.Goals as goal

pub returns-in-Ok-read_mesh-clause-mesh : goal.returns-in-Ok-read_mesh-clause-mesh
returns-in-Ok-read_mesh-clause-mesh g c = λ text told.
    sym (table-cut text) ∙ ap mesh_of_text (sym (c.deref.ensures.value ∙ c.in-Ok.ensures.text text told)) ∙ c.in-Ok-read_mesh.ensures.answer

pub returns-clause-fault : goal.returns-clause-fault
returns-clause-fault g c =
    let at = rw c.in-Err-At.field-0-is at c.in-Err-At.ensures.answer in
    inl (c.in-Err-At.line, c.in-Err-At.kind, refl, λ text told. sym (table-cut text) ∙ ap mesh_of_text (sym (c.deref.ensures.value ∙ c.in-Ok.ensures.text text told)) ∙ at)

use Rattle.std.proofs.Common.{List, ℕ, ◌∙◌, ap, sym}
use Rattle.wire_scene.specs.Reading.{scene_of_text}
use Rattle.host_cli.proofs.Cuts.{scene-cut}
use Rattle.host_cli.proofs.scene.read_scene_file.Goals as goal

pub returns-in-Ok-read_scene-clause-scene : goal.returns-in-Ok-read_scene-clause-scene
returns-in-Ok-read_scene-clause-scene g c = λ text told.
    sym (scene-cut c.args.machine.now text) ∙ ap (λ (t : List ℕ). scene_of_text c.args.machine.now t) (sym (c.deref.ensures.value ∙ c.in-Ok.ensures.text text told)) ∙ c.in-Ok-read_scene.ensures.reading

pub returns-clause-fault : goal.returns-clause-fault
returns-clause-fault g c = λ text told.
    let at = rw c.in-Err-At.field-0-is at c.in-Err-At.ensures.reading in
    sym (scene-cut c.args.machine.now text) ∙ ap (λ (t : List ℕ). scene_of_text c.args.machine.now t) (sym (c.deref.ensures.value ∙ c.in-Ok.ensures.text text told)) ∙ at

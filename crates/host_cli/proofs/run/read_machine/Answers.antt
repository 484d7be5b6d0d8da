use Rattle.std.proofs.Common.{◌∙◌, ap, sym}
use Rattle.cfg_text.specs.Reading.{machine_of_text}
use Rattle.host_cli.proofs.Cuts.{reading-cut}
use Rattle.host_cli.proofs.run.read_machine.Goals as goal

pub returns-in-Ok-read_config-clause-machine : goal.returns-in-Ok-read_config-clause-machine
returns-in-Ok-read_config-clause-machine g c = λ printer told.
    sym (reading-cut printer) ∙ ap machine_of_text (sym (c.deref.ensures.value ∙ c.in-Ok.ensures.text printer told)) ∙ c.in-Ok-read_config.ensures.reading

pub returns-clause-fault : goal.returns-clause-fault
returns-clause-fault g c = λ printer told.
    let at = rw c.in-Err-At.field-0-is at c.in-Err-At.ensures.reading in
    sym (reading-cut printer) ∙ ap machine_of_text (sym (c.deref.ensures.value ∙ c.in-Ok.ensures.text printer told)) ∙ at

use Rattle.std.proofs.Common.{◌∙◌, ℕ, List, subst}
use Rattle.plan_types.specs.declared.machine.FanDef.{FanDef}
use Rattle.host_cli.specs.Fans.{IsFanAnswer}
use Rattle.host_cli.proofs.Cuts.{text-cut}
use Rattle.host_cli.proofs.Fanned.{one_fan}
use Rattle.host_cli.proofs.fan.fan_of_file.Goals as goal

pub returns-in-Ok-clause-answer : goal.returns-in-Ok-clause-answer
returns-in-Ok-clause-answer g c = λ f text is told small.
    let whole = c.deref.ensures.value ∙ c.in-Ok.ensures.text text told ∙ text-cut text small in
    let G : List ℕ → Type 0 = λ t. IsFanAnswer c.args.machine f t c.fan_of_text.result in
    let H : FanDef → Type 0 = λ x. IsFanAnswer c.args.machine x c.deref.result.now c.fan_of_text.result in
    subst G whole (subst H (one_fan _ _ f c.in-Some.is is) c.fan_of_text.ensures.answer)

use Rattle.std.proofs.Common.{refl, subst, sym, ◌∙◌}
use Rattle.motion_stream.specs.declared.course.Open.{Open}
use Rattle.motion_stream.specs.declared.course.Open.TheVariants as opens
use Rattle.motion_stream.specs.Uptakes.{AddsTo}
use Rattle.motion_stream.proofs.uptake.add_to.Goals as goal

pub returns-in_ok-add_line-in-Goes : goal.returns-in_ok-add_line-in-Goes
returns-in_ok-add_line-in-Goes c =
    let To : Open → Type 0 = λ o. AddsTo c.args.board c.args.turn c.args.line o (opens.Goes c.add_line.new.self c.in-Goes.homes) in
    subst To (sym c.in-Goes.is ∙ c.replace.ensures.value) (c.add_line.new.self, refl, c.in_ok-add_line-in-Goes.ensures)

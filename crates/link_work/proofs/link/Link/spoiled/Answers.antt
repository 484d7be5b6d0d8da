use Rattle.std.proofs.Common.{ap, ◌∙◌}
use Rattle.link_work.specs.Stands.{SeenLink}
use Rattle.link_work.proofs.Stretches.{spoiled_by}
use Rattle.link_work.proofs.link.Link.spoiled.Goals as goal

pub returns : goal.returns
returns c = λ ends e. c.spoiled.ensures ∙ spoiled_by c.args.due c.self.inside.stretch ends (ap (λ (x : SeenLink). x.spoiled) c.self.view_is ∙ e)

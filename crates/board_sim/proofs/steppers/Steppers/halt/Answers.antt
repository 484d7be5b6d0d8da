use Rattle.std.proofs.Common.{◌∙◌, ap, sym}
use Rattle.std.proofs.lemmas.List.{with_items_is}
use Rattle.board_sim.specs.Rig.{halt}
use Rattle.board_sim.proofs.steppers.Steppers.halt.Goals as goal

pub invariant_of-self : goal.invariant_of-self
invariant_of-self c =
    let v = c.self.inside.places in
    let used = c.halt_used.ensures.used in
    rw (with_items_is v c.halt_used.new.steppers (used.all ∙ sym c.self.invariant.all ∙ sym v.ok.0)) used

pub returns : goal.returns
returns c =
    let v = c.self.inside.places in
    let used = c.halt_used.ensures.used in
    with_items_is v c.halt_used.new.steppers (used.all ∙ sym c.self.invariant.all ∙ sym v.ok.0) ∙ c.halt_used.ensures.steppers ∙ ap (λ ys. halt c.args.oids.now ys) (c.as_mut_slice.ensures.value ∙ c.self.view_is)

use Rattle.std.proofs.Common.{◌∙◌, ap, map, sym}
use Rattle.std.proofs.lemmas.List.{with_items_is}
use Rattle.board_sim.specs.Board.{emptied}
use Rattle.board_sim.proofs.steppers.Steppers.stop.Goals as goal

pub invariant_of-self : goal.invariant_of-self
invariant_of-self c =
    let v = c.self.inside.places in
    let used = c.stop_used.ensures.used in
    rw (with_items_is v c.stop_used.new.steppers (used.all ∙ sym c.self.invariant.all ∙ sym v.ok.0)) used

pub returns : goal.returns
returns c =
    let v = c.self.inside.places in
    let used = c.stop_used.ensures.used in
    with_items_is v c.stop_used.new.steppers (used.all ∙ sym c.self.invariant.all ∙ sym v.ok.0) ∙ c.stop_used.ensures.steppers ∙ ap (λ ys. map emptied ys) (c.as_mut_slice.ensures.value ∙ c.self.view_is)

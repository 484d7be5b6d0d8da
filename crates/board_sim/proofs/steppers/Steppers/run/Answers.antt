use Rattle.std.proofs.Common.{◌∙◌, ◌++◌, ap, map, sym}
use Rattle.std.proofs.lemmas.List.{with_items_is}
use Rattle.board_sim.specs.Board.{slot_to, all_before, by_tick}
use Rattle.board_sim.proofs.steppers.Steppers.run.Goals as goal

pub run_used-requires-clause-used : goal.run_used-requires-clause-used
run_used-requires-clause-used c = rw c.as_mut_slice.ensures.value c.self.invariant

pub invariant_of-self : goal.invariant_of-self
invariant_of-self c =
    let v = c.self.inside.places in
    let used = c.run_used.ensures.used in
    rw (with_items_is v c.run_used.new.steppers (used.all ∙ sym c.self.invariant.all ∙ sym v.ok.0)) used

pub invariant_of-self-in_err-sort : goal.invariant_of-self-in_err-sort
invariant_of-self-in_err-sort c =
    let v = c.self.inside.places in
    let used = c.run_used.ensures.used in
    rw (with_items_is v c.run_used.new.steppers (used.all ∙ sym c.self.invariant.all ∙ sym v.ok.0)) used

pub invariant_of-self-2 : goal.invariant_of-self-2
invariant_of-self-2 c =
    let v = c.self.inside.places in
    let used = c.run_used.ensures.used in
    rw (with_items_is v c.run_used.new.steppers (used.all ∙ sym c.self.invariant.all ∙ sym v.ok.0)) used

pub returns-clause-places : goal.returns-clause-places
returns-clause-places c =
    let v = c.self.inside.places in
    let used = c.run_used.ensures.used in
    with_items_is v c.run_used.new.steppers (used.all ∙ sym c.self.invariant.all ∙ sym v.ok.0) ∙ c.in_ok-run_used.ensures.steppers
    ∙ ap (λ ys. map (slot_to c.args.until) ys) (c.as_mut_slice.ensures.value ∙ c.self.view_is)

pub returns-clause-out : goal.returns-clause-out
returns-clause-out c =
    c.in_ok-sort.ensures ∙ ap by_tick (c.in_ok-run_used.ensures.out ∙ ap (λ ys. c.args.out.now.items ++ all_before 0 c.args.until ys) (c.as_mut_slice.ensures.value ∙ c.self.view_is))

use Rattle.std.proofs.Common.{◌∙◌, ap, map, sym, length, List, Option}
use Rattle.std.proofs.lemmas.List.{with_items_is, length-map}
use Rattle.board_sim.specs.Rig.{Rig, Slot, rested}
use Rattle.board_sim.proofs.machine.Machine.rest.Goals as goal

pub rest_used-requires-clause-all : goal.rest_used-requires-clause-all
rest_used-requires-clause-all c = ap length c.as_mut_slice.ensures.value ∙ c.self.invariant.0

pub rest_used-requires-clause-used : goal.rest_used-requires-clause-used
rest_used-requires-clause-used c = rw c.as_mut_slice.ensures.value c.self.invariant.2

pub invariant_of-self : goal.invariant_of-self
invariant_of-self c =
    let v = c.self.inside.triggers in
    let same = ap length c.rest_used.ensures.slots ∙ length-map c.as_mut_slice.result.now (rested c.as_slice.result.now c.args.until) ∙ ap length c.as_mut_slice.ensures.value in
    rw (with_items_is v c.rest_used.new.slots (same ∙ sym v.ok.0)) (same ∙ c.self.invariant.0, c.self.invariant.1, c.rest_used.ensures.used)

pub returns-clause-rig : goal.returns-clause-rig
returns-clause-rig c =
    let inside = c.self.inside in
    let v = inside.triggers in
    let t = c.args.until in
    let same = ap length c.rest_used.ensures.slots ∙ length-map c.as_mut_slice.result.now (rested c.as_slice.result.now t) ∙ ap length c.as_mut_slice.ensures.value in
    let slots = with_items_is v c.rest_used.new.slots (same ∙ sym v.ok.0) ∙ c.rest_used.ensures.slots ∙ ap (λ ps. map (rested ps t) c.as_mut_slice.result.now) c.as_slice.ensures.value
    ∙ ap (λ ys. map (rested inside.pins.items t) ys) c.as_mut_slice.ensures.value in
    let with_slots : List (Option Slot) → Rig = λ ys. record { controller = inside.core; triggers = ys; endstops = inside.endstops.items; pins = inside.pins.items } in
    let after : Rig → Rig = λ r. record r { triggers = map (rested r.pins t) r.triggers } in
    ap with_slots slots ∙ ap after (c.self.view_is ∙ c.in_ok-run.ensures.rig)

pub returns-clause-pulses : goal.returns-clause-pulses
returns-clause-pulses c = c.in_ok-run.ensures.pulses

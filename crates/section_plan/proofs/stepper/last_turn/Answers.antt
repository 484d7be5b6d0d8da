use Rattle.std.proofs.Common.{◌-◌, ◌<◌, length, arith, ap, sym, ◌∙◌}
use Rattle.plan_types.specs.declared.plan.Planned.{Planned}
use Rattle.plan_types.specs.Lines.{lines_turn}
use Rattle.section_plan.proofs.Boards.{last_turn-at}
use Rattle.section_plan.proofs.stepper.last_turn.Goals as goal

pub returns-in-Some : goal.returns-in-Some
returns-in-Some c =
    let item = c.in-Some.ensures.item in
    let some : 0 < length c.args.steps.now = item.3.0 in
    let clocks = c.args.lines.now in
    let at = last_turn-at clocks c.args.steps.now c.in-Some.step.now (length c.args.steps.now - 1) (omega arith) in
    c.turn.ensures.value ∙ ap (λ (q : Planned). lines_turn clocks q.tick) item.1 ∙ sym at

use Rattle.std.proofs.Common.{◌≡◌, ◌+◌, ◌*◌, length, get_or, arith, ap, ◌∙◌}
use Rattle.plan_types.specs.Sections.{last_turn, stepper_plan, turns_of_move}
use Rattle.section_plan.proofs.Boards.{last_turn-soon, turns-small}
use Rattle.section_plan.proofs.Plans.{board-alone, board-ready, plan-is}
use Rattle.section_plan.proofs.stepper.plan_stepper.Goals as goal

pub last_turn-end-requires-clause-small : goal.last_turn-end-requires-clause-small
last_turn-end-requires-clause-small c =
    let lines = c.index-clocks-stepper.result in
    let board = board-ready c.args.machine.now c.args.clocks.now c.args.moves.now c.args.turn c.args.place c.index-as_slice-place.result lines c.requires.ready c.requires.there (rw c.as_slice.ensures at c.index-as_slice-place.is) c.index-clocks-stepper.is in
    rw c.deref.ensures.value (turns-small lines (c.args.turn + length c.args.moves.now * turns_of_move) c.in_ok-steps.steps.items board.soon c.in_ok-steps.ensures.on_time)

pub returns-clause-soon : goal.returns-clause-soon
returns-clause-soon c = λ have. (
    let each = c.in_ok-steps.ensures.on_time in
    let list = c.deref.ensures.value in
    let lines = c.index-clocks-stepper.result in
    let alone = board-alone c.args.machine.now c.args.clocks.now c.args.moves.now c.args.turn c.args.place c.index-as_slice-place.result lines c.requires.ready c.requires.there (rw c.as_slice.ensures at c.index-as_slice-place.is) c.index-clocks-stepper.is have in
    let soon = last_turn-soon lines (c.args.turn + length c.args.moves.now * turns_of_move) c.in_ok-steps.steps.items (λ k d h. (each k d h).in_turn alone) in
    let is = c.last_turn-end.ensures in
    let here : last_turn lines c.deref.result.now ≡ last_turn lines c.in_ok-steps.steps.items = ap (last_turn lines) list in
    omega (arith, soon, is, here))

pub returns-clause-small : goal.returns-clause-small
returns-clause-small c =
    let each = c.in_ok-steps.ensures.on_time in
    let stepper = c.index-as_slice-place.result in
    let lines = c.index-clocks-stepper.result in
    let read : stepper ≡ get_or c.args.machine.now.steppers c.args.place stepper = rw c.as_slice.ensures at c.index-as_slice-place.is in
    let is : c.in_ok-steps.steps.items ≡ stepper_plan c.args.machine.now c.args.clocks.now c.args.moves.now c.args.turn c.args.place =
    c.in_ok-steps.ensures.value ∙ plan-is c.args.machine.now c.args.clocks.now c.args.moves.now c.args.speeds.now c.args.turn c.args.place stepper lines c.requires.ready c.requires.there read c.index-clocks-stepper.is c.requires.greatest in
    rw (← is) (λ k d h. (each k d h).small)

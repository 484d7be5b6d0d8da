use Rattle.std.proofs.Common.{◌≡◌, ◌+◌, ◌*◌, All, ap, length, ◌∙◌, arith}
use Rattle.std.proofs.lemmas.Result.{IfOk-weaker}
use Rattle.plan_types.specs.Clock.{turn_ns}
use Rattle.plan_types.specs.Lines.{lines_tick}
use Rattle.plan_types.specs.Plan.{planned_steps}
use Rattle.plan_types.specs.Sections.{turns_of_move}
use Rattle.section_plan.specs.Runs.{IsOnTime}
use Rattle.section_plan.proofs.Boards.{base-small, ends-small, on-time}
use Rattle.section_plan.proofs.stepper.steps_of.Goals as goal

pub tick-requires : goal.tick-requires
tick-requires c =
    let small = base-small c.args.lines.now c.args.turn (length c.args.moves.now) c.requires.board in
    rw c.from-begin.ensures (omega (arith, small))

pub planned-requires-clause-base_small : goal.planned-requires-clause-base_small
planned-requires-clause-base_small c =
    let small = base-small c.args.lines.now c.args.turn (length c.args.moves.now) c.requires.board in
    let is : c.tick.result ≡ lines_tick c.args.lines.now (c.args.turn * turn_ns) = c.tick.ensures ∙ ap (λ t. lines_tick c.args.lines.now (t * turn_ns)) c.from-begin.ensures in
    omega (arith, small, is)

pub planned-requires-clause-on_board : goal.planned-requires-clause-on_board
planned-requires-clause-on_board c =
    let lines = c.args.lines.now in
    let good = rw (c.first.ensures, c.from-begin.ensures) at c.in_ok-segments.ensures.good in
    rw c.deref.ensures.value (ends-small lines c.args.turn (length c.args.moves.now) c.in_ok-segments.segments.items c.requires.board good)

pub returns-clause-on_time : goal.returns-clause-on_time
returns-clause-on_time c =
    let gear = c.args.stepper.now.gear in
    let lines = c.args.lines.now in
    let n = length c.args.moves.now in
    let segments = c.in_ok-segments.segments.items in
    let begin = c.from-begin.ensures in
    let good = rw (c.first.ensures, begin) at c.in_ok-segments.ensures.good in
    let all = on-time gear lines segments c.args.turn n c.requires.board c.requires.some good (c.in_ok-segments.ensures.steps gear lines.first.freq c.requires.gear) in
    let same : planned_steps gear lines c.deref.result.now c.tick.result ≡ planned_steps gear lines segments (lines_tick lines (c.args.turn * turn_ns)) =
    ap (λ xs. planned_steps gear lines xs c.tick.result) c.deref.ensures.value ∙ ap (planned_steps gear lines segments) (c.tick.ensures ∙ ap (λ t. lines_tick lines (t * turn_ns)) begin) in
    IfOk-weaker c.planned.result (λ steps. steps.items ≡ planned_steps gear lines c.deref.result.now c.tick.result) (λ steps. All (IsOnTime lines (c.args.turn + n * turns_of_move)) steps.items)
    (λ steps e. rw (e ∙ same) all)
    c.planned.ensures.value

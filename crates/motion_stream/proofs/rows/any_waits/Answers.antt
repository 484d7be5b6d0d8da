use Rattle.std.proofs.Common.{◌<◌, ◌∙◌, List, [], ap, arith, length}
use Rattle.std.proofs.lemmas.List.{get_or_default}
use Rattle.step_feed.specs.Units.{StepUnit}
use Rattle.motion_stream.specs.Rows.{units_in}
use Rattle.motion_stream.proofs.rows.any_waits.Goals as goal

pub returns-then-row_waits-clause-some : goal.returns-then-row_waits-clause-some
returns-then-row_waits-clause-some c = λ t none.
    let rows = c.args.rows.now.items in
    let place = c.loop-place.place in
    let inside : place < length rows = (let l = c.len-place-end.ensures in let k = c.loop-place-test.true in let ok = c.args.rows.now.ok in omega (arith, l, k, ok)) in
    let is = c.as_slice.ensures ∙ c.index.ensures ∙ get_or_default rows place c.index.result.now [] inside in
    c.row_waits.ensures.some c.if-row_waits.true (λ b lt. ap (λ (r : List (List StepUnit)). units_in r b) is ∙ none place b lt)

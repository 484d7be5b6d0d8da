use Rattle.std.proofs.Common.{◌≡◌, ◌+◌, ◌*◌, ◌<◌, [], ◌∷◌, ◌++◌, map, arith, append_assoc, append-nil, sym, ◌∙◌, ap}
use Rattle.std.specs.List.{range_with_len}
use Rattle.plan_types.specs.Steps.{raw_step}
use Rattle.step_ticks.proofs.Lists.{map-range-more}
use Rattle.step_ticks.proofs.Marks.{mark-inside, step-is, none-passed}
use Rattle.step_ticks.proofs.raw.push_steps.Goals as goal

pub tick_of-tick-requires-clause-inside : goal.tick_of-tick-requires-clause-inside
tick_of-tick-requires-clause-inside c =
    let g = c.grid_of-grid.result in
    mark-inside g.ahead g.per g.each c.count-count.result c.loop-k.k c.loop-k.mark.at c.loop-k.mark.over c.args.segment.now.d c.grid_of-grid.ensures.each_above c.count-count.ensures c.loop-k-test.true c.loop-k.invariant.is_at c.loop-k.invariant.is_near

pub after-mark-requires-clause-near : goal.after-mark-requires-clause-near
after-mark-requires-clause-near c =
    let g = c.grid_of-grid.result in
    let inside = mark-inside g.ahead g.per g.each c.count-count.result c.loop-k.k c.loop-k.mark.at c.loop-k.mark.over c.args.segment.now.d c.grid_of-grid.ensures.each_above c.count-count.ensures c.loop-k-test.true c.loop-k.invariant.is_at c.loop-k.invariant.is_near in
    omega arith

pub returns-then-grid-eq0-clause-steps : goal.returns-then-grid-eq0-clause-steps
returns-then-grid-eq0-clause-steps c =
    let g = c.grid_of-grid.result in
    let step = raw_step c.args.gear.now c.args.freq c.args.segment.now in
    let none = none-passed c.args.gear.now c.args.segment.now g.ahead g.per g.each c.grid_of-grid.ensures.ahead c.if-grid-eq0.true c.grid_of-grid.ensures.passed in
    sym (ap (λ n. c.args.raw.now.items ++ map step (range_with_len 1 n)) none ∙ append-nil c.args.raw.now.items)

pub loop-k-preserved : goal.loop-k-preserved
loop-k-preserved c =
    let g = c.grid_of-grid.result in
    let k = c.loop-k.k in
    let old = c.args.raw.now.items in
    let step = raw_step c.args.gear.now c.args.freq c.args.segment.now in
    let inside = mark-inside g.ahead g.per g.each c.count-count.result k c.loop-k.mark.at c.loop-k.mark.over c.args.segment.now.d c.grid_of-grid.ensures.each_above c.count-count.ensures c.loop-k-test.true c.loop-k.invariant.is_at c.loop-k.invariant.is_near in
    let is = step-is c.args.gear.now c.args.freq c.args.segment.now g.ahead g.per g.each (k + 1) c.loop-k.mark.at c.loop-k.mark.over c.grid_of-grid.ensures.each_above c.grid_of-grid.ensures.passed c.loop-k.invariant.is_at c.loop-k.invariant.is_near inside in
    let order : 1 + k ≡ k + 1 = omega arith in
    let made : c.push.new.self.items ≡ c.loop-k.raw.items ++ step (k + 1) ∷ [] = c.in_ok-push.ensures.items ∙ sym (ap (λ y. c.loop-k.raw.items ++ y ∷ []) (is ∙ cc)) in
    record {
      steps = made ∙ ap (λ r. r ++ step (k + 1) ∷ []) c.loop-k.invariant.steps ∙ append_assoc old (map step (range_with_len 1 k)) (step (k + 1) ∷ []) ∙ ap (λ t. old ++ t) (ap (λ n. map step (range_with_len 1 k) ++ step n ∷ []) (sym order) ∙ sym (map-range-more step 1 k));
      is_at = omega arith;
      is_near = omega arith;
    }

pub returns-clause-steps : goal.returns-clause-steps
returns-clause-steps c =
    let s = c.args.segment.now in
    let step = raw_step c.args.gear.now c.args.freq s in
    let all : c.loop-k.k ≡ c.count-count.result = omega arith in
    let count = c.grid_of-grid.ensures.passed s.d in
    c.loop-k.invariant.steps ∙ ap (λ n. c.args.raw.now.items ++ map step (range_with_len 1 n)) (all ∙ c.count-count.ensures ∙ sym count)

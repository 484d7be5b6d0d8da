use Rattle.std.proofs.Common.{◌≡◌, ℕ, ◌+◌, ◌<◌, ◌∙◌, List, [], ◌∷◌, ◌++◌, length, drop, get_or, map, max, sym, ap, arith, append_assoc}
use Rattle.std.proofs.lemmas.Grind.{common_steps}
use Rattle.std.proofs.lemmas.List.{drop_more}
use Rattle.plan_types.specs.declared.plan.Planned.{Planned}
use Rattle.plan_types.specs.Lines.{Clocks, lines_board}
use Rattle.plan_types.specs.Plan.{spaced, on_board, no_step}
use Rattle.step_ticks.proofs.Lists.{spaced-AreSpaced}
use Rattle.step_ticks.proofs.thin.spaced.Goals as goal

-- one more step
spaced-more : (clocks : Clocks) (last next i : ℕ) (kept steps new whole : List Planned) → i < length kept → next ≡ max (lines_board clocks (get_or kept i no_step).tick) (last + 4)
    → steps ++ spaced last (map (on_board clocks) (drop i kept)) ≡ whole → new ≡ steps ++ record { tick = next; up = (get_or kept i no_step).up } ∷ []
    → new ++ spaced next (map (on_board clocks) (drop (i + 1) kept)) ≡ whole
spaced-more clocks last next i kept steps new whole h at before put =
    let split = ap (λ ks. spaced last (map (on_board clocks) ks)) (drop_more kept i no_step h) in
    rw (put, append_assoc, at) (ap (λ xs. steps ++ xs) (sym split) ∙ before)

pub loop-step-preserved : goal.loop-step-preserved
loop-step-preserved c =
    let before = c.loop-step.invariant in let count = before.count in let last = before.last_small in let one = c.in_ok-push.ensures.items in
    record {
      whole = spaced-more c.args.lines.now c.loop-step.last c.next_tick-last.result c.loop-step.step-index c.args.kept.now c.loop-step.steps.items c.push.new.self.items _ c.loop-step-test.true c.next_tick-last.ensures.value before.whole one;
      last_small = grind (arith, common_steps);
      count = grind (arith, common_steps);
      small = grind (arith, common_steps);
    }

pub returns-clause-rising : goal.returns-clause-rising
returns-clause-rising c =
    let w = c.loop-step.invariant.whole in
    let whole : c.loop-step.steps.items ≡ spaced c.args.base (map (on_board c.args.lines.now) c.args.kept.now) = grind (arith, common_steps) in
    rw whole (spaced-AreSpaced _ _)

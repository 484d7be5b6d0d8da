use Rattle.std.proofs.Common.{◌≡◌, ◌*◌, ◌/◌, ◌^◌, ◌<◌, ◌∙◌, ap, All, List, map}
use Rattle.plan_types.specs.declared.plan.Line.{Line}
use Rattle.plan_types.specs.declared.plan.Planned.{Planned}
use Rattle.plan_types.specs.Plan.{filtered, cancel_reach, on_board, spaced}
use Rattle.plan_types.specs.Steps.{raw_steps}
use Rattle.plan_types.specs.Valid.{IsValidSegment}
use Rattle.step_ticks.specs.Ticks.{IsOnBoard}
use Rattle.step_ticks.proofs.Lists.{filtered-All, raw_steps-over}
use Rattle.step_ticks.proofs.Within.{raw-on-board}
use Rattle.step_ticks.proofs.planned.Goals as goal

pub push_steps-requires-clause-valid : goal.push_steps-requires-clause-valid
push_steps-requires-clause-valid c =
    let freq : c.first-freq.result.freq ≡ c.args.lines.now.first.freq = ap (λ (l : Line). l.freq) c.first-freq.ensures in
    rw freq (c.requires.valid c.loop-segment.segment-index _ c.loop-segment-test.true)

pub spaced-requires-clause-ticks : goal.spaced-requires-clause-ticks
spaced-requires-clause-ticks c =
    let clocks = c.args.lines.now in
    let over = c.loop-segment-test.false in
    let raw = raw_steps-over c.args.gear.now clocks.first.freq c.loop-segment.segment-index c.args.segments.now c.loop-segment.raw.items over c.loop-segment.invariant.steps in
    let each = raw-on-board clocks c.args.gear.now clocks.first.freq c.args.segments.now c.requires.valid c.requires.after c.requires.on_board in
    rw (c.deref-2.ensures.value, c.in_ok-kept.ensures, c.deref.ensures.value, raw) (filtered-All (IsOnBoard clocks) _ _ each)

pub returns-clause-value : goal.returns-clause-value
returns-clause-value c =
    let clocks = c.args.lines.now in
    let over = c.loop-segment-test.false in
    let raw = raw_steps-over c.args.gear.now clocks.first.freq c.loop-segment.segment-index c.args.segments.now c.loop-segment.raw.items over c.loop-segment.invariant.steps in
    let freq : c.first-freq.result.freq ≡ clocks.first.freq = ap (λ (l : Line). l.freq) c.first-freq.ensures in
    let reach : c.cancel_reach.result ≡ cancel_reach clocks.first.freq = c.cancel_reach.ensures ∙ ap cancel_reach freq in
    let list : c.deref-2.result.now ≡ filtered (cancel_reach clocks.first.freq) (raw_steps c.args.gear.now clocks.first.freq c.args.segments.now) =
    c.deref-2.ensures.value ∙ c.in_ok-kept.ensures ∙ ap (λ r. filtered r c.deref.result.now) reach ∙ ap (filtered (cancel_reach clocks.first.freq)) (c.deref.ensures.value ∙ raw) in
    rw list at c.spaced.ensures.value

use Rattle.std.proofs.Common.{◌≡◌, ◌≤◌, ◌<◌, ◌^◌, ◌∙◌, ◌++◌, ap, sym, subst, arith, drop}
use Rattle.plan_types.specs.Clock.{tick_limit}
use Rattle.plan_types.specs.declared.plan.Line.{Line}
use Rattle.plan_types.specs.Lines.{Clocks, lines_board}
use Rattle.plan_types.specs.Steps.{segment_steps}
use Rattle.step_ticks.specs.Streaming.{AreSteps}
use Rattle.step_ticks.proofs.Rising.{past-pushed, pushed, between-more}
use Rattle.step_ticks.proofs.stream.StepStream.push.Goals as goal

pub invariant_of-self-2-clause-between : goal.invariant_of-self-2-clause-between
invariant_of-self-2-clause-between c =
    let it = c.let_go.new.self in
    let s = c.args.segment.now in
    let is : c.push_steps.new.raw.items ≡ it.raw.items ++ segment_steps it.gear it.lines.first.freq s = c.in_default.ensures.steps ∙ ap (λ (l : Line). it.raw.items ++ segment_steps it.gear l.freq s) c.first-freq.ensures in
    let dur = c.requires.valid.dur_is in
    let order = c.requires.order in
    let ordered = it.ordered in
    let end = c.let_go.ensures.end in
    let after : it.lines.first.clock ≤ s.start = rw c.let_go.ensures.lines c.requires.after in
    rw is (between-more it.gear it.lines s it.last_end it.raw.items it.between (omega arith) dur after)

pub invariant_of-self-2-clause-on_board : goal.invariant_of-self-2-clause-on_board
invariant_of-self-2-clause-on_board c =
    let P : Clocks → Type 0 = λ clocks. lines_board clocks c.args.segment.now.end < tick_limit in
    λ h. subst P (sym c.let_go.ensures.lines) c.requires.on_board

pub returns-clause-pushed : goal.returns-clause-pushed
returns-clause-pushed c = λ base segments asked out steps. (
    let it = c.let_go.new.self in
    let s = c.args.segment.now in
    let kept = c.let_go.ensures in
    let is : c.push_steps.new.raw.items ≡ it.raw.items ++ segment_steps it.gear it.lines.first.freq s = c.in_default.ensures.steps ∙ ap (λ (l : Line). it.raw.items ++ segment_steps it.gear l.freq s) c.first-freq.ensures in
    let order = c.requires.order in
    let end = c.let_go.ensures.end in
    let mid : AreSteps it.gear it.lines it.reach it.end it.last_end it.last (drop it.next it.raw.items) base segments asked out = rw (kept.waiting, kept.gear, kept.lines, kept.reach, kept.end, kept.last_end, kept.last) steps in
    pushed it.gear it.lines s it.reach it.end it.last_end it.last it.next it.raw.items c.push_steps.new.raw.items base segments asked out mid (omega arith) c.requires.valid.dur_is it.within is)

pub returns-clause-past : goal.returns-clause-past
returns-clause-past c = λ t past. (
    let it = c.let_go.new.self in
    let s = c.args.segment.now in
    let is : c.push_steps.new.raw.items ≡ it.raw.items ++ segment_steps it.gear it.lines.first.freq s = c.in_default.ensures.steps ∙ ap (λ (l : Line). it.raw.items ++ segment_steps it.gear l.freq s) c.first-freq.ensures in
    let order = c.requires.order in
    let end = c.let_go.ensures.end in
    let known = past.known in
    let dur = c.requires.valid.dur_is in
    record { known = omega arith; waits = past-pushed it.gear it.lines.first.freq s it.end t it.next it.raw.items c.push_steps.new.raw.items (omega arith) it.within is (omega arith) (rw c.let_go.ensures.waiting past.waits) })

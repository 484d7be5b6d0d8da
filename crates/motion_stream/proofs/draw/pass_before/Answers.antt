use Rattle.std.proofs.Common.{List, refl, subst}
use Rattle.step_feed.specs.Units.{StepUnit}
use Rattle.motion_stream.specs.Steps.{HasPassed}
use Rattle.motion_stream.proofs.Owning.{before_on}
use Rattle.motion_stream.proofs.draw.pass_before.Goals as goal

pub returns-clause-passed : goal.returns-clause-passed
returns-clause-passed c =
    let m = c.args.machine.now in
    let old = c.args.course.now in
    let made = c.in_ok-batches.batches.items in
    let passed = subst (λ (us : List (List StepUnit)). HasPassed m old c.pass.new.course us made) c.new.ensures.items c.in_ok-batches.ensures.passed in
    before_on m old c.pass.new.course old.current made refl c.requires.on passed c.requires.small c.requires.before

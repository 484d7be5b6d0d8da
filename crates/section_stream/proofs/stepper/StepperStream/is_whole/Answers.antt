use Rattle.std.proofs.Common.{◌≡◌, Bool, true, false}
use Rattle.section_stream.proofs.Later.{left-packed, left-planned}
use Rattle.section_stream.proofs.Staying.{held-none, steps-whole}
use Rattle.section_stream.specs.Pieces.{steps_in}
use Rattle.section_stream.specs.Plans.{segments_for}
use Rattle.section_stream.specs.Packs.{held_of, is_inverted}
use Rattle.section_units.specs.Units.{as_sent}
use Rattle.section_stream.proofs.stepper.StepperStream.is_whole.Goals as goal
use Rattle.plan_types.proofs.Facts.{true_and_false}

pub returns-then-is_given-clause-whole : goal.returns-then-is_given-clause-whole
returns-then-is_given-clause-whole c = λ t base parts out pieces given h. (
    let s = c.args.self.now in
    let waits = c.is_given.ensures.given c.if-is_given.true in (
      steps-whole s.steps.gear s.steps.lines s.steps.reach s.steps.end s.steps.last_end s.steps.last _ base (segments_for s.drive parts) h.asked out h.steps_are waits,
      held-none (as_sent (is_inverted s.pack) out) (steps_in pieces) (held_of s.pack) h.packed.split (c.is_packed.ensures.0 t),
    ))

pub returns-then-is_given-clause-left : goal.returns-then-is_given-clause-left
returns-then-is_given-clause-left c = λ f. left-packed c.args.self.now (c.is_given.ensures.given c.if-is_given.true) (λ none. true_and_false (c.is_packed.ensures.1 none) f)

pub returns-else-is_given-clause-left : goal.returns-else-is_given-clause-left
returns-else-is_given-clause-left c = λ f. left-planned c.args.self.now (c.is_given.ensures.left f)

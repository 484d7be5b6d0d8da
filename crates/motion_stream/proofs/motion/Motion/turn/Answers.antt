use Rattle.std.proofs.Common.{ap, subst}
use Rattle.motion_stream.specs.Motions.{Planner, TurnsCourse}
use Rattle.motion_stream.proofs.motion.Motion.turn.Goals as goal

pub returns-clause-made : goal.returns-clause-made
returns-clause-made c =
    let made = c.in_ok-made.made in (
      ap (λ (p : Planner). p.machine) c.self.view_is,
      subst (λ (p : Planner). TurnsCourse p.machine p.course c.args.k made.batches.items made.note c.make_turn.new.course) c.self.view_is c.in_ok-made.ensures.made,
    )

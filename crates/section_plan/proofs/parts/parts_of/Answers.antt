use Rattle.section_plan.proofs.Durations.{duration-small}
use Rattle.section_plan.proofs.parts.parts_of.Goals as goal

pub returns-clause-soon : goal.returns-clause-soon
returns-clause-soon c =
    rw c.segments.ensures.value (duration-small c.args.one.now c.args.start c.args.end c.args.cruise c.requires.short.valid c.requires.short.short c.requires.share)

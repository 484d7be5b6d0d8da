use Rattle.std.proofs.Common.{ap}
use Rattle.section_feed.specs.Going.{IsPlanned}
use Rattle.section_feed.proofs.Setting.{sets-on}
use Rattle.section_feed.proofs.section.SectionStream.plan.Goals as goal

pub returns-clause-sets : goal.returns-clause-sets
returns-clause-sets c = sets-on (IsPlanned c.args.turn) (λ k o n h. h.set) c.args.self.now.boards.items c.replace-boards.result.items c.plan_boards.new.boards.items (ap (λ v. v.items) c.replace-boards.ensures.value) c.in_ok-plan_boards.ensures

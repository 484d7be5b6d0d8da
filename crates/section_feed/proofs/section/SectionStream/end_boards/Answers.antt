use Rattle.std.proofs.Common.{ap}
use Rattle.section_feed.specs.Going.{IsBoardStill}
use Rattle.section_feed.proofs.Setting.{sets-on}
use Rattle.section_feed.proofs.section.SectionStream.end_boards.Goals as goal

pub returns-then-is_done-clause-sets : goal.returns-then-is_done-clause-sets
returns-then-is_done-clause-sets c = sets-on IsBoardStill (λ k o n h. h.set) c.args.self.now.boards.items c.replace-boards.result.items c.finish_boards.new.boards.items (ap (λ v. v.items) c.replace-boards.ensures.value) c.finish_boards.ensures

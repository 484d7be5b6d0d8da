use Rattle.std.proofs.Common.{◌++◌, All, ap, sym, subst}
use Rattle.plan_types.specs.Sections.{timed}
use Rattle.section_feed.specs.Queues.{drawn_to}
use Rattle.section_feed.specs.Sections.{AreBoards}
use Rattle.section_feed.proofs.Sectioning.{boards-pushed}
use Rattle.section_feed.specs.Going.{IsOpen, IsPushed}
use Rattle.section_feed.proofs.Setting.{open-waiting, sets-on}
use Rattle.section_feed.proofs.section.SectionStream.draw_next.Goals as goal

pub returns-clause-on : goal.returns-clause-on
returns-clause-on c = λ scv moves kinds base released h. (
    let s = c.args.self.now in
    let r = c.in-Some.ready in
    record {
      parts = h.parts ++ timed r.one 0 (drawn_to s.queue) r.parts;
      queue = c.in-Some.ensures.some scv moves h.parts h.queue;
      boards = subst (λ t. AreBoards c.push_boards.new.boards.items t kinds base (h.parts ++ timed r.one 0 (drawn_to s.queue) r.parts) released) (sym c.in-Some.ensures.drawn)
          (boards-pushed r s.boards.items c.replace-boards.result.items c.push_boards.new.boards.items (drawn_to s.queue) kinds base h.parts released (ap (λ v. v.items) c.replace-boards.ensures.value) c.in_ok-push_boards.ensures h.boards);
    })

pub returns-clause-sets : goal.returns-clause-sets
returns-clause-sets c = sets-on (IsPushed c.in-Some.ready) (λ k o n h. h.set) c.args.self.now.boards.items c.replace-boards.result.items c.push_boards.new.boards.items (ap (λ v. v.items) c.replace-boards.ensures.value) c.in_ok-push_boards.ensures

pub push_boards-requires-clause-going : goal.push_boards-requires-clause-going
push_boards-requires-clause-going c =
    let s = c.args.self.now in
    subst (All IsOpen) (sym (ap (λ v. v.items) c.replace-boards.ensures.value)) (open-waiting s.boards.items s.queue c.in-Some.ensures.waited s.ended)

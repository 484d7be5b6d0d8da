use Rattle.std.proofs.Common.{◌<◌, All, length, ap, arith, subst, sym, ◌∙◌}
use Rattle.section_feed.proofs.Ahead.{ahead-packed}
use Rattle.section_feed.specs.Going.{HasBatch, IsAhead}
use Rattle.section_feed.proofs.Setting.{sets-on}
use Rattle.section_feed.proofs.section.SectionStream.batches.Goals as goal

pub returns-clause-sets : goal.returns-clause-sets
returns-clause-sets c = sets-on (HasBatch c.args.self.now.next _) (λ k o n h. h.set) _ c.replace-boards.result.items c.batch_boards.new.boards.items (ap (λ v. v.items) c.replace-boards.ensures.value) c.in_ok-batches.ensures.boards ∙ c.in_ok-prepare.ensures.sets

pub returns-clause-packed : goal.returns-clause-packed
returns-clause-packed c = λ k d l. (
    let on = c.in_ok-batches.ensures.boards in
    let same = on.same in
    let inside : k < length c.replace-boards.result.items = omega arith in
    let is = ap (λ v. v.items) c.replace-boards.ensures.value in
    let ahead = subst (All (IsAhead c.args.self.now.next)) (sym is) c.in_ok-prepare.ensures.ahead in
    let old = ahead-packed c.args.self.now.next _ (ahead k d inside) in
    let packed = (on.each k d inside).packed in
    record { packed = omega arith })

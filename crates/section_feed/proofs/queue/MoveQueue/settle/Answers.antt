use Rattle.std.proofs.Common.{◌∙◌}
use Rattle.section_feed.proofs.Queueing.{queued-more, queued-same}
use Rattle.section_feed.proofs.queue.MoveQueue.settle.Goals as goal

pub returns-in_default-clause-on : goal.returns-in_default-clause-on
returns-in_default-clause-on c = λ scv moves parts h. queued-same c.loop.self.moves c.next.new.self c.loop.self.drawn c.loop.self.ready.items scv moves parts (rw c.in_default.is at c.next.ensures.same) (λ made are. (rw c.in_default.is at c.next.ensures.none) scv moves made are) (c.loop.invariant.on scv moves parts h)

pub loop-preserved : goal.loop-preserved
loop-preserved c =
    let inv = c.loop.invariant in
    record {
      on = λ scv moves parts h. queued-more c.loop.self.moves c.next.new.self c.loop.self.drawn c.loop.self.ready.items c.push_back.new.self.items c.in-Some.ready scv moves parts c.in_ok-push_back.ensures.items c.in-Some.ensures.time (λ made are. c.in-Some.ensures.some scv moves made are) (inv.on scv moves parts h);
      open_is = c.next.ensures.open ∙ inv.open_is;
      count = c.next.ensures.pushed ∙ inv.count;
      drawn = inv.drawn;
      cruise = c.next.ensures.cruise ∙ inv.cruise;
      begin = c.next.ensures.begin ∙ inv.begin;
    }

use Rattle.step_feed.proofs.Feds.{fed-push}
use Rattle.step_feed.proofs.stream.FeedStream.push.Goals as goal

pub returns-clause-pushed : goal.returns-clause-pushed
returns-clause-pushed c = λ clocks pushed released fed.
    let s = c.make_rings.new.self in
    let grown = c.in_ok-make_rings.ensures.fed clocks pushed released 0 fed in
    let items = c.in_ok-push_back.ensures.items in
    rw items (fed-push clocks s.slots s.next 0 s.rings.items s.waiting.items s.first pushed released c.args.unit (rw (c.make_rings.ensures.next, c.make_rings.ensures.first) c.requires.in_time) grown)

use Rattle.lookahead.specs.Stream.{known_caps}
use Rattle.plan_types.specs.Speeds.{caps}
use Rattle.lookahead.proofs.Laws.{open-given, ended-given}
use Rattle.lookahead.proofs.stream.LookStream.settled.Goals as goal

pub returns-clause-open : goal.returns-clause-open
returns-clause-open c = λ moves scv going. open-given c.args.self.now c.take_first.new.self scv moves c.take_first.result going c.take_first.ensures.pushed c.take_first.ensures.risen c.take_first.ensures.room (c.take_first.ensures.speeds moves scv (known_caps moves scv) going.stream)

pub returns-clause-ended : goal.returns-clause-ended
returns-clause-ended c = λ moves scv going. ended-given c.args.self.now c.take_first.new.self scv moves c.take_first.result going (c.take_first.ensures.speeds moves scv (caps moves scv) going)

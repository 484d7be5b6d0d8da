use Rattle.std.proofs.Common.{◌≡◌, ◌+◌, arith, refl}
use Rattle.lookahead.proofs.Pushes.{finished}
use Rattle.lookahead.proofs.stream.LookStream.finish.Goals as goal

pub returns-clause-ended : goal.returns-clause-ended
returns-clause-ended c = λ moves scv going. (
    let zero : 0 + c.args.self.now.reach ≡ c.args.self.now.reach = omega arith in
    finished c.args.self.now _ scv moves going refl refl refl refl refl refl refl c.add.ensures.start (λ h. rw zero (c.add.ensures.later h (going.room h))))

use Rattle.std.proofs.Common.{◌≡◌, ◌+◌, ◌∙◌, length, subst, sym}
use Rattle.session_work.specs.Lates.{AreLate}
use Rattle.session_lanes.proofs.alone.begin_here.Goals as goal

pub say_here-said-requires-clause-limit : goal.say_here-said-requires-clause-limit
say_here-said-requires-clause-limit g c = c.requires.limit

pub say_here-said-requires-clause-motion : goal.say_here-said-requires-clause-motion
say_here-said-requires-clause-motion g c = c.requires.motion

pub say_here-said-requires-clause-reactor : goal.say_here-said-requires-clause-reactor
say_here-said-requires-clause-reactor g c = c.requires.reactor

pub plan_turn-requires-clause-late : goal.plan_turn-requires-clause-late
plan_turn-requires-clause-late g c =
    let k = c.args.k in let n = length c.args.place.now.lanes.batches.now in let new = c.say_here-said.new.both in
    let at : new.next ≡ k + length c.args.both.now.motion.late.items = c.say_here-said.ensures.next ∙ c.requires.late.1 in
    subst (λ l. AreLate n k l.items × (new.next ≡ k + length l.items)) (sym c.say_here-said.ensures.late) (c.requires.late.0, at)

pub plan_turn-requires-clause-reactor : goal.plan_turn-requires-clause-reactor
plan_turn-requires-clause-reactor g c = c.say_here-said.ensures.reactor

pub returns-clause-motion : goal.returns-clause-motion
returns-clause-motion g c = c.plan_turn.ensures.motion

pub returns-clause-late : goal.returns-clause-late
returns-clause-late g c = c.plan_turn.ensures.late

pub returns-clause-room : goal.returns-clause-room
returns-clause-room g c = c.plan_turn.ensures.room

pub returns-clause-reactor : goal.returns-clause-reactor
returns-clause-reactor g c = c.plan_turn.ensures.reactor

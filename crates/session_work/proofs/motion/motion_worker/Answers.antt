use Rattle.session_work.proofs.motion.motion_worker.Goals as goal

pub loop-k-init : goal.loop-k-init
loop-k-init g c = (c.requires.at, c.requires.late)

pub motion_turn-goes_on-requires-clause-at : goal.motion_turn-goes_on-requires-clause-at
motion_turn-goes_on-requires-clause-at g c = c.loop-k.invariant.0

pub motion_turn-goes_on-requires-clause-late : goal.motion_turn-goes_on-requires-clause-late
motion_turn-goes_on-requires-clause-late g c = c.loop-k.invariant.1

pub loop-k-preserved : goal.loop-k-preserved
loop-k-preserved g c = (c.motion_turn-goes_on.ensures.at, c.motion_turn-goes_on.ensures.late)

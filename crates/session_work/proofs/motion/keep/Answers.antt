use Rattle.std.proofs.Common.{rules, ◌≡◌, ◌∙◌, length}
use Rattle.session_work.proofs.Motions.{motion_kept}
use Rattle.session_work.proofs.motion.keep.Goals as goal

pub returns-clause-at : goal.returns-clause-at
returns-clause-at g c =
    let b = c.requires.fed.0.10.6 in
    motion_kept g.M.MotionMachine c.args.lanes.now c.args.k c.args.start.now.value c.args.motion.now c.turn.result c.turn.new.self c.push_back.new.self
    c.requires.fed (c.turn.ensures.made _ b).0 (search rules) (c.turn.ensures.boards ∙ b)

pub returns-clause-late : goal.returns-clause-late
returns-clause-late g c = (c.turn.result, search rules, (c.turn.ensures.made _ c.requires.fed.0.10.6).1)

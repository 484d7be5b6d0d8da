use Rattle.std.proofs.Common.{rules}
use Rattle.session_lanes.specs.Runs.{IsRun, head_at}
use Rattle.session_lanes.proofs.Telling.{told_as}
use Rattle.session_lanes.proofs.whole.run_back.Goals as goal

pub returns-in-Ok-clause-ran : goal.returns-in-Ok-clause-ran
returns-in-Ok-clause-ran g c = told_as (IsRun g.M.MotionMachine g.L.LinkMachine g.A.ReactorMachine g.O.Outside c.args.machines.motion c.args.machines.links.items (head_at c.args.machines.reactor c.args.outside)) c.tell.new.told c.tell.result _ c.tell.ensures.told (search rules)

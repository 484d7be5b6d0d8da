use Rattle.std.proofs.Common.{rules}
use Rattle.session_run.proofs.Desked.{told_none, told_run}
use Rattle.session_run.proofs.desk.run_with.Goals as goal

pub returns-clause-ran : goal.returns-clause-ran
returns-clause-ran g c =
    told_run g.M.MotionMachine g.L.LinkMachine g.A.ReactorMachine g.F.Files g.S.Sink c.args.machines.motion c.args.machines.links.items c.args.machines.reactor _ c.run_back-desk.result _ _ _ c.args.job.now.machine.now (search rules) c.run_back-desk.new.told c.run_back-desk.ensures.ran (search rules) (search rules) (search rules)

pub returns-clause-none : goal.returns-clause-none
returns-clause-none g c =
    told_none g.M.MotionMachine g.L.LinkMachine g.A.ReactorMachine g.F.Files g.S.Sink c.args.machines.motion c.args.machines.links.items c.args.machines.reactor _ c.run_back-desk.result _ _ _ c.run_back-desk.new.told c.run_back-desk.ensures.back (search rules) (search rules) (search rules)

use Rattle.host_cli.proofs.Runs.{run_planned}
use Rattle.host_cli.proofs.Whole.{of-machine}
use Rattle.host_cli.proofs.scene.run_found.Goals as goal

pub returns-clause-shows : goal.returns-clause-shows
returns-clause-shows g c = λ short scene.
    run_planned g.F.Files g.S.Sink c.args.machine.now c.args.scene.now c.args.gcode.now c.args.files.now c.run.new.files c.args.out.now c.run.new.out c.run.result c.requires.machine short scene c.run.ensures.ends

pub returns-clause-named : goal.returns-clause-named
returns-clause-named g c = of-machine c.run.result.cause c.run.ensures.of_run

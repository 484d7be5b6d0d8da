use Rattle.std.proofs.Common.{◌≡◌, ◌∙◌, Some, sym, subst}
use Rattle.plan_types.specs.declared.machine.Machine.{Machine}
use Rattle.host_cli.specs.Traffic.{board_named}
use Rattle.host_cli.proofs.Scened.{one-machine}
use Rattle.host_cli.proofs.traffic.run_traffic.Goals as goal

pub returns-in-Ok-clause-trace : goal.returns-in-Ok-clause-trace
returns-in-Ok-clause-trace g c = λ printer m b text line kind told is named seen read.
    let same = one-machine printer c.in-Ok.machine m (c.in-Ok.ensures.machine printer told) is in
    let Named : Machine → Type 0 = λ x. board_named c.args.words.now.board.now x.boards ≡ Some b in
    c.run_machine.ensures.trace b text line kind (subst Named (sym same) named) (c.read_machine.ensures.same c.args.words.now.trace.now ∙ seen) read

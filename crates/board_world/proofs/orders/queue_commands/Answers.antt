use Rattle.board_world.proofs.Queueing.{command_more}
use Rattle.board_world.proofs.orders.queue_commands.Goals as goal

pub loop-command-preserved : goal.loop-command-preserved
loop-command-preserved c =
    command_more c.args.commands.now c.loop-command.command-index c.command-item.result c.args.host.now c.loop-command.host c.queue_command.new.host c.loop-command-test.true c.command-item.is
    c.loop-command.invariant c.in_ok-queue_command.ensures.host c.in_ok-queue_command.ensures.read

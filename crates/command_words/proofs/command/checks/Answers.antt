use Rattle.std.proofs.Common.{codes}
use Rattle.command_words.specs.Commands as specs
use Rattle.command_words.proofs.command.checks.Goals as goal

pub returns : goal.returns
returns c = record { app = c.with.ensures.app specs.planning_commands (specs.of_all_three (codes "check")) c.runs.ensures.app c.of_all_three.ensures.app }

use Rattle.std.proofs.Common.{codes}
use Rattle.clap.specs.Words.{with_subcommand}
use Rattle.command_words.specs.Commands as specs
use Rattle.command_words.proofs.command.program.Goals as goal

pub returns : goal.returns
returns c =
    let dump = specs.of_all_three (codes "dump") in
    let replay = specs.of_all_three (codes "replay") in
    let mesh = specs.of_all_three (codes "mesh") in
    let first = with_subcommand specs.checks dump.top in
    let has_dump = c.with-whole.ensures.app specs.checks dump c.checks.ensures.app c.of_all_three.ensures.app in
    let has_replay = c.with-whole-2.ensures.app first replay has_dump c.of_all_three-2.ensures.app in
    c.with.ensures.app (with_subcommand first replay.top) mesh has_replay c.of_all_three-3.ensures.app

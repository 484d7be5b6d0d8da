use Rattle.std.proofs.Common.{codes}
use Rattle.clap.specs.Words.{with_subcommand}
use Rattle.command_words.specs.Commands as specs
use Rattle.command_words.proofs.command.runs.Goals as goal

pub returns : goal.returns
returns c =
    let run = specs.of_three (codes "run") in
    let make = specs.of_two (codes "make") in
    let fan = specs.of_two (codes "fan") in
    let first = with_subcommand specs.bare run.top in
    let has_run = c.with-whole.ensures.app specs.bare run c.bare.ensures.app c.of_three.ensures.app in
    let has_make = c.with-whole-2.ensures.app first make has_run c.of_two.ensures.app in
    record { app = c.with.ensures.app (with_subcommand first make.top) fan has_make c.of_two-2.ensures.app }

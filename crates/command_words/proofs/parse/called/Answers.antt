use Rattle.std.proofs.Common.{◌∙◌, codes}
use Rattle.clap.specs.Words.{found_of, rows_of}
use Rattle.clap.specs.declared.parser.matches.ArgMatches.TheViews.{out-ArgMatches}
use Rattle.clap.proofs.WalkLemmas.{first_value-rows}
use Rattle.command_words.proofs.Answers.{called_is, name_is}
use Rattle.command_words.proofs.parse.called.Goals as goal

pub returns : goal.returns
returns c =
    let m = c.args.matches.now in
    let found = found_of c.in_ok-name.found.now in
    called_is _ _ (rows_of found) _ _ _ (c.in_ok-name.ensures.name ∙ name_is (out-ArgMatches m).subcommand) c.in_ok-name.ensures.rows
    (c.get_str.ensures ∙ first_value-rows found (codes "first")) (c.get_str-2.ensures ∙ first_value-rows found (codes "second"))
    (c.get_str-3.ensures ∙ first_value-rows found (codes "third"))

use Rattle.std.proofs.Common.{◌∙◌, inr}
use Rattle.host_cli.proofs.Bedded.{none-marked}
use Rattle.host_cli.proofs.mesh.show.Goals as goal

pub returns-in_default-clause-shows : goal.returns-in_default-clause-shows
returns-in_default-clause-shows g c =
    inr (none-marked c.no_machine-names.result (g.S.Sink.written c.args.out.now) c.end_showing.result.cause c.end_showing.result.report c.end_showing.ensures.cause (c.end_showing.ensures.lines ∙ c.new.ensures) c.end_showing.ensures.bare)

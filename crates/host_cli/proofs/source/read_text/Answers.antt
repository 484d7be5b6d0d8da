use Rattle.std.proofs.Common.{◌≡◌, ◌∙◌, Some, false, rules}
use Rattle.host_cli.proofs.Reading.{read-end}
use Rattle.host_cli.proofs.source.read_text.Goals as goal

pub returns-then-not-more-clause-text : goal.returns-then-not-more-clause-text
returns-then-not-more-clause-text g c = λ bytes told.
    let now : g.F.Files.told c.loop-files.files c.args.name.now ≡ Some bytes = c.loop-files.invariant.told c.args.name.now ∙ told in
    let none : c.in_ok-more.more ≡ false = search rules in
    read-end bytes c.read_piece.new.text.items c.args.limit (c.in_ok-more.ensures.more bytes now (c.loop-files.invariant.front bytes told)) (c.in_ok-more.ensures.end none bytes now) (search rules)

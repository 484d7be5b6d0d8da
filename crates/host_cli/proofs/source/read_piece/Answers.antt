use Rattle.std.proofs.Common.{◌≤◌, length, rules}
use Rattle.host_cli.proofs.Reading.{read-more}
use Rattle.host_cli.proofs.source.read_piece.Goals as goal

pub returns-clause-more : goal.returns-clause-more
returns-clause-more g c = λ bytes told front.
    let fits : c.in-Ok.count ≤ length c.read.new.into = search rules in
    read-more bytes c.args.text.now.items c.read.new.into c.extend_from_slice.new.self.items c.in-Ok.count c.len.result (search rules) front (c.in-Ok.ensures.some bytes told) (c.in-Ok.ensures.bytes bytes told) fits (search rules)

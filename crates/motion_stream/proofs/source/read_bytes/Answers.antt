use Rattle.std.proofs.Common.{refl}
use Rattle.std.specs.Prelude.{true}
use Rattle.motion_stream.proofs.Sourcing.{read_by}
use Rattle.motion_stream.proofs.source.read_bytes.Goals as goal

pub returns-clause-read : goal.returns-clause-read
returns-clause-read c = λ text told h.
    read_by c.args.machine.now c.args.source.now (record { reader = c.read.new.self; items = c.append.new.self; end = c.stop-source.result; ended = c.args.source.now.ended; opened = true }) text c.args.bytes.now told c.new-items.result.items c.read.new.items.items c.requires.goes c.requires.open refl c.stop-source.ensures c.new-items.ensures.items c.in_ok-append.ensures.items c.in_ok-read.ensures h

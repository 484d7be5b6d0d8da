use Rattle.std.proofs.Common.{refl}
use Rattle.std.specs.Prelude.{Some, true}
use Rattle.motion_stream.proofs.Sourcing.{finished_by}
use Rattle.motion_stream.proofs.source.finish_text.Goals as goal

pub returns-clause-read : goal.returns-clause-read
returns-clause-read c = λ text told h.
    finished_by c.args.machine.now c.args.source.now (record { reader = c.finish.new.self; items = c.append.new.self; end = Some c.in_ok-end.end; ended = true; opened = c.args.source.now.opened }) text told c.new-items.result.items c.finish.new.items.items c.in_ok-end.end c.requires.goes refl refl c.new-items.ensures.items c.in_ok-append.ensures.items c.in_ok-end.ensures h

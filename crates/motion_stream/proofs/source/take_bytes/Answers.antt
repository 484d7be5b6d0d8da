use Rattle.std.proofs.Common.{refl, sym}
use Rattle.std.specs.Prelude.{true}
use Rattle.motion_stream.proofs.Sourcing.{more_else}
use Rattle.motion_stream.proofs.source.take_bytes.Goals as goal

pub returns-clause-read : goal.returns-clause-read
returns-clause-read c = λ text told h. more_else c.args.machine.now c.args.source.now (record c.args.source.now { opened = true }) text c.args.bytes.now told (sym c.if-is_none.ensures) refl c.requires.open refl h

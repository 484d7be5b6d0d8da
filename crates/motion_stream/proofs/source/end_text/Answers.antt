use Rattle.std.proofs.Common.{refl, sym}
use Rattle.std.specs.Prelude.{true}
use Rattle.motion_stream.proofs.Sourcing.{ended_else}
use Rattle.motion_stream.proofs.source.end_text.Goals as goal

pub returns-clause-read : goal.returns-clause-read
returns-clause-read c = λ text told h. ended_else c.args.machine.now c.args.source.now (record c.args.source.now { ended = true }) text told (sym c.if-is_none.ensures) refl refl refl h

use Rattle.std.proofs.Common.{arith}
use Rattle.gcode_state.specs.Starts.{initial}
use Rattle.bed_mesh.proofs.file.new_writer.Goals as goal

pub returns-clause-space : goal.returns-clause-space
unfolding initial
returns-clause-space c = record {
  few = rw c.begun.ensures (omega arith);
  near = rw (c.in_ok-extend_from_slice.ensures.items, c.new-code.ensures.items) (omega arith);
}

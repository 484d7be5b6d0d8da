use Rattle.std.proofs.Common.{◌∙◌, arith, refl}
use Rattle.gcode_state.specs.Starts.{initial}
use Rattle.bed_mesh.specs.Files.{mesh_sheet}
use Rattle.bed_mesh.proofs.Filing.{begin}
use Rattle.bed_mesh.proofs.file.mesh_file.Goals as goal

pub loop-rest-init : goal.loop-rest-init
unfolding mesh_sheet initial
loop-rest-init c = record {
  rest_is = omega arith;
  near = omega arith;
  size_is = refl;
  few = rw c.new-modes.ensures (omega arith);
  lines_few = omega arith;
  passed_few = omega arith;
  space = c.in_ok-writer.ensures.space;
  so_far = begin _ _ _ _ _ _ _ _ c.in_ok-writer.ensures.code c.in_ok-writer.ensures.pen c.new-modes.ensures;
}

use Rattle.gcode_program.proofs.Joined.{joined}
use Rattle.gcode_program.proofs.pieces.reads_in_pieces.Goals as goal

pub returns : goal.returns
returns c size lines more s t number start h = joined size lines more s t number start h

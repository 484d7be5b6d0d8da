use Rattle.std.proofs.Common.{◌++◌}
use Rattle.text_core.specs.Lines.{lines_of}
use Rattle.gcode_program.proofs.Lining.{told_first}
use Rattle.gcode_program.proofs.pieces.items_stay.Goals as goal

pub returns : goal.returns
returns c = λ r m text more told h. told_first m (text ++ more) r.reading (lines_of (r.carry.items ++ more)) told (h.read more)

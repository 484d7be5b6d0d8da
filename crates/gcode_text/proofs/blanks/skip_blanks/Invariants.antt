use Rattle.std.proofs.Common.{◌≡◌, length}
use Rattle.text_core.specs.Bytes.{behind}
use Rattle.gcode_text.specs.Blanks.{is_blank}
use Rattle.gcode_text.proofs.blanks.skip_blanks.Given as goal

abbrev pub invariant-loop-rest : goal.invariant-loop-rest
invariant-loop-rest l = behind is_blank l.rest ≡ behind is_blank l.fn.text

abbrev pub decreases-loop-rest : goal.decreases-loop-rest
decreases-loop-rest l = length l.rest

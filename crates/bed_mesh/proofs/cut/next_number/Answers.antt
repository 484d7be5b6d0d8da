use Rattle.std.proofs.Common.{sym, arith}
use Rattle.bed_mesh.proofs.Cutting.{none_left, none_more}
use Rattle.bed_mesh.proofs.cut.next_number.Goals as goal
use Rattle.bed_mesh.proofs.cut.next_number.Goals.{else-lines-gt0-via-then-lines-gt0+else-lines, else-lines-gt0-via-else-lines-gt0}

pub returns-else-lines-gt0-clause-first : goal.returns-else-lines-gt0-clause-first
returns-else-lines-gt0-clause-first c =
    elim c.else-lines-gt0.branch [
      | else-lines-gt0-via-then-lines-gt0+else-lines w ↦ sym (none_more _ _ _ _ _ w.if-lines.false)
      | else-lines-gt0-via-else-lines-gt0 w ↦ sym (none_left _ _ _ _ _ w.if-lines-gt0.false)
    ]

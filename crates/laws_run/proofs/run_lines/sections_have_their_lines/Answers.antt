use Rattle.laws_run.proofs.run_lines.Heads.{due_heads}
use Rattle.laws_run.proofs.run_lines.sections_have_their_lines.Goals as goal

pub returns : goal.returns
returns c = due_heads

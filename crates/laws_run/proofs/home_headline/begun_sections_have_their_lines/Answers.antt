use Rattle.laws_run.proofs.home_headline.Heads.{begun_heads}
use Rattle.laws_run.proofs.home_headline.begun_sections_have_their_lines.Goals as goal

pub returns : goal.returns
returns c = begun_heads

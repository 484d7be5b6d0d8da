use Rattle.laws_board.proofs.sections.Finding.{idle_took}
use Rattle.laws_board.proofs.sections.idle_links_took_all.Goals as goal

pub returns : goal.returns
returns c = idle_took

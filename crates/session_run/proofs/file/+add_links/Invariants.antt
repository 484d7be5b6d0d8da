use Rattle.std.proofs.Common.{length}
use Rattle.session_run.proofs.file.+add_links.Given as goal

abbrev pub decreases-add_links : goal.decreases-add_links
decreases-add_links l = length l.boards.now

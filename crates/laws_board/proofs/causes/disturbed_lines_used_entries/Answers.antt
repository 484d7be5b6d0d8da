use Rattle.laws_board.proofs.causes.Entries.{used_since}
use Rattle.laws_board.proofs.causes.disturbed_lines_used_entries.Goals as goal

pub returns : goal.returns
returns c = used_since

use Rattle.laws_board.proofs.sections.HeededLinks.{all_heeded, ten_seconds}
use Rattle.laws_board.proofs.sections.few_spoiled_turns_are_timely.Goals as goal

pub returns : goal.returns
returns c = record { timely = all_heeded; seconds = ten_seconds }

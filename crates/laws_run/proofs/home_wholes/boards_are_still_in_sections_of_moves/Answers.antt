use Rattle.laws_run.proofs.home_wholes.Between.{still_between}
use Rattle.laws_run.proofs.home_wholes.boards_are_still_in_sections_of_moves.Goals as goal

pub returns : goal.returns
returns c = λ m switches pins entries b ready until begun past x later came turns clocks sections plan releases states v run notes far row homed cut moves upto soon.
    still_between m switches pins entries b ready begun past x later came turns v run notes far row until homed cut moves upto soon clocks sections plan releases states

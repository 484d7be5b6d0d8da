use Rattle.laws_board.proofs.sections.Sampling.{is_section, is_run}
use Rattle.laws_board.proofs.sections.one_move_is_a_section.Goals as goal

pub returns : goal.returns
returns c = record { section = is_section; run = is_run }

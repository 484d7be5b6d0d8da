use Rattle.laws_board.proofs.sections.HomeSpans.{section_is, between_is}
use Rattle.laws_board.proofs.halts.homing_sections_keep_their_turns.Goals as goal

pub returns : goal.returns
returns c = record { section = section_is; between = between_is }

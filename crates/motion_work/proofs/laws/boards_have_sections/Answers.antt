use Rattle.motion_work.proofs.Boardwise.{apart, board_units, sections_are}
use Rattle.motion_work.proofs.laws.boards_have_sections.Goals as goal

pub returns : goal.returns
returns c = record { sections = sections_are; apart = apart; units = board_units }

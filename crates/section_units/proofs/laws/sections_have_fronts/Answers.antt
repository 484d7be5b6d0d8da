use Rattle.section_units.proofs.Fronting.{section_ended, section_front, section_longer, section_whole}
use Rattle.section_units.proofs.laws.sections_have_fronts.Goals as goal

pub returns : goal.returns
returns c = record { whole = section_whole; first = section_front; longer = section_longer; ended = section_ended }

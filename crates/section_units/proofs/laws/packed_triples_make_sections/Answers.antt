use Rattle.section_units.proofs.Packing.{units_begun, units_fit, units_whole}
use Rattle.section_units.proofs.laws.packed_triples_make_sections.Goals as goal

pub returns : goal.returns
returns c = record { units = units_begun; fits = units_fit; whole = units_whole }

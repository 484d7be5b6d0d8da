use Rattle.section_units.proofs.Packing.{none_packed, next_packed}
use Rattle.section_units.proofs.laws.packed_pieces_make_sections.Goals as goal

pub returns : goal.returns
returns c = record { none = none_packed; next = next_packed }

use Rattle.laws_homing.proofs.home_parts.Ends.{ends_low, ends_told, waits_silent}
use Rattle.laws_homing.proofs.home_parts.sections_end_with_their_answer.Goals as goal

pub returns : goal.returns
returns c = record { known = ends_low; answer = ends_told; before = waits_silent }

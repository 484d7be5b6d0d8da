use Rattle.laws_homing.proofs.home_plans.Noting.{begun_in, none_later}
use Rattle.laws_homing.proofs.home_plans.notes_begin_sections.Goals as goal

pub returns : goal.returns
returns c = record { begun = begun_in; none = none_later }

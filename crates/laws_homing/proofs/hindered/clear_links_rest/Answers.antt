use Rattle.laws_homing.proofs.clear_boards.Rests.{clear_from}
use Rattle.laws_homing.proofs.hindered.clear_links_rest.Goals as goal

pub returns : goal.returns
returns g = λ b pins place entries from turns none are limits. clear_from b pins place entries from turns none are limits

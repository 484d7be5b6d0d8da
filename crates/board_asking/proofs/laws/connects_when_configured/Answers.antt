use Rattle.board_asking.proofs.Configured.{configured}
use Rattle.board_asking.proofs.laws.connects_when_configured.Goals as goal

pub returns : goal.returns
returns c = configured

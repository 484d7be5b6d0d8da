use Rattle.clock_line.proofs.Nears.{stay_near}
use Rattle.clock_line.proofs.sample.lines_stay_near.Goals as goal

pub returns : goal.returns
returns c = stay_near

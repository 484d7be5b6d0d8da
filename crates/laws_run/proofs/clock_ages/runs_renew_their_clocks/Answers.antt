use Rattle.laws_run.proofs.clock_ages.Renewing.{renewed}
use Rattle.laws_run.proofs.clock_ages.runs_renew_their_clocks.Goals as goal

pub returns : goal.returns
returns c = λ m s ts p t first rest end n left b valid short told turns words notes goes whole inside. renewed m valid s ts p t first rest end told n left turns words notes goes whole short b inside

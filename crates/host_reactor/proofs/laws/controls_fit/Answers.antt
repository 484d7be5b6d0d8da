use Rattle.host_reactor.proofs.Fitting.{all-fit, plain-fit}
use Rattle.host_reactor.proofs.laws.controls_fit.Goals as goal

pub returns : goal.returns
returns c = record {
  plain = plain-fit;
  all = all-fit;
}

use Rattle.host_reactor.proofs.Connects.{all-configured, silent-eight}
use Rattle.host_reactor.proofs.laws.connects_in_a_run.Goals as goal

pub returns : goal.returns
returns c = record {
  connected = all-configured;
  given_up = silent-eight;
}

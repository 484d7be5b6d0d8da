use Rattle.laws_homing.proofs.clear_boards.Modes.{begins_in, goes_on, relayed, stays_ahead}
use Rattle.laws_homing.proofs.clear_boards.groups_stay_ahead.Goals as goal

pub returns : goal.returns
returns c = record {
  ahead = λ Dead turn g low fired timed mode. stays_ahead Dead turn g low fired timed mode;
  begins = λ Dead g relay lately. begins_in Dead g relay lately;
  goes = λ Dead Later turn g h low fired timed hears mode keeps relays lately. goes_on Dead Later turn g h low fired timed hears mode keeps relays lately;
  relays = λ g turn x low fired relay some there none. relayed g turn x low fired relay some there none;
}

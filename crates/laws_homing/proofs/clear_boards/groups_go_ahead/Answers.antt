use Rattle.laws_homing.proofs.clear_boards.Keeping.{hears_keep}
use Rattle.laws_homing.proofs.clear_boards.Modes.{begins_ahead, goes_ahead, timed_on}
use Rattle.laws_homing.proofs.clear_boards.groups_go_ahead.Goals as goal

pub returns : goal.returns
returns c = record {
  begins = λ Dead g timed relay lately. begins_ahead Dead g timed relay lately;
  goes = λ Dead Later turn g h low fired timed hears mode keeps relays lately. goes_ahead Dead Later turn g h low fired timed hears mode keeps relays lately;
  timed = λ g h turn low fired timed hears. timed_on g h turn low fired timed hears;
  hears = λ clocks states h. hears_keep clocks states h;
}

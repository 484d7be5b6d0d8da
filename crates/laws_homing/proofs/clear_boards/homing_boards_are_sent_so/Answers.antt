use Rattle.laws_homing.proofs.clear_boards.Sent.{sent_behind, sent_far, sent_none, sent_relays, sent_sets}
use Rattle.laws_homing.proofs.clear_boards.homing_boards_are_sent_so.Goals as goal

pub returns : goal.returns
returns e = record {
  behind = λ m clocks b h turn g commands o begun fired. sent_behind m clocks b h turn g commands o begun fired;
  none = λ m clocks b h turn g commands o begun fired relay none. sent_none m clocks b h turn g commands o begun fired relay none;
  sets = λ m clocks b h turn g commands x o begun fired there on. sent_sets m clocks b h turn g commands o begun fired x there on;
  relays = λ m clocks b h turn g commands x o begun fired there on none late relay some. sent_relays m clocks b h turn g commands o begun fired x there on none late relay some;
  far = λ m clocks b h turn g commands o begun fired far. sent_far m clocks b h turn g commands o begun fired far;
}

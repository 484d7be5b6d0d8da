use Rattle.trigger_group.specs.Group.{orders}
use Rattle.laws_homing.proofs.clear_boards.Sending.{ordered_behind, ordered_far, ordered_none, ordered_sets, relays_there, unset_all}
use Rattle.laws_homing.proofs.clear_boards.group_orders_are_behind.Goals as goal

pub returns : goal.returns
returns c = record {
  behind = λ m clocks b start axis g turn low fired. ordered_behind m clocks b start axis g turn low fired;
  none = λ m clocks b start axis g turn low fired relay none. ordered_none m clocks b start axis g turn low fired relay none;
  sets = λ m clocks b start axis g turn x low fired is on. ordered_sets m clocks b start axis g turn x low fired is on;
  far = λ m clocks b start axis g turn low fired far. ordered_far m clocks b start axis g turn low fired far;
  unset = λ oid cs k. unset_all oid cs k;
  relays = λ m clocks b start axis g turn x on is. relays_there m clocks b start axis x (orders g turn) on is;
}

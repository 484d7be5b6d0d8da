use Rattle.laws_homing.proofs.clear_boards.Ending.{late_expiry, no_expiry}
use Rattle.laws_homing.proofs.clear_boards.clear_states_tell_of_expiries.Goals as goal

pub returns : goal.returns
returns e = record {
  late = λ b pins place entries t before own clocks ready tick when begin rests are k only small numbered near low tells. late_expiry b pins place entries t before rests are own clocks ready tick when begin k only small numbered near low tells;
  none = λ b pins place entries t before clocks when rests are first second small numbered tells. no_expiry b pins place entries t before rests are clocks when first second small numbered tells;
}

use Rattle.laws_homing.proofs.clear_boards.Knowing.{hears_fired, hears_known, hears_still}
use Rattle.laws_homing.proofs.clear_boards.groups_know_of_triggers.Goals as goal

pub returns : goal.returns
returns c = record {
  fired = λ b last clocks states s h few at late all t k. hears_fired b last clocks states s h few at late all t k;
  known = λ b last clocks states h all k. hears_known b last clocks states h all k;
  still = λ b last clocks states h k. hears_still b last clocks states h k;
}

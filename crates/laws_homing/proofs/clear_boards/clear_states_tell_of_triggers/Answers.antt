use Rattle.laws_homing.proofs.clear_boards.Bridging.{all_fired_in, tells_able, tells_firing}
use Rattle.laws_homing.proofs.clear_boards.clear_states_tell_of_triggers.Goals as goal

pub returns : goal.returns
returns e = record {
  able = λ b pins place entries t before clocks oid clock when base limit until rests are small spoken tells is. tells_able b pins place entries t before rests are clocks oid clock when base limit until small spoken tells is;
  fired = λ b pins place entries t before oid clock base limit until rests are small spoken tells. tells_firing b pins place entries t before rests are oid clock base limit until small spoken tells;
  all = λ b pins place entries t before clocks start last base limit until rests are spoken numbered counts. all_fired_in b pins place entries t before rests are clocks start last base limit until spoken numbered counts;
}

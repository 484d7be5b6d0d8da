use Rattle.laws_homing.proofs.clear_boards.Lately.{any_on, heard_on, lately_all, near_so}
use Rattle.laws_homing.proofs.clear_boards.boards_are_heard_of_lately.Goals as goal

pub returns : goal.returns
returns e = record {
  turn = λ b pins place entries t before all states h oid base every next first limit ready rests are ticks k few is together begins early low soon start in_run small oid_small spoken a heard.
      heard_on b pins place entries t before rests are all states h oid base every next first limit ready ticks k few is together begins early low soon start in_run small oid_small spoken a heard;
  near = λ own base every start b turn next xs ticks goes early due heard. near_so own base every start b turn next xs ticks goes early due heard;
  all = λ start last turn xs f. lately_all start last turn xs f;
  known = λ b last x xs c on k. any_on b last x xs c on k;
}

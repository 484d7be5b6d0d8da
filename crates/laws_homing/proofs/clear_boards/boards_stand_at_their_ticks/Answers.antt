use Rattle.laws_homing.proofs.clear_boards.Standing.{runs_rested, sound_at, tick_is}
use Rattle.laws_homing.proofs.clear_boards.boards_stand_at_their_ticks.Goals as goal

pub returns : goal.returns
returns e = record {
  tick = λ b pins place entries turns are. tick_is b pins place entries turns are;
  sound = λ b pins place entries turns are. sound_at b pins place entries turns are;
  runs = λ b pins place entries t before rests are shut. runs_rested b pins place entries t before rests are shut;
}

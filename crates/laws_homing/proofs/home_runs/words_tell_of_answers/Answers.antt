use Rattle.laws_homing.proofs.home_runs.Knowing.{homing_known, word_answers}
use Rattle.laws_homing.proofs.home_runs.words_tell_of_answers.Goals as goal

pub returns : goal.returns
returns c = record { known = homing_known; answer = word_answers }

use Rattle.std.proofs.Common.{arith, refl}
use Rattle.gcode_state.specs.Starts.{initial}
use Rattle.gcode_program.specs.Programs.{outcome_of}
use Rattle.digital_out.specs.Words.{fan_words_in}
use Rattle.digital_out.proofs.word.read_words.Goals as goal

pub loop-rest-init : goal.loop-rest-init
unfolding outcome_of initial fan_words_in
loop-rest-init c = record {
  rest_is = omega arith;
  near = omega arith;
  size_is = refl;
  few = rw c.new-modes.ensures (omega arith);
  number_few = omega arith;
  moves_few = omega arith;
  words = rw (c.new-modes.ensures, c.new-words.ensures.items) refl;
}

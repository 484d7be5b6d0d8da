use Rattle.laws_run.proofs.home_wholes.Board.{idle_whole, known_by, passed_whole}
use Rattle.laws_run.proofs.home_wholes.homing_boards_make_whole_sections.Goals as goal

pub returns : goal.returns
returns c = record {
  idle = λ place entries ready turns from to n x past s later states others last k moves still begins order next over reach within released cut size never news quiet oid.
      (idle_whole place entries ready turns from to x past s later k moves begins order next over still n states others last reach within
      (known_by place entries ready turns from to x past s later k moves begins order next over still n reach released) cut size never news quiet).1 oid;
  passed = λ place entries ready turns from to x past s later k moves still begins order next over some oid. (passed_whole place entries ready turns from to x past s later k moves begins order next over still some).1 oid;
}

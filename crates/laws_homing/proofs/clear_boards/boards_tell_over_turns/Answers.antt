use Rattle.laws_homing.proofs.clear_boards.Alive.{turn_alive}
use Rattle.laws_homing.proofs.clear_boards.boards_tell_over_turns.Goals as goal

pub returns : goal.returns
returns c = λ oid base every tick next now until clock r cs a told at ahead runs k none limited sound regular still order far.
    turn_alive oid base every tick next now until clock r cs a told at ahead runs k none limited sound regular still order far

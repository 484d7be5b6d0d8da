-- The dictionary of the load's printer is short.
use Rattle.std.proofs.Common.{zero, suc, arith}
use Rattle.board_sim.specs.Board.{new_controller}
use Rattle.laws_board.specs.causes.Short.{HaveShortDictionaries}
use Rattle.laws_board.proofs.causes.DictionaryText.{AreShort, short_text}
use Rattle.json.specs.Print.{escape_byte}
use Rattle.generated_load.specs.Printer.{load_board, load_machine}

load_pins : AreShort load_board.pins
unfolding escape_byte
load_pins = (omega arith, (omega arith, (omega arith, (omega arith, (omega arith, (omega arith, (omega arith, (omega arith, (omega arith, (omega arith, (omega arith, tt)))))))))))

pub load_dictionaries : HaveShortDictionaries load_machine
unfolding new_controller
load_dictionaries zero below = short_text load_board (omega arith) (omega arith) load_pins
load_dictionaries (suc b) below = absurd (omega (arith, below))

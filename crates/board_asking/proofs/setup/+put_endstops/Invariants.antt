use Rattle.std.proofs.Common.{length}
use Rattle.board_asking.proofs.setup.+put_endstops.Given as goal

abbrev pub decreases-put_endstops : goal.decreases-put_endstops
decreases-put_endstops l = length l.pins.now

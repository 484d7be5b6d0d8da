use Rattle.std.proofs.Common.{length}
use Rattle.board_asking.proofs.setup.+put_pins.Given as goal

abbrev pub decreases-put_pins : goal.decreases-put_pins
decreases-put_pins l = length l.axes.now

use Rattle.laws_homing.proofs.clear_boards.Clocking.{line_ahead, timeout_ahead}
use Rattle.laws_homing.proofs.clear_boards.timeouts_come_ahead.Goals as goal

pub returns : goal.returns
returns c = record { ahead = λ own clocks ready turn timeout ticks k low soon far near rises small. timeout_ahead own clocks ready turn timeout ticks k low soon far near rises small; passes = λ own clocks ready turn timeout k low soon far. line_ahead own clocks ready turn timeout k low soon far }

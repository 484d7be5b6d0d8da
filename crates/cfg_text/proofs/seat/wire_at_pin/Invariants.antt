use Rattle.std.proofs.Common.{◌≡◌, drop}
use Rattle.cfg_text.specs.Building.{wire_at}
use Rattle.cfg_text.proofs.seat.wire_at_pin.Given as goal

abbrev pub invariant-loop-place : goal.invariant-loop-place
invariant-loop-place l = wire_at l.place l.wire (drop l.place l.boards) ≡ wire_at 0 l.wire l.boards

use Rattle.std.proofs.Common.{◌≡◌, ◌+◌, length}
use Rattle.cfg_text.specs.Building.{place_among}
use Rattle.cfg_text.proofs.seat.place_among.Given as goal

abbrev pub invariant-loop-rest : goal.invariant-loop-rest
invariant-loop-rest l = record { place : place_among l.place l.name l.rest ≡ place_among 0 l.fn.name l.fn.names; count : l.place + length l.rest ≡ length l.fn.names }

abbrev pub decreases-loop-rest : goal.decreases-loop-rest
decreases-loop-rest l = length l.rest

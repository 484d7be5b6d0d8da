use Rattle.std.proofs.Common.{◌≡◌, ◌+◌, length}
use Rattle.cfg_text.specs.Wiring.{place_for}
use Rattle.cfg_text.proofs.wiring.place_for.Given as goal

abbrev pub invariant-loop-rest : goal.invariant-loop-rest
invariant-loop-rest l = record { count : l.place + length l.rest ≡ length l.fn.uses; place : l.place + place_for l.line l.rest ≡ place_for l.fn.line l.fn.uses }

abbrev pub decreases-loop-rest : goal.decreases-loop-rest
decreases-loop-rest l = length l.rest

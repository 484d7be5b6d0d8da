use Rattle.std.proofs.Common.{◌≡◌}
use Rattle.link_work.specs.Switches.{first_pins}
use Rattle.link_work.proofs.pins.first_pins.Given as goal

abbrev pub invariant-loop-pin : goal.invariant-loop-pin
invariant-loop-pin l = l.pins.items ≡ first_pins l.fn.board l.pin l.fn.s.switches

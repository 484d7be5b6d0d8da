-- The clocks that the reactor sets in the turns of a run.
use Rattle.std.specs.Prelude.{◌≡◌, ℕ}
use Rattle.msg_code.specs.declared.cmd.Cmd.{Cmd}
use Rattle.msg_code.specs.declared.cmd.Cmd.TheVariants as cmd
use Rattle.axis_homing.specs.Homing.{low}

-- a command that sets the clock of a stepper sets it to a tick, of which the wire carries 32 bits
abbrev pub SetsTo : ℕ → Cmd → Type 0
SetsTo tick (cmd.ResetStepClock oid clock) = clock ≡ low tick
SetsTo tick c = Unit {0}

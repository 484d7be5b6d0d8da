-- Lines of a log that name what is there.
use Rattle.std.specs.Prelude.{◌<◌, ◌^◌, length}
use Rattle.plan_types.specs.declared.machine.Machine.{Machine}
use Rattle.log_text.specs.declared.line.LogLine.{LogLine}
use Rattle.log_text.specs.declared.line.LogLine.TheVariants as line
use Rattle.plan_types.specs.Clock.{run_turns}

-- the line of a section that starts in a turn in which one may
abbrev pub StartsEarly : LogLine → Type 0
StartsEarly line.Note = ⊥
StartsEarly (line.Board b turn tick) = ⊥
StartsEarly (line.Line b turn tick from) = ⊥
StartsEarly (line.Section i turn kind) = turn < run_turns
StartsEarly (line.Pulse s tick up) = ⊥
StartsEarly (line.Cut i) = ⊥
StartsEarly line.End = ⊥

-- the machine has the board or the stepper that the line names, its turn is one in which a section may start,
-- and a time has 64 bits
abbrev pub IsThere : Machine → LogLine → Type 0
IsThere m line.Note = Unit {0}
IsThere m (line.Board b turn tick) = (b < length m.boards) × (turn < run_turns)
IsThere m (line.Line b turn tick from) = (b < length m.boards) × (from < 2 ^ 64)
IsThere m (line.Section i turn kind) = turn < run_turns
IsThere m (line.Pulse s tick up) = s < length m.steppers
IsThere m (line.Cut i) = Unit {0}
IsThere m line.End = Unit {0}

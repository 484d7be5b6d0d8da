use Rattle.std.proofs.Common.{◌≡◌, ℕ, ◌+◌, ◌-◌, ◌≤◌, ◌<◌, ◌++◌, List, None, length, drop}
use Rattle.text_core.specs.Lines.{lines_of}
use Rattle.gcode_program.specs.declared.items.Item.{Item}
use Rattle.gcode_program.specs.Reader.{HasNoEnd, IsOn, IsRead}
use Rattle.gcode_program.specs.Small.{IsSmallReading}
use Rattle.gcode_program.proofs.reading.read_lines.Given as goal

abbrev pub invariant-loop-end : goal.invariant-loop-end
invariant-loop-end l = record {
  used : l.used ≤ length l.text;
  small : l.reading.stop ≡ None → IsSmallReading l.reading;
  place : l.reading.stop ≡ None → l.reading.start ≡ l.initial.reading.start + l.used;
  read : (all more : List ℕ) (told : List Item) → l.initial.reading.start + length l.text ≤ length all → IsOn l.machine all l.initial.reading (lines_of (l.text ++ more)) (told ++ l.initial.items.items) → IsRead l.machine all l.reading (lines_of (drop l.used l.text ++ more)) (told ++ l.items.items);
}

abbrev pub decreases-loop-end : goal.decreases-loop-end
decreases-loop-end l = length l.text - l.used

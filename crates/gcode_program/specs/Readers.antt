-- Readers, as their callers see them.
use Rattle.std.specs.Prelude.{ℕ, List, Option}
use Rattle.plan_types.specs.declared.machine.Machine.{Machine}
use Rattle.plan_types.specs.declared.plan.Move.{Move}
use Rattle.plan_types.specs.declared.plan.ReadEnd.{ReadEnd}
use Rattle.plan_types.specs.declared.plan.Section.{Section}
use Rattle.plan_types.specs.declared.plan.SectionKind.{SectionKind}
use Rattle.gcode_program.specs.declared.items.Item.{Item}
use Rattle.gcode_program.specs.declared.reader.Reader.{Reader}
use Rattle.gcode_program.specs.Reader.{AreReading}

-- a reader to which this text was given, and which told these things
abbrev pub IsReaderOf : Reader → Machine → List ℕ → List Item → Type 0
IsReaderOf r m text told = AreReading m r.reading r.carry.items text told

-- how the reading stopped, if it did
abbrev pub stop_of : Reader → Option ReadEnd
stop_of r = r.reading.stop

-- a section with these moves behind some dwells
abbrev pub section_with : SectionKind → List Move → ℕ → Section
section_with kind moves dwell = record { kind = kind; moves = moves; dwell = dwell }

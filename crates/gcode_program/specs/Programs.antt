-- What a text of G-code is on a machine: its sections, and how far it is read.
use Rattle.std.specs.Prelude.{ℕ, List, [], length}
use Rattle.text_core.specs.Lines.{lines_of}
use Rattle.plan_types.specs.declared.machine.Machine.{Machine}
use Rattle.plan_types.specs.declared.plan.Section.{Section}
use Rattle.plan_types.specs.declared.plan.ReadEnd.{ReadEnd}
use Rattle.gcode_state.specs.Starts.{initial}
use Rattle.gcode_program.specs.Readings.{Outcome, outcome}
use Rattle.gcode_program.specs.Cuts.{sections_of}

-- The reading of a text from its first line on.
unfoldable pub outcome_of : Machine → List ℕ → Outcome
outcome_of m text = outcome (length text) (initial m) 1 0 (lines_of text)

-- the sections of the accepted lines
abbrev pub program_sections : Machine → List ℕ → List Section
program_sections m text = sections_of m 0 [] (outcome_of m text).deeds

-- how far the text is read
abbrev pub program_end : Machine → List ℕ → ReadEnd
program_end m text = let o = outcome_of m text in record { lines = length o.deeds; passed = o.passed; stop = o.stop }

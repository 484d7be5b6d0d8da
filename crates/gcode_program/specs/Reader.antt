-- A text that is read in pieces.
use Rattle.std.specs.Prelude.{◌≡◌, ◌⊎◌, ℕ, ◌+◌, ◌*◌, ◌<◌, ◌≤◌, false, All, List, [], ◌∷◌, ◌++◌, length, slice_index_or, Option, Some, None, if◌then◌else◌}
use Rattle.text_core.specs.Lines.{lines_of}
use Rattle.plan_types.specs.declared.machine.Machine.{Machine}
use Rattle.plan_types.specs.declared.plan.ReadEnd.{ReadEnd}
use Rattle.plan_types.specs.declared.plan.ReadStop.TheVariants.{Stop}
use Rattle.gcode_state.specs.declared.state.Action.{Action}
use Rattle.gcode_program.specs.declared.items.Item.{Item}
use Rattle.gcode_program.specs.declared.items.Opening.{Opening}
use Rattle.gcode_program.specs.declared.reading.Reading.{Reading}
use Rattle.gcode_program.specs.Items.{IsGood, ending, items_by, items_of, opening_by}
use Rattle.gcode_program.specs.Programs.{outcome_of, program_end, program_sections}
use Rattle.gcode_program.specs.Readings.{Deed, Outcome, is_stop, outcome}

-- the things that deeds tell, behind a section of moves that may go on
abbrev pub items_from : Machine → Opening → List Deed → List Item
items_from m o [] = ending o.goes
items_from m o (d ∷ rest) = items_by m o d.before d.action ++ items_from m (opening_by o d.action) rest

-- so many bytes are known of a text of n, and a line that ends there is whole
abbrev pub AreBytesKnown : ℕ → ℕ → ℕ → Type 0
AreBytesKnown known end n = (known ≤ n) × ((end < known) ⊎ (known ≡ n))

-- how the reading stops behind an action, if it does
abbrev pub stop_by : Action → ℕ → ℕ → Option ReadEnd
stop_by a lines passed = if is_stop a then Some (record { lines = lines; passed = passed; stop = Stop lines }) else None

-- all of a text was told, and how it was read
pub record IsAll (m : Machine) (text : List ℕ) (end : ReadEnd) (told : List Item) : Type 0 where
  pub items : items_of (program_sections m text) ≡ told
  pub end_is : program_end m text ≡ end
  pub good : All IsGood told

-- what was told and what is still to come are the whole
pub record IsComing (m : Machine) (whole coming : Outcome) (o : Opening) (lines passed : ℕ) (told : List Item)
    : Type 0 where
  pub items : told ++ items_from m o coming.deeds ≡ items_from m (record { goes = false; dwell = 0 }) whole.deeds
  pub count : lines + length coming.deeds ≡ length whole.deeds
  pub passed_is : passed + coming.passed ≡ whole.passed
  pub stop : coming.stop ≡ whole.stop

-- a reading of a text goes on with these lines
pub record IsOn (m : Machine) (all : List ℕ) (r : Reading) (lines : List (List ℕ)) (told : List Item) : Type 0 where
  pub coming : IsComing m (outcome_of m all) (outcome (length all) r.modes (r.lines + 1) r.start lines) r.opening
      r.lines r.passed told
  pub good : All IsGood told

-- it goes on with them, or has stopped
pub record IsRead (m : Machine) (all : List ℕ) (r : Reading) (lines : List (List ℕ)) (told : List Item) : Type 0 where
  pub goes : r.stop ≡ None → IsOn m all r lines told
  pub over : (end : ReadEnd) → r.stop ≡ Some end → IsAll m all end told

-- no line ends in a text
abbrev pub HasNoEnd : List ℕ → Type 0
HasNoEnd text = (k : ℕ) → k < length text → slice_index_or text k 0 ≡ 10 → ⊥

-- A text was read up to its last whole line, behind which these bytes stand. Whatever follows, what was told
-- is the first of it; once the reading stopped, it is all.
pub record AreReading (m : Machine) (r : Reading) (carry text : List ℕ) (told : List Item) : Type 0 where
  pub place : r.stop ≡ None → r.start + length carry ≡ length text
  pub open_end : r.stop ≡ None → HasNoEnd carry
  pub read : (more : List ℕ) → IsRead m (text ++ more) r (lines_of (carry ++ more)) told

-- What is written for one line of a text.
use Rattle.std.specs.Prelude.{◌≡◌, ℕ, ◌+◌, ◌≤◌, Bool, List, ◌++◌, length, Ok, ⊤}
use Rattle.gcode_program.specs.Readings.{line_result}
use Rattle.gcode_state.specs.declared.state.State.{State}
use Rattle.gcode_state.specs.declared.state.Action.{Action}
use Rattle.bed_mesh.specs.declared.mesh.Mesh.{Mesh}
use Rattle.bed_mesh.specs.declared.back.Halt.{Halt}
use Rattle.bed_mesh.specs.declared.back.Halt.TheVariants.{Memory, Refused}
use Rattle.bed_mesh.specs.declared.file.Writer.{Writer}
use Rattle.bed_mesh.specs.Files.{Pen, Sheet, accepted_state, behind_action, behind_line, refused}
use Rattle.bed_mesh.specs.BentLines.{last_by, lines_by, joined_lines}

-- how far a writer has come
abbrev pub pen_of : Writer → Pen
pen_of w = record { start = length w.code.items; modes = w.modes; last = w.last }

-- a writer has room for one more line
pub record HasSpace (w : Writer) : Type 0 where
  pub few : w.modes.lines ≤ length w.code.items
  pub near : length w.code.items ≤ 1_073_741_825

-- a writer added the lines of an action, which were all accepted
pub record IsAdded (t : Mesh) (old : Writer) (action : Action) (new : Writer) : Type 0 where
  pub accepted_is : accepted_state (length old.code.items) old.modes (lines_by t old.last action) ≡ Ok new.modes
  pub code : new.code.items ≡ old.code.items ++ joined_lines (lines_by t old.last action)
  pub last : new.last ≡ last_by old.last action
  pub space : HasSpace new

-- a line was read, and a writer added the lines of what it does
pub record IsStep (t : Mesh) (size start : ℕ) (s : State) (line : List ℕ) (old : Writer) (action : Action) (u : State)
    (new : Writer) : Type 0 where
  pub reads : line_result size start s line ≡ Ok (u, action)
  pub added : IsAdded t old action new

-- why a writer stops at a line
abbrev pub IsHalt : Mesh → ℕ → ℕ → State → List ℕ → Pen → Halt → Type 0
IsHalt t size start s line p Memory = ⊤
IsHalt t size start s line p (Refused kind) =
    (number : ℕ) (passed : Bool) (rest : State → Pen → Sheet) →
    behind_line t number passed p (line_result size start s line) rest ≡ refused number kind

-- a line that is refused leaves what was written before it
abbrev pub LeavesWritten : Halt → Writer → Writer → Type 0
LeavesWritten Memory old new = ⊤
LeavesWritten (Refused kind) old new = new.code.items ≡ old.code.items

-- The file that is written for a text of G-code.
use Rattle.std.specs.Prelude.{ℕ, ◌+◌, true, false, Bool, List, [], ◌∷◌, ◌++◌, codes, length, Result, Ok, Err}
use Rattle.gcode_state.specs.States.{one_if}
use Rattle.text_core.specs.Lines.{lines_of}
use Rattle.plan_types.specs.declared.cause.LineKind.{LineKind}
use Rattle.plan_types.specs.declared.machine.Machine.{Machine}
use Rattle.plan_types.specs.declared.plan.ReadEnd.{ReadEnd}
use Rattle.plan_types.specs.declared.plan.ReadStop.{ReadStop}
use Rattle.plan_types.specs.declared.plan.ReadStop.TheVariants.{End, Stop, Refused}
use Rattle.gcode_state.specs.declared.state.State.{State}
use Rattle.gcode_state.specs.declared.state.Action.{Action}
use Rattle.gcode_state.specs.declared.state.Action.TheVariants as actions
use Rattle.gcode_state.specs.Starts.{initial}
use Rattle.gcode_program.specs.Readings.{is_passed, line_result}
use Rattle.bed_mesh.specs.declared.mesh.Mesh.{Mesh}
use Rattle.bed_mesh.specs.BentLines.{last_by, lines_by, joined_lines}

-- what goes on behind a line that is accepted; one that isn't ends it
abbrev pub on_accepted : Result (State × Action) LineKind → (State → Result State LineKind) → Result State LineKind
on_accepted (Err kind) rest = Err kind
on_accepted (Ok next) rest = rest next.0

-- The state behind lines that are read behind this state, in a text in which so many bytes stand before them;
-- or why the first one that is refused is so.
abbrev pub accepted_state : ℕ → State → List (List ℕ) → Result State LineKind
accepted_state start s [] = Ok s
accepted_state start s (line ∷ lines) =
    on_accepted (line_result (start + (length line + 1)) start s line)
    (λ t. accepted_state (start + (length line + 1)) t lines)

-- how far what was written has come: how many bytes it has, the state behind it, and the acceleration that
-- was written last
pub record Pen : Type 0 where
  pub start : ℕ
  pub modes : State
  pub last : ℕ

-- what is written for lines, and how they are read: how many of them are accepted, with how many passed
-- commands, and how that stops
pub record Sheet : Type 0 where
  pub code : List ℕ
  pub lines : ℕ
  pub passed : ℕ
  pub stop : ReadStop

-- nothing more is written, since a line is refused
abbrev pub refused : ℕ → LineKind → Sheet
refused number kind = record { code = []; lines = 0; passed = 0; stop = Refused number kind }

-- a sheet with more before it
abbrev pub sheet_behind : List ℕ → ℕ → ℕ → Sheet → Sheet
sheet_behind front lines passed s =
    record { code = front ++ s.code; lines = lines + s.lines; passed = passed + s.passed; stop = s.stop }

-- a sheet behind a line that was read, by its action: a stop ends it
abbrev pub behind_action : ℕ → Bool → List ℕ → Action → Sheet → Sheet
behind_action number passed text actions.Stop rest =
    record { code = text; lines = 1; passed = one_if passed; stop = Stop number }
behind_action number passed text action rest = sheet_behind text 1 (one_if passed) rest

-- the pen behind what was written for an action
abbrev pub moved_pen : Pen → List (List ℕ) → State → Action → Pen
moved_pen p lines s action =
    record { start = p.start + length (joined_lines lines); modes = s; last = last_by p.last action }

-- Where the written lines are refused, the line for which they are written is.
abbrev pub behind_lines : ℕ → Bool → Pen → List (List ℕ) → Action → Result State LineKind → (Pen → Sheet) → Sheet
behind_lines number passed p lines action (Err kind) rest = refused number kind
behind_lines number passed p lines action (Ok s) rest =
    behind_action number passed (joined_lines lines) action (rest (moved_pen p lines s action))

-- a sheet behind a line, by its reading: what is written for it is read and applied as well
abbrev pub behind_line : Mesh → ℕ → Bool → Pen → Result (State × Action) LineKind → (State → Pen → Sheet) → Sheet
behind_line t number passed p (Err kind) rest = refused number kind
behind_line t number passed p (Ok next) rest =
    behind_lines number passed p (lines_by t p.last next.1) next.1
    (accepted_state p.start p.modes (lines_by t p.last next.1))
    (rest next.0)

-- What is written for lines, line by line: for each one that is read and applies, as long as what is written
-- is read and applies too.
abbrev pub sheet : Mesh → ℕ → State → Pen → ℕ → ℕ → List (List ℕ) → Sheet
sheet t size s p number start [] = record { code = []; lines = 0; passed = 0; stop = End }
sheet t size s p number start (line ∷ lines) = behind_line t number (is_passed line) p (line_result size start s line)
    (λ u q. sheet t size u q (number + 1) (start + (length line + 1)) lines)

-- the first lines: absolute coordinates, relative E
abbrev pub head_text : List ℕ
head_text = codes "G90\nM83\n"

-- a state in which coordinates are absolute
abbrev pub with_absolute : State → State
with_absolute s = record s { relative = false }

-- a state in which E is relative
abbrev pub with_relative_e : State → State
with_relative_e s = record s { relative_e = true }

-- the state behind them
abbrev pub begun : Machine → State
begun m = with_relative_e (with_absolute (initial m))

-- the pen behind them
abbrev pub first_pen : Machine → Pen
first_pen m = record { start = length head_text; modes = begun m; last = m.a }

-- the file that is written for a text, behind its first lines
unfoldable pub mesh_sheet : Machine → Mesh → List ℕ → Sheet
mesh_sheet m t text = sheet t (length text) (initial m) (first_pen m) 1 0 (lines_of text)

-- the whole file, but for its last line
abbrev pub mesh_code : Machine → Mesh → List ℕ → List ℕ
mesh_code m t text = head_text ++ (mesh_sheet m t text).code

-- how the text is read for it
abbrev pub mesh_end : Machine → Mesh → List ℕ → ReadEnd
mesh_end m t text = let s = mesh_sheet m t text in record { lines = s.lines; passed = s.passed; stop = s.stop }

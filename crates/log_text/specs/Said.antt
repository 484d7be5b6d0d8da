-- What a line of a log says: the lines of a report, by the names of the machine.
use Rattle.std.specs.Prelude.{ℕ, ◌&&◌, ◌==◌, Bool, true, false, List, [], ◌∷◌, codes, length, if◌then◌else◌, Option, Some, None, Result, Ok, Err}
use Rattle.std.specs.Str.{bytes_eq}
use Rattle.text_core.specs.Bytes.{Text}
use Rattle.plan_types.specs.declared.cause.MisfitKind.{MisfitKind}
use Rattle.plan_types.specs.declared.cause.MisfitKind.TheVariants.{BadLine, Unknown}
use Rattle.plan_types.specs.declared.machine.Machine.{Machine}
use Rattle.plan_types.specs.declared.plan.SectionKind.{SectionKind}
use Rattle.plan_types.specs.declared.plan.SectionKind.TheVariants.{Moves, Home}
use Rattle.plan_types.specs.Machines.{board_at, stepper_at}
use Rattle.text_core.specs.Words.{is_none_left}
use Rattle.log_text.specs.declared.line.LogLine.{LogLine}
use Rattle.log_text.specs.declared.line.LogLine.TheVariants as line
use Rattle.log_text.specs.Names.{board_from, stepper_from}
use Rattle.log_text.specs.Words.{is_turn, labelled, number}

-- what a line says, or why it can't be one of a log
abbrev pub Said : Type 0
Said = Result LogLine MisfitKind

-- a line that changes nothing, where it is one
abbrev pub note_if : Bool → Said
note_if true = Ok line.Note
note_if false = Err BadLine

-- the machine is this one
abbrev pub machine_if : Bool → Said
machine_if true = Ok line.Note
machine_if false = Err Unknown

-- `cartesian` or `corexy`: whether it is the second
abbrev pub is_corexy : Text → Option Bool
is_corexy word =
    if bytes_eq word (codes "corexy") then Some true
    else (if bytes_eq word (codes "cartesian") then Some false else None)

-- two answers are the same
abbrev pub same : Bool → Bool → Bool
same true b = b
same false b = if b then false else true

-- whether the machine is this one, by its kind, its boards and its steppers
abbrev pub machine_with : Machine → Option Bool → ℕ → Option (ℕ × List Text) → Said
machine_with m None boards steppers = Err BadLine
machine_with m (Some corexy) boards None = Err BadLine
machine_with m (Some corexy) boards (Some s) =
    if is_none_left s.1
    then machine_if (same corexy m.corexy && (boards == length m.boards) && (s.0 == length m.steppers))
    else Err BadLine

-- so, by the words behind its kind
abbrev pub machine_boards : Machine → Text → Option (ℕ × List Text) → Said
machine_boards m kind None = Err BadLine
machine_boards m kind (Some b) = machine_with m (is_corexy kind) b.0 (labelled (codes "steppers") b.1)

-- behind `machine`: `KIND boards B steppers N`, those of the machine
abbrev pub machine_line : Machine → List Text → Said
machine_line m [] = Err BadLine
machine_line m (kind ∷ words) = machine_boards m kind (labelled (codes "boards") words)

-- the board of a number has this frequency, and its clock this tick at the beginning of a turn
abbrev pub board_told : Machine → ℕ → ℕ → ℕ → Option ℕ → Said
board_told m freq turn tick None = Err Unknown
board_told m freq turn tick (Some b) = if (board_at m b).freq == freq then Ok (line.Board b turn tick) else Err Unknown

-- what a board's line says, by its frequency, its turn and what stands behind `tick`
abbrev pub board_tick : Machine → Text → ℕ → ℕ → Option (ℕ × List Text) → Said
board_tick m name freq turn None = Err BadLine
board_tick m name freq turn (Some t) =
    if is_none_left t.1 && is_turn turn then board_told m freq turn t.0 (board_from 0 name m.boards) else Err BadLine

-- so, by what stands behind `turn`
abbrev pub board_turn : Machine → Text → ℕ → Option (ℕ × List Text) → Said
board_turn m name freq None = Err BadLine
board_turn m name freq (Some t) = board_tick m name freq t.0 (labelled (codes "tick") t.1)

-- so, by what stands behind `freq`
abbrev pub board_freq : Machine → Text → Option (ℕ × List Text) → Said
board_freq m name None = Err BadLine
board_freq m name (Some f) = board_turn m name f.0 (labelled (codes "turn") f.1)

-- behind `board`: `NAME freq F turn S tick T`
abbrev pub board_line : Machine → List Text → Said
board_line m [] = Err BadLine
board_line m (name ∷ words) = board_freq m name (labelled (codes "freq") words)

-- the axis of a letter
abbrev pub axis_of : Text → Option SectionKind
axis_of word =
    if bytes_eq word (codes "x") then Some (Home 0)
    else (if bytes_eq word (codes "y") then Some (Home 1)
    else (if bytes_eq word (codes "z") then Some (Home 2) else None))

-- what a section does: `move`, or `home` and an axis
abbrev pub kind_said : List Text → Option SectionKind
kind_said [] = None
kind_said (word ∷ []) = if bytes_eq word (codes "move") then Some Moves else None
kind_said (word ∷ axis ∷ []) = if bytes_eq word (codes "home") then axis_of axis else None
kind_said (word ∷ axis ∷ more ∷ words) = None

-- what a section's line says, by its number, its turn and its kind
abbrev pub section_with : ℕ → ℕ → Option SectionKind → Said
section_with i turn None = Err BadLine
section_with i turn (Some kind) = if is_turn turn then Ok (line.Section i turn kind) else Err BadLine

-- so, by what stands behind `turn`
abbrev pub section_turn : Option ℕ → Option (ℕ × List Text) → Said
section_turn None turn = Err BadLine
section_turn (Some i) None = Err BadLine
section_turn (Some i) (Some t) = section_with i t.0 (kind_said t.1)

-- behind `section`: `I turn S move`, or `I turn S home A`
abbrev pub section_line : List Text → Said
section_line [] = Err BadLine
section_line (i ∷ words) = section_turn (number i) (labelled (codes "turn") words)

-- `+` or `-`
abbrev pub is_up : Text → Option Bool
is_up word = if bytes_eq word (codes "+") then Some true else (if bytes_eq word (codes "-") then Some false else None)

-- a pulse of the stepper of this number, where it is on that board
abbrev pub pulse_told : Machine → ℕ → Bool → Option ℕ → Option ℕ → Said
pulse_told m tick up None s = Err Unknown
pulse_told m tick up (Some b) None = Err Unknown
pulse_told m tick up (Some b) (Some s) = if (stepper_at m s).board == b then Ok (line.Pulse s tick up) else Err Unknown

-- what a pulse's line says, by the names of its board and its stepper, its tick and its direction
abbrev pub pulse_with : Machine → Text → Text → Option ℕ → Option Bool → Said
pulse_with m board stepper None up = Err BadLine
pulse_with m board stepper (Some tick) None = Err BadLine
pulse_with m board stepper (Some tick) (Some up) =
    pulse_told m tick up (board_from 0 board m.boards) (stepper_from 0 stepper m.steppers)

-- behind `pulse`: `BOARD STEPPER TICK +`, or `-`
abbrev pub pulse_line : Machine → List Text → Said
pulse_line m [] = Err BadLine
pulse_line m (board ∷ []) = Err BadLine
pulse_line m (board ∷ stepper ∷ []) = Err BadLine
pulse_line m (board ∷ stepper ∷ tick ∷ []) = Err BadLine
pulse_line m (board ∷ stepper ∷ tick ∷ sign ∷ words) =
    if is_none_left words then pulse_with m board stepper (number tick) (is_up sign) else Err BadLine

-- the machine has this board
abbrev pub board_said : Option ℕ → LogLine → Said
board_said None said = Err Unknown
board_said (Some b) said = Ok said

-- what the line of a closed switch says, by its board, its section, its tick and the line of the scene
abbrev pub cut_with : Machine → Text → Option ℕ → Option ℕ → Option ℕ → Said
cut_with m board None tick from = Err BadLine
cut_with m board (Some i) None from = Err BadLine
cut_with m board (Some i) (Some tick) None = Err BadLine
cut_with m board (Some i) (Some tick) (Some from) = board_said (board_from 0 board m.boards) (line.Cut i)

-- behind `cut`: `I BOARD PIN TICK LINE`
abbrev pub cut_line : Machine → List Text → Said
cut_line m [] = Err BadLine
cut_line m (i ∷ []) = Err BadLine
cut_line m (i ∷ board ∷ []) = Err BadLine
cut_line m (i ∷ board ∷ pin ∷ []) = Err BadLine
cut_line m (i ∷ board ∷ pin ∷ tick ∷ []) = Err BadLine
cut_line m (i ∷ board ∷ pin ∷ tick ∷ from ∷ words) =
    if is_none_left words then cut_with m board (number i) (number tick) (number from) else Err BadLine

-- the board of a number has a further clock line: its tick at the beginning of a turn, and the time in ns
-- from which the line holds
abbrev pub drift_told : ℕ → ℕ → ℕ → Option ℕ → Said
drift_told turn tick from None = Err Unknown
drift_told turn tick from (Some b) = Ok (line.Line b turn tick from)

-- what a further clock line says, by its board, its turn, its tick and what stands behind `from`
abbrev pub drift_from : Machine → Text → ℕ → ℕ → Option (ℕ × List Text) → Said
drift_from m board turn tick None = Err BadLine
drift_from m board turn tick (Some t) =
    if is_none_left t.1 then drift_told turn tick t.0 (board_from 0 board m.boards) else Err BadLine

-- so, by what stands behind `tick`
abbrev pub drift_tick : Machine → Text → ℕ → Option (ℕ × List Text) → Said
drift_tick m board turn None = Err BadLine
drift_tick m board turn (Some t) = drift_from m board turn t.0 (labelled (codes "from") t.1)

-- so, by what stands behind `turn`
abbrev pub drift_turn : Machine → Text → Option (ℕ × List Text) → Said
drift_turn m board None = Err BadLine
drift_turn m board (Some t) = drift_tick m board t.0 (labelled (codes "tick") t.1)

-- behind `line`: `BOARD turn SENT tick CLOCK from NS`
abbrev pub drift_line : Machine → List Text → Said
drift_line m [] = Err BadLine
drift_line m (board ∷ words) = drift_turn m board (labelled (codes "turn") words)

-- the line with the counts of a text changes nothing, where nothing stands behind them
abbrev pub counts_passed : Option (ℕ × List Text) → Said
counts_passed None = Err BadLine
counts_passed (Some t) = note_if (is_none_left t.1)

-- so, where the first count is a number
abbrev pub counts_with : Option ℕ → Option (ℕ × List Text) → Said
counts_with None passed = Err BadLine
counts_with (Some accepted) passed = counts_passed passed

-- behind `lines`: `L passed P`
abbrev pub counts_line : List Text → Said
counts_line [] = Err BadLine
counts_line (accepted ∷ words) = counts_with (number accepted) (labelled (codes "passed") words)

-- the log's end, where its status is a number
abbrev pub end_with : Option ℕ → Said
end_with None = Err BadLine
end_with (Some status) = Ok line.End

-- behind `end`: a status, and whatever follows
abbrev pub end_line : List Text → Said
end_line [] = Err BadLine
end_line (status ∷ words) = end_with (number status)

-- behind the first word
abbrev pub line_behind : Machine → Text → List Text → Said
line_behind m word words =
    if bytes_eq word (codes "pulse") then pulse_line m words
    else (if bytes_eq word (codes "section") then section_line words
    else (if bytes_eq word (codes "cut") then cut_line m words
    else (if bytes_eq word (codes "board") then board_line m words
    else (if bytes_eq word (codes "machine") then machine_line m words
    else (if bytes_eq word (codes "line") then drift_line m words
    else (if bytes_eq word (codes "lines") then counts_line words
    else (if bytes_eq word (codes "end") then end_line words
    else Err BadLine)))))))

-- what the words of a line say
abbrev pub line_said : Machine → List Text → Said
line_said m [] = Err BadLine
line_said m (word ∷ words) = line_behind m word words

-- The reading of a whole text: which lines are accepted, what they do, and how the reading stops.
use Rattle.std.specs.Prelude.{ℕ, ◌+◌, ◌&&◌, Bool, true, false, nat_lt, nat_le, List, [], ◌∷◌, ◌++◌, length, if◌then◌else◌, Result, Ok, Err}
use Rattle.plan_types.specs.declared.cause.LineKind.{LineKind}
use Rattle.plan_types.specs.declared.cause.LineKind.TheVariants as kinds
use Rattle.plan_types.specs.declared.plan.ReadStop.{ReadStop}
use Rattle.plan_types.specs.declared.plan.ReadStop.TheVariants.{End, Stop, Refused}
use Rattle.gcode_text.specs.declared.word.Word.{Word}
use Rattle.gcode_text.specs.declared.word.Word.TheVariants as words
use Rattle.gcode_text.specs.declared.fault.FaultKind.{FaultKind}
use Rattle.gcode_text.specs.declared.fault.FaultKind.TheVariants as texts
use Rattle.gcode_text.specs.Lines.{reading}
use Rattle.gcode_state.specs.declared.state.State.{State}
use Rattle.gcode_state.specs.declared.state.Action.{Action}
use Rattle.gcode_state.specs.declared.state.Action.TheVariants as actions
use Rattle.gcode_state.specs.declared.state.StateFault.{StateFault}
use Rattle.gcode_state.specs.declared.state.StateFault.TheVariants as states
use Rattle.gcode_state.specs.States.{applied, one_if}

-- why a line is refused that isn't read
abbrev pub text_kind : FaultKind → LineKind
text_kind texts.BadNumber = kinds.BadNumber
text_kind texts.BadLetter = kinds.BadLetter
text_kind texts.TooLongLine = kinds.TooLongLine
text_kind texts.Unsupported = kinds.Unsupported
text_kind texts.TooLarge = kinds.TooLarge

-- why a line is refused that doesn't apply
abbrev pub state_kind : StateFault → LineKind
state_kind states.OutOfRange = kinds.OutOfRange
state_kind states.NotHomed = kinds.NotHomed
state_kind states.BadSpeed = kinds.BadSpeed
state_kind states.MoveTooLong = kinds.MoveTooLong
state_kind states.TooMany = kinds.TooMany

-- what a line does to a state, or the kind of its refusal
abbrev pub as_kind : Result (State × Action) StateFault → Result (State × Action) LineKind
as_kind (Ok next) = Ok next
as_kind (Err fault) = Err (state_kind fault)

-- a line is read, and applies to the modes that the lines before it left
abbrev pub applied_reading : State → Result Word FaultKind → Result (State × Action) LineKind
applied_reading s (Err kind) = Err (text_kind kind)
applied_reading s (Ok word) = as_kind (applied s word)

-- a line's reading, applied to the state before it
unfoldable pub applied_line : State → List ℕ → Result (State × Action) LineKind
applied_line s line = applied_reading s (reading line)

-- what was read is a command that is passed over
abbrev pub reads_passed : Result Word FaultKind → Bool
reads_passed (Ok words.Passed) = true
reads_passed other = false

-- the line holds a command that is passed over
unfoldable pub is_passed : List ℕ → Bool
is_passed line = reads_passed (reading line)

-- the action ends the reading
abbrev pub is_stop : Action → Bool
is_stop actions.Stop = true
is_stop other = false

-- the line that begins behind so many bytes holds the byte behind the first 2^30, in a text of so many bytes
abbrev pub is_large : ℕ → ℕ → List ℕ → Bool
is_large size start line = nat_lt 1073741824 size && nat_le 1073741824 (start + length line)

-- what a line gives behind a state: the new state and its action, or the kind of its refusal
unfoldable pub line_result : ℕ → ℕ → State → List ℕ → Result (State × Action) LineKind
line_result size start s line = if is_large size start line then Err kinds.TooLarge else applied_line s line

-- what an accepted line does, and what the lines before it left
pub record Deed : Type 0 where
  pub before : State
  pub action : Action

-- what the accepted lines do, one deed for each; how many lines hold a passed command; and how the reading stops
pub record Outcome : Type 0 where
  pub deeds : List Deed
  pub passed : ℕ
  pub stop : ReadStop

-- an outcome with more deeds before it
abbrev pub with_front : List Deed → ℕ → Outcome → Outcome
with_front front passed o = record { deeds = front ++ o.deeds; passed = passed + o.passed; stop = o.stop }

-- what an accepted line does behind this state
abbrev pub deed_of : State → Action → Deed
deed_of s action = record { before = s; action = action }

-- an outcome behind an accepted line: a stop ends it, and anything else goes before the rest
abbrev pub behind_action : ℕ → Bool → State → Action → Outcome → Outcome
behind_action number passed s actions.Stop rest =
    record { deeds = deed_of s actions.Stop ∷ []; passed = one_if passed; stop = Stop number }
behind_action number passed s action rest = with_front (deed_of s action ∷ []) (one_if passed) rest

-- an outcome behind a line, by its reading: a refused one ends it
abbrev pub behind_line : ℕ → Bool → State → Result (State × Action) LineKind → (State → Outcome) → Outcome
behind_line number passed s (Err kind) rest = record { deeds = []; passed = 0; stop = Refused number kind }
behind_line number passed s (Ok next) rest = behind_action number passed s next.1 (rest next.0)

-- The accepted lines are the longest prefix of lines that are read and apply; a stop is the last one.
abbrev pub outcome : ℕ → State → ℕ → ℕ → List (List ℕ) → Outcome
outcome size s number start [] = record { deeds = []; passed = 0; stop = End }
outcome size s number start (line ∷ lines) = behind_line number (is_passed line) s (line_result size start s line)
    (λ t. outcome size t (number + 1) (start + (length line + 1)) lines)

-- The state behind lines that are all accepted.
use Rattle.std.specs.Prelude.{ℕ, ◌+◌, List, [], ◌∷◌, length, Option, Some, None, Result, Ok, Err}
use Rattle.plan_types.specs.declared.cause.LineKind.{LineKind}
use Rattle.gcode_state.specs.declared.state.State.{State}
use Rattle.gcode_state.specs.declared.state.Action.{Action}
use Rattle.gcode_state.specs.declared.state.Action.TheVariants as actions
use Rattle.gcode_program.specs.Readings.{line_result}

-- the state behind a line, unless that stops the reading
abbrev pub state_if : Action → Option State → Option State
state_if actions.Stop behind = None
state_if action behind = behind

-- the state behind lines that are all accepted
abbrev pub state_behind : Result (State × Action) LineKind → (State → Option State) → Option State
state_behind (Err kind) behind = None
state_behind (Ok next) behind = state_if next.1 (behind next.0)

-- the state at the end of a text; none where a line is refused or asks for a stop
abbrev pub final : ℕ → State → ℕ → List (List ℕ) → Option State
final size s start [] = Some s
final size s start (line ∷ lines) =
    state_behind (line_result size start s line) (λ t. final size t (start + (length line + 1)) lines)

-- how many bytes these lines take, each with its LF
abbrev pub lines_length : List (List ℕ) → ℕ
lines_length [] = 0
lines_length (line ∷ lines) = length line + 1 + lines_length lines
